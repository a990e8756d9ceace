-- A walk over a row, item by item and interval by interval.
use Rattle.std.proofs.Common.{◌≡◌, ℕ, ◌+◌, ◌≤◌, List, [], ◌∷◌, ◌++◌, length, take, drop, Option, None, refl, sym, ap, ◌∙◌, subst, arith, append_assoc, append-nil, false}
use Rattle.nx_host.specs.declared.disk.Disk.{Ghosts}
use Rattle.nx_host.specs.Still.{IsStill}
use Rattle.nx_piece.specs.PieceNode.{PieceNode}
use Rattle.nx_records.specs.declared.records.Records.{Records}
use Rattle.nx_records.specs.declared.error.StoreError.{StoreError}
use Rattle.nx_records.specs.Records.{has_ended, KeepsSaved, ComesTo}
use Rattle.nx_records.specs.Refusals.{RunsOn, NotStored}
use Rattle.nx_piece.specs.declared.piece.Item.{Item}
use Rattle.nx_piece.specs.declared.piece.Piece.{Piece}
use Rattle.nx_piece.specs.declared.piece.Proxy.{Proxy}
use Rattle.nx_piece.specs.Gapped as gapped
use Rattle.nx_piece.specs.Gapped.{Gapped, GappedTree, End, Grow, Gap, proxies_in}
use Rattle.nx_piece.specs.Items.{gapped_of, with_last_tree}
use Rattle.nx_piece.specs.Valid.{IsValidPiece}
use Rattle.nx_cuts.specs.Cut.{CutForest, width, part_weight, AreFree, AreParts}
use Rattle.nx_layouts.specs.Layout.{in_record, without_places, laid_weight, AreLaidParts, piece_body, proxies_of, piece_of}
use Rattle.nx_layouts.proofs.DrawnLemmas.{drawn_wide, drawn_free}
use Rattle.nx_layouts.proofs.ValidLemmas.{piece_valid}
use Rattle.nx_hold.specs.Changes.{place_named, AddsPiece}
use Rattle.nx_drafts.specs.Draft.{Draft, Ends, Grows, Stands, Comes, drawn_forest, layout_before, layout_after, unmarked, draft_body, draft_count, draft_needs}
use Rattle.nx_drafts.proofs.PlacesLemmas.{body-layout_after, count-layout_after, drawn_forest-layout_after}
use Rattle.nx_layouts.specs.Layout.{RecordPlace}
use Rattle.nx_divide.specs.Marked.{AreWritten, IsMarkedDraft, AreMarkedMembers, many}
use Rattle.nx_divide.specs.Putting.{ArePut, PutsRow, PutsMembers}
use Rattle.nx_build.specs.Rows.{with_proxy}
use Rattle.nx_divide.proofs.RowLemmas.{joined_draft, joined_draft-assoc, joined_draft-nothing, unmarked-joined, needs-joined, count-joined, body-comes, body-stands, body-grows, proxies-joined, width-layout_after, count-unmarked, needs-unmarked, drawn_forest-unmarked, layout_before-unmarked, proxies-body, count_few}
use Rattle.nx_divide.proofs.WrittenLemmas.{written_after, written_far}
use Rattle.nx_divide.proofs.PutLemmas.{part_fits}
use Rattle.nx_divide.proofs.CallLemmas.{put_none, put_stands, put_both, put_grows, put_comes, put_refused}
use Rattle.nx_divide.proofs.MarkedLemmas.{BeginsGrown, BeginsStanding, BeginsKept, nothing_left}

abbrev Plan : Type 0
Plan = Draft (Unit {0})

-- What a walk over a row has done, and what it has left: these items and proxies, from a position on.
pub record WalksOn {D : Type 0} (d : Ghosts D) (own : Option ℕ) (holder : List ℕ → Option ℕ) (position : ℕ) (items : Gapped) (olds : List Proxy) (drawn : Plan) (old new : Records) (before after : D) (body : Gapped) (had has : List Proxy) : Type 0 where
  pub done : Draft RecordPlace
  pub rest : Plan
  pub whole : joined_draft (unmarked done) rest ≡ drawn
  pub left : IsMarkedDraft own holder position items olds rest
  pub body_is : body ≡ draft_body done
  pub proxies_are : has ≡ had ++ proxies_of (layout_after done)
  pub put : ArePut d old new before after done

pub proxy_is : (proxy : Proxy) (roots : ℕ) → proxy.roots ≡ roots → proxy ≡ record { page = proxy.page; slot = proxy.slot; roots = roots }
proxy_is proxy roots e = ap (λ (n : ℕ). let p : Proxy = record { page = proxy.page; slot = proxy.slot; roots = n } in p) e

module _ {D : Type 0} {d : Ghosts D} where
  pub walk_begins : (own : Option ℕ) (holder : List ℕ → Option ℕ) (position : ℕ) (items : Gapped) (olds : List Proxy) (drawn : Plan) (r : Records) (x : D) (had : List Proxy) → has_ended r ≡ false → IsMarkedDraft own holder position items olds drawn
      → WalksOn d own holder position items olds drawn r r x x End had had
  walk_begins own holder position items olds drawn r x had runs marked = record {
    done = Ends;
    rest = drawn;
    whole = refl;
    left = marked;
    body_is = refl;
    proxies_are = sym (append-nil had);
    put = put_none r x runs;
  }

  module _ {own : Option ℕ} {holder : List ℕ → Option ℕ} {position : ℕ} {items : Gapped} {olds : List Proxy} {drawn : Plan} {r0 r1 : Records} {x0 x1 : D} {body : Gapped} {had has : List Proxy} (w : WalksOn d own holder position items olds drawn r0 r1 x0 x1 body had has) where
    -- one tree more, which stands with the node above
    pub walk_tree : {r2 : Records} {x2 : D} (t : GappedTree) (others : Gapped) (made : GappedTree) (more : List Proxy) → (b : BeginsGrown own holder position t others olds w.rest) → made.node ≡ t.node → PutsRow d r1 r2 x1 x2 b.below made.below has more
        → WalksOn d own holder (position + 1) others (drop (proxies_in t.below) olds) drawn r0 r2 x0 x2 (with_last_tree body made) had more
    walk_tree t others made more b node puts = record {
      done = joined_draft w.done (Grows b.node puts.draft Ends);
      rest = b.beside;
      whole = ap (λ (c : Plan). joined_draft c b.beside) (unmarked-joined w.done (Grows b.node puts.draft Ends))
          ∙ joined_draft-assoc (unmarked w.done) (Grows b.node (unmarked puts.draft) Ends) b.beside
          ∙ ap (λ (c : Plan). joined_draft (unmarked w.done) (Grows b.node c b.beside)) puts.same
          ∙ ap (joined_draft (unmarked w.done)) (sym b.is)
          ∙ w.whole;
      left = b.along;
      body_is = ap (λ (g : Gapped). with_last_tree g made) w.body_is
          ∙ ap (λ (n : PieceNode). with_last_tree (draft_body w.done) (let t : GappedTree = record { node = n; below = made.below } in t)) (node ∙ sym b.shown)
          ∙ ap (λ (g : Gapped). with_last_tree (draft_body w.done) (let u : GappedTree = record { node = in_record b.node; below = g } in u)) puts.body_is
          ∙ sym (body-grows w.done b.node puts.draft);
      proxies_are = puts.proxies_are ∙ ap (λ (l : List Proxy). l ++ proxies_of (layout_after puts.draft)) w.proxies_are ∙ append_assoc had (proxies_of (layout_after w.done)) (proxies_of (layout_after puts.draft))
          ∙ ap (λ (l : List Proxy). had ++ (proxies_of (layout_after w.done) ++ l)) (sym (append-nil (proxies_of (layout_after puts.draft))))
          ∙ ap (λ (l : List Proxy). had ++ l) (sym (proxies-joined w.done (Grows b.node puts.draft Ends)));
      put = put_both w.done (Grows b.node puts.draft Ends) w.put (put_grows b.node puts.draft puts.put);
    }

    -- one interval more, whose record was put
    pub walk_interval : {r2 : Records} {x2 : D} (list : List Item) (proxy : Proxy) → (f : BeginsKept holder position list olds w.rest) → own ≡ None → PutsMembers d r1 r2 x1 x2 f.members proxy
        → WalksOn d own holder (position + width (drawn_forest f.members)) (gapped_of (drop (width (drawn_forest f.members)) list)) (drop (proxies_in (gapped_of (take (width (drawn_forest f.members)) list))) olds) drawn r0 r2 x0 x2 (with_proxy body) had (has ++ proxy ∷ [])
    walk_interval list proxy f none puts = record {
      done = joined_draft w.done (Comes (place_named proxy) puts.draft Ends);
      rest = f.beside;
      whole = ap (λ (c : Plan). joined_draft c f.beside) (unmarked-joined w.done (Comes (place_named proxy) puts.draft Ends))
          ∙ joined_draft-assoc (unmarked w.done) (Comes tt (unmarked puts.draft) Ends) f.beside
          ∙ ap (λ (c : Plan). joined_draft (unmarked w.done) (Comes tt c f.beside)) puts.same
          ∙ ap (joined_draft (unmarked w.done)) (sym f.is)
          ∙ w.whole;
      left = subst (λ (o : Option ℕ). IsMarkedDraft o holder (position + width (drawn_forest f.members)) (gapped_of (drop (width (drawn_forest f.members)) list)) (drop (proxies_in (gapped_of (take (width (drawn_forest f.members)) list))) olds) f.beside) (sym none) f.along;
      body_is = ap with_proxy w.body_is ∙ sym (body-comes w.done (place_named proxy) puts.draft);
      proxies_are = ap (λ (p : Proxy). has ++ p ∷ []) (proxy_is proxy (width (layout_after puts.draft)) (puts.roots ∙ ap (λ (c : Plan). width (drawn_forest c)) (sym puts.same) ∙ ap width (drawn_forest-unmarked puts.draft) ∙ sym (width-layout_after puts.draft)))
          ∙ ap (λ (l : List Proxy). l ++ proxies_of (layout_after (Comes (place_named proxy) puts.draft Ends))) w.proxies_are ∙ append_assoc had (proxies_of (layout_after w.done)) (proxies_of (layout_after (Comes (place_named proxy) puts.draft Ends)))
          ∙ ap (λ (l : List Proxy). had ++ l) (sym (proxies-joined w.done (Comes (place_named proxy) puts.draft Ends)));
      put = put_both w.done (Comes (place_named proxy) puts.draft Ends) w.put puts.put;
    }

    -- one interval more that stands, whose proxy was moved
    pub walk_standing : (others : Gapped) → (f : BeginsStanding own holder position others olds w.rest) → has_ended r1 ≡ false
        → WalksOn d own holder (position + width f.members) others f.left drawn r0 r1 x0 x1 (with_proxy body) had (has ++ f.first ∷ [])
    walk_standing others f runs = record {
      done = joined_draft w.done (Stands f.place f.members Ends);
      rest = f.beside;
      whole = ap (λ (c : Plan). joined_draft c f.beside) (unmarked-joined w.done (Stands f.place f.members Ends))
          ∙ joined_draft-assoc (unmarked w.done) (Stands f.place f.members Ends) f.beside
          ∙ ap (joined_draft (unmarked w.done)) (sym f.is)
          ∙ w.whole;
      left = f.along;
      body_is = ap with_proxy w.body_is ∙ sym (body-stands w.done f.place f.members);
      proxies_are = ap (λ (p : Proxy). has ++ p ∷ []) f.first_is
          ∙ ap (λ (l : List Proxy). l ++ proxies_of (layout_after (Stands f.place f.members Ends))) w.proxies_are ∙ append_assoc had (proxies_of (layout_after w.done)) (proxies_of (layout_after (Stands f.place f.members Ends)))
          ∙ ap (λ (l : List Proxy). had ++ l) (sym (proxies-joined w.done (Stands f.place f.members Ends)));
      put = put_both w.done (Stands f.place f.members Ends) w.put (put_stands f.place f.members r1 x1 runs);
    }

    -- nothing is left
    pub walk_ends : items ≡ End → PutsRow d r0 r1 x0 x1 drawn body had has
    walk_ends none = record {
      draft = w.done;
      same = sym (joined_draft-nothing (unmarked w.done))
          ∙ ap (joined_draft (unmarked w.done)) (sym (nothing_left own holder position olds w.rest (subst (λ (g : Gapped). IsMarkedDraft own holder position g olds w.rest) none w.left)))
          ∙ w.whole;
      body_is = w.body_is;
      proxies_are = w.proxies_are;
      put = w.put;
    }

    needs_left : draft_needs w.done + draft_needs w.rest ≡ draft_needs drawn
    needs_left = sym (ap (λ (n : ℕ). n + draft_needs w.rest) (needs-unmarked w.done)) ∙ sym (needs-joined (unmarked w.done) w.rest) ∙ ap draft_needs w.whole

    -- the walk was refused at a tree, or at an interval
    pub tree_refused : (t : GappedTree) (others : Gapped) (b : BeginsGrown own holder position t others olds w.rest) (r2 : Records) (x2 : D) (e : StoreError) → NotStored d (λ was. draft_needs b.below) (λ was. ⊥) 0 e r1 r2 x1 x2
        → NotStored d (λ was. draft_needs drawn) (λ was. ⊥) 0 e r0 r2 x0 x2
    tree_refused t others b r2 x2 e refused =
        put_refused w.done r2 x2 (draft_needs b.below) (draft_needs drawn) w.put (let all = needs_left in let rest : draft_needs w.rest ≡ draft_needs b.below + draft_needs b.beside = ap draft_needs b.is in omega (arith, all, rest)) e refused

    pub interval_refused : (list : List Item) (f : BeginsKept holder position list olds w.rest) (r2 : Records) (x2 : D) (e : StoreError) → NotStored d (λ was. draft_needs (Comes tt f.members Ends)) (λ was. ⊥) 0 e r1 r2 x1 x2
        → NotStored d (λ was. draft_needs drawn) (λ was. ⊥) 0 e r0 r2 x0 x2
    interval_refused list f r2 x2 e refused =
        put_refused w.done r2 x2 (draft_needs (Comes tt f.members Ends)) (draft_needs drawn) w.put
        (let all = needs_left in let rest : draft_needs w.rest ≡ draft_needs (Comes tt f.members f.beside) = ap draft_needs f.is in
        let parted : draft_needs (Comes tt f.members f.beside) ≡ draft_needs (Comes tt f.members Ends) + draft_needs f.beside = omega arith in omega (arith, all, rest, parted)) e refused

    -- there is room for what is left
    pub room_left : (all : Gapped) (behind : List Proxy) (most : ℕ) → AreParts 256 (drawn_forest drawn) → piece_body (layout_before drawn) ≡ all → many all ≤ most → proxies_in body + draft_count w.rest ≤ most
    room_left all behind most light are few =
        let whole : draft_count w.done + draft_count w.rest ≡ draft_count drawn =
        sym (ap (λ (n : ℕ). n + draft_count w.rest) (count-unmarked w.done)) ∙ sym (count-joined (unmarked w.done) w.rest) ∙ ap draft_count w.whole in
        let b : proxies_in body ≡ draft_count w.done = ap proxies_in w.body_is ∙ proxies-body w.done in
        let f = count_few 256 drawn light in
        let e : many (piece_body (layout_before drawn)) ≡ many all = ap many are in
        omega (arith, whole, b, f, e, few)

-- the members of the next interval, as so many of the items
pub members_at : (holder : List ℕ → Option ℕ) (position count : ℕ) (list : List Item) (olds : List Proxy) (rest : Plan) (f : BeginsKept holder position list olds rest) → count ≡ width (drawn_forest f.members)
    → AreMarkedMembers holder position (gapped_of (take count list)) olds f.members
members_at holder position count list olds rest f e = subst (λ (n : ℕ). AreMarkedMembers holder position (gapped_of (take n list)) olds f.members) (sym e) f.inside

-- the piece that was gathered is that of the members
pub piece_is : (draft : Draft RecordPlace) (roots : Gapped) (proxies : List Proxy) → roots ≡ draft_body draft → proxies ≡ proxies_of (layout_after draft) → record { body = record { roots = roots }; proxies = proxies } ≡ piece_of (layout_after draft)
piece_is draft roots proxies e f =
    ap (λ (g : Gapped). let p : Piece = record { body = record { roots = g }; proxies = proxies } in p) (e ∙ sym (body-layout_after draft))
    ∙ ap (λ (l : List Proxy). let p : Piece = record { body = record { roots = piece_body (layout_after draft) }; proxies = l } in p) f

-- the contents of its nodes stand where those of the items did
pub members_written : (holder : List ℕ → Option ℕ) (position : ℕ) (items : Gapped) (olds : List Proxy) (members : Plan) (draft : Draft RecordPlace) → AreMarkedMembers holder position items olds members → unmarked draft ≡ members → AreWritten (piece_body (layout_after draft))
members_written holder position items olds members draft m same =
    written_after draft
    (subst AreWritten (sym (ap piece_body (sym (layout_before-unmarked draft)) ∙ ap (λ (c : Plan). piece_body (layout_before c)) same ∙ (m.marked).items_are)) (m.marked).written)

-- ... and it may be stored
pub members_valid : (holder : List ℕ → Option ℕ) (position : ℕ) (items : Gapped) (olds : List Proxy) (members : Plan) (draft : Draft RecordPlace) → AreMarkedMembers holder position items olds members → unmarked draft ≡ members → many items ≤ 524288 → IsValidPiece (piece_of (layout_after draft))
members_valid holder position items olds members draft m same few =
    let drawn : without_places (layout_after draft) ≡ drawn_forest members = drawn_forest-layout_after draft ∙ sym (drawn_forest-unmarked draft) ∙ ap drawn_forest same in
    let parts : AreLaidParts 256 (layout_after draft) = subst (AreParts 256) (sym drawn) (m.marked).light in
    let free : AreFree (without_places (layout_after draft)) = subst AreFree (sym drawn) m.free in
    let some : 1 ≤ width (drawn_forest members) = m.some in
    let wide : width (drawn_forest members) ≡ width (layout_after draft) = ap width (sym drawn) ∙ drawn_wide (layout_after draft) in
    let light : laid_weight (layout_after draft) ≤ 256 = subst (λ (c : CutForest). part_weight c ≤ 256) (sym drawn) m.weighs in
    let written = members_written holder position items olds members draft m same in
    let count : length (proxies_of (layout_after draft)) ≡ draft_count members = count-layout_after draft ∙ sym (count-unmarked draft) ∙ ap draft_count same in
    let nodes : many (piece_body (layout_before members)) ≡ many items = ap many (m.marked).items_are in
    let f = count_few 256 members (m.marked).light in
    let valid = piece_valid 256 (layout_after draft) (omega arith) (omega (arith, some, wide)) (drawn_free (layout_after draft) free) (written_far (piece_body (layout_after draft)) written) (part_fits 256 256 (layout_after draft) written light refl) parts
    (omega (arith, count, nodes, f, few)) in
    record { body = valid.0; ranged = valid.1 }

pub free_width : (c : Draft RecordPlace) → AreFree (drawn_forest c) → gapped.gapped_width (draft_body c) ≡ width (drawn_forest c)
free_width Ends free = refl
free_width (Grows n d s) free = omega (arith, free_width s free)
free_width (Stands r i s) free = absurd free
free_width (Comes u i s) free = absurd free

module _ {D : Type 0} {d : Ghosts D} where
  -- the record of some members was put
  pub puts_members : {r0 r1 r2 : Records} {x0 x1 x2 : D} (members : Plan) (draft : Draft RecordPlace) (proxy : Proxy) → unmarked draft ≡ members → AreWritten (piece_body (layout_after draft)) → ArePut d r0 r1 x0 x1 draft → proxy.roots ≡ gapped.gapped_width (draft_body draft) → AreFree (drawn_forest members)
      → RunsOn r1 r2 → KeepsSaved d r1 r2 x1 x2 → IsStill d x1 x2 → ComesTo d r1 r2 x1 x2 (λ was now. AddsPiece (place_named proxy) (piece_of (layout_after draft)) was now) → PutsMembers d r0 r2 x0 x2 members proxy
  puts_members {r0} {r1} {r2} {x0} {x1} {x2} members draft proxy same written put roots free runs keeps still adds = record {
    draft = draft;
    same = same;
    roots = roots ∙ free_width draft (subst AreFree (sym (sym (drawn_forest-unmarked draft) ∙ ap drawn_forest same)) free) ∙ sym (drawing_width draft) ∙ ap (λ (c : Plan). width (drawn_forest c)) same;
    put = put_comes {d = d} {r0 = r0} {r1 = r1} {r2 = r2} {x0 = x0} {x1 = x1} {x2 = x2} (place_named proxy) draft written put runs keeps still adds;
  }
    where
      drawing_width : (c : Draft RecordPlace) → width (drawn_forest (unmarked c)) ≡ width (drawn_forest c)
      drawing_width c = ap width (drawn_forest-unmarked c)
