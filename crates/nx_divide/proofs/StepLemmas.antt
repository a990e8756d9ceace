-- The steps of the walk, in the words of its calls.
use Rattle.std.proofs.Common.{◌≡◌, ℕ, ◌+◌, ◌-◌, ◌≤◌, ◌<◌, List, [], ◌∷◌, ◌++◌, length, take, drop, Option, None, Some, refl, sym, ap, ◌∙◌, subst, arith}
use Rattle.std.specs.Prelude.{Result, Ok, Err, IfOk, IfErr}
use Rattle.nx_host.specs.declared.disk.Disk.{Ghosts}
use Rattle.nx_host.specs.Still.{IsStill}
use Rattle.nx_parts.specs.declared.marks.Mark.{Mark}
use Rattle.nx_parts.specs.Marks.{marked_in, holder_by_marks}
use Rattle.nx_records.specs.declared.records.Records.{Records}
use Rattle.nx_records.specs.declared.error.StoreError.{StoreError}
use Rattle.nx_records.specs.declared.error.StoreError.TheVariants as error
use Rattle.nx_records.specs.Records.{HasChanges, KeepsSaved, ComesTo}
use Rattle.nx_records.specs.Refusals.{RunsOn, NotStored}
use Rattle.nx_piece.specs.declared.piece.Item.{Item}
use Rattle.nx_piece.specs.declared.piece.Item.TheVariants.{Tree, Run}
use Rattle.nx_piece.specs.declared.piece.Piece.{Piece}
use Rattle.nx_piece.specs.declared.piece.Proxy.{Proxy}
use Rattle.nx_piece.specs.Gapped as gapped
use Rattle.nx_piece.specs.Gapped.{Gapped, GappedTree, End, Grow, proxies_in}
use Rattle.nx_piece.specs.Items.{gapped_of, with_last, with_last_tree}
use Rattle.nx_piece.specs.Valid.{AreNear, IsValidPiece}
use Rattle.nx_piece.proofs.GappedLemmas.{gapped_of-push}
use Rattle.nx_cuts.specs.Cut.{width, AreFree}
use Rattle.nx_layouts.specs.Layout.{RecordPlace, piece_body, piece_of}
use Rattle.nx_hold.specs.Changes.{place_named, piece_needs, AddsPiece}
use Rattle.nx_drafts.specs.Draft.{Draft, Ends, Grows, Stands, Comes, drawn_forest, layout_before, layout_after, unmarked, draft_count, draft_needs}
use Rattle.nx_drafts.proofs.PlacesLemmas.{body-layout_after}
use Rattle.nx_divide.specs.Marked.{IsMarkedDraft, AreMarkedMembers, HasMarkedDraft, HasMarkedMembers, many}
use Rattle.nx_divide.specs.Putting.{PutsRow, GathersPiece, PutsMembers}
use Rattle.nx_build.specs.Rows.{with_proxy}
use Rattle.nx_divide.proofs.RowLemmas.{joined_draft, needs-unmarked}
use Rattle.nx_divide.proofs.WrittenLemmas.{written_near}
use Rattle.nx_divide.proofs.PutLemmas.{needs_comes}
use Rattle.nx_divide.proofs.CallLemmas.{put_refused}
use Rattle.nx_divide.proofs.LeftLemmas.{some_left, take_next}
use Rattle.nx_divide.proofs.MarkedLemmas.{BeginsGrown, BeginsKept, marked_same, free_begins, none_begins, begins_grown, begins_kept, members_end_is}
use Rattle.nx_divide.proofs.WalkLemmas.{WalksOn, walk_tree, walk_interval, walk_ends, room_left, tree_refused, interval_refused, members_at, piece_is, members_written, members_valid, puts_members}

abbrev Plan : Type 0
Plan = Draft (Unit {0})

-- the marks below a tree
abbrev pub AreBelow : List Mark → List Mark → ℕ → Type 0
AreBelow below marks position = (next : ℕ) (path : List ℕ) → marked_in below next path ≡ marked_in marks position (next ∷ path)

pub below_marked : (own : Option ℕ) (marks below : List Mark) (position : ℕ) (t : GappedTree) (others : Gapped) (olds : List Proxy) (rest : Plan) (b : BeginsGrown own (holder_by_marks marks) position t others olds rest) → AreBelow below marks position
    → IsMarkedDraft None (holder_by_marks below) 0 t.below olds b.below
below_marked own marks below position t others olds rest b are =
    marked_same None (λ path. holder_by_marks marks (position ∷ path)) (holder_by_marks below) 0 t.below olds olds b.below (λ next path. sym (are next path)) refl b.inside

free_rest : (a b : Plan) → AreFree (drawn_forest (joined_draft a b)) → AreFree (drawn_forest b)
free_rest Ends b free = free
free_rest (Grows n d s) b free = free_rest s b free
free_rest (Stands r i s) b free = absurd free
free_rest (Comes u i s) b free = absurd free

last_tree : (g : Gapped) (t : GappedTree) → with_last g (Tree t) ≡ with_last_tree g t
last_tree End t = refl
last_tree (Grow node below beside) t = ap (Grow node below) (last_tree beside t)
last_tree (gapped.Gap count beside) t = ap (gapped.Gap count) (last_tree beside t)

-- the piece that was gathered
abbrev pub gathered : Gapped → List Proxy → Piece
gathered roots proxies = record { body = record { roots = roots }; proxies = proxies }

-- the tree is an item
pub tree_pushed : {D : Type 0} {d : Ghosts D} {own : Option ℕ} {holder : List ℕ → Option ℕ} {p : ℕ} {left : Gapped} {olds : List Proxy} {drawn : Plan} {r0 r1 : Records} {x0 x1 : D} {had has : List Proxy} (items new : List Item) (made : GappedTree)
    → WalksOn d own holder p left olds drawn r0 r1 x0 x1 (with_last_tree (gapped_of items) made) had has → new ≡ items ++ Tree made ∷ [] → WalksOn d own holder p left olds drawn r0 r1 x0 x1 (gapped_of new) had has
tree_pushed {d = d} {own = own} {holder = holder} {p = p} {left = left} {olds = olds} {drawn = drawn} {r0 = r0} {r1 = r1} {x0 = x0} {x1 = x1} {had = had} {has = has} items new made w is =
    subst (λ (g : Gapped). WalksOn d own holder p left olds drawn r0 r1 x0 x1 g had has) (sym (ap gapped_of is ∙ gapped_of-push items (Tree made) ∙ last_tree (gapped_of items) made)) w

-- more pages would have been needed
pub needs_fewer : {D : Type 0} (d : Ghosts D) (r0 r1 : Records) (x0 x1 : D) (more most : ℕ) → more ≤ most → (e : StoreError) → NotStored d (λ was. more) (λ was. ⊥) 0 e r0 r1 x0 x1 → NotStored d (λ was. most) (λ was. ⊥) 0 e r0 r1 x0 x1
needs_fewer d r0 r1 x0 x1 more most le error.Disk refused = refused
needs_fewer d r0 r1 x0 x1 more most le error.Full refused = record {
  runs = refused.runs;
  none_free = refused.none_free;
  few = λ saved now stands. let few : now.free < more = refused.few saved now stands in omega (arith, few, le);
  keeps = refused.keeps;
}
needs_fewer d r0 r1 x0 x1 more most le (error.Damaged page) refused = refused
needs_fewer d r0 r1 x0 x1 more most le error.Ended refused = refused
needs_fewer d r0 r1 x0 x1 more most le error.Memory refused = refused
needs_fewer d r0 r1 x0 x1 more most le error.Exists refused = absurd refused
needs_fewer d r0 r1 x0 x1 more most le error.NotAStore refused = absurd refused

module _ {D : Type 0} {d : Ghosts D} (marks : List Mark) {position : ℕ} {olds : List Proxy} {drawn : Plan} {r0 r1 : Records} {x0 x1 : D} {had has : List Proxy} where
  -- the items below a node, where a tree is next that is in no interval that comes
  module _ {body left : Gapped} (w : WalksOn d None (holder_by_marks marks) position left olds drawn r0 r1 x0 x1 body had has)
      (t : GappedTree) (others : Gapped) (below : List Mark) (next : left ≡ Grow t.node t.below others) (none : marked_in marks position [] ≡ None) (are : AreBelow below marks position) where
    next_tree : BeginsGrown None (holder_by_marks marks) position t others olds w.rest
    next_tree = begins_grown None (holder_by_marks marks) position t others olds w.rest (none_begins (holder_by_marks marks) position w.rest (w.left).light (w.left).agrees none)
        (subst (λ (g : Gapped). IsMarkedDraft None (holder_by_marks marks) position g olds w.rest) next w.left)

    tree_marked : IsMarkedDraft None (holder_by_marks below) 0 t.below olds next_tree.below
    tree_marked = below_marked None marks below position t others olds w.rest next_tree are

    pub tree_can : HasMarkedDraft (holder_by_marks below) 0 t.below olds
    tree_can = (next_tree.below, tree_marked)

    pub tree_not : (r2 : Records) (x2 : D) (e : StoreError) → ((c : Plan) → IsMarkedDraft None (holder_by_marks below) 0 t.below olds c → NotStored d (λ was. draft_needs c) (λ was. ⊥) 0 e r1 r2 x1 x2)
        → NotStored d (λ was. draft_needs drawn) (λ was. ⊥) 0 e r0 r2 x0 x2
    tree_not r2 x2 e refused = tree_refused w t others next_tree r2 x2 e (refused next_tree.below tree_marked)

    module _ {r2 : Records} {x2 : D} (made : GappedTree) (more : List Proxy) (node : made.node ≡ t.node) (puts : (c : Plan) → IsMarkedDraft None (holder_by_marks below) 0 t.below olds c → PutsRow d r1 r2 x1 x2 c made.below has more) where
      pub tree_put : WalksOn d None (holder_by_marks marks) (position + 1) others (drop (proxies_in t.below) olds) drawn r0 r2 x0 x2 (with_last_tree body made) had more
      tree_put = walk_tree w t others made more next_tree node (puts next_tree.below tree_marked)

      pub tree_memory : RunsOn r0 r2 × KeepsSaved d r0 r2 x0 x2
      tree_memory = ((tree_put.put).runs, (tree_put.put).keeps)

  -- ... where an interval that comes is next
  module _ {body : Gapped} (items : List Item) (w : WalksOn d None (holder_by_marks marks) position (gapped_of items) olds drawn r0 r1 x0 x1 body had has)
      (holder end len : ℕ) (whole : len ≡ position + length items) (low : position < len) (held : marked_in marks position [] ≡ Some holder) (some : position < end) (within : end ≤ len)
      (run : (j : ℕ) → position < j → j < end → marked_in marks j [] ≡ Some holder) (ends : end < len → marked_in marks end [] ≡ Some holder → ⊥) where
    next_interval : BeginsKept (holder_by_marks marks) position items olds w.rest
    next_interval = begins_kept (holder_by_marks marks) position holder items olds w.rest w.left (omega (arith, low, whole)) held

    end_is : end ≡ position + width (drawn_forest next_interval.members)
    end_is =
        members_end_is (holder_by_marks marks) position holder end items olds w.rest next_interval held some (omega (arith, within, whole)) run (λ before. ends (omega (arith, before, whole)))

    count_is : end - position ≡ width (drawn_forest next_interval.members)
    count_is = omega (arith, end_is)

    interval_members : AreMarkedMembers (holder_by_marks marks) position (gapped_of (take (end - position) items)) olds next_interval.members
    interval_members = members_at (holder_by_marks marks) position (end - position) items olds w.rest next_interval count_is

    pub interval_can : HasMarkedMembers (holder_by_marks marks) position (gapped_of (take (end - position) items)) olds
    interval_can = (next_interval.members, interval_members)

    pub interval_not : (r2 : Records) (x2 : D) (e : StoreError)
        → ((c : Plan) → AreMarkedMembers (holder_by_marks marks) position (gapped_of (take (end - position) items)) olds c → NotStored d (λ was. draft_needs (Comes tt c Ends)) (λ was. ⊥) 0 e r1 r2 x1 x2)
        → NotStored d (λ was. draft_needs drawn) (λ was. ⊥) 0 e r0 r2 x0 x2
    interval_not r2 x2 e refused = interval_refused w items next_interval r2 x2 e (refused next_interval.members interval_members)

    pub interval_room : (all : Gapped) (whole : List Proxy) → IsMarkedDraft None (holder_by_marks marks) 0 all whole drawn → many all ≤ 524288 → proxies_in body < 524288
    interval_room all whole m few =
        let r = room_left w all whole 524288 m.light m.items_are few in
        let e : draft_count w.rest ≡ 1 + draft_count next_interval.beside = ap draft_count next_interval.is in
        omega (arith, r, e)

    module _ {r2 : Records} {x2 : D} (proxy : Proxy) (puts : (c : Plan) → AreMarkedMembers (holder_by_marks marks) position (gapped_of (take (end - position) items)) olds c → PutsMembers d r1 r2 x1 x2 c proxy) where
      interval_put : WalksOn d None (holder_by_marks marks) end (gapped_of (drop (end - position) items)) (drop (proxies_in (gapped_of (take (end - position) items))) olds) drawn r0 r2 x0 x2 (with_proxy body) had (has ++ proxy ∷ [])
      interval_put =
          subst (λ (n : ℕ). WalksOn d None (holder_by_marks marks) n (gapped_of (drop (end - position) items)) (drop (proxies_in (gapped_of (take (end - position) items))) olds) drawn r0 r2 x0 x2 (with_proxy body) had (has ++ proxy ∷ [])) (sym end_is)
          (subst (λ (n : ℕ). WalksOn d None (holder_by_marks marks) (position + width (drawn_forest next_interval.members)) (gapped_of (drop n items)) (drop (proxies_in (gapped_of (take n items))) olds) drawn r0 r2 x0 x2 (with_proxy body) had (has ++ proxy ∷ [])) (sym count_is)
          (walk_interval w items proxy next_interval refl (puts next_interval.members interval_members)))

      pub interval_memory : RunsOn r0 r2 × KeepsSaved d r0 r2 x0 x2
      interval_memory = ((interval_put.put).runs, (interval_put.put).keeps)

      pub interval_added : (others : List Item) (left : List Proxy) (new : List Item) (more : List Proxy) → others ≡ drop (end - position) items → left ≡ drop (proxies_in (gapped_of (take (end - position) items))) olds → gapped_of new ≡ with_proxy body → more ≡ has ++ proxy ∷ []
          → WalksOn d None (holder_by_marks marks) end (gapped_of others) left drawn r0 r2 x0 x2 (gapped_of new) had more
      interval_added others left new more others_are left_are items_are proxies_are =
          subst (λ (l : List Item). WalksOn d None (holder_by_marks marks) end (gapped_of l) left drawn r0 r2 x0 x2 (gapped_of new) had more) (sym others_are)
          (subst (λ (l : List Proxy). WalksOn d None (holder_by_marks marks) end (gapped_of (drop (end - position) items)) l drawn r0 r2 x0 x2 (gapped_of new) had more) (sym left_are)
          (subst (λ (g : Gapped). WalksOn d None (holder_by_marks marks) end (gapped_of (drop (end - position) items)) (drop (proxies_in (gapped_of (take (end - position) items))) olds) drawn r0 r2 x0 x2 g had more) (sym items_are)
          (subst (λ (l : List Proxy). WalksOn d None (holder_by_marks marks) end (gapped_of (drop (end - position) items)) (drop (proxies_in (gapped_of (take (end - position) items))) olds) drawn r0 r2 x0 x2 (with_proxy body) had l) (sym proxies_are) interval_put)))

-- the members of an interval that comes
module _ {D : Type 0} {d : Ghosts D} (marks : List Mark) {index position : ℕ} {left : Gapped} {olds : List Proxy} {members : Plan} {r0 r1 : Records} {x0 x1 : D} {roots : Gapped} {has : List Proxy} where
  -- where one of them is next
  module _ (w : WalksOn d (Some index) (holder_by_marks marks) position left olds members r0 r1 x0 x1 roots [] has)
      (free : AreFree (drawn_forest members)) (t : GappedTree) (others : Gapped) (below : List Mark) (next : left ≡ Grow t.node t.below others) (are : AreBelow below marks position) where
    next_member : BeginsGrown (Some index) (holder_by_marks marks) position t others olds w.rest
    next_member =
        begins_grown (Some index) (holder_by_marks marks) position t others olds w.rest (free_begins w.rest (free_rest (unmarked w.done) w.rest (subst (λ (c : Plan). AreFree (drawn_forest c)) (sym w.whole) free)))
        (subst (λ (g : Gapped). IsMarkedDraft (Some index) (holder_by_marks marks) position g olds w.rest) next w.left)

    member_marked : IsMarkedDraft None (holder_by_marks below) 0 t.below olds next_member.below
    member_marked = below_marked (Some index) marks below position t others olds w.rest next_member are

    pub member_can : HasMarkedDraft (holder_by_marks below) 0 t.below olds
    member_can = (next_member.below, member_marked)

    pub member_not : (r2 : Records) (x2 : D) (e : StoreError) → ((c : Plan) → IsMarkedDraft None (holder_by_marks below) 0 t.below olds c → NotStored d (λ was. draft_needs c) (λ was. ⊥) 0 e r1 r2 x1 x2)
        → NotStored d (λ was. draft_needs members) (λ was. ⊥) 0 e r0 r2 x0 x2
    member_not r2 x2 e refused = tree_refused w t others next_member r2 x2 e (refused next_member.below member_marked)

    module _ {r2 : Records} {x2 : D} (made : GappedTree) (more : List Proxy) (node : made.node ≡ t.node) (puts : (c : Plan) → IsMarkedDraft None (holder_by_marks below) 0 t.below olds c → PutsRow d r1 r2 x1 x2 c made.below has more) where
      pub member_put : WalksOn d (Some index) (holder_by_marks marks) (position + 1) others (drop (proxies_in t.below) olds) members r0 r2 x0 x2 (with_last_tree roots made) [] more
      member_put = walk_tree w t others made more next_member node (puts next_member.below member_marked)

      pub member_memory : RunsOn r0 r2 × KeepsSaved d r0 r2 x0 x2
      member_memory = ((member_put.put).runs, (member_put.put).keeps)

  -- where none is left
  module _ (w : WalksOn d (Some index) (holder_by_marks marks) position left olds members r0 r1 x0 x1 roots [] has) (none : left ≡ End) where
    pub piece_gathered : GathersPiece d r0 r1 x0 x1 members (gathered roots has)
    piece_gathered =
        let all = walk_ends w none in
        record { draft = all.draft; same = all.same; piece_is = piece_is all.draft roots has all.body_is all.proxies_are; put = all.put }

    pub piece_can : (first : ℕ) (all : Gapped) (whole : List Proxy) → AreMarkedMembers (holder_by_marks marks) first all whole members → many all ≤ 524288 → IsValidPiece (gathered roots has)
    piece_can first all whole m few =
        let g = piece_gathered in
        subst IsValidPiece (sym g.piece_is) (members_valid (holder_by_marks marks) first all whole members g.draft m g.same few)

    pub piece_near : (first : ℕ) (all : Gapped) (whole : List Proxy) → AreMarkedMembers (holder_by_marks marks) first all whole members → AreNear roots
    piece_near first all whole m =
        let g = piece_gathered in
        let same : roots ≡ piece_body (layout_after g.draft) = ap (λ (p : Piece). p.body.roots) g.piece_is in
        subst AreNear (sym same) (written_near (piece_body (layout_after g.draft)) (members_written (holder_by_marks marks) first all whole members g.draft m g.same))

-- what the records of a gathered piece and of all below it need
pub gathered_needs : {D : Type 0} {d : Ghosts D} {r0 r1 : Records} {x0 x1 : D} {members : Plan} {piece : Piece} (g : GathersPiece d r0 r1 x0 x1 members piece) → draft_needs (Comes tt members Ends) ≡ draft_needs g.draft + piece_needs piece
gathered_needs {members = members} {piece = piece} g =
    let place : RecordPlace = record { page = 0; slot = 0 } in
    let all : draft_needs (Comes place g.draft Ends) ≡ draft_needs (Comes tt members Ends) = sym (needs-unmarked (Comes place g.draft Ends)) ∙ ap (λ (c : Plan). draft_needs (Comes tt c Ends)) g.same in
    let own : piece_needs piece ≡ piece_needs (piece_of (layout_after g.draft)) = ap piece_needs g.piece_is in
    let e = needs_comes place g.draft in
    omega (arith, all, own, e)

-- the next of some members is a tree
pub first_is_tree : (own : Option ℕ) (h : List ℕ → Option ℕ) (position : ℕ) (items left others : List Item) (x : Item) (olds : List Proxy) (rest : Plan) → AreFree (drawn_forest rest) → IsMarkedDraft own h position (gapped_of items) olds rest → items ≡ x ∷ others
    → (t : GappedTree) × (x ≡ Tree t)
first_is_tree own h position items left others (Tree t) olds rest free m e = (t, refl)
first_is_tree own h position items left others (Run count) olds rest free m e = absurd (no_gap rest free (m.items_are ∙ ap gapped_of e))
  where
    no_gap : (c : Plan) → AreFree (drawn_forest c) → piece_body (layout_before c) ≡ gapped.Gap count (gapped_of others) → ⊥
    no_gap Ends free e = cc
    no_gap (Grows n b s) free e = cc
    no_gap (Stands r i s) free e = free
    no_gap (Comes u i s) free e = free

module _ {D : Type 0} {d : Ghosts D} (marks : List Mark) {index position : ℕ} {olds : List Proxy} {members : Plan} {r0 r1 : Records} {x0 x1 : D} {roots : Gapped} {has : List Proxy} where
  pub next_is_tree : (end : ℕ) (left : List Item) (w : WalksOn d (Some index) (holder_by_marks marks) position (gapped_of (take (end - position) left)) olds members r0 r1 x0 x1 roots [] has) → AreFree (drawn_forest members) → position < end → 1 ≤ length left
      → (t : GappedTree) × (others : List Item) × (left ≡ Tree t ∷ others)
  next_is_tree end left w free low some =
      let first = some_left left some in
      let t = first_is_tree (Some index) (holder_by_marks marks) position (take (end - position) left) left (take (end - (position + 1)) first.1) first.0 olds w.rest
      (free_rest (unmarked w.done) w.rest (subst (λ (c : Plan). AreFree (drawn_forest c)) (sym w.whole) free)) w.left (take_next left first.1 first.0 position end low first.2) in
      (t.0, first.1, first.2 ∙ ap (λ (x : Item). x ∷ first.1) t.1)

-- what the call answers that gathers the piece of an interval
pub all_gathered : {D : Type 0} (d : Ghosts D) (marks : List Mark) (all left : Gapped) (whole olds : List Proxy) (first position : ℕ) (roots : Gapped) (has : List Proxy) (r0 r1 : Records) (x0 x1 : D)
    → ((members : Plan) (m : AreMarkedMembers (holder_by_marks marks) first all whole members) → WalksOn d (Some m.index) (holder_by_marks marks) position left olds members r0 r1 x0 x1 roots [] has) → left ≡ End
    → (members : Plan) → AreMarkedMembers (holder_by_marks marks) first all whole members → GathersPiece d r0 r1 x0 x1 members (gathered roots has)
all_gathered d marks all left whole olds first position roots has r0 r1 x0 x1 walks none members m = piece_gathered {d = d} marks (walks members m) none

-- the call that puts the record of an interval, once its piece was gathered
module _ {D : Type 0} (d : Ghosts D) (marks : List Mark) (all : Gapped) (whole : List Proxy) (first : ℕ) (piece : Piece) (r0 r1 r2 : Records) (x0 x1 x2 : D)
    (gathers : (members : Plan) → AreMarkedMembers (holder_by_marks marks) first all whole members → GathersPiece d r0 r1 x0 x1 members piece) where
  pub put_done : (r : Result Proxy StoreError) → IfOk r (λ proxy. proxy.roots ≡ gapped.gapped_width piece.body.roots) → IfOk r (λ proxy. ComesTo d r1 r2 x1 x2 (λ was now. AddsPiece (place_named proxy) piece was now))
      → IfOk r (λ proxy. RunsOn r1 r2 × KeepsSaved d r1 r2 x1 x2 × (HasChanges r2)) → IsStill d x1 x2
      → IfOk r (λ proxy. (members : Plan) → AreMarkedMembers (holder_by_marks marks) first all whole members → PutsMembers d r0 r2 x0 x2 members proxy)
  put_done (Ok proxy) width adds keeps still = λ members m.
      let g = gathers members m in
      puts_members {d = d} {r0 = r0} {r1 = r1} {r2 = r2} {x0 = x0} {x1 = x1} {x2 = x2} members g.draft proxy g.same (members_written (holder_by_marks marks) first all whole members g.draft m g.same) g.put
      (width ∙ ap (λ (p : Piece). gapped.gapped_width p.body.roots) g.piece_is ∙ ap gapped.gapped_width (body-layout_after g.draft)) m.free keeps.0 keeps.1 still
      (subst (λ (p : Piece). ComesTo d r1 r2 x1 x2 (λ was now. AddsPiece (place_named proxy) p was now)) g.piece_is adds)
  put_done (Err e) width adds keeps still = tt

  pub put_not : (r : Result Proxy StoreError) → IfErr r (λ e. NotStored d (λ was. piece_needs piece) (λ was. ⊥) 0 e r1 r2 x1 x2)
      → IfErr r (λ e. (members : Plan) → AreMarkedMembers (holder_by_marks marks) first all whole members → NotStored d (λ was. draft_needs (Comes tt members Ends)) (λ was. ⊥) 0 e r0 r2 x0 x2)
  put_not (Ok proxy) refused = tt
  put_not (Err e) refused = λ members m.
      let g = gathers members m in
      put_refused {d = d} {r0 = r0} {r1 = r1} {x0 = x0} {x1 = x1} g.draft r2 x2 (piece_needs piece) (draft_needs (Comes tt members Ends)) g.put (let e1 = gathered_needs g in omega (arith, e1)) e refused
