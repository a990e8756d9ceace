-- A walk over trees beside each other, tree by tree and interval by interval.
use Rattle.std.proofs.Common.{◌≡◌, ℕ, ◌+◌, ◌≤◌, ◌<◌, List, [], ◌∷◌, ◌++◌, length, take, drop, Option, None, refl, sym, ap, ◌∙◌, subst, arith, append_assoc, append-nil, false}
use Rattle.nx_host.specs.declared.disk.Disk.{Ghosts}
use Rattle.nx_host.specs.Still.{IsStill}
use Rattle.nx_tree.specs.Forest.{OrderedTree, Forest, forest_of, nodes}
use Rattle.nx_records.specs.declared.records.Records.{Records}
use Rattle.nx_records.specs.declared.error.StoreError.{StoreError}
use Rattle.nx_records.specs.Records.{has_ended, KeepsSaved, ComesTo}
use Rattle.nx_records.specs.Refusals.{RunsOn, NotStored}
use Rattle.nx_piece.specs.declared.piece.Piece.{Piece}
use Rattle.nx_piece.specs.declared.piece.Proxy.{Proxy}
use Rattle.nx_piece.specs.Gapped as gapped
use Rattle.nx_piece.specs.Gapped.{Gapped, GappedTree, End, Grow, proxies_in}
use Rattle.nx_piece.specs.Items.{with_last_tree}
use Rattle.nx_piece.specs.Valid.{AreNear, AreFar, IsValidPiece}
use Rattle.nx_piece.proofs.SizeLemmas.{size_is_weight}
use Rattle.nx_cuts.specs.Cut.{CutForest, Bare, Grown, Kept, forest, width, part_weight, AreFree, AreParts}
use Rattle.nx_layouts.specs.Layout.{Layout, without_places, laid_weight, AreLaidParts, piece_body, proxies_of, piece_of}
use Rattle.nx_layouts.specs.Replace.{joined_layout}
use Rattle.nx_layouts.proofs.DrawnLemmas.{drawn_wide, drawn_free}
use Rattle.nx_layouts.proofs.LayoutLemmas.{proxies_counted}
use Rattle.nx_layouts.proofs.ReplaceLemmas.{proxies-joined_layout}
use Rattle.nx_layouts.proofs.SizeLemmas.{body_weight}
use Rattle.nx_layouts.proofs.ValidLemmas.{piece_valid}
use Rattle.nx_hold.specs.Pieces.{MayName}
use Rattle.nx_hold.specs.Contents.{content_pages}
use Rattle.nx_hold.specs.Changes.{place_named, piece_needs, AddsPiece, ComesTidyWhere}
use Rattle.nx_build.specs.Marked.{IsMarked, AreMembers}
use Rattle.nx_build.specs.Laying.{proxy_count, laid_needs, drawn_needs, HasPutLayout, LaysTrees, LaysMembers}
use Rattle.nx_build.specs.Rows.{with_proxy}
use Rattle.nx_build.proofs.RowLemmas.{joined_cut, joined_cut-assoc, joined_cut-nothing, without-joined, needs-joined_cut, count-joined_cut, count-without, needs-without, length-proxies, cuts_few, count_cuts, piece_few, body-proxy, body-tree, width-body, near_tree, far_tree, near_proxy, far_proxy}
use Rattle.nx_build.proofs.LayingLemmas.{joined_both}
use Rattle.nx_build.proofs.CallLemmas.{laid_none, laid_both, laid_kept, laid_refused}
use Rattle.nx_build.proofs.MarkedLemmas.{BeginsGrown, BeginsFree, BeginsKept, begins_grown, nothing_left}

-- What a walk over some trees has done, and what it has left: these trees, from a position on.
pub record WalksOn {D : Type 0} (d : Ghosts D) (own : Option ℕ) (holder : List ℕ → Option ℕ) (position : ℕ) (trees : List OrderedTree) (drawn : CutForest) (old new : Records) (before after : D) (body : Gapped) (had has : List Proxy) : Type 0 where
  pub done : Layout
  pub rest : CutForest
  pub whole : joined_cut (without_places done) rest ≡ drawn
  pub left : IsMarked own holder position (forest_of trees) rest
  pub body_is : body ≡ piece_body done
  pub near : AreNear body
  pub far : AreFar body
  pub proxies_are : has ≡ had ++ proxies_of done
  pub laid : HasPutLayout d old new before after done

-- the first of some trees, and those behind it
pub first_left : (own : Option ℕ) (holder : List ℕ → Option ℕ) (position : ℕ) (trees others : List OrderedTree) (rest : CutForest) (t : OrderedTree) → IsMarked own holder position (forest_of trees) rest
    → trees ≡ t ∷ others → BeginsFree rest → BeginsGrown own holder position t (forest_of others) rest
first_left own holder position trees others rest t left next free =
    begins_grown own holder position t (forest_of others) rest free (subst (λ (f : Forest). IsMarked own holder position f rest) (ap forest_of next) left)

proxy_is : (proxy : Proxy) (roots : ℕ) → proxy.roots ≡ roots → proxy ≡ record { page = proxy.page; slot = proxy.slot; roots = roots }
proxy_is proxy roots e = ap (λ (n : ℕ). let p : Proxy = record { page = proxy.page; slot = proxy.slot; roots = n } in p) e

tree_most : (done rest all own below beside : ℕ) → done + rest ≡ all → rest ≡ own + below + beside → done + (own + below) ≤ all
tree_most done rest all own below beside whole first = omega (arith, whole, first)

module _ {D : Type 0} {d : Ghosts D} where
  pub walk_begins : (own : Option ℕ) (holder : List ℕ → Option ℕ) (position : ℕ) (trees : List OrderedTree) (drawn : CutForest) (r : Records) (x : D) (had : List Proxy) → has_ended r ≡ false → IsMarked own holder position (forest_of trees) drawn
      → WalksOn d own holder position trees drawn r r x x End had had
  walk_begins own holder position trees drawn r x had runs marked = record {
    done = Bare;
    rest = drawn;
    whole = refl;
    left = marked;
    body_is = refl;
    near = tt;
    far = tt;
    proxies_are = sym (append-nil had);
    laid = laid_none r x runs;
  }

  module _ {own : Option ℕ} {holder : List ℕ → Option ℕ} {position : ℕ} {trees : List OrderedTree} {drawn : CutForest} {r0 r1 : Records} {x0 x1 : D} {body : Gapped} {had has : List Proxy} (w : WalksOn d own holder position trees drawn r0 r1 x0 x1 body had has) where
    -- one tree more, which stands with the node above
    pub walk_tree : {r2 : Records} {x2 : D} (t : OrderedTree) (others : List OrderedTree) (made : GappedTree) (more : List Proxy) → (b : BeginsGrown own holder position t (forest_of others) w.rest)
        → LaysTrees d r1 r2 x1 x2 (Grown t.node b.below Bare) (Grow made.node made.below End) has more → WalksOn d own holder (position + 1) others drawn r0 r2 x0 x2 (with_last_tree body made) had more
    walk_tree t others made more b lays = record {
      done = joined_layout w.done lays.layout;
      rest = b.beside;
      whole = ap (λ (c : CutForest). joined_cut c b.beside) (without-joined w.done lays.layout)
          ∙ joined_cut-assoc (without_places w.done) (without_places lays.layout) b.beside
          ∙ ap (λ (c : CutForest). joined_cut (without_places w.done) (joined_cut c b.beside)) lays.same
          ∙ ap (joined_cut (without_places w.done)) (sym b.is)
          ∙ w.whole;
      left = b.along;
      body_is = ap (λ (g : Gapped). with_last_tree g made) w.body_is ∙ sym (body-tree w.done lays.layout made lays.body_is);
      near = near_tree body made w.near lays.near;
      far = far_tree body made w.far lays.far;
      proxies_are = lays.proxies_are ∙ ap (λ (l : List Proxy). l ++ proxies_of lays.layout) w.proxies_are ∙ append_assoc had (proxies_of w.done) (proxies_of lays.layout)
          ∙ ap (λ (l : List Proxy). had ++ l) (sym (proxies-joined_layout w.done lays.layout));
      laid = laid_both (joined_both w.done lays.layout) w.laid lays.laid;
    }

    -- one interval more, whose record was put
    pub walk_interval : {r2 : Records} {x2 : D} (proxy : Proxy) → (f : BeginsKept holder position trees w.rest) → own ≡ None → LaysMembers d r1 r2 x1 x2 f.members proxy
        → WalksOn d own holder (position + width f.members) (drop (width f.members) trees) drawn r0 r2 x0 x2 (with_proxy body) had (has ++ proxy ∷ [])
    walk_interval proxy f none lays = record {
      done = joined_layout w.done (Kept (place_named proxy) lays.layout Bare);
      rest = f.beside;
      whole = ap (λ (c : CutForest). joined_cut c f.beside) (without-joined w.done (Kept (place_named proxy) lays.layout Bare))
          ∙ joined_cut-assoc (without_places w.done) (Kept tt (without_places lays.layout) Bare) f.beside
          ∙ ap (λ (c : CutForest). joined_cut (without_places w.done) (Kept tt c f.beside)) lays.same
          ∙ ap (joined_cut (without_places w.done)) (sym f.is)
          ∙ w.whole;
      left = subst (λ (o : Option ℕ). IsMarked o holder (position + width f.members) (forest_of (drop (width f.members) trees)) f.beside) (sym none) f.along;
      body_is = ap with_proxy w.body_is ∙ sym (body-proxy w.done (place_named proxy) lays.layout);
      near = near_proxy body w.near;
      far = far_proxy body w.far;
      proxies_are = ap (λ (p : Proxy). has ++ p ∷ []) (proxy_is proxy (width lays.layout) (lays.roots ∙ ap width (sym lays.same) ∙ drawn_wide lays.layout))
          ∙ ap (λ (l : List Proxy). l ++ proxies_of (Kept (place_named proxy) lays.layout Bare)) w.proxies_are ∙ append_assoc had (proxies_of w.done) (proxies_of (Kept (place_named proxy) lays.layout Bare))
          ∙ ap (λ (l : List Proxy). had ++ l) (sym (proxies-joined_layout w.done (Kept (place_named proxy) lays.layout Bare)));
      laid = laid_both (joined_both w.done (Kept (place_named proxy) lays.layout Bare)) w.laid lays.laid;
    }

    -- no tree is left
    pub walk_ends : trees ≡ [] → LaysTrees d r0 r1 x0 x1 drawn body had has
    walk_ends none = record {
      layout = w.done;
      same = sym (joined_cut-nothing (without_places w.done))
          ∙ ap (joined_cut (without_places w.done)) (sym (nothing_left own holder position w.rest (subst (λ (f : Forest). IsMarked own holder position f w.rest) (ap forest_of none) w.left)))
          ∙ w.whole;
      body_is = w.body_is;
      near = w.near;
      far = w.far;
      proxies_are = w.proxies_are;
      laid = w.laid;
    }

    needs_left : laid_needs w.done + drawn_needs w.rest ≡ drawn_needs drawn
    needs_left = sym (ap (λ (n : ℕ). n + drawn_needs w.rest) (needs-without content_pages w.done)) ∙ sym (needs-joined_cut content_pages (without_places w.done) w.rest) ∙ ap drawn_needs w.whole

    -- the walk was refused at a tree, or at an interval
    pub tree_refused : (t : OrderedTree) (others : List OrderedTree) (b : BeginsGrown own holder position t (forest_of others) w.rest) (r2 : Records) (x2 : D) (e : StoreError)
        → NotStored d (λ was. content_pages t.node + drawn_needs b.below) (λ was. ⊥) 0 e r1 r2 x1 x2 → NotStored d (λ was. drawn_needs drawn) (λ was. ⊥) 0 e r0 r2 x0 x2
    tree_refused t others b r2 x2 e refused =
        laid_refused w.done r2 x2 (content_pages t.node + drawn_needs b.below) (drawn_needs drawn) w.laid
        (tree_most (laid_needs w.done) (drawn_needs w.rest) (drawn_needs drawn) (content_pages t.node) (drawn_needs b.below) (drawn_needs b.beside) needs_left (ap drawn_needs b.is)) e refused

    pub interval_refused : (f : BeginsKept holder position trees w.rest) (r2 : Records) (x2 : D) (e : StoreError) → NotStored d (λ was. 1 + proxy_count f.members + drawn_needs f.members) (λ was. ⊥) 0 e r1 r2 x1 x2
        → NotStored d (λ was. drawn_needs drawn) (λ was. ⊥) 0 e r0 r2 x0 x2
    interval_refused f r2 x2 e refused =
        laid_refused w.done r2 x2 (1 + proxy_count f.members + drawn_needs f.members) (drawn_needs drawn) w.laid
        (let all = needs_left in let rest : drawn_needs w.rest ≡ 1 + proxy_count f.members + drawn_needs f.members + drawn_needs f.beside = ap drawn_needs f.is in omega (arith, all, rest)) e refused

    -- there is room for one proxy more
    pub proxies_few : (f : BeginsKept holder position trees w.rest) (most : ℕ) → AreParts 256 drawn → nodes (forest drawn) ≤ most → proxies_in body < most
    proxies_few f most parts few =
        let all : proxy_count w.done + proxy_count w.rest ≡ proxy_count drawn =
        sym (ap (λ (n : ℕ). n + proxy_count w.rest) (count-without w.done)) ∙ sym (count-joined_cut (without_places w.done) w.rest) ∙ ap proxy_count w.whole in
        let rest : proxy_count w.rest ≡ 1 + proxy_count f.beside = ap proxy_count f.is in
        let body : proxies_in body ≡ proxy_count w.done = ap proxies_in w.body_is ∙ sym (proxies_counted w.done) ∙ length-proxies w.done in
        omega (arith, all, rest, body, count_cuts drawn, cuts_few 256 drawn parts, few)

-- the members of the next interval, as so many of the trees
pub members_at : (holder : List ℕ → Option ℕ) (position count : ℕ) (trees : List OrderedTree) (rest : CutForest) (f : BeginsKept holder position trees rest) → count ≡ width f.members
    → AreMembers holder position (forest_of (take count trees)) f.members
members_at holder position count trees rest f e = subst (λ (n : ℕ). AreMembers holder position (forest_of (take n trees)) f.members) (sym e) f.inside

-- the piece that was gathered is that of the members
pub piece_is : (layout : Layout) (roots : Gapped) (proxies : List Proxy) → roots ≡ piece_body layout → proxies ≡ proxies_of layout → record { body = record { roots = roots }; proxies = proxies } ≡ piece_of layout
piece_is layout roots proxies e f =
    ap (λ (g : Gapped). let p : Piece = record { body = record { roots = g }; proxies = proxies } in p) e
    ∙ ap (λ (l : List Proxy). let p : Piece = record { body = record { roots = piece_body layout }; proxies = l } in p) f

-- ... and may be stored
pub members_valid : (holder : List ℕ → Option ℕ) (position : ℕ) (trees : Forest) (members : CutForest) (layout : Layout) → AreMembers holder position trees members → without_places layout ≡ members → AreNear (piece_body layout) → AreFar (piece_body layout) → nodes trees ≤ 524288
    → IsValidPiece (piece_of layout)
members_valid holder position trees members layout m same near far few =
    let parts : AreLaidParts 256 layout = subst (AreParts 256) (sym same) (m.marked).light in
    let free : AreFree (without_places layout) = subst AreFree (sym same) m.free in
    let some : 1 ≤ width members = m.some in
    let wide : width members ≡ width layout = ap width (sym same) ∙ drawn_wide layout in
    let weighs : part_weight members ≤ 256 = m.weighs in
    let light : part_weight members ≡ laid_weight layout = ap part_weight (sym same) in
    let count : length (proxies_of layout) ≡ proxy_count members = length-proxies layout ∙ sym (count-without layout) ∙ ap proxy_count same in
    let all : nodes (forest members) ≡ nodes trees = ap nodes (m.marked).trees_are in
    let valid = piece_valid 256 layout (omega arith) (omega (arith, some, wide)) (drawn_free layout free) far (omega (arith, weighs, light, size_is_weight (piece_body layout) near far, body_weight layout)) parts
    (omega (arith, count, all, count_cuts members, cuts_few 256 members (m.marked).light, few)) in
    record { body = valid.0; ranged = valid.1 }

module _ {D : Type 0} {d : Ghosts D} where
  -- the record of some members was put
  pub lays_members : {r0 r1 r2 : Records} {x0 x1 x2 : D} (members : CutForest) (layout : Layout) (proxy : Proxy) → without_places layout ≡ members → AreNear (piece_body layout) → AreFar (piece_body layout) → HasPutLayout d r0 r1 x0 x1 layout
      → proxy.roots ≡ gapped.gapped_width (piece_body layout) → AreFree members → RunsOn r1 r2 → KeepsSaved d r1 r2 x1 x2 → IsStill d x1 x2
      → ComesTo d r1 r2 x1 x2 (λ was now. was.free ≤ now.free + piece_needs (piece_of layout))
      → ComesTidyWhere d r1 r2 x1 x2 (λ was. MayName was (piece_body layout)) (λ was now. AddsPiece (place_named proxy) (piece_of layout) was now) → LaysMembers d r0 r2 x0 x2 members proxy
  lays_members {r0} {r1} {r2} {x0} {x1} {x2} members layout proxy same near far laid roots free runs keeps still takes adds = record {
    layout = layout;
    same = same;
    far = far;
    roots = roots ∙ width-body layout (drawn_free layout (subst AreFree (sym same) free)) ∙ sym (drawn_wide layout) ∙ ap width same;
    laid = laid_kept {d = d} {r0 = r0} {r1 = r1} {r2 = r2} {x0 = x0} {x1 = x1} {x2 = x2} (place_named proxy) layout near far laid runs keeps still takes adds;
  }

  -- it was not put
  pub members_refused : {r0 r1 : Records} {x0 x1 : D} (members : CutForest) (layout : Layout) (r2 : Records) (x2 : D) (e : StoreError) → without_places layout ≡ members → HasPutLayout d r0 r1 x0 x1 layout
      → NotStored d (λ was. piece_needs (piece_of layout)) (λ was. ⊥) 0 e r1 r2 x1 x2 → NotStored d (λ was. 1 + proxy_count members + drawn_needs members) (λ was. ⊥) 0 e r0 r2 x0 x2
  members_refused {r0} {r1} {x0} {x1} members layout r2 x2 e same laid refused =
      let count : proxy_count layout ≡ proxy_count members = sym (count-without layout) ∙ ap proxy_count same in
      let needs : laid_needs layout ≡ drawn_needs members = sym (needs-without content_pages layout) ∙ ap drawn_needs same in
      laid_refused {d = d} {r0 = r0} {r1 = r1} {x0 = x0} {x1 = x1} layout r2 x2 (piece_needs (piece_of layout)) (1 + proxy_count members + drawn_needs members) laid
      (omega (arith, piece_few (piece_of layout), length-proxies layout, count, needs)) e refused
