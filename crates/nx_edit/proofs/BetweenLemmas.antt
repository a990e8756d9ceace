-- Something put between the children of a node of a record's own: the document's change, how heavy nodes are, and the proxies in front.
use Rattle.std.proofs.Common.{◌≡◌, ℕ, zero, suc, ◌+◌, ◌-◌, ◌≤◌, nat_lt, if◌then◌else◌, List, [], ◌∷◌, ◌++◌, length, take, drop, inl, inr, refl, sym, ap, ap₂, ◌∙◌, subst, arith}
use Rattle.std.specs.Prelude.{◌≢◌}
use Rattle.std.proofs.lemmas.Bool.{cases_lt}
use Rattle.nx_tree.specs.declared.node.Node.{Node}
use Rattle.nx_piece.specs.declared.piece.Proxy.{Proxy}
use Rattle.nx_piece.specs.Gapped.{Gapped, End, Grow, Gap}
use Rattle.nx_piece.specs.Locate.{roots_of}
use Rattle.nx_piece_edits.specs.Planting.{passed, passed_at}
use Rattle.nx_piece_edits.proofs.LeftLemmas.{less_is, not_less}
use Rattle.nx_matrix.specs.declared.rule.Entry.{Entry}
use Rattle.nx_matrix.specs.declared.rule.Entry.TheVariants.{Standalone, Cluster, Free}
use Rattle.nx_matrix.specs.declared.rule.Rule.{Rule}
use Rattle.nx_cuts.specs.Cut.{CutForest, CutTree, Bare, Grown, Kept, width}
use Rattle.nx_cuts.specs.Rows.{changed_row}
use Rattle.nx_split.specs.Piece.{asked}
use Rattle.nx_layouts.specs.Layout.{LaidNode, Layout, AreLaidParts, gap_more, piece_body, proxies_of, proxy_of, without_places}
use Rattle.nx_layouts.specs.Cutting.{layout_at, StaysIn}
use Rattle.nx_layouts.specs.Planting.{FallsBetween, put_between, proxies_before, changed_below}
use Rattle.nx_layouts.proofs.LayoutLemmas.{proxies_counted}
use Rattle.nx_layouts.proofs.PlantLemmas.{passed_one, BeginsWithRoots, body_begins}
use Rattle.nx_layouts.proofs.WithoutLemmas.{roots_more, take_more, drop_more, minus_both, drop_below}
use Rattle.nx_drawn.specs.Edits.{inserted, placed_among, placed_beside, planted_row}
use Rattle.nx_drawn.specs.Growth.{PartIsAtMost}
use Rattle.nx_layouts.proofs.DrawnLemmas.{drawn_wide}
use Rattle.nx_edit.proofs.ChangedLemmas.{GoesOnBelow, row_below, bare_behind, interval_changed, child_below}
use Rattle.nx_edit.proofs.CutLemmas.{member_there}

-- The document's change:

-- a node that isn't to be an interval alone joins its parent's part
pub joins_beside : (entry : Entry) (node : Node) (row : CutForest) → entry ≢ Standalone → Grown node Bare row ≡ placed_beside tt entry node row
joins_beside Standalone node row not = absurd (not refl)
joins_beside Cluster node row not = refl
joins_beside Free node row not = refl

-- where a position falls between trees of a row, the new node stands outside of intervals
pub planted_between : (entry : Entry) (node : Node) (put : Layout → Layout) → ((row : Layout) → without_places (put row) ≡ placed_beside tt entry node (without_places row)) → (position : ℕ) (row : Layout) → FallsBetween position row
    → without_places (put_between put position row) ≡ planted_row tt tt entry node position (without_places row)
planted_between entry node put same zero row f = same row
planted_between entry node put same (suc position) Bare f = absurd f
planted_between entry node put same (suc position) (Grown n b s) f = ap (λ (c : CutForest). Grown n.node (without_places b) c) (planted_between entry node put same position s f)
planted_between entry node put same (suc position) (Kept p m s) f =
    let bare : CutForest = without_places m in
    let rest : CutForest = without_places s in
    ap (λ (c : CutForest). Kept tt bare c) (planted_between entry node put same (suc position - width m) s f.1)
    ∙ ap (λ (w : ℕ). Kept tt bare (planted_row tt tt entry node (suc position - w) rest)) (sym (drawn_wide m))
    ∙ sym (not_less (suc position) (width bare) (placed_among tt tt tt entry node (suc position) bare rest) (Kept tt bare (planted_row tt tt entry node (suc position - width bare) rest))
    (subst (λ (w : ℕ). w ≤ suc position) (sym (drawn_wide m)) f.0))

same_tree : (n m : LaidNode) (b c : Layout) → Grown n b Bare ≡ Grown m c Bare → (n ≡ m) × (b ≡ c)
same_tree n m b c e = (cc, cc)

-- A row in which the children of a tree are changed is the document's, where it is so there.
module _ (change : List ℕ → CutTree → CutTree) (below : GoesOnBelow change) (put : Layout → Layout) (node : LaidNode) (children : Layout) (end : change [] (record { node = node.node; below = without_places children }) ≡ record { node = node.node; below = without_places (put children) }) where
  pub row_is_changed : (position : ℕ) (path : List ℕ) (row : Layout) → StaysIn position path row → layout_at position path row ≡ Grown node children Bare → without_places (changed_below put position path row) ≡ changed_row position (change path) (without_places row)
  row_is_changed position path Bare h at = absurd h
  row_is_changed zero [] (Grown n b s) h at =
      let same = same_tree n node b children at in
      let here : change [] (record { node = n.node; below = without_places b }) ≡ record { node = n.node; below = without_places (put b) } =
      subst (λ (x : LaidNode). change [] (record { node = x.node; below = without_places b }) ≡ record { node = x.node; below = without_places (put b) }) (sym same.0)
      (subst (λ (x : Layout). change [] (record { node = node.node; below = without_places x }) ≡ record { node = node.node; below = without_places (put x) }) (sym same.1) end) in
      sym (ap (λ (t : CutTree). Grown t.node t.below (without_places s)) here)
  row_is_changed zero (q ∷ path) (Grown n b s) h at = ap (λ (c : CutForest). Grown n.node c (without_places s)) (row_is_changed q path b h at) ∙ sym (row_below change below q path n.node (without_places b) (without_places s))
  row_is_changed (suc position) path (Grown n b s) h at = ap (λ (c : CutForest). Grown n.node (without_places b) c) (row_is_changed position path s h at)
  row_is_changed position path (Kept p m s) h at =
      ap (λ (c : CutForest). Kept tt (without_places m) c) (row_is_changed (position - width m) path s h.1 at) ∙ bare_behind (change path) position m s h.0

  pub interval_is_with : (position : ℕ) (path : List ℕ) (row : Layout) → StaysIn position path row → layout_at position path row ≡ Grown node children Bare
      → Kept tt (without_places (changed_below put position path row)) Bare ≡ changed_row position (change path) (Kept tt (without_places row) Bare)
  interval_is_with position path row h at = ap (λ (c : CutForest). Kept tt c Bare) (row_is_changed position path row h at) ∙ interval_changed (change path) position row Bare (member_there position path row h)

-- so it is with a new node
pub interval_planted : (rules : List Rule) (node : Node) (place : ℕ) (put : Layout → Layout) (parent : LaidNode) (children : Layout) → without_places (put children) ≡ planted_row tt tt (asked rules parent.node node) node place (without_places children)
    → (position : ℕ) (path : List ℕ) (row : Layout) → StaysIn position path row → layout_at position path row ≡ Grown parent children Bare
    → Kept tt (without_places (changed_below put position path row)) Bare ≡ changed_row position (inserted rules node (path ++ place ∷ [])) (Kept tt (without_places row) Bare)
interval_planted rules node place put parent children same position path row h at =
    interval_is_with (λ way. inserted rules node (way ++ place ∷ [])) (child_below rules node place) put parent children
    (ap (λ (c : CutForest). let t : CutTree = record { node = parent.node; below = c } in t) (sym same)) position path row h at

-- No node of the part is heavier than its nodes were and what is put:

pub most_put : (k : ℕ) (put : Layout → Layout) → ((row : Layout) → PartIsAtMost k (without_places row) → PartIsAtMost k (without_places (put row))) → (position : ℕ) (row : Layout) → PartIsAtMost k (without_places row) → PartIsAtMost k (without_places (put_between put position row))
most_put k put keeps zero row h = keeps row h
most_put k put keeps (suc position) Bare h = tt
most_put k put keeps (suc position) (Grown n b s) h = (h.0, h.1, most_put k put keeps position s h.2)
most_put k put keeps (suc position) (Kept p m s) h = most_put k put keeps (suc position - width m) s h

pub most_below : (k : ℕ) (change : Layout → Layout) → ((row : Layout) → PartIsAtMost k (without_places row) → PartIsAtMost k (without_places (change row))) → (position : ℕ) (path : List ℕ) (row : Layout) → PartIsAtMost k (without_places row)
    → PartIsAtMost k (without_places (changed_below change position path row))
most_below k change keeps position path Bare h = tt
most_below k change keeps zero [] (Grown n b s) h = (h.0, keeps b h.1, h.2)
most_below k change keeps zero (q ∷ path) (Grown n b s) h = (h.0, most_below k change keeps q path b h.1, h.2)
most_below k change keeps (suc position) path (Grown n b s) h = (h.0, h.1, most_below k change keeps position path s h.2)
most_below k change keeps position path (Kept p m s) h = most_below k change keeps (position - width m) path s h

-- How many proxies stand before a position:

passed_behind_one : (position : ℕ) (x : Gapped) (proxy : Proxy) (proxies : List Proxy) → proxy.roots ≤ suc position → passed_at (suc position) (Gap 1 x) (proxy ∷ proxies) ≡ 1 + passed_at (suc position - proxy.roots) x proxies
passed_behind_one position x proxy proxies most =
    let one : passed (suc position) (proxy ∷ []) ≡ 1 = passed_one (suc position) proxy [] most in
    let roots : roots_of (proxy ∷ []) ≡ proxy.roots = roots_more proxy [] ∙ (let e : proxy.roots + 0 ≡ proxy.roots = omega arith in e) in
    not_less (passed (suc position) (proxy ∷ [])) 1 (passed (suc position) (proxy ∷ [])) (1 + passed_at (suc position - roots_of (proxy ∷ [])) x proxies) (omega (arith, one))
    ∙ ap (λ (r : ℕ). 1 + passed_at (suc position - r) x proxies) roots

passed_behind_gap : (q c : ℕ) (s : Gapped) (proxies : List Proxy) → BeginsWithRoots (Gap c s) proxies
    → (if nat_lt (1 + passed q (take c proxies)) (c + 1) then 1 + passed q (take c proxies) else (c + 1) + passed_at (q - roots_of (take c proxies)) s (drop c proxies)) ≡ 1 + passed_at q (Gap c s) proxies
passed_behind_gap zero c s proxies begins =
    let none = begins.1 in
    let some = begins.0 in
    less_is (1 + passed 0 (take c proxies)) (c + 1) (1 + passed 0 (take c proxies)) ((c + 1) + passed_at (0 - roots_of (take c proxies)) s (drop c proxies)) (omega (arith, none, some)) ∙ ap (λ (n : ℕ). 1 + n) none
passed_behind_gap (suc q) c s proxies begins =
    let n : ℕ = passed (suc q) (take c proxies) in
    let rest : ℕ = passed_at (suc q - roots_of (take c proxies)) s (drop c proxies) in
    elim (cases_lt (passed (suc q) (take c proxies)) c) [
      | inl less ↦
          less_is (1 + n) (c + 1) (1 + n) ((c + 1) + rest) (omega (arith, less))
          ∙ ap (λ (m : ℕ). 1 + m) (sym (less_is n c n (c + rest) less))
      | inr most ↦
          not_less (1 + n) (c + 1) (1 + n) ((c + 1) + rest) (omega (arith, most))
          ∙ (let e : (c + 1) + rest ≡ 1 + (c + rest) = omega arith in e)
          ∙ ap (λ (m : ℕ). 1 + m) (sym (not_less n c n (c + rest) most))
    ]

passed_behind : (position : ℕ) (x : Gapped) (proxy : Proxy) (proxies : List Proxy) → proxy.roots ≤ suc position → BeginsWithRoots x proxies → passed_at (suc position) (gap_more x) (proxy ∷ proxies) ≡ 1 + passed_at (suc position - proxy.roots) x proxies
passed_behind position End proxy proxies most begins = passed_behind_one position End proxy proxies most
passed_behind position (Grow n b s) proxy proxies most begins = passed_behind_one position (Grow n b s) proxy proxies most
passed_behind position (Gap c s) proxy proxies most begins =
    let q : ℕ = suc position - proxy.roots in
    let all : List Proxy = proxy ∷ proxies in
    let seen : passed (suc position) (take (c + 1) all) ≡ 1 + passed q (take c proxies) = ap (passed (suc position)) (take_more c proxy proxies) ∙ passed_one (suc position) proxy (take c proxies) most in
    let roots : roots_of (take (c + 1) all) ≡ proxy.roots + roots_of (take c proxies) = ap roots_of (take_more c proxy proxies) ∙ roots_more proxy (take c proxies) in
    ap (λ (m : ℕ). if nat_lt m (c + 1) then m else (c + 1) + passed_at (suc position - roots_of (take (c + 1) all)) s (drop (c + 1) all)) seen
    ∙ ap₂ (λ (r : ℕ) (ps : List Proxy). chosen ((c + 1) + passed_at (suc position - r) s ps)) roots (drop_more c proxy proxies)
    ∙ ap (λ (r : ℕ). chosen ((c + 1) + passed_at r s (drop c proxies))) (minus_both (suc position) proxy.roots (roots_of (take c proxies)))
    ∙ passed_behind_gap q c s proxies begins
  where
    chosen : ℕ → ℕ
    chosen other = if nat_lt (1 + passed (suc position - proxy.roots) (take c proxies)) (c + 1) then 1 + passed (suc position - proxy.roots) (take c proxies) else other

-- the proxies of a row that stand before a position are those of its piece
pub passed_in_row : (k position : ℕ) (row : Layout) (more : List Proxy) → AreLaidParts k row → FallsBetween position row → passed_at position (piece_body row) (proxies_of row ++ more) ≡ proxies_before position row
passed_in_row k zero row more h f = refl
passed_in_row k (suc position) Bare more h f = absurd f
passed_in_row k (suc position) (Grown n b s) more h f =
    ap₂ (λ (n : ℕ) (ps : List Proxy). n + passed_at position (piece_body s) ps) (sym (proxies_counted b)) (drop_below b s more) ∙ ap (λ (m : ℕ). length (proxies_of b) + m) (passed_in_row k position s more h.1 f)
passed_in_row k (suc position) (Kept p m s) more h f =
    passed_behind position (piece_body s) (proxy_of p (width m)) (proxies_of s ++ more) f.0 (body_begins k s more h.4) ∙ ap (λ (n : ℕ). 1 + n) (passed_in_row k (suc position - width m) s more h.4 f.1)
