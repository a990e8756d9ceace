-- A node put among the members of an interval below a node of a record's own: the document's change, and what the interval below has then.
use Rattle.std.proofs.Common.{◌≡◌, ℕ, zero, suc, ◌+◌, ◌-◌, ◌<◌, ◌≤◌, List, [], ◌∷◌, ◌++◌, length, Option, None, Some, refl, sym, ap, ap₂, ◌∙◌, subst, arith}
use Rattle.std.specs.List.{slice_get}
use Rattle.nx_tree.specs.declared.node.Node.{Node}
use Rattle.nx_piece.specs.declared.piece.Piece.{Piece}
use Rattle.nx_piece.specs.declared.piece.Proxy.{Proxy}
use Rattle.nx_piece.specs.Gapped.{GappedTree}
use Rattle.nx_piece.specs.Locate.{PieceChild, Own, Kept as Away, Inside, Outside, children_of, reached, reached_in}
use Rattle.nx_piece_edits.proofs.LeftLemmas.{less_is, not_less}
use Rattle.nx_matrix.specs.declared.rule.Entry.{Entry}
use Rattle.nx_matrix.specs.declared.rule.Entry.TheVariants.{Free}
use Rattle.nx_matrix.specs.declared.rule.Rule.{Rule}
use Rattle.nx_cuts.specs.Cut.{CutForest, Bare, Grown, Kept, width}
use Rattle.nx_cuts.specs.Rows.{joined_row, first, behind, changed_row}
use Rattle.nx_split.specs.Piece.{asked}
use Rattle.nx_layouts.specs.Layout.{RecordPlace, LaidNode, Layout, proxies_of, without_places}
use Rattle.nx_layouts.specs.Replace.{replaced_at, above_at}
use Rattle.nx_layouts.specs.Cutting.{LeadsInto}
use Rattle.nx_drawn.specs.Edits.{inserted, placed_among, planted_row}
use Rattle.nx_layouts.specs.Drawn.{DrawnAlike}
use Rattle.nx_layouts.proofs.DrawnLemmas.{drawn_wide, rows_are_drawn_alike}
use Rattle.nx_edit.proofs.ChangedLemmas.{row_below, bare_behind, interval_changed, child_below}
use Rattle.nx_edit.proofs.CutLemmas.{into_there}

-- Where a path leads to a tree, one position more leads to a child of it in the record of a proxy.
reached_more : (proxies : List Proxy) (used : ℕ) (path : List ℕ) (position : ℕ) (child : Option PieceChild) (tree : GappedTree) (begin index before : ℕ) → reached proxies used path child ≡ Inside tree begin
    → slice_get (children_of proxies begin tree.below) position ≡ Some (Away index before) → reached proxies used (path ++ position ∷ []) child ≡ Outside index before (used + (length path + 1))
reached_more proxies used path position None tree begin index before h there = absurd (cc)
reached_more proxies used path position (Some (Away at member)) tree begin index before h there = absurd (cc)
reached_more proxies used [] position (Some (Own t f)) tree begin index before h there =
    let same : Own t f ≡ Own tree begin = own_same t tree f begin h in
    ap (λ (c : PieceChild). reached proxies used (position ∷ []) (Some c)) same ∙ ap (reached proxies (used + 1) []) there
  where
    own_same : (a b : GappedTree) (m n : ℕ) → Inside a m ≡ Inside b n → Own a m ≡ Own b n
    own_same a b m n e = cc
reached_more proxies used (q ∷ path) position (Some (Own t f)) tree begin index before h there =
    reached_more proxies (used + 1) path position (slice_get (children_of proxies f t.below) q) tree begin index before h there
    ∙ ap (λ (n : ℕ). Outside index before n) (let e : used + 1 + (length path + 1) ≡ used + (length (q ∷ path) + 1) = omega arith in e)

pub leads_to_child : (piece : Piece) (member : ℕ) (path : List ℕ) (position : ℕ) (tree : GappedTree) (begin index before : ℕ) → reached_in piece member path ≡ Inside tree begin
    → slice_get (children_of piece.proxies begin tree.below) position ≡ Some (Away index before) → reached_in piece member (path ++ position ∷ []) ≡ Outside index before (length path + 1)
leads_to_child piece member path position tree begin index before h there =
    reached_more piece.proxies 0 path position (slice_get (children_of piece.proxies 0 piece.body.roots) member) tree begin index before h there
    ∙ ap (λ (n : ℕ). Outside index before n) (let e : 0 + (length path + 1) ≡ length path + 1 = omega arith in e)

-- members with one more, a node below which nothing stands
abbrev pub with_member : LaidNode → ℕ → Layout → Layout
with_member node member members = joined_row (first member members) (Grown node Bare (behind member members))

-- the same, drawn
drawn_with : (node : LaidNode) (member : ℕ) (members : Layout) → without_places (with_member node member members) ≡ joined_row (first member (without_places members)) (Grown node.node Bare (behind member (without_places members)))
drawn_with node member members =
    let front : DrawnAlike (first member members) = rows_are_drawn_alike (first member members) in
    let all : DrawnAlike members = rows_are_drawn_alike members in
    front.joined (Grown node Bare (behind member members)) ∙ ap₂ (λ (x y : CutForest). joined_row x (Grown node.node Bare y)) (all.front member) (all.back member)

-- the first child stands behind no other member
first_leads : (index member : ℕ) (rest : List ℕ) (inside row : Layout) → LeadsInto index member rest inside zero [] row → member ≡ 0
first_leads index member rest inside Bare h = absurd h
first_leads index member rest inside (Grown n b s) h = absurd h
first_leads zero member rest inside (Kept p m s) h = h.1
first_leads (suc index) member rest inside (Kept p m s) h =
    let none : 0 - width m ≡ 0 = omega arith in first_leads index member rest inside s (subst (λ (q : ℕ). LeadsInto index member rest inside q [] s) none h.1)

not_empty : (path : List ℕ) (position : ℕ) → [] ≡ path ++ (position ∷ []) → ⊥
not_empty [] position e = absurd (cc)
not_empty (q ∷ path) position e = absurd (cc)

module _ (node : LaidNode) (place : RecordPlace) where
  -- the interval with the new member
  abbrev joining : ℕ → Layout → Layout
  joining member inside = Kept place (with_member node member inside) Bare

  -- among the children of a node
  joined_there : (index member : ℕ) (inside : Layout) (position : ℕ) (row : Layout) → LeadsInto index member [] inside position [] row → 1 ≤ member
      → without_places (replaced_at index (joining member inside) row) ≡ planted_row tt tt Free node.node position (without_places row)
  joined_there index member inside position Bare h some = absurd h
  joined_there index member inside zero (Grown n b s) h some = absurd h
  joined_there index member inside (suc position) (Grown n b s) h some =
      ap (λ (l : Layout). without_places l) (not_less index (length (proxies_of b)) (Grown n (replaced_at index (joining member inside) b) s) (Grown n b (replaced_at (index - length (proxies_of b)) (joining member inside) s)) h.0)
      ∙ ap (λ (c : CutForest). Grown n.node (without_places b) c) (joined_there (index - length (proxies_of b)) member inside position s h.1 some)
  joined_there zero member inside zero (Kept p m s) h some = let none : member ≡ 0 = h.1 in absurd (omega (arith, none, some))
  joined_there zero member inside (suc position) (Kept p m s) h some =
      let bare : CutForest = without_places m in
      let rest : CutForest = without_places s in
      ap (λ (c : CutForest). Kept tt c rest) (here h.1 h.3 ∙ drawn_with node (suc position) m)
      ∙ sym (less_is (suc position) (width bare) (placed_among tt tt tt Free node.node (suc position) bare rest) (Kept tt bare (planted_row tt tt Free node.node (suc position - width bare) rest))
      (subst (λ (w : ℕ). suc position < w) (sym (drawn_wide m)) h.0))
    where
      here : member ≡ suc position → inside ≡ m → without_places (with_member node member inside) ≡ without_places (with_member node (suc position) m)
      here a c = cc
  joined_there (suc index) member inside zero (Kept p m s) h some =
      let none : member ≡ 0 = first_leads (suc index) member [] inside (Kept p m s) h in absurd (omega (arith, none, some))
  joined_there (suc index) member inside (suc position) (Kept p m s) h some =
      let bare : CutForest = without_places m in
      let rest : CutForest = without_places s in
      ap (λ (c : CutForest). Kept tt bare c) (joined_there index member inside (suc position - width m) s h.1 some)
      ∙ ap (λ (w : ℕ). Kept tt bare (planted_row tt tt Free node.node (suc position - w) rest)) (sym (drawn_wide m))
      ∙ sym (not_less (suc position) (width bare) (placed_among tt tt tt Free node.node (suc position) bare rest) (Kept tt bare (planted_row tt tt Free node.node (suc position - width bare) rest))
      (subst (λ (w : ℕ). w ≤ suc position) (sym (drawn_wide m)) h.0))

  -- they have no other node above them
  above_there : (index member : ℕ) (inside : Layout) (position : ℕ) (row : Layout) (top : Option Node) → LeadsInto index member [] inside position [] row → above_at index top row ≡ top
  above_there index member inside position Bare top h = absurd h
  above_there index member inside zero (Grown n b s) top h = absurd h
  above_there index member inside (suc position) (Grown n b s) top h =
      not_less index (length (proxies_of b)) (above_at index (Some n.node) b) (above_at (index - length (proxies_of b)) top s) h.0 ∙ above_there (index - length (proxies_of b)) member inside position s top h.1
  above_there zero member inside position (Kept p m s) top h = refl
  above_there (suc index) member inside position (Kept p m s) top h = above_there index member inside (position - width m) s top h.1

  module _ (rules : List Rule) (parent : Node) (free : asked rules parent node.node ≡ Free) (position : ℕ) where
    abbrev way : List ℕ → List ℕ
    way path = path ++ position ∷ []

    -- so it is in a row that the path leads through
    joined_below : (index member : ℕ) (inside : Layout) (at : ℕ) (path : List ℕ) (row : Layout) (top : Option Node) → LeadsInto index member [] inside at (way path) row → 1 ≤ member → above_at index top row ≡ Some parent
        → without_places (replaced_at index (joining member inside) row) ≡ changed_row at (inserted rules node.node (way path)) (without_places row)
    joined_below index member inside at path Bare top h some above = absurd h
    joined_below index member inside zero [] (Grown n b s) top h some above =
        let is : Some n.node ≡ Some parent =
        sym (above_there index member inside position b (Some n.node) h.1) ∙ sym (less_is index (length (proxies_of b)) (above_at index (Some n.node) b) (above_at (index - length (proxies_of b)) top s) h.0) ∙ above in
        let asks : asked rules n.node node.node ≡ Free = ap (λ (x : Node). asked rules x node.node) (some_node n.node parent is) ∙ free in
        ap (λ (l : Layout). without_places l) (less_is index (length (proxies_of b)) (Grown n (replaced_at index (joining member inside) b) s) (Grown n b (replaced_at (index - length (proxies_of b)) (joining member inside) s)) h.0)
        ∙ ap (λ (c : CutForest). Grown n.node c (without_places s))
        (joined_there index member inside position b h.1 some ∙ ap (λ (e : Entry). planted_row tt tt e node.node position (without_places b)) (sym asks))
      where
        some_node : (a b : Node) → Some a ≡ Some b → a ≡ b
        some_node a b e = cc
    joined_below index member inside zero (q ∷ path) (Grown n b s) top h some above =
        ap (λ (l : Layout). without_places l) (less_is index (length (proxies_of b)) (Grown n (replaced_at index (joining member inside) b) s) (Grown n b (replaced_at (index - length (proxies_of b)) (joining member inside) s)) h.0)
        ∙ ap (λ (c : CutForest). Grown n.node c (without_places s))
        (joined_below index member inside q path b (Some n.node) h.1 some (sym (less_is index (length (proxies_of b)) (above_at index (Some n.node) b) (above_at (index - length (proxies_of b)) top s) h.0) ∙ above))
        ∙ sym (row_below (λ path. inserted rules node.node (way path)) (child_below rules node.node position) q path n.node (without_places b) (without_places s))
    joined_below index member inside (suc at) path (Grown n b s) top h some above =
        ap (λ (l : Layout). without_places l) (not_less index (length (proxies_of b)) (Grown n (replaced_at index (joining member inside) b) s) (Grown n b (replaced_at (index - length (proxies_of b)) (joining member inside) s)) h.0)
        ∙ ap (λ (c : CutForest). Grown n.node (without_places b) c)
        (joined_below (index - length (proxies_of b)) member inside at path s top h.1 some (sym (not_less index (length (proxies_of b)) (above_at index (Some n.node) b) (above_at (index - length (proxies_of b)) top s) h.0) ∙ above))
    joined_below zero member inside at path (Kept p m s) top h some above = absurd (not_empty path position h.2)
    joined_below (suc index) member inside at path (Kept p m s) top h some above =
        ap (λ (c : CutForest). Kept tt (without_places m) c) (joined_below index member inside (at - width m) path s top h.1 some above) ∙ bare_behind (inserted rules node.node (way path)) at m s h.0

    -- and in the interval of the row
    pub interval_joined : (index member : ℕ) (inside : Layout) (at : ℕ) (path : List ℕ) (row : Layout) (top : Option Node) → LeadsInto index member [] inside at (way path) row → 1 ≤ member → above_at index top row ≡ Some parent
        → Kept tt (without_places (replaced_at index (joining member inside) row)) Bare ≡ changed_row at (inserted rules node.node (way path)) (Kept tt (without_places row) Bare)
    interval_joined index member inside at path row top h some above =
        ap (λ (c : CutForest). Kept tt c Bare) (joined_below index member inside at path row top h some above) ∙ interval_changed (inserted rules node.node (way path)) at row Bare (into_there index member [] inside at (way path) row h)
