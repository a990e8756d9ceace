-- A row in which one tree is changed, or one below it.
use Rattle.std.proofs.Common.{◌≡◌, ℕ, zero, suc, ◌-◌, ◌<◌, ◌≤◌, List, [], ◌∷◌, ◌++◌, length, Option, refl, sym, ap, ◌∙◌, subst}
use Rattle.nx_tree.specs.declared.node.Node.{Node}
use Rattle.nx_piece_edits.proofs.LeftLemmas.{less_is, not_less}
use Rattle.nx_matrix.specs.declared.rule.Rule.{Rule}
use Rattle.nx_cuts.specs.Cut.{CutForest, CutTree, Bare, Grown, Kept, width}
use Rattle.nx_cuts.specs.Rows.{changed_row}
use Rattle.nx_layouts.specs.Layout.{RecordPlace, Layout, proxies_of, without_places}
use Rattle.nx_layouts.specs.Replace.{replaced_at}
use Rattle.nx_layouts.specs.Cutting.{StaysIn, LeadsInto}
use Rattle.nx_layouts.specs.Setting.{layout_with}
use Rattle.nx_drawn.specs.Edits.{inserted, retexted}
use Rattle.nx_layouts.proofs.DrawnLemmas.{drawn_wide}
use Rattle.nx_edit.specs.Changing.{Put, changed}
use Rattle.nx_edit.specs.Changing as put
use Rattle.nx_edit.proofs.CutLemmas.{member_there, into_there}

-- Rows behind an interval and in one:

changed_behind : (change : CutTree → CutTree) (position : ℕ) (members beside : CutForest) → width members ≤ position → changed_row position change (Kept tt members beside) ≡ Kept tt members (changed_row (position - width members) change beside)
changed_behind change position members beside most =
    not_less position (width members) (Kept tt (changed_row position change members) beside) (Kept tt members (changed_row (position - width members) change beside)) most

changed_inside : (change : CutTree → CutTree) (position : ℕ) (members beside : CutForest) → position < width members → changed_row position change (Kept tt members beside) ≡ Kept tt (changed_row position change members) beside
changed_inside change position members beside less =
    less_is position (width members) (Kept tt (changed_row position change members) beside) (Kept tt members (changed_row (position - width members) change beside)) less

pub bare_behind : (change : CutTree → CutTree) (position : ℕ) (m s : Layout) → width m ≤ position
    → Kept tt (without_places m) (changed_row (position - width m) change (without_places s)) ≡ changed_row position change (Kept tt (without_places m) (without_places s))
bare_behind change position m s most =
    ap (λ (w : ℕ). Kept tt (without_places m) (changed_row (position - w) change (without_places s))) (sym (drawn_wide m))
    ∙ sym (changed_behind change position (without_places m) (without_places s) (subst (λ (w : ℕ). w ≤ position) (sym (drawn_wide m)) most))

-- an interval of which a member is changed, or a tree below one
pub interval_changed : (change : CutTree → CutTree) (position : ℕ) (m s : Layout) → position < width m → Kept tt (changed_row position change (without_places m)) (without_places s) ≡ changed_row position change (Kept tt (without_places m) (without_places s))
interval_changed change position m s less = sym (changed_inside change position (without_places m) (without_places s) (subst (λ (w : ℕ). position < w) (sym (drawn_wide m)) less))

-- What a record has after a node of its own got another content is the row with it.
pub content_row : (content : List ℕ) (list : Option ℕ) (position : ℕ) (path : List ℕ) (row : Layout) → StaysIn position path row → without_places (layout_with position path content list row) ≡ changed_row position (retexted content path) (without_places row)
content_row content list position path Bare h = absurd h
content_row content list zero [] (Grown n b s) h = refl
content_row content list zero (q ∷ path) (Grown n b s) h = ap (λ (c : CutForest). Grown n.node c (without_places s)) (content_row content list q path b h)
content_row content list (suc position) path (Grown n b s) h = ap (λ (c : CutForest). Grown n.node (without_places b) c) (content_row content list position path s h)
content_row content list position path (Kept p m s) h =
    ap (λ (c : CutForest). Kept tt (without_places m) c) (content_row content list (position - width m) path s h.1) ∙ bare_behind (retexted content path) position m s h.0

-- an interval whose record has the node
pub content_interval : (content : List ℕ) (list : Option ℕ) (position : ℕ) (path : List ℕ) (place : RecordPlace) (members : Layout) → StaysIn position path members
    → without_places (Kept place (layout_with position path content list members) Bare) ≡ changed_row position (retexted content path) (Kept tt (without_places members) Bare)
content_interval content list position path place members h =
    ap (λ (c : CutForest). Kept tt c Bare) (content_row content list position path members h) ∙ interval_changed (retexted content path) position members Bare (member_there position path members h)

-- A change that goes on below along the path:
abbrev pub GoesOnBelow : (List ℕ → CutTree → CutTree) → Type 0
GoesOnBelow change = (next : ℕ) (path : List ℕ) (t : CutTree) → change (next ∷ path) t ≡ record t { below = changed_row next (change path) t.below }

module _ (change : List ℕ → CutTree → CutTree) (below : GoesOnBelow change) where
  pub row_below : (next : ℕ) (path : List ℕ) (node : Node) (row beside : CutForest) → changed_row zero (change (next ∷ path)) (Grown node row beside) ≡ Grown node (changed_row next (change path) row) beside
  row_below next path node row beside = ap (λ (t : CutTree). Grown t.node t.below beside) (below next path (record { node = node; below = row }))

  -- Where the interval that the path leads into becomes the one with the change, the row is the one with it.
  pub interval_is_changed : (index member : ℕ) (rest : List ℕ) (inside new : Layout) (place : RecordPlace) (position : ℕ) (path : List ℕ) (row : Layout) → LeadsInto index member rest inside position path row
      → without_places new ≡ changed_row member (change rest) (without_places inside) → without_places (replaced_at index (Kept place new Bare) row) ≡ changed_row position (change path) (without_places row)
  interval_is_changed index member rest inside new place position path Bare h e = absurd h
  interval_is_changed index member rest inside new place zero [] (Grown n b s) h e = absurd h
  interval_is_changed index member rest inside new place zero (q ∷ path) (Grown n b s) h e =
      ap (λ (l : Layout). without_places l) (less_is index (length (proxies_of b)) (Grown n (replaced_at index (Kept place new Bare) b) s) (Grown n b (replaced_at (index - length (proxies_of b)) (Kept place new Bare) s)) h.0)
      ∙ ap (λ (c : CutForest). Grown n.node c (without_places s)) (interval_is_changed index member rest inside new place q path b h.1 e)
      ∙ sym (row_below q path n.node (without_places b) (without_places s))
  interval_is_changed index member rest inside new place (suc position) path (Grown n b s) h e =
      ap (λ (l : Layout). without_places l) (not_less index (length (proxies_of b)) (Grown n (replaced_at index (Kept place new Bare) b) s) (Grown n b (replaced_at (index - length (proxies_of b)) (Kept place new Bare) s)) h.0)
      ∙ ap (λ (c : CutForest). Grown n.node (without_places b) c) (interval_is_changed (index - length (proxies_of b)) member rest inside new place position path s h.1 e)
  interval_is_changed zero member rest inside new place position path (Kept p m s) h e =
      ap (λ (c : CutForest). Kept tt c (without_places s)) (e ∙ here h.1 h.2 h.3) ∙ interval_changed (change path) position m s h.0
    where
      here : member ≡ position → rest ≡ path → inside ≡ m → changed_row member (change rest) (without_places inside) ≡ changed_row position (change path) (without_places m)
      here a b c = cc
  interval_is_changed (suc index) member rest inside new place position path (Kept p m s) h e =
      ap (λ (c : CutForest). Kept tt (without_places m) c) (interval_is_changed index member rest inside new place (position - width m) path s h.1 e) ∙ bare_behind (change path) position m s h.0

  -- so is an interval into whose row the path leads, and from there into one below it
  pub interval_changed_inside : (index member : ℕ) (rest : List ℕ) (inside new : Layout) (place : RecordPlace) (position : ℕ) (path : List ℕ) (at : RecordPlace) (members : Layout) → LeadsInto index member rest inside position path members
      → without_places new ≡ changed_row member (change rest) (without_places inside)
      → without_places (Kept at (replaced_at index (Kept place new Bare) members) Bare) ≡ changed_row position (change path) (Kept tt (without_places members) Bare)
  interval_changed_inside index member rest inside new place position path at members h e =
      ap (λ (c : CutForest). Kept tt c Bare) (interval_is_changed index member rest inside new place position path members h e)
      ∙ interval_changed (change path) position members Bare (into_there index member rest inside position path members h)

pub content_below : (content : List ℕ) → GoesOnBelow (retexted content)
content_below content next path t = refl

-- a new node comes in below as long as more of the path is left
pub child_below : (rules : List Rule) (node : Node) (position : ℕ) → GoesOnBelow (λ path. inserted rules node (path ++ position ∷ []))
child_below rules node position next [] t = refl
child_below rules node position next (q ∷ path) t = refl

pub changed_below : (rules : List Rule) (put : Put) → GoesOnBelow (changed rules put)
changed_below rules (put.Content content list) next path t = content_below content next path t
changed_below rules (put.Child position node) next path t = child_below rules node.node position next path t
