-- One step down a path, and what an edit below it makes of the whole tree.
use Rattle.std.proofs.Common.{◌≡◌, ℕ, ◌+◌, false, ◌==◌, length, if◌then◌else◌, List, [], ◌∷◌, Option, None, Some, Result, Ok, Err, OnOk, OnErr, refl, sym, ap, ◌∙◌, arith, slice_set}
use Rattle.std.specs.List.{slice_get, remove}
use Rattle.std.specs.Option.{option_and_then, option_map_or, is_some}
use Rattle.std.specs.Result.{result_err}
use Rattle.nx_tree.specs.declared.node.Node.{Node}
use Rattle.nx_tree.specs.declared.error.TreeError.{TreeError}
use Rattle.nx_tree.specs.declared.error.TreeError.TheVariants.{NoNode, NoContent}
use Rattle.nx_tree.specs.Forest.{OrderedTree, Forest, forest_of, nodes}
use Rattle.nx_tree.specs.Edit.{child, at, changed_at, removed_at, retext, cut_at, cut_refusal, retext_refusal, has_children}
use Rattle.nx_tree.proofs.PlaceLemmas.{child-forest_of, forest_of-set, forest_of-remove, nodes-removed_at, nodes-changed_at, nodes-changed_same}

-- the tree is this node over these trees, and the path begins at position i
pub record IsStep (tree : OrderedTree) (path : List ℕ) (node : Node) (items : List OrderedTree) (i : ℕ) (rest : List ℕ) : Type 0 where
  pub path_is : path ≡ i ∷ rest
  pub tree_is : tree ≡ record { node = node; below = forest_of items }

-- a tree by its node and its list of children
pub whole : (tree : OrderedTree) (node : Node) (below : Forest) (items : List OrderedTree) → record { node = node; below = below } ≡ tree → forest_of items ≡ below → tree ≡ record { node = node; below = forest_of items }
whole tree node below items t b = sym t ∙ ap (λ f. record { node = node; below = f }) (sym b)

pub is_step : (tree : OrderedTree) (path : List ℕ) (node : Node) (below : Forest) (items : List OrderedTree) (i : ℕ) (rest : List ℕ) → path ≡ i ∷ rest → record { node = node; below = below } ≡ tree → forest_of items ≡ below → IsStep tree path node items i rest
is_step tree path node below items i rest p t b = record { path_is = p; tree_is = whole tree node below items t b }

-- why nothing can be taken away where this stands
abbrev missing : Option OrderedTree → Option TreeError
missing o = if is_some o then None else Some NoNode

cut_refusal-more : (rest : List ℕ) (t : OrderedTree) → false ≡ (length rest == 0) → cut_refusal rest t ≡ missing (at t rest)
cut_refusal-more [] t more = absurd (cc)
cut_refusal-more (p ∷ path) t more = refl

cut_at-deeper : (tree : OrderedTree) (i : ℕ) (rest : List ℕ) → false ≡ (length rest == 0) → record tree { below = changed_at i (cut_at rest) tree.below } ≡ cut_at (i ∷ rest) tree
cut_at-deeper tree i [] more = absurd (cc)
cut_at-deeper tree i (p ∷ path) more = refl

module _ (tree : OrderedTree) (path : List ℕ) (node : Node) (items : List OrderedTree) (i : ℕ) (rest : List ℕ) (s : IsStep tree path node items i rest) where
  pub child-at : (t : OrderedTree) → slice_get items i ≡ Some t → child tree.below i ≡ Some t
  child-at t g = ap (λ (x : OrderedTree). child x.below i) s.tree_is ∙ child-forest_of items i ∙ g

  -- what stands at the path is what stands at its rest below the child
  pub at-below : (t : OrderedTree) → slice_get items i ≡ Some t → at tree path ≡ at t rest
  at-below t g = ap (at tree) s.path_is ∙ ap (option_and_then (λ x. at x rest)) (child-at t g)

  pub child-missing : slice_get items i ≡ None → child tree.below i ≡ None
  child-missing g = ap (λ (x : OrderedTree). child x.below i) s.tree_is ∙ child-forest_of items i ∙ g

  pub at-none : slice_get items i ≡ None → at tree path ≡ None
  at-none g = ap (at tree) s.path_is ∙ ap (option_and_then (λ x. at x rest)) (child-missing g)

  -- the child changed is the forest changed at its position
  pub changes : (t new : OrderedTree) (change : OrderedTree → OrderedTree) → slice_get items i ≡ Some t → new ≡ change t →
      record { node = node; below = forest_of (slice_set items i new) } ≡ record tree { below = changed_at i change tree.below }
  changes t new change g n =
      rw (n, s.tree_is) (ap (λ f. record { node = node; below = f }) (forest_of-set items i t change g))

  pub retexts : (t new : OrderedTree) (content : List ℕ) → slice_get items i ≡ Some t → new ≡ retext content rest t → record { node = node; below = forest_of (slice_set items i new) } ≡ retext content path tree
  retexts t new content g n = changes t new (retext content rest) g n ∙ ap (λ p. retext content p tree) (sym s.path_is)

  pub retext_refuses : (t : OrderedTree) → slice_get items i ≡ Some t → retext_refusal rest t ≡ retext_refusal path tree
  retext_refuses t g = ap (λ o. option_map_or (λ (x : OrderedTree). if has_children x.node.kind then Some NoContent else None) o (Some NoNode)) (sym (at-below t g))

  pub retext_misses : slice_get items i ≡ None → Some NoNode ≡ retext_refusal path tree
  retext_misses g = ap (λ o. option_map_or (λ (x : OrderedTree). if has_children x.node.kind then Some NoContent else None) o (Some NoNode)) (sym (at-none g))

  pub cuts : (t new : OrderedTree) → slice_get items i ≡ Some t → false ≡ (length rest == 0) → new ≡ cut_at rest t → record { node = node; below = forest_of (slice_set items i new) } ≡ cut_at path tree
  cuts t new g more n = changes t new (cut_at rest) g n ∙ cut_at-deeper tree i rest more ∙ ap (λ p. cut_at p tree) (sym s.path_is)

  pub cut_refuses : (t : OrderedTree) → slice_get items i ≡ Some t → false ≡ (length rest == 0) → cut_refusal rest t ≡ cut_refusal path tree
  cut_refuses t g more =
      cut_refusal-more rest t more ∙ ap missing (sym (at-below t g)) ∙ ap (λ p. missing (at tree p)) s.path_is ∙ ap (λ p. cut_refusal p tree) (sym s.path_is)

  pub cut_misses : slice_get items i ≡ None → Some NoNode ≡ cut_refusal path tree
  cut_misses g = ap missing (sym (at-none g)) ∙ ap (λ p. missing (at tree p)) s.path_is ∙ ap (λ p. cut_refusal p tree) (sym s.path_is)

-- an error that a call passes on is its refusal
pub passed_on : {T : Type 0} (r : Result T TreeError) (e : TreeError) (refusal : Option TreeError) → (y : TreeError) × (r ≡ Err y) × (y ≡ e) → Some e ≡ refusal → result_err r ≡ refusal
passed_on r e refusal p h = ap result_err p.1 ∙ ap (λ x. Some x) p.2 ∙ h

-- a child changed changes the number of nodes as much as its own
pub nodes-changes : (items : List OrderedTree) (i : ℕ) (t new : OrderedTree) → slice_get items i ≡ Some t → nodes (forest_of (slice_set items i new)) + nodes t.below ≡ nodes (forest_of items) + nodes new.below
nodes-changes items i t new g =
    ap (λ f. nodes f + nodes t.below) (forest_of-set items i t (λ _. new) g) ∙ nodes-changed_at (forest_of items) i t (λ _. new) (child-forest_of items i ∙ g)

-- so a count stays right where the child's stays
pub keeps_count : (items : List OrderedTree) (i : ℕ) (t new : OrderedTree) (n : ℕ) → slice_get items i ≡ Some t → nodes new.below ≡ nodes t.below → n ≡ nodes (forest_of items) → n ≡ nodes (forest_of (slice_set items i new))
keeps_count items i t new n g e h = omega (arith, nodes-changes items i t new g)

-- another content leaves the number of nodes
pub nodes-retext : (content path : List ℕ) (t : OrderedTree) → nodes (retext content path t).below ≡ nodes t.below
nodes-retext content [] t = refl
nodes-retext content (p ∷ path) t = nodes-changed_same t.below p (retext content path) (nodes-retext content path)

-- the nodes that a child lost are those that the forest lost
pub nodes-less : (items : List OrderedTree) (i : ℕ) (t new : OrderedTree) (n : ℕ) → slice_get items i ≡ Some t → nodes new.below + n ≡ nodes t.below → nodes (forest_of (slice_set items i new)) + n ≡ nodes (forest_of items)
nodes-less items i t new n g e = omega (arith, nodes-changes items i t new g)

-- so does one that may be refused
pub nodes-retexted : (r : Result (Unit {0}) TreeError) (content path : List ℕ) (t new : OrderedTree) → OnOk r (new ≡ retext content path t) → OnErr r (new ≡ t) → nodes new.below ≡ nodes t.below
nodes-retexted (Ok x) content path t new o e = ap (λ (x : OrderedTree). nodes x.below) o ∙ nodes-retext content path t
nodes-retexted (Err x) content path t new o e = ap (λ (x : OrderedTree). nodes x.below) e

-- a child taken away:

pub child-whole : (tree : OrderedTree) (node : Node) (items : List OrderedTree) (i : ℕ) → tree ≡ record { node = node; below = forest_of items } → child tree.below i ≡ slice_get items i
child-whole tree node items i e = ap (λ (x : OrderedTree). child x.below i) e ∙ child-forest_of items i

pub removes : (tree : OrderedTree) (node : Node) (items new : List OrderedTree) (i : ℕ) → tree ≡ record { node = node; below = forest_of items } → new ≡ remove items i → record { node = node; below = forest_of new } ≡ record tree { below = removed_at i tree.below }
removes tree node items new i e n = rw (n, e) (ap (λ f. record { node = node; below = f }) (forest_of-remove items i))

pub nodes-removes : (items new : List OrderedTree) (i n : ℕ) (t : OrderedTree) → slice_get items i ≡ Some t → new ≡ remove items i → n ≡ nodes t.below → nodes (forest_of new) + (1 + n) ≡ nodes (forest_of items)
nodes-removes items new i n t g e m =
    let a = ap (λ (x : List OrderedTree). nodes (forest_of x)) e in
    let b = ap nodes (forest_of-remove items i) in
    let d = nodes-removed_at (forest_of items) i t (child-forest_of items i ∙ g) in
    omega arith

pub lost : (tree : OrderedTree) (i : ℕ) → child tree.below i ≡ None → Some NoNode ≡ (if is_some (child tree.below i) then None else Some NoNode)
lost tree i e = rw e refl

pub found : (tree t : OrderedTree) (i : ℕ) → child tree.below i ≡ Some t → None ≡ (if is_some (child tree.below i) then None else Some NoNode)
found tree t i e = rw e refl
