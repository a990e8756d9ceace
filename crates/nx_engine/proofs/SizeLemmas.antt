-- A part of a tree has no more nodes than the tree.
use Rattle.std.proofs.Common.{◌≡◌, ℕ, zero, suc, ◌≤◌, List, [], ◌∷◌, length, Option, None, Some, refl, ap, arith}
use Rattle.std.specs.Prelude.{option_and_then}
use Rattle.std.specs.Option.{unwrap_or}
use Rattle.nx_tree.specs.Forest.{OrderedTree, Forest, Empty, Plant, nodes, trees_of}
use Rattle.nx_tree.specs.Document.{IsDocument}
use Rattle.nx_tree.specs.Edit.{at, child}

length-trees_of : (f : Forest) → length (trees_of f) ≤ nodes f
length-trees_of Empty = omega arith
length-trees_of (Plant node below beside) = omega (arith, length-trees_of beside)

nodes-child : (f : Forest) (position : ℕ) (t : OrderedTree) → child f position ≡ Some t → nodes t.below ≤ nodes f
nodes-child Empty position t e = cc
nodes-child (Plant node below beside) zero t e =
    let same : below ≡ t.below = ap (λ o. (unwrap_or o t).below) e in omega (arith, ap nodes same)
nodes-child (Plant node below beside) (suc position) t e = omega (arith, nodes-child beside position t e)

-- what holds at a child, holds at the end of the path through it
through : (forest : Forest) (t : OrderedTree) (next : OrderedTree → Option OrderedTree) (found : Option OrderedTree) →
    ((c : OrderedTree) → found ≡ Some c → nodes c.below ≤ nodes forest) → ((c : OrderedTree) → next c ≡ Some t → nodes t.below ≤ nodes c.below) →
    option_and_then next found ≡ Some t → nodes t.below ≤ nodes forest
through forest t next None small more e = cc
through forest t next (Some c) small more e = omega (arith, small c refl, more c e)

nodes-at : (path : List ℕ) (tree t : OrderedTree) → at tree path ≡ Some t → nodes t.below ≤ nodes tree.below
nodes-at [] tree t e =
    let same : tree.below ≡ t.below = ap (λ o. (unwrap_or o t).below) e in omega (arith, ap nodes same)
nodes-at (position ∷ path) tree t e = through tree.below t (λ c. at c path) (child tree.below position) (nodes-child tree.below position) (λ c. nodes-at path c t) e

-- a node of a document has few children
pub few_children : (path : List ℕ) (tree t : OrderedTree) → IsDocument tree → at tree path ≡ Some t → length (trees_of t.below) ≤ 524288
few_children path tree t d e = omega (arith, length-trees_of t.below, nodes-at path tree t e, d.small)
