-- A forest and the list of its trees.
use Rattle.std.proofs.Common.{◌≡◌, ◌+◌, arith, List, [], ◌∷◌, ◌++◌, refl, ap}
use Rattle.nx_tree.specs.Forest.{OrderedTree, Forest, Empty, Plant, forest_of, trees_of, planted, nodes}
use Rattle.nx_tree.specs.Document.{attribute_names, HasNoAttribute}

pub trees_of-forest_of : (ts : List OrderedTree) → trees_of (forest_of ts) ≡ ts
trees_of-forest_of [] = refl
trees_of-forest_of (t ∷ ts) = ap (λ r. t ∷ r) (trees_of-forest_of ts)

pub forest_of-trees_of : (f : Forest) → forest_of (trees_of f) ≡ f
forest_of-trees_of Empty = refl
forest_of-trees_of (Plant n b s) = ap (λ r. Plant n b r) (forest_of-trees_of s)

pub forest_of-planted : (ts : List OrderedTree) (t : OrderedTree) → forest_of (ts ++ t ∷ []) ≡ planted (forest_of ts) t
forest_of-planted [] t = refl
forest_of-planted (x ∷ ts) t = ap (λ r. Plant x.node x.below r) (forest_of-planted ts t)

pub nodes-planted : (f : Forest) (t : OrderedTree) → nodes (planted f t) ≡ nodes f + 1 + nodes t.below
nodes-planted Empty t = omega arith
nodes-planted (Plant n b s) t = omega (arith, nodes-planted s t)

-- trees without an attribute have no names of attributes
pub no_names : (f : Forest) → HasNoAttribute f → attribute_names f ≡ []
no_names Empty h = refl
no_names (Plant n b s) h = rw h.0 (no_names s h.1)
