-- Trees as contracts see them. A tree is a node and the forest below it. A forest is empty, or a node with the forest below it and the forest beside it.
use Rattle.std.specs.Prelude.{◌≡◌, ℕ, ◌+◌, ◌*◌, ◌≤◌, List, [], ◌∷◌, Option, None, Some, refl}
use Rattle.std.specs.Coded.{Coded, code_by, coded×, coded_ℕ, coded_list, coded_option}
use Rattle.std.proofs.Common.{zero, suc, arith, ap, ◌∙◌}
use denote.Param.Weighed.{most}
use Rattle.nx_tree.specs.declared.node.Kind.{Kind}
use Rattle.nx_tree.specs.declared.node.Kind.TheVariants.{Doc, Element, Attribute, Text, Instruction}
use Rattle.nx_tree.specs.declared.node.Node.{Node}

-- a list of trees
pub data Forest : Type 0 where
  Empty : Forest
  Plant : (node : Node) (below beside : Forest) → Forest

-- a node and the trees that are its children
pub record OrderedTree : Type 0 where
  pub node : Node
  pub below : Forest

-- the forest of these trees
abbrev pub forest_of : List OrderedTree → Forest
forest_of [] = Empty
forest_of (t ∷ ts) = Plant t.node t.below (forest_of ts)

-- the trees of a forest, in order
abbrev pub trees_of : Forest → List OrderedTree
trees_of Empty = []
trees_of (Plant node below beside) = record { node = node; below = below } ∷ trees_of beside

-- the forest with one more tree, as the last one
abbrev pub planted : Forest → OrderedTree → Forest
planted Empty tree = Plant tree.node tree.below Empty
planted (Plant node below beside) tree = Plant node below (planted beside tree)

-- how many nodes a forest has
abbrev pub nodes : Forest → ℕ
nodes Empty = 0
nodes (Plant node below beside) = 1 + nodes below + nodes beside

-- no tree has more nodes than the forest that it stands in
pub most_le_nodes : (ts : List OrderedTree) → most (λ t. 2 * (1 + nodes t.below) + 1) ts ≤ 2 * nodes (forest_of ts) + 1
most_le_nodes [] = omega arith
most_le_nodes (t ∷ ts) = omega (arith, most_le_nodes ts)

-- a number for each kind
abbrev pub number_of : Kind → ℕ
number_of Doc = 0
number_of Element = 1
number_of Attribute = 2
number_of Text = 3
number_of Instruction = 4

abbrev pub kind_of : ℕ → Kind
kind_of zero = Doc
kind_of (suc zero) = Element
kind_of (suc (suc zero)) = Attribute
kind_of (suc (suc (suc zero))) = Text
kind_of (suc (suc (suc (suc n)))) = Instruction

pub kind_again : (k : Kind) → kind_of (number_of k) ≡ k
kind_again Doc = refl
kind_again Element = refl
kind_again Attribute = refl
kind_again Text = refl
kind_again Instruction = refl

-- a node is stored as its kind's number, its name and its content
abbrev pub node_code : Coded Node
node_code = code_by (ℕ × (List ℕ × List ℕ)) (coded× coded_ℕ (coded× (coded_list coded_ℕ) (coded_list coded_ℕ)))
    (λ n. (number_of n.kind, (n.name, n.content)))
    (λ p. record { kind = kind_of p.0; name = p.1.0; content = p.1.1 })
    (λ n. ap (λ (k : Kind). record { kind = k; name = n.name; content = n.content }) (kind_again n.kind))

-- a forest as a list: each node before what is below it and then what is beside it, and a mark for each empty forest
abbrev pub spelled : Forest → List (Option Node) → List (Option Node)
spelled Empty rest = None ∷ rest
spelled (Plant node below beside) rest = Some node ∷ spelled below (spelled beside rest)

abbrev pub plant_first : Node → List Forest → List Forest
plant_first node (below ∷ beside ∷ rest) = Plant node below beside ∷ rest
plant_first node _ = []

-- the forests that such a list spells
abbrev pub unspelled : List (Option Node) → List Forest
unspelled [] = []
unspelled (None ∷ rest) = Empty ∷ unspelled rest
unspelled (Some node ∷ rest) = plant_first node (unspelled rest)

pub unspelled-spelled : (f : Forest) (rest : List (Option Node)) → unspelled (spelled f rest) ≡ f ∷ unspelled rest
unspelled-spelled Empty rest = refl
unspelled-spelled (Plant node below beside) rest =
    ap (plant_first node) (unspelled-spelled below (spelled beside rest) ∙ ap (λ r. below ∷ r) (unspelled-spelled beside rest))

abbrev pub first_forest : List Forest → Forest
first_forest [] = Empty
first_forest (f ∷ fs) = f

abbrev pub forest_code : Coded Forest
forest_code = code_by (List (Option Node)) (coded_list (coded_option node_code)) (λ f. spelled f [])
    (λ s. first_forest (unspelled s)) (λ f. ap first_forest (unspelled-spelled f []))

abbrev pub tree_code : Coded OrderedTree
tree_code = code_by (Node × Forest) (coded× node_code forest_code) (λ t. (t.node, t.below))
    (λ p. record { node = p.0; below = p.1 }) (λ _. refl)
