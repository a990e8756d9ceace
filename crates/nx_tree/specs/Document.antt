-- What makes a tree a document.
use Rattle.std.specs.Prelude.{if◌then◌else◌, ◌≡◌, ℕ, ◌+◌, ◌≤◌, Bool, true, false, IsTrue, not, ◌&&◌, ◌||◌, ◌==◌, nat_lt, List, [], ◌∷◌, length, max, Contains}
use Rattle.std.specs.Bool.{MatchBool}
use Rattle.std.specs.List.{list_all}
use Rattle.nx_tree.specs.declared.node.Kind.{Kind}
use Rattle.nx_tree.specs.declared.node.Kind.TheVariants.{Doc, Element, Attribute, Text, Instruction}
use Rattle.nx_tree.specs.declared.node.Node.{Node}
use Rattle.nx_tree.specs.Forest.{OrderedTree, Forest, Empty, Plant, nodes}

-- the greatest number of bytes of a node's name and content together
abbrev pub longest_node : ℕ
longest_node = 1048576

-- the greatest depth of a node, where the root of a document has depth 0
abbrev pub deepest : ℕ
deepest = 256

-- the greatest number of nodes of a document, its root counted
abbrev pub most_nodes : ℕ
most_nodes = 524288

-- above a space, and none of # * / ? @ \
abbrev pub is_name_byte : ℕ → Bool
is_name_byte b = nat_lt 32 b && not (b == 35 || b == 42 || b == 47 || b == 63 || b == 64 || b == 92)

abbrev pub is_empty : List ℕ → Bool
is_empty [] = true
is_empty (b ∷ bs) = false

-- at least one byte, and each of them a byte of names
abbrev pub is_name : List ℕ → Bool
is_name name = not (is_empty name) && list_all is_name_byte name

abbrev pub is_element : Kind → Bool
is_element Element = true
is_element _ = false

abbrev pub is_attribute : Kind → Bool
is_attribute Attribute = true
is_attribute _ = false

abbrev pub is_instruction : Kind → Bool
is_instruction Instruction = true
is_instruction _ = false

abbrev pub is_doc : Kind → Bool
is_doc Doc = true
is_doc _ = false

-- which parts a node of this kind has, below the root of a document
abbrev pub HasParts : Kind → List ℕ → List ℕ → Type 0
HasParts Doc name content = ⊥
HasParts Element name content = IsTrue (is_name name) × (content ≡ [])
HasParts Attribute name content = IsTrue (is_name name)
HasParts Text name content = name ≡ []
HasParts Instruction name content = IsTrue (is_name name)

-- a node below the root of a document
pub record IsNode (node : Node) : Type 0 where
  pub parts : HasParts node.kind node.name node.content
  pub short : length node.name + length node.content ≤ longest_node

-- the names of the attributes among these trees
abbrev pub attribute_names : Forest → List (List ℕ)
attribute_names Empty = []
attribute_names (Plant node below beside) = if is_attribute node.kind then node.name ∷ attribute_names beside else attribute_names beside

-- none of these trees is an attribute
abbrev pub HasNoAttribute : Forest → Type 0
HasNoAttribute Empty = Unit {0}
HasNoAttribute (Plant node below beside) = (is_attribute node.kind ≡ false) × HasNoAttribute beside

-- no attribute stands after a tree that is none
abbrev pub AttributesComeFirst : Forest → Type 0
AttributesComeFirst Empty = Unit {0}
AttributesComeFirst (Plant node below beside) = MatchBool (is_attribute node.kind) (AttributesComeFirst beside) (HasNoAttribute beside)

-- no list comes twice
abbrev pub AreDistinct : List (List ℕ) → Type 0
AreDistinct [] = Unit {0}
AreDistinct (name ∷ names) = (¬ Contains names name) × AreDistinct names

-- what may stand below a node of this kind, the root of a document aside
abbrev pub MayHave : Kind → Forest → Type 0
MayHave Element below = AttributesComeFirst below × AreDistinct (attribute_names below)
MayHave _ below = below ≡ Empty

-- each node of a forest, at every depth, is a node of a document and has below it what it may have
abbrev pub IsForest : Forest → Type 0
IsForest Empty = Unit {0}
IsForest (Plant node below beside) = IsNode node × MayHave node.kind below × IsForest below × IsForest beside

-- elements and instructions alone
abbrev pub IsTop : Forest → Type 0
IsTop Empty = Unit {0}
IsTop (Plant node below beside) = IsTrue (is_element node.kind || is_instruction node.kind) × IsTop beside

-- how many of these trees are elements
abbrev pub element_count : Forest → ℕ
element_count Empty = 0
element_count (Plant node below beside) = (if is_element node.kind then 1 else 0) + element_count beside

-- the greatest depth in a forest whose trees have depth 1
abbrev pub depth : Forest → ℕ
depth Empty = 0
depth (Plant node below beside) = max (1 + depth below) (depth beside)

-- a root over instructions and exactly one element, within the limits
pub record IsDocument (tree : OrderedTree) : Type 0 where
  pub root : tree.node.kind ≡ Doc
  pub unnamed : tree.node.name ≡ []
  pub bare : tree.node.content ≡ []
  pub top : IsTop tree.below
  pub one : element_count tree.below ≡ 1
  pub forest : IsForest tree.below
  pub shallow : depth tree.below ≤ deepest
  pub small : 1 + nodes tree.below ≤ most_nodes
