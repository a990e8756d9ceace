-- Nodes that a document may have.
use Rattle.std.specs.Prelude.{◌≡◌, ◌+◌, ◌≤◌, ◌||◌, ℕ, false, IsTrue, List, [], length}
use Rattle.nx_tree.specs.declared.node.Kind.{Kind}
use Rattle.nx_tree.specs.declared.node.Kind.TheVariants.{Doc, Element, Attribute, Text, Instruction}
use Rattle.nx_tree.specs.declared.node.Node.{Node}
use Rattle.nx_tree.specs.Forest.{Forest, Empty, Plant}
use Rattle.nx_tree.specs.Document.{is_element, is_instruction, is_name, longest_node, IsNode, IsTop, IsForest}
use Rattle.nx_tree.specs.Edit.{has_children}
use Rattle.nx_piece.specs.PieceNode.{content_length}
use Rattle.nx_piece.specs.Gapped.{GappedTree, End}

-- the root of a document
abbrev pub IsRoot : Node → Type 0
IsRoot node = (node.kind ≡ Doc) × (node.name ≡ []) × (node.content ≡ [])

-- A document may have the node at this depth.
pub record CanBe (depth : ℕ) (node : Node) : Type 0 where
  pub root : depth ≡ 0 → IsRoot node
  pub top : depth ≡ 1 → IsTrue (is_element node.kind || is_instruction node.kind)
  pub below : 1 ≤ depth → IsNode node

-- a node of this kind may have such a name and a content of so many bytes
abbrev pub MayHaveParts : Kind → (name : List ℕ) → (long : ℕ) → Type 0
MayHaveParts Doc name long = ⊥
MayHaveParts Element name long = IsTrue (is_name name) × (long ≡ 0)
MayHaveParts Attribute name long = IsTrue (is_name name)
MayHaveParts Text name long = name ≡ []
MayHaveParts Instruction name long = IsTrue (is_name name)

-- A document may have a node of this kind and with this name at this depth, with whatever content of so many bytes.
pub record CanBeWith (depth : ℕ) (kind : Kind) (name : List ℕ) (long : ℕ) : Type 0 where
  pub root : depth ≡ 0 → (kind ≡ Doc) × (name ≡ []) × (long ≡ 0)
  pub top : depth ≡ 1 → IsTrue (is_element kind || is_instruction kind)
  pub below : 1 ≤ depth → MayHaveParts kind name long × (length name + long ≤ longest_node)

-- a document may have the root of this tree of a piece there, wherever its content stands, and trees below it only where its kind may have some
abbrev pub CanBeTree : ℕ → GappedTree → Type 0
CanBeTree depth tree = CanBeWith depth tree.node.node.kind tree.node.node.name (content_length tree.node) × (has_children tree.node.node.kind ≡ false → tree.below ≡ End)

-- whole documents, but for the number of elements right below the root
abbrev pub AreRooted : Forest → Type 0
AreRooted Empty = Unit {0}
AreRooted (Plant node below beside) = IsRoot node × IsTop below × IsForest below × AreRooted beside

-- A document may have these trees at this depth.
pub record CanStand (depth : ℕ) (trees : Forest) : Type 0 where
  pub rooted : depth ≡ 0 → AreRooted trees
  pub top : depth ≡ 1 → IsTop trees
  pub forest : 1 ≤ depth → IsForest trees
