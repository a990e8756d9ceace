-- A node of a piece. Its content stands in the record, near, or in a list of bytes of its own, far.
use Rattle.std.specs.Prelude.{◌≡◌, ℕ, ◌+◌, ◌<◌, ◌≤◌, List, [], ◌++◌, length, Option, None, Some, refl}
use Rattle.std.specs.Int.{w32, to_be_bytes, div_ceil}
use Rattle.std.specs.Coded.{Coded, code_by, coded×, coded_ℕ, coded_option}
use Rattle.nx_tree.specs.declared.node.Node.{Node}
use Rattle.nx_tree.specs.Forest.{node_code}
use Rattle.nx_tree.specs.Document.{longest_node}
use Rattle.nx_weights.specs.Weight.{longest_near, weight_of}
use Rattle.nx_piece.specs.declared.piece.Far.{Far}

-- the node and, where its content is far, where that stands; the node's own content is empty then
pub record PieceNode : Type 0 where
  pub node : Node
  pub far : Option Far

-- the node with its content near
abbrev pub near : Node → PieceNode
near node = record { node = node; far = None }

-- how many bytes the content has, wherever it stands
abbrev pub length_with : ℕ → Option Far → ℕ
length_with own None = own
length_with own (Some far) = far.length

abbrev pub content_length : PieceNode → ℕ
content_length node = length_with (length node.node.content) node.far

-- the first page of the list, and the length of the content
abbrev pub far_bytes : Far → List ℕ
far_bytes far = to_be_bytes w32 far.first ++ to_be_bytes w32 far.length

-- the bytes of the content's place in the node's item
abbrev pub content_with : List ℕ → Option Far → List ℕ
content_with own None = own
content_with own (Some far) = far_bytes far

abbrev pub item_content : PieceNode → List ℕ
item_content node = content_with node.node.content node.far

-- what the node weighs
abbrev pub node_weight : PieceNode → ℕ
node_weight node = weight_of (length node.node.name) (content_length node)

-- the size of the node's item, in slots of 8 bytes: one for its numbers, and those that the name and the content's place fill together
abbrev pub item_slots : PieceNode → ℕ
item_slots node = 1 + div_ceil (length node.node.name + length (item_content node)) 8

-- a far content is longer than a near one is written, and no longer than a node may be; the node's own is empty then
abbrev pub IsFarWith : List ℕ → Option Far → Type 0
IsFarWith own None = Unit {0}
IsFarWith own (Some far) = (own ≡ []) × (longest_near < far.length) × (far.length ≤ longest_node)

abbrev pub MayBeFar : PieceNode → Type 0
MayBeFar node = IsFarWith node.node.content node.far

-- a near content is no longer than one that is written near
abbrev pub IsNearWith : List ℕ → Option Far → Type 0
IsNearWith own None = length own ≤ longest_near
IsNearWith own (Some far) = Unit {0}

-- the page fits its field
abbrev pub HasFarPage : Option Far → Type 0
HasFarPage None = Unit {0}
HasFarPage (Some far) = far.first < 4294967296

-- the name and the content have each at most the bytes that a node may have in a document
abbrev pub IsShortNode : PieceNode → Type 0
IsShortNode node = (length node.node.name ≤ longest_node) × (content_length node ≤ longest_node)

abbrev pub far_code : Coded Far
far_code = code_by (ℕ × ℕ) (coded× coded_ℕ coded_ℕ) (λ f. (f.first, f.length)) (λ p. record { first = p.0; length = p.1 }) (λ _. refl)

abbrev pub piece_node_code : Coded PieceNode
piece_node_code = code_by (Node × Option Far) (coded× node_code (coded_option far_code)) (λ n. (n.node, n.far)) (λ p. record { node = p.0; far = p.1 }) (λ _. refl)
