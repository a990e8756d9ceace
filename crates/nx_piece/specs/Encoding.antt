-- The bytes of a stored piece: a head, the items in document order, and for the inline form the proxies.
use Rattle.std.specs.Prelude.{ℕ, ◌+◌, ◌-◌, ◌*◌, List, [], ◌∷◌, ◌++◌, length, Option, None, Some}
use Rattle.std.specs.Int.{w16, w32, to_be_bytes, div_ceil}
use Rattle.std.proofs.Math.ListN.{replicate}
use Rattle.nx_tree.specs.declared.node.Kind.{Kind}
use Rattle.nx_tree.specs.declared.node.Kind.TheVariants.{Doc, Element, Attribute, Text, Instruction}
use Rattle.nx_piece.specs.declared.piece.Far.{Far}
use Rattle.nx_piece.specs.declared.piece.Proxy.{Proxy}
use Rattle.nx_piece.specs.declared.piece.Stored.{Stored}
use Rattle.nx_piece.specs.declared.piece.Stored.TheVariants.{Inline, Chained}
use Rattle.nx_piece.specs.PieceNode.{PieceNode, item_content}
use Rattle.nx_piece.specs.Gapped.{Gapped, GappedTree, End, Grow, Gap, gapped_width, item_count}

-- a number in two bytes, the highest first
abbrev pub two_bytes : ℕ → List ℕ
two_bytes n = to_be_bytes w16 n

-- a number in four bytes, the highest first
abbrev pub four_bytes : ℕ → List ℕ
four_bytes n = to_be_bytes w32 n

-- the byte for each kind
abbrev pub kind_byte : Kind → ℕ
kind_byte Doc = 1
kind_byte Element = 2
kind_byte Attribute = 3
kind_byte Text = 4
kind_byte Instruction = 5

-- how many bytes follow n bytes up to a multiple of 8
abbrev pub padding : ℕ → ℕ
padding n = 8 * div_ceil n 8 - n

-- a name and what stands in the content's place, with zero bytes behind them
abbrev pub content_bytes : (name content : List ℕ) → List ℕ
content_bytes name content = name ++ content ++ replicate (padding (length name + length content)) 0

-- whether the content is far, as a byte
abbrev pub far_byte : Option Far → ℕ
far_byte None = 0
far_byte (Some far) = 1

-- the numbers of a node: its kind, whether its content is far, how many bytes its name and its content's place have, and how many child items it has
abbrev pub node_head_bytes : (kind : Kind) (far name content items : ℕ) → List ℕ
node_head_bytes kind far name content items = kind_byte kind ∷ far ∷ two_bytes name ++ two_bytes content ++ two_bytes items

-- a node with its number of child items
abbrev pub node_bytes : PieceNode → ℕ → List ℕ
node_bytes node items =
    node_head_bytes node.node.kind (far_byte node.far) (length node.node.name) (length (item_content node)) items ++ content_bytes node.node.name (item_content node)

-- a run of proxies
abbrev pub run_bytes : ℕ → List ℕ
run_bytes count = 6 ∷ 0 ∷ 0 ∷ 0 ∷ four_bytes count

-- the items in document order, a node before its child items
abbrev pub items_bytes : Gapped → List ℕ
items_bytes End = []
items_bytes (Grow node below beside) = node_bytes node (gapped_width below) ++ items_bytes below ++ items_bytes beside
items_bytes (Gap count beside) = run_bytes count ++ items_bytes beside

abbrev pub tree_bytes : GappedTree → List ℕ
tree_bytes tree = node_bytes tree.node (gapped_width tree.below) ++ items_bytes tree.below

abbrev pub proxy_bytes : Proxy → List ℕ
proxy_bytes proxy = four_bytes proxy.page ++ two_bytes proxy.slot ++ two_bytes proxy.roots

-- the proxies in order
abbrev pub proxies_bytes : List Proxy → List ℕ
proxies_bytes [] = []
proxies_bytes (proxy ∷ proxies) = proxy_bytes proxy ++ proxies_bytes proxies

-- the form, and how many roots and items there are
abbrev pub items_head_bytes : (form roots items : ℕ) → List ℕ
items_head_bytes form roots items = form ∷ 0 ∷ two_bytes roots ++ four_bytes items

-- how many proxies there are and, where they stand elsewhere, the first page of their chain
abbrev pub proxies_head_bytes : (proxies chain : ℕ) → List ℕ
proxies_head_bytes proxies chain = four_bytes proxies ++ four_bytes chain

abbrev pub head_bytes : (form roots items proxies chain : ℕ) → List ℕ
head_bytes form roots items proxies chain = items_head_bytes form roots items ++ proxies_head_bytes proxies chain

abbrev pub body_bytes : (form : ℕ) (roots : Gapped) (proxies chain : ℕ) → List ℕ
body_bytes form roots proxies chain = head_bytes form (gapped_width roots) (item_count roots) proxies chain ++ items_bytes roots

-- the bytes of a record
abbrev pub encoding : Stored → List ℕ
encoding (Inline piece) = body_bytes 1 piece.body.roots (length piece.proxies) 0 ++ proxies_bytes piece.proxies
encoding (Chained body count chain) = body_bytes 2 body.roots count chain
