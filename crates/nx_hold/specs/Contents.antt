-- Contents that records name, and the room that they take.
use Rattle.std.specs.Prelude.{◌≡◌, ℕ, ◌+◌, ◌<◌, ◌≤◌, nat_le, if◌then◌else◌, List, length, Option, None, Some, Contains}
use Rattle.std.specs.Option.{option_map_or, MatchOption}
use Rattle.std.specs.List.{sum_by}
use Rattle.nx_tree.specs.declared.node.Node.{Node}
use Rattle.nx_tree.specs.Forest.{Forest, Empty, Plant, OrderedTree}
use Rattle.nx_records.specs.Words.{Held, chain_count}
use Rattle.nx_records.specs.Changes.{LacksList, WritesList, FreesList}
use Rattle.nx_piece.specs.declared.piece.Far.{Far}
use Rattle.nx_weights.specs.Weight.{longest_near}
use Rattle.nx_piece.specs.PieceNode.{PieceNode}
use Rattle.nx_piece.specs.Gapped.{Gapped, End, Grow, Gap}
use Rattle.nx_layouts.specs.Layout.{RecordPlace, LaidNode, in_record, AreOnce}
use Rattle.nx_hold.specs.Pieces.{NamesAny, IsNamedNowhere, IsNoProxies, HasContent}

-- so many chain pages a content takes, if it is too long for an item
abbrev pub bytes_pages : List ℕ → ℕ
bytes_pages content = if nat_le (length content) longest_near then 0 else chain_count (length content)

abbrev pub content_pages : Node → ℕ
content_pages node = bytes_pages node.content

-- ... and those of all nodes of a forest, of a tree
abbrev pub forest_pages : Forest → ℕ
forest_pages Empty = 0
forest_pages (Plant node below beside) = content_pages node + forest_pages below + forest_pages beside

abbrev pub tree_pages : OrderedTree → ℕ
tree_pages tree = content_pages tree.node + forest_pages tree.below

-- so many the long contents of these nodes would take that have no list
abbrev pub near_pages : List LaidNode → ℕ
near_pages nodes = sum_by (λ n. option_map_or (λ first. 0) n.list (content_pages n.node)) nodes

-- ... and of the nodes of a piece
abbrev pub near_in : Gapped → ℕ
near_in End = 0
near_in (Grow node below beside) = option_map_or (λ far. 0) node.far (content_pages node.node) + near_in below + near_in beside
near_in (Gap count beside) = near_in beside

-- No list of these contents comes twice, none is named by a record elsewhere than at these places, and none holds a record's proxies.
pub record AreOwn (held : Held) (places : List RecordPlace) (contents : List ℕ) : Type 0 where
  pub once : AreOnce contents
  pub alone : (first : ℕ) → Contains contents first → (place : RecordPlace) → NamesAny held place first → Contains places place
  pub apart : (first : ℕ) → Contains contents first → IsNoProxies held first

-- a node as its item has it: with its content in some list, or in none
abbrev pub IsItemOfNode : Node → PieceNode → Type 0
IsItemOfNode node made = (list : Option ℕ) × (made ≡ in_record (record { node = node; list = list }))

-- The node is held so: a content that is too long for its item was written as a list, and any other stays with it.
pub record IsNodeHeld (node : Node) (made : PieceNode) (was now : Held) : Type 0 where
  pub list : Option ℕ
  pub made_is : made ≡ in_record (record { node = node; list = list })
  pub near : list ≡ None → (length node.content ≤ longest_near) × (now ≡ was)
  pub far : (first : ℕ) → list ≡ Some first → (longest_near < length node.content) × WritesList first node.content was now

-- the node's content, as it stands in its item or in its list
abbrev pub IsContentOf : Held → PieceNode → List ℕ → Type 0
IsContentOf held n bytes = MatchOption n.far (bytes ≡ n.node.content) (λ far. held.lists far.first ≡ Some bytes)

-- the node's content is far, and no list of its length is there
abbrev pub LacksContent : Held → PieceNode → Type 0
LacksContent held n = (far : Far) × (n.far ≡ Some far) × LacksList held far.first far.length

-- the node's content, where it is far, is a list that is there
abbrev pub HasItsContent : Held → PieceNode → Type 0
HasItsContent held n = (far : Far) → n.far ≡ Some far → HasContent held far

-- ... and that no record names
abbrev pub IsUnnamed : Held → PieceNode → Type 0
IsUnnamed held n = (far : Far) → n.far ≡ Some far → HasContent held far × IsNamedNowhere held far.first

-- the node's list was taken away, where its content is far
abbrev pub FreesContent : PieceNode → Held → Held → Type 0
FreesContent n was now = MatchOption n.far (now ≡ was) (λ far. FreesList far.first was now)

-- the first page of the node's list, 0 where its content is near; and how many pages it stands on
abbrev pub content_page : PieceNode → ℕ
content_page n = option_map_or (λ far. far.first) n.far 0

abbrev pub far_pages : PieceNode → ℕ
far_pages n = option_map_or (λ far. chain_count far.length) n.far 0
