-- Trees of a document as the items of a record show them.
use Rattle.std.specs.Prelude.{◌≡◌, ◌+◌, ℕ, max, length}
use Rattle.nx_tree.specs.declared.node.Node.{Node}
use Rattle.nx_tree.specs.Forest.{Forest, Empty, Plant}
use Rattle.nx_piece.specs.PieceNode.{PieceNode, content_length}
use Rattle.nx_piece.specs.Gapped.{Gapped, End, Grow, Gap}

-- The item shows the node, but for a content that stands in a list: of that it says how long it is.
pub record IsShownBy (item : PieceNode) (node : Node) : Type 0 where
  pub kind : node.kind ≡ item.node.kind
  pub name : node.name ≡ item.node.name
  pub long : length node.content ≡ content_length item

-- Items show trees; of those that other records have they show none.
abbrev pub AreShownBy : Gapped → Forest → Type 0
AreShownBy (Gap count beside) trees = AreShownBy beside trees
AreShownBy End Empty = Unit {0}
AreShownBy (Grow item below beside) (Plant node inner outer) = IsShownBy item node × AreShownBy below inner × AreShownBy beside outer
AreShownBy _ _ = ⊥

-- the greatest depth of the items' nodes, where the first ones have depth 1
abbrev pub gapped_depth : Gapped → ℕ
gapped_depth End = 0
gapped_depth (Grow item below beside) = max (1 + gapped_depth below) (gapped_depth beside)
gapped_depth (Gap count beside) = gapped_depth beside
