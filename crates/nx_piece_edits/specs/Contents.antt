-- What a change leaves and brings of the contents of a piece.
use Rattle.std.specs.Prelude.{◌≡◌, ◌⊎◌, ℕ, List, Option, Some}
use Rattle.std.specs.List.{Contains}
use Rattle.nx_piece.specs.declared.piece.Far.{Far}
use Rattle.nx_piece.specs.declared.piece.Piece.{Piece}
use Rattle.nx_piece.specs.declared.piece.Proxy.{Proxy}
use Rattle.nx_piece.specs.PieceNode.{PieceNode, IsNearWith}
use Rattle.nx_piece.specs.Contents.{fars_in}
use Rattle.nx_piece.specs.Gapped.{Gapped, End, Grow}
use Rattle.nx_piece.specs.Valid.{AreNear}
use Rattle.nx_piece_edits.specs.declared.cutting.Removed.{Removed}
use Rattle.nx_piece_edits.specs.Cutting.{IsWithoutTree, IsWithoutProxy, IsWithItems, IsWithRow}
use Rattle.nx_piece_edits.specs.Dividing.{AreDivided}
use Rattle.nx_piece_edits.specs.Planting.{IsWithNode, IsWithProxyAt, IsWithRoot}
use Rattle.nx_piece_edits.specs.Setting.{node_with_content, IsWithContent}

-- each far content was there before, and where no near one was too long none is
pub record KeepsContents (was now : Gapped) : Type 0 where
  pub fars : (far : Far) → Contains (fars_in now) far → Contains (fars_in was) far
  pub near : AreNear was → AreNear now

-- each far content was there before, but for the node's own; and where neither the node's own nor one before was near and too long none is
pub record BringsContent (node : PieceNode) (was now : Gapped) : Type 0 where
  pub fars : (far : Far) → Contains (fars_in now) far → (node.far ≡ Some far) ⊎ Contains (fars_in was) far
  pub near : IsNearWith node.node.content node.far → AreNear was → AreNear now

-- each far content was there before or is one of what came, and where no near one of these was too long none is
pub record BringsContents (come was now : Gapped) : Type 0 where
  pub fars : (far : Far) → Contains (fars_in now) far → Contains (fars_in come) far ⊎ Contains (fars_in was) far
  pub near : AreNear come → AreNear was → AreNear now

-- Where something is taken out of a piece, or a proxy comes, the far contents are those that were there.
pub record EditsKeepContents : Type 0 where
  pub tree_goes : (piece : Piece) (member : ℕ) (path : List ℕ) (removed : Removed) → IsWithoutTree piece member path removed
      → KeepsContents piece.body.roots removed.rest.body.roots × KeepsContents piece.body.roots (Grow removed.tree.node removed.tree.below End)
  pub proxy_goes : (piece : Piece) (index : ℕ) (rest : Piece) → IsWithoutProxy piece index rest → KeepsContents piece.body.roots rest.body.roots
  pub row_comes : (piece : Piece) (index : ℕ) (row : List Proxy) (changed : Piece) → IsWithRow piece index row changed → KeepsContents piece.body.roots changed.body.roots
  pub proxy_comes : (piece : Piece) (member : ℕ) (path : List ℕ) (position index : ℕ) (proxy : Proxy) (grown : Piece) → IsWithProxyAt piece member path position index proxy grown → KeepsContents piece.body.roots grown.body.roots
  pub divided : (piece : Piece) (member : ℕ) (parts : Piece × Piece) → AreDivided piece member parts
      → KeepsContents piece.body.roots parts.0.body.roots × KeepsContents piece.body.roots parts.1.body.roots

-- Where a node comes into a piece, or its content is another, the node's own comes beside those that were there, and where items come theirs do.
pub record EditsBringContent : Type 0 where
  pub content_set : (piece : Piece) (member : ℕ) (path content : List ℕ) (far : Option Far) (changed : Piece) → (h : IsWithContent piece member path content far changed)
      → BringsContent (node_with_content content far h.tree.node) piece.body.roots changed.body.roots
  pub node_comes : (piece : Piece) (member : ℕ) (path : List ℕ) (position : ℕ) (node : PieceNode) (grown : Piece) → IsWithNode piece member path position node grown → BringsContent node piece.body.roots grown.body.roots
  pub root_comes : (piece : Piece) (member : ℕ) (node : PieceNode) (grown : Piece) → IsWithRoot piece member node grown → BringsContent node piece.body.roots grown.body.roots
  pub items_come : (piece : Piece) (index : ℕ) (items : Gapped) (proxies : List Proxy) (changed : Piece) → IsWithItems piece index items proxies changed → BringsContents items piece.body.roots changed.body.roots
