-- A document that was stored with its partitioning.
use Rattle.std.specs.Prelude.{◌≡◌, ℕ, ◌+◌, ◌*◌, List, IsPermutation}
use Rattle.nx_tree.specs.Forest.{OrderedTree, nodes}
use Rattle.nx_parts.specs.declared.interval.Interval.{Interval}
use Rattle.nx_records.specs.Words.{Held}
use Rattle.nx_cuts.specs.Cut.{CutTree, tree_of, parts_of}
use Rattle.nx_layouts.specs.Layout.{RecordPlace, Layout, places_of, contents_of, whole, AreOnce, IsLaidOutAs}
use Rattle.nx_hold.specs.Pieces.{PieceMap, held_by}
use Rattle.nx_hold.specs.Contents.{tree_pages}
use Rattle.nx_hold.specs.Documents.{AddsRecords}

-- how many pages a document may take: two for each node, and those of the contents that are too long for their items
abbrev pub store_needs : OrderedTree → ℕ
store_needs tree = 2 * (1 + nodes tree.below) + tree_pages tree

-- The tree was stored as a document with these intervals, from the record at this place on: for each interval one record came, and a list for each content that is too long for its
-- item.
pub record StoresDocument (tree : OrderedTree) (parts : List Interval) (root : RecordPlace) (was now : Held) : Type 0 where
  pub document : CutTree
  pub tree_is : tree_of document ≡ tree
  pub parts_are : IsPermutation (parts_of document) parts
  pub layout : Layout
  pub laid : (pieces : PieceMap now) → IsLaidOutAs (held_by pieces) root document layout
  pub adds : AddsRecords (places_of (whole root document.node layout)) (contents_of layout) (store_needs tree) was now
  pub contents_once : AreOnce (contents_of layout)
