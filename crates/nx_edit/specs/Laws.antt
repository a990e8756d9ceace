-- What edits and the pages that they may need have to do with each other.
use Rattle.std.specs.Prelude.{◌≡◌, ℕ, ◌+◌, true, false, List, None, Some}
use Rattle.std.specs.List.{sum_by}
use Rattle.nx_tree.specs.declared.node.Node.{Node}
use Rattle.nx_tree.specs.Forest.{OrderedTree}
use Rattle.nx_tree.specs.Document.{IsDocument}
use Rattle.nx_tree.specs.Edit.{at, put, cut_at, retext, insert_refusal}
use Rattle.nx_cuts.specs.Cut.{CutTree, tree_of}
use Rattle.nx_layouts.specs.Layout.{LaidNode, Layout, nodes_in, without_places}
use Rattle.nx_hold.specs.Contents.{bytes_pages, content_pages, tree_pages}
use Rattle.nx_edit.specs.Editing.{nodes_off}
use Rattle.nx_edit.specs.Refusals.{deletion_fault}

-- how many pages the long contents of these nodes take, where each of them is far
abbrev pub kept_pages : List LaidNode → ℕ
kept_pages kept = sum_by (λ n. content_pages n.node) kept

-- The nodes that an edit keeps in a layout of a document, with what it puts, have the long contents of the document behind it, neither more nor fewer pages of them.
abbrev pub EditsCountPages : Type 0
EditsCountPages = (document : CutTree) (layout : Layout) → IsDocument (tree_of document) → without_places layout ≡ document.below
    → ((path : List ℕ) → deletion_fault path (tree_of document) ≡ None → tree_pages (cut_at path (tree_of document)) ≡ kept_pages (nodes_off false path layout))
    × ((path content : List ℕ) (t : OrderedTree) → at (tree_of document) path ≡ Some t → tree_pages (retext content path (tree_of document)) ≡ kept_pages (nodes_off true path layout) + bytes_pages content)
    × ((path : List ℕ) (node : Node) → insert_refusal node path (tree_of document) ≡ None → tree_pages (put node path (tree_of document)) ≡ kept_pages (nodes_in layout) + content_pages node)
