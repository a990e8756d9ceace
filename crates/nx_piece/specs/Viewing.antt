-- What contracts see of the views of a record.
use Rattle.std.specs.Prelude.{Option, None, Some}
use Rattle.nx_piece.specs.declared.piece.Stored.{Stored}
use Rattle.nx_piece.specs.declared.piece.Stored.TheVariants as stored
use Rattle.nx_piece.specs.declared.viewing.ItemsView.{ItemsView}
use Rattle.nx_piece.specs.declared.viewing.TreeView.{TreeView}
use Rattle.nx_piece.specs.declared.viewing.ItemView.{ItemView}
use Rattle.nx_piece.specs.declared.viewing.ItemView.TheVariants.{Tree, Run}
use Rattle.nx_piece.specs.declared.viewing.StoredView.{StoredView}
use Rattle.nx_piece.specs.declared.viewing.StoredView.TheVariants.{Inline, Chained}
use Rattle.nx_piece.specs.Gapped.{Gapped, GappedTree, Grow, Gap}
use Rattle.nx_piece.specs.Flat.{seen_node, unflattened}

-- the forest with gaps that stands there
abbrev pub seen_items : ItemsView → Gapped
seen_items view = unflattened view.items.now

-- the node with what is below it
abbrev pub seen_tree : TreeView → GappedTree
seen_tree tree = record { node = seen_node tree.node; below = seen_items tree.children }

-- an item before others
abbrev pub begun_with : ItemView → Gapped → Gapped
begun_with (Tree tree) beside = Grow (seen_node tree.node) (seen_items tree.children) beside
begun_with (Run count) beside = Gap count beside

-- the piece as it is stored
abbrev pub seen_stored : StoredView → Stored
seen_stored (Inline piece) = stored.Inline piece
seen_stored (Chained body count chain) = stored.Chained body count chain

-- the piece that was read, if one was
abbrev pub viewed : Option StoredView → Option Stored
viewed None = None
viewed (Some view) = Some (seen_stored view)
