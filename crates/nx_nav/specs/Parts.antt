-- What the inner functions read of the records: the pieces of a part of a layout, a node, a content.
use Rattle.std.specs.Prelude.{◌≡◌, ℕ, List, length, Option, Some}
use Rattle.nx_host.specs.declared.disk.Disk.{Ghosts}
use Rattle.nx_records.specs.Words.{Held}
use Rattle.nx_records.specs.Records.{StandsFor}
use Rattle.nx_records.specs.declared.records.Records.{Records}
use Rattle.nx_tree.specs.declared.node.Node.{Node}
use Rattle.nx_piece.specs.declared.piece.Far.{Far}
use Rattle.nx_piece.specs.declared.piece.Piece.{Piece}
use Rattle.nx_piece.specs.PieceNode.{PieceNode}
use Rattle.nx_cuts.specs.Cut.{Bare, Kept, width}
use Rattle.nx_layouts.specs.Layout.{RecordPlace, Layout, piece_of, shown_with, IsReadIn, AreHeld, AreLaidParts}
use Rattle.nx_hold.specs.Pieces.{PieceMap, held_by}

-- The records hold the pieces of all intervals of this layout, with the contents that they name, and its parts are as light as the settings want them.
pub record HasLayout {D : Type 0} (d : Ghosts D) (records : Records) (disk : D) (layout : Layout) : Type 0 where
  pub saved : Held
  pub now : Held
  pub stands : StandsFor d records disk saved now
  pub pieces : PieceMap now
  pub held : AreHeld (held_by pieces) layout
  pub light : AreLaidParts (now.settings).k layout

-- they hold an interval with these members in the record at a place
abbrev pub HasInterval : {D : Type 0} → Ghosts D → Records → D → RecordPlace → Layout → Type 0
HasInterval d records disk place members = HasLayout d records disk (Kept place members Bare)

-- of all that may be the members of the interval with the record at this place, so many of them, this is the piece
abbrev pub IsPieceAt : {D : Type 0} → Ghosts D → Records → D → RecordPlace → ℕ → Piece → Type 0
IsPieceAt d records disk place roots piece = (members : Layout) → HasInterval d records disk place members → width members ≡ roots → piece ≡ piece_of members

-- there is no interval of so many members with the record at this place
abbrev pub HasNoInterval : {D : Type 0} → Ghosts D → Records → D → RecordPlace → ℕ → Type 0
HasNoInterval d records disk place roots = (members : Layout) → HasInterval d records disk place members → width members ≡ roots → ⊥

-- The records hold this node where a record has it so: its content is far, and read in the list that this names, or it isn't.
pub record HasNode {D : Type 0} (d : Ghosts D) (records : Records) (disk : D) (shown : PieceNode) (node : Node) : Type 0 where
  pub saved : Held
  pub now : Held
  pub stands : StandsFor d records disk saved now
  pub list : Option ℕ
  pub same : shown ≡ shown_with node list
  pub read : IsReadIn now.lists (record { node = node; list = list })

-- The records hold this content in the list that is named so, and it is as long as that says.
pub record HasFarContent {D : Type 0} (d : Ghosts D) (records : Records) (disk : D) (far : Far) (bytes : List ℕ) : Type 0 where
  pub saved : Held
  pub now : Held
  pub stands : StandsFor d records disk saved now
  pub there : now.lists far.first ≡ Some bytes
  pub long : length bytes ≡ far.length
