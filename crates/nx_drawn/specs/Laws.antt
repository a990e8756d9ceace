-- The laws of edits and splits.
use Rattle.std.specs.Prelude.{◌≡◌, ◌↔◌, ◌-◌, ◌≤◌, ℕ, List, Option}
use Rattle.nx_tree.specs.declared.node.Node.{Node}
use Rattle.nx_tree.specs.Edit.{put, cut_at, retext}
use Rattle.nx_cuts.specs.Cut.{CutForest, CutTree, AreParts, part_weight, tree_of}
use Rattle.nx_cuts.specs.Rows.{joined_row}
use Rattle.nx_matrix.specs.declared.rule.Entry.{Entry}
use Rattle.nx_matrix.specs.declared.rule.Rule.{Rule}
use Rattle.nx_holdings.specs.declared.header.Settings.{Settings}
use Rattle.nx_layouts.specs.Layout.{RecordPlace, LaidNode, Layout, piece_of, without_places}
use Rattle.nx_split.specs.Piece.{placed_of}
use Rattle.nx_drawn.specs.Edits.{planted_row, removed_row, inserted, deleted, retexted}
use Rattle.nx_drawn.specs.Growth.{IsHeavyOnce}
use Rattle.nx_drawn.specs.Splits.{part_nodes, Divides, SplitsRow, whole_document, Splits}

-- An edit of what is drawn is the edit of the tree.
pub record EditsAreOfTrees (k : ℕ) (document : CutTree) : Type 0 where
  pub insert : (rules : List Rule) (node : Node) (path : List ℕ) → tree_of (inserted rules node path document) ≡ put node path (tree_of document)
  pub delete : (path : List ℕ) → tree_of (deleted path document) ≡ cut_at path (tree_of document)
  pub retext : (content path : List ℕ) → tree_of (retexted content path document) ≡ retext content path (tree_of document)

abbrev pub DrawnEditsAreEdits : Type 0
DrawnEditsAreEdits = (k : ℕ) (document : CutTree) → AreParts k (whole_document document) → EditsAreOfTrees k document

-- Behind an edit with its splits each interval has members of its own, and no part is too heavy.
pub record EditsStayLight (settings : Settings) (document : CutTree) : Type 0 where
  pub insert : (rules : List Rule) (node : Node) (path : List ℕ) (new : CutTree) → Splits settings rules (inserted rules node path document) new → AreParts settings.k (whole_document new)
  pub delete : (path : List ℕ) → AreParts settings.k (whole_document (deleted path document))
  pub retext : (rules : List Rule) (content path : List ℕ) (new : CutTree) → Splits settings rules (retexted content path document) new → AreParts settings.k (whole_document new)

abbrev pub DrawnEditsStayLight : Type 0
DrawnEditsStayLight = (settings : Settings) (document : CutTree) → AreParts settings.k (whole_document document) → EditsStayLight settings document

-- A split leaves the tree as it is.
abbrev pub SplitsLeaveTrees : Type 0
SplitsLeaveTrees = (settings : Settings) (rules : List Rule) (old new : CutTree) → Splits settings rules old new → tree_of new ≡ tree_of old

-- A document none of whose parts weighs more than k is split nowhere.
abbrev pub LightStays : Type 0
LightStays = (settings : Settings) (rules : List Rule) (old new : CutTree) → AreParts settings.k (whole_document old) → Splits settings rules old new ↔ (new ≡ old)

-- A part that is divided has no part that weighs more than the limit, k or more, where none below it does.
abbrev pub DividedIsLight : Type 0
DividedIsLight =
    (settings : Settings) (rules : List Rule) (room : ℕ) (above : Option Node) (members now : CutForest) (limit : ℕ) → settings.k ≤ limit → AreParts limit members → Divides settings rules room above members now → AreParts limit now

-- What joins the part above weighs no more than its room.
abbrev pub RaisedHasRoom : Type 0
RaisedHasRoom =
    (settings : Settings) (rules : List Rule) (room : ℕ) (above : Option Node) (members now : CutForest) (limit : ℕ) → AreParts limit members → Divides settings rules room above members now → part_weight now ≤ room

-- So nothing above is split: where one part below at most is too heavy, a part that doesn't outweigh k doesn't so behind the splits below it.
abbrev pub NothingAboveIsSplit : Type 0
NothingAboveIsSplit =
    (settings : Settings) (rules : List Rule) (above : Option Node) (limit wide : ℕ) (members now : CutForest) → IsHeavyOnce settings.k limit wide members → part_weight members ≤ settings.k
    → SplitsRow settings rules (settings.k - part_weight members) above members now → part_weight now ≤ settings.k

-- A split sees of the piece of an interval what it sees of the interval's part.
abbrev pub PieceIsPart : Type 0
PieceIsPart = (rules : List Rule) (above : Option Node) (members : Layout) → placed_of rules above (piece_of members) ≡ part_nodes rules above (without_places members)

-- A row changes whatever its intervals are marked with: a layout's as what is drawn.
pub record RowsChangeAlike (row : Layout) : Type 0 where
  pub joined : (last : Layout) → without_places (joined_row row last) ≡ joined_row (without_places row) (without_places last)
  pub planted : (alone second : RecordPlace) (entry : Entry) (node : LaidNode) (position : ℕ) → without_places (planted_row alone second entry node position row) ≡ planted_row tt tt entry node.node position (without_places row)
  pub removed : (position : ℕ) → without_places (removed_row position row) ≡ removed_row position (without_places row)

abbrev pub MarksAreLeft : Type 0
MarksAreLeft = (row : Layout) → RowsChangeAlike row
