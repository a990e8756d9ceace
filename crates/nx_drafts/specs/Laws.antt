-- What holds of splits in documents that are drawn, and of their drafts.
use Rattle.std.specs.Prelude.{◌≡◌, ℕ, ◌*◌, ◌≤◌, List, [], ◌++◌, Option, IsPermutation}
use Rattle.nx_tree.specs.declared.node.Node.{Node}
use Rattle.nx_tree.specs.Forest.{nodes}
use Rattle.nx_parts.specs.declared.interval.Interval.{Interval}
use Rattle.nx_matrix.specs.declared.rule.Rule.{Rule}
use Rattle.nx_cuts.specs.Cut.{intervals, AreParts}
use Rattle.nx_holdings.specs.declared.header.Settings.{Settings}
use Rattle.nx_piece.specs.declared.piece.Piece.{Piece}
use Rattle.nx_piece.specs.Valid.{IsPiece}
use Rattle.nx_layouts.specs.Layout.{RecordPlace, Layout, laid_forest, AreLaidParts, piece_of, places_of, nodes_in, without_places}
use Rattle.nx_sketch.specs.Split.{IsDivision}
use Rattle.nx_drawn.specs.Splits.{part_nodes}
use Rattle.nx_drafts.specs.Draft.{Draft, drawn_forest, layout_before, layout_after, came, draft_needs, AreHeldBut}

-- These intervals are drawn into a layout, in which all others stand as they did, and each root but the one that is raised is a member of one.
pub record IsDrafted (k : ℕ) (members : Layout) (parts : List Interval) (raised : Option ℕ) : Type 0 where
  pub draft : Draft (Unit {0})
  pub stands : layout_before draft ≡ members
  pub drawn : IsPermutation (intervals [] 0 (drawn_forest draft)) (parts ++ intervals [] 0 (without_places members))
  pub light : AreParts k (drawn_forest draft)
  pub held : AreHeldBut raised 0 draft

-- A division can be drawn into the layout of the part that it divides: no part weighs more than the limit, where none below it does.
abbrev pub DivisionIsDrafted : Type 0
DivisionIsDrafted =
    (settings : Settings) (rules : List Rule) (room : ℕ) (above : Option Node) (limit : ℕ) (members : Layout) (parts : List Interval) (raised : Option ℕ) → settings.k ≤ limit → AreLaidParts limit members
    → IsDivision settings.k (part_nodes rules above (without_places members)) room settings.target settings.tolerance parts raised → IsDrafted limit members parts raised

-- Of a draft whose records have all come, the places are those that came and those that stood.
abbrev pub PlacesAreBoth : Type 0
PlacesAreBoth = (draft : Draft RecordPlace) → IsPermutation (places_of (layout_after draft)) (came draft ++ places_of (layout_before draft))

-- Records that come leave the nodes as they are, and where their contents stand.
abbrev pub NodesStayInOrder : Type 0
NodesStayInOrder = (draft : Draft RecordPlace) → nodes_in (layout_after draft) ≡ nodes_in (layout_before draft)

-- The records that come may take two pages for each node at most: one for each interval, and one at most for each proxy.
abbrev pub NeedsAreFew : Type 0
NeedsAreFew = (k : ℕ) (draft : Draft (Unit {0})) → AreParts k (drawn_forest draft) → draft_needs draft ≤ 2 * nodes (laid_forest (layout_before draft))

-- Some layout has this piece, whatever its far contents are, and no part below its part weighs more than 256.
pub record HasMembers (piece : Piece) : Type 0 where
  pub members : Layout
  pub is : piece_of members ≡ piece
  pub light : AreLaidParts 256 members

-- Each piece that may be divided is that of some layout.
abbrev pub PieceHasMembers : Type 0
PieceHasMembers = (piece : Piece) → IsPiece piece → HasMembers piece
