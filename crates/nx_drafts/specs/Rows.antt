-- An interval of a document whose part was too heavy, replaced by a split of it, and rows of the records above it.
use Rattle.std.specs.Prelude.{◌≡◌, ◌-◌, ◌≤◌, ℕ, List, Option, None, Some}
use Rattle.nx_tree.specs.declared.node.Node.{Node}
use Rattle.nx_cuts.specs.Cut.{CutForest, Bare, Kept, CutTree, AreParts}
use Rattle.nx_matrix.specs.declared.rule.Rule.{Rule}
use Rattle.nx_matrix.specs.Label.{label}
use Rattle.nx_holdings.specs.declared.header.Settings.{Settings}
use Rattle.nx_layouts.specs.Layout as laid
use Rattle.nx_layouts.specs.Layout.{RecordPlace, Layout, without_places, laid_weight, AreLaidParts}
use Rattle.nx_layouts.specs.Replace.{replaced_at, kept_at, above_at}
use Rattle.nx_drawn.specs.Splits.{SplitsInterval, SplitsRow, Splits}

-- Where no part weighs more than k but that of one interval, which is below the part of this one, and that is replaced by a split of it, the row is split.
abbrev pub OneIsSplit : Type 0
OneIsSplit =
    (settings : Settings) (rules : List Rule) (room : ℕ) (above : Option Node) (index : ℕ) (old members row : Layout) → kept_at index old ≡ Some members → AreLaidParts settings.k (replaced_at index Bare old) → AreLaidParts settings.k members
    → SplitsInterval settings rules room (above_at index above old) (without_places members) (without_places row) → SplitsRow settings rules room above (without_places old) (without_places (replaced_at index row old))

-- Where the members of one interval are split, whose own part stays, and no part beside them weighs more than k, the row is split that has the interval. The place of its record may change.
abbrev pub SplitStaysAbove : Type 0
SplitStaysAbove =
    (settings : Settings) (rules : List Rule) (room : ℕ) (above : Option Node) (index : ℕ) (place : RecordPlace) (old members now : Layout) → kept_at index old ≡ Some members → AreLaidParts settings.k (replaced_at index Bare old) → laid_weight now ≤ settings.k
    → SplitsRow settings rules (settings.k - laid_weight members) (above_at index above old) (without_places members) (without_places now) → SplitsRow settings rules room above (without_places old) (without_places (replaced_at index (Kept place now Bare) old))

-- Where an interval below a part was replaced by a row into which it is split, whatever that is, by the room in that part, and no part beside it weighs more than k, the interval of that part is split into one, if its part weighs no more than k then.
abbrev pub RowSplitsAbove : Type 0
RowSplitsAbove =
    (settings : Settings) (rules : List Rule) (room : ℕ) (above : Option Node) (index : ℕ) (old members row : Layout) → kept_at index old ≡ Some members → AreLaidParts settings.k (replaced_at index Bare old) → laid_weight (replaced_at index row old) ≤ settings.k
    → SplitsRow settings rules (settings.k - laid_weight old) (above_at index above old) (Kept tt (without_places members) Bare) (without_places row)
    → SplitsRow settings rules room above (Kept tt (without_places old) Bare) (Kept tt (without_places (replaced_at index row old)) Bare)

-- Where no part weighs more than k, a row is split into itself.
abbrev pub LightRowStays : Type 0
LightRowStays = (settings : Settings) (rules : List Rule) (room : ℕ) (above : Option Node) (row : CutForest) → AreParts settings.k row → SplitsRow settings rules room above row row

-- Of the node above it a row's split asks the label alone: so the node may be as a record has it, wherever its content stands.
abbrev pub RowSplitsByLabel : Type 0
RowSplitsByLabel =
    (settings : Settings) (rules : List Rule) (room : ℕ) (one other : Node) (old new : CutForest) → label one ≡ label other → SplitsRow settings rules room (Some one) old new → SplitsRow settings rules room (Some other) old new

-- The whole document is split where the interval of its root is.
abbrev pub RootIsSplit : Type 0
RootIsSplit =
    (settings : Settings) (rules : List Rule) (root place : RecordPlace) (old new : CutTree) (before after : Layout) → without_places before ≡ old.below → without_places after ≡ new.below
    → SplitsRow settings rules 0 None (without_places (laid.whole root old.node before)) (without_places (laid.whole place new.node after)) → Splits settings rules old new
