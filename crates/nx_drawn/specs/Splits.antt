-- Parts of a document that became too heavy, replaced by their divisions.
use Rattle.std.specs.Prelude.{◌≡◌, ℕ, ◌+◌, ◌-◌, nat_lt, List, [], ◌++◌, Option, None, Some, IsPermutation}
use Rattle.std.specs.Bool.{MatchBool}
use Rattle.nx_tree.specs.declared.node.Node.{Node}
use Rattle.nx_weights.specs.Weight.{weight}
use Rattle.nx_parts.specs.declared.interval.Interval.{Interval}
use Rattle.nx_cuts.specs.Cut.{CutForest, Bare, Grown, Kept, CutTree, forest, width, part_weight, intervals, AreParts}
use Rattle.nx_matrix.specs.declared.rule.Entry.{Entry}
use Rattle.nx_matrix.specs.declared.rule.Rule.{Rule}
use Rattle.nx_sketch.specs.Sketch.{Sketch, Empty, Plant, Placed, placed}
use Rattle.nx_sketch.specs.Split.{IsDivision}
use Rattle.nx_split.specs.Piece.{asked, asked_of_root}
use Rattle.nx_holdings.specs.declared.header.Settings.{Settings}
use Rattle.nx_cuts.specs.Rows.{joined_row}

-- What of trees beside each other is in the part of the node above them, of which it asks this; the first has this position. Members of intervals are left out, and take their positions.
abbrev pub part_sketch : List Rule → (Node → Entry) → ℕ → CutForest → Sketch
part_sketch rules asks position Bare = Empty
part_sketch rules asks position (Grown node below beside) =
    Plant position (weight node) (asks node) (part_sketch rules (asked rules node) 0 below) (part_sketch rules asks (position + 1) beside)
part_sketch rules asks position (Kept mark members beside) = part_sketch rules asks (position + width members) beside

-- the nodes of the part of an interval with these members, as a split sees them; `above` is the node above them
abbrev pub part_nodes : List Rule → (above : Option Node) → CutForest → List Placed
part_nodes rules above members = placed (part_sketch rules (asked_of_root rules above) 0 members)

-- The members of an interval whose part is divided, where the part of the node above has so much room: the same trees, in which the intervals below the part stay and those of a division of it come, each with members of its own. A root that is raised is a member of none of them, so that its part joins that of the node above.
pub record Divides (settings : Settings) (rules : List Rule) (room : ℕ) (above : Option Node) (members now : CutForest) : Type 0 where
  pub parts : List Interval
  pub raised : Option ℕ
  pub division : IsDivision settings.k (part_nodes rules above members) room settings.target settings.tolerance parts raised
  pub same : forest now ≡ forest members
  pub drawn : IsPermutation (intervals [] 0 now) (parts ++ intervals [] 0 members)
  pub limit : ℕ
  pub formed : AreParts limit now

-- what stands in the place of an interval with these members: it is divided where its part weighs more than k, and stays where not
abbrev pub SplitsInterval : Settings → List Rule → (room : ℕ) (above : Option Node) → (members now : CutForest) → Type 0
SplitsInterval settings rules room above members now =
    MatchBool (nat_lt settings.k (part_weight members)) (Divides settings rules room above members now) (now ≡ Kept tt members Bare)

-- Each interval of this row and below it is replaced so, and all else stays. The row stands below a node whose part has so much room: k less what the part weighs, before anything joins it.
abbrev pub SplitsRow : Settings → List Rule → (room : ℕ) (above : Option Node) → (old new : CutForest) → Type 0
SplitsRow settings rules room above Bare new = new ≡ Bare
SplitsRow settings rules room above (Grown node below beside) new =
    (b s : CutForest) × SplitsRow settings rules room (Some node) below b × SplitsRow settings rules room above beside s × (new ≡ Grown node b s)
SplitsRow settings rules room above (Kept mark members beside) new =
    (m r s : CutForest) × SplitsRow settings rules (settings.k - part_weight members) above members m × SplitsInterval settings rules room above m r × SplitsRow settings rules room above beside s
    × (new ≡ joined_row r s)

-- a whole document, whose root is the one member of its own interval
abbrev pub whole_document : CutTree → CutForest
whole_document document = Kept tt (Grown document.node document.below Bare) Bare

-- The document with each part that weighs more than k replaced by a division of it. There is no part above the root's.
abbrev pub Splits : Settings → List Rule → (old new : CutTree) → Type 0
Splits settings rules old new = SplitsRow settings rules 0 None (whole_document old) (whole_document new)
