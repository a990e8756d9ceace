-- Places in a document that a walk has come to, and what may stand there.
use Rattle.std.specs.Prelude.{◌≡◌, ℕ, ◌+◌, ◌≤◌, false, List, [], ◌++◌, Option, None, Some}
use Rattle.nx_tree.specs.declared.node.Kind.{Kind}
use Rattle.nx_tree.specs.declared.node.Kind.TheVariants.{Doc}
use Rattle.nx_tree.specs.Forest.{Forest, Empty}
use Rattle.nx_tree.specs.Document.{MayHave, IsForest, IsTop, element_count, depth, deepest}
use Rattle.nx_holdings.specs.Holdings.{Link}
use Rattle.nx_cuts.specs.Cut.{Grown, Kept, joined}
use Rattle.nx_cuts.specs.Rows.{joined_row}
use Rattle.nx_layouts.specs.Layout.{RecordPlace, LaidNode}
use Rattle.nx_rules.specs.Walked.{Reached, Walked, walked_forest, Namer, ByRecord, Named, waiting_in, IsSoFar}
use Rattle.nx_rules.specs.Broken.{waits}

-- What stands around a row of trees: it is below a node, behind other trees, or the members of an interval whose record was reached.
pub data Around : Type 0 where
  Top : Around
  Below : (node : LaidNode) (beside : Walked) (outer : Around) → Around
  Behind : (done : Walked) (outer : Around) → Around
  Inside : (place : RecordPlace) (chains : List (List Link)) (beside : Walked) (outer : Around) → Around

-- the trees with this row there
abbrev pub filled_around : Around → Walked → Walked
filled_around Top row = row
filled_around (Below node beside outer) row = filled_around outer (Grown node row beside)
filled_around (Behind done outer) row = filled_around outer (joined_row done row)
filled_around (Inside place chains beside outer) row = filled_around outer (Kept (Reached place chains) row beside)

-- nothing waits before it
abbrev pub IsCome : Around → Type 0
IsCome Top = Unit {0}
IsCome (Below node beside outer) = IsCome outer
IsCome (Behind done outer) = (waits done ≡ false) × IsCome outer
IsCome (Inside place chains beside outer) = IsCome outer

-- who names the records that wait in the row
abbrev pub namer_at : Namer → Around → Namer
namer_at by Top = by
namer_at by (Below node beside outer) = namer_at by outer
namer_at by (Behind done outer) = namer_at by outer
namer_at by (Inside place chains beside outer) = ByRecord place.page

-- what waits behind it
abbrev pub waiting_behind : Namer → Around → List Named
waiting_behind by Top = []
waiting_behind by (Below node beside outer) = waiting_in (namer_at by outer) beside ++ waiting_behind by outer
waiting_behind by (Behind done outer) = waiting_behind by outer
waiting_behind by (Inside place chains beside outer) = waiting_in (namer_at by outer) beside ++ waiting_behind by outer

-- the trees that stand beside the row under one node, before it and behind it
abbrev pub before_there : Around → Forest
before_there Top = Empty
before_there (Below node beside outer) = Empty
before_there (Behind done outer) = joined (before_there outer) (walked_forest done)
before_there (Inside place chains beside outer) = before_there outer

abbrev pub behind_there : Around → Forest
behind_there Top = Empty
behind_there (Below node beside outer) = Empty
behind_there (Behind done outer) = behind_there outer
behind_there (Inside place chains beside outer) = joined (walked_forest beside) (behind_there outer)

-- with these trees in the place of the row
abbrev pub siblings_with : Around → Forest → Forest
siblings_with around row = joined (before_there around) (joined row (behind_there around))

-- the kind of the node above, none at the top
abbrev pub kind_above : Around → Option Kind
kind_above Top = None
kind_above (Below node beside outer) = Some node.node.kind
kind_above (Behind done outer) = kind_above outer
kind_above (Inside place chains beside outer) = kind_above outer

-- how many nodes stand above the row
abbrev pub level_of : Around → ℕ
level_of Top = 0
level_of (Below node beside outer) = 1 + level_of outer
level_of (Behind done outer) = level_of outer
level_of (Inside place chains beside outer) = level_of outer

-- These trees may stand below a node of this kind, so many nodes above them: below the root of a document elements, of which there is one at most, and instructions.
abbrev pub MayBeBelow : Kind → ℕ → Forest → Type 0
MayBeBelow Doc level row = IsTop row × (element_count row ≤ 1) × IsForest row × (level + depth row ≤ 1 + deepest)
MayBeBelow kind level row = MayHave kind row × IsForest row × (level + depth row ≤ 1 + deepest)

-- ... or at the top
abbrev pub MayBeThere : Option Kind → ℕ → Forest → Type 0
MayBeThere None level row = IsSoFar row
MayBeThere (Some kind) level row = MayBeBelow kind level row
