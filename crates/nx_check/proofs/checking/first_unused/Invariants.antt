use Rattle.std.specs.Prelude.{◌<◌, ◌≤◌, ℕ, List}
use Rattle.nx_replay.specs.Log.{Pages}
use Rattle.nx_layouts.specs.Layout.{RecordPlace}
use Rattle.nx_check.specs.Marks.{AreMarked, HasUse}
use Rattle.nx_check.proofs.checking.first_unused.Given as goal

abbrev pub invariant-loop-page : goal.invariant-loop-page
invariant-loop-page l = (those : Pages) (free used : List ℕ) (reached : List RecordPlace) → AreMarked l.uses l.left those free used reached → (p : ℕ) → 1 ≤ p → p < l.page → HasUse those free used reached p
