use Rattle.std.proofs.Common.{length}
use Rattle.nx_pyx.specs.Field.{steps}
use Rattle.nx_pyx.proofs.FieldLemmas.{IsWalked}
use Rattle.nx_pyx.proofs.paths.path.Given as goal

abbrev pub invariant-loop-step : goal.invariant-loop-step
invariant-loop-step l =
    (goal.iterator-loop-step).can_next l.step-iterator ×
    (goal.iterator-loop-step).is_finite l.step-iterator ×
    IsWalked (steps l.text) (length l.yielded) l.path
