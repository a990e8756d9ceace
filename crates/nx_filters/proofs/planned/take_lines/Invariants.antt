use Rattle.std.proofs.Common.{◌≤◌, ◌-◌, ◌++◌, List, ℕ, length, take}
use Rattle.nx_script.specs.Body.{AwaitsDot}
use Rattle.nx_filters.proofs.planned.take_lines.Given as goal

-- the lines before the place are taken, and hold no dot
abbrev pub invariant-loop-start : goal.invariant-loop-start
invariant-loop-start l = record {
  here : l.start ≤ length l.bytes;
  within : (s : List ℕ) → AwaitsDot l.initial.body s → AwaitsDot l.body (s ++ take l.start l.bytes);
}

abbrev pub decreases-loop-start : goal.decreases-loop-start
decreases-loop-start l = length l.bytes - l.start
