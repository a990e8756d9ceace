use Rattle.std.proofs.Common.{◌≡◌, ◌<◌, [], ℕ, Some}
use Rattle.nx_parts.specs.Marks.{marked_in}
use Rattle.nx_build.proofs.items.members_end.Given as goal

abbrev pub invariant-loop-position : goal.invariant-loop-position
invariant-loop-position l = (j : ℕ) → l.first < j → j < l.position → marked_in l.marks j [] ≡ Some l.holder
