use Rattle.std.proofs.Common.{◌≡◌, ℕ, ◌-◌, List, vec_len}
use Rattle.nx_parts.specs.Marks.{marked_in}
use Rattle.nx_parts.proofs.marks.grow.Given as goal

abbrev pub invariant-loop-alloc : goal.invariant-loop-alloc
invariant-loop-alloc l = (position : ℕ) (path : List ℕ) → marked_in l.marks.items position path ≡ marked_in l.fn.marks.items position path

abbrev pub decreases-loop-alloc : goal.decreases-loop-alloc
decreases-loop-alloc l = l.count - vec_len l.marks
