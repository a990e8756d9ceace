use Rattle.std.proofs.Common.{◌≡◌, ℕ, ◌-◌, ◌≤◌, ◌<◌, []}
use Rattle.nx_parts.specs.Marks.{marked_in}
use Rattle.nx_divide.proofs.row.last_begin.Given as goal

abbrev pub invariant-loop-first : goal.invariant-loop-first
invariant-loop-first l = (l.first < l.len) × ((position : ℕ) → l.first ≤ position → position < l.len → marked_in l.marks position [] ≡ marked_in l.marks (l.len - 1) [])

abbrev pub decreases-loop-first : goal.decreases-loop-first
decreases-loop-first l = l.first
