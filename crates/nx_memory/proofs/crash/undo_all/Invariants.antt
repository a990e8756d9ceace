-- The changes before `left` are still to be undone.
use Rattle.std.proofs.Common.{◌≡◌, ◌≤◌, length, take, reverse}
use Rattle.nx_memory.specs.Undo.{undone_all}
use Rattle.nx_memory.proofs.crash.undo_all.Given as goal

abbrev pub invariant-loop-left : goal.invariant-loop-left
invariant-loop-left l = record {
  within : l.left ≤ length l.changes;
  kept : l.kept ≤ length l.covered;
  rest : undone_all l.area (reverse l.changes) l.initial.bytes.items l.covered ≡ undone_all l.area (reverse (take l.left l.changes)) l.bytes.items (take l.kept l.covered);
}

abbrev pub decreases-loop-left : goal.decreases-loop-left
decreases-loop-left l = l.left
