-- What is behind `left` is no sync of the area.
use Rattle.std.proofs.Common.{◌≡◌, ◌≤◌, ◌++◌, length, take, drop, reverse}
use Rattle.nx_memory.specs.Undo.{since}
use Rattle.nx_memory.proofs.crash.synced_at.Given as goal

abbrev pub invariant-loop-left : goal.invariant-loop-left
invariant-loop-left l = record {
  within : l.left ≤ length l.changes;
  behind : since l.area (reverse l.changes) ≡ reverse (drop l.left l.changes) ++ since l.area (reverse (take l.left l.changes));
}

abbrev pub decreases-loop-left : goal.decreases-loop-left
decreases-loop-left l = l.left
