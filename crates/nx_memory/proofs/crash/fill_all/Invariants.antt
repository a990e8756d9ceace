-- The changes so far have filled what they wrote.
use Rattle.std.proofs.Common.{◌≡◌, take, reverse}
use Rattle.nx_memory.specs.Undo.{filled_all}
use Rattle.nx_memory.proofs.crash.fill_all.Given as goal

abbrev pub invariant-loop-change : goal.invariant-loop-change
invariant-loop-change l = l.bytes.items ≡ filled_all l.area (reverse (take l.change-index l.changes)) l.initial.bytes.items
