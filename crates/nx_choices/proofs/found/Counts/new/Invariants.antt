use Rattle.std.proofs.Common.{◌≡◌, ◌*◌, ◌^◌, ◌≤◌, take}
use Rattle.nx_choices.specs.Choice.{leasts}
use Rattle.nx_choices.proofs.found.Counts.new.Given as goal

abbrev pub invariant-loop-child : goal.invariant-loop-child
invariant-loop-child l = (l.sum ≡ leasts (take l.child-index l.children)) × (l.sum ≤ 2 ^ 32 * l.child-index)
