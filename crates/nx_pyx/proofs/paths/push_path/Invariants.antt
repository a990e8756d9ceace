use Rattle.std.proofs.Common.{◌≡◌, ◌++◌, take}
use Rattle.std.specs.List.{flat_map}
use Rattle.nx_pyx.specs.Path.{step_text}
use Rattle.nx_pyx.proofs.paths.push_path.Given as goal

abbrev pub invariant-loop-position : goal.invariant-loop-position
invariant-loop-position l = l.block ≡ l.initial.block ++ flat_map step_text (take l.position-index l.positions)
