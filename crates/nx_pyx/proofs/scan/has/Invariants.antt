use Rattle.std.proofs.Common.{◌≡◌, take}
use Rattle.std.specs.List.{list_any}
use Rattle.nx_pyx.proofs.scan.has.Given as goal

abbrev pub invariant-loop-b : goal.invariant-loop-b
invariant-loop-b g l = l.found ≡ list_any g.M.Mark.marks (take l.b-index l.bytes)
