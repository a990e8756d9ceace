use Rattle.std.proofs.Common.{◌≡◌, drop}
use Rattle.nx_front.specs.Carrying.{listed_nodes}
use Rattle.nx_front.proofs.generate.listed_nodes.Given as goal

-- it is what the lines that are left say
abbrev pub invariant-loop-line : goal.invariant-loop-line
invariant-loop-line l = listed_nodes l.name (drop l.line-index l.lines) ≡ listed_nodes l.name l.lines
