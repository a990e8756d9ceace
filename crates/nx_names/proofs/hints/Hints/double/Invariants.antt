use Rattle.nx_names.specs.Serials.{LabelNumbers}
use Rattle.nx_names.specs.Numbering.{AreRight}
use Rattle.nx_names.proofs.hints.Hints.double.Given as goal

abbrev pub invariant-loop : goal.invariant-loop
invariant-loop l = (numbers : LabelNumbers) → AreRight numbers l.fn.self → AreRight numbers l.self
