use Rattle.std.proofs.Common.{◌≡◌, take}
use Rattle.nx_names.specs.Serials.{those_noted}
use Rattle.nx_names.proofs.map.LabelMap.records_of.Given as goal

abbrev pub invariant-loop-serial : goal.invariant-loop-serial
invariant-loop-serial l = l.records.items ≡ those_noted l.self.noted.items (take l.serial-index l.serials)
