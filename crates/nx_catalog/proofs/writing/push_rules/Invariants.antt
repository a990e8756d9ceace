use Rattle.std.proofs.Common.{◌≡◌, ◌++◌, length}
use Rattle.std.specs.Prelude.{flat_map, take}
use Rattle.nx_catalog.specs.Catalog.{rule_bytes}
use Rattle.nx_piece.specs.Encoding.{four_bytes}
use Rattle.nx_catalog.proofs.writing.push_rules.Given as goal

abbrev pub invariant-loop-rule : goal.invariant-loop-rule
invariant-loop-rule l = l.out ≡ (l.fn.out ++ four_bytes (length l.rules)) ++ flat_map rule_bytes (take l.rule-index l.rules)
