use Rattle.std.proofs.Common.{◌≡◌, ◌++◌, take}
use Rattle.std.specs.List.{flat_map}
use Rattle.nx_script.specs.Reply.{rule_line}
use Rattle.nx_script.proofs.write.push_rules.Given as goal

abbrev pub invariant-loop-rule : goal.invariant-loop-rule
invariant-loop-rule l = l.block ≡ l.initial.block ++ flat_map rule_line (take l.rule-index l.rule-items)
