use Rattle.std.proofs.Common.{[]}
use Rattle.nx_catalog.specs.Reading.{rules_at}
use Rattle.nx_catalog.proofs.RuleLemmas.{HasReadRules}
use Rattle.nx_catalog.proofs.reading.rules_of.Given as goal

abbrev pub invariant-loop : goal.invariant-loop
invariant-loop l = HasReadRules l.count l.counter (l.last.parent.now, l.last.child.now) l.rest l.matrix (rules_at l.count ([], []) l.bytes)
