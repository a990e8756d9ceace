use Rattle.std.proofs.Common.{[], subst, sym, ◌∙◌, arith}
use Rattle.nx_matrix.specs.Rules.{AreRules, pair_cmp, pair_of}
use Rattle.nx_catalog.specs.Reading.{rule_at, rules_at}
use Rattle.nx_catalog.proofs.RisingLemmas.{is_less}
use Rattle.nx_catalog.proofs.ListedLemmas.{none_comes, none_behind}
use Rattle.nx_catalog.proofs.RuleLemmas.{first_rules, read_rule_more, all_rules, rule_labels}
use Rattle.nx_catalog.proofs.reading.rules_of.Goals as goal

pub loop-init : goal.loop-init
loop-init c = first_rules c.args.count c.args.bytes.now c.new-matrix.result c.new-matrix.ensures

pub returns-in_default : goal.returns-in_default
returns-in_default c =
    none_comes rule_at pair_cmp pair_of c.loop.invariant.rules c.args.count c.loop.counter (c.loop.last.parent.now, c.loop.last.child.now) c.loop.rest.now (rules_at c.args.count ([], []) c.args.bytes.now)
    c.loop-test.true (rw c.in_default.is at c.read_rule.ensures) c.loop.invariant.so_far

pub returns-then-not-come_before : goal.returns-then-not-come_before
returns-then-not-come_before c =
    none_behind rule_at pair_cmp pair_of c.loop.invariant.rules c.args.count c.loop.counter (c.loop.last.parent.now, c.loop.last.child.now) c.loop.rest.now
    (record { parent = c.in-Some.labels.parent.now; child = c.in-Some.labels.child.now; entry = c.in-Some.entry }) c.in-Some.behind.now (rules_at c.args.count ([], []) c.args.bytes.now)
    c.loop-test.true (rw c.in-Some.is at c.read_rule.ensures) (sym c.come_before.ensures ∙ c.if-not-come_before.true) c.loop.invariant.so_far

pub set-requires-clause-parent : goal.set-requires-clause-parent
set-requires-clause-parent c = (rule_labels c.loop.rest.now _ (rw c.in-Some.is at c.read_rule.ensures)).0

pub set-requires-clause-child : goal.set-requires-clause-child
set-requires-clause-child c = (rule_labels c.loop.rest.now _ (rw c.in-Some.is at c.read_rule.ensures)).1

pub loop-preserved : goal.loop-preserved
loop-preserved c =
    read_rule_more c.set.new.self (record { parent = c.in-Some.labels.parent.now; child = c.in-Some.labels.child.now; entry = c.in-Some.entry }) c.in-Some.behind.now c.loop.invariant
    (subst AreRules c.matrix-in-loop.view_is c.matrix-in-loop.invariant)
    c.loop-test.true (rw c.in-Some.is at c.read_rule.ensures) (is_less _ (sym c.come_before.ensures ∙ c.if-not-come_before.false)) c.in-Ok.ensures.ok

pub returns : goal.returns
returns c = all_rules c.args.bytes.now (λ i. omega (arith, c.type_inv.bytes i)) c.requires c.loop-test.false c.loop.invariant
