use Rattle.std.proofs.Common.{sym, subst}
use Rattle.nx_division_tests.proofs.RunLemmas.{PlannedSoFar, planned_start, planned_more, planned_end}
use Rattle.nx_division_tests.proofs.plain.separator.separator_plan.Goals as goal

pub loop-node-init : goal.loop-node-init
loop-node-init c = subst (PlannedSoFar c.args.nodes.now c.args.t c.args.tolerance 0) (sym c.new-found.ensures) (planned_start c.args.nodes.now c.args.t c.args.tolerance)

pub loop-node-preserved : goal.loop-node-preserved
loop-node-preserved c =
    planned_more {nodes = c.args.nodes.now} {t = c.args.t} {tolerance = c.args.tolerance} c.requires.order c.loop-node.node-index c.node-item.result c.loop-node.found c.push_run.new.found (c.loop-node-test.true, c.node-item.is) c.in_ok-push_run.ensures c.loop-node.invariant

pub returns : goal.returns
returns c = planned_end c.args.nodes.now c.args.t c.args.tolerance c.loop-node.node-index c.loop-node.found c.loop-node-test.false c.loop-node.invariant
