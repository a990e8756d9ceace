use Rattle.nx_filters.proofs.OutcomeLemmas.{runs_answer, runs_stopped}
use Rattle.nx_filters.proofs.PlanLemmas.{plan_together}
use Rattle.nx_filters.proofs.planning.plan.Goals as goal

pub returns-in-Ok : goal.returns-in-Ok
returns-in-Ok g c =
    rw c.status_of.ensures
    (runs_answer c.in-Ok.plan c.give_plan.result c.in-Ok.ensures.reads c.read_and_plan.ensures.bounded c.read_and_plan.ensures.alone c.give_plan.ensures.given
    c.give_plan.ensures.alone)

pub returns-in-Err : goal.returns-in-Err
returns-in-Err g c =
    runs_stopped c.in-Err.stop c.end_after.result (plan_together c.args.k) c.in-Err.ensures.reads c.read_and_plan.ensures.bounded c.read_and_plan.ensures.alone
    c.end_after.ensures.ends c.end_after.ensures.alone
