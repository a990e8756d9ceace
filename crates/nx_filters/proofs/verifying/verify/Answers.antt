use Rattle.nx_filters.proofs.OutcomeLemmas.{runs_answer, runs_stopped}
use Rattle.nx_filters.proofs.VerifyLemmas.{verify_together}
use Rattle.nx_filters.proofs.verifying.verify.Goals as goal

pub returns-in-Ok : goal.returns-in-Ok
returns-in-Ok g c =
    rw c.status_of.ensures
    (runs_answer c.in-Ok.intervals c.give_count.result c.in-Ok.ensures.reads c.read_verdict.ensures.bounded c.read_verdict.ensures.alone c.give_count.ensures.given
    c.give_count.ensures.alone)

pub returns-in-Err : goal.returns-in-Err
returns-in-Err g c =
    runs_stopped c.in-Err.stop c.end_after.result (verify_together c.args.k) c.in-Err.ensures.reads c.read_verdict.ensures.bounded c.read_verdict.ensures.alone
    c.end_after.ensures.ends c.end_after.ensures.alone
