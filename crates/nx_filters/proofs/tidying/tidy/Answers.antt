use Rattle.nx_filters.proofs.OutcomeLemmas.{runs_answer, runs_stopped}
use Rattle.nx_filters.proofs.TidyLemmas.{tidy_together}
use Rattle.nx_filters.proofs.tidying.tidy.Goals as goal

pub returns-in-Ok : goal.returns-in-Ok
returns-in-Ok g c =
    rw c.status_of.ensures
    (runs_answer c.in-Ok.tree c.give_text.result c.in-Ok.ensures.reads c.read.ensures.bounded c.read.ensures.alone c.give_text.ensures.given c.give_text.ensures.alone)

pub returns-in-Err : goal.returns-in-Err
returns-in-Err g c =
    runs_stopped c.in-Err.stop c.end_after.result tidy_together c.in-Err.ensures.reads c.read.ensures.bounded c.read.ensures.alone c.end_after.ensures.ends c.end_after.ensures.alone
