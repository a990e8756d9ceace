use Rattle.std.proofs.Common.{sym, ◌∙◌}
use Rattle.std.proofs.lemmas.Bool.{false≢true}
use Rattle.nx_edit.proofs.StayLemmas.{one_run}
use Rattle.nx_edit.proofs.keeping.is_alone.Goals as goal

pub returns-else-is_run : goal.returns-else-is_run
returns-else-is_run c = (λ yes. absurd (false≢true (sym c.if-is_run.false ∙ yes)), λ alone. c.is_run.ensures.1 (1, one_run c.as_slice.result.now (c.as_slice.ensures ∙ alone.0)))
