use Rattle.std.proofs.Common.{sym, ◌∙◌}
use Rattle.nx_find.proofs.LookingLemmas.{last_asks}
use Rattle.nx_find.proofs.finding.last_label.Goals as goal

pub returns-in-Some : goal.returns-in-Some
returns-in-Some c = c.label_of.ensures ∙ sym (last_asks c.args.steps.now c.in-Some.step.now (sym c.in-Some.ensures.value))
