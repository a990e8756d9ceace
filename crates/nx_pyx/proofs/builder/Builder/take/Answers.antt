use Rattle.std.proofs.Common.{sym, ap, ◌∙◌}
use Rattle.std.proofs.lemmas.Result.{on_ok_weaker, IfErr-weaker}
use Rattle.nx_pyx.specs.Line.{event_in}
use Rattle.nx_pyx.specs.Lines.{without_cr}
use Rattle.nx_pyx.specs.Event.{event_of}
use Rattle.nx_pyx.proofs.BuilderLemmas.{takes_event, refuses_event}
use Rattle.nx_pyx.proofs.builder.Builder.take.Goals as goal

pub returns-in-Some-clause-ok : goal.returns-in-Some-clause-ok
returns-in-Some-clause-ok c =
    on_ok_weaker c.add.result
    (takes_event c.args.self.now c.add.new.self (without_cr c.args.line.now) (event_in c.in-Some.line) c.saturating_add-self.result
    (sym (ap event_of c.without_cr.ensures) ∙ c.in-Some.ensures)
    c.saturating_add-self.ensures)
    c.add.ensures.ok

pub returns-in-Some-clause-err : goal.returns-in-Some-clause-err
returns-in-Some-clause-err c =
    IfErr-weaker c.add.result _ _
    (λ e. refuses_event c.args.self.now (without_cr c.args.line.now) (event_in c.in-Some.line) c.saturating_add-self.result e
    (sym (ap event_of c.without_cr.ensures) ∙ c.in-Some.ensures)
    c.saturating_add-self.ensures)
    c.add.ensures.err
