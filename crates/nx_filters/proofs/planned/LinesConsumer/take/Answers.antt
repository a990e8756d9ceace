use Rattle.std.proofs.Common.{◌++◌, take, MatchOption, sym, ◌∙◌, subst}
use Rattle.nx_script.specs.Body.{AwaitsDot, IsEndedBy}
use Rattle.nx_filters.proofs.PlannedLemmas.{lines_faulty}
use Rattle.nx_filters.proofs.planned.LinesConsumer.take.Goals as goal

pub returns-in-Some-fault-clause-err : goal.returns-in-Some-fault-clause-err
returns-in-Some-fault-clause-err c = λ s lines.
    let within =
    subst (λ start. MatchOption start (AwaitsDot c.take_lines.new.body (s ++ c.args.block.now)) (λ n. IsEndedBy c.take_lines.new.body (s ++ take n c.args.block.now))) c.in_default.is
    (c.in_ok-start.ensures.stands s lines.within)
    in
    lines_faulty (s ++ c.args.block.now) c.in-Some-fault.error (sym c.in-Some-fault.is ∙ c.fault.ensures (s ++ c.args.block.now) within)
