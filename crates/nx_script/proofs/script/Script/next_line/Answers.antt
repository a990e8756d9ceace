use Rattle.std.proofs.Common.{◌++◌, sym}
use Rattle.std.proofs.lemmas.Result.{err_from_is_err_and}
use Rattle.nx_script.proofs.ScriptLemmas.{smaller}
use Rattle.nx_script.proofs.CutLemmas.{stops, stops_memory, in_input, no_line}
use Rattle.nx_script.proofs.script.Script.next_line.Goals as goal

pub loop-line-smaller : goal.loop-line-smaller
loop-line-smaller g c =
    smaller c.fill.new.self.ended
    c.ready_line.ensures.taken c.ready_line.ensures.ended c.if-self.false c.fill.ensures.taken c.fill.new.self.input.few c.in_ok-fill.ensures.more

pub returns-in_err-fill-clause-err : goal.returns-in_err-fill-clause-err
returns-in_err-fill-clause-err g c =
    let p = err_from_is_err_and c.from_residual-in_err-fill.result c.from_residual-in_err-fill.ensures.1 in
    rw (p.1, p.2)
    (λ first taken lines given.
    let (more, before) = c.loop-line.invariant.given first taken lines given in
    let none = c.in_ok-line.ensures.none (no_line c.in_ok-line.line (sym c.if-is_some.ensures)) (taken ++ more) lines before.given in
    let still = in_input c.ready_line.ensures.ended before none.0 in
    stops taken more c.in_err-fill.ensures.errors
    c.in_err-fill.ensures.too_much c.if-self.false still none (c.in_err-fill.ensures.lines_err first (taken ++ more) lines still))

pub returns-in_err-line-clause-err : goal.returns-in_err-line-clause-err
returns-in_err-line-clause-err g c =
    let p = err_from_is_err_and c.from_residual.result c.from_residual.ensures.1 in
    rw (p.1, p.2)
    (λ first taken lines given.
    let (more, before) = c.loop-line.invariant.given first taken lines given in
    stops_memory c.ready_line.new.self taken more c.in_err-line.ensures.err c.ready_line.ensures.taken before)
