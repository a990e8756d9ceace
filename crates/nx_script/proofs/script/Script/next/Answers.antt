use Rattle.std.proofs.Common.{◌++◌, Option, Ok, ap}
use Rattle.std.proofs.lemmas.Result.{err_from_is_err_and}
use Rattle.nx_script.specs.declared.command.Command.{Command}
use Rattle.nx_script.proofs.ScriptLemmas.{smaller, stops, stops_memory, in_input}
use Rattle.nx_script.proofs.script.Script.next.Goals as goal

pub loop-command-smaller : goal.loop-command-smaller
loop-command-smaller g c =
    smaller c.fill.new.self.ended
    c.ready.ensures.taken c.ready.ensures.ended c.if-self.false c.fill.ensures.taken c.fill.new.self.input.few c.in_ok-fill.ensures.more

pub returns-in_err-fill-clause-err : goal.returns-in_err-fill-clause-err
returns-in_err-fill-clause-err g c =
    let p = err_from_is_err_and c.from_residual-in_err-fill.result c.from_residual-in_err-fill.ensures.1 in
    let was = (g.H.Disk.beside c.loop-command.host).input in
    rw (p.1, p.2)
    (λ first taken commands given.
    let (more, before) = c.loop-command.invariant.given first taken commands given in
    let none = c.in_ok-command.ensures.none (ap (λ (o : Option Command). Ok o) c.in_default.is) (taken ++ more) commands before.given in
    let still = in_input c.ready.ensures.ended before none.0 in
    stops taken more c.in_err-fill.ensures.errors
    c.in_err-fill.ensures.too_much c.if-self.false still none (c.in_err-fill.ensures.err first (taken ++ more) commands still))

pub returns-in_err-command-clause-err : goal.returns-in_err-command-clause-err
returns-in_err-command-clause-err g c =
    let p = err_from_is_err_and c.from_residual.result c.from_residual.ensures.1 in
    rw (p.1, p.2)
    (λ first taken commands given.
    let (more, before) = c.loop-command.invariant.given first taken commands given in
    stops_memory c.ready.new.self taken more c.in_err-command.ensures.err c.ready.ensures.taken before)
