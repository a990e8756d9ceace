use Rattle.std.proofs.Common.{sym}
use Rattle.std.proofs.lemmas.Result.{on_ok_weaker, IfErr-weaker}
use Rattle.nx_pyx.proofs.StreamLemmas.{takes_none, takes_last, fails_last}
use Rattle.nx_pyx.proofs.reader.Reader.take_rest.Goals as goal

pub returns-then-is_empty-clause-ok : goal.returns-then-is_empty-clause-ok
returns-then-is_empty-clause-ok c = λ s. takes_none c.args.self.now s (sym c.if-is_empty.ensures)

pub returns-clause-ok : goal.returns-clause-ok
returns-clause-ok c =
    on_ok_weaker c.take.result
    (λ takes s read. takes_last c.args.self.now c.take.new.self c.as_slice.result.now s (sym c.if-is_empty.ensures) c.as_slice.ensures read takes)
    c.take.ensures.ok

pub returns-clause-err : goal.returns-clause-err
returns-clause-err c =
    IfErr-weaker c.take.result _ _
    (λ e fails s read. fails_last c.args.self.now c.as_slice.result.now e s (sym c.if-is_empty.ensures) c.as_slice.ensures read fails)
    c.take.ensures.err
