use Rattle.std.proofs.Common.{ℕ, List, [], refl, subst, append-nil}
use Rattle.nx_pyx.specs.Reader.{HasRead}
use Rattle.nx_pyx.specs.Fault.{shown_fault}
use Rattle.nx_pyx.specs.Builder.{Fails}
use Rattle.std.proofs.lemmas.Result.{on_ok_weaker, IfErr-weaker, err_from_is_err_and}
use Rattle.nx_pyx.proofs.StreamLemmas.{line_done, line_fails, piece_whole}
use Rattle.nx_pyx.proofs.reader.Reader.take.Goals as goal

pub returns-in_err-end_line-clause-err : goal.returns-in_err-end_line-clause-err
returns-in_err-end_line-clause-err c =
    let p = err_from_is_err_and c.from_residual.result c.from_residual.ensures.1 in
    rw (p.1, p.2)
    (line_fails c.args.self.now c.loop-end.self c.loop-end.rest.now c.args.piece.now c.in-Some.end c.in_err-end_line.field-0.0 c.in-Some.ensures c.loop-end.invariant
    c.in_err-end_line.ensures.err)

pub loop-end-init : goal.loop-end-init
loop-end-init c = ([], refl, λ s h. rw (append-nil s) h)

pub loop-end-preserved : goal.loop-end-preserved
loop-end-preserved c =
    line_done c.args.self.now c.loop-end.self c.end_line.new.self c.loop-end.rest.now c.args.piece.now c.in-Some.end c.in-Some.ensures c.loop-end.invariant
    c.in_ok-end_line.ensures.ok

pub returns-clause-ok : goal.returns-clause-ok
returns-clause-ok c =
    let done = c.loop-end.invariant in
    on_ok_weaker c.hold.result
    (λ holds s read. subst (HasRead c.hold.new.self) (piece_whole s done.0 c.loop-end.rest.now c.args.piece.now done.1) (holds _ (done.2 s read)))
    c.hold.ensures.ok

pub returns-clause-err : goal.returns-clause-err
returns-clause-err c =
    let done = c.loop-end.invariant in
    IfErr-weaker c.hold.result _ _
    (λ e fails s read. subst (λ (b : List ℕ). Fails e (shown_fault b)) (piece_whole s done.0 c.loop-end.rest.now c.args.piece.now done.1) (fails _ (done.2 s read)))
    c.hold.ensures.err
