use Rattle.std.proofs.Common.{refl, sym, ap, ◌∙◌, ◌++◌}
use Rattle.std.proofs.lemmas.Result.{on_ok_weaker, IfErr-weaker, err_from_is_err_and}
use Rattle.nx_pyx.proofs.StreamLemmas.{takes_line, fails_line, line_alone, still_none}
use Rattle.nx_pyx.proofs.HasRoomLemmas.{room_empty}
use Rattle.nx_pyx.proofs.reader.Reader.end_line.Goals as goal

pub returns-then-is_empty-clause-ok : goal.returns-then-is_empty-clause-ok
returns-then-is_empty-clause-ok c =
    on_ok_weaker c.take.result
    (λ takes s read. takes_line c.args.self.now _ c.args.bytes.now c.args.bytes.now c.requires (still_none c.args.self.now.held c.args.self.now.held (sym c.if-is_empty.ensures) refl) (λ room. room) refl takes s
    (line_alone c.args.self.now c.args.bytes.now s (sym c.if-is_empty.ensures) read) read)
    c.take.ensures.ok

pub returns-then-is_empty-clause-err : goal.returns-then-is_empty-clause-err
returns-then-is_empty-clause-err c =
    IfErr-weaker c.take.result _ _
    (λ e fails s read. fails_line c.args.self.now c.args.bytes.now c.args.bytes.now e c.requires fails s (line_alone c.args.self.now c.args.bytes.now s (sym c.if-is_empty.ensures) read) read)
    c.take.ensures.err

pub returns-in_err-take-clause-err : goal.returns-in_err-take-clause-err
returns-in_err-take-clause-err c =
    let p = err_from_is_err_and c.from_residual-in_err-take.result c.from_residual-in_err-take.ensures.1 in
    rw (p.1, p.2)
    (λ s read. fails_line c.args.self.now c.args.bytes.now c.as_slice.result.now c.in_err-take.field-0.0 c.requires c.in_err-take.ensures.err s
    (c.as_slice.ensures ∙ c.in_ok-extend_from_slice.ensures.ok ∙ ap (λ h. h ++ c.args.bytes.now) read.held) read)

pub returns-clause-ok : goal.returns-clause-ok
returns-clause-ok c =
    λ s read. takes_line c.args.self.now _ c.args.bytes.now c.as_slice.result.now c.requires c.clear.ensures (λ _. room_empty _ c.clear.ensures) refl c.in_ok-take.ensures.ok s
    (c.as_slice.ensures ∙ c.in_ok-extend_from_slice.ensures.ok ∙ ap (λ h. h ++ c.args.bytes.now) read.held) read
