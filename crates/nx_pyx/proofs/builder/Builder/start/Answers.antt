use Rattle.std.proofs.Common.{refl, sym, ◌∙◌}
use Rattle.std.proofs.lemmas.Result.{err_from_is_err_and}
use Rattle.nx_pyx.specs.Event.{Start}
use Rattle.nx_pyx.proofs.MakeLemmas.{roomless, start_fit, starts}
use Rattle.nx_pyx.proofs.builder.Builder.start.Goals as goal

pub returns-in_err-has_room-clause-err : goal.returns-in_err-has_room-clause-err
returns-in_err-has_room-clause-err c =
    let p = err_from_is_err_and c.from_residual.result c.from_residual.ensures.1 in
    let short = c.requires in
    rw (p.1, p.2)
    (roomless c.args.self.now c.args.self.now (Start c.args.name.now) c.in_err-has_room.field-0.0 refl refl refl
    (λ a known. start_fit c.args.self.now a c.args.name.now short (sym c.is_name.ensures ∙ c.if-not-is_name.false) (sym c.is_beside.ensures ∙ c.if-is_beside.false)) refl
    c.in_err-has_room.ensures.err)

pub returns-clause-ok : goal.returns-clause-ok
returns-clause-ok c =
    starts c.args.self.now _ (record { before = c.replace-before.result; name = c.in_ok-name.name }) c.args.name.now c.requires (sym c.is_name.ensures ∙ c.if-not-is_name.false)
    (sym c.is_beside.ensures ∙ c.if-is_beside.false) c.in_ok-has_room.ensures.ok.0 c.in_ok-has_room.ensures.ok.1
    c.in_ok-push.ensures.items c.replace-before.ensures.value c.in_ok-name.ensures (c.replace-before.ensures.after ∙ c.new.ensures) refl refl refl c.clear.ensures refl
