use Rattle.std.proofs.Common.{◌≡◌, ◌++◌, ◌+◌, ◌≤◌, ◌∷◌, [], ℕ, List, Option, Some, length, refl, sym, ap, ◌∙◌, subst, arith, append_assoc, append-nil, length-append}
use Rattle.std.specs.Prelude.{All, Result, IfErr}
use Rattle.std.specs.Vec.Iter.{into_iter_items}
use Rattle.std.proofs.lemmas.List.{nil_from_length}
use Rattle.std.proofs.lemmas.Result.{err_from_is_err_and}
use Rattle.nx_script.specs.Commands.{CanCome}
use Rattle.nx_script.specs.declared.command.Command.{Command}
use Rattle.nx_script.specs.declared.reply.Reply.{Reply}
use Rattle.nx_script.specs.declared.reply.ReplyError.{ReplyError}
use Rattle.nx_store.specs.Changing.{PreparesPart, PreparesAll, NotAllPrepared}
use Rattle.nx_store.specs.declared.error.EngineError.{EngineError}
use Rattle.nx_store.specs.declared.error.EngineError.TheVariants.{Memory}
use Rattle.nx_store.specs.declared.transacting.Refusal.{Refusal}
use Rattle.nx_store.proofs.ShowLemmas.{handed}
use Rattle.nx_store.proofs.TransactLemmas.{one_comes, preparing_first, preparing_then, preparing_refused, preparing_failed, preparing_undotted, preparing_done}
use Rattle.nx_store.proofs.store.Store.prepare_all.Goals as goal

pub loop-done-init : goal.loop-done-init
loop-done-init g c = ([], sym (c.into_iter-rest.ensures.rest ∙ c.into_vec.ensures), refl, preparing_first c.args.self.now c.args.disk.now c.args.text.now c.requires.runs)

pub prepare_part-requires-clause-come : goal.prepare_part-requires-clause-come
prepare_part-requires-clause-come g c κs apart =
    let i = c.loop-done.invariant in
    one_comes i.0 c.next_command-next.result (into_iter_items c.next_command-next.new.rest) (subst (λ (ks : List Command). All CanCome ks) (i.1 ∙ ap (λ (l : List Command). i.0 ++ l) c.next_command-next.ensures) c.requires.come)

pub returns-in_err-error-clause-refused : goal.returns-in_err-error-clause-refused
returns-in_err-error-clause-refused g c =
    handed c.from_residual.result (λ (r : Result (Option Refusal) EngineError). IfErr r (λ (e : EngineError). NotAllPrepared g.D.Disk e c.args.self.now c.prepare_part.new.self c.args.disk.now c.prepare_part.new.disk))
    c.in_err-error.field-0.0 (err_from_is_err_and c.from_residual.result c.from_residual.ensures.1)
    (preparing_failed c.loop-done.invariant.3 c.prepare_part.new.self c.prepare_part.new.disk c.in_err-error.field-0.0 c.in_err-error.ensures.refused)

pub returns-in-Err-clause-ok : goal.returns-in-Err-clause-ok
returns-in-Err-clause-ok g c =
    let i = c.loop-done.invariant in
    let why = subst (λ (made : Result Reply ReplyError). PreparesPart g.D.Disk c.next_command-next.result made c.loop-done.text c.prepare_part.new.text c.loop-done.self c.prepare_part.new.self c.loop-done.disk c.prepare_part.new.disk) c.in-Err.is c.in_ok-error.ensures.ok in
    subst (λ (r : Refusal). PreparesAll g.D.Disk c.args.commands (Some r) c.args.text.now c.prepare_part.new.text c.args.self.now c.prepare_part.new.self c.args.disk.now c.prepare_part.new.disk) (sym c.refused_behind.ensures)
    (preparing_refused i.3 c.next_command-next.result c.prepare_part.new.self c.prepare_part.new.disk c.args.commands (into_iter_items c.next_command-next.new.rest) c.loop-done.done c.in-Err.error c.prepare_part.new.text
    (i.1 ∙ ap (λ (l : List Command). i.0 ++ l) c.next_command-next.ensures) i.2 why)

pub loop-done-preserved : goal.loop-done-preserved
loop-done-preserved g c =
    let i = c.loop-done.invariant in
    let next = c.next_command-next.result in
    let rest : List Command = into_iter_items c.next_command-next.new.rest in
    let made = subst (λ (made : Result Reply ReplyError). PreparesPart g.D.Disk c.next_command-next.result made c.loop-done.text c.prepare_part.new.text c.loop-done.self c.prepare_part.new.self c.loop-done.disk c.prepare_part.new.disk) c.in-Ok.is c.in_ok-error.ensures.ok in
    let long = length-append i.0 (next ∷ []) in (
      i.0 ++ next ∷ [],
      i.1 ∙ ap (λ (l : List Command). i.0 ++ l) c.next_command-next.ensures ∙ sym (append_assoc i.0 (next ∷ []) rest),
      (let counted : length i.0 ≡ c.loop-done.done = i.2 in omega (arith, long, counted)),
      preparing_then i.3 next c.prepare_part.new.self c.prepare_part.new.disk c.in-Ok.field-0 c.prepare_part.new.text c.prepare_part.ensures.still made,
    )

pub returns-in_err-extend_from_slice-clause-refused : goal.returns-in_err-extend_from_slice-clause-refused
returns-in_err-extend_from_slice-clause-refused g c =
    handed c.from_residual-in_err-extend_from_slice.result (λ (r : Result (Option Refusal) EngineError). IfErr r (λ (e : EngineError). NotAllPrepared g.D.Disk e c.args.self.now c.loop-done.self c.args.disk.now c.loop-done.disk)) Memory
    (err_from_is_err_and c.from_residual-in_err-extend_from_slice.result c.from_residual-in_err-extend_from_slice.ensures.1) (preparing_undotted c.loop-done.invariant.3)

pub returns-clause-ok : goal.returns-clause-ok
returns-clause-ok g c =
    let i = c.loop-done.invariant in
    let rest : List Command = into_iter_items c.loop-done.rest in
    let counted : length i.0 ≡ c.loop-done.done = i.2 in
    let whole : c.len-len.result ≡ length c.args.commands = c.len-len.ensures in
    let parts : length c.args.commands ≡ length (i.0 ++ rest) = ap length i.1 in
    let long = length-append i.0 rest in
    let at_end : c.len-len.result ≤ c.loop-done.done = c.loop-done-test.false in
    let none : length rest ≡ 0 = omega (arith, counted, whole, parts, long, at_end) in
    preparing_done i.3 c.args.commands c.extend_from_slice.new.self (i.1 ∙ ap (λ (l : List Command). i.0 ++ l) (nil_from_length rest none) ∙ append-nil i.0) c.in_ok-extend_from_slice.ensures.ok
