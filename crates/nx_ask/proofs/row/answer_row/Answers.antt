use Rattle.std.proofs.Common.{◌≡◌, ◌+◌, ◌<◌, ◌≤◌, ℕ, [], ◌∷◌, List, length, take, sym, ap, ◌∙◌, subst, arith, length-append}
use Rattle.std.specs.Prelude.{Some, IsSome}
use Rattle.std.specs.List.{AllZip}
use Rattle.std.proofs.lemmas.List.{take_all}
use Rattle.std.proofs.lemmas.Result.{err_from_is_err_and}
use Rattle.nx_host.specs.Disk.{Image}
use Rattle.nx_host.specs.Still.{IsSettled}
use Rattle.nx_script.specs.declared.command.Command.{Command}
use Rattle.nx_script.specs.declared.reply.Reply.{Reply}
use Rattle.nx_state.specs.Stands.{Recovers}
use Rattle.nx_store.specs.Store.{IsAt}
use Rattle.nx_ask.specs.declared.error.AskError.{AskError}
use Rattle.nx_ask.specs.Asked.{Asked, NotAsked}
use Rattle.nx_ask.proofs.PageLemmas.{err_passed}
use Rattle.nx_ask.proofs.RowLemmas.{zip_more, not_asked_of}
use Rattle.nx_ask.proofs.row.answer_row.Goals as goal

pub loop-place-init : goal.loop-place-init
loop-place-init g c = record {
  within = omega arith;
  many = ap length c.in-Ok.ensures.items;
  so_far = λ told was settled state recovers. (c.in_ok-store.ensures.ok was settled state recovers, subst (λ (l : List Reply). AllZip (Asked state) [] l) (sym c.in-Ok.ensures.items) tt);
}

pub loop-place-preserved : goal.loop-place-preserved
loop-place-preserved g c =
    let low : c.loop-place.place < length c.args.questions.now = c.loop-place-test.true in
    let many : length c.loop-place.replies.items ≡ c.loop-place.place = c.loop-place.invariant.many in
    record {
      within = omega (arith, low);
      many = ap length c.in-Ok-push.ensures.items ∙ length-append c.loop-place.replies.items (c.in_ok-reply.reply ∷ []) ∙ ap (λ (n : ℕ). n + 1) many;
      so_far = λ told was settled state recovers.
          let so_far = c.loop-place.invariant.so_far (c.ask-answered.ensures.told told) was settled state recovers in
          let asked = c.in_ok-reply.ensures.ok told state so_far.0 in
          let here = subst (λ (q : Command). Asked state q c.in_ok-reply.reply) c.index-questions-place.is asked.0 in
          let more = zip_more (Asked state) c.args.questions.now c.loop-place.replies.items c.loop-place.place c.index-questions-place.result c.in_ok-reply.reply so_far.1 low here in
          (asked.1, subst (λ (l : List Reply). AllZip (Asked state) (take (c.loop-place.place + 1) c.args.questions.now) l) (sym c.in-Ok-push.ensures.items) more);
    }

pub returns-in_err-reply-clause-refused : goal.returns-in_err-reply-clause-refused
returns-in_err-reply-clause-refused g c =
    err_passed c.from_residual-in_err-reply.result
    (λ (e : AskError). IsSome (g.D.Disk.contents c.ask-answered.new.disk) → (was : Image) → IsSettled g.D.Disk c.args.disk.now was → NotAsked (λ state. Recovers was (Some state)) e)
    c.in_err-reply.field-0.0 (err_from_is_err_and c.from_residual-in_err-reply.result c.from_residual-in_err-reply.ensures.1)
    (λ told was settled.
    not_asked_of (IsAt g.D.Disk c.loop-place.store c.loop-place.disk) (λ state. Recovers was (Some state)) c.in_err-reply.field-0.0
    (λ state recovers. (c.loop-place.invariant.so_far (c.ask-answered.ensures.told told) was settled state recovers).0) (c.in_err-reply.ensures.refused told))

pub returns-clause-ok : goal.returns-clause-ok
returns-clause-ok g c told was settled =
    let within : c.loop-place.place ≤ length c.args.questions.now = c.loop-place.invariant.within in
    let high : length c.args.questions.now ≤ c.loop-place.place = c.loop-place-test.false in
    let all : c.loop-place.place ≡ length c.args.questions.now = omega (arith, within, high) in (
      c.loop-place.invariant.many ∙ all,
      λ state recovers.
          subst (λ (l : List Command). AllZip (Asked state) l c.loop-place.replies.items) (take_all c.loop-place.place c.args.questions.now c.loop-place-test.false)
          (c.loop-place.invariant.so_far told was settled state recovers).1,
    )
