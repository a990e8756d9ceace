-- The text of a reply that is made behind its command, and given.
use Rattle.std.proofs.Common.{◌≡◌, ℕ, List, Option, None, Some, true, false, refl, subst, inl, inr}
use Rattle.std.specs.Prelude.{IsSome, Ok, Err}
use Rattle.nx_host.specs.Disk.{Keeps}
use Rattle.nx_host.specs.Host.{Appends, AppendsPrefix}
use Rattle.nx_host.specs.Phase.{TalksAlone}
use Rattle.nx_host.specs.Time.{Elapses, elapsed_then, elapsed_weaker}
use Rattle.nx_host.specs.declared.disk.Disk.{Ghosts}
use Rattle.nx_host.proofs.DiskLemmas.{told_same}
use Rattle.nx_script.specs.declared.command.Command.{Command}
use Rattle.nx_script.specs.declared.reply.Reply.{Reply}
use Rattle.nx_state.specs.State.{State}
use Rattle.nx_steps.specs.Step.{may_change}
use Rattle.nx_script.specs.Reply.{reply_text}
use Rattle.nx_script.specs.Reply.{answered_text}
use Rattle.nx_store.specs.Store.{IsAt, IsOf, HoldsOn, RefusedHolds, LeavesLog, IsCarriedThrough, IsLeftUndone, IsApplied, is_refusal, ShowsAnswer, IsAnswered}
use Rattle.nx_store.specs.Changing.{IsCarriedWithText}
use Rattle.nx_script.specs.declared.request.Request.{Request}
use Rattle.nx_script.specs.declared.request.Request.TheVariants.{Single}
use Rattle.nx_script.specs.declared.request.Answer.{Answer}
use Rattle.nx_script.specs.declared.request.Answer.TheVariants.{One}
use Rattle.nx_store.specs.declared.store.Store.{Store}
use Rattle.nx_store.specs.declared.error.EngineError.{EngineError}
use Rattle.nx_store.specs.declared.error.EngineError.TheVariants as error
use Rattle.nx_store.proofs.AtLemmas.{at_image, at_beside}
use Rattle.nx_store.proofs.ReadLemmas.{given_holds}
use Rattle.nx_store.proofs.ShowLemmas.{shows_weaker}
use Rattle.nx_store.proofs.LogLemmas.{areas_keep, keeps_on, told_spares}
use Rattle.nx_store.proofs.CaseLemmas.{quiet_leaves}

-- what was given behind an output that stayed
appends_kept : (x : List ℕ) (a b c : Option (List ℕ)) → Keeps a b → Appends x b c → Appends x a c
appends_kept x a b None kept grew = tt
appends_kept x a b (Some now) kept (was, is, grew) = (was, subst (λ o. Keeps a o) is kept, grew)

prefix_kept : (x : List ℕ) (a b c : Option (List ℕ)) → Keeps a b → AppendsPrefix x b c → AppendsPrefix x a c
prefix_kept x a b None kept grew = tt
prefix_kept x a b (Some now) kept (was, n, is, grew) = (was, n, subst (λ o. Keeps a o) is kept, grew)

module _ {D : Type 0} (d : Ghosts D) where
  -- there was no memory for the text
  pub untold_applied : (s : Store) (x0 x1 : D) (state : State) (command : Command) (reply : Reply) → may_change command ≡ false
      → IsApplied d (Ok reply) state command s x0 x1 → IsLeftUndone d error.Memory state (Single command) s x0 x1
  untold_applied s x0 x1 state command reply quiet applied =
      let same = quiet_leaves command quiet state applied.0 reply applied.1 in
      (subst (λ (n : State). IsAt d s x1 n) same applied.2, shows_weaker d (λ i of. elim of [ inl was ↦ was | inr now ↦ subst (λ (n : State). IsOf n i) same now ]) applied.3, told_spares d command reply state applied.0 x0 x1 quiet applied.4)

  -- the text of a reply stands beside it
  pub told_applied : (s0 s1 : Store) (x0 x1 : D) (state : State) (command : Command) (reply : Reply) (text : List ℕ) → text ≡ reply_text reply → IsApplied d (Ok reply) state command s1 x0 x1 → RefusedHolds d (Ok reply) s0 s1 x0 x1
      → IsCarriedWithText d (Ok text) state (Single command) s0 s1 x0 x1
  told_applied s0 s1 x0 x1 state command reply text is applied holds = (One reply, is, applied, holds)

  memory_held : (e : EngineError) (s0 s1 : Store) (x0 x1 : D) → RefusedHolds d (Err e) s0 s1 x0 x1 → e ≡ error.Memory → HoldsOn d s0 s1 x0 x1
  memory_held e s0 s1 x0 x1 holds is = subst (λ (x : EngineError). RefusedHolds d (Err x) s0 s1 x0 x1) is holds

  pub failed_applied : (s0 s1 : Store) (x0 x1 : D) (state : State) (command : Command) (e : EngineError) → IsApplied d (Err e) state command s1 x0 x1 → RefusedHolds d (Err e) s0 s1 x0 x1 → IsCarriedWithText d (Err e) state (Single command) s0 s1 x0 x1
  failed_applied s0 s1 x0 x1 state command e applied holds = (applied, memory_held e s0 s1 x0 x1 holds)

  -- a request that gave up had no answer
  pub failed_answered : (s0 s1 : Store) (x0 x1 : D) (state : State) (request : Request) (e : EngineError) → IsCarriedWithText d (Err e) state request s0 s1 x0 x1 → IsAnswered d (Err e) state request s0 s1 x0 x1
  failed_answered s0 s1 x0 x1 state request error.Memory done = ((done.0).0, inl (done.0).1, done.1 refl, (done.0).2)
  failed_answered s0 s1 x0 x1 state request error.Disk done = inl done.0
  failed_answered s0 s1 x0 x1 state request error.Write done = absurd done.0
  failed_answered s0 s1 x0 x1 state request (error.Damaged page) done = absurd done.0
  failed_answered s0 s1 x0 x1 state request error.Ended done = absurd done.0
  failed_answered s0 s1 x0 x1 state request error.Exists done = absurd done.0
  failed_answered s0 s1 x0 x1 state request error.NotAStore done = absurd done.0

  -- the answer is given behind the request
  module _ (s0 s : Store) (x0 x1 x2 : D) (state : State) (request : Request) (text : List ℕ) (kept : Keeps (d.beside x0).output (d.beside x1).output) (gives : TalksAlone d text x1 x2) (told : IsSome (d.contents x2)) where
    pub told_between : IsSome (d.contents x1)
    told_between = subst (λ o. IsSome o) (told_same (d.contents x1) (d.contents x2) gives.contents_stay told) told

    module _ (answer : Answer) (is : text ≡ answered_text answer) (done : IsCarriedThrough d state request answer s x0 x1) where
      shows_turn : Elapses d.moment d.stood_since x0 x2 (ShowsAnswer (d.beside x0).output state (answered_text answer) done.0)
      shows_turn = elapsed_then {P = ShowsAnswer (d.beside x0).output state (answered_text answer) done.0} (elapsed_weaker done.3 (λ m h. inl h)) gives.time (λ m h. inr (
        subst (λ (t : List ℕ). AppendsPrefix t (d.beside x0).output m.output) is (prefix_kept text (d.beside x0).output (d.beside x1).output m.output kept h.0),
        at_image done.2 h.1,
      ))

      log_given : LeavesLog d request answer state done.0 x0 x2
      log_given = record {
        emptied = λ is image may. (done.4).emptied is image ((gives.images_stay image).0 may);
        grown = λ changed was image before may. (done.4).grown changed was image before ((gives.images_stay image).0 may);
        once = λ goes was image before may. (done.4).once goes was image before ((gives.images_stay image).0 may);
        none = λ nothing was image before may. (done.4).none nothing was image before ((gives.images_stay image).0 may);
        stays = λ looks. keeps_on d x0 x1 x2 ((done.4).stays looks) (areas_keep d x1 x2 gives.contents_stay told gives.images_stay);
      }

      pub given_answered : (is_refusal answer ≡ true → HoldsOn d s0 s x0 x1) → Appends text (d.beside x1).output (d.beside x2).output → IsAnswered d (Ok tt) state request s0 s x0 x2
      given_answered holds grew = record {
        turn = record { reply = answer; next = done.0; step = done.1 };
        at = at_beside gives told done.2;
        gave = subst (λ (t : List ℕ). Appends t (d.beside x0).output (d.beside x2).output) is (appends_kept text (d.beside x0).output (d.beside x1).output (d.beside x2).output kept grew);
        time = shows_turn;
        log = log_given;
        holds = λ refused. given_holds d s0 s x0 x1 x2 (AppendsPrefix text (d.beside x1).output) gives (holds refused);
      }

      pub unwritten_answered : (is_refusal answer ≡ true → HoldsOn d s0 s x0 x1) → IsAnswered d (Err error.Write) state request s0 s x0 x2
      unwritten_answered holds = (
        record { reply = answer; next = done.0; step = done.1 },
        at_beside gives told done.2,
        shows_turn,
        λ refused. given_holds d s0 s x0 x1 x2 (AppendsPrefix text (d.beside x1).output) gives (holds refused),
        log_given,
      )
