-- What stood meanwhile, and how a result is handed on.
use Rattle.std.proofs.Common.{◌≡◌, ℕ, List, sym, subst, ◌∙◌, true, false, inl, inr}
use Rattle.std.specs.Prelude.{IsSome, Result, Ok, Err, IfOk, IfErr, OnOk}
use Rattle.std.proofs.lemmas.Bool.{false≢true}
use Rattle.nx_host.specs.Disk.{Image, Keeps}
use Rattle.nx_host.specs.declared.disk.Disk.{Ghosts}
use Rattle.nx_host.specs.Still.{IsStill, IsSettled, WritesAlone}
use Rattle.nx_host.specs.Time.{none_elapsed, elapsed_then, elapsed_weaker}
use Rattle.nx_host.proofs.DiskLemmas.{keeps_then, still_goes, written_alone_weaker}
use Rattle.nx_script.specs.declared.command.Command.{Command}
use Rattle.nx_script.specs.declared.reply.Reply.{Reply}
use Rattle.nx_state.specs.State.{State}
use Rattle.nx_steps.specs.Step.{Step}
use Rattle.nx_steps.specs.Requests.{may_change_request}
use Rattle.nx_store.specs.Store.{LeavesStore, is_ended, GoesOn, IsAt, IsOf, IsShortened, LooksAlone, Shows, IsCarriedThrough, IsLeftUndone, IsApplied, NotApplied}
use Rattle.nx_script.specs.declared.request.Request.{Request}
use Rattle.nx_script.specs.declared.request.Request.TheVariants.{Single}
use Rattle.nx_script.specs.declared.request.Answer.{Answer}
use Rattle.nx_store.specs.declared.store.Store.{Store}
use Rattle.nx_store.specs.declared.error.EngineError.{EngineError}
use Rattle.nx_store.specs.declared.error.EngineError.TheVariants as error
use Rattle.nx_store.proofs.AtLemmas.{at_kept, at_runs, shows_still}
use Rattle.nx_store.proofs.LogLemmas.{still_keeps, log_of_look, kept_spares, log_later, spares_later}

-- the error that a `?` hands on
pub handed : {T E : Type 0} (r : Result T E) (P : Result T E → Type 0) (e : E) → (y : E) × (r ≡ Err y) × (y ≡ e) → P (Err e) → P r
handed r P e is here = subst P (sym is.1) (subst (λ x. P (Err x)) (sym is.2) here)

-- what holds in any case holds where the call went well
pub on_ok_any : {T E : Type 0} {P : Type 0} (r : Result T E) → P → OnOk r P
on_ok_any (Ok x) p = p
on_ok_any (Err e) p = tt

module _ {D : Type 0} (d : Ghosts D) where
  pub shows_weaker : {P Q : Image → Type 0} {x0 x1 : D} → ((i : Image) → P i → Q i) → Shows d P x0 x1 → Shows d Q x0 x1
  shows_weaker weaker shows = elapsed_weaker shows (λ s h. (h.0, weaker s.image h.1))

  pub shows_then : {P Q R : Image → Type 0} {x0 x1 x2 : D} → Keeps (d.beside x0).output (d.beside x1).output → ((i : Image) → P i → R i) → ((i : Image) → Q i → R i)
      → Shows d P x0 x1 → Shows d Q x1 x2 → Shows d R x0 x2
  shows_then {x0 = x0} {x1 = x1} kept first second one other =
      elapsed_then (shows_weaker first one) other (λ s h. (keeps_then (d.beside x0).output (d.beside x1).output s.output kept h.0, second s.image h.1))

  pub shows_written : {P Q : Image → Type 0} {x0 x1 : D} → WritesAlone d x0 x1 P → IsSome (d.contents x1) → ((i : Image) → P i → Q i) → Shows d Q x0 x1
  shows_written written told weaker = elapsed_weaker written.time (λ s h. (h.0, weaker s.image (h.1 told)))

  pub written_areas : {x0 x1 : D} {P : Image → Type 0} → WritesAlone d x0 x1 P → WritesAlone d x0 x1 (λ _. Unit {0})
  written_areas written = written_alone_weaker written (λ told i has. tt)

  pub still_areas : {x0 x1 : D} → IsStill d x0 x1 → WritesAlone d x0 x1 (λ _. Unit {0})
  still_areas still = written_alone_weaker (still_goes still) (λ told i may. tt)

  -- a command that asked the disk alone, and left the store where it runs on
  module _ {s0 s1 : Store} {x0 x1 : D} {state : State} (command : Command) (looks : LooksAlone (Single command)) (still : IsStill d x0 x1) (same : is_ended s1 ≡ false → LeavesStore s0 s1) (at : IsAt d s0 x0 state) (told : IsSome (d.contents x1)) where
    at_stays : is_ended s1 ≡ false → IsAt d s1 x1 state
    at_stays runs = at_kept {s0 = s0} {s1 = s1} (same runs) still at

    pub looked_reply : (reply : Reply) → is_ended s1 ≡ false → Step state command reply state → IsApplied d (Ok reply) state command s1 x0 x1
    looked_reply reply runs step = (state, step, at_stays runs, shows_weaker (λ i of. inl of) (shows_still still at), log_of_look d command reply state x0 x1 looks (still_keeps d x0 x1 still))

    pub looked_error : (e : EngineError) → NotApplied d e s0 s1 x0 x1 → IsApplied d (Err e) state command s1 x0 x1
    looked_error error.Memory refused = (at_stays refused.1, shows_still still at, kept_spares d (Single command) x0 x1 (still_keeps d x0 x1 still))
    looked_error error.Disk refused = inl (shows_still still at)
    looked_error (error.Damaged page) refused = refused.1 told state at
    looked_error error.Ended refused = absurd (false≢true (sym (at_runs at) ∙ refused.0))
    looked_error error.Exists refused = absurd refused
    looked_error error.NotAStore refused = absurd refused
    looked_error error.Write refused = absurd refused

    pub looked_applied : (r : Result Reply EngineError) → IfOk r (λ reply. GoesOn s0 s1 × ((state : State) → IsAt d s0 x0 state → Step state command reply state)) → IfErr r (λ e. NotApplied d e s0 s1 x0 x1) → IsApplied d r state command s1 x0 x1
    looked_applied (Ok reply) ok refused = looked_reply reply (ok.0).1 (ok.1 state at)
    looked_applied (Err e) ok refused = looked_error e refused

  -- a request behind a step that left the store at its state
  module _ (s s1 s2 : Store) (x0 x1 x2 : D) (state : State) (request : Request) (first : WritesAlone d x0 x1 (λ i. (state : State) → IsAt d s x0 state → IsOf state i)) (at : IsAt d s x0 state) (told : IsSome (d.contents x1))
      (mid : IsAt d s1 x1 state) (may : may_change_request request ≡ true) (short : (state : State) (was now : Image) → IsAt d s x0 state → IsSettled d x0 was → IsSettled d x1 now → IsShortened was now) where
    first_shows : Shows d (IsOf state) x0 x1
    first_shows = shows_written first told (λ i of. of state at)

    pub later_done : (answer : Answer) → IsCarriedThrough d state request answer s2 x1 x2 → IsCarriedThrough d state request answer s2 x0 x2
    later_done answer done =
        let keeps = (mid.stands).keeps in (
          done.0,
          done.1,
          done.2,
          shows_then (first.beside_stays).output (λ i of. inl of) (λ i of. of) first_shows done.3,
          log_later d x0 x1 x2 keeps.image (keeps.step).settled (λ was before. short state was keeps.image at before (keeps.step).settled) request answer state done.0 may done.4,
        )

    pub later_given_up : (e : EngineError) → IsLeftUndone d e state request s2 x1 x2 → IsLeftUndone d e state request s2 x0 x2
    later_given_up error.Memory left =
        let keeps = (mid.stands).keeps in (
          left.0,
          shows_then (first.beside_stays).output (λ i of. of) (λ i of. of) first_shows left.1,
          spares_later d x0 x1 x2 keeps.image (keeps.step).settled (λ was before. short state was keeps.image at before (keeps.step).settled) request may left.2,
        )
    later_given_up error.Disk begun = elim begun [
      | inl shows ↦ inl (shows_then (first.beside_stays).output (λ i of. of) (λ i of. of) first_shows shows)
      | inr far ↦ inr (far.0, shows_then (first.beside_stays).output (λ i of. inl of) (λ i of. of) first_shows far.1)
    ]
    later_given_up error.Write left = absurd left
    later_given_up (error.Damaged page) left = absurd left
    later_given_up error.Ended left = absurd left
    later_given_up error.Exists left = absurd left
    later_given_up error.NotAStore left = absurd left
