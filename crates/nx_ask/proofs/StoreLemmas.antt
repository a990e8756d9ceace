-- What a store that was asked is at, and why it gives up.
use Rattle.std.proofs.Common.{◌≡◌, true, subst}
use Rattle.std.specs.Prelude.{Some, IsSome, Ok}
use Rattle.nx_host.specs.Disk.{Image}
use Rattle.nx_host.specs.declared.disk.Disk.{Ghosts}
use Rattle.nx_host.specs.Still.{IsSettled}
use Rattle.nx_script.specs.declared.command.Command.{Command}
use Rattle.nx_script.specs.declared.reply.Reply.{Reply}
use Rattle.nx_state.specs.State.{State}
use Rattle.nx_state.specs.Stands.{Recovers}
use Rattle.nx_steps.specs.Step.{Step}
use Rattle.nx_store.specs.declared.store.Store.{Store}
use Rattle.nx_store.specs.declared.error.EngineError.{EngineError}
use Rattle.nx_store.specs.declared.error.EngineError.TheVariants as store
use Rattle.nx_store.specs.Store.{IsAt, IsApplied, NotApplied, NotOpened}
use Rattle.nx_ask.specs.Asked.{is_question, Asked, NotAsked}
use Rattle.nx_ask.specs.Errors.{asked_error}
use Rattle.nx_ask.proofs.AskLemmas.{state_stays, asked_by_step}
use Rattle.nx_ask.proofs.SnapshotLemmas.{state_has_header}

module _ {D : Type 0} (d : Ghosts D) where
  -- why a store isn't opened is why it isn't asked
  pub not_opened_asked : (e : EngineError) (before after : D) → NotOpened d e before after → (was : Image) → IsSettled d before was → NotAsked (λ state. Recovers was (Some state)) (asked_error e)
  not_opened_asked store.Disk before after refused was settled = tt
  not_opened_asked store.NotAStore before after refused was settled = λ state recovers. refused was settled (state_has_header was state recovers)
  not_opened_asked (store.Damaged page) before after refused was settled = (refused was settled).1
  not_opened_asked store.Memory before after refused was settled = tt
  not_opened_asked store.Exists before after refused was settled = tt
  not_opened_asked store.Write before after refused was settled = tt
  not_opened_asked store.Ended before after refused was settled = tt

  -- ... and so is why a command isn't carried out
  pub not_applied_asked : (e : EngineError) (old new : Store) (before after : D) → NotApplied d e old new before after → IsSome (d.contents after) → NotAsked (IsAt d old before) (asked_error e)
  not_applied_asked store.Disk old new before after refused told = tt
  not_applied_asked store.NotAStore old new before after refused told = absurd refused
  not_applied_asked (store.Damaged page) old new before after refused told = refused.1 told
  not_applied_asked store.Memory old new before after refused told = tt
  not_applied_asked store.Exists old new before after refused told = tt
  not_applied_asked store.Write old new before after refused told = tt
  not_applied_asked store.Ended old new before after refused told = tt

  -- a store that carried a question out answered it, and is where it was
  pub asked_on : (state : State) (command question : Command) (r : Reply) (new : Store) (before after : D) → command ≡ question → is_question question ≡ true → IsApplied d (Ok r) state command new before after
      → Asked state question r × IsAt d new after state
  asked_on state command question r new before after same is applied =
      let step = subst (λ (q : Command). Step state q r applied.0) same applied.1 in
      (asked_by_step state applied.0 question r is step, subst (λ (s : State). IsAt d new after s) (state_stays state applied.0 question r is step) applied.2)
