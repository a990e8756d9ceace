-- A request that came to its commit, or was given up before it.
use Rattle.std.proofs.Common.{◌≡◌, ℕ, ◌≤◌, List, [], Option, Some, true, false, inl, inr, refl, sym, ap, ◌∙◌, subst, arith}
use Rattle.std.specs.Prelude.{◌≢◌, ◌⊎◌, IsSome, Result, Ok, Err, IfOk, IfErr}
use Rattle.std.proofs.lemmas.Bool.{false≢true}
use Rattle.nx_host.specs.Disk.{Image, Rose}
use Rattle.nx_host.specs.declared.disk.Disk.{Ghosts}
use Rattle.nx_host.specs.Still.{IsStill, IsSettled, WritesAlone}
use Rattle.nx_replay.specs.Log.{Group, replay, HasGroup}
use Rattle.nx_holdings.specs.Holdings.{Held, Holds}
use Rattle.nx_records.specs.declared.records.Records.{Records}
use Rattle.nx_records.specs.declared.error.StoreError.{StoreError}
use Rattle.nx_records.specs.declared.error.StoreError.TheVariants as below
use Rattle.nx_records.specs.Records.{has_ended, log_length_of, HasChanges, HasNoChanges, IsInStepWith, StandsFor}
use Rattle.nx_records.specs.Refusals.{RunsOn, NotWritten}
use Rattle.nx_records.proofs.StandLemmas.{abandon_stands}
use Rattle.nx_script.specs.declared.command.Command.{Command}
use Rattle.nx_script.specs.declared.command.Command.TheVariants.{Checkpoint}
use Rattle.nx_script.specs.declared.reply.Reply.{Reply}
use Rattle.nx_script.specs.declared.reply.Reply.TheVariants.{Refused}
use Rattle.nx_script.specs.declared.reply.ReplyError.{ReplyError}
use Rattle.nx_state.specs.State.{State}
use Rattle.nx_steps.specs.Requests.{may_change_request, RequestStep}
use Rattle.nx_store.specs.Store.{longest_log, is_ended, GoesOn, EndsNow, HoldsOn, RefusedHolds, IsAt, IsNow, HoldsNoState, IsOf, IsOfEither, IsShortened, Shows, ShowsBegun, GoesThrough, CommitsNothing, IsCarriedThrough, IsLeftUndone, IsApplied, NotApplied}
use Rattle.nx_store.specs.Staying.{IsLeftByRequest, RecordsStay, LeavesOthers}
use Rattle.nx_store.specs.Changing.{reply_of, HasReplyText, IsToldOrNot, IsCarriedWithText, DropsChanges, IsStoreLeft, NotPrepared, LeavesSaved, NotAllPrepared}
use Rattle.nx_script.specs.declared.request.Request.{Request}
use Rattle.nx_script.specs.declared.request.Request.TheVariants.{Single}
use Rattle.nx_script.specs.declared.request.Answer.{Answer}
use Rattle.nx_script.specs.declared.request.Answer.TheVariants.{One}
use Rattle.nx_store.specs.declared.store.Store.{Store}
use Rattle.nx_store.specs.declared.error.EngineError.{EngineError}
use Rattle.nx_store.specs.declared.error.EngineError.TheVariants as error
use Rattle.nx_store.proofs.AtLemmas.{now_at, committed_at, at_runs, shows_still}
use Rattle.nx_store.proofs.KeepLemmas.{later_rose, no_end}
use Rattle.nx_store.proofs.LogLemmas.{some_value, still_keeps, log_stays, kept_spares, adds_one, changes_other, changes_looks}
use Rattle.nx_store.proofs.ShowLemmas.{shows_then, shows_written, shows_weaker, later_done, later_given_up}
use Rattle.nx_store.proofs.StayingLemmas.{held_on, holds_later, held_leaves, ended_leaves, committed_leaves}

-- Of a request only the commit is left: its step, in each state that the store was at, and what stays.
pub record IsReady {D : Type 0} (d : Ghosts D) (request : Request) (answer : Answer) (s0 s1 : Store) (x0 x1 : D) : Type 0 where
  pub runs : RunsOn s0.records s1.records
  pub makes : (state : State) (at : IsAt d s0 x0 state)
      → (next : State) × RequestStep state request answer next × (now : IsNow d s1 x1 at.held next) × RecordsStay (IsLeftByRequest request) (at.state_is).stored at.held now.held

-- why a request was given up before its commit, where what was changed was dropped
abbrev pub GivesUp : {D : Type 0} → Ghosts D → EngineError → Store → Store → D → D → Type 0
GivesUp d error.Disk old new before after = Rose (d.faults before) (d.faults after) × EndsNow old new
GivesUp d (error.Damaged page) old new before after = EndsNow old new × HoldsNoState d old before
GivesUp d error.Memory old new before after = GoesOn old new × HoldsOn d old new before after
GivesUp d _ old new before after = ⊥

module _ {D : Type 0} (d : Ghosts D) where
  -- ---- nothing was committed

  -- what was changed was dropped, and the catalog is what it was
  pub dropped_holds : (s0 s1 s2 : Store) (x0 x1 : D) → LeavesSaved d s0 s1 x0 x1 → DropsChanges s1 s2 → s2.catalog ≡ s0.catalog → HoldsOn d s0 s2 x0 x1
  dropped_holds s0 s1 s2 x0 x1 left drops catalog state at told =
      (abandon_stands {r0 = s1.records} {r1 = s2.records} drops.follows drops.none_left drops.saved drops.forgets drops.ended_stays (left.saved at.held state (now_at at)), drops.none_left, catalog)

  pub left_saved : (s0 s1 : Store) (x0 x1 : D) → IsStoreLeft d s0 s1 x0 x1 → LeavesSaved d s0 s1 x0 x1
  left_saved s0 s1 x0 x1 left = record { runs = left.runs; saved = λ saved state at. left.saved saved (at.stands).keeps }

  module _ (s0 s1 s2 : Store) (x0 x1 : D) (drops : DropsChanges s1 s2) where
    pub dropped_on : RunsOn s0.records s1.records → GoesOn s0 s2
    dropped_on runs = (runs.before, drops.ended_stays ∙ runs.after)

    -- a command wasn't prepared
    pub command_gives_up : s2.catalog ≡ s1.catalog → (e : EngineError) → NotPrepared d e s0 s1 x0 x1 → GivesUp d e s0 s2 x0 x1
    command_gives_up catalog error.Disk why = (why.0, ((why.1).0, drops.ended_stays ∙ (why.1).1))
    command_gives_up catalog (error.Damaged page) why = (((why.0).0, drops.ended_stays ∙ (why.0).1), why.1)
    command_gives_up catalog error.Memory why = (dropped_on why.runs, dropped_holds s0 s1 s2 x0 x1 (left_saved s0 s1 x0 x1 why) drops (catalog ∙ why.catalog))
    command_gives_up catalog error.Write why = absurd why
    command_gives_up catalog error.Ended why = absurd why
    command_gives_up catalog error.Exists why = absurd why
    command_gives_up catalog error.NotAStore why = absurd why

    -- ... nor were those of a transaction
    pub all_give_up : s2.catalog ≡ s0.catalog → (e : EngineError) → NotAllPrepared d e s0 s1 x0 x1 → GivesUp d e s0 s2 x0 x1
    all_give_up catalog error.Disk why = (why.0, ((why.1).0, drops.ended_stays ∙ (why.1).1))
    all_give_up catalog (error.Damaged page) why = (((why.0).0, drops.ended_stays ∙ (why.0).1), why.1)
    all_give_up catalog error.Memory why = (dropped_on why.runs, dropped_holds s0 s1 s2 x0 x1 why drops catalog)
    all_give_up catalog error.Write why = absurd why
    all_give_up catalog error.Ended why = absurd why
    all_give_up catalog error.Exists why = absurd why
    all_give_up catalog error.NotAStore why = absurd why

  module _ (s0 s2 : Store) (x0 x1 : D) (still : IsStill d x0 x1) where
    -- a request that leaves the state
    pub held_done : (request : Request) (answer : Answer) → HoldsOn d s0 s2 x0 x1 → request ≢ Single Checkpoint → (GoesThrough request answer → ⊥) → (state : State) → IsAt d s0 x0 state → IsSome (d.contents x1) → RequestStep state request answer state
        → IsCarriedThrough d state request answer s2 x0 x1
    held_done request answer holds other through state at told step =
        let after : IsAt d s2 x1 state = held_on d s0 s2 x0 x1 holds state at told in
        (state, step, after, shows_weaker d (λ i of. inl of) (shows_still still at), log_stays d request answer state x0 x1 other through (still_keeps d x0 x1 still))

    -- ... and one that was given up
    pub given_up : (request : Request) (e : EngineError) → GivesUp d e s0 s2 x0 x1 → (state : State) → IsAt d s0 x0 state → IsSome (d.contents x1) → IsLeftUndone d e state request s2 x0 x1
    given_up request error.Disk why state at told = inl (shows_still still at)
    given_up request (error.Damaged page) why state at told = why.1 at.held state (now_at at)
    given_up request error.Memory why state at told =
        (held_on d s0 s2 x0 x1 why.1 state at told, shows_still still at, kept_spares d request x0 x1 (still_keeps d x0 x1 still))
    given_up request error.Write why state at told = absurd why
    given_up request error.Ended why state at told = absurd why
    given_up request error.Exists why state at told = absurd why
    given_up request error.NotAStore why state at told = absurd why

    pub not_applied : (e : EngineError) → GivesUp d e s0 s2 x0 x1 → NotApplied d e s0 s2 x0 x1
    not_applied error.Disk why = why
    not_applied (error.Damaged page) why = (why.0, λ told state at. why.1 at.held state (now_at at))
    not_applied error.Memory why = why.0
    not_applied error.Write why = absurd why
    not_applied error.Ended why = absurd why
    not_applied error.Exists why = absurd why
    not_applied error.NotAStore why = absurd why

    pub memory_holds : (e : EngineError) → GivesUp d e s0 s2 x0 x1 → e ≡ error.Memory → HoldsOn d s0 s2 x0 x1
    memory_holds e why is = (subst (λ (x : EngineError). GivesUp d x s0 s2 x0 x1) is why).1

    pub given_up_kept : (e : EngineError) → GivesUp d e s0 s2 x0 x1 → RefusedHolds d (Err e) s0 s2 x0 x1
    given_up_kept error.Memory why = why.1
    given_up_kept error.Disk why = tt
    given_up_kept (error.Damaged page) why = tt
    given_up_kept error.Write why = tt
    given_up_kept error.Ended why = tt
    given_up_kept error.Exists why = tt
    given_up_kept error.NotAStore why = tt

    pub given_up_leaves : (request : Request) (e : EngineError) → GivesUp d e s0 s2 x0 x1 → LeavesOthers d request s0 s2 x0 x1
    given_up_leaves request error.Memory why = held_leaves d request s0 s2 x0 x1 (λ runs. why.1)
    given_up_leaves request error.Disk why = ended_leaves d request s0 s2 x0 x1 (why.1).1
    given_up_leaves request (error.Damaged page) why = ended_leaves d request s0 s2 x0 x1 (why.0).1
    given_up_leaves request error.Write why = absurd why
    given_up_leaves request error.Ended why = absurd why
    given_up_leaves request error.Exists why = absurd why
    given_up_leaves request error.NotAStore why = absurd why

    -- a command that is refused, whose reply is told, or there was no memory for it
    module _ (command : Command) (other : Single command ≢ Single Checkpoint) (holds : HoldsOn d s0 s2 x0 x1) (on : GoesOn s0 s2) (e : ReplyError) where
      pub refused_applied : (r : Result (Reply × List ℕ) EngineError) → IsToldOrNot (Refused e) r → (state : State) → IsAt d s0 x0 state → IsSome (d.contents x1) → RequestStep state (Single command) (One (Refused e)) state
          → IsApplied d (reply_of r) state command s2 x0 x1
      refused_applied (Ok answer) is state at told step =
          subst (λ (a : Reply × List ℕ). IsApplied d (Ok a.0) state command s2 x0 x1) (sym is) (held_done (Single command) (One (Refused e)) holds other (λ goes. false≢true (sym goes.1)) state at told step)
      refused_applied (Err x) is state at told step =
          subst (λ (y : EngineError). IsApplied d (Err y) state command s2 x0 x1) (sym is) (given_up (Single command) error.Memory (on, holds) state at told)

      pub refused_told : (r : Result (Reply × List ℕ) EngineError) → IsToldOrNot (Refused e) r → IfOk r (λ answer. GoesOn s0 s2 × HasReplyText answer)
      refused_told (Ok answer) is = (on, subst (λ (a : Reply × List ℕ). HasReplyText a) (sym is) refl)
      refused_told (Err x) is = tt

      pub refused_untold : (r : Result (Reply × List ℕ) EngineError) → IsToldOrNot (Refused e) r → IfErr r (λ y. NotApplied d y s0 s2 x0 x1)
      refused_untold (Ok answer) is = tt
      refused_untold (Err x) is = subst (λ (y : EngineError). NotApplied d y s0 s2 x0 x1) (sym is) on

      pub refused_kept : (r : Result (Reply × List ℕ) EngineError) → IsToldOrNot (Refused e) r → RefusedHolds d (reply_of r) s0 s2 x0 x1
      refused_kept (Ok answer) is = λ refused. holds
      refused_kept (Err x) is = subst (λ (y : EngineError). RefusedHolds d (Err y) s0 s2 x0 x1) (sym is) holds

  -- ---- the commit

  module _ (request : Request) (answer : Answer) (s0 s1 : Store) (x0 x1 x2 : D) (still : IsStill d x0 x1) (ready : IsReady d request answer s0 s1 x0 x1)
      (goes : WritesAlone d x1 x2 (λ i. (saved now : Held) → StandsFor d s1.records x1 saved now → Holds (replay i) saved ⊎ Holds (replay i) now)) where
    module _ (state : State) (at : IsAt d s0 x0 state) (told : IsSome (d.contents x2)) where
      abbrev next : State
      next = (ready.makes state at).0

      abbrev now : IsNow d s1 x1 at.held next
      now = (ready.makes state at).2

      -- at each moment of it
      commit_shows : Shows d (IsOfEither state next) x0 x2
      commit_shows = shows_then d (still.beside_stays).output (λ i of. inl of) (λ i of. of) (shows_still still at) (shows_written d goes told (λ i held. elim (held at.held now.held now.stands) [
        | inl was ↦ inl (at.held, was, at.state_is)
        | inr new ↦ inr (now.held, new, now.state_is)
      ]))

      pub commit_begun : ShowsBegun d state request x0 x2
      commit_begun = inr (record { reply = answer; next = next; step = (ready.makes state at).1 }, commit_shows)

      -- behind it
      pub commit_done : (s2 : Store) (g : Group) → log_length_of s0.records ≤ longest_log → may_change_request request ≡ true → (CommitsNothing request answer → ⊥) → ((was now : Image) → IsInStepWith d s1.records x1 was → d.contents x2 ≡ Some now → HasGroup g was now)
          → ((was now : Image) → IsInStepWith d s1.records x1 was → d.contents x2 ≡ Some now → IsInStepWith d s2.records x2 now) → ((saved now : Held) (image : Image) → StandsFor d s1.records x1 saved now → d.contents x2 ≡ Some image → StandsFor d s2.records x2 now now)
          → HasNoChanges s2.records → s2.catalog ≡ s1.catalog → IsCarriedThrough d state request answer s2 x0 x2
      commit_done s2 g short may commits more step stands none catalog =
          let image = some_value (d.contents x2) told in
          let adds = adds_one d state s0 s1.records s2.records x0 x1 x2 g short at still ((now.stands).keeps).image ((now.stands).keeps).step more step told in (
            next,
            (ready.makes state at).1,
            committed_at {d = d} s1 s2 x1 x2 at.held next now image.0 image.1 stands none catalog,
            commit_shows,
            record {
              emptied = λ is. absurd (changes_other request may is);
              grown = λ changed. adds;
              once = λ through. adds;
              none = λ nothing. absurd (commits nothing);
              stays = λ looks. absurd (changes_looks request may looks);
            },
          )

    pub commit_leaves : (s2 : Store) → ((saved now : Held) (image : Image) → StandsFor d s1.records x1 saved now → d.contents x2 ≡ Some image → StandsFor d s2.records x2 now now) → HasNoChanges s2.records → s2.catalog ≡ s1.catalog → LeavesOthers d request s0 s2 x0 x2
    commit_leaves s2 stands none catalog = committed_leaves d request s0 s1 s2 x0 x1 x2 (λ state at. let made = ready.makes state at in (made.0, made.2, made.3)) stands none catalog

  -- the commit failed
  pub commit_refused : (s0 s1 s2 : Store) (x0 x1 x2 : D) (e : StoreError) → IsStill d x0 x1 → RunsOn s0.records s1.records → NotWritten d e s1.records s2.records x1 x2 → NotApplied d error.Disk s0 s2 x0 x2
  commit_refused s0 s1 s2 x0 x1 x2 below.Disk still runs refused = (later_rose (d.faults x0) (d.faults x1) (d.faults x2) still.faults_later refused.0, (runs.before, (refused.1).after))
  commit_refused s0 s1 s2 x0 x1 x2 below.Ended still runs refused = absurd (no_end s1.records runs.after refused.0)
  commit_refused s0 s1 s2 x0 x1 x2 below.Memory still runs refused = absurd refused
  commit_refused s0 s1 s2 x0 x1 x2 (below.Damaged page) still runs refused = absurd refused
  commit_refused s0 s1 s2 x0 x1 x2 below.Exists still runs refused = absurd refused
  commit_refused s0 s1 s2 x0 x1 x2 below.NotAStore still runs refused = absurd refused
  commit_refused s0 s1 s2 x0 x1 x2 below.Full still runs refused = absurd refused

  -- why a request was not carried out behind a step that left the store at its state
  pub later_refused : (s0 s1 s2 : Store) (x0 x1 x2 : D) → is_ended s0 ≡ false → WritesAlone d x0 x1 (λ i. (state : State) → IsAt d s0 x0 state → IsOf state i) → WritesAlone d x1 x2 (λ _. Unit {0})
      → ((state : State) → IsAt d s0 x0 state → IsSome (d.contents x1) → IsAt d s1 x1 state) → (e : EngineError) → is_ended s1 ≡ false → NotApplied d e s1 s2 x1 x2 → NotApplied d e s0 s2 x0 x2
  later_refused s0 s1 s2 x0 x1 x2 ran first second stays error.Disk runs refused = (later_rose (d.faults x0) (d.faults x1) (d.faults x2) first.faults_later refused.0, (ran, (refused.1).1))
  later_refused s0 s1 s2 x0 x1 x2 ran first second stays (error.Damaged page) runs refused = ((ran, (refused.0).1), λ told state at. refused.1 told state (stays state at (second.told told)))
  later_refused s0 s1 s2 x0 x1 x2 ran first second stays error.Ended runs refused = absurd (false≢true (sym runs ∙ refused.0))
  later_refused s0 s1 s2 x0 x1 x2 ran first second stays error.Memory runs refused = (ran, refused.1)
  later_refused s0 s1 s2 x0 x1 x2 ran first second stays error.Exists runs refused = absurd refused
  later_refused s0 s1 s2 x0 x1 x2 ran first second stays error.NotAStore runs refused = absurd refused
  later_refused s0 s1 s2 x0 x1 x2 ran first second stays error.Write runs refused = absurd refused

  -- ... and a command
  pub later_applied : (s s1 s2 : Store) (x0 x1 x2 : D) (state : State) (command : Command) → WritesAlone d x0 x1 (λ i. (state : State) → IsAt d s x0 state → IsOf state i) → IsAt d s x0 state → IsSome (d.contents x1)
      → IsAt d s1 x1 state → may_change_request (Single command) ≡ true → ((state : State) (was now : Image) → IsAt d s x0 state → IsSettled d x0 was → IsSettled d x1 now → IsShortened was now)
      → (r : Result Reply EngineError) → IsApplied d r state command s2 x1 x2 → IsApplied d r state command s2 x0 x2
  later_applied s s1 s2 x0 x1 x2 state command first at told mid may short (Ok r) applied = later_done d s s1 s2 x0 x1 x2 state (Single command) first at told mid may short (One r) applied
  later_applied s s1 s2 x0 x1 x2 state command first at told mid may short (Err e) applied = later_given_up d s s1 s2 x0 x1 x2 state (Single command) first at told mid may short e applied

  pub later_kept : (s0 s1 s2 : Store) (x0 x1 x2 : D) → HoldsOn d s0 s1 x0 x1 → (IsSome (d.contents x2) → IsSome (d.contents x1)) → (r : Result Reply EngineError) → RefusedHolds d r s1 s2 x1 x2 → RefusedHolds d r s0 s2 x0 x2
  later_kept s0 s1 s2 x0 x1 x2 first before (Ok r) kept = λ refused. holds_later d s0 s1 s2 x0 x1 x2 first before (kept refused)
  later_kept s0 s1 s2 x0 x1 x2 first before (Err error.Memory) kept = holds_later d s0 s1 s2 x0 x1 x2 first before kept
  later_kept s0 s1 s2 x0 x1 x2 first before (Err error.Disk) kept = tt
  later_kept s0 s1 s2 x0 x1 x2 first before (Err (error.Damaged page)) kept = tt
  later_kept s0 s1 s2 x0 x1 x2 first before (Err error.Write) kept = tt
  later_kept s0 s1 s2 x0 x1 x2 first before (Err error.Ended) kept = tt
  later_kept s0 s1 s2 x0 x1 x2 first before (Err error.Exists) kept = tt
  later_kept s0 s1 s2 x0 x1 x2 first before (Err error.NotAStore) kept = tt

  -- ... and a transaction
  pub later_text : (s s1 s2 : Store) (x0 x1 x2 : D) (state : State) (request : Request) → WritesAlone d x0 x1 (λ i. (state : State) → IsAt d s x0 state → IsOf state i) → IsAt d s x0 state → IsSome (d.contents x1)
      → IsAt d s1 x1 state → may_change_request request ≡ true → ((state : State) (was now : Image) → IsAt d s x0 state → IsSettled d x0 was → IsSettled d x1 now → IsShortened was now) → HoldsOn d s s1 x0 x1 → (IsSome (d.contents x2) → IsSome (d.contents x1))
      → (r : Result (List ℕ) EngineError) → IsCarriedWithText d r state request s1 s2 x1 x2 → IsCarriedWithText d r state request s s2 x0 x2
  later_text s s1 s2 x0 x1 x2 state request first at told mid may short holds before (Ok text) done =
      (done.0, done.1, later_done d s s1 s2 x0 x1 x2 state request first at told mid may short done.0 done.2, λ refused. holds_later d s s1 s2 x0 x1 x2 holds before (done.3 refused))
  later_text s s1 s2 x0 x1 x2 state request first at told mid may short holds before (Err e) done =
      (later_given_up d s s1 s2 x0 x1 x2 state request first at told mid may short e done.0, λ is. holds_later d s s1 s2 x0 x1 x2 holds before (done.1 is))
