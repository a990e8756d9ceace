-- How a request that changes a store is carried out: what is prepared of it before its commit, why nothing is, and what that leaves.
use Rattle.std.specs.Prelude.{◌≡◌, ◌≢◌, ◌++◌, true, false, ℕ, List, [], Contains, Option, None, Some, Result, Ok, Err, codes}
use Rattle.std.specs.Option.{IsSomeAnd}
use Rattle.std.specs.List.{flat_map}
use Rattle.nx_host.specs.Disk.{Rose}
use Rattle.nx_host.specs.declared.disk.Disk.{Ghosts}
use Rattle.nx_records.specs.Words.{Held}
use Rattle.nx_records.specs.Records.{HasChanges, HasNoChanges, HasSaved, FollowsOn, KeepsSaved, has_ended}
use Rattle.nx_records.specs.Refusals.{RunsOn}
use Rattle.nx_records.specs.declared.error.StoreError.{StoreError}
use Rattle.nx_records.specs.declared.error.StoreError.TheVariants as below
use Rattle.nx_catalog.specs.declared.saving.RuleError.{RuleError}
use Rattle.nx_catalog.specs.declared.saving.RuleError.TheVariants as rule
use Rattle.nx_script.specs.declared.command.Command.{Command}
use Rattle.nx_script.specs.Reply.{reply_text}
use Rattle.nx_script.specs.declared.reply.Reply.{Reply}
use Rattle.nx_script.specs.declared.reply.Reply.TheVariants as reply
use Rattle.nx_script.specs.declared.reply.ReplyError.{ReplyError}
use Rattle.nx_script.specs.declared.reply.ReplyError.TheVariants as refused
use Rattle.nx_state.specs.State.{State}
use Rattle.nx_steps.specs.Step.{may_change, Step}
use Rattle.nx_script.specs.Reply.{answered_text}
use Rattle.nx_steps.specs.Requests.{is_refused, PartStep, GoThrough, IsRefusedAt}
use Rattle.nx_store.specs.Store.{HoldsOn, IsNow, HoldsNoState, EndsNow, IsCarriedThrough, IsLeftUndone, is_refusal}
use Rattle.nx_store.specs.Staying.{IsLeftBy, RecordsStay, IsBeside, IsBesideAll, BesideStay}
use Rattle.nx_store.specs.Told.{told_error}
use Rattle.nx_script.specs.declared.request.Request.{Request}
use Rattle.nx_script.specs.declared.request.Answer.{Answer}
use Rattle.nx_store.specs.declared.transacting.Refusal.{Refusal}
use Rattle.nx_store.specs.declared.store.Store.{Store}
use Rattle.nx_store.specs.declared.error.EngineError.{EngineError}
use Rattle.nx_store.specs.declared.error.EngineError.TheVariants as error

-- the reply without the text beside it
abbrev pub reply_of : Result (Reply × List ℕ) EngineError → Result Reply EngineError
reply_of (Ok answer) = Ok answer.0
reply_of (Err e) = Err e

-- the text beside a reply is its own
abbrev pub HasReplyText : Reply × List ℕ → Type 0
HasReplyText answer = answer.1 ≡ reply_text answer.0

-- the reply with its text, or there was no memory for it
abbrev pub IsToldOrNot : Reply → Result (Reply × List ℕ) EngineError → Type 0
IsToldOrNot reply (Ok answer) = answer ≡ (reply, reply_text reply)
IsToldOrNot reply (Err e) = e ≡ error.Memory

-- How a request ended the text of whose answer was made: where the store is then, what stood meanwhile, and that a refusal and want of memory leave what is held.
abbrev pub IsCarriedWithText : {D : Type 0} → Ghosts D → Result (List ℕ) EngineError → State → Request → Store → Store → D → D → Type 0
IsCarriedWithText d (Ok text) state request old new before after =
    (answer : Answer) × (text ≡ answered_text answer) × IsCarriedThrough d state request answer new before after
    × (is_refusal answer ≡ true → HoldsOn d old new before after)
IsCarriedWithText d (Err e) state request old new before after = IsLeftUndone d e state request new before after × (e ≡ error.Memory → HoldsOn d old new before after)

-- What was changed and never committed was dropped, and nothing else.
pub record DropsChanges (old new : Store) : Type 0 where
  pub follows : FollowsOn old.records new.records
  pub none_left : HasNoChanges new.records
  pub saved : ((new.records).saved ≡ (old.records).saved) × ((new.records).head ≡ (old.records).saved)
  pub forgets : (new.records).catalog_pages ≡ []
  pub ended_stays : has_ended new.records ≡ has_ended old.records

-- ---- one command

-- The step of a command, prepared behind whatever waits: what is held is the next state, and the last commit holds what it held.
pub record PreparesNow {D : Type 0} (d : Ghosts D) (saved : Held) (state : State) (command : Command) (reply : Reply) (store : Store) (disk : D) : Type 0 where
  pub next : State
  pub step : Step state command reply next
  pub now : IsNow d store disk saved next

-- Of what was held a command made what is held by its step. The last commit holds what it held; the records that it leaves stay, and the documents that it doesn't name.
pub record MakesStep {D : Type 0} {d : Ghosts D} {old : Store} {before : D} {saved : Held} {state : State} (command : Command) (reply : Reply)
    (at : IsNow d old before saved state) (new : Store) (after : D) : Type 0 where
  pub next : State
  pub step : Step state command reply next
  pub now : IsNow d new after saved next
  pub stay : RecordsStay (IsLeftBy command) (at.state_is).stored at.held now.held
  pub beside : BesideStay (IsBeside command) at now

-- The command was prepared, behind whatever waited: something waits now, and its reply is behind the text.
pub record IsPrepared {D : Type 0} (d : Ghosts D) (command : Command) (reply : Reply) (text longer : List ℕ) (old new : Store) (before after : D) : Type 0 where
  pub runs : RunsOn old.records new.records
  pub changes : HasChanges new.records
  pub taken : is_refused reply ≡ false
  pub told : longer ≡ text ++ reply_text reply
  pub makes : (saved : Held) (state : State) (at : IsNow d old before saved state) → MakesStep command reply at new after

-- What is left of the store where a command wasn't prepared: its catalog and its last commit.
pub record IsStoreLeft {D : Type 0} (d : Ghosts D) (old new : Store) (before after : D) : Type 0 where
  pub runs : RunsOn old.records new.records
  pub saved : KeepsSaved d old.records new.records before after
  pub catalog : new.catalog ≡ old.catalog

-- whatever state the store was at, and whatever waits, the command is refused so
abbrev pub StepsRefused : {D : Type 0} → Ghosts D → Command → ReplyError → Store → D → Type 0
StepsRefused d command error store disk = (saved : Held) (state : State) → IsNow d store disk saved state → Step state command (reply.Refused error) state

-- A command was prepared, or it is refused.
abbrev pub PreparesNext : {D : Type 0} → Ghosts D → Command → Result Reply ReplyError → (text longer : List ℕ) → Store → Store → D → D → Type 0
PreparesNext d command (Ok reply) text longer old new before after = IsPrepared d command reply text longer old new before after
PreparesNext d command (Err error) text longer old new before after = IsStoreLeft d old new before after × StepsRefused d command error old before

-- Why a command was neither prepared nor refused, and what that leaves.
abbrev pub NotPrepared : {D : Type 0} → Ghosts D → EngineError → Store → Store → D → D → Type 0
NotPrepared d error.Disk old new before after = Rose (d.faults before) (d.faults after) × EndsNow old new
NotPrepared d (error.Damaged page) old new before after = EndsNow old new × HoldsNoState d old before
NotPrepared d error.Memory old new before after = IsStoreLeft d old new before after
NotPrepared d _ old new before after = ⊥

-- why a rule wasn't prepared
abbrev pub RuleNotPrepared : {D : Type 0} → Ghosts D → Command → RuleError → Store → Store → D → D → Type 0
RuleNotPrepared d command rule.TooManyRules old new before after = IsStoreLeft d old new before after × StepsRefused d command refused.TooManyRules old before
RuleNotPrepared d command (rule.Store below.Full) old new before after = IsStoreLeft d old new before after × StepsRefused d command refused.Full old before
RuleNotPrepared d command (rule.Store error) old new before after = IsSomeAnd (told_error error) (λ told. NotPrepared d told old new before after)

-- why a document didn't get another name
abbrev pub RenameNotPrepared : {D : Type 0} → Ghosts D → Command → StoreError → Store → Store → D → D → Type 0
RenameNotPrepared d command below.Full old new before after = IsStoreLeft d old new before after × StepsRefused d command refused.Full old before
RenameNotPrepared d command error old new before after = IsSomeAnd (told_error error) (λ told. NotPrepared d told old new before after)

-- what is told of a command that the records gave up
abbrev pub IsStoreCause : StoreError → Result (Result Reply ReplyError) EngineError → Type 0
IsStoreCause below.Full result = result ≡ Ok (Err refused.Full)
IsStoreCause below.Memory result = result ≡ Err error.Memory
IsStoreCause below.Disk result = result ≡ Err error.Disk
IsStoreCause (below.Damaged page) result = result ≡ Err (error.Damaged page)
IsStoreCause below.Ended result = result ≡ Err error.Ended
IsStoreCause below.Exists result = result ≡ Err error.Exists
IsStoreCause below.NotAStore result = result ≡ Err error.NotAStore

-- ... and of a rule that wasn't prepared
abbrev pub IsRuleCause : RuleError → Result (Result Reply ReplyError) EngineError → Type 0
IsRuleCause rule.TooManyRules result = result ≡ Ok (Err refused.TooManyRules)
IsRuleCause (rule.Store error) result = IsStoreCause error result

-- ---- the commands of a transaction, one after the other

-- One command was prepared, or it is refused, since it may change nothing or as by itself.
abbrev pub PreparesPart : {D : Type 0} → Ghosts D → Command → Result Reply ReplyError → (text longer : List ℕ) → Store → Store → D → D → Type 0
PreparesPart d command (Ok reply) text longer old new before after = (may_change command ≡ true) × IsPrepared d command reply text longer old new before after
PreparesPart d command (Err error) text longer old new before after =
    IsStoreLeft d old new before after × ((saved : Held) (state : State) → IsNow d old before saved state → PartStep state command (reply.Refused error) state)

-- of what was held commands made what is held
pub record MakesSteps {D : Type 0} {d : Ghosts D} {old : Store} {before : D} {saved : Held} {state : State} (commands : List Command) (replies : List Reply)
    (at : IsNow d old before saved state) (new : Store) (after : D) : Type 0 where
  pub next : State
  pub through : GoThrough state commands replies next
  pub now : IsNow d new after saved next
  pub beside : BesideStay (IsBesideAll commands) at now

-- All commands were prepared, and their replies are behind the text, with a dot.
pub record ArePrepared {D : Type 0} (d : Ghosts D) (commands : List Command) (text longer : List ℕ) (old new : Store) (before after : D) : Type 0 where
  pub runs : RunsOn old.records new.records
  pub changes : commands ≢ [] → HasChanges new.records
  pub replies : List Reply
  pub told : longer ≡ text ++ (flat_map reply_text replies ++ codes ".\n")
  pub makes : (saved : Held) (state : State) (at : IsNow d old before saved state) → MakesSteps commands replies at new after

-- What the last commit held it holds, whatever waits.
pub record LeavesSaved {D : Type 0} (d : Ghosts D) (old new : Store) (before after : D) : Type 0 where
  pub runs : RunsOn old.records new.records
  pub saved : (saved : Held) (state : State) → IsNow d old before saved state → HasSaved d new.records after saved

-- All commands were prepared, or one is refused.
abbrev pub PreparesAll : {D : Type 0} → Ghosts D → List Command → Option Refusal → (text longer : List ℕ) → Store → Store → D → D → Type 0
PreparesAll d commands None text longer old new before after = ArePrepared d commands text longer old new before after
PreparesAll d commands (Some refusal) text longer old new before after =
    LeavesSaved d old new before after
    × ((saved : Held) (state : State) → IsNow d old before saved state → IsRefusedAt state commands refusal.number refusal.error)

-- Why they were neither prepared nor refused, and what that leaves.
abbrev pub NotAllPrepared : {D : Type 0} → Ghosts D → EngineError → Store → Store → D → D → Type 0
NotAllPrepared d error.Disk old new before after = Rose (d.faults before) (d.faults after) × EndsNow old new
NotAllPrepared d (error.Damaged page) old new before after = EndsNow old new × HoldsNoState d old before
NotAllPrepared d error.Memory old new before after = LeavesSaved d old new before after
NotAllPrepared d _ old new before after = ⊥
