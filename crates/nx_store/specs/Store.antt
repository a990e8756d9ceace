-- What a store and its disk stand for, and what its calls leave and show.
use Rattle.std.specs.Prelude.{◌≡◌, ◌≢◌, ◌⊎◌, ◌<◌, ◌≤◌, ◌+◌, nat_lt, if◌then◌else◌, ℕ, List, [], ◌++◌, true, false, Bool, Option, Some, IsSome, Result, Ok, Err}
use Rattle.nx_host.specs.Disk.{Image, Keeps, Rose}
use Rattle.nx_host.specs.declared.disk.Disk.{Ghosts}
use Rattle.nx_host.specs.Host.{Appends, AppendsPrefix}
use Rattle.nx_host.specs.Time.{Stood, Elapses}
use Rattle.nx_host.specs.Still.{IsSettled, IsStill}
use Rattle.nx_records.specs.Words.{replay, Held}
use Rattle.nx_records.specs.Records.{StandsFor, LeavesRecords, HasNoChanges, HasHeader, has_ended, image_group_count, log_end}
use Rattle.nx_catalog.specs.Catalog.{IsCatalog}
use Rattle.nx_nav.specs.Given.{AppendsBut}
use Rattle.nx_script.specs.declared.command.Command.{Command}
use Rattle.nx_script.specs.declared.command.Command.TheVariants.{Export, Checkpoint}
use Rattle.nx_script.specs.declared.reply.Reply.{Reply}
use Rattle.nx_script.specs.Reply.{reply_text}
use Rattle.nx_state.specs.State.{State}
use Rattle.nx_state.specs.Stands.{HoldsState, Recovers}
use Rattle.nx_steps.specs.Step.{may_change, Step}
use Rattle.nx_script.specs.Reply.{answered_text}
use Rattle.nx_steps.specs.Requests.{is_refused, may_change_request, RequestStep}
use Rattle.nx_script.specs.declared.request.Request.{Request}
use Rattle.nx_script.specs.declared.request.Request.TheVariants.{Single, Transaction}
use Rattle.nx_script.specs.declared.request.Answer.{Answer}
use Rattle.nx_script.specs.declared.request.Answer.TheVariants.{One, All as Each, RefusedAt}
use Rattle.nx_store.specs.declared.store.Store.{Store}
use Rattle.nx_store.specs.declared.error.EngineError.{EngineError}
use Rattle.nx_store.specs.declared.error.EngineError.TheVariants as error

-- an earlier call on the store answered `Disk` or `Damaged`
abbrev pub is_ended : Store → Bool
is_ended store = has_ended store.records

-- The store runs, the disk stands as the last call left it, nothing waits for a commit, and what is held is this state.
pub record IsAt {D : Type 0} (d : Ghosts D) (store : Store) (disk : D) (state : State) : Type 0 where
  pub held : Held
  pub stands : StandsFor d store.records disk held held
  pub none_waits : HasNoChanges store.records
  pub state_is : HoldsState held state
  pub catalog : IsCatalog held.catalog.bytes store.catalog

-- The store runs, the disk stands as the last call left it, the last commit holds `saved`, and what is held is this state, whatever waits for the next commit.
pub record IsNow {D : Type 0} (d : Ghosts D) (store : Store) (disk : D) (saved : Held) (state : State) : Type 0 where
  pub held : Held
  pub stands : StandsFor d store.records disk saved held
  pub state_is : HoldsState held state
  pub catalog : IsCatalog held.catalog.bytes store.catalog

-- The store stands for what it held, and nothing waits.
abbrev pub HoldsOn : {D : Type 0} → Ghosts D → Store → Store → D → D → Type 0
HoldsOn d old new before after =
    (state : State) (at : IsAt d old before state) → IsSome (d.contents after)
    → StandsFor d new.records after at.held at.held × HasNoChanges new.records × (new.catalog ≡ old.catalog)

-- What a request is answered that comes in a state, and the state that it leaves.
pub record StoreTurn (state : State) (request : Request) : Type 0 where
  pub reply : Answer
  pub next : State
  pub step : RequestStep state request reply next

-- a request that changes a store begins with a checkpoint where the log has more bytes
abbrev pub longest_log : ℕ
longest_log = 67108864

-- a log that is longer became empty, and another one stays
abbrev pub IsShortened : Image → Image → Type 0
IsShortened was now = ((longest_log < log_end was) × (image_group_count now ≡ 0)) ⊎ ((log_end was ≤ longest_log) × (now ≡ was))

-- The log of each image that a crash may leave has one group more than there were, and that one alone where it was long.
abbrev pub AddsGroup : {D : Type 0} → Ghosts D → D → D → Type 0
AddsGroup d before after = (was image : Image) → IsSettled d before was → d.may_leave after image
    → image_group_count image ≡ (if nat_lt longest_log (log_end was) then 1 else image_group_count was + 1)

-- Each image that a crash may leave is as it was, or its log is empty where it was long.
abbrev pub AddsNoGroup : {D : Type 0} → Ghosts D → D → D → Type 0
AddsNoGroup d before after = (was image : Image) → IsSettled d before was → d.may_leave after image
    → (image ≡ was) ⊎ ((longest_log < log_end was) × (image_group_count image ≡ 0))

-- The disk has the image that it had, and a crash leaves that one alone.
abbrev pub KeepsImage : {D : Type 0} → Ghosts D → D → D → Type 0
KeepsImage d before after = (was : Image) → IsSettled d before was → IsSettled d after was

-- the answer refuses the request
abbrev pub is_refusal : Answer → Bool
is_refusal (One reply) = is_refused reply
is_refusal (Each replies) = false
is_refusal (RefusedAt number error) = true

-- a command that may change the store isn't refused, or a transaction with commands
abbrev pub GoesThrough : Request → Answer → Type 0
GoesThrough (Single command) (One reply) = (may_change command ≡ true) × (is_refused reply ≡ false)
GoesThrough (Transaction commands) (Each replies) = commands ≢ []
GoesThrough request answer = ⊥

-- a request is refused, or is a transaction without commands
abbrev pub CommitsNothing : Request → Answer → Type 0
CommitsNothing (Transaction commands) (Each replies) = commands ≡ []
CommitsNothing request answer = is_refusal answer ≡ true

-- the request may not change the store, and is no `checkpoint`
abbrev pub LooksAlone : Request → Type 0
LooksAlone request = (may_change_request request ≡ false) × (request ≢ Single Checkpoint)

-- What a request leaves of the log: no group after a `checkpoint`; one more where the state is another, or what may change the store went through; none more where
-- that is refused, or a transaction has no commands. A request that looks alone leaves the image.
pub record LeavesLog {D : Type 0} (d : Ghosts D) (request : Request) (answer : Answer) (state next : State) (before after : D) : Type 0 where
  pub emptied : request ≡ Single Checkpoint → (image : Image) → d.may_leave after image → image_group_count image ≡ 0
  pub grown : next ≢ state → AddsGroup d before after
  pub once : GoesThrough request answer → AddsGroup d before after
  pub none : CommitsNothing request answer → AddsNoGroup d before after
  pub stays : LooksAlone request → KeepsImage d before after

-- Each image that a crash may leave is as it was, or its log is empty.
abbrev pub MayEmptyLog : {D : Type 0} → Ghosts D → D → D → Type 0
MayEmptyLog d before after = (was image : Image) → IsSettled d before was → d.may_leave after image
    → (image ≡ was) ⊎ (image_group_count image ≡ 0)

-- What a request leaves of the log that was given up for want of memory: no group more, and maybe none where it is a `checkpoint`. One that looks alone leaves the
-- image.
pub record SparesLog {D : Type 0} (d : Ghosts D) (request : Request) (before after : D) : Type 0 where
  pub emptied : MayEmptyLog d before after
  pub none : request ≢ Single Checkpoint → AddsNoGroup d before after
  pub stays : LooksAlone request → KeepsImage d before after

-- it is an image of this state
abbrev pub IsOf : State → Image → Type 0
IsOf state image = Recovers image (Some state)

-- ... or of that one
abbrev pub IsOfEither : State → State → Image → Type 0
IsOfEither state next image = IsOf state image ⊎ IsOf next image

-- From one disk to the other the output stayed at each moment, and each image had P.
abbrev pub Shows : {D : Type 0} → Ghosts D → (Image → Type 0) → D → D → Type 0
Shows d P before after = Elapses d.moment d.stood_since before after (λ s. Keeps (d.beside before).output s.output × P s.image)

-- Nothing came of the request: each image was of the state before it. Or it was begun: each was of that state, or of the one after it.
abbrev pub ShowsBegun : {D : Type 0} → Ghosts D → State → Request → D → D → Type 0
ShowsBegun d state request before after =
    Shows d (IsOf state) before after ⊎ ((turn : StoreTurn state request) × Shows d (IsOfEither state turn.next) before after)

-- The request was carried out in this state with this answer: where the store is then, and what stood meanwhile.
abbrev pub IsCarriedThrough : {D : Type 0} → Ghosts D → State → Request → Answer → Store → D → D → Type 0
IsCarriedThrough d state request answer store before after =
    (next : State) × RequestStep state request answer next × IsAt d store after next × Shows d (IsOfEither state next) before after
    × LeavesLog d request answer state next before after

-- It was given up.
abbrev pub IsLeftUndone : {D : Type 0} → Ghosts D → EngineError → State → Request → Store → D → D → Type 0
IsLeftUndone d error.Memory state request store before after =
    IsAt d store after state × Shows d (IsOf state) before after × SparesLog d request before after
IsLeftUndone d error.Disk state request store before after = ShowsBegun d state request before after
IsLeftUndone d _ state request store before after = ⊥

-- How a command ended that came in this state, where the store is then, and what stood meanwhile.
abbrev pub IsApplied : {D : Type 0} → Ghosts D → Result Reply EngineError → State → Command → Store → D → D → Type 0
IsApplied d (Ok reply) state command store before after = IsCarriedThrough d state (Single command) (One reply) store before after
IsApplied d (Err e) state command store before after = IsLeftUndone d e state (Single command) store before after

-- one that is refused, or for which there is no memory, leaves what is held
abbrev pub RefusedHolds : {D : Type 0} → Ghosts D → Result Reply EngineError → Store → Store → D → D → Type 0
RefusedHolds d (Ok reply) old new before after = is_refused reply ≡ true → HoldsOn d old new before after
RefusedHolds d (Err error.Memory) old new before after = HoldsOn d old new before after
RefusedHolds d (Err _) old new before after = Unit {0}

-- a moment of an answer: nothing of the reply is out, and the image is of the state before or after it; or a part of it may be, and the image is of the state after
abbrev pub ShowsAnswer : Option (List ℕ) → State → List ℕ → State → Stood → Type 0
ShowsAnswer output state text next s = (Keeps output s.output × IsOfEither state next s.image) ⊎ (AppendsPrefix text output s.output × IsOf next s.image)

-- the moments of a turn whose reply was given
abbrev pub ShowsTurn : {D : Type 0} {state : State} {request : Request} → Ghosts D → StoreTurn state request → D → D → Type 0
ShowsTurn {state = state} d turn before after = Elapses d.moment d.stood_since before after (ShowsAnswer (d.beside before).output state (answered_text turn.reply) turn.next)

-- At each moment a first part of these bytes was out, and each image was of this state.
abbrev pub ShowsGiven : {D : Type 0} → Ghosts D → List ℕ → State → D → D → Type 0
ShowsGiven d bytes state before after = Elapses d.moment d.stood_since before after (λ s. AppendsPrefix bytes (d.beside before).output s.output × IsOf state s.image)

-- The request is an export, which changes nothing: at each moment a first part of its reply's text was out.
pub record GivesPart {D : Type 0} (d : Ghosts D) (state : State) (request : Request) (before after : D) : Type 0 where
  pub name : List ℕ
  pub is : request ≡ Single (Export name)
  pub reply : Reply
  pub step : Step state (Export name) reply state
  pub time : ShowsGiven d (reply_text reply) state before after

-- A request was carried out, and its reply given: where the store is then, what stood meanwhile, and that a refusal leaves what is held.
pub record GivesAnswer {D : Type 0} (d : Ghosts D) (state : State) (request : Request) (old new : Store) (before after : D) : Type 0 where
  pub turn : StoreTurn state request
  pub at : IsAt d new after turn.next
  pub gave : Appends (answered_text turn.reply) (d.beside before).output (d.beside after).output
  pub time : ShowsTurn d turn before after
  pub log : LeavesLog d request turn.reply state turn.next before after
  pub holds : is_refusal turn.reply ≡ true → HoldsOn d old new before after

-- How a request ended that came in this state and whose reply was to be given, where the store is then, and what stood meanwhile.
abbrev pub IsAnswered : {D : Type 0} → Ghosts D → Result (Unit {0}) EngineError → State → Request → Store → Store → D → D → Type 0
IsAnswered d (Ok _) state request old new before after = GivesAnswer d state request old new before after
IsAnswered d (Err error.Write) state request old new before after =
    (turn : StoreTurn state request) × IsAt d new after turn.next × ShowsTurn d turn before after
    × (is_refusal turn.reply ≡ true → HoldsOn d old new before after) × LeavesLog d request turn.reply state turn.next before after
IsAnswered d (Err error.Memory) state request old new before after =
    IsAt d new after state × (Shows d (IsOf state) before after ⊎ GivesPart d state request before after) × HoldsOn d old new before after
    × SparesLog d request before after
IsAnswered d (Err error.Disk) state request old new before after = ShowsBegun d state request before after ⊎ GivesPart d state request before after
IsAnswered d (Err _) state request old new before after = ⊥

-- how the giving of bytes ended that were to be given but for a last part, and where the store is then
abbrev pub IsGiven : {D : Type 0} → Ghosts D → Result (Unit {0}) EngineError → List ℕ → List ℕ → State → Store → D → D → Type 0
IsGiven d (Ok _) bytes left state store before after = IsAt d store after state × AppendsBut bytes left (d.beside before).output (d.beside after).output
IsGiven d (Err error.Write) bytes left state store before after = IsAt d store after state
IsGiven d (Err error.Memory) bytes left state store before after = IsAt d store after state
IsGiven d (Err error.Disk) bytes left state store before after = Unit {0}
IsGiven d (Err _) bytes left state store before after = ⊥

-- How an export ended that came in this state, whose reply was to be given behind what the block had; what is left of both is in the block.
pub record IsExported {D : Type 0} (d : Ghosts D) (result : Result (Unit {0}) EngineError) (state : State) (name block left : List ℕ) (store : Store) (before after : D) : Type 0 where
  pub reply : Reply
  pub step : Step state (Export name) reply state
  pub given : IsGiven d result (block ++ reply_text reply) left state store before after
  pub time : ShowsGiven d (block ++ reply_text reply) state before after

-- From old to new no input was taken, and no count fell.
pub record TakesNone {D : Type 0} (d : Ghosts D) (old new : D) : Type 0 where
  pub told : IsSome (d.contents new) → IsSome (d.contents old)
  pub input_stays : Keeps (d.beside old).input (d.beside new).input
  pub in_faults_stay : (d.beside new).in_faults ≡ (d.beside old).in_faults
  pub out_faults_later : (d.beside old).out_faults ≤ (d.beside new).out_faults
  pub faults_later : d.faults old ≤ d.faults new

-- The store is at no state: so it is damaged.
abbrev pub IsNowhere : {D : Type 0} → Ghosts D → Store → D → Type 0
IsNowhere d store disk = (state : State) → IsAt d store disk state → ⊥

-- ... nor at one that waits for a commit.
abbrev pub HoldsNoState : {D : Type 0} → Ghosts D → Store → D → Type 0
HoldsNoState d store disk = (saved : Held) (state : State) → IsNow d store disk saved state → ⊥

-- What a call that only looks leaves of a store: what reading leaves of its records, and its catalog.
pub record LeavesStore (old new : Store) : Type 0 where
  pub records : LeavesRecords old.records new.records
  pub catalog : new.catalog ≡ old.catalog

-- The store ran, and has ended in this call.
abbrev pub EndsNow : Store → Store → Type 0
EndsNow old new = (is_ended old ≡ false) × (is_ended new ≡ true)

-- The store ran, and runs on.
abbrev pub GoesOn : Store → Store → Type 0
GoesOn old new = (is_ended old ≡ false) × (is_ended new ≡ false)

-- Why a command wasn't carried out.
abbrev pub NotApplied : {D : Type 0} → Ghosts D → EngineError → Store → Store → D → D → Type 0
NotApplied d error.Disk old new before after = Rose (d.faults before) (d.faults after) × EndsNow old new
NotApplied d (error.Damaged page) old new before after = EndsNow old new × (IsSome (d.contents after) → IsNowhere d old before)
NotApplied d error.Ended old new before after = (is_ended old ≡ true) × LeavesStore old new × (after ≡ before)
NotApplied d error.Memory old new before after = GoesOn old new
NotApplied d error.Exists old new before after = ⊥
NotApplied d error.NotAStore old new before after = ⊥
NotApplied d error.Write old new before after = ⊥

-- ... or its reply not given
abbrev pub NotAnswered : {D : Type 0} → Ghosts D → EngineError → Store → Store → D → D → Type 0
NotAnswered d error.Write old new before after = Rose (d.beside before).out_faults (d.beside after).out_faults × GoesOn old new
NotAnswered d error.Disk old new before after = NotApplied d error.Disk old new before after
NotAnswered d (error.Damaged page) old new before after = NotApplied d (error.Damaged page) old new before after
NotAnswered d error.Ended old new before after = NotApplied d error.Ended old new before after
NotAnswered d error.Memory old new before after = NotApplied d error.Memory old new before after
NotAnswered d error.Exists old new before after = ⊥
NotAnswered d error.NotAStore old new before after = ⊥

-- Why no store was made. A disk that has a page was asked alone.
abbrev pub NotMade : {D : Type 0} → Ghosts D → EngineError → D → D → Type 0
NotMade d error.Disk before after = Rose (d.faults before) (d.faults after) × ((was : Image) (p : ℕ) → IsSettled d before was → IsSome (replay was p) → IsStill d before after)
NotMade d error.Exists before after = IsStill d before after × ((was : Image) → IsSettled d before was → (p : ℕ) × IsSome (replay was p))
NotMade d error.Memory before after = IsStill d before after
NotMade d (error.Damaged page) before after = ⊥
NotMade d error.NotAStore before after = ⊥
NotMade d error.Write before after = ⊥
NotMade d error.Ended before after = ⊥

-- Why no store was opened.
abbrev pub NotOpened : {D : Type 0} → Ghosts D → EngineError → D → D → Type 0
NotOpened d error.Disk before after = Rose (d.faults before) (d.faults after)
NotOpened d error.NotAStore before after = (was : Image) → IsSettled d before was → HasHeader was → ⊥
NotOpened d (error.Damaged page) before after = (was : Image) → IsSettled d before was → HasHeader was × ((state : State) → Recovers was (Some state) → ⊥)
NotOpened d error.Memory before after = Unit {0}
NotOpened d error.Exists before after = ⊥
NotOpened d error.Write before after = ⊥
NotOpened d error.Ended before after = ⊥
