-- A conversation over a store: what was answered so far, and what stood meanwhile.
use Rattle.std.specs.Prelude.{◌≡◌, ◌⊎◌, ◌+◌, ◌<◌, ◌≤◌, ℕ, List, [], ◌∷◌, ◌++◌, length, take, Option, IsSome, Result, Ok, Err}
use Rattle.std.specs.Bool.{MatchBool}
use Rattle.nx_host.specs.declared.disk.Disk.{Ghosts}
use Rattle.nx_host.specs.Disk.{Image, Rose}
use Rattle.nx_host.specs.Host.{Takes, Appends}
use Rattle.nx_host.specs.Input.{most_input}
use Rattle.nx_host.specs.Time.{Stood, Elapses}
use Rattle.nx_records.specs.Words.{Held}
use Rattle.nx_script.specs.declared.command.Command.TheVariants.{Checkpoint}
use Rattle.nx_script.specs.declared.request.Request.{Request}
use Rattle.nx_script.specs.declared.request.Request.TheVariants.{Single}
use Rattle.nx_script.specs.declared.requests.Requests.{Requests}
use Rattle.nx_script.specs.Reply.{answered_text}
use Rattle.nx_script.specs.Requests.{AreRequests, AreWholeRequests, HasGivenRequestsIn}
use Rattle.nx_state.specs.State.{State}
use Rattle.nx_store.specs.declared.error.EngineError.{EngineError}
use Rattle.nx_store.specs.declared.error.EngineError.TheVariants as engine
use Rattle.nx_store.specs.declared.store.Store.{Store}
use Rattle.nx_store.specs.Store.{IsAt, IsOf}
use Rattle.nx_filters.specs.declared.status.Status.{Status}
use Rattle.nx_filters.specs.declared.status.Status.TheVariants.{Done, Usage, Refused, DiskFault, ReadFault, WriteFault, NoMemory, NotAStore, Damaged, TooMuch}
use Rattle.nx_filters.specs.Outcome.{TakesFew, CountsGrow, EndsWhole}
use Rattle.nx_front.specs.Lookups.{AreLookups, ReadForAll}
use Rattle.nx_front.specs.Logs.{LeavesTurn, LogsFollow}
use Rattle.nx_front.specs.Serving.{Turn, IsRun, state_after, requests_of, texts_of, ShowsBetween, LeavesMoments, EndsBetween, EndsWithCheckpoint, HasEmptyLog, LeavesAll, TakesNoByte, ReadsLookups, ServesFrom}

-- A moment of a run, turn by turn. Nothing of the first reply is out, and the image is of the state before it; or a part of it is, and the image is of the state
-- after it; or it is out whole, and the moment is one of the turns behind.
abbrev pub IsReached : State → List Turn → List ℕ → Image → Type 0
IsReached state [] out image = (out ≡ []) × IsOf state image
IsReached state (turn ∷ turns) out image =
    ((out ≡ []) × IsOf state image)
    ⊎ (((n : ℕ) × (out ≡ take n (answered_text turn.reply)) × IsOf turn.next image)
    ⊎ ((more : List ℕ) × (out ≡ answered_text turn.reply ++ more) × IsReached turn.next turns more image))

-- A moment between two requests, turn by turn. At most a part of the first reply is out, and the image is of the state before it, and of that after it where a byte
-- is out; or it is out whole, and the moment is one of the turns behind.
abbrev pub IsReachedBetween : State → List Turn → List ℕ → Image → Type 0
IsReachedBetween state [] out image = (out ≡ []) × IsOf state image
IsReachedBetween state (turn ∷ turns) out image =
    ((n : ℕ) × (n < length (answered_text turn.reply)) × (out ≡ take n (answered_text turn.reply)) × IsOf state image × ((n ≡ 0) ⊎ IsOf turn.next image))
    ⊎ ((more : List ℕ) × (out ≡ answered_text turn.reply ++ more) × IsReachedBetween turn.next turns more image)

-- a moment of a run, where the output has grown by what is out, as far as it is told
abbrev pub ShowsReached : Option (List ℕ) → State → List Turn → Stood → Type 0
ShowsReached output state turns s = (out : List ℕ) × Appends out output s.output × IsReached state turns out s.image

-- A run had these turns, and each moment was one of it.
pub record HasRun {D : Type 0} (d : Ghosts D) (state : State) (turns : List Turn) (first now : D) : Type 0 where
  pub run : IsRun state turns
  pub time : Elapses d.moment d.stood_since first now (ShowsReached (d.beside first).output state turns)

-- It had these turns, and what isn't given of their replies stands in the block. More of that may be out, with an image of the state after all turns.
pub record HasServed {D : Type 0} (d : Ghosts D) (state : State) (turns : List Turn) (store : Store) (block : List ℕ) (first now : D) : Type 0 where
  pub run : HasRun d state turns first now
  pub at : IsAt d store now (state_after state turns)
  pub done : List ℕ
  pub parts : done ++ block ≡ texts_of turns
  pub gave : Appends done (d.beside first).output (d.beside now).output
  pub waits : (n : ℕ) (image : Image) → length done ≤ n → IsOf (state_after state turns) image → IsReached state turns (take n (texts_of turns)) image
  pub none_begun : (n : ℕ) (image : Image) → length done ≤ n → IsOf (state_after state turns) image → IsReachedBetween state turns (take n (texts_of turns)) image

-- No count fell, and what is told of the disk now was told before.
pub record IsLater {D : Type 0} (d : Ghosts D) (old new : D) : Type 0 where
  pub told : IsSome (d.contents new) → IsSome (d.contents old)
  pub counts : CountsGrow (d.beside old) (d.beside new)
  pub faults_later : d.faults old ≤ d.faults new

-- Lookups were answered by a store at the state. It is at it still, holds what it held, and no more pages were read than they read.
pub record HasLookedUp {D : Type 0} (d : Ghosts D) (held : Held) (state : State) (requests : List Request) (store : Store) (first now : D) : Type 0 where
  pub at : IsAt d store now state
  pub same : at.held ≡ held
  pub pages : ℕ
  pub are : ReadForAll held state requests pages
  pub few : d.reads now ≤ d.reads first + pages

-- The script gave these requests of the bytes that were taken, and from each state that the store was at each of them was answered. Before the first of them the
-- disk was left.
pub record IsConversing {D : Type 0} (d : Ghosts D) (begun : Store) (taken : List ℕ) (requests : List Request) (script : Requests) (store : Store) (block : List ℕ) (first now : D) : Type 0 where
  pub given : HasGivenRequestsIn script taken requests (d.beside first).input (d.beside now).input
  pub goes : IsLater d first now
  pub served : (state : State) → IsAt d begun first state → IsSome (d.contents now) → (turns : List Turn) × (requests_of turns ≡ requests) × HasServed d state turns store block first now
      × LogsFollow d state turns first now
  pub emptied : (state : State) → IsAt d begun first state → IsSome (d.contents now) → EndsWithCheckpoint requests → HasEmptyLog d now
  pub unbegun : requests ≡ [] → (block ≡ []) × LeavesAll d first now
  pub looked : AreLookups requests → (state : State) (at : IsAt d begun first state) → IsSome (d.contents now) → HasLookedUp d at.held state requests store first now

-- the status of a conversation that ended so
abbrev pub conversation_status : Result (Unit {0}) Status → Status
conversation_status (Ok _) = Done
conversation_status (Err status) = status

-- the status where the store stops a run
abbrev pub status_of_engine : EngineError → Status
status_of_engine engine.Disk = DiskFault
status_of_engine engine.Write = WriteFault
status_of_engine engine.NotAStore = NotAStore
status_of_engine (engine.Damaged page) = Damaged page
status_of_engine engine.Memory = NoMemory
status_of_engine engine.Ended = NoMemory
status_of_engine engine.Exists = NoMemory

-- with one of these a request isn't answered, from a state that the store was at
abbrev pub StopsShort : Status → Type 0
StopsShort DiskFault = Unit {0}
StopsShort WriteFault = Unit {0}
StopsShort NoMemory = Unit {0}
StopsShort _ = ⊥

-- why a request isn't answered, whatever the store is at
abbrev pub IsUnanswered : {D : Type 0} → Ghosts D → Status → D → D → Type 0
IsUnanswered d DiskFault old new = Rose (d.faults old) (d.faults new)
IsUnanswered d WriteFault old new = Rose (d.beside old).out_faults (d.beside new).out_faults
IsUnanswered d NoMemory old new = Unit {0}
IsUnanswered d (Damaged page) old new = Unit {0}
IsUnanswered d _ old new = ⊥

-- A run had turns of the first of these requests, the ones that were answered and maybe one more, and ended between two of them, but for a fault of the disk or of
-- writing.
pub record HasBegun {D : Type 0} (d : Ghosts D) (status : Status) (state : State) (answered : List Turn) (requests : List Request) (first now : D) : Type 0 where
  pub turns : List Turn
  pub goes_on : (turns ≡ answered) ⊎ ((turn : Turn) × (turns ≡ answered ++ turn ∷ []))
  pub rest : List Request
  pub parts : requests_of turns ++ rest ≡ requests
  pub run : HasRun d state turns first now
  pub between : EndsBetween status → LeavesMoments d now (ShowsBetween (d.beside first).output state turns)

-- the next request is answered, whatever was answered before
abbrev pub AnswersNext : {D : Type 0} → Ghosts D → Request → Store → Store → List ℕ → List ℕ → D → D → Type 0
AnswersNext {D} d request store store' block block' now next =
    (first : D) (state : State) (turns : List Turn) → HasServed d state turns store block first now → IsSome (d.contents next) →
    (turn : Turn) × (turn.request ≡ request) × HasServed d state (turns ++ turn ∷ []) store' block' first next × LeavesTurn d (state_after state turns) turn now next

-- ... or it is begun at most
abbrev pub BeginsNext : {D : Type 0} → Ghosts D → Request → Status → Store → List ℕ → D → D → Type 0
BeginsNext {D} d request status store block now next =
    (first : D) (state : State) (turns : List Turn) → HasServed d state turns store block first now → IsSome (d.contents next) →
    StopsShort status × HasBegun d status state turns (requests_of turns ++ request ∷ []) first next

-- why a conversation ends so, whatever the store is at
abbrev pub IsEnded : {D : Type 0} → Ghosts D → Status → D → D → Type 0
IsEnded d Done old new = (taken : List ℕ) × EndsWhole taken (d.beside old).input (d.beside new).input
IsEnded d DiskFault old new = Rose (d.faults old) (d.faults new)
IsEnded d ReadFault old new =
    Rose (d.beside old).in_faults (d.beside new).in_faults × (taken : List ℕ) × (length taken < most_input) × Takes taken (d.beside old).input (d.beside new).input
IsEnded d WriteFault old new = Rose (d.beside old).out_faults (d.beside new).out_faults
IsEnded d NoMemory old new = Unit {0}
IsEnded d (Damaged page) old new = Unit {0}
IsEnded d TooMuch old new = (taken : List ℕ) × (length taken ≡ most_input) × Takes taken (d.beside old).input (d.beside new).input
IsEnded d NotAStore old new = ⊥
IsEnded d Usage old new = ⊥
IsEnded d Refused old new = ⊥

-- How a conversation ends: from each state that the store is at; and why in any case.
pub record Converses {D : Type 0} (d : Ghosts D) (begun : Store) (status : Status) (first now : D) : Type 0 where
  pub from : (state : State) → IsAt d begun first state → IsSome (d.contents now) → ServesFrom d state status first now
  pub cause : IsEnded d status first now
  pub bounded : TakesFew (d.beside first).input (d.beside now).input
  pub goes : IsLater d first now
  pub untaken : TakesNoByte (d.beside first) (d.beside now) → LeavesAll d first now
  pub reads : (state : State) (at : IsAt d begun first state) → IsSome (d.contents now) → ReadsLookups d 0 at.held state first now

-- requests more of a script are answered
abbrev pub AnswersMore : {D : Type 0} → Ghosts D → Requests → Requests → Store → Store → List ℕ → List ℕ → D → D → Type 0
AnswersMore {D} d script script' store store' block block' now next =
    (first : D) (begun : Store) (taken : List ℕ) (requests : List Request) → IsConversing d begun taken requests script store block first now →
    (more : List Request) × IsConversing d begun taken (requests ++ more) script' store' block' first next

-- ... all that are whole in what was read
abbrev pub AnswersAll : {D : Type 0} → Ghosts D → Requests → Requests → Store → Store → List ℕ → List ℕ → D → D → Type 0
AnswersAll {D} d script script' store store' block block' now next =
    (first : D) (begun : Store) (taken : List ℕ) (requests : List Request) → IsConversing d begun taken requests script store block first now →
    (more : List Request) × MatchBool script'.script.ended (AreRequests taken (requests ++ more)) (AreWholeRequests taken (requests ++ more))
    × IsConversing d begun taken (requests ++ more) script' store' block' first next

-- ... or the conversation ends
abbrev pub EndsConversing : {D : Type 0} → Ghosts D → Status → Requests → Store → List ℕ → D → D → Type 0
EndsConversing {D} d status script store block now next =
    (first : D) (begun : Store) (taken : List ℕ) (requests : List Request) → IsConversing d begun taken requests script store block first now → Converses d begun status first next
