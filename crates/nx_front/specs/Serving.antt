-- A run of a script over a store: its requests, which are commands and transactions, are answered one after the other, from the state that the disk holds on.
use Rattle.std.specs.Prelude.{◌≡◌, ◌≢◌, ◌⊎◌, ◌↔◌, ℕ, ◌+◌, ◌<◌, ◌≤◌, List, [], ◌∷◌, ◌++◌, length, take, Option, Some, IfSome, IsSome}
use Rattle.std.specs.List.{flat_map}
use Rattle.nx_host.specs.declared.disk.Disk.{Ghosts}
use Rattle.nx_host.specs.Disk.{Image, Beside, Keeps, Rose}
use Rattle.nx_host.specs.Host.{Takes, Appends}
use Rattle.nx_host.specs.Input.{most_input}
use Rattle.nx_host.specs.Still.{IsSettled, IsStill}
use Rattle.nx_host.specs.Time.{Stood, Elapses}
use Rattle.nx_records.specs.Words.{replay, Held, Holds}
use Rattle.nx_records.specs.Records.{HasHeader, image_group_count}
use Rattle.nx_script.specs.declared.command.Command.TheVariants.{Checkpoint}
use Rattle.nx_script.specs.declared.request.Request.{Request}
use Rattle.nx_script.specs.declared.request.Request.TheVariants.{Single}
use Rattle.nx_script.specs.Reply.{answered_text}
use Rattle.nx_script.specs.Requests.{AreRequests, AreWholeRequests}
use Rattle.nx_state.specs.State.{State}
use Rattle.nx_state.specs.Stands.{Recovers, HoldsState}
use Rattle.nx_store.specs.Reads.{opening_reads}
use Rattle.nx_filters.specs.declared.status.Status.{Status}
use Rattle.nx_filters.specs.declared.status.Status.TheVariants.{Done, Usage, Refused, DiskFault, ReadFault, WriteFault, NoMemory, NotAStore, Damaged, TooMuch}
use Rattle.nx_filters.specs.Outcome.{TakesFew, CountsGrow, EndsWhole}
use Rattle.nx_front.specs.Lookups.{AreLookups, ReadForAll}
use Rattle.nx_front.specs.Logs.{LeavesLogs, IsOpenedOrStill}
pub use Rattle.nx_front.specs.Turns.{Turn, IsRun, state_after, requests_of}

-- the texts of the replies, one after the other
abbrev pub texts_of : List Turn → List ℕ
texts_of turns = flat_map (λ turn. answered_text turn.reply) turns

-- These bytes begin with that text.
abbrev pub BeginsWith : List ℕ → List ℕ → Type 0
BeginsWith text out = (more : List ℕ) × (out ≡ text ++ more)

-- So many replies are whole in these bytes: the texts of the first of them begin the bytes, and those of any more don't.
pub record AreWholeReplies (turns : List Turn) (out : List ℕ) (count : ℕ) : Type 0 where
  pub some : count ≤ length turns
  pub begins : BeginsWith (texts_of (take count turns)) out
  pub no_more : (more : ℕ) → count < more → more ≤ length turns → BeginsWith (texts_of (take more turns)) out → ⊥

-- A moment of a run at which these bytes are out, and a stop leaves this image. They are the first of the replies' texts; and where so many replies are whole, the
-- image is that of the state after as many requests, or after one more; after one more, where a part of another reply is out.
pub record IsMoment (state : State) (turns : List Turn) (out : List ℕ) (image : Image) : Type 0 where
  pub rest : List ℕ
  pub given : texts_of turns ≡ out ++ rest
  pub count : ℕ
  pub whole : AreWholeReplies turns out count
  pub stands : Recovers image (Some (state_after state (take count turns))) ⊎ Recovers image (Some (state_after state (take (count + 1) turns)))
  pub begun : out ≢ texts_of (take count turns) → Recovers image (Some (state_after state (take (count + 1) turns)))

-- A moment between two requests: the image is that of the state after as many of them as replies are whole, so that none is half done.
pub record IsBetween (state : State) (turns : List Turn) (out : List ℕ) (image : Image) : Type 0 where
  pub moment : IsMoment state turns out image
  pub stands : Recovers image (Some (state_after state (take moment.count turns)))

-- a moment of a run, where the output has grown by what is out, as far as it is told
abbrev pub ShowsMoment : Option (List ℕ) → State → List Turn → Stood → Type 0
ShowsMoment output state turns s = (out : List ℕ) × Appends out output s.output × IsMoment state turns out s.image

-- ... one between two requests
abbrev pub ShowsBetween : Option (List ℕ) → State → List Turn → Stood → Type 0
ShowsBetween output state turns s = (out : List ℕ) × Appends out output s.output × IsBetween state turns out s.image

-- Each image that a crash may leave now, beside the output so far, is such a moment.
abbrev pub LeavesMoments : {D : Type 0} → Ghosts D → D → (Stood → Type 0) → Type 0
LeavesMoments d new Shown = (i : Image) → d.may_leave new i → Shown (record { output = (d.beside new).output; image = i })

-- with one of these a run ends between two requests
abbrev pub EndsBetween : Status → Type 0
EndsBetween DiskFault = ⊥
EndsBetween WriteFault = ⊥
EndsBetween _ = Unit {0}

-- The first of the requests that are whole in the bytes that were taken; or of all their requests, where they are the whole input.
abbrev pub AreOfTaken : List ℕ → List Request → Option (List ℕ) → Option (List ℕ) → Type 0
AreOfTaken taken requests old new =
    (rest : List Request) × (AreWholeRequests taken (requests ++ rest) ⊎ (EndsWhole taken old new × AreRequests taken (requests ++ rest)))

-- these are the first requests of the bytes that were taken and the input that is left, where it is told
abbrev pub AreFirst : List ℕ → List Request → Option (List ℕ) → Type 0
AreFirst taken requests now = IfSome now (λ left. (rest : List Request) × AreRequests (taken ++ left) (requests ++ rest))

-- how a run ends that had these turns and took these bytes: whether that is the whole input, which requests they are, and whether all replies are out
abbrev pub EndsServing : List Turn → List ℕ → Status → Beside → Beside → Type 0
EndsServing turns taken Done old new = EndsWhole taken old.input new.input × AreRequests taken (requests_of turns) × Appends (texts_of turns) old.output new.output
EndsServing turns taken ReadFault old new = (length taken < most_input) × AreWholeRequests taken (requests_of turns) × Appends (texts_of turns) old.output new.output
EndsServing turns taken TooMuch old new = (length taken ≡ most_input) × AreWholeRequests taken (requests_of turns) × Appends (texts_of turns) old.output new.output
EndsServing turns taken DiskFault old new = Unit {0}
EndsServing turns taken WriteFault old new = Unit {0}
EndsServing turns taken NoMemory old new = Unit {0}
EndsServing turns taken NotAStore old new = ⊥
EndsServing turns taken (Damaged page) old new = ⊥
EndsServing turns taken Usage old new = ⊥
EndsServing turns taken Refused old new = ⊥

-- the last of these requests is a `checkpoint`
abbrev pub EndsWithCheckpoint : List Request → Type 0
EndsWithCheckpoint requests = (before : List Request) × (requests ≡ before ++ Single Checkpoint ∷ [])

-- Each image that a crash may leave has no group in its log.
abbrev pub HasEmptyLog : {D : Type 0} → Ghosts D → D → Type 0
HasEmptyLog d disk = (i : Image) → d.may_leave disk i → image_group_count i ≡ 0

-- There is one run from this state on, over the first requests of the input, those that were answered and, where one was begun, that one. Each moment is one of
-- it, also the one at the end, which is between two requests, but for a fault of the disk or of writing. Where all went well, each image that a crash may leave is
-- that of its last state. The log is what the requests leave of it, one after the other.
pub record ServesFrom {D : Type 0} (d : Ghosts D) (state : State) (status : Status) (old new : D) : Type 0 where
  pub turns : List Turn
  pub run : IsRun state turns
  pub taken : List ℕ
  pub takes : Takes taken (d.beside old).input (d.beside new).input
  pub first : AreFirst taken (requests_of turns) (d.beside new).input
  pub whole : AreOfTaken taken (requests_of turns) (d.beside old).input (d.beside new).input
  pub time : Elapses d.moment d.stood_since old new (ShowsMoment (d.beside old).output state turns)
  pub ends : EndsServing turns taken status (d.beside old) (d.beside new)
  pub left : LeavesMoments d new (ShowsMoment (d.beside old).output state turns)
  pub between : EndsBetween status → LeavesMoments d new (ShowsBetween (d.beside old).output state turns)
  pub last : status ≡ Done → (i : Image) → d.may_leave new i → Recovers i (Some (state_after state turns))
  pub emptied : status ≡ Done → EndsWithCheckpoint (requests_of turns) → HasEmptyLog d new
  pub logs : LeavesLogs d state turns status old new

-- why a run over a store ends so, whatever the disk holds
abbrev pub IsCaused : {D : Type 0} → Ghosts D → Status → D → D → Type 0
IsCaused d Done old new = (taken : List ℕ) × EndsWhole taken (d.beside old).input (d.beside new).input
IsCaused d DiskFault old new = Rose (d.faults old) (d.faults new)
IsCaused d ReadFault old new =
    Rose (d.beside old).in_faults (d.beside new).in_faults × (taken : List ℕ) × (length taken < most_input) × Takes taken (d.beside old).input (d.beside new).input
IsCaused d WriteFault old new = Rose (d.beside old).out_faults (d.beside new).out_faults
IsCaused d NoMemory old new = Unit {0}
IsCaused d NotAStore old new = (was : Image) → IsSettled d old was → HasHeader was → ⊥
IsCaused d (Damaged page) old new = (was : Image) (state : State) → IsSettled d old was → IsSome (d.contents new) → Recovers was (Some state) → ⊥
IsCaused d TooMuch old new = (taken : List ℕ) × (length taken ≡ most_input) × Takes taken (d.beside old).input (d.beside new).input
IsCaused d Usage old new = ⊥
IsCaused d Refused old new = ⊥

-- with one of these a run ends over a disk without a header: it finds that, or something fails before
abbrev pub EndsWithoutHeader : Status → Type 0
EndsWithoutHeader NotAStore = Unit {0}
EndsWithoutHeader DiskFault = Unit {0}
EndsWithoutHeader NoMemory = Unit {0}
EndsWithoutHeader _ = ⊥

-- Both areas and the output are as they were, and were so at every moment.
pub record LeavesAll {D : Type 0} (d : Ghosts D) (old new : D) : Type 0 where
  pub contents_stay : Keeps (d.contents old) (d.contents new)
  pub images_stay : (i : Image) → d.may_leave new i ↔ d.may_leave old i
  pub output_stays : Keeps (d.beside old).output (d.beside new).output
  pub time : Elapses d.moment d.stood_since old new (λ s. Keeps (d.beside old).output s.output × d.may_leave old s.image)

-- the input is told, and no byte of it was taken
abbrev pub TakesNoByte : Beside → Beside → Type 0
TakesNoByte old new = IsSome new.input × (new.input ≡ old.input)

-- These are the first requests of the bytes that were taken. Where they are lookups, no more pages were read than at first, and than each of them reads of what is held, which is this
-- state.
pub record ReadsLookups {D : Type 0} (d : Ghosts D) (at_first : ℕ) (held : Held) (state : State) (old new : D) : Type 0 where
  pub taken : List ℕ
  pub takes : Takes taken (d.beside old).input (d.beside new).input
  pub requests : List Request
  pub first : AreFirst taken requests (d.beside new).input
  pub whole : AreOfTaken taken requests (d.beside old).input (d.beside new).input
  pub few : AreLookups requests → (pages : ℕ) × ReadForAll held state requests pages × (d.reads new ≤ d.reads old + (at_first + pages))

-- How a script is carried out over a store: from each state that the disk may hold, while its bytes are told; and why it ends so in any case. Whatever the disk
-- holds, it is left as it was where no byte of the input was taken, so also where the store couldn't be opened; and anything that came of the script came behind the
-- opening of the store, which renews what a failed sync may have lost. The pages that are read are those of opening and of lookups that came.
pub record Serves {D : Type 0} (d : Ghosts D) (status : Status) (old new : D) : Type 0 where
  pub from : (was : Image) (state : State) → IsSettled d old was → IsSome (d.contents new) → Recovers was (Some state) → ServesFrom d state status old new
  pub cause : IsCaused d status old new
  pub no_header : (was : Image) → IsSettled d old was → (HasHeader was → ⊥) → EndsWithoutHeader status × IsStill d old new
  pub opened : IsOpenedOrStill d old new
  pub untaken : TakesNoByte (d.beside old) (d.beside new) → LeavesAll d old new
  pub reads : (was : Image) (held : Held) (state : State) → IsSettled d old was → IsSome (d.contents new) → Holds (replay was) held → HoldsState held state
      → ReadsLookups d (opening_reads was held.catalog.bytes) held state old new
  pub unopened_reads : (was : Image) → IsSettled d old was → (HasHeader was → ⊥) → d.reads new ≤ d.reads old + opening_reads was []
  pub bounded : TakesFew (d.beside old).input (d.beside new).input
  pub counts : CountsGrow (d.beside old) (d.beside new)
  pub faults_later : d.faults old ≤ d.faults new

-- The disk had this image and nothing unsynced, and it tells its bytes still; the input of fewer bytes than a run takes was told to the end; and nothing failed.
pub record IsCalm {D : Type 0} (d : Ghosts D) (was : Image) (input : List ℕ) (old new : D) : Type 0 where
  pub settled : IsSettled d old was
  pub disk_told : IsSome (d.contents new)
  pub input_is : (d.beside old).input ≡ Some input
  pub input_told : IsSome (d.beside new).input
  pub few : length input < most_input
  pub disk : ¬ Rose (d.faults old) (d.faults new)
  pub read : ¬ Rose (d.beside old).in_faults (d.beside new).in_faults
  pub written : ¬ Rose (d.beside old).out_faults (d.beside new).out_faults

-- with one of these it ends where all is well
abbrev pub EndsWell : Status → Type 0
EndsWell Done = Unit {0}
EndsWell NoMemory = Unit {0}
EndsWell _ = ⊥

-- Where all is well, a run over a store in some state ends with all requests answered, unless memory runs out; and one over a disk without a header says so.
pub record CompletesServing {D : Type 0} (d : Ghosts D) (status : Status) (old new : D) : Type 0 where
  pub store : (was : Image) (input : List ℕ) (state : State) → IsCalm d was input old new → Recovers was (Some state) → EndsWell status
  pub no_store : (was : Image) (input : List ℕ) → IsCalm d was input old new → (HasHeader was → ⊥) → (status ≡ NotAStore) ⊎ (status ≡ NoMemory)

-- What is said of a disk holds together: it holds one state at most, and one without a header holds none.
pub record ServingHoldsTogether : Type 0 where
  pub one_state : (image : Image) (first second : State) → Recovers image (Some first) → Recovers image (Some second) → first ≡ second
  pub header : (image : Image) (state : State) → Recovers image (Some state) → HasHeader image

-- an input has one list of requests
abbrev pub HasOneScript : Type 0
HasOneScript = (input : List ℕ) (first second : List Request) → AreRequests input first → AreRequests input second → first ≡ second
