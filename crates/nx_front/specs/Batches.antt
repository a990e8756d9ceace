-- Batches of questions: what was read and answered so far, and what stood meanwhile.
use Rattle.std.specs.Prelude.{◌≡◌, ◌⊎◌, ◌<◌, ◌≤◌, ℕ, List, ◌++◌, map, length, Option}
use Rattle.std.specs.List.{flat_map}
use Rattle.nx_host.specs.declared.disk.Disk.{Ghosts}
use Rattle.nx_host.specs.Disk.{Rose}
use Rattle.nx_host.specs.Host.{Takes, Appends}
use Rattle.nx_host.specs.Input.{most_input}
use Rattle.nx_host.specs.Phase.{GivesAlone}
use Rattle.nx_host.specs.Time.{Elapses}
use Rattle.nx_script.specs.declared.command.Command.{Command}
use Rattle.nx_script.specs.declared.reply.Reply.{Reply}
use Rattle.nx_script.specs.declared.request.Request.{Request}
use Rattle.nx_script.specs.declared.requests.Requests.{Requests}
use Rattle.nx_script.specs.Reply.{reply_text}
use Rattle.nx_script.specs.Requests.{HasGivenRequestsIn, EndsInRequests, StopsInRequests}
use Rattle.nx_state.specs.State.{State}
use Rattle.nx_ask.specs.declared.error.AskError.{AskError}
use Rattle.nx_ask.specs.declared.error.AskError.TheVariants as asking
use Rattle.nx_ask.specs.declared.snapshot.Snapshot.{Snapshot}
use Rattle.nx_ask.specs.Asked.{AreAsked, IsSnapshotOf}
use Rattle.nx_filters.specs.declared.status.Status.{Status}
use Rattle.nx_filters.specs.declared.status.Status.TheVariants.{DiskFault, ReadFault, WriteFault, NoMemory, NotAStore, Damaged, TooMuch}
use Rattle.nx_filters.specs.Outcome.{TakesFew}
use Rattle.nx_front.specs.Serving.{AreFirst}
use Rattle.nx_front.specs.Conversation.{IsLater, IsEnded}
use Rattle.nx_front.specs.Finding.{ShowsPart}
use Rattle.nx_front.specs.Questions.{LeavesImages}
use Rattle.nx_front.specs.Asking.{batch_size, as_question, AreBatches, IsAskedText, GivesBatches, EndsBetweenBatches, AsksFrom}

-- the status where a snapshot stops a run
abbrev pub status_of_asking : AskError → Status
status_of_asking asking.NotAStore = NotAStore
status_of_asking asking.Disk = DiskFault
status_of_asking (asking.Damaged page) = Damaged page
status_of_asking asking.Memory = NoMemory

-- A script that had given requests has given these besides.
abbrev pub GivesBesides : List Request → Requests → Requests → Option (List ℕ) → Option (List ℕ) → Type 0
GivesBesides batch old new before after =
    (first : Option (List ℕ)) (taken : List ℕ) (requests : List Request) → HasGivenRequestsIn old taken requests first before →
    (more : List ℕ) × HasGivenRequestsIn new (taken ++ more) (requests ++ batch) first after

-- ... as many as a batch has, or fewer, and then they are the last.
abbrev pub GivesBatch : List Request → Requests → Requests → Option (List ℕ) → Option (List ℕ) → Type 0
GivesBatch batch old new before after =
    (first : Option (List ℕ)) (taken : List ℕ) (requests : List Request) → HasGivenRequestsIn old taken requests first before →
    (more : List ℕ) × HasGivenRequestsIn new (taken ++ more) (requests ++ batch) first after
    × ((length batch ≡ batch_size) ⊎ ((length batch < batch_size) × EndsInRequests (taken ++ more) (requests ++ batch) first after))

-- These questions are what they ask.
pub record ReadsBatch (questions : List Command) (old new : Requests) (before after : Option (List ℕ)) : Type 0 where
  pub requests : List Request
  pub asks : map as_question requests ≡ questions
  pub gives : GivesBatch requests old new before after

-- It gave fewer and then no more, of these bytes, with this said of how many they are.
abbrev pub StopsInBatch : (Many : ℕ → Type 0) → Requests → Requests → Option (List ℕ) → Option (List ℕ) → Type 0
StopsInBatch Many old new before after =
    (first : Option (List ℕ)) (taken : List ℕ) (requests : List Request) → HasGivenRequestsIn old taken requests first before →
    (more : List ℕ) × (batch : List Request) × (length batch < batch_size) × Many (length (taken ++ more)) × HasGivenRequestsIn new (taken ++ more) (requests ++ batch) first after
    × StopsInRequests (taken ++ more) (requests ++ batch) first after

-- why a batch isn't read
abbrev pub StopsBatch : {D : Type 0} → Ghosts D → Status → Requests → Requests → D → D → Type 0
StopsBatch d ReadFault old new before after =
    Rose (d.beside before).in_faults (d.beside after).in_faults × StopsInBatch (λ n. n < most_input) old new (d.beside before).input (d.beside after).input
StopsBatch d TooMuch old new before after = StopsInBatch (λ n. n ≡ most_input) old new (d.beside before).input (d.beside after).input
StopsBatch d NoMemory old new before after =
    (first : Option (List ℕ)) (taken : List ℕ) (requests : List Request) → HasGivenRequestsIn old taken requests first (d.beside before).input →
    (more : List ℕ) × Takes (taken ++ more) first (d.beside after).input × (length (taken ++ more) ≤ most_input) × AreFirst (taken ++ more) requests (d.beside after).input
StopsBatch d _ old new before after = ⊥

-- This is the text of replies, one to each of these questions: about the state of which the snapshot is, if it is of one.
pub record AreAnswers (snapshot : Snapshot) (questions : List Command) (text : List ℕ) : Type 0 where
  pub replies : List Reply
  pub asked : AreAsked (IsSnapshotOf snapshot) questions replies
  pub text_is : text ≡ flat_map reply_text replies

-- why they aren't answered
abbrev pub StopsAnswering : Status → Snapshot → Type 0
StopsAnswering NoMemory snapshot = Unit {0}
StopsAnswering (Damaged page) snapshot = (state : State) → IsSnapshotOf snapshot state → ⊥
StopsAnswering _ snapshot = ⊥

-- The texts of the replies to a batch were given.
pub record AnswersBatch {D : Type 0} (d : Ghosts D) (snapshot : Snapshot) (batch : List Command) (before after : D) : Type 0 where
  pub text : List ℕ
  pub answers : AreAnswers snapshot batch text
  pub gave : Appends text (d.beside before).output (d.beside after).output
  pub alone : GivesAlone d text before after

-- A first part of them was given, and then writing failed.
pub record BreaksOff {D : Type 0} (d : Ghosts D) (snapshot : Snapshot) (batch : List Command) (before after : D) : Type 0 where
  pub text : List ℕ
  pub answers : AreAnswers snapshot batch text
  pub rose : Rose (d.beside before).out_faults (d.beside after).out_faults
  pub alone : GivesAlone d text before after

-- why a batch isn't given: nothing of it is, unless writing failed
abbrev pub LeavesBatch : {D : Type 0} → Ghosts D → Status → Snapshot → List Command → D → D → Type 0
LeavesBatch d WriteFault snapshot batch before after = BreaksOff d snapshot batch before after
LeavesBatch d status snapshot batch before after = (after ≡ before) × StopsAnswering status snapshot

-- Requests were answered, in a state.
pub record HasAsked {D : Type 0} (d : Ghosts D) (state : State) (requests : List Request) (first now : D) : Type 0 where
  pub text : List ℕ
  pub replies : IsAskedText state requests text
  pub gave : Appends text (d.beside first).output (d.beside now).output
  pub time : Elapses d.moment d.stood_since first now (ShowsPart (d.beside first).output text)

-- The script gave these requests of the bytes that were taken, in whole batches, and each of them was answered. Neither area was read for it.
pub record IsAsking {D : Type 0} (d : Ghosts D) (snapshot : Snapshot) (taken : List ℕ) (requests : List Request) (script : Requests) (first now : D) : Type 0 where
  pub given : HasGivenRequestsIn script taken requests (d.beside first).input (d.beside now).input
  pub batches : AreBatches requests
  pub gave : GivesBatches (d.beside first).output (d.beside now).output
  pub goes : IsLater d first now
  pub areas : LeavesImages d first now
  pub unread : d.reads now ≡ d.reads first
  pub asked : (state : State) → IsSnapshotOf snapshot state → HasAsked d state requests first now

-- How it ends: from the state of which the snapshot is; and why in any case. Neither area was read.
pub record AsksAll {D : Type 0} (d : Ghosts D) (snapshot : Snapshot) (status : Status) (first now : D) : Type 0 where
  pub from : (state : State) → IsSnapshotOf snapshot state → AsksFrom d state status first now
  pub cause : IsEnded d status first now
  pub between : EndsBetweenBatches status → GivesBatches (d.beside first).output (d.beside now).output
  pub taken : status ≡ DiskFault → ⊥
  pub unread : d.reads now ≡ d.reads first
  pub bounded : TakesFew (d.beside first).input (d.beside now).input
  pub goes : IsLater d first now
  pub areas : LeavesImages d first now
