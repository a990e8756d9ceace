-- A run of questions over a snapshot of a store: the requests of the input are answered in batches, as questions about the state that the disk holds. Both areas stay as they are.
use Rattle.std.specs.Prelude.{◌≡◌, ◌↔◌, ℕ, ◌*◌, ◌<◌, ◌≤◌, List, [], ◌++◌, map, length, Option, Some}
use Rattle.std.specs.List.{AllZip, flat_map}
use Rattle.nx_host.specs.declared.disk.Disk.{Ghosts}
use Rattle.nx_host.specs.Disk.{Image, Beside, Keeps}
use Rattle.nx_host.specs.Host.{Takes, Appends}
use Rattle.nx_host.specs.Input.{most_input}
use Rattle.nx_host.specs.Still.{IsSettled, IsStill}
use Rattle.nx_host.specs.Time.{Elapses}
use Rattle.nx_records.specs.Records.{HasHeader}
use Rattle.nx_script.specs.declared.command.Command.{Command}
use Rattle.nx_script.specs.declared.command.Command.TheVariants.{Bad}
use Rattle.nx_script.specs.declared.reply.Reply.{Reply}
use Rattle.nx_script.specs.declared.request.Request.{Request}
use Rattle.nx_script.specs.declared.request.Request.TheVariants.{Single, Transaction}
use Rattle.nx_script.specs.Reply.{reply_text}
use Rattle.nx_script.specs.Requests.{AreRequests, AreWholeRequests}
use Rattle.nx_state.specs.State.{State}
use Rattle.nx_state.specs.Stands.{Recovers}
use Rattle.nx_ask.specs.Asked.{Asked}
use Rattle.nx_ask.specs.Snapshot.{ReadsSnapshot}
use Rattle.nx_filters.specs.declared.status.Status.{Status}
use Rattle.nx_filters.specs.declared.status.Status.TheVariants.{Done, Usage, Refused, DiskFault, ReadFault, WriteFault, NoMemory, NotAStore, Damaged, TooMuch}
use Rattle.nx_filters.specs.Outcome.{TakesFew, CountsGrow, EndsWhole}
use Rattle.nx_front.specs.Serving.{AreFirst, IsCaused, EndsWithoutHeader}
use Rattle.nx_front.specs.Finding.{ShowsPart}

-- how many requests a batch has
abbrev pub batch_size : ℕ
batch_size = 1024

-- What a request asks: a command that stands alone is itself the question, and a transaction is answered as a line that is no command.
abbrev pub as_question : Request → Command
as_question (Single command) = command
as_question (Transaction commands) = Bad

-- the requests are batches, one behind the other
abbrev pub AreBatches : List Request → Type 0
AreBatches requests = (count : ℕ) × (length requests ≡ batch_size * count)

-- of the requests that are whole in the bytes these are all batches
abbrev pub AreWholeBatches : List ℕ → List Request → Type 0
AreWholeBatches taken requests = AreBatches requests × ((rest : List Request) × (length rest < batch_size) × AreWholeRequests taken (requests ++ rest))

-- This is the text of the replies to the requests, as questions about a state.
pub record IsAskedText (state : State) (requests : List Request) (text : List ℕ) : Type 0 where
  pub replies : List Reply
  pub asked : AllZip (Asked state) (map as_question requests) replies
  pub text_is : text ≡ flat_map reply_text replies

-- how such a run ends that took these bytes, where this is the text of the replies to these requests: whether they are all requests of the input, or all batches, and whether all is out. A
-- fault of the disk comes before anything is taken or given.
abbrev pub EndsAsking : List Request → List ℕ → List ℕ → Status → Beside → Beside → Type 0
EndsAsking requests text taken Done old new = EndsWhole taken old.input new.input × AreRequests taken requests × Appends text old.output new.output
EndsAsking requests text taken ReadFault old new = (length taken < most_input) × AreWholeBatches taken requests × Appends text old.output new.output
EndsAsking requests text taken TooMuch old new = (length taken ≡ most_input) × AreWholeBatches taken requests × Appends text old.output new.output
EndsAsking requests text taken DiskFault old new = (taken ≡ []) × (requests ≡ []) × Appends [] old.output new.output
EndsAsking requests text taken NoMemory old new = AreBatches requests × Appends text old.output new.output
EndsAsking requests text taken WriteFault old new = Unit {0}
EndsAsking requests text taken NotAStore old new = ⊥
EndsAsking requests text taken (Damaged page) old new = ⊥
EndsAsking requests text taken Usage old new = ⊥
EndsAsking requests text taken Refused old new = ⊥

-- From this state the first requests of the input are answered. At every moment what is out is a first part of the text of the replies.
pub record AsksFrom {D : Type 0} (d : Ghosts D) (state : State) (status : Status) (old new : D) : Type 0 where
  pub taken : List ℕ
  pub takes : Takes taken (d.beside old).input (d.beside new).input
  pub requests : List Request
  pub first : AreFirst taken requests (d.beside new).input
  pub text : List ℕ
  pub replies : IsAskedText state requests text
  pub time : Elapses d.moment d.stood_since old new (ShowsPart (d.beside old).output text)
  pub ends : EndsAsking requests text taken status (d.beside old) (d.beside new)

-- The output has grown by the texts of some replies, of as many as whole batches have.
pub record GivesBatches (old new : Option (List ℕ)) : Type 0 where
  pub replies : List Reply
  pub count : ℕ
  pub whole : length replies ≡ batch_size * count
  pub gave : Appends (flat_map reply_text replies) old new

-- with one of these a run ends between two batches
abbrev pub EndsBetweenBatches : Status → Type 0
EndsBetweenBatches ReadFault = Unit {0}
EndsBetweenBatches NoMemory = Unit {0}
EndsBetweenBatches (Damaged page) = Unit {0}
EndsBetweenBatches TooMuch = Unit {0}
EndsBetweenBatches _ = ⊥

-- How questions are answered over a snapshot: from each state that the disk may hold; and why it ends so in any case. Whatever the disk holds, nothing of a batch is out whose questions weren't all answered, a fault
-- of the disk comes before anything is taken or given, the areas are read for one snapshot alone, and both stay as they were, at every moment.
pub record Asks {D : Type 0} (d : Ghosts D) (status : Status) (old new : D) : Type 0 where
  pub from : (was : Image) (state : State) → IsSettled d old was → Recovers was (Some state) → AsksFrom d state status old new
  pub cause : IsCaused d status old new
  pub between : EndsBetweenBatches status → GivesBatches (d.beside old).output (d.beside new).output
  pub untaken : status ≡ DiskFault → IsStill d old new
  pub no_header : (was : Image) → IsSettled d old was → (HasHeader was → ⊥) → EndsWithoutHeader status × IsStill d old new
  pub once : (was : Image) → IsSettled d old was → ReadsSnapshot was (d.reads old) (d.reads new)
  pub contents_stay : Keeps (d.contents old) (d.contents new)
  pub images_stay : (i : Image) → d.may_leave new i ↔ d.may_leave old i
  pub time : Elapses d.moment d.stood_since old new (λ s. d.may_leave old s.image)
  pub bounded : TakesFew (d.beside old).input (d.beside new).input
  pub counts : CountsGrow (d.beside old) (d.beside new)
  pub faults_later : d.faults old ≤ d.faults new

-- requests have one text of replies, as questions about a state
abbrev pub HasOneAskedText : Type 0
HasOneAskedText = (state : State) (requests : List Request) (one other : List ℕ) → IsAskedText state requests one → IsAskedText state requests other → one ≡ other
