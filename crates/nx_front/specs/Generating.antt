-- What `gen` does: over a store without a document `gen` it carries out the commands of a seed and a number, and tells what came of them. It takes no input.
use Rattle.std.specs.Prelude.{◌≡◌, ◌⊎◌, ◌↔◌, ℕ, Bool, true, false, List, ◌++◌, map, length, Option, Some, IsSome, MatchOption, codes, decimal}
use Rattle.std.specs.Option.{option_map_or}
use Rattle.std.specs.List.{count_by}
use Rattle.std.specs.FinMap.{get}
use Rattle.nx_host.specs.declared.disk.Disk.{Ghosts}
use Rattle.nx_host.specs.Disk.{Image, Beside, Keeps, Rose}
use Rattle.nx_host.specs.Host.{Appends, AppendsPrefix}
use Rattle.nx_host.specs.Still.{IsSettled, IsStill}
use Rattle.nx_host.specs.Time.{Stood, Elapses}
use Rattle.nx_pyx.specs.Text.{text}
use Rattle.nx_cuts.specs.Cut.{CutTree, tree_of}
use Rattle.nx_script.specs.declared.request.Request.{Request}
use Rattle.nx_script.specs.declared.request.Request.TheVariants.{Single}
use Rattle.nx_script.specs.declared.request.Answer.{Answer}
use Rattle.nx_script.specs.declared.request.Answer.TheVariants.{One}
use Rattle.nx_gen.specs.Commands.{gen_name, commands}
use Rattle.nx_records.specs.Records.{HasHeader}
use Rattle.nx_state.specs.State.{State, document_size}
use Rattle.nx_state.specs.Stands.{Recovers}
use Rattle.nx_steps.specs.Requests.{is_refused}
use Rattle.nx_store.specs.Store.{TakesNone}
use Rattle.nx_filters.specs.declared.status.Status.{Status}
use Rattle.nx_filters.specs.declared.status.Status.TheVariants.{Done, Refused, DiskFault, WriteFault, NoMemory, NotAStore, Damaged}
use Rattle.nx_front.specs.Turns.{Turn, IsRun, state_after, requests_of, replies_of, IsAfterSome}
use Rattle.nx_front.specs.Logs.{LeavesLogs, IsOpenedOrStill}
use Rattle.nx_front.specs.Init.{exists_line, IsUntroubled}
use Rattle.nx_front.specs.Serving.{LeavesMoments, EndsWell, EndsWithoutHeader}

-- the document under the generator's name
abbrev pub generated : State → Option CutTree
generated state = get state.documents gen_name

-- the commands of a seed and a number, each a request of its own
abbrev pub generated_requests : ℕ → ℕ → List Request
generated_requests seed n = map (λ command. Single command) (commands seed n)

-- a command that stands alone was refused
abbrev pub is_refused_alone : Answer → Bool
is_refused_alone (One reply) = is_refused reply
is_refused_alone _ = false

-- how many bytes the canonical text of a document has
abbrev pub text_size : CutTree → ℕ
text_size document = length (text (tree_of document))

-- four lines that tell these numbers
abbrev pub summary_text : ℕ → ℕ → ℕ → ℕ → List ℕ
summary_text commands errors nodes bytes =
    codes "commands " ++ decimal commands ++ codes "\nerrors " ++ decimal errors ++ codes "\nnodes " ++ decimal nodes ++ codes "\nbytes " ++ decimal bytes ++ codes "\n"

-- What came of commands that stand alone, with these replies: how many there were, how many of them were refused, and how many nodes and how many bytes of text the document has then, 0
-- of each where there is none.
abbrev pub summary : List Answer → Option CutTree → List ℕ
summary replies document =
    summary_text (length replies) (count_by is_refused_alone replies) (option_map_or document_size document 0) (option_map_or text_size document 0)

-- ... of the commands of a run
abbrev pub summary_of : State → List Turn → List ℕ
summary_of state turns = summary (replies_of turns) (generated (state_after state turns))

-- A moment of a run: nothing is out, and the image is of the state after some of the turns; or all commands are answered, a first part of the summary is out, and the
-- image is of the last state.
abbrev pub ShowsGenerating : Option (List ℕ) → List Request → State → List Turn → Stood → Type 0
ShowsGenerating output all state turns s =
    (Keeps output s.output × IsAfterSome state turns s.image)
    ⊎ ((requests_of turns ≡ all) × AppendsPrefix (summary_of state turns) output s.output × Recovers s.image (Some (state_after state turns)))

-- how a run ends that had these turns: whether all commands are answered, and whether the summary is out
abbrev pub EndsGenerating : List Request → State → List Turn → Status → Beside → Beside → Type 0
EndsGenerating all state turns Done old new = (requests_of turns ≡ all) × Appends (summary_of state turns) old.output new.output
EndsGenerating all state turns WriteFault old new = requests_of turns ≡ all
EndsGenerating all state turns DiskFault old new = Unit {0}
EndsGenerating all state turns NoMemory old new = Unit {0}
EndsGenerating all state turns _ old new = ⊥

-- From a state without such a document there is one run of the first of the generator's commands: those that were answered, and, where one was begun, that one. Each
-- moment is one of it, also the one at the end. Where all went well, each image that a crash may leave is of the state after all commands. The log is what the
-- commands leave of it, one after the other.
pub record GeneratesFrom {D : Type 0} (d : Ghosts D) (all : List Request) (state : State) (status : Status) (old new : D) : Type 0 where
  pub turns : List Turn
  pub run : IsRun state turns
  pub rest : List Request
  pub first : requests_of turns ++ rest ≡ all
  pub time : Elapses d.moment d.stood_since old new (ShowsGenerating (d.beside old).output all state turns)
  pub left : LeavesMoments d new (ShowsGenerating (d.beside old).output all state turns)
  pub ends : EndsGenerating all state turns status (d.beside old) (d.beside new)
  pub last : status ≡ Done → (i : Image) → d.may_leave new i → Recovers i (Some (state_after state turns))
  pub logs : LeavesLogs d state turns status old new

-- how a run ends that found such a document: whether the line is out that says so
abbrev pub EndsFinding : Status → Beside → Beside → Type 0
EndsFinding Refused old new = Appends exists_line old.output new.output
EndsFinding WriteFault old new = Unit {0}
EndsFinding DiskFault old new = Unit {0}
EndsFinding NoMemory old new = Unit {0}
EndsFinding _ old new = ⊥

-- Such a document was there. Both areas are left as they were, and were so at every moment, beside a first part of the line that says so.
pub record FindsGenerated {D : Type 0} (d : Ghosts D) (status : Status) (old new : D) : Type 0 where
  pub contents_stay : Keeps (d.contents old) (d.contents new)
  pub images_stay : (i : Image) → d.may_leave new i ↔ d.may_leave old i
  pub time : Elapses d.moment d.stood_since old new (λ s. AppendsPrefix exists_line (d.beside old).output s.output × d.may_leave old s.image)
  pub ends : EndsFinding status (d.beside old) (d.beside new)

-- how `gen` is carried out from this state
abbrev pub GeneratesIn : {D : Type 0} → Ghosts D → List Request → State → Status → D → D → Type 0
GeneratesIn d all state status old new = MatchOption (generated state) (GeneratesFrom d all state status old new) (λ document. FindsGenerated d status old new)

-- why it ends so, whatever the disk holds
abbrev pub IsGenerationCaused : {D : Type 0} → Ghosts D → Status → D → D → Type 0
IsGenerationCaused d Done old new = Unit {0}
IsGenerationCaused d Refused old new = Unit {0}
IsGenerationCaused d NoMemory old new = Unit {0}
IsGenerationCaused d DiskFault old new = Rose (d.faults old) (d.faults new)
IsGenerationCaused d WriteFault old new = Rose (d.beside old).out_faults (d.beside new).out_faults
IsGenerationCaused d NotAStore old new = (was : Image) → IsSettled d old was → HasHeader was → ⊥
IsGenerationCaused d (Damaged page) old new = (was : Image) (state : State) → IsSettled d old was → IsSome (d.contents new) → Recovers was (Some state) → ⊥
IsGenerationCaused d _ old new = ⊥

-- How `gen` is carried out: from each state that the disk may hold, while its bytes are told; and why it ends so in any case. It takes no input. Anything that came of
-- it came behind the opening of the store, which renews what a failed sync may have lost.
pub record Generates {D : Type 0} (d : Ghosts D) (seed n : ℕ) (status : Status) (old new : D) : Type 0 where
  pub from : (was : Image) (state : State) → IsSettled d old was → IsSome (d.contents new) → Recovers was (Some state) → GeneratesIn d (generated_requests seed n) state status old new
  pub cause : IsGenerationCaused d status old new
  pub no_header : (was : Image) → IsSettled d old was → (HasHeader was → ⊥) → EndsWithoutHeader status × IsStill d old new
  pub opened : IsOpenedOrStill d old new
  pub takes : TakesNone d old new

-- with one of these it ends where nothing fails and such a document is there
abbrev pub EndsRefusing : Status → Type 0
EndsRefusing Refused = Unit {0}
EndsRefusing NoMemory = Unit {0}
EndsRefusing _ = ⊥

-- Where nothing fails, over a store in some state all commands are carried out, or the document is found, unless memory runs out; and over a disk without a header that
-- is said.
pub record CompletesGenerating {D : Type 0} (d : Ghosts D) (status : Status) (old new : D) : Type 0 where
  pub store : (was : Image) (state : State) → IsUntroubled d was old new → Recovers was (Some state) → MatchOption (generated state) (EndsWell status) (λ document. EndsRefusing status)
  pub no_store : (was : Image) → IsUntroubled d was old new → (HasHeader was → ⊥) → (status ≡ NotAStore) ⊎ (status ≡ NoMemory)
