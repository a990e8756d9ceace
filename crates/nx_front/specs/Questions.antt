-- Questions over a store: what was answered so far, and what stood meanwhile.
use Rattle.std.specs.Prelude.{◌≡◌, ◌⊎◌, ◌↔◌, ℕ, ◌+◌, ◌≤◌, List, None, IsSome, Contains}
use Rattle.nx_host.specs.declared.disk.Disk.{Ghosts}
use Rattle.nx_host.specs.Disk.{Image, Keeps}
use Rattle.nx_host.specs.Host.{Appends}
use Rattle.nx_host.specs.Time.{Elapses}
use Rattle.nx_records.specs.Words.{Held}
use Rattle.nx_layouts.specs.Layout.{AreOnce}
use Rattle.nx_script.specs.declared.script.Script.{Script}
use Rattle.nx_script.specs.declared.whole.Line.{Line}
use Rattle.nx_script.specs.Whole.{HasCutIn}
use Rattle.nx_state.specs.State.{State}
use Rattle.nx_reach.specs.declared.step.Step.{Step}
use Rattle.nx_store.specs.declared.store.Store.{Store}
use Rattle.nx_store.specs.Store.{IsAt}
use Rattle.nx_filters.specs.declared.status.Status.{Status}
use Rattle.nx_filters.specs.Outcome.{TakesFew}
use Rattle.nx_front.specs.declared.gathered.Gathered.{Gathered}
use Rattle.nx_front.specs.declared.find.Answer.{Answer}
use Rattle.nx_front.specs.declared.find.Answer.TheVariants as answer
use Rattle.nx_front.specs.Conversation.{IsLater, StopsShort, IsEnded}
use Rattle.nx_front.specs.Gathered.{labels_in, KnowsLabels, KeepsNames}
use Rattle.nx_front.specs.Finding.{AsksFor, IsReply, AreReplies, IsAskedBy, ShowsPart, FindsFrom, ReadForNames, ReadForLine, ReadForLines, ReadsQuestions, syntax_text, no_document_text, found_text}

-- the text of an answer
abbrev pub answer_text : Answer → List ℕ
answer_text answer.NoQuestion = syntax_text
answer_text answer.NoSuchDocument = no_document_text
answer_text (answer.Reached paths) = found_text paths

-- These are names of documents that the line asks for, which weren't gathered before.
pub record AreNew (gathered : Gathered) (line : Line) (names : List (List ℕ)) : Type 0 where
  pub once : AreOnce names
  pub none : (name : List ℕ) → Contains names name → labels_in gathered name ≡ None
  pub asked : (name : List ℕ) → Contains names name → (steps : List Step) × AsksFor line name steps

-- For a line so many pages were read at most: for the labels of documents that weren't gathered before, and, where it came to that, for what the line asks for.
pub record ReadsLine {D : Type 0} (d : Ghosts D) (held : Held) (state : State) (line : Line) (gathered : Gathered) (before after : D) : Type 0 where
  pub names : List (List ℕ)
  pub new : AreNew gathered line names
  pub for_names : ℕ
  pub of_names : ReadForNames held state names for_names
  pub for_line : ℕ
  pub of_line : (for_line ≡ 0) ⊎ ReadForLine held state line for_line
  pub few : d.reads after ≤ d.reads before + (for_names + for_line)

-- ... and then the labels of those documents are kept, and it came to that.
pub record ReadsWholeLine {D : Type 0} (d : Ghosts D) (held : Held) (state : State) (line : Line) (old new : Gathered) (before after : D) : Type 0 where
  pub names : List (List ℕ)
  pub fresh : AreNew old line names
  pub kept : (name : List ℕ) → Contains names name → IsSome (labels_in new name)
  pub for_names : ℕ
  pub of_names : ReadForNames held state names for_names
  pub for_line : ℕ
  pub of_line : ReadForLine held state line for_line
  pub few : d.reads after ≤ d.reads before + (for_names + for_line)

-- What a line is answered was looked up.
pub record LooksUp {D : Type 0} (d : Ghosts D) (held : Held) (state : State) (line : Line) (answer : Answer) (store : Store) (old new : Gathered) (before after : D) : Type 0 where
  pub is : IsReply state line (answer_text answer)
  pub knows : KnowsLabels d held state store new after
  pub keeps : KeepsNames old new
  pub reads : ReadsWholeLine d held state line old new before after

-- ... from each state of which so much was known
abbrev pub LooksUpOf : {D : Type 0} → Ghosts D → Line → Answer → Store → Store → Gathered → Gathered → D → D → Type 0
LooksUpOf d line answer store store' gathered gathered' before after =
    (held : Held) (state : State) → KnowsLabels d held state store gathered before → LooksUp d held state line answer store' gathered gathered' before after

-- It wasn't looked up.
abbrev pub StopsLooking : {D : Type 0} → Ghosts D → Line → Status → Store → Gathered → D → D → Type 0
StopsLooking d line status store gathered before after =
    (held : Held) (state : State) → KnowsLabels d held state store gathered before → StopsShort status × ReadsLine d held state line gathered before after

-- From old to new both areas stayed, at every moment.
pub record LeavesImages {D : Type 0} (d : Ghosts D) (old new : D) : Type 0 where
  pub contents_stay : Keeps (d.contents old) (d.contents new)
  pub images_stay : (i : Image) → d.may_leave new i ↔ d.may_leave old i
  pub time : Elapses d.moment d.stood_since old new (λ s. d.may_leave old s.image)

-- These first lines were answered, from a state, of what is held.
pub record HasFound {D : Type 0} (d : Ghosts D) (held : Held) (state : State) (lines : List Line) (store : Store) (gathered : Gathered) (first now : D) : Type 0 where
  pub knows : KnowsLabels d held state store gathered now
  pub text : List ℕ
  pub replies : AreReplies state lines text
  pub gave : Appends text (d.beside first).output (d.beside now).output
  pub time : Elapses d.moment d.stood_since first now (ShowsPart (d.beside first).output text)
  pub names : List (List ℕ)
  pub once : AreOnce names
  pub kept : (name : List ℕ) → Contains names name → IsSome (labels_in gathered name)
  pub asked : (name : List ℕ) → Contains names name → IsAskedBy lines name
  pub for_names : ℕ
  pub of_names : ReadForNames held state names for_names
  pub for_lines : ℕ
  pub of_lines : ReadForLines held state lines for_lines
  pub few : d.reads now ≤ d.reads first + (for_names + for_lines)

-- The script gave these lines of the bytes that were taken, and from each state that the store was at each of them was answered.
pub record IsFinding {D : Type 0} (d : Ghosts D) (begun : Store) (taken : List ℕ) (lines : List Line) (script : Script) (store : Store) (gathered : Gathered) (first now : D) : Type 0 where
  pub given : HasCutIn script taken lines (d.beside first).input (d.beside now).input
  pub goes : IsLater d first now
  pub areas : LeavesImages d first now
  pub found : (state : State) (at : IsAt d begun first state) → IsSome (d.contents now) → HasFound d at.held state lines store gathered first now

-- How it ends: from each state that the store is at; and why in any case.
pub record FindsAll {D : Type 0} (d : Ghosts D) (begun : Store) (status : Status) (first now : D) : Type 0 where
  pub from : (state : State) → IsAt d begun first state → IsSome (d.contents now) → FindsFrom d state status first now
  pub cause : IsEnded d status first now
  pub bounded : TakesFew (d.beside first).input (d.beside now).input
  pub goes : IsLater d first now
  pub areas : LeavesImages d first now
  pub reads : (state : State) (at : IsAt d begun first state) → IsSome (d.contents now) → ReadsQuestions d 0 at.held state first now
