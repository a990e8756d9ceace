-- A run of questions for nodes by name: each line of the input is answered, one after the other, from the state that the disk holds. Both areas stay as they are.
use Rattle.std.specs.Prelude.{◌≡◌, ◌⊎◌, ◌↔◌, ℕ, ◌+◌, ◌<◌, ◌≤◌, IsTrue, List, [], ◌∷◌, ◌++◌, length, Option, None, Some, IfSome, IsSome, codes, Contains}
use Rattle.std.specs.FinMap.{get}
use Rattle.std.specs.List.{flat_map}
use Rattle.nx_host.specs.declared.disk.Disk.{Ghosts}
use Rattle.nx_host.specs.Disk.{Image, Beside, Keeps}
use Rattle.nx_host.specs.Host.{Takes, Appends}
use Rattle.nx_host.specs.Input.{most_input}
use Rattle.nx_host.specs.Still.{IsSettled, IsStill}
use Rattle.nx_host.specs.Time.{Stood, Elapses}
use Rattle.nx_records.specs.Words.{replay, Held, Holds}
use Rattle.nx_records.specs.Records.{HasHeader}
use Rattle.nx_pyx.specs.Field.{field, behind_space}
use Rattle.nx_pyx.specs.Path.{path_text}
use Rattle.nx_cuts.specs.Cut.{CutTree, tree_of}
use Rattle.nx_layouts.specs.Layout.{AreOnce}
use Rattle.nx_pyx.specs.DocumentName.{is_document_name}
use Rattle.nx_script.specs.Whole.{AreLines, AreEnded}
use Rattle.nx_script.specs.declared.whole.Line.{Line}
use Rattle.nx_script.specs.declared.whole.Line.TheVariants.{Bytes}
use Rattle.nx_state.specs.State.{State}
use Rattle.nx_state.specs.Stands.{Recovers, HoldsState}
use Rattle.nx_reach.specs.declared.step.Step.{Step}
use Rattle.nx_reach.specs.Reach.{Found}
use Rattle.nx_reach.specs.Text.{SaysSteps}
use Rattle.nx_filters.specs.declared.status.Status.{Status}
use Rattle.nx_filters.specs.declared.status.Status.TheVariants.{Done, Usage, Refused, DiskFault, ReadFault, WriteFault, NoMemory, NotAStore, Damaged, TooMuch}
use Rattle.nx_filters.specs.Outcome.{TakesFew, CountsGrow, EndsWhole}
use Rattle.nx_store.specs.Reads.{opening_reads}
use Rattle.nx_store.specs.Naming.{NamesReads, FindReads}
use Rattle.nx_front.specs.Serving.{IsCaused, EndsWithoutHeader, BeginsWith}

-- The line is `find`, a document's name and the text of steps, with one space behind each but the last: it asks for what these steps reach in the document of this name.
pub record AsksFor (line : Line) (name : List ℕ) (steps : List Step) : Type 0 where
  pub text : List ℕ
  pub rest : List ℕ
  pub said : List ℕ
  pub is : line ≡ Bytes text
  pub word : field text ≡ codes "find"
  pub behind_word : behind_space text ≡ Some rest
  pub name_is : field rest ≡ name
  pub named : IsTrue (is_document_name name)
  pub behind_name : behind_space rest ≡ Some said
  pub says : SaysSteps said steps

-- it is no such line
abbrev pub AsksNothing : Line → Type 0
AsksNothing line = (name : List ℕ) (steps : List Step) → AsksFor line name steps → ⊥

-- the lines of a refusal
abbrev pub syntax_text : List ℕ
syntax_text = codes "error syntax\n"

abbrev pub no_document_text : List ℕ
no_document_text = codes "error no-document\n"

-- a line for a path that was found, and the lines for all of them
abbrev pub found_line : List ℕ → List ℕ
found_line path = codes "at " ++ path_text path ++ 10 ∷ []

abbrev pub found_text : List (List ℕ) → List ℕ
found_text paths = flat_map found_line paths ++ codes ".\n"

-- The reply to a line, of a state: the line asks for nothing; or there is no document of that name; or the paths that the steps reach, in document order.
pub data IsReply (state : State) (line : Line) : List ℕ → Type 0 where
  NoQuestion : AsksNothing line → IsReply state line syntax_text
  NoSuchDocument : (name : List ℕ) (steps : List Step) → AsksFor line name steps → get state.documents name ≡ None → IsReply state line no_document_text
  Reached : (name : List ℕ) (steps : List Step) (document : CutTree) (paths : List (List ℕ)) → AsksFor line name steps → get state.documents name ≡ Some document
      → Found (tree_of document) steps paths → IsReply state line (found_text paths)

-- this is the text of the replies to the lines, one after the other
abbrev pub AreReplies : State → List Line → List ℕ → Type 0
AreReplies state [] text = text ≡ []
AreReplies state (line ∷ lines) text = (first rest : List ℕ) × IsReply state line first × AreReplies state lines rest × (text ≡ first ++ rest)

-- these are the first lines of the bytes that were taken and the input that is left, where it is told
abbrev pub AreFirstLines : List ℕ → List Line → Option (List ℕ) → Type 0
AreFirstLines taken lines now = IfSome now (λ left. (rest : List Line) × AreLines (taken ++ left) (lines ++ rest))

-- how such a run ends that took these bytes, where this is the text of the replies to these lines: whether they are all lines of the input, or all that an LF ended, and whether all is out
abbrev pub EndsFinding : List Line → List ℕ → List ℕ → Status → Beside → Beside → Type 0
EndsFinding lines text taken Done old new = EndsWhole taken old.input new.input × AreLines taken lines × Appends text old.output new.output
EndsFinding lines text taken ReadFault old new = (length taken < most_input) × AreEnded taken lines × Appends text old.output new.output
EndsFinding lines text taken TooMuch old new = (length taken ≡ most_input) × AreEnded taken lines × Appends text old.output new.output
EndsFinding lines text taken DiskFault old new = Unit {0}
EndsFinding lines text taken WriteFault old new = Unit {0}
EndsFinding lines text taken NoMemory old new = Unit {0}
EndsFinding lines text taken NotAStore old new = ⊥
EndsFinding lines text taken (Damaged page) old new = ⊥
EndsFinding lines text taken Usage old new = ⊥
EndsFinding lines text taken Refused old new = ⊥

-- a moment of a run: what is out is the first part of this text, as far as the output is told
abbrev pub ShowsPart : Option (List ℕ) → List ℕ → Stood → Type 0
ShowsPart output text s = (out : List ℕ) × BeginsWith out text × Appends out output s.output

-- From this state the first lines of the input are answered. At every moment what is out is a first part of the text of the replies.
pub record FindsFrom {D : Type 0} (d : Ghosts D) (state : State) (status : Status) (old new : D) : Type 0 where
  pub taken : List ℕ
  pub takes : Takes taken (d.beside old).input (d.beside new).input
  pub lines : List Line
  pub first : AreFirstLines taken lines (d.beside new).input
  pub text : List ℕ
  pub replies : AreReplies state lines text
  pub time : Elapses d.moment d.stood_since old new (ShowsPart (d.beside old).output text)
  pub ends : EndsFinding lines text taken status (d.beside old) (d.beside new)

-- So many pages at most are read for the labels of the documents of these names, one after the other.
abbrev pub ReadForNames : Held → State → List (List ℕ) → ℕ → Type 0
ReadForNames held state [] pages = pages ≡ 0
ReadForNames held state (name ∷ names) pages = (own rest : ℕ) × NamesReads held name (get state.documents name) own × ReadForNames held state names rest × (pages ≡ own + rest)

-- So many are read for the paths that a line asks for, where the labels are known, and for those that lines ask for, one after the other.
abbrev pub ReadForLine : Held → State → Line → ℕ → Type 0
ReadForLine held state line pages = (AsksNothing line × (pages ≡ 0)) ⊎ ((name : List ℕ) × (steps : List Step) × AsksFor line name steps × FindReads held name steps (get state.documents name) pages)

abbrev pub ReadForLines : Held → State → List Line → ℕ → Type 0
ReadForLines held state [] pages = pages ≡ 0
ReadForLines held state (line ∷ lines) pages = (own rest : ℕ) × ReadForLine held state line own × ReadForLines held state lines rest × (pages ≡ own + rest)

-- one of the lines asks for something in the document of this name
abbrev pub IsAskedBy : List Line → List ℕ → Type 0
IsAskedBy lines name = (line : Line) × (steps : List Step) × Contains lines line × AsksFor line name steps

-- These are the first lines of the input. No more pages were read than at first, than the labels of each document take that they ask for, read once each, and than each of the first of
-- these lines takes of what is held, which is this state.
pub record ReadsQuestions {D : Type 0} (d : Ghosts D) (at_first : ℕ) (held : Held) (state : State) (old new : D) : Type 0 where
  pub taken : List ℕ
  pub takes : Takes taken (d.beside old).input (d.beside new).input
  pub lines : List Line
  pub first : AreFirstLines taken lines (d.beside new).input
  pub names : List (List ℕ)
  pub once : AreOnce names
  pub asked : (name : List ℕ) → Contains names name → IsAskedBy lines name
  pub sought : List Line
  pub among : (rest : List Line) × (lines ≡ sought ++ rest)
  pub for_names : ℕ
  pub of_names : ReadForNames held state names for_names
  pub for_lines : ℕ
  pub of_lines : ReadForLines held state sought for_lines
  pub few : d.reads new ≤ d.reads old + (at_first + (for_names + for_lines))

-- How questions are answered over a store: from each state that the disk may hold, while its bytes are told; and why it ends so in any case. Both areas stay as they were, at every
-- moment. The pages that are read are those of opening, of the labels of each document once, and of each question.
pub record Finds {D : Type 0} (d : Ghosts D) (status : Status) (old new : D) : Type 0 where
  pub from : (was : Image) (state : State) → IsSettled d old was → IsSome (d.contents new) → Recovers was (Some state) → FindsFrom d state status old new
  pub cause : IsCaused d status old new
  pub no_header : (was : Image) → IsSettled d old was → (HasHeader was → ⊥) → EndsWithoutHeader status × IsStill d old new
  pub contents_stay : Keeps (d.contents old) (d.contents new)
  pub images_stay : (i : Image) → d.may_leave new i ↔ d.may_leave old i
  pub time : Elapses d.moment d.stood_since old new (λ s. d.may_leave old s.image)
  pub reads : (was : Image) (held : Held) (state : State) → IsSettled d old was → IsSome (d.contents new) → Holds (replay was) held → HoldsState held state
      → ReadsQuestions d (opening_reads was held.catalog.bytes) held state old new
  pub unopened_reads : (was : Image) → IsSettled d old was → (HasHeader was → ⊥) → d.reads new ≤ d.reads old + opening_reads was []
  pub bounded : TakesFew (d.beside old).input (d.beside new).input
  pub counts : CountsGrow (d.beside old) (d.beside new)
  pub faults_later : d.faults old ≤ d.faults new

-- lines have one text of replies, from a state
abbrev pub HasOneAnswer : Type 0
HasOneAnswer = (state : State) (lines : List Line) (one other : List ℕ) → AreReplies state lines one → AreReplies state lines other → one ≡ other
