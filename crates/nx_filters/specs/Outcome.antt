-- How a run of a command ends, what it has taken and given by then, and what stood at each of its moments: one definition for all commands.
use Rattle.std.specs.Prelude.{◌≡◌, ◌⊎◌, ◌↔◌, ℕ, ◌<◌, ◌≤◌, List, [], ◌∷◌, ◌++◌, length, Option, IfSome, IsSome, None, Some, Result, Ok, Err}
use Rattle.nx_host.specs.declared.disk.Disk.{Ghosts}
use Rattle.nx_host.specs.Disk.{Image, Beside, Keeps, Rose}
use Rattle.nx_host.specs.Host.{Takes, IsAtEnd, Appends, AppendsPrefix}
use Rattle.nx_host.specs.Input.{most_input}
use Rattle.nx_host.specs.Time.{Stood, Elapses}
use Rattle.nx_filters.specs.declared.status.Status.{Status}
use Rattle.nx_filters.specs.declared.status.Status.TheVariants.{Done, Usage, Refused, DiskFault, ReadFault, WriteFault, NoMemory, NotAStore, Damaged, TooMuch}
use Rattle.nx_filters.specs.declared.take_error.TakeError.{TakeError}
use Rattle.nx_filters.specs.declared.take_error.TakeError.TheVariants as take_error
use Rattle.nx_filters.specs.declared.give.GiveError.{GiveError}
use Rattle.nx_filters.specs.declared.give.GiveError.TheVariants as give_error
use Rattle.nx_filters.specs.declared.refusal.Refusal.{Refusal}
use Rattle.nx_filters.specs.Refusal.{refusal_line}

-- What a command makes of its input.
pub record Meaning : Type 1 where
  -- what answers an input, and its text
  pub Answer : Type 0
  pub text_of : Answer → List ℕ
  -- the whole input has this answer
  pub says : List ℕ → Answer → Type 0
  -- the whole input is refused for this reason
  pub refuses : List ℕ → Refusal → Type 0
  -- what bytes show before the input's end: this text, which is given then, or a refusal, whatever comes behind them
  pub shows : List ℕ → Result (List ℕ) Refusal → Type 0

-- What was taken:

-- No more bytes were taken of the input than a run takes.
pub record TakesFew (first now : Option (List ℕ)) : Type 0 where
  pub taken : List ℕ
  pub few : length taken ≤ most_input
  pub takes : Takes taken first now

-- The bytes were taken to the input's end.
pub record EndsWhole (taken : List ℕ) (first now : Option (List ℕ)) : Type 0 where
  pub takes : Takes taken first now
  pub end : IsAtEnd now
  pub few : length taken < most_input

-- The bytes that were taken, no more than a run takes, show this refusal, or were taken to the input's end and have it.
pub record EndsRefused (m : Meaning) (refusal : Refusal) (taken : List ℕ) (first now : Option (List ℕ)) : Type 0 where
  pub takes : Takes taken first now
  pub few : length taken ≤ most_input
  pub refused : m.shows taken (Err refusal) ⊎ (IsAtEnd now × (length taken < most_input) × m.refuses taken refusal)

-- The bytes that were taken, no more than a run takes, show no refusal, and this text.
pub record EndsEarly (m : Meaning) (shown taken : List ℕ) (first now : Option (List ℕ)) : Type 0 where
  pub takes : Takes taken first now
  pub few : length taken ≤ most_input
  pub shows : m.shows taken (Ok shown)

-- how the reading of an input stops without an answer, where nothing is given before its end
abbrev pub StopsBy : Meaning → TakeError → Beside → Beside → Type 0
StopsBy m (take_error.Refused refusal) old new = (taken : List ℕ) × EndsRefused m refusal taken old.input new.input
StopsBy m take_error.ReadFault old new = Rose old.in_faults new.in_faults × (taken : List ℕ) × (length taken < most_input) × EndsEarly m [] taken old.input new.input
StopsBy m take_error.TooMuch old new = (taken : List ℕ) × (length taken ≡ most_input) × EndsEarly m [] taken old.input new.input
StopsBy m take_error.NoMemory old new = Unit {0}

-- how the reading of an input ended: at the input's end, with this answer, or by a stop
abbrev pub ReadsTo : (m : Meaning) → Result m.Answer TakeError → Beside → Beside → Type 0
ReadsTo m (Ok answer) old new = (taken : List ℕ) × EndsWhole taken old.input new.input × m.says taken answer
ReadsTo m (Err stop) old new = StopsBy m stop old new

-- what is to be given once these bytes were taken: the text of the whole input's answer, the line that refuses it, or the text that they show
abbrev pub IsDue : Meaning → List ℕ → List ℕ → Option (List ℕ) → Option (List ℕ) → Type 0
IsDue m due taken first now =
    ((answer : m.Answer) × EndsWhole taken first now × m.says taken answer × (due ≡ m.text_of answer))
    ⊎ ((refusal : Refusal) × EndsRefused m refusal taken first now × (due ≡ refusal_line refusal))
    ⊎ EndsEarly m due taken first now

-- What was given:

-- The output has grown by these bytes, where it is still told. Without bytes it is as it was.
abbrev pub Gives : List ℕ → Option (List ℕ) → Option (List ℕ) → Type 0
Gives [] old new = new ≡ old
Gives (b ∷ bytes) old new = Appends (b ∷ bytes) old new

-- Giving these bytes failed. Not all of them were out, and of the others a prefix was given then.
pub record FailsGiving (bytes : List ℕ) (old new : Beside) : Type 0 where
  pub rose : Rose old.out_faults new.out_faults
  pub done : List ℕ
  pub others : List ℕ
  pub parts : done ++ others ≡ bytes
  pub some : 0 < length others
  pub middle : Option (List ℕ)
  pub appends : Appends done old.output middle
  pub prefix : AppendsPrefix others middle new.output

-- how the giving of these bytes ended
abbrev pub Given : List ℕ → Result (Unit {0}) GiveError → Beside → Beside → Type 0
Given bytes (Ok _) old new = Gives bytes old.output new.output
Given bytes (Err give_error.WriteFault) old new = FailsGiving bytes old new
Given bytes (Err give_error.NoMemory) old new = AppendsPrefix bytes old.output new.output

-- Of these bytes the first were given, and these are left.
pub record GivesBut (bytes left : List ℕ) (old new : Beside) : Type 0 where
  pub done : List ℕ
  pub parts : done ++ left ≡ bytes
  pub gives : Gives done old.output new.output

-- how the giving of these bytes ended, the last of which are left where it went well
abbrev pub GivenBut : List ℕ → List ℕ → Result (Unit {0}) GiveError → Beside → Beside → Type 0
GivenBut bytes left (Ok _) old new = GivesBut bytes left old new
GivenBut bytes left (Err stop) old new = Given bytes (Err stop) old new

-- the status where the output was given so far, of a run that ends with `whole` where it is whole
abbrev pub status_after : Status → Result (Unit {0}) GiveError → Status
status_after whole (Ok _) = whole
status_after whole (Err give_error.WriteFault) = WriteFault
status_after whole (Err give_error.NoMemory) = NoMemory

-- what is given where the reading has stopped: the line of a refusal
abbrev pub line_after : TakeError → List ℕ
line_after (take_error.Refused refusal) = refusal_line refusal
line_after _ = []

-- how a run ends whose reading has stopped
abbrev pub EndsAfter : TakeError → Status → Beside → Beside → Type 0
EndsAfter (take_error.Refused refusal) status old new = (given : Result (Unit {0}) GiveError) × (status ≡ status_after Refused given) × Given (refusal_line refusal) given old new
EndsAfter take_error.ReadFault status old new = (status ≡ ReadFault) × (new ≡ old)
EndsAfter take_error.TooMuch status old new = (status ≡ TooMuch) × (new ≡ old)
EndsAfter take_error.NoMemory status old new = (status ≡ NoMemory) × (new ≡ old)

-- How a run ends:

-- the input has this outcome, where one is known
abbrev pub HasOutcome : (m : Meaning) → Option (Result m.Answer Refusal) → List ℕ → Type 0
HasOutcome m None input = Unit {0}
HasOutcome m (Some (Ok answer)) input = m.says input answer
HasOutcome m (Some (Err refusal)) input = m.refuses input refusal

-- the whole output of a run with this outcome; without one nothing is given
abbrev pub outcome_output : (m : Meaning) → Option (Result m.Answer Refusal) → List ℕ
outcome_output m None = []
outcome_output m (Some (Ok answer)) = m.text_of answer
outcome_output m (Some (Err refusal)) = refusal_line refusal

-- Where the input is told to the end, it has this outcome.
abbrev pub HasToldOutcome : (m : Meaning) → Option (Result m.Answer Refusal) → Option (List ℕ) → Option (List ℕ) → Type 0
HasToldOutcome m outcome old new = IfSome new (λ left. IfSome old (λ input. HasOutcome m outcome input))

-- why a run with this outcome ends with this status, what it has taken of the input by then and what it has given
abbrev pub Ends : (m : Meaning) → Option (Result m.Answer Refusal) → Status → Beside → Beside → Type 0
Ends m outcome Done old new =
    (answer : m.Answer) × (taken : List ℕ) × (outcome ≡ Some (Ok answer)) × EndsWhole taken old.input new.input × m.says taken answer × Gives (m.text_of answer) old.output new.output
Ends m outcome Refused old new =
    (refusal : Refusal) × (taken : List ℕ) × (outcome ≡ Some (Err refusal)) × EndsRefused m refusal taken old.input new.input × Gives (refusal_line refusal) old.output new.output
Ends m outcome ReadFault old new =
    Rose old.in_faults new.in_faults × (shown taken : List ℕ) × (length taken < most_input) × EndsEarly m shown taken old.input new.input × Gives shown old.output new.output
Ends m outcome WriteFault old new = (due taken : List ℕ) × IsDue m due taken old.input new.input × FailsGiving due old new
Ends m outcome TooMuch old new =
    (shown taken : List ℕ) × (length taken ≡ most_input) × EndsEarly m shown taken old.input new.input × Gives shown old.output new.output
Ends m outcome NoMemory old new = Unit {0}
Ends m outcome Usage old new = ⊥
Ends m outcome DiskFault old new = ⊥
Ends m outcome NotAStore old new = ⊥
Ends m outcome (Damaged page) old new = ⊥

-- Neither count of faults fell.
pub record CountsGrow (old new : Beside) : Type 0 where
  pub read : old.in_faults ≤ new.in_faults
  pub written : old.out_faults ≤ new.out_faults

-- A run of a command, with one outcome. At every moment and at its end the output has grown by a prefix of the outcome's text; what stands on the disk beside it is told by `Stands`.
pub record Runs {D : Type 0} (d : Ghosts D) (m : Meaning) (Stands : Option (Result m.Answer Refusal) → Stood → Type 0) (status : Status) (old new : D) : Type 0 where
  pub outcome : Option (Result m.Answer Refusal)
  pub told : HasToldOutcome m outcome (d.beside old).input (d.beside new).input
  pub ends : Ends m outcome status (d.beside old) (d.beside new)
  pub prefix : AppendsPrefix (outcome_output m outcome) (d.beside old).output (d.beside new).output
  pub time : Elapses d.moment d.stood_since old new (λ s. AppendsPrefix (outcome_output m outcome) (d.beside old).output s.output × Stands outcome s)
  pub bounded : TakesFew (d.beside old).input (d.beside new).input
  pub counts : CountsGrow (d.beside old) (d.beside new)

-- The disk is as it was.
pub record LeavesDisk {D : Type 0} (d : Ghosts D) (old new : D) : Type 0 where
  pub contents_stay : Keeps (d.contents old) (d.contents new)
  pub images_stay : (i : Image) → d.may_leave new i ↔ d.may_leave old i
  pub faults_stay : d.faults new ≡ d.faults old
  pub reads_stay : d.reads new ≡ d.reads old

-- A run of a command that leaves the disk as it was. At every moment an image stood that stood before.
pub record RunsBeside {D : Type 0} (d : Ghosts D) (m : Meaning) (status : Status) (old new : D) : Type 0 where
  pub run : Runs d m (λ _ s. d.may_leave old s.image) status old new
  pub disk : LeavesDisk d old new

-- Without a fault:

-- This input of fewer bytes than a run takes was told to the end, and neither reading nor writing failed.
pub record IsUndisturbed (input : List ℕ) (old new : Beside) : Type 0 where
  pub told : old.input ≡ Some input
  pub still_told : IsSome new.input
  pub few : length input < most_input
  pub read : ¬ Rose old.in_faults new.in_faults
  pub written : ¬ Rose old.out_faults new.out_faults

-- A run over this input that nothing disturbs ends with its answer or its refusal, and never with one where there is the other, unless memory runs out.
abbrev pub Completes : Meaning → List ℕ → Status → Type 0
Completes m input Done = ((answer : m.Answer) × m.says input answer) × ((refusal : Refusal) → ¬ m.refuses input refusal)
Completes m input Refused = ((refusal : Refusal) × m.refuses input refusal) × ((answer : m.Answer) → ¬ m.says input answer)
Completes m input NoMemory = Unit {0}
Completes m input _ = ⊥

-- What is said of an input holds together: what bytes show stays, whatever comes behind them, and there are answers or there is one refusal.
pub record HoldsTogether (m : Meaning) : Type 0 where
  pub stays : (taken more : List ℕ) (refusal : Refusal) → m.shows taken (Err refusal) → m.refuses (taken ++ more) refusal
  pub one_refusal : (input : List ℕ) (first second : Refusal) → m.refuses input first → m.refuses input second → first ≡ second
  pub one_outcome : (input : List ℕ) (answer : m.Answer) (refusal : Refusal) → m.says input answer → m.refuses input refusal → ⊥

-- an input has one answer, as far as its text goes
abbrev pub HasOneText : Meaning → Type 0
HasOneText m = (input : List ℕ) (first second : m.Answer) → m.says input first → m.says input second → m.text_of first ≡ m.text_of second
