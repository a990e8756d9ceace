-- What each command line is.
use Rattle.std.specs.Prelude.{ℕ, List}
use Rattle.nx_host.specs.declared.disk.Disk.{Ghosts}
use Rattle.nx_host.specs.Disk.{Image, Beside}
use Rattle.nx_filters.specs.declared.status.Status.{Status}
use Rattle.nx_front.specs.declared.words.CommandLine.{CommandLine}
use Rattle.nx_front.specs.declared.words.CommandLine.TheVariants.{Tidy, Run, Plan, Verify, Init, Gen, Check, Find, Ship, Apply, Ask}
use Rattle.nx_filters.specs.Outcome.{Meaning, HasOneText, RunsBeside, HoldsTogether, IsUndisturbed, Completes}
use Rattle.nx_filters.specs.Tidy.{tidy}
use Rattle.nx_front.specs.Serving.{Serves, CompletesServing, ServingHoldsTogether, HasOneScript}
use Rattle.nx_filters.specs.Plan.{plan, HasEqualPlans}
use Rattle.nx_filters.specs.Verify.{verify}
use Rattle.nx_front.specs.Generating.{Generates, CompletesGenerating}
use Rattle.nx_front.specs.Checking.{Checks, CompletesChecking, CheckHoldsTogether, VerdictsAgree}
use Rattle.nx_front.specs.Finding.{Finds, HasOneAnswer}
use Rattle.nx_front.specs.Asking.{Asks, HasOneAskedText}
use Rattle.nx_ship.specs.Stream.{OneStream}
use Rattle.nx_front.specs.Shipping.{ShipsGroups, CompletesShipping, HasOneShipment}
use Rattle.nx_front.specs.Applied.{ReceivesGroups, CompletesApplying, ApplyHoldsTogether}
use Rattle.nx_front.specs.Init.{Initializes, IsUntroubled, CompletesInit, InitHoldsTogether, HoldsNothing}

-- how a command line is carried out
abbrev pub IsCarriedOut : {D : Type 0} → Ghosts D → CommandLine → Status → D → D → Type 0
IsCarriedOut d Tidy status old new = RunsBeside d tidy status old new
IsCarriedOut d Run status old new = Serves d status old new
IsCarriedOut d (Plan k) status old new = RunsBeside d (plan k) status old new
IsCarriedOut d (Verify k) status old new = RunsBeside d (verify k) status old new
IsCarriedOut d (Init settings) status old new = Initializes d settings status old new
IsCarriedOut d (Gen seed n) status old new = Generates d seed n status old new
IsCarriedOut d Check status old new = Checks d status old new
IsCarriedOut d Find status old new = Finds d status old new
IsCarriedOut d (Ship start) status old new = ShipsGroups d start status old new
IsCarriedOut d Apply status old new = ReceivesGroups d status old new
IsCarriedOut d (Ask workers) status old new = Asks d status old new

-- a run over an input that nothing disturbs ends with what that has
abbrev pub CompletesInput : Meaning → Status → Beside → Beside → Type 0
CompletesInput m status old new = (input : List ℕ) → IsUndisturbed input old new → Completes m input status

-- how a command line ends where nothing fails
abbrev pub IsCompleted : {D : Type 0} → Ghosts D → CommandLine → Status → D → D → Type 0
IsCompleted d Tidy status old new = CompletesInput tidy status (d.beside old) (d.beside new)
IsCompleted d Run status old new = CompletesServing d status old new
IsCompleted d (Plan k) status old new = CompletesInput (plan k) status (d.beside old) (d.beside new)
IsCompleted d (Verify k) status old new = CompletesInput (verify k) status (d.beside old) (d.beside new)
IsCompleted d (Init settings) status old new = (was : Image) → IsUntroubled d was old new → CompletesInit was status
IsCompleted d (Gen seed n) status old new = CompletesGenerating d status old new
IsCompleted d Check status old new = CompletesChecking d status old new
IsCompleted d Find status old new = CompletesServing d status old new
IsCompleted d (Ship start) status old new = CompletesShipping d start status old new
IsCompleted d Apply status old new = CompletesApplying d status old new
IsCompleted d (Ask workers) status old new = CompletesServing d status old new

-- what is said of an input, or of a disk, holds together
abbrev pub IsCoherent : CommandLine → Type 0
IsCoherent Tidy = HoldsTogether tidy
IsCoherent Run = ServingHoldsTogether
IsCoherent (Plan k) = HoldsTogether (plan k)
IsCoherent (Verify k) = HoldsTogether (verify k)
IsCoherent (Init settings) = InitHoldsTogether settings
IsCoherent (Gen seed n) = ServingHoldsTogether
IsCoherent Check = CheckHoldsTogether
IsCoherent Find = ServingHoldsTogether
IsCoherent (Ship start) = ServingHoldsTogether
IsCoherent Apply = ApplyHoldsTogether
IsCoherent (Ask workers) = ServingHoldsTogether

-- how the answers of an input go together: they have one text, but those of `plan` are only as good as each other; those of `run` are of one list of requests; a new store holds one thing;
-- pages have one verdict; lines, and questions, have one text of replies, from a state; an image has one text of what is shipped, and a stream one row of groups; and of `gen` nothing is said, which takes no
-- input
abbrev pub AnswersAgree : CommandLine → Type 0
AnswersAgree Tidy = HasOneText tidy
AnswersAgree Run = HasOneScript
AnswersAgree (Plan k) = HasEqualPlans k
AnswersAgree (Verify k) = HasOneText (verify k)
AnswersAgree (Init settings) = HoldsNothing settings
AnswersAgree (Gen seed n) = Unit {0}
AnswersAgree Check = VerdictsAgree
AnswersAgree Find = HasOneAnswer
AnswersAgree (Ship start) = HasOneShipment start
AnswersAgree Apply = OneStream
AnswersAgree (Ask workers) = HasOneAskedText
