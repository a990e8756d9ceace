-- What questions are answered, and why they aren't.
use Rattle.std.specs.Prelude.{◌≡◌, Bool, true, false, List, length, Some}
use Rattle.std.specs.Bool.{MatchBool}
use Rattle.std.specs.List.{AllZip}
use Rattle.nx_script.specs.declared.command.Command.{Command}
use Rattle.nx_script.specs.declared.command.Command.TheVariants.{Names, Export, Get, Layout, Rules, Bad}
use Rattle.nx_script.specs.declared.reply.Reply.{Reply}
use Rattle.nx_script.specs.declared.reply.Reply.TheVariants.{Refused}
use Rattle.nx_script.specs.declared.reply.ReplyError.TheVariants.{Syntax}
use Rattle.nx_state.specs.State.{State}
use Rattle.nx_state.specs.Stands.{Recovers}
use Rattle.nx_steps.specs.Step.{Step}
use Rattle.nx_ask.specs.declared.error.AskError.{AskError}
use Rattle.nx_ask.specs.declared.error.AskError.TheVariants as error
use Rattle.nx_ask.specs.declared.snapshot.Snapshot.{Snapshot}
use Rattle.nx_ask.specs.Snapshot.{snapshot_image}

-- the command asks what is stored, or is a line that is no command
abbrev pub is_question : Command → Bool
is_question Names = true
is_question (Export name) = true
is_question (Get name path) = true
is_question (Layout name) = true
is_question Rules = true
is_question Bad = true
is_question _ = false

-- A command is answered so where it is a question to this state: as a store at the state answers it. Any other is answered as a line that is no command.
abbrev pub Asked : State → Command → Reply → Type 0
Asked state command r = MatchBool (is_question command) (Step state command r state) (r ≡ Refused Syntax)

-- the snapshot is that of a store in this state
abbrev pub IsSnapshotOf : Snapshot → State → Type 0
IsSnapshotOf snapshot state = Recovers (snapshot_image snapshot) (Some state)

-- Questions are answered so, in their order: each by one reply, and to the state that `Is` says by that of a store at it.
abbrev pub AreAsked : (Is : State → Type 0) → List Command → List Reply → Type 0
AreAsked Is questions replies = (length replies ≡ length questions) × ((state : State) → Is state → AllZip (Asked state) questions replies)

-- Why a question to the state that `Is` says isn't answered: there is no such state, or no memory.
abbrev pub NotAsked : (Is : State → Type 0) → AskError → Type 0
NotAsked Is (error.Damaged page) = (state : State) → Is state → ⊥
NotAsked Is error.Memory = Unit {0}
NotAsked Is error.NotAStore = ⊥
NotAsked Is error.Disk = ⊥
