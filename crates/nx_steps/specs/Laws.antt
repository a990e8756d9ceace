-- The laws of steps.
use Rattle.std.specs.Prelude.{◌+◌, ◌≡◌, ◌≢◌, ℕ, true, false, List, map, None, Some, All}
use Rattle.std.specs.List.{sum}
use Rattle.std.specs.Bool.{MatchBool}
use Rattle.std.specs.FinMap.{get, values}
use Rattle.nx_tree.specs.Forest.{OrderedTree}
use Rattle.nx_tree.specs.Edit.{put, cut_at, retext}
use Rattle.nx_parts.specs.Partitioning.{IsFeasible}
use Rattle.nx_cuts.specs.Cut.{CutTree, tree_of, parts_of}
use Rattle.nx_records.specs.Words.{Held}
use Rattle.nx_state.specs.Stands.{HoldsState}
use Rattle.nx_script.specs.declared.command.LoadBody.TheVariants as load
use Rattle.nx_script.specs.declared.command.LineBody.TheVariants as line
use Rattle.nx_script.specs.declared.command.TextBody.TheVariants as content
use Rattle.nx_script.specs.declared.command.Command.{Command}
use Rattle.nx_script.specs.declared.command.Command.TheVariants.{Load, Rename, Insert, Delete, Retext, SetRule}
use Rattle.nx_script.specs.declared.reply.Reply.{Reply}
use Rattle.nx_script.specs.declared.reply.Reply.TheVariants.{Refused}
use Rattle.nx_script.specs.declared.reply.ReplyError.TheVariants.{Full}
use Rattle.nx_script.specs.Commands.{CanCome}
use Rattle.nx_engine.specs.Step.{after_all, replies as replies_to}
use Rattle.nx_state.specs.State.{State}
use Rattle.nx_steps.specs.Refusal.{refusal}
use Rattle.nx_steps.specs.Step.{trees, sum_after, Effect, may_change, Step, RunsTo}
use Rattle.nx_steps.specs.Sound.{OfEachDocument, AreFeasible, IsSound}
use Rattle.nx_steps.specs.Plain.{is_plain, is_limit, IsPlainStep, taken, plain_replies}

-- Each state that pages stand for is sound.
abbrev pub StoredIsSound : Type 0
StoredIsSound = (held : Held) (state : State) → HoldsState held state → IsSound state

-- Each step of a command that a script can give leaves a sound state sound.
abbrev pub StepsKeepSound : Type 0
StepsKeepSound = (state : State) (command : Command) (r : Reply) (next : State) → CanCome command → IsSound state → Step state command r next → IsSound next

-- ... and so does a run.
abbrev pub RunsKeepSound : Type 0
RunsKeepSound = (state : State) (commands : List Command) (rs : List Reply) (last : State) → All CanCome commands → IsSound state → RunsTo state commands rs last → IsSound last

-- A step that is refused for weight or for want of room changes nothing. Each other one is that of the same command over trees in memory, but for the number of intervals.
abbrev pub StepsArePlain : Type 0
StepsArePlain =
    (state : State) (command : Command) (r : Reply) (next : State) → AreFeasible state → Step state command r next → MatchBool (is_limit r) (next ≡ state) (IsPlainStep (trees state) command r next)

-- The trees behind a run are those of its commands over trees in memory, those aside that were refused for weight or for want of room.
abbrev pub RunsEditTrees : Type 0
RunsEditTrees =
    (state : State) (commands : List Command) (rs : List Reply) (last : State) → AreFeasible state → RunsTo state commands rs last → trees last ≡ after_all (trees state) (taken commands rs)

-- ... and so are its replies, where trees in memory carry all of its commands out.
abbrev pub RunsReplyPlainly : Type 0
RunsReplyPlainly =
    (state : State) (commands : List Command) (rs : List Reply) (last : State) → AreFeasible state → All (λ command. is_plain command ≡ true) commands → RunsTo state commands rs last
    → plain_replies rs ≡ replies_to (trees state) (taken commands rs)

-- What is the same behind two steps: the reply, the trees and the rules.
pub record AreAlike (r other_r : Reply) (next other : State) : Type 0 where
  pub reply_is : r ≡ other_r
  pub trees_are : trees next ≡ trees other
  pub rules_are : next.rules ≡ other.rules

-- Two steps of one command in one state leave the same but for intervals, where none was refused for want of room.
abbrev pub StepsAgree : Type 0
StepsAgree =
    (state : State) (command : Command) (r other_r : Reply) (next other : State) → AreFeasible state → Step state command r next → Step state command other_r other
    → r ≢ Refused Full → other_r ≢ Refused Full → AreAlike r other_r next other

-- A command that may not change what is stored leaves the state.
abbrev pub StateStays : Type 0
StateStays = (state : State) (command : Command) (r : Reply) (next : State) → may_change command ≡ false → Step state command r next → next ≡ state

-- a sum over the documents of a state
abbrev pub sum_of : (OrderedTree → ℕ) → State → ℕ
sum_of count state = sum (map (λ document. count (tree_of document)) (values state.documents))

-- A command that has its effect leaves as many nodes and pages as the bound of room counts, and as much of whatever is counted in each tree.
abbrev pub EffectsLeaveSums : Type 0
EffectsLeaveSums = (count : OrderedTree → ℕ) (state : State) (command : Command) (r : Reply) (next : State) → AreFeasible state → refusal state command ≡ None → Effect state command r next
    → sum_of count next ≡ sum_after count state command

-- the document of that name counts with its changed tree in place of the one that it has
abbrev pub CountsChanged : (OrderedTree → ℕ) → State → Command → List ℕ → (OrderedTree → OrderedTree) → Type 0
CountsChanged count state command name change =
    (old : CutTree) → get state.documents name ≡ Some old → sum_after count state command + count (tree_of old) ≡ sum_of count state + count (change (tree_of old))

-- what the bound of room counts behind a command that may need room
abbrev pub IsCounted : (OrderedTree → ℕ) → State → Command → Type 0
IsCounted count state (Load name (load.Read tree)) = sum_after count state (Load name (load.Read tree)) ≡ sum_of count state + count tree
IsCounted count state (Rename old new) = sum_after count state (Rename old new) ≡ sum_of count state
IsCounted count state (Insert name path (line.Read node)) = CountsChanged count state (Insert name path (line.Read node)) name (put node path)
IsCounted count state (Delete name path) = CountsChanged count state (Delete name path) name (cut_at path)
IsCounted count state (Retext name path (content.Read bytes)) = CountsChanged count state (Retext name path (content.Read bytes)) name (retext bytes path)
IsCounted count state (SetRule rule) = sum_after count state (SetRule rule) ≡ sum_of count state
IsCounted count state _ = Unit {0}

-- The bound of room counts what the command adds, and what it takes away.
abbrev pub RoomIsCounted : Type 0
RoomIsCounted = (count : OrderedTree → ℕ) (state : State) (command : Command) → refusal state command ≡ None → IsCounted count state command

-- Behind each step each document is cut into parts that aren't too heavy, where it was so before.
abbrev pub StepsStayFeasible : Type 0
StepsStayFeasible = (state : State) (command : Command) (r : Reply) (next : State) → AreFeasible state → Step state command r next → AreFeasible next

-- the intervals of each document are a feasible partitioning of its tree
abbrev pub ArePartitioned : State → Type 0
ArePartitioned state = OfEachDocument (λ name document. IsFeasible (state.settings).k (tree_of document) (parts_of document)) state

-- Behind each step the documents are feasibly partitioned.
abbrev pub StepsStayPartitioned : Type 0
StepsStayPartitioned = (state : State) (command : Command) (r : Reply) (next : State) → AreFeasible state → Step state command r next → ArePartitioned next
