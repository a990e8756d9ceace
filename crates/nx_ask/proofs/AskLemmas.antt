-- What questions are.
use Rattle.std.proofs.Common.{◌≡◌, true, false, Bool, refl, sym, subst}
use Rattle.std.specs.Bool.{MatchBool}
use Rattle.nx_script.specs.declared.command.Command.{Command}
use Rattle.nx_script.specs.declared.command.Command.TheVariants.{Load, Discard, Rename, Names, Export, Insert, Delete, Retext, Get, Layout, SetRule, Rules, Checkpoint, Begin, Commit, Bad}
use Rattle.nx_script.specs.declared.reply.Reply.{Reply}
use Rattle.nx_script.specs.declared.reply.Reply.TheVariants.{Refused}
use Rattle.nx_script.specs.declared.reply.ReplyError.TheVariants.{Syntax}
use Rattle.nx_state.specs.State.{State}
use Rattle.nx_steps.specs.Step.{may_change, Step}
use Rattle.nx_steps.proofs.RunLemmas.{others_stay}
use Rattle.nx_ask.specs.Asked.{is_question, Asked}

-- a question changes nothing
question_keeps : (command : Command) → is_question command ≡ true → may_change command ≡ false
question_keeps Names is = refl
question_keeps (Export name) is = refl
question_keeps (Get name path) is = refl
question_keeps (Layout name) is = refl
question_keeps Rules is = refl
question_keeps Bad is = refl
question_keeps (Load name body) is = cc
question_keeps (Discard name) is = cc
question_keeps (Rename old new) is = cc
question_keeps (Insert name path said) is = cc
question_keeps (Delete name path) is = cc
question_keeps (Retext name path said) is = cc
question_keeps (SetRule rule) is = cc
question_keeps Checkpoint is = refl
question_keeps (Begin bare) is = refl
question_keeps Commit is = refl

-- so the state behind it is the one before it
pub state_stays : (state next : State) (command : Command) (r : Reply) → is_question command ≡ true → Step state command r next → next ≡ state
state_stays state next command r is step = others_stay state command r next (question_keeps command is) step

-- and it is answered as a store at the state answers it
pub asked_by_step : (state next : State) (command : Command) (r : Reply) → is_question command ≡ true → Step state command r next → Asked state command r
asked_by_step state next command r is step =
    let here = subst (λ (s : State). Step state command r s) (state_stays state next command r is step) step in
    subst (λ (b : Bool). MatchBool b (Step state command r state) (r ≡ Refused Syntax)) (sym is) here
