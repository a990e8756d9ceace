-- What requests do to a store, and what they are answered.
use Rattle.std.specs.Prelude.{◌≡◌, ℕ, ◌+◌, Bool, true, false, List, [], ◌∷◌, ◌++◌, length}
use Rattle.std.specs.Bool.{MatchBool}
use Rattle.nx_script.specs.declared.command.Command.{Command}
use Rattle.nx_script.specs.declared.reply.Reply.{Reply}
use Rattle.nx_script.specs.declared.reply.Reply.TheVariants.{Refused}
use Rattle.nx_script.specs.declared.reply.ReplyError.{ReplyError}
use Rattle.nx_script.specs.declared.reply.ReplyError.TheVariants.{Syntax}
use Rattle.nx_script.specs.declared.request.Request.{Request}
use Rattle.nx_script.specs.declared.request.Request.TheVariants.{Single, Transaction}
use Rattle.nx_script.specs.declared.request.Answer.{Answer}
use Rattle.nx_script.specs.declared.request.Answer.TheVariants.{One, All, RefusedAt}
use Rattle.nx_state.specs.State.{State}
use Rattle.nx_steps.specs.Answers.{Refuses}
use Rattle.nx_steps.specs.Step.{may_change, Step}

-- the reply says that the command was refused
abbrev pub is_refused : Reply → Bool
is_refused (Refused error) = true
is_refused _ = false

-- A command of a transaction: one that may change what is stored steps as it does, and any other is refused as no command.
abbrev pub PartStep : State → Command → Reply → State → Type 0
PartStep state command r next = MatchBool (may_change command) (Step state command r next) (Refuses state Syntax r next)

-- These commands are answered so, each in the state that those before it left, and none is refused. They leave the last state.
abbrev pub GoThrough : State → List Command → List Reply → State → Type 0
GoThrough state [] [] last = last ≡ state
GoThrough state (command ∷ commands) (r ∷ replies) last =
    (next : State) × PartStep state command r next × (is_refused r ≡ false) × GoThrough next commands replies last
GoThrough state commands replies last = ⊥

-- The command of this number, counted from 1, is the first that is refused, in the state that those before it left.
pub record IsRefusedAt (state : State) (commands : List Command) (number : ℕ) (error : ReplyError) : Type 0 where
  pub before : List Command
  pub command : Command
  pub after : List Command
  pub replies : List Reply
  pub reached : State
  pub commands_are : commands ≡ before ++ command ∷ after
  pub number_is : number ≡ length before + 1
  pub through : GoThrough state before replies reached
  pub refused : PartStep reached command (Refused error) reached

-- A request is answered so in a state, and leaves the next. A transaction is carried out whole, or leaves the state.
abbrev pub RequestStep : State → Request → Answer → State → Type 0
RequestStep state (Single command) (One r) next = Step state command r next
RequestStep state (Transaction commands) (All replies) next = GoThrough state commands replies next
RequestStep state (Transaction commands) (RefusedAt number error) next = IsRefusedAt state commands number error × (next ≡ state)
RequestStep state request answer next = ⊥

-- The requests are answered so, one after the other, from the state on, and leave the last state.
abbrev pub RequestsRunTo : State → List Request → List Answer → State → Type 0
RequestsRunTo state [] [] last = last ≡ state
RequestsRunTo state (request ∷ requests) (answer ∷ answers) last = (next : State) × RequestStep state request answer next × RequestsRunTo next requests answers last
RequestsRunTo state requests answers last = ⊥

-- the request may change what is stored
abbrev pub may_change_request : Request → Bool
may_change_request (Single command) = may_change command
may_change_request (Transaction []) = false
may_change_request (Transaction (command ∷ commands)) = true
