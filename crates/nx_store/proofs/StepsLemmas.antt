-- Steps by what is refused.
use Rattle.std.proofs.Common.{◌≡◌, ◌⊎◌, None, Some, refl, sym, subst, inl, inr}
use Rattle.std.specs.Prelude.{MatchOption}
use Rattle.nx_script.specs.declared.command.Command.{Command}
use Rattle.nx_script.specs.declared.reply.Reply.TheVariants as reply
use Rattle.nx_script.specs.declared.reply.ReplyError.{ReplyError}
use Rattle.nx_script.specs.declared.reply.ReplyError.TheVariants.{Full}
use Rattle.nx_state.specs.State.{State}
use Rattle.nx_steps.specs.Answers.{Refuses}
use Rattle.nx_steps.specs.Refusal.{refusal}
use Rattle.nx_steps.specs.Step.{Effect, FindsNoRoom, Step}

pub refused_step : (state : State) (command : Command) (error : ReplyError) → refusal state command ≡ Some error → Step state command (reply.Refused error) state
refused_step state command error is =
    subst (λ o. MatchOption o (Effect state command (reply.Refused error) state ⊎ FindsNoRoom state command (reply.Refused error) state) (λ e. Refuses state e (reply.Refused error) state)) (sym is) (refl, refl)

pub done_step : (state : State) (command : Command) (next : State) → refusal state command ≡ None → Effect state command reply.Done next → Step state command reply.Done next
done_step state command next none effect =
    subst (λ o. MatchOption o (Effect state command reply.Done next ⊎ FindsNoRoom state command reply.Done next) (λ e. Refuses state e reply.Done next)) (sym none) (inl effect)

pub full_step : (state : State) (command : Command) → refusal state command ≡ None → FindsNoRoom state command (reply.Refused Full) state → Step state command (reply.Refused Full) state
full_step state command none full =
    subst (λ o. MatchOption o (Effect state command (reply.Refused Full) state ⊎ FindsNoRoom state command (reply.Refused Full) state) (λ e. Refuses state e (reply.Refused Full) state)) (sym none) (inr full)
