-- Turns over a store: requests from anywhere, each answered in the state that the one before it left.
use Rattle.std.specs.Prelude.{◌≡◌, List, [], ◌∷◌, ◌++◌, map, Some}
use Rattle.nx_host.specs.Disk.{Image}
use Rattle.nx_script.specs.declared.request.Request.{Request}
use Rattle.nx_script.specs.declared.request.Answer.{Answer}
use Rattle.nx_state.specs.State.{State}
use Rattle.nx_state.specs.Stands.{Recovers}
use Rattle.nx_steps.specs.Requests.{RequestStep}

-- A request, its reply, and the state after it: a command that stands alone, or a transaction, which is one turn.
pub record Turn : Type 0 where
  pub request : Request
  pub reply : Answer
  pub next : State

-- Each turn is a step: the first one from this state on, each other from the state after the one before it.
abbrev pub IsRun : State → List Turn → Type 0
IsRun state [] = Unit {0}
IsRun state (turn ∷ turns) = RequestStep state turn.request turn.reply turn.next × IsRun turn.next turns

-- the state after all turns
abbrev pub state_after : State → List Turn → State
state_after state [] = state
state_after state (turn ∷ turns) = state_after turn.next turns

abbrev pub requests_of : List Turn → List Request
requests_of turns = map (λ turn. turn.request) turns

abbrev pub replies_of : List Turn → List Answer
replies_of turns = map (λ turn. turn.reply) turns

-- The image is of the state after some first ones of these turns.
abbrev pub IsAfterSome : State → List Turn → Image → Type 0
IsAfterSome state turns image = (done : List Turn) × (rest : List Turn) × (done ++ rest ≡ turns) × Recovers image (Some (state_after state done))
