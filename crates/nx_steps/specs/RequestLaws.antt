-- The laws of requests.
use Rattle.std.specs.Prelude.{◌≡◌, ◌≢◌, false, if◌then◌else◌, List, [], ◌∷◌, ◌++◌}
use Rattle.std.specs.Prelude as prelude
use Rattle.nx_script.specs.declared.command.Command.{Command}
use Rattle.nx_script.specs.declared.reply.Reply.{Reply}
use Rattle.nx_script.specs.declared.reply.Reply.TheVariants.{Refused}
use Rattle.nx_script.specs.declared.reply.ReplyError.TheVariants.{Full}
use Rattle.nx_script.specs.declared.request.Request.{Request}
use Rattle.nx_script.specs.declared.request.Request.TheVariants.{Single, Transaction}
use Rattle.nx_script.specs.declared.request.Answer.{Answer}
use Rattle.nx_script.specs.declared.request.Answer.TheVariants.{One, All, RefusedAt}
use Rattle.nx_script.specs.Requests.{CanComeRequest}
use Rattle.nx_engine.specs.Step.{after_all}
use Rattle.nx_state.specs.State.{State}
use Rattle.nx_steps.specs.Step.{trees}
use Rattle.nx_steps.specs.Requests.{GoThrough, RequestStep, RequestsRunTo, may_change_request}
use Rattle.nx_steps.specs.Sound.{AreFeasible, IsSound}
use Rattle.nx_steps.specs.Plain.{is_limit}
use Rattle.nx_steps.specs.PlainAnswers.{IsPlainRequest, IsAnsweredPlainly, is_limit_answer}
use Rattle.nx_steps.specs.Laws.{ArePartitioned}

-- Each step of a request that a script can give leaves a sound state sound.
abbrev pub RequestsKeepSound : Type 0
RequestsKeepSound = (state : State) (request : Request) (answer : Answer) (next : State) → CanComeRequest request → IsSound state → RequestStep state request answer next → IsSound next

-- ... and so does a run.
abbrev pub RequestRunsKeepSound : Type 0
RequestRunsKeepSound =
    (state : State) (requests : List Request) (answers : List Answer) (last : State) → prelude.All CanComeRequest requests → IsSound state → RequestsRunTo state requests answers last → IsSound last

-- Behind each step each document is cut into parts that aren't too heavy, where it was so before.
abbrev pub RequestsStayFeasible : Type 0
RequestsStayFeasible = (state : State) (request : Request) (answer : Answer) (next : State) → AreFeasible state → RequestStep state request answer next → AreFeasible next

-- Behind each step the documents are feasibly partitioned.
abbrev pub RequestsStayPartitioned : Type 0
RequestsStayPartitioned = (state : State) (request : Request) (answer : Answer) (next : State) → AreFeasible state → RequestStep state request answer next → ArePartitioned next

-- A request that may not change what is stored leaves the state.
abbrev pub RequestsStay : Type 0
RequestsStay = (state : State) (request : Request) (answer : Answer) (next : State) → may_change_request request ≡ false → RequestStep state request answer next → next ≡ state

-- The trees behind a transaction that is carried out are those of its commands over trees in memory.
abbrev pub TransactionsEditTrees : Type 0
TransactionsEditTrees = (state : State) (commands : List Command) (replies : List Reply) (last : State) → AreFeasible state → GoThrough state commands replies last → trees last ≡ after_all (trees state) commands

-- the commands of requests that weren't refused for weight or for want of room, without those of a transaction that was refused
abbrev pub carried_out : List Request → List Answer → List Command
carried_out (Single command ∷ requests) (One r ∷ answers) = if is_limit r then carried_out requests answers else command ∷ carried_out requests answers
carried_out (Transaction commands ∷ requests) (All replies ∷ answers) = commands ++ carried_out requests answers
carried_out (request ∷ requests) (answer ∷ answers) = carried_out requests answers
carried_out requests answers = []

-- The trees behind a run are those of these commands over trees in memory.
abbrev pub RequestRunsEditTrees : Type 0
RequestRunsEditTrees =
    (state : State) (requests : List Request) (answers : List Answer) (last : State) → AreFeasible state → RequestsRunTo state requests answers last
    → trees last ≡ after_all (trees state) (carried_out requests answers)

-- nothing was refused for want of room
abbrev pub FoundRoom : Answer → Type 0
FoundRoom (One r) = r ≢ Refused Full
FoundRoom (All replies) = Unit {0}
FoundRoom (RefusedAt number error) = error ≢ Full

-- What is the same behind two steps of a request: the answer, the trees and the rules.
pub record AreAnsweredAlike (answer other_answer : Answer) (next other : State) : Type 0 where
  pub answer_is : answer ≡ other_answer
  pub trees_are : trees next ≡ trees other
  pub rules_are : next.rules ≡ other.rules

-- Two steps of one request in one state leave the same but for intervals, where none was refused for want of room.
abbrev pub RequestsAgree : Type 0
RequestsAgree =
    (state : State) (request : Request) (answer other_answer : Answer) (next other : State) → AreFeasible state → RequestStep state request answer next
    → RequestStep state request other_answer other → FoundRoom answer → FoundRoom other_answer → AreAnsweredAlike answer other_answer next other

-- A request that trees in memory carry out, and that isn't refused for weight or for want of room, is answered as by these: a transaction by the same replies, or
-- refused at the same number and by the same word.
abbrev pub RequestsReplyPlainly : Type 0
RequestsReplyPlainly =
    (state : State) (request : Request) (answer : Answer) (next : State) → AreFeasible state → IsPlainRequest request
    → is_limit_answer answer ≡ false → RequestStep state request answer next → IsAnsweredPlainly (trees state) request answer
