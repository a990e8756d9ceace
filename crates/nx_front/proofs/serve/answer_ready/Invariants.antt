use Rattle.std.proofs.Common.{◌≡◌, ℕ, List}
use Rattle.nx_script.specs.declared.request.Request.{Request}
use Rattle.nx_script.specs.Requests.{HasGivenRequests, requests_left}
use Rattle.nx_front.specs.Conversation.{AnswersMore}
use Rattle.nx_front.proofs.serve.answer_ready.Given as goal

-- the requests so far are answered
abbrev pub invariant-loop-request : goal.invariant-loop-request
invariant-loop-request g l =
    record {
      answered : AnswersMore g.H.Disk l.initial.script l.script l.initial.store l.store l.initial.block l.block l.initial.host l.host;
      given : (taken : List ℕ) × (requests : List Request) × HasGivenRequests l.script taken requests;
      taken : ((l.script.script).input).taken ≡ ((l.initial.script.script).input).taken;
      ended : (l.script.script).ended ≡ (l.initial.script.script).ended;
    }

abbrev pub decreases-loop-request : goal.decreases-loop-request
decreases-loop-request g l = requests_left l.script
