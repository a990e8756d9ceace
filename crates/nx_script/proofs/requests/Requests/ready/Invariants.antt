use Rattle.std.proofs.Common.{◌≡◌, ◌≤◌, ℕ, List}
use Rattle.nx_script.specs.declared.request.Request.{Request}
use Rattle.nx_script.specs.Script.{work_left}
use Rattle.nx_script.specs.Requests.{HasGivenRequests, requests_left}
use Rattle.nx_script.proofs.requests.Requests.ready.Given as goal

-- the same requests were given, and no byte was taken
abbrev pub invariant-loop-command : goal.invariant-loop-command
invariant-loop-command l = record {
  given : (taken : List ℕ) (told : List Request) → HasGivenRequests l.initial.self taken told → HasGivenRequests l.self taken told;
  taken : ((l.self.script).input).taken ≡ ((l.initial.self.script).input).taken;
  ended : (l.self.script).ended ≡ (l.initial.self.script).ended;
  left : requests_left l.self ≤ requests_left l.initial.self;
}

abbrev pub decreases-loop-command : goal.decreases-loop-command
decreases-loop-command l = work_left l.self.script
