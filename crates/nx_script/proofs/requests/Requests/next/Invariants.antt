use Rattle.std.proofs.Common.{ℕ, ◌+◌, ◌-◌, if◌then◌else◌, List, ◌++◌, Option}
use Rattle.nx_host.specs.Input.{most_input}
use Rattle.nx_host.specs.Phase.{TakesAlone}
use Rattle.nx_script.specs.declared.request.Request.{Request}
use Rattle.nx_script.specs.Requests.{HasGivenRequestsIn}
use Rattle.nx_script.proofs.requests.Requests.next.Given as goal

-- no request was given, and more may have been taken
abbrev pub invariant-loop-request : goal.invariant-loop-request
invariant-loop-request g l =
    let h = g.H.Disk in
    record {
      given : (first : Option (List ℕ)) (taken : List ℕ) (told : List Request) → HasGivenRequestsIn l.initial.self taken told first (h.beside l.initial.host).input →
          (more : List ℕ) × HasGivenRequestsIn l.self (taken ++ more) told first (h.beside l.host).input;
      alone : TakesAlone h l.initial.host l.host;
    }

-- as many bytes as may still come, and the input's end
abbrev pub decreases-loop-request : goal.decreases-loop-request
decreases-loop-request g l = (most_input - ((l.self.script).input).taken) + (if (l.self.script).ended then 0 else 1)
