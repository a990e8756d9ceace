use Rattle.std.proofs.Common.{ℕ, ◌+◌, ◌-◌, if◌then◌else◌, List, ◌++◌, Option}
use Rattle.nx_host.specs.Input.{most_input}
use Rattle.nx_host.specs.Phase.{TakesAlone}
use Rattle.nx_script.specs.declared.command.Command.{Command}
use Rattle.nx_script.specs.Script.{HasGivenIn}
use Rattle.nx_script.proofs.script.Script.next.Given as goal

-- no command was given, and more may have been taken
abbrev pub invariant-loop-command : goal.invariant-loop-command
invariant-loop-command g l =
    let h = g.H.Disk in
    record {
      given : (first : Option (List ℕ)) (taken : List ℕ) (commands : List Command) → HasGivenIn l.initial.self taken commands first (h.beside l.initial.host).input →
          (more : List ℕ) × HasGivenIn l.self (taken ++ more) commands first (h.beside l.host).input;
      alone : TakesAlone h l.initial.host l.host;
    }

-- as many bytes as may still come, and the input's end
abbrev pub decreases-loop-command : goal.decreases-loop-command
decreases-loop-command g l = (most_input - l.self.input.taken) + (if l.self.ended then 0 else 1)
