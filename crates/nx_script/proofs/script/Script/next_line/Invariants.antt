use Rattle.std.proofs.Common.{ℕ, ◌+◌, ◌-◌, if◌then◌else◌, List, ◌++◌, Option}
use Rattle.nx_host.specs.Input.{most_input}
use Rattle.nx_host.specs.Phase.{TakesAlone}
use Rattle.nx_script.specs.declared.whole.Line.{Line}
use Rattle.nx_script.specs.Whole.{HasCutIn}
use Rattle.nx_script.proofs.script.Script.next_line.Given as goal

-- no line was given, and more may have been taken
abbrev pub invariant-loop-line : goal.invariant-loop-line
invariant-loop-line g l =
    let h = g.H.Disk in
    record {
      given : (first : Option (List ℕ)) (taken : List ℕ) (lines : List Line) → HasCutIn l.initial.self taken lines first (h.beside l.initial.host).input →
          (more : List ℕ) × HasCutIn l.self (taken ++ more) lines first (h.beside l.host).input;
      alone : TakesAlone h l.initial.host l.host;
    }

-- as many bytes as may still come, and the input's end
abbrev pub decreases-loop-line : goal.decreases-loop-line
decreases-loop-line g l = (most_input - l.self.input.taken) + (if l.self.ended then 0 else 1)
