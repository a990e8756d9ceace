use Rattle.std.proofs.Common.{◌≡◌, ℕ, ◌-◌, List, length}
use Rattle.nx_host.specs.Input.{block_of}
use Rattle.nx_script.specs.declared.whole.Line.{Line}
use Rattle.nx_script.specs.Whole.{HasCut}
use Rattle.nx_script.proofs.script.Script.ready_line.Given as goal

-- the same lines were given, and no byte was taken
abbrev pub invariant-loop-self : goal.invariant-loop-self
invariant-loop-self l = record {
  given : (taken : List ℕ) (lines : List Line) → HasCut l.initial.self taken lines → HasCut l.self taken lines;
  taken : l.self.input.taken ≡ l.initial.self.input.taken;
  ended : l.self.ended ≡ l.initial.self.ended;
}

abbrev pub decreases-loop-self : goal.decreases-loop-self
decreases-loop-self l = length (block_of l.self.input) - l.self.start
