use Rattle.std.proofs.Common.{◌≡◌, ◌≤◌, ℕ, ◌-◌, List, length}
use Rattle.nx_host.specs.Input.{block_of}
use Rattle.nx_script.specs.declared.command.Command.{Command}
use Rattle.nx_script.specs.Script.{HasGiven, work_left}
use Rattle.nx_script.proofs.script.Script.ready.Given as goal

-- the same commands were given, and no byte was taken
abbrev pub invariant-loop-self : goal.invariant-loop-self
invariant-loop-self l = record {
  given : (taken : List ℕ) (commands : List Command) → HasGiven l.initial.self taken commands → HasGiven l.self taken commands;
  taken : l.self.input.taken ≡ l.initial.self.input.taken;
  ended : l.self.ended ≡ l.initial.self.ended;
  work : work_left l.self ≤ work_left l.initial.self;
}

abbrev pub decreases-loop-self : goal.decreases-loop-self
decreases-loop-self l = length (block_of l.self.input) - l.self.start
