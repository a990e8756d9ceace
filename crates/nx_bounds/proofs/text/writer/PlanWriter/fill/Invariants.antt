use Rattle.std.proofs.Common.{◌≡◌, ℕ, List, ◌++◌, length}
use Rattle.nx_bounds.specs.PlanWriter.{HasMoreBytes}
use Rattle.nx_bounds.proofs.text.writer.PlanWriter.fill.Given as goal

-- what is in the block and what is left are what they were together
pub record Fills (block left old_block old_left : List ℕ) : Type 0 where
  pub text : block ++ left ≡ old_block ++ old_left
  pub begun : HasMoreBytes old_block block

abbrev pub invariant-loop-self : goal.invariant-loop-self
invariant-loop-self l = Fills l.block l.self l.initial.block l.initial.self

abbrev pub decreases-loop-self : goal.decreases-loop-self
decreases-loop-self l = length l.self
