use Rattle.std.proofs.Common.{◌≡◌, ℕ, List, ◌++◌, length}
use Rattle.nx_pyx.specs.Event.{Event}
use Rattle.nx_pyx.specs.Text.{text_of}
use Rattle.nx_pyx.proofs.writer.Writer.fill.Given as goal

-- what is in the block and what is left are what they were together, and whole lines were added
pub record Fills (block left old_block old_left : List ℕ) : Type 0 where
  pub text : block ++ left ≡ old_block ++ old_left
  pub lines : (es : List Event) × (block ≡ old_block ++ text_of es)

abbrev pub invariant-loop-self : goal.invariant-loop-self
invariant-loop-self l = Fills l.block l.self l.initial.block l.initial.self

abbrev pub decreases-loop-self : goal.decreases-loop-self
decreases-loop-self l = length l.self
