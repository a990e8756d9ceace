use Rattle.std.proofs.Common.{◌≡◌, ℕ, List, ◌++◌, length}
use Rattle.nx_pyx.specs.Text.{escaped}
use Rattle.nx_pyx.proofs.writer.push_escaped.Given as goal

-- what is written and what is left are the whole content
pub record Writes (block before : List ℕ) (rest content : List ℕ) : Type 0 where
  pub text : block ++ escaped rest ≡ before ++ escaped content
  pub prefix : (bytes : List ℕ) × (block ≡ before ++ bytes)

abbrev pub invariant-loop-first : goal.invariant-loop-first
invariant-loop-first l = Writes l.block l.initial.block l.rest l.initial.rest

abbrev pub decreases-loop-first : goal.decreases-loop-first
decreases-loop-first l = length l.rest
