use Rattle.std.proofs.Common.{◌≡◌, ℕ, ◌-◌, ◌≤◌, Bool, List, false, length, take}
use Rattle.std.specs.List.{list_any}
use Rattle.nx_pyx.proofs.scan.unmarked_len.Given as goal

-- none of so many bytes from the first one on is marked
pub record HasNone (marks : ℕ → Bool) (bytes : List ℕ) (len : ℕ) : Type 0 where
  pub within : len ≤ length bytes
  pub none : list_any marks (take len bytes) ≡ false

abbrev pub invariant-loop-len : goal.invariant-loop-len
invariant-loop-len g l = HasNone g.M.Mark.marks l.bytes l.len

abbrev pub decreases-loop-len : goal.decreases-loop-len
decreases-loop-len g l = length l.bytes - l.len

abbrev pub invariant-loop-len-2 : goal.invariant-loop-len-2
invariant-loop-len-2 g l = HasNone g.M.Mark.marks l.bytes l.len

abbrev pub decreases-loop-len-2 : goal.decreases-loop-len-2
decreases-loop-len-2 g l = length l.bytes - l.len
