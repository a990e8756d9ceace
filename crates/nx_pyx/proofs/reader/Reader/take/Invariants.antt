use Rattle.std.proofs.Common.{◌≡◌, ℕ, List, ◌++◌, length}
use Rattle.nx_pyx.specs.Reader.{HasRead}
use Rattle.nx_pyx.proofs.reader.Reader.take.Given as goal

-- what of the piece is done has been read
abbrev pub invariant-loop-end : goal.invariant-loop-end
invariant-loop-end l = (done : List ℕ) × (done ++ l.rest ≡ l.piece) × ((s : List ℕ) → HasRead l.initial.self s → HasRead l.self (s ++ done))

abbrev pub decreases-loop-end : goal.decreases-loop-end
decreases-loop-end l = length l.rest
