use Rattle.std.proofs.Common.{ℕ, ◌<◌}
use Rattle.nx_wal.specs.Lost.{IsPlaced}
use Rattle.nx_wal.proofs.lost.first_unplaced.Given as goal

abbrev pub invariant-loop-page : goal.invariant-loop-page
invariant-loop-page l = (p : ℕ) → p < l.page → IsPlaced l.places p
