use Rattle.std.proofs.Common.{◌≤◌, length}
use Rattle.nx_ship.specs.Receiving.{LeavesInput}
use Rattle.nx_ship.proofs.PieceLemmas.{ReceivesSoFar}
use Rattle.nx_ship.proofs.receiver.Receiver.take.Given as goal

-- the first bytes were taken, at least one by each step
abbrev pub invariant-loop-count : goal.invariant-loop-count
invariant-loop-count g l = record {
  within : l.at ≤ length l.piece;
  leaves : LeavesInput g.H.Disk l.initial.host l.host;
  so_far : ReceivesSoFar g.H.Disk l.piece l.count l.at l.initial.self l.self l.initial.host l.host;
}
