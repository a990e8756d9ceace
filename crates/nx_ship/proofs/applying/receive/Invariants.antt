use Rattle.nx_ship.proofs.PieceLemmas.{ReceivesInput}
use Rattle.nx_ship.proofs.applying.receive.Given as goal

-- of what was taken the groups were received
abbrev pub invariant-loop-count : goal.invariant-loop-count
invariant-loop-count g l = ReceivesInput g.H.Disk l.input l.initial.receiver l.receiver l.initial.host l.host
