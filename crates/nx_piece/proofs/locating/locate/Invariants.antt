use Rattle.nx_piece.proofs.LocateLemmas.{IsOnWay}
use Rattle.nx_piece.proofs.locating.locate.Given as goal

abbrev pub invariant-loop-used : goal.invariant-loop-used
invariant-loop-used l = IsOnWay l.piece l.member l.path l.used l.tree l.first
