use Rattle.nx_piece.proofs.LocateLemmas.{IsPassed}
use Rattle.nx_piece.proofs.finding.member_at.Given as goal

abbrev pub invariant-loop-offset : goal.invariant-loop-offset
invariant-loop-offset l = IsPassed l.first l.position l.proxies l.offset l.left
