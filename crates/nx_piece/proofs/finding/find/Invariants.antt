use Rattle.nx_piece.specs.Viewing.{seen_tree}
use Rattle.nx_piece.proofs.LocateLemmas.{IsOnWay}
use Rattle.nx_piece.proofs.finding.find.Given as goal

abbrev pub invariant-loop-used : goal.invariant-loop-used
invariant-loop-used l = IsOnWay l.piece l.member l.path l.used (seen_tree l.tree) l.first
