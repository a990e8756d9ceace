use Rattle.nx_piece.specs.declared.piece.Piece.{Piece}
use Rattle.nx_seek.specs.Written.{IsWrittenAs}
use Rattle.nx_seek.proofs.WayLemmas.{IsAtSpot}
use Rattle.nx_seek.proofs.seeking.seek.Given as goal

abbrev pub invariant-loop-used : goal.invariant-loop-used
invariant-loop-used l = (piece : Piece) → IsWrittenAs piece l.fn.nodes l.fn.list → IsAtSpot piece l.fn.member l.fn.path l.used l.spot l.proxies
