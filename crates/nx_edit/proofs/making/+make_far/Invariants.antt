use Rattle.nx_piece.specs.Gapped.{gapped_size}
use Rattle.nx_edit.proofs.making.+make_far.Given as goal

abbrev pub decreases-make_far : goal.decreases-make_far
decreases-make_far g l = gapped_size l.piece.body.roots
