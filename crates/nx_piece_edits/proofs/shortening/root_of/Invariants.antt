use Rattle.nx_piece_edits.proofs.ShortLemmas.{IsOnRoots}
use Rattle.nx_piece_edits.proofs.shortening.root_of.Given as goal

abbrev pub invariant-loop-place : goal.invariant-loop-place
invariant-loop-place l = IsOnRoots l.roots l.index l.left l.place
