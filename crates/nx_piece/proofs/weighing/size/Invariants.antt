use Rattle.std.proofs.Common.{◌≡◌, ◌+◌, drop}
use Rattle.nx_piece.specs.Gapped.{gapped_size, grown_of}
use Rattle.nx_piece.proofs.weighing.size.Given as goal

abbrev pub invariant-loop-root : goal.invariant-loop-root
invariant-loop-root l =
    l.sum + gapped_size (grown_of (drop l.root-index l.root-items)) ≡ gapped_size l.body.roots
