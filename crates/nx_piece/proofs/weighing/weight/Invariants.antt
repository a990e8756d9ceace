use Rattle.std.proofs.Common.{◌≡◌, ◌+◌, drop}
use Rattle.nx_piece.specs.Gapped.{gapped_weight, grown_of}
use Rattle.nx_piece.specs.Weight.{HaveShortNodes}
use Rattle.nx_piece.proofs.weighing.weight.Given as goal

abbrev pub invariant-loop-root : goal.invariant-loop-root
invariant-loop-root l =
    (l.sum + gapped_weight (grown_of (drop l.root-index l.root-items)) ≡ gapped_weight l.body.roots) × HaveShortNodes (grown_of (drop l.root-index l.root-items))
