use Rattle.std.proofs.Common.{drop}
use Rattle.nx_piece.specs.Items.{gapped_of}
use Rattle.nx_piece.proofs.LocateLemmas.{IsReached}
use Rattle.nx_piece.proofs.FoundLemmas.{IsPassing}
use Rattle.nx_piece.proofs.locating.child_at.Given as goal

abbrev pub invariant-loop-index : goal.invariant-loop-index
invariant-loop-index l =
    IsReached l.proxies l.first l.position (gapped_of l.items) l.before l.left (gapped_of (drop l.index l.items)) × IsPassing l.items l.proxies l.first l.position l.before l.left l.index
