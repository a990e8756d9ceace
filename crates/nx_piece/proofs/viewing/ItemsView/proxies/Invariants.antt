use Rattle.std.proofs.Common.{◌≡◌, ◌+◌, drop}
use Rattle.nx_piece.specs.Gapped.{proxies_in}
use Rattle.nx_piece.specs.Viewing.{seen_items}
use Rattle.nx_piece.proofs.FlatLemmas.{runs_sum}
use Rattle.nx_piece.proofs.viewing.ItemsView.proxies.Given as goal

abbrev pub invariant-loop-item : goal.invariant-loop-item
invariant-loop-item l = l.proxies + runs_sum (drop l.item-index l.item-items) ≡ proxies_in (seen_items l.self)
