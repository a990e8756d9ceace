use Rattle.std.proofs.Common.{◌≡◌, ◌+◌}
use Rattle.nx_piece.specs.Gapped.{gapped_width}
use Rattle.nx_piece.specs.Viewing.{seen_items}
use Rattle.nx_piece.proofs.viewing.ItemsView.len.Given as goal

abbrev pub invariant-loop-len : goal.invariant-loop-len
invariant-loop-len l = l.len + gapped_width (seen_items l.rest) ≡ gapped_width (seen_items l.self)
