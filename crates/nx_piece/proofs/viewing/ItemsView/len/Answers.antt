use Rattle.std.proofs.Common.{arith}
use Rattle.nx_piece.proofs.FlatLemmas.{width_flat}
use Rattle.nx_piece.proofs.viewing.ItemsView.len.Goals as goal

pub returns : goal.returns
returns c = let all = c.loop-len.invariant in omega (arith, width_flat c.args.self.items.now)
