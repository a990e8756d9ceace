use Rattle.std.proofs.Common.{arith}
use Rattle.nx_piece.proofs.FlatLemmas.{runs_in}
use Rattle.nx_piece.proofs.viewing.ItemsView.proxies.Goals as goal

pub loop-item-init : goal.loop-item-init
loop-item-init c = omega (arith, runs_in c.args.self.items.now)
