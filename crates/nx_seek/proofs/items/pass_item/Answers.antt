use Rattle.std.proofs.Common.{sym, subst, ℕ}
use Rattle.nx_piece.specs.Flat.{seen_node}
use Rattle.nx_seek.specs.Items.{IsItemPassed}
use Rattle.nx_seek.proofs.ItemLemmas.{node_passed}
use Rattle.nx_seek.proofs.items.pass_item.Goals as goal

pub returns-in-Some-Node-clause-passed : goal.returns-in-Some-Node-clause-passed
returns-in-Some-Node-clause-passed c f tail h some =
    subst (λ (n : ℕ). IsItemPassed f tail 0 n c.in-Some-Node.behind.now) (sym c.from.ensures)
    (node_passed c.args.bytes.now c.in-Some-Node.behind.now (seen_node c.in-Some-Node.field-0-0) c.in-Some-Node.items f tail h some ((rw c.in-Some-Node.field-0-is at c.in-Some-Node.ensures.first) f tail h))
