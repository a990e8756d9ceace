use Rattle.nx_piece.specs.Locate.{Own, Kept}
use Rattle.nx_seek.proofs.ChildLemmas.{beyond_all}
use Rattle.nx_seek.proofs.seeking.children_at.Goals as goal

pub returns-in-Some-Tree : goal.returns-in-Some-Tree
returns-in-Some-Tree c tree all is are fits =
    let found = (rw c.in-Some-Tree.field-0-is at c.in-Some-Tree.ensures) tree.below is.tail all is.stands is.wide are fits in
    beyond_all all c.args.spot.first tree.below (Own found.0 c.in-Some-Tree.field-0-0.first) are.ranged is.stands.small is.stands.few_proxies found.1

pub returns-in-Some-Root : goal.returns-in-Some-Root
returns-in-Some-Root c tree all is are fits =
    let found = (rw c.in-Some-Root.field-0-is at c.in-Some-Root.ensures) tree.below is.tail all is.stands is.wide are fits in
    beyond_all all c.args.spot.first tree.below (Kept c.in-Some-Root.field-0-1 c.in-Some-Root.field-0-2) are.ranged is.stands.small is.stands.few_proxies found.0
