use Rattle.std.proofs.Common.{◌-◌, ◌∙◌, length, sym, arith}
use Rattle.std.proofs.Math.Nat.{div-le_self}
use Rattle.nx_par.proofs.AddLemmas.{nodes_from, nodes_next, nodes_alone}
use Rattle.nx_par.proofs.cut.last_row.Goals as goal

pub returns-then-all-trees-clause-behind : goal.returns-then-all-trees-clause-behind
returns-then-all-trees-clause-behind c =
    let ts = c.args.trees.now in
    let behind = c.max-behind.result in
    let all = c.if-all-trees.true in
    let nodes = c.requires.nodes in
    let is = c.max-behind.ensures in
    let alone = nodes_alone ts (c.args.all - behind) (sym all ∙ nodes) (omega (arith, all)) in
    omega (arith, alone, all, is, c.requires.many, div-le_self c.args.all c.args.workers)

pub count-behind-requires : goal.count-behind-requires
count-behind-requires c =
    let ts = c.args.trees.now in
    let at = length ts - 1 in
    let few = c.requires.few in
    let all = c.requires.nodes in
    omega (arith, few, all, nodes_from ts at, nodes_next ts at c.index-trees-at.result (omega (arith, c.requires.many)) c.index-trees-at.is)

pub count-next-requires : goal.count-next-requires
count-next-requires c =
    let ts = c.args.trees.now in
    let at = c.loop-at.at - 1 in
    let few = c.requires.few in
    let all = c.requires.nodes in
    omega (arith, few, all, nodes_from ts at, nodes_next ts at c.index-trees-at-in-loop-at.result (omega (arith, c.loop-at.invariant.1)) c.index-trees-at-in-loop-at.is)

pub overflow_mul-behind : goal.overflow_mul-behind
overflow_mul-behind c =
    let few = c.requires.few in
    let all = c.requires.nodes in
    let is = c.loop-at.invariant.2 in
    omega (arith, few, all, is, nodes_from c.args.trees.now c.loop-at.at)

pub overflow_add-behind : goal.overflow_add-behind
overflow_add-behind c =
    let few = c.requires.few in
    let all = c.requires.nodes in
    let is = c.loop-at.invariant.2 in
    omega (arith, few, all, is, nodes_from c.args.trees.now c.loop-at.at, c.count-next.type_inv)
