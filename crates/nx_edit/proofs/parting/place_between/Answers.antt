use Rattle.std.proofs.Common.{◌≡◌, ◌≤◌, sym, ap, subst, arith}
use Rattle.nx_piece.specs.Gapped.{GappedTree}
use Rattle.nx_piece.specs.PieceNode.{PieceNode, node_weight}
use Rattle.nx_edit.specs.Changing.{IsWrittenNode}
use Rattle.nx_edit.proofs.PartLemmas.{stands_between}
use Rattle.nx_edit.proofs.RowCalls.{ok_map, valid_piece}
use Rattle.nx_edit.proofs.SizeLemmas.{light_node}
use Rattle.nx_edit.proofs.parting.place_between.Goals as goal

pub returns-clause-piece : goal.returns-clause-piece
returns-clause-piece c =
    let some : 1 ≤ c.args.before = ((c.requires.within).1).some in
    let ranged = c.requires.ranged in
    let node : PieceNode = record { node = c.leaf.inside.node; far = c.leaf.inside.far } in
    let same : c.args.leaf.node ≡ node = sym (ap (λ (t : GappedTree). t.node) c.leaf.view_is) in
    let written : IsWrittenNode node = subst IsWrittenNode same c.requires.written in
    let light : node_weight node ≤ 256 = subst (λ (n : PieceNode). node_weight n ≤ 256) same c.requires.light in
    let valid = (c.in_ok-two.ensures).valid c.requires.valid (omega (arith, ranged.0, some), omega (arith, ranged.0, ranged.1), (ranged.2, ranged.3, tt)) (omega (arith, c.requires.few)) in
    ok_map c.plant_node.result (λ placed planted. planted.large valid written.1 (light_node 256 node written light (omega arith))) c.plant_node.ensures

pub plant_node-requires-clause-leads : goal.plant_node-requires-clause-leads
plant_node-requires-clause-leads c =
    stands_between c.args.piece c.in_ok-two.two c.args.member c.args.path.now c.args.position c.args.index c.args.before (c.requires.within).0 c.args.front c.args.back (valid_piece c.args.piece c.requires.valid) (c.requires.within).1 (c.requires.ranged).0 c.in_ok-two.ensures
