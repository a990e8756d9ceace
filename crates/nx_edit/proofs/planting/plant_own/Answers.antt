use Rattle.std.proofs.Common.{◌≡◌, ◌≤◌, length, Some, sym, ap, ◌∙◌, subst, arith}
use Rattle.nx_piece.specs.PieceNode.{PieceNode, node_weight, length_with}
use Rattle.nx_weights.specs.Weight.{weight_of}
use Rattle.nx_records.specs.declared.error.StoreError.{StoreError}
use Rattle.nx_holdings.specs.declared.header.Settings.{Settings}
use Rattle.nx_piece.specs.Gapped.{GappedTree}
use Rattle.nx_layouts.specs.Layout.{LaidNode, in_record}
use Rattle.nx_hold.specs.Changes.{place_of}
use Rattle.nx_edit.specs.Changing as put
use Rattle.nx_edit.specs.Changing.{NotChangedKnown}
use Rattle.nx_edit.proofs.PlantCalls.{too_heavy, beyond, weighs_so}
use Rattle.nx_edit.proofs.planting.plant_own.Goals as goal

pub returns-then-not-may_have-clause-refused : goal.returns-then-not-may_have-clause-refused
returns-then-not-may_have-clause-refused g c =
    subst
    (λ (e : StoreError). (node : LaidNode) → c.args.leaf.node ≡ in_record node → NotChangedKnown g.D.Disk c.args.matrix.now (Some c.args.piece) (put.Child c.args.position node) (place_of c.args.rid) c.args.member c.args.path.now e c.args.records.now c.damaged.new.records c.args.disk.now c.args.disk.now)
    (sym c.damaged.ensures.result)
    (λ node is. too_heavy g.D.Disk c.args.matrix.now c.args.piece (place_of c.args.rid) c.args.member c.args.path.now c.args.position node c.args.records.now c.args.disk.now c.damaged.new.records c.requires.here
    (λ fits.
    let weighs =
    weighs_so c.args.leaf.node c.as_slice-name.result.now c.as_slice-content.result.now c.leaf.inside.far (c.as_slice-name.ensures ∙ ap (λ (t : GappedTree). t.node.node.name) c.leaf.view_is)
    (c.as_slice-content.ensures ∙ ap (λ (t : GappedTree). t.node.node.content) c.leaf.view_is) (ap (λ (t : GappedTree). t.node.far) c.leaf.view_is) in
    let same = ap (λ (n : PieceNode). node_weight n) is in
    let most = ap (λ (s : Settings). s.k) c.settings.ensures in
    let light : weight_of (length c.as_slice-name.result.now) (length_with (length c.as_slice-content.result.now) c.leaf.inside.far) ≤ c.settings.result.k = omega (arith, weighs, same, most, fits) in
    let yes = c.may_have.ensures.1 light in let no = c.if-not-may_have.true in absurd (cc)) (c.damaged.ensures.ends c.requires.runs))

pub returns-in-Nowhere-clause-refused : goal.returns-in-Nowhere-clause-refused
returns-in-Nowhere-clause-refused g c =
    subst
    (λ (e : StoreError). (node : LaidNode) → c.args.leaf.node ≡ in_record node → NotChangedKnown g.D.Disk c.args.matrix.now (Some c.args.piece) (put.Child c.args.position node) (place_of c.args.rid) c.args.member c.args.path.now e c.args.records.now c.damaged-in-Nowhere.new.records c.args.disk.now c.args.disk.now)
    (sym c.damaged-in-Nowhere.ensures.result)
    (λ node is. beyond g.D.Disk c.args.matrix.now c.args.piece (place_of c.args.rid) c.args.member c.args.path.now c.args.position node c.args.records.now c.args.disk.now c.damaged-in-Nowhere.new.records c.requires.here.0 c.requires.here.1 c.requires.here.2
    (c.in-Nowhere.ensures c.requires.here.0 c.requires.here.1 c.requires.here.2) (c.damaged-in-Nowhere.ensures.ends c.requires.runs))
