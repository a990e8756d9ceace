use Rattle.std.proofs.Common.{◌≡◌, ◌≤◌, [], refl, sym, ap, ◌∙◌, subst, arith}
use Rattle.nx_piece.specs.Gapped.{GappedTree}
use Rattle.nx_piece.specs.PieceNode.{PieceNode, node_weight}
use Rattle.nx_piece_edits.specs.Planting.{IsWithNode}
use Rattle.nx_records.specs.Records.{settings_of}
use Rattle.nx_hold.specs.Changes.{place_of}
use Rattle.nx_edit.specs.Changing as put
use Rattle.nx_edit.specs.Changing.{IsWrittenNode}
use Rattle.nx_edit.specs.Planting.{IsAskedThere}
use Rattle.nx_edit.proofs.GrownThroughLemmas.{grown_changed, grown_refused}
use Rattle.nx_edit.proofs.PlantCalls.{beside_grows}
use Rattle.nx_edit.proofs.RowCalls.{ok_map, err_map}
use Rattle.nx_edit.proofs.SizeLemmas.{light_node}
use Rattle.nx_edit.proofs.planting.plant_beside.Goals as goal

pub put_grown-requires-clause-piece : goal.put_grown-requires-clause-piece
put_grown-requires-clause-piece g c =
    let node : PieceNode = record { node = c.leaf.inside.node; far = c.leaf.inside.far } in
    let same : c.args.leaf.node ≡ node = sym (ap (λ (t : GappedTree). t.node) c.leaf.view_is) in
    let written : IsWrittenNode node = subst IsWrittenNode same c.requires.written in
    let light : node_weight node ≤ (settings_of c.args.records.now).k = subst (λ (n : PieceNode). node_weight n ≤ (settings_of c.args.records.now).k) same c.requires.light in
    (c.in-Ok.ensures).large c.requires.valid written.1 (light_node (settings_of c.args.records.now).k node written light c.args.records.now.head_range.settings.k.1)

pub returns-clause-ok : goal.returns-clause-ok
returns-clause-ok g c =
    ok_map c.put_grown.result (λ row puts. λ node is.
    grown_changed g.D.Disk c.args.matrix.now (put.Child c.args.position node) c.args.piece c.in-Ok.piece [] (place_of c.args.rid) c.args.member c.args.path.now c.args.records.now c.args.records.now c.put_grown.new.records c.args.disk.now c.args.disk.now c.put_grown.new.disk (omega arith)
    (record { before = c.requires.runs; after = c.requires.runs; length_stays = refl; settings_stay = refl }) (λ saved has. has)
    (beside_grows g.D.Disk c.args.matrix.now c.args.piece (place_of c.args.rid) c.args.member c.args.path.now c.args.position node c.args.records.now c.args.disk.now (subst IsWrittenNode is c.requires.written)
    (subst (λ (x : PieceNode). node_weight x ≤ (settings_of c.args.records.now).k) is c.requires.light) c.in-Ok.piece c.args.entry c.requires.between
    (subst (λ (x : PieceNode). IsWithNode c.args.piece c.args.member c.args.path.now c.args.position x c.in-Ok.piece) (ap (λ (t : GappedTree). t.node) c.leaf.view_is ∙ is) c.in-Ok.ensures)
    (subst (λ (x : PieceNode). IsAskedThere c.args.matrix.now c.args.piece c.args.member c.args.path.now x.node c.args.entry) is c.requires.asked) c.requires.beside) _ _ row puts) c.put_grown.ensures.ok

pub returns-clause-refused : goal.returns-clause-refused
returns-clause-refused g c =
    err_map c.put_grown.result (λ e refused. λ node is.
    grown_refused g.D.Disk c.args.matrix.now (put.Child c.args.position node) c.args.piece c.in-Ok.piece [] (place_of c.args.rid) c.args.member c.args.path.now c.args.records.now c.args.records.now c.put_grown.new.records c.args.disk.now c.args.disk.now c.put_grown.new.disk (omega arith)
    (record { before = c.requires.runs; after = c.requires.runs; length_stays = refl; settings_stay = refl }) (λ saved has. has)
    (beside_grows g.D.Disk c.args.matrix.now c.args.piece (place_of c.args.rid) c.args.member c.args.path.now c.args.position node c.args.records.now c.args.disk.now (subst IsWrittenNode is c.requires.written)
    (subst (λ (x : PieceNode). node_weight x ≤ (settings_of c.args.records.now).k) is c.requires.light) c.in-Ok.piece c.args.entry c.requires.between
    (subst (λ (x : PieceNode). IsWithNode c.args.piece c.args.member c.args.path.now c.args.position x c.in-Ok.piece) (ap (λ (t : GappedTree). t.node) c.leaf.view_is ∙ is) c.in-Ok.ensures)
    (subst (λ (x : PieceNode). IsAskedThere c.args.matrix.now c.args.piece c.args.member c.args.path.now x.node c.args.entry) is c.requires.asked) c.requires.beside) e refused) c.put_grown.ensures.refused
