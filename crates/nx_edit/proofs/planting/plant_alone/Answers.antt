use Rattle.std.proofs.Common.{◌≡◌, ◌≤◌, [], Some, sym, subst, arith}
use Rattle.std.proofs.lemmas.Result.{err_from_is_err_and}
use Rattle.nx_piece.specs.Gapped.{Gapped, End, Grow}
use Rattle.nx_piece.specs.PieceNode.{PieceNode, node_weight}
use Rattle.nx_piece.specs.Valid.{AreNear}
use Rattle.nx_records.specs.declared.error.StoreError.{StoreError}
use Rattle.nx_records.specs.Records.{settings_of}
use Rattle.nx_records.proofs.RefusalLemmas.{err_passed}
use Rattle.nx_records.proofs.StandLemmas.{on_ok_then}
use Rattle.nx_layouts.specs.Layout.{LaidNode, in_record}
use Rattle.nx_matrix.specs.declared.rule.Entry.TheVariants.{Standalone}
use Rattle.nx_hold.specs.Changes.{place_of}
use Rattle.nx_hold.proofs.RefusalLemmas.{runs_then, saved_then}
use Rattle.nx_edit.specs.Changing as put
use Rattle.nx_edit.specs.Changing.{IsWrittenNode, NotChangedKnown}
use Rattle.nx_edit.specs.Planting.{IsAskedThere}
use Rattle.nx_edit.proofs.GrownThroughLemmas.{grown_changed, grown_refused}
use Rattle.nx_edit.proofs.PlantCalls.{alone_grows, alone_unadded, too_many}
use Rattle.nx_edit.proofs.RowCalls.{ok_map, err_map}
use Rattle.nx_edit.proofs.SizeLemmas.{light_alone}
use Rattle.nx_edit.proofs.planting.plant_alone.Goals as goal

pub add_piece-requires : goal.add_piece-requires
add_piece-requires g c = record {
  valid = light_alone (settings_of c.args.records.now).k c.args.leaf.node c.in-Ok.alone c.in-Ok.ensures.0 c.in-Ok.ensures.1 c.requires.written c.requires.light c.args.records.now.head_range.settings.k.1;
  near = subst (λ (f : Gapped). AreNear f) (sym c.in-Ok.ensures.0) (c.requires.written.0, tt, tt);
}

pub returns-then-len-ge524288-clause-refused : goal.returns-then-len-ge524288-clause-refused
returns-then-len-ge524288-clause-refused g c =
    subst
    (λ (e : StoreError). (node : LaidNode) → c.args.leaf.node ≡ in_record node → NotChangedKnown g.D.Disk c.args.matrix.now (Some c.args.piece) (put.Child c.args.position node) (place_of c.args.rid) c.args.member c.args.path.now e c.args.records.now c.damaged.new.records c.args.disk.now c.args.disk.now)
    (sym c.damaged.ensures.result)
    (λ node is. too_many g.D.Disk c.args.matrix.now c.args.piece (place_of c.args.rid) c.args.member c.args.path.now c.args.position node c.args.records.now c.args.disk.now c.damaged.new.records
    (let more = c.if-len-ge524288.true in let is = c.len.ensures in omega (arith, more, is)) (c.damaged.ensures.ends c.requires.runs))

pub returns-in_err-proxy-clause-refused : goal.returns-in_err-proxy-clause-refused
returns-in_err-proxy-clause-refused g c =
    err_passed c.from_residual.result
    (λ (e : StoreError). (node : LaidNode) → c.args.leaf.node ≡ in_record node → NotChangedKnown g.D.Disk c.args.matrix.now (Some c.args.piece) (put.Child c.args.position node) (place_of c.args.rid) c.args.member c.args.path.now e c.args.records.now c.add_piece.new.records c.args.disk.now c.add_piece.new.disk)
    c.in_err-proxy.field-0.0 (err_from_is_err_and c.from_residual.result c.from_residual.ensures.1)
    (λ node is. alone_unadded g.D.Disk c.args.matrix.now c.args.piece (place_of c.args.rid) c.args.member c.args.path.now c.args.position node c.args.records.now c.args.disk.now (subst IsWrittenNode is c.requires.written)
    (subst (λ (x : PieceNode). node_weight x ≤ (settings_of c.args.records.now).k) is c.requires.light) c.args.index c.requires.between
    (subst (λ (x : PieceNode). IsAskedThere c.args.matrix.now c.args.piece c.args.member c.args.path.now x.node Standalone) is c.requires.asked) c.in-Ok.alone (subst (λ (x : PieceNode). c.in-Ok.alone.body.roots ≡ Grow x End End) is c.in-Ok.ensures.0) c.in-Ok.ensures.1
    c.requires.runs 0 c.add_piece.new.records c.add_piece.new.disk c.in_err-proxy.field-0.0 c.in_err-proxy.ensures.refused)

pub returns-clause-ok : goal.returns-clause-ok
returns-clause-ok g c =
    ok_map c.put_grown.result (λ row puts. λ node is.
    grown_changed g.D.Disk c.args.matrix.now (put.Child c.args.position node) c.args.piece c.in-Ok-plant_proxy.piece [] (place_of c.args.rid) c.args.member c.args.path.now c.args.records.now c.add_piece.new.records c.put_grown.new.records c.args.disk.now c.add_piece.new.disk c.put_grown.new.disk
    (c.add_piece.ensures.still).faults_later c.in_ok-proxy.ensures.keeps.0 c.in_ok-proxy.ensures.keeps.1
    (alone_grows g.D.Disk c.args.matrix.now c.args.piece (place_of c.args.rid) c.args.member c.args.path.now c.args.position node c.args.records.now c.args.disk.now (subst IsWrittenNode is c.requires.written)
    (subst (λ (x : PieceNode). node_weight x ≤ (settings_of c.args.records.now).k) is c.requires.light) c.args.index c.requires.between
    (subst (λ (x : PieceNode). IsAskedThere c.args.matrix.now c.args.piece c.args.member c.args.path.now x.node Standalone) is c.requires.asked) c.in-Ok.alone (subst (λ (x : PieceNode). c.in-Ok.alone.body.roots ≡ Grow x End End) is c.in-Ok.ensures.0) c.in-Ok.ensures.1
    c.in-Ok-plant_proxy.piece c.in_ok-proxy.proxy c.in_ok-proxy.ensures.roots c.in-Ok-plant_proxy.ensures c.add_piece.new.records c.add_piece.new.disk c.in_ok-proxy.ensures.ok) _ _ row puts) c.put_grown.ensures.ok

pub returns-clause-keeps : goal.returns-clause-keeps
returns-clause-keeps g c =
    on_ok_then c.put_grown.result c.put_grown.ensures.keeps (λ keeps. (
      runs_then {r0 = c.args.records.now} {r1 = c.add_piece.new.records} {r2 = c.put_grown.new.records} c.in_ok-proxy.ensures.keeps.0 keeps.0,
      saved_then {d = g.D.Disk} {r0 = c.args.records.now} {r1 = c.add_piece.new.records} {r2 = c.put_grown.new.records} {x0 = c.args.disk.now} {x1 = c.add_piece.new.disk} {x2 = c.put_grown.new.disk} c.in_ok-proxy.ensures.keeps.1 keeps.1,
      keeps.2,
    ))

pub returns-clause-refused : goal.returns-clause-refused
returns-clause-refused g c =
    err_map c.put_grown.result (λ e refused. λ node is.
    grown_refused g.D.Disk c.args.matrix.now (put.Child c.args.position node) c.args.piece c.in-Ok-plant_proxy.piece [] (place_of c.args.rid) c.args.member c.args.path.now c.args.records.now c.add_piece.new.records c.put_grown.new.records c.args.disk.now c.add_piece.new.disk c.put_grown.new.disk
    (c.add_piece.ensures.still).faults_later c.in_ok-proxy.ensures.keeps.0 c.in_ok-proxy.ensures.keeps.1
    (alone_grows g.D.Disk c.args.matrix.now c.args.piece (place_of c.args.rid) c.args.member c.args.path.now c.args.position node c.args.records.now c.args.disk.now (subst IsWrittenNode is c.requires.written)
    (subst (λ (x : PieceNode). node_weight x ≤ (settings_of c.args.records.now).k) is c.requires.light) c.args.index c.requires.between
    (subst (λ (x : PieceNode). IsAskedThere c.args.matrix.now c.args.piece c.args.member c.args.path.now x.node Standalone) is c.requires.asked) c.in-Ok.alone (subst (λ (x : PieceNode). c.in-Ok.alone.body.roots ≡ Grow x End End) is c.in-Ok.ensures.0) c.in-Ok.ensures.1
    c.in-Ok-plant_proxy.piece c.in_ok-proxy.proxy c.in_ok-proxy.ensures.roots c.in-Ok-plant_proxy.ensures c.add_piece.new.records c.add_piece.new.disk c.in_ok-proxy.ensures.ok) e refused) c.put_grown.ensures.refused
