use Rattle.std.proofs.Common.{[], sym, subst, arith}
use Rattle.std.proofs.lemmas.Result.{err_from_is_err_and}
use Rattle.nx_host.proofs.DiskLemmas.{still_then}
use Rattle.nx_records.specs.declared.error.StoreError.{StoreError}
use Rattle.nx_records.proofs.RefusalLemmas.{err_passed}
use Rattle.nx_records.proofs.StandLemmas.{on_ok_then}
use Rattle.nx_hold.specs.Changes.{place_of}
use Rattle.nx_hold.proofs.RefusalLemmas.{runs_then, saved_then}
use Rattle.nx_edit.specs.Changing as put
use Rattle.nx_edit.proofs.GrownThroughLemmas.{grown_changed, grown_refused}
use Rattle.nx_edit.proofs.PartCalls.{NotDivided, many_proxies, unparted, unplaced, placed_below}
use Rattle.nx_edit.proofs.RowCalls.{ok_map, err_map}
use Rattle.nx_edit.proofs.parting.divide_interval.Goals as goal

pub returns-then-len-gt524286-clause-refused : goal.returns-then-len-gt524286-clause-refused
returns-then-len-gt524286-clause-refused g c =
    subst (λ (e : StoreError). NotDivided g.D.Disk c.args.matrix.now c.args.piece c.args.position c.args.leaf.node (place_of c.args.rid) c.args.member c.args.path.now e c.args.records.now c.damaged.new.records c.args.disk.now c.args.disk.now) (sym c.damaged.ensures.result)
    (many_proxies g.D.Disk c.args.matrix.now c.args.piece (place_of c.args.rid) c.args.member c.args.path.now c.args.position c.args.index c.args.before c.args.proxy c.args.entry c.args.leaf.node c.args.records.now c.args.disk.now c.requires.within c.requires.light c.requires.written c.requires.asked c.requires.bound
    c.damaged.new.records (let more = c.if-len-gt524286.true in let is = c.len.ensures in omega (arith, more, is)) (c.damaged.ensures.ends c.requires.runs))

pub returns-in_err-front-clause-refused : goal.returns-in_err-front-clause-refused
returns-in_err-front-clause-refused g c =
    err_passed c.from_residual.result (λ (e : StoreError). NotDivided g.D.Disk c.args.matrix.now c.args.piece c.args.position c.args.leaf.node (place_of c.args.rid) c.args.member c.args.path.now e c.args.records.now c.part_record.new.records c.args.disk.now c.part_record.new.disk)
    c.in_err-front.field-0.0 (err_from_is_err_and c.from_residual.result c.from_residual.ensures.1)
    (unparted g.D.Disk c.args.matrix.now c.args.piece (place_of c.args.rid) c.args.member c.args.path.now c.args.position c.args.index c.args.before c.args.proxy c.args.entry c.args.leaf.node c.args.records.now c.args.disk.now c.requires.within c.requires.light c.requires.written c.requires.asked c.requires.bound
    c.part_record.new.records c.part_record.new.disk c.in_err-front.field-0.0 c.in_err-front.ensures.refused)

pub returns-in_err-piece-clause-refused : goal.returns-in_err-piece-clause-refused
returns-in_err-piece-clause-refused g c =
    err_passed c.from_residual-in_err-piece.result (λ (e : StoreError). NotDivided g.D.Disk c.args.matrix.now c.args.piece c.args.position c.args.leaf.node (place_of c.args.rid) c.args.member c.args.path.now e c.args.records.now c.place_node.new.records c.args.disk.now c.place_node.new.disk)
    c.in_err-piece.field-0.0 (err_from_is_err_and c.from_residual-in_err-piece.result c.from_residual-in_err-piece.ensures.1)
    (unplaced g.D.Disk c.args.matrix.now c.args.piece (place_of c.args.rid) c.args.member c.args.path.now c.args.position c.args.index c.args.before c.args.proxy c.args.entry c.args.leaf.node c.args.records.now c.args.disk.now c.requires.within c.requires.light c.requires.written c.requires.asked c.requires.bound
    c.part_record.new.records c.part_record.new.disk c.in_ok-front.front c.in_ok-front.back c.in_ok-front.ensures.keeps.0 c.in_ok-front.ensures.keeps.1 (c.part_record.ensures.still).faults_later c.in_ok-front.ensures.ok
    0 c.place_node.new.records c.place_node.new.disk c.in_err-piece.field-0.0 c.in_err-piece.ensures.refused)

pub returns-clause-ok : goal.returns-clause-ok
returns-clause-ok g c =
    ok_map c.put_grown.result (λ row puts node laid. grown_changed g.D.Disk c.args.matrix.now (put.Child c.args.position node) c.args.piece c.in_ok-piece.piece [] (place_of c.args.rid) c.args.member c.args.path.now c.args.records.now c.place_node.new.records c.put_grown.new.records c.args.disk.now c.place_node.new.disk c.put_grown.new.disk
    (still_then c.part_record.ensures.still c.place_node.ensures.still).faults_later
    (runs_then {r0 = c.args.records.now} {r1 = c.part_record.new.records} {r2 = c.place_node.new.records} c.in_ok-front.ensures.keeps.0 c.in_ok-piece.ensures.keeps.0)
    (saved_then {d = g.D.Disk} {r0 = c.args.records.now} {r1 = c.part_record.new.records} {r2 = c.place_node.new.records} {x0 = c.args.disk.now} {x1 = c.part_record.new.disk} {x2 = c.place_node.new.disk} c.in_ok-front.ensures.keeps.1 c.in_ok-piece.ensures.keeps.1)
    (placed_below g.D.Disk c.args.matrix.now c.args.piece (place_of c.args.rid) c.args.member c.args.path.now c.args.position c.args.index c.args.before c.args.proxy c.args.entry c.args.leaf.node c.args.records.now c.args.disk.now c.requires.within c.requires.light c.requires.written c.requires.asked c.requires.bound
    c.part_record.new.records c.part_record.new.disk c.in_ok-front.front c.in_ok-front.back c.in_ok-front.ensures.keeps.0 c.in_ok-front.ensures.keeps.1 (c.part_record.ensures.still).faults_later c.in_ok-front.ensures.ok
    c.place_node.new.records c.place_node.new.disk c.in_ok-piece.piece c.in_ok-piece.ensures.ok node laid) _ _ row puts) c.put_grown.ensures.ok

pub returns-clause-keeps : goal.returns-clause-keeps
returns-clause-keeps g c =
    on_ok_then c.put_grown.result c.put_grown.ensures.keeps (λ keeps. (
      runs_then {r0 = c.args.records.now} {r1 = c.place_node.new.records} {r2 = c.put_grown.new.records}
          (runs_then {r0 = c.args.records.now} {r1 = c.part_record.new.records} {r2 = c.place_node.new.records} c.in_ok-front.ensures.keeps.0 c.in_ok-piece.ensures.keeps.0) keeps.0,
      saved_then {d = g.D.Disk} {r0 = c.args.records.now} {r1 = c.place_node.new.records} {r2 = c.put_grown.new.records} {x0 = c.args.disk.now} {x1 = c.place_node.new.disk} {x2 = c.put_grown.new.disk}
          (saved_then {d = g.D.Disk} {r0 = c.args.records.now} {r1 = c.part_record.new.records} {r2 = c.place_node.new.records} {x0 = c.args.disk.now} {x1 = c.part_record.new.disk} {x2 = c.place_node.new.disk} c.in_ok-front.ensures.keeps.1 c.in_ok-piece.ensures.keeps.1) keeps.1,
      keeps.2,
    ))

pub returns-clause-refused : goal.returns-clause-refused
returns-clause-refused g c =
    err_map c.put_grown.result (λ e refused node laid. grown_refused g.D.Disk c.args.matrix.now (put.Child c.args.position node) c.args.piece c.in_ok-piece.piece [] (place_of c.args.rid) c.args.member c.args.path.now c.args.records.now c.place_node.new.records c.put_grown.new.records c.args.disk.now c.place_node.new.disk c.put_grown.new.disk
    (still_then c.part_record.ensures.still c.place_node.ensures.still).faults_later
    (runs_then {r0 = c.args.records.now} {r1 = c.part_record.new.records} {r2 = c.place_node.new.records} c.in_ok-front.ensures.keeps.0 c.in_ok-piece.ensures.keeps.0)
    (saved_then {d = g.D.Disk} {r0 = c.args.records.now} {r1 = c.part_record.new.records} {r2 = c.place_node.new.records} {x0 = c.args.disk.now} {x1 = c.part_record.new.disk} {x2 = c.place_node.new.disk} c.in_ok-front.ensures.keeps.1 c.in_ok-piece.ensures.keeps.1)
    (placed_below g.D.Disk c.args.matrix.now c.args.piece (place_of c.args.rid) c.args.member c.args.path.now c.args.position c.args.index c.args.before c.args.proxy c.args.entry c.args.leaf.node c.args.records.now c.args.disk.now c.requires.within c.requires.light c.requires.written c.requires.asked c.requires.bound
    c.part_record.new.records c.part_record.new.disk c.in_ok-front.front c.in_ok-front.back c.in_ok-front.ensures.keeps.0 c.in_ok-front.ensures.keeps.1 (c.part_record.ensures.still).faults_later c.in_ok-front.ensures.ok
    c.place_node.new.records c.place_node.new.disk c.in_ok-piece.piece c.in_ok-piece.ensures.ok node laid) e refused) c.put_grown.ensures.refused
