use Rattle.std.proofs.Common.{[], Some, sym, subst}
use Rattle.std.proofs.lemmas.Result.{err_from_is_err_and}
use Rattle.std.specs.Prelude.{IfOk, IfErr}
use Rattle.std.specs.Option.{option_copied, option_to_list}
use Rattle.nx_records.specs.declared.error.StoreError.{StoreError}
use Rattle.nx_records.proofs.RefusalLemmas.{err_passed}
use Rattle.nx_hold.specs.Changes.{place_of, ComesTidyWhere}
use Rattle.nx_edit.specs.declared.changing.Change.{Change}
use Rattle.nx_edit.specs.declared.changing.Change.TheVariants as change
use Rattle.nx_edit.specs.declared.changing.Changed.{Changed}
use Rattle.nx_edit.specs.Changing.{Put, IsLaidPut, IsWrittenChange, MayPutIn, ChangesKnown, NotChangedKnown}
use Rattle.nx_edit.proofs.ChangeCalls.{each_child}
use Rattle.nx_edit.proofs.changing.change_own.Goals as goal

pub set_own-requires-clause-written : goal.set_own-requires-clause-written
set_own-requires-clause-written g c = subst IsWrittenChange c.in-Content.is c.requires.written

pub plant_own-requires-clause-written : goal.plant_own-requires-clause-written
plant_own-requires-clause-written g c = subst IsWrittenChange c.in-Child.is c.requires.written

pub returns-in-Content-clause-ok : goal.returns-in-Content-clause-ok
returns-in-Content-clause-ok g c =
    subst (λ (what : Change). IfOk c.set_own.result (λ (changed : Changed). (put : Put) → IsLaidPut what put → ComesTidyWhere g.D.Disk c.args.records.now c.set_own.new.records c.args.disk.now c.set_own.new.disk (λ was. MayPutIn was put c.args.piece)
    (ChangesKnown c.args.matrix.now (Some c.args.piece) c.args.room (option_copied c.args.above) put (place_of c.args.rid) c.args.member c.args.path.now changed.row (option_to_list changed.gone)))) (sym c.in-Content.is) c.set_own.ensures.ok

pub returns-in-Content-clause-refused : goal.returns-in-Content-clause-refused
returns-in-Content-clause-refused g c =
    subst (λ (what : Change). IfErr c.set_own.result (λ (e : StoreError). (put : Put) → IsLaidPut what put → NotChangedKnown g.D.Disk c.args.matrix.now (Some c.args.piece) put (place_of c.args.rid) c.args.member c.args.path.now e c.args.records.now c.set_own.new.records c.args.disk.now
    c.set_own.new.disk)) (sym c.in-Content.is) c.set_own.ensures.refused

pub returns-in_err-row-in-Child-clause-refused : goal.returns-in_err-row-in-Child-clause-refused
returns-in_err-row-in-Child-clause-refused g c =
    subst (λ (what : Change). IfErr c.from_residual.result (λ (e : StoreError). (put : Put) → IsLaidPut what put → NotChangedKnown g.D.Disk c.args.matrix.now (Some c.args.piece) put (place_of c.args.rid) c.args.member c.args.path.now e c.args.records.now c.plant_own.new.records c.args.disk.now
    c.plant_own.new.disk)) (sym c.in-Child.is)
    (err_passed c.from_residual.result (λ (e : StoreError). (put : Put) → IsLaidPut (change.Child c.in-Child.position c.in-Child.leaf) put → NotChangedKnown g.D.Disk c.args.matrix.now (Some c.args.piece) put (place_of c.args.rid) c.args.member c.args.path.now e c.args.records.now c.plant_own.new.records c.args.disk.now c.plant_own.new.disk)
    c.in_err-row-in-Child.field-0.0 (err_from_is_err_and c.from_residual.result c.from_residual.ensures.1)
    (each_child (λ (put : Put). NotChangedKnown g.D.Disk c.args.matrix.now (Some c.args.piece) put (place_of c.args.rid) c.args.member c.args.path.now c.in_err-row-in-Child.field-0.0 c.args.records.now c.plant_own.new.records c.args.disk.now c.plant_own.new.disk) c.in-Child.position c.in-Child.leaf
    c.in_err-row-in-Child.ensures.refused))

pub returns-in_ok-row-in-Child-clause-ok : goal.returns-in_ok-row-in-Child-clause-ok
returns-in_ok-row-in-Child-clause-ok g c =
    subst (λ (what : Change). (put : Put) → IsLaidPut what put → ComesTidyWhere g.D.Disk c.args.records.now c.plant_own.new.records c.args.disk.now c.plant_own.new.disk (λ was. MayPutIn was put c.args.piece)
    (ChangesKnown c.args.matrix.now (Some c.args.piece) c.args.room (option_copied c.args.above) put (place_of c.args.rid) c.args.member c.args.path.now c.in_ok-row-in-Child.row [])) (sym c.in-Child.is)
    (each_child (λ (put : Put). ComesTidyWhere g.D.Disk c.args.records.now c.plant_own.new.records c.args.disk.now c.plant_own.new.disk (λ was. MayPutIn was put c.args.piece)
    (ChangesKnown c.args.matrix.now (Some c.args.piece) c.args.room (option_copied c.args.above) put (place_of c.args.rid) c.args.member c.args.path.now c.in_ok-row-in-Child.row [])) c.in-Child.position c.in-Child.leaf c.in_ok-row-in-Child.ensures.ok)
