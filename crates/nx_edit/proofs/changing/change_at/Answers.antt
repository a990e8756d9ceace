use Rattle.std.proofs.Common.{List, None, sym, subst}
use Rattle.std.specs.Prelude.{IfOk, IfErr}
use Rattle.nx_records.specs.declared.error.StoreError.{StoreError}
use Rattle.std.specs.Option.{option_to_list}
use Rattle.nx_hold.specs.Changes.{place_of, ComesTidyWhere}
use Rattle.nx_edit.specs.declared.changing.Changed.{Changed}
use Rattle.nx_nav.specs.declared.routing.PassedRecord.{PassedRecord}
use Rattle.nx_nav.specs.Route.{EndsInside}
use Rattle.nx_edit.specs.Changing.{Put, IsLaidPut, MayChangeAlong, ChangesKnown, NotChangedAlong}
use Rattle.nx_edit.proofs.changing.change_at.Goals as goal

pub change_in-requires-clause-ends : goal.change_in-requires-clause-ends
change_in-requires-clause-ends g c = subst (λ (ps : List PassedRecord). EndsInside 0 c.args.path.now ps c.args.route.last) (sym c.as_slice.ensures.value) c.requires.ends

pub returns-clause-ok : goal.returns-clause-ok
returns-clause-ok g c =
    subst (λ (ps : List PassedRecord). IfOk c.change_in.result (λ (changed : Changed). (put : Put) → IsLaidPut c.args.change put → ComesTidyWhere g.D.Disk c.args.records.now c.change_in.new.records c.args.disk.now c.change_in.new.disk (λ was. MayChangeAlong was put (place_of c.args.root) 0 c.args.path.now ps c.args.route.last)
    (ChangesKnown c.args.matrix.now None 0 None put (place_of c.args.root) 0 c.args.path.now changed.row (option_to_list changed.gone))))
    c.as_slice.ensures.value c.change_in.ensures.ok

pub returns-clause-refused : goal.returns-clause-refused
returns-clause-refused g c =
    subst (λ (ps : List PassedRecord). IfErr c.change_in.result (λ (e : StoreError). (put : Put) → IsLaidPut c.args.change put → NotChangedAlong g.D.Disk ps c.args.route.last c.args.matrix.now put (place_of c.args.root) 0 c.args.path.now e c.args.records.now c.change_in.new.records c.args.disk.now c.change_in.new.disk))
    c.as_slice.ensures.value c.change_in.ensures.refused
