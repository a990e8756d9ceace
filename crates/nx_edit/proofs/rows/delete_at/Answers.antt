use Rattle.std.proofs.Common.{◌≡◌, List, ◌++◌, sym, subst}
use Rattle.std.specs.Prelude.{IfOk, IfErr}
use Rattle.std.specs.Option.{option_to_list}
use Rattle.nx_records.specs.declared.error.StoreError.{StoreError}
use Rattle.nx_piece.specs.declared.piece.Far.{Far}
use Rattle.nx_hold.specs.Changes.{place_of}
use Rattle.nx_nav.specs.declared.routing.PassedRecord.{PassedRecord}
use Rattle.nx_nav.specs.Route.{EndsInside}
use Rattle.nx_edit.specs.declared.rows.Taken.{Taken}
use Rattle.nx_edit.specs.Rows.{DeletesAlong, NotDeletedAlong}
use Rattle.nx_edit.proofs.rows.delete_at.Goals as goal

pub delete_in-requires-clause-ends : goal.delete_in-requires-clause-ends
delete_in-requires-clause-ends g c = subst (λ (ps : List PassedRecord). EndsInside 0 c.args.path.now ps c.args.route.last) (sym c.as_slice.ensures.value) c.requires.ends

pub returns-clause-ok : goal.returns-clause-ok
returns-clause-ok g c =
    subst (λ (ps : List PassedRecord). IfOk c.delete_in.result (λ (taken : Taken). (fars : List Far) × (c.delete_in.new.gone.items ≡ c.args.gone.now.items ++ fars)
    × DeletesAlong g.D.Disk c.args.records.now c.delete_in.new.records c.args.disk.now c.delete_in.new.disk ps c.args.route.last (place_of c.args.root) 0 c.args.path.now c.args.limit taken.gone (option_to_list taken.left) fars))
    c.as_slice.ensures.value c.delete_in.ensures.ok

pub returns-clause-refused : goal.returns-clause-refused
returns-clause-refused g c =
    subst (λ (ps : List PassedRecord). IfErr c.delete_in.result (λ (e : StoreError). NotDeletedAlong g.D.Disk ps c.args.route.last (place_of c.args.root) 0 c.args.path.now c.args.limit e c.args.records.now c.delete_in.new.records c.args.disk.now c.delete_in.new.disk))
    c.as_slice.ensures.value c.delete_in.ensures.refused
