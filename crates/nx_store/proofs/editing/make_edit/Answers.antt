use Rattle.std.proofs.Common.{◌≡◌, None, sym, subst}
use Rattle.std.specs.Prelude.{IfOk, IfErr, OnOk}
use Rattle.nx_records.specs.Records.{settings_of}
use Rattle.nx_cuts.specs.Cut.{tree_of}
use Rattle.nx_edit.specs.Removing.{OfEntry}
use Rattle.nx_store.specs.Editing.{CanBeMade, edit_fault, MakesEdit, NotMade}
use Rattle.nx_store.specs.declared.editing.Edit.{Edit}
use Rattle.nx_store.proofs.editing.make_edit.Goals as goal

pub retext-requires : goal.retext-requires
retext-requires g c = subst CanBeMade c.in-Retext.is c.requires

pub insert-requires : goal.insert-requires
insert-requires g c = subst CanBeMade c.in-Insert.is c.requires

pub returns-in-Delete-clause-allowed : goal.returns-in-Delete-clause-allowed
returns-in-Delete-clause-allowed g c =
    subst (λ (e : Edit). OnOk c.delete.result (OfEntry g.D.Disk c.args.records.now c.args.disk.now c.args.entry (λ now document layout. edit_fault e c.args.path.now (settings_of c.args.records.now).k (tree_of document) ≡ None)))
    (sym c.in-Delete.is) c.delete.ensures.allowed

pub returns-in-Delete-clause-ok : goal.returns-in-Delete-clause-ok
returns-in-Delete-clause-ok g c =
    subst (λ (e : Edit). IfOk c.delete.result (λ new. MakesEdit g.D.Disk c.args.records.now c.delete.new.records c.args.disk.now c.delete.new.disk c.args.matrix.now e c.args.path.now c.args.entry new))
    (sym c.in-Delete.is) c.delete.ensures.ok

pub returns-in-Delete-clause-refused : goal.returns-in-Delete-clause-refused
returns-in-Delete-clause-refused g c =
    subst (λ (e : Edit). IfErr c.delete.result (λ x. NotMade g.D.Disk e c.args.path.now (settings_of c.args.records.now).k c.args.entry x c.args.records.now c.delete.new.records c.args.disk.now c.delete.new.disk)) (sym c.in-Delete.is) c.delete.ensures.refused

pub returns-in-Retext-clause-allowed : goal.returns-in-Retext-clause-allowed
returns-in-Retext-clause-allowed g c =
    subst (λ (e : Edit). OnOk c.retext.result (OfEntry g.D.Disk c.args.records.now c.args.disk.now c.args.entry (λ now document layout. edit_fault e c.args.path.now (settings_of c.args.records.now).k (tree_of document) ≡ None)))
    (sym c.in-Retext.is) c.retext.ensures.allowed

pub returns-in-Retext-clause-ok : goal.returns-in-Retext-clause-ok
returns-in-Retext-clause-ok g c =
    subst (λ (e : Edit). IfOk c.retext.result (λ new. MakesEdit g.D.Disk c.args.records.now c.retext.new.records c.args.disk.now c.retext.new.disk c.args.matrix.now e c.args.path.now c.args.entry new))
    (sym c.in-Retext.is) c.retext.ensures.ok

pub returns-in-Retext-clause-refused : goal.returns-in-Retext-clause-refused
returns-in-Retext-clause-refused g c =
    subst (λ (e : Edit). IfErr c.retext.result (λ x. NotMade g.D.Disk e c.args.path.now (settings_of c.args.records.now).k c.args.entry x c.args.records.now c.retext.new.records c.args.disk.now c.retext.new.disk)) (sym c.in-Retext.is) c.retext.ensures.refused

pub returns-in-Insert-clause-allowed : goal.returns-in-Insert-clause-allowed
returns-in-Insert-clause-allowed g c =
    subst (λ (e : Edit). OnOk c.insert.result (OfEntry g.D.Disk c.args.records.now c.args.disk.now c.args.entry (λ now document layout. edit_fault e c.args.path.now (settings_of c.args.records.now).k (tree_of document) ≡ None)))
    (sym c.in-Insert.is) c.insert.ensures.allowed

pub returns-in-Insert-clause-ok : goal.returns-in-Insert-clause-ok
returns-in-Insert-clause-ok g c =
    subst (λ (e : Edit). IfOk c.insert.result (λ new. MakesEdit g.D.Disk c.args.records.now c.insert.new.records c.args.disk.now c.insert.new.disk c.args.matrix.now e c.args.path.now c.args.entry new))
    (sym c.in-Insert.is) c.insert.ensures.ok

pub returns-in-Insert-clause-refused : goal.returns-in-Insert-clause-refused
returns-in-Insert-clause-refused g c =
    subst (λ (e : Edit). IfErr c.insert.result (λ x. NotMade g.D.Disk e c.args.path.now (settings_of c.args.records.now).k c.args.entry x c.args.records.now c.insert.new.records c.args.disk.now c.insert.new.disk)) (sym c.in-Insert.is) c.insert.ensures.refused
