use Rattle.std.proofs.Common.{◌≡◌, List, ℕ, None, refl, sym, ap, ◌∙◌, subst, inl}
use Rattle.std.specs.Prelude.{Result, IfErr, IsTrue}
use Rattle.std.specs.Option.{is_some}
use Rattle.std.specs.FinMap.{get, insert}
use Rattle.std.proofs.lemmas.Result.{err_from_is_err_and}
use Rattle.nx_records.specs.Changes.{catalog_needs}
use Rattle.nx_records.specs.Records.{settings_of}
use Rattle.nx_records.specs.Refusals.{NotStored}
use Rattle.nx_cuts.specs.Cut.{tree_of}
use Rattle.nx_matrix.specs.declared.rule.Rule.{Rule}
use Rattle.nx_catalog.specs.Catalog.{catalog_bytes}
use Rattle.nx_pyx.specs.DocumentName.{is_document_name}
use Rattle.nx_edit.specs.Removing.{OfEntry}
use Rattle.nx_edit.specs.Refusals.{edit_error}
use Rattle.nx_edit.specs.declared.error.EditError.{EditError}
use Rattle.nx_edit.proofs.ToldLemmas.{told_so}
use Rattle.nx_store.specs.Editing.{edit_command, edit_fault, MakesEdit, NotMade, EditNotPrepared}
use Rattle.nx_store.specs.declared.store.Store.{Store}
use Rattle.nx_store.proofs.ShowLemmas.{handed}
use Rattle.nx_store.proofs.EditLemmas.{edit_prepared, edit_unmade, entry_unsaved}
use Rattle.nx_store.proofs.store.Store.prepare_edit.Goals as goal

pub save_entry-requires-clause-named : goal.save_entry-requires-clause-named
save_entry-requires-clause-named g c = subst (λ (n : List ℕ). IsTrue (is_document_name n)) (sym c.as_slice-2.ensures) c.requires.named

pub save_entry-requires-clause-room : goal.save_entry-requires-clause-room
save_entry-requires-clause-room g c = inl (ap is_some (ap (get c.args.self.now.catalog.documents) c.as_slice-2.ensures ∙ c.requires.found))

pub returns-in_err-new-clause-refused : goal.returns-in_err-new-clause-refused
returns-in_err-new-clause-refused g c =
    let path = c.args.path.now in
    let e = c.args.edit in
    let k = (settings_of c.args.self.now.records).k in
    let after : Store = record { alloc = c.args.self.now.alloc; records = c.make_edit.new.records; catalog = c.args.self.now.catalog } in
    handed c.from_residual.result (λ (r : Result (Unit {0}) EditError). IfErr r (λ (x : EditError). EditNotPrepared g.D.Disk (edit_command c.args.name.now path e) path x c.args.self.now after c.args.disk.now c.make_edit.new.disk))
    c.in_err-new.field-0.0 (err_from_is_err_and c.from_residual.result c.from_residual.ensures.1)
    (edit_unmade g.D.Disk c.args.self.now after c.args.disk.now c.make_edit.new.disk c.args.name.now c.args.entry path e c.requires.runs c.requires.found c.requires.can refl c.in_err-new.field-0.0
    (subst (λ (p : List ℕ). NotMade g.D.Disk e p k c.args.entry c.in_err-new.field-0.0 c.args.self.now.records c.make_edit.new.records c.args.disk.now c.make_edit.new.disk) c.as_slice.ensures c.in_err-new.ensures.refused))

pub returns-in-Err-clause-refused : goal.returns-in-Err-clause-refused
returns-in-Err-clause-refused g c =
    let path = c.args.path.now in
    let e = c.args.edit in
    let mid : Store = record { alloc = c.args.self.now.alloc; records = c.make_edit.new.records; catalog = c.args.self.now.catalog } in
    let after : Store = record { alloc = c.args.self.now.alloc; records = c.save_entry.new.records; catalog = c.save_entry.new.self } in
    told_so (edit_error c.in-Err.error) (λ (x : EditError). EditNotPrepared g.D.Disk (edit_command c.args.name.now path e) path x c.args.self.now after c.args.disk.now c.save_entry.new.disk) c.edit_error.result c.edit_error.ensures
    (entry_unsaved g.D.Disk c.args.self.now mid c.args.disk.now c.make_edit.new.disk c.args.name.now c.args.entry path e c.requires.runs c.requires.found c.requires.can
    after c.save_entry.new.disk c.in_ok-new.new c.matrix.result.now c.as_slice.result.now c.make_edit.ensures.still c.in_ok-new.ensures.keeps.0 c.in_ok-new.ensures.keeps.1 c.in_ok-new.ensures.ok c.in-Err.ensures.err c.in-Err.error
    (subst (λ (n : List ℕ). NotStored g.D.Disk (λ was. catalog_needs (catalog_bytes (record { documents = insert c.args.self.now.catalog.documents n c.in_ok-new.new; rules = c.args.self.now.catalog.rules })) was) (λ was. ⊥) 0
    c.in-Err.error c.make_edit.new.records c.save_entry.new.records c.make_edit.new.disk c.save_entry.new.disk) c.as_slice-2.ensures c.in-Err.ensures.refused))

pub returns-in-Ok-clause-ok : goal.returns-in-Ok-clause-ok
returns-in-Ok-clause-ok g c saved state at =
    let path = c.args.path.now in
    let e = c.args.edit in
    let k = (settings_of c.args.self.now.records).k in
    let after : Store = record { alloc = c.args.self.now.alloc; records = c.save_entry.new.records; catalog = c.save_entry.new.self } in
    edit_prepared g.D.Disk c.args.self.now c.args.disk.now state at c.args.name.now c.args.entry c.requires.found path e c.requires.can
    (subst (λ (q : List ℕ). OfEntry g.D.Disk c.args.self.now.records c.args.disk.now c.args.entry (λ now document layout. edit_fault e q k (tree_of document) ≡ None)) c.as_slice.ensures c.in_ok-new.ensures.allowed)
    c.make_edit.new.records after c.make_edit.new.disk c.save_entry.new.disk c.in_ok-new.new
    (subst (λ (q : List ℕ). MakesEdit g.D.Disk c.args.self.now.records c.make_edit.new.records c.args.disk.now c.make_edit.new.disk c.args.self.now.catalog.rules e q c.args.entry c.in_ok-new.new) c.as_slice.ensures
    (subst (λ (rs : List Rule). MakesEdit g.D.Disk c.args.self.now.records c.make_edit.new.records c.args.disk.now c.make_edit.new.disk rs e c.as_slice.result.now c.args.entry c.in_ok-new.new) c.matrix.ensures c.in_ok-new.ensures.ok))
    (subst (λ (n : List ℕ). c.save_entry.new.self.documents ≡ insert c.args.self.now.catalog.documents n c.in_ok-new.new) c.as_slice-2.ensures c.in-Ok.ensures.documents)
    c.save_entry.ensures.rules c.in-Ok.ensures.form c.in-Ok.ensures.ok
