use Rattle.std.proofs.Common.{◌≡◌, List, ℕ, sym, ap, ap₂, ◌∙◌, subst}
use Rattle.std.specs.Prelude.{IsTrue, Result, IfErr}
use Rattle.std.proofs.lemmas.Result.{err_from_is_err_and}
use Rattle.std.specs.Option.{is_some}
use Rattle.std.specs.FinMap.{get, contains_key}
use Rattle.nx_records.specs.declared.error.StoreError.{StoreError}
use Rattle.nx_records.specs.Changes.{catalog_needs}
use Rattle.nx_records.specs.Refusals.{NotStored}
use Rattle.nx_catalog.specs.Catalog.{catalog_bytes, entries_renamed}
use Rattle.nx_pyx.specs.DocumentName.{is_document_name}
use Rattle.nx_script.specs.declared.command.Command.TheVariants.{Rename}
use Rattle.nx_store.specs.Changing.{RenameNotPrepared}
use Rattle.nx_store.specs.declared.store.Store.{Store}
use Rattle.nx_store.proofs.ShowLemmas.{handed}
use Rattle.nx_store.proofs.LogLemmas.{some_value}
use Rattle.nx_store.proofs.RenameLemmas.{rename_prepared, rename_unprepared}
use Rattle.nx_store.proofs.store.Store.prepare_rename.Goals as goal

pub save_renamed-requires-clause-there : goal.save_renamed-requires-clause-there
save_renamed-requires-clause-there g c = ap (λ (n : List ℕ). is_some (get c.args.self.now.catalog.documents n)) c.as_slice.ensures ∙ c.requires.there

pub save_renamed-requires-clause-named : goal.save_renamed-requires-clause-named
save_renamed-requires-clause-named g c = subst (λ (n : List ℕ). IsTrue (is_document_name n)) (sym c.as_slice-2.ensures) c.requires.named

pub save_renamed-requires-clause-new : goal.save_renamed-requires-clause-new
save_renamed-requires-clause-new g c = ap (λ (n : List ℕ). is_some (get c.args.self.now.catalog.documents n)) c.as_slice-2.ensures ∙ ap (λ o. is_some o) c.requires.new

pub returns-clause-ok : goal.returns-clause-ok
returns-clause-ok g c saved state at =
    let after : Store = record { alloc = c.args.self.now.alloc; records = c.save_renamed.new.records; catalog = c.save_renamed.new.self } in
    let entry = some_value (get c.args.self.now.catalog.documents c.args.old.now) c.requires.there in
    rename_prepared g.D.Disk c.args.self.now c.args.disk.now state at c.args.old.now c.args.new.now entry.0 entry.1 c.requires.new after c.save_renamed.new.disk
    (c.in_ok-save_renamed.ensures.documents ∙ ap₂ (λ (m n : List ℕ). entries_renamed c.args.self.now.catalog.documents m n) c.as_slice.ensures c.as_slice-2.ensures)
    c.save_renamed.ensures.rules (c.in_ok-save_renamed.ensures.form at.catalog.labels) c.in_ok-save_renamed.ensures.ok

pub returns-in_err-save_renamed-clause-refused : goal.returns-in_err-save_renamed-clause-refused
returns-in_err-save_renamed-clause-refused g c =
    let after : Store = record { alloc = c.args.self.now.alloc; records = c.save_renamed.new.records; catalog = c.save_renamed.new.self } in
    let entry = some_value (get c.args.self.now.catalog.documents c.args.old.now) c.requires.there in
    handed c.from_residual.result (λ (r : Result (Unit {0}) StoreError). IfErr r (λ (e : StoreError). RenameNotPrepared g.D.Disk (Rename c.args.old.now c.args.new.now) e c.args.self.now after c.args.disk.now c.save_renamed.new.disk))
    c.in_err-save_renamed.field-0.0 (err_from_is_err_and c.from_residual.result c.from_residual.ensures.1)
    (rename_unprepared g.D.Disk c.args.self.now after c.args.disk.now c.save_renamed.new.disk c.args.old.now c.args.new.now entry.0 entry.1 c.requires.new c.requires.named c.requires.runs c.in_err-save_renamed.ensures.err c.in_err-save_renamed.field-0.0
    (subst (λ (n : List ℕ). NotStored g.D.Disk (λ was. catalog_needs (catalog_bytes (record { documents = entries_renamed c.args.self.now.catalog.documents c.args.old.now n; rules = c.args.self.now.catalog.rules })) was) (λ was. ⊥) 0
    c.in_err-save_renamed.field-0.0 c.args.self.now.records c.save_renamed.new.records c.args.disk.now c.save_renamed.new.disk) c.as_slice-2.ensures
    (subst (λ (n : List ℕ). NotStored g.D.Disk (λ was. catalog_needs (catalog_bytes (record { documents = entries_renamed c.args.self.now.catalog.documents n c.as_slice-2.result.now; rules = c.args.self.now.catalog.rules })) was) (λ was. ⊥) 0
    c.in_err-save_renamed.field-0.0 c.args.self.now.records c.save_renamed.new.records c.args.disk.now c.save_renamed.new.disk) c.as_slice.ensures c.in_err-save_renamed.ensures.refused)))
