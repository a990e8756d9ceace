use Rattle.std.proofs.Common.{◌≡◌, ℕ, ◌<◌, List, refl, subst}
use Rattle.std.specs.FinMap.{remove}
use Rattle.nx_records.specs.Changes.{catalog_needs}
use Rattle.nx_records.specs.Refusals.{NotChanged}
use Rattle.nx_catalog.specs.Catalog.{catalog_bytes}
use Rattle.nx_edit.proofs.ToldLemmas.{told_so}
use Rattle.nx_store.specs.Told.{told_error, told_removal}
use Rattle.nx_store.specs.Changing.{NotPrepared}
use Rattle.nx_store.specs.declared.store.Store.{Store}
use Rattle.nx_store.specs.declared.error.EngineError.{EngineError}
use Rattle.nx_store.proofs.GoneLemmas.{gone_prepared, stays_there, stays_entered}
use Rattle.nx_store.proofs.store.Store.prepare_discard.Goals as goal

pub returns-in-Err-clause-refused : goal.returns-in-Err-clause-refused
returns-in-Err-clause-refused g c =
    let after : Store = record { alloc = c.args.self.now.alloc; records = c.remove_document.new.records; catalog = c.args.self.now.catalog } in
    told_so (told_removal c.in-Err.error) (λ (e : EngineError). NotPrepared g.D.Disk e c.args.self.now after c.args.disk.now c.remove_document.new.disk) c.told_removal.result c.told_removal.ensures
    (stays_there g.D.Disk c.args.self.now after c.args.disk.now c.remove_document.new.disk c.args.name.now c.args.entry c.requires.runs c.requires.found refl c.in-Err.error c.in-Err.ensures.refused)

pub returns-in-Err-save_removed-clause-refused : goal.returns-in-Err-save_removed-clause-refused
returns-in-Err-save_removed-clause-refused g c =
    let mid : Store = record { alloc = c.args.self.now.alloc; records = c.remove_document.new.records; catalog = c.args.self.now.catalog } in
    let after : Store = record { alloc = c.args.self.now.alloc; records = c.save_removed.new.records; catalog = c.save_removed.new.self } in
    told_so (told_error c.in-Err-save_removed.error) (λ (e : EngineError). NotPrepared g.D.Disk e c.args.self.now after c.args.disk.now c.save_removed.new.disk) c.told_error.result c.told_error.ensures
    (stays_entered g.D.Disk c.args.self.now mid c.args.disk.now c.remove_document.new.disk c.args.name.now c.args.entry c.requires.runs c.requires.found after c.save_removed.new.disk
    c.remove_document.ensures.still c.in-Ok.ensures.keeps.0 c.in-Ok.ensures.keeps.1 c.in-Ok.ensures.ok c.in-Err-save_removed.ensures.err c.in-Err-save_removed.error
    (subst (λ (n : List ℕ). NotChanged g.D.Disk (λ was. was.free < catalog_needs (catalog_bytes (record { documents = remove c.args.self.now.catalog.documents n; rules = c.args.self.now.catalog.rules })) was) 0
    c.in-Err-save_removed.error c.remove_document.new.records c.save_removed.new.records c.remove_document.new.disk c.save_removed.new.disk) c.as_slice.ensures c.in-Err-save_removed.ensures.refused))

pub returns-in-Ok-save_removed-clause-ok : goal.returns-in-Ok-save_removed-clause-ok
returns-in-Ok-save_removed-clause-ok g c saved state at =
    let after : Store = record { alloc = c.args.self.now.alloc; records = c.save_removed.new.records; catalog = c.save_removed.new.self } in
    gone_prepared g.D.Disk c.args.self.now c.args.disk.now state at c.args.name.now c.args.entry c.requires.found c.remove_document.new.records after c.remove_document.new.disk c.save_removed.new.disk
    c.in-Ok.ensures.ok
    (subst (λ (n : List ℕ). c.save_removed.new.self.documents ≡ remove c.args.self.now.catalog.documents n) c.as_slice.ensures c.in-Ok-save_removed.ensures.documents)
    c.save_removed.ensures.rules c.in-Ok-save_removed.ensures.form c.in-Ok-save_removed.ensures.ok
