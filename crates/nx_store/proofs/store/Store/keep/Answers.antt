use Rattle.std.proofs.Common.{refl, sym, ap, ◌∙◌, subst}
use Rattle.std.proofs.lemmas.Result.{err_from_is_err_and}
use Rattle.nx_records.specs.declared.error.StoreError.{StoreError}
use Rattle.nx_records.specs.declared.records.Records.{Records}
use Rattle.nx_records.specs.Records.{has_ended, KeepsSaved, ComesTo}
use Rattle.nx_records.specs.Changes.{SetsCatalog, catalog_needs}
use Rattle.nx_records.specs.Refusals.{RunsOn, NotStored}
use Rattle.nx_records.proofs.RefusalLemmas.{err_passed}
use Rattle.nx_records.proofs.StandLemmas.{on_ok_then}
use Rattle.nx_catalog.specs.Catalog.{catalog_bytes}
use Rattle.nx_store.specs.Loading.{NotKept}
use Rattle.nx_store.proofs.KeepLemmas.{brought_at, kept_at, store_refused, put_refused, save_refused, if_err_both, back_again}
use Rattle.nx_store.proofs.store.Store.keep.Goals as goal

pub returns-in_err-root-clause-refused : goal.returns-in_err-root-clause-refused
returns-in_err-root-clause-refused g c =
    err_passed c.from_residual.result (λ (e : StoreError). NotKept g.D.Disk c.args.tree e c.args.self.now (record { alloc = c.args.self.now.alloc; records = c.store.new.records; catalog = c.args.self.now.catalog }) c.args.disk.now c.store.new.disk)
    c.in_err-root.field-0.0 (err_from_is_err_and c.from_residual.result c.from_residual.ensures.1)
    (store_refused g.D.Disk c.args.self.now (record { alloc = c.args.self.now.alloc; records = c.store.new.records; catalog = c.args.self.now.catalog }) c.args.disk.now c.store.new.disk
    c.args.tree c.args.name.now c.in_err-root.field-0.0 c.requires.runs c.requires.new refl c.in_err-root.ensures.refused)

pub returns-in_err-put_entry-clause-refused : goal.returns-in_err-put_entry-clause-refused
returns-in_err-put_entry-clause-refused g c =
    err_passed c.from_residual-in_err-put_entry.result (λ (e : StoreError). NotKept g.D.Disk c.args.tree e c.args.self.now c.put_entry.new.self c.args.disk.now c.store.new.disk)
    c.in_err-put_entry.field-0.0 (err_from_is_err_and c.from_residual-in_err-put_entry.result c.from_residual-in_err-put_entry.ensures.1)
    (put_refused g.D.Disk c.args.self.now c.put_entry.new.self c.args.disk.now c.store.new.disk c.args.tree c.args.name.now c.in_err-put_entry.field-0.0 c.requires.new c.in_err-put_entry.ensures.refused.0
    (subst (λ (r : Records). RunsOn c.args.self.now.records r) (sym c.in_err-put_entry.ensures.records) c.in_ok-root.ensures.keeps.0)
    (subst (λ (r : Records). KeepsSaved g.D.Disk c.args.self.now.records r c.args.disk.now c.store.new.disk) (sym c.in_err-put_entry.ensures.records) c.in_ok-root.ensures.keeps.1)
    c.in_err-put_entry.ensures.refused.1)

pub returns-clause-ok : goal.returns-clause-ok
returns-clause-ok g c =
    on_ok_then c.save_entry.result c.save_entry.ensures.ok (λ set saved state at.
    let b = brought_at g.D.Disk c.args.self.now c.args.disk.now state at c.store.new.records c.store.new.disk c.args.name.now c.args.tree c.args.parts.now c.in_ok-root.root.page c.in_ok-root.root.slot c.count-nodes.result
    c.requires.new c.requires.chosen.in_order c.count-nodes.ensures c.in_ok-root.ensures.ok in
    kept_at g.D.Disk c.args.self.now c.args.disk.now state at c.store.new.records c.save_entry.new.self c.store.new.disk c.save_entry.new.disk c.put_entry.new.self.catalog c.args.name.now c.args.tree c.args.parts.now
    (record { root = record { page = c.in_ok-root.root.page; slot = c.in_ok-root.root.slot }; nodes = c.count-nodes.result }) c.in_ok-put_entry.ensures.ok c.in_ok-put_entry.ensures.rules
    (c.save_entry.ensures.form (ap (λ (r : Records). has_ended r) c.in_ok-put_entry.ensures.records ∙ (c.in_ok-root.ensures.keeps.0).after)) set.0 b.0 b.1 b.2
    (subst (λ (r : Records). ComesTo g.D.Disk r c.save_entry.new.self.records c.store.new.disk c.save_entry.new.disk (λ was now. SetsCatalog (catalog_bytes c.put_entry.new.self.catalog) was now)) c.in_ok-put_entry.ensures.records set.1))

pub returns-clause-refused : goal.returns-clause-refused
returns-clause-refused g c =
    if_err_both c.save_entry.result c.save_entry.ensures.removed c.save_entry.ensures.refused (λ e removed refused.
    save_refused g.D.Disk c.args.self.now c.save_entry.new.self c.args.disk.now c.store.new.disk c.save_entry.new.disk c.store.new.records c.put_entry.new.self.catalog c.args.tree c.args.parts.now c.args.name.now
    (record { root = record { page = c.in_ok-root.root.page; slot = c.in_ok-root.root.slot }; nodes = c.count-nodes.result }) e c.store.ensures.still c.in_ok-root.ensures.keeps.0 c.in_ok-root.ensures.keeps.1
    (λ saved state at. brought_at g.D.Disk c.args.self.now c.args.disk.now state at c.store.new.records c.store.new.disk c.args.name.now c.args.tree c.args.parts.now c.in_ok-root.root.page c.in_ok-root.root.slot c.count-nodes.result
    c.requires.new c.requires.chosen.in_order c.count-nodes.ensures c.in_ok-root.ensures.ok)
    c.in_ok-put_entry.ensures.ok c.in_ok-put_entry.ensures.rules
    (c.save_entry.ensures.form (ap (λ (r : Records). has_ended r) c.in_ok-put_entry.ensures.records ∙ (c.in_ok-root.ensures.keeps.0).after))
    (back_again c.args.self.now.catalog c.put_entry.new.self.catalog c.save_entry.new.self.catalog c.args.name.now _ c.requires.new c.in_ok-put_entry.ensures.ok c.in_ok-put_entry.ensures.rules removed.0 removed.1)
    (subst (λ (r : Records). NotStored g.D.Disk (λ was. catalog_needs (catalog_bytes c.put_entry.new.self.catalog) was) (λ was. ⊥) 0 e r c.save_entry.new.self.records c.store.new.disk c.save_entry.new.disk) c.in_ok-put_entry.ensures.records refused))
