use Rattle.std.proofs.Common.{subst}
use Rattle.std.specs.Prelude.{OnOk, IfErr}
use Rattle.std.specs.FinMap.{insert}
use Rattle.nx_records.specs.declared.error.StoreError.{StoreError}
use Rattle.nx_records.specs.Records.{ComesTo}
use Rattle.nx_records.specs.Changes.{catalog_needs}
use Rattle.nx_records.specs.Refusals.{NotStored}
use Rattle.nx_catalog.specs.Catalog.{Contents, catalog_bytes}
use Rattle.nx_catalog.specs.Saving.{SavesEntry}
use Rattle.nx_catalog.proofs.catalog.Catalog.save_entry.Goals as goal

pub returns-in-Some-clause-ok : goal.returns-in-Some-clause-ok
returns-in-Some-clause-ok g c =
    subst (λ (k : Contents). OnOk c.save_at.result (ComesTo g.D.Disk c.args.records.now c.save_at.new.records c.args.disk.now c.save_at.new.disk (λ was now. SavesEntry k c.save_at.new.self was now))) c.place_of.ensures.stays c.save_at.ensures.ok

pub returns-in-Some-clause-refused : goal.returns-in-Some-clause-refused
returns-in-Some-clause-refused g c =
    subst (λ (k : Contents). IfErr c.save_at.result (λ (e : StoreError). NotStored g.D.Disk (λ was. catalog_needs (catalog_bytes (record { documents = insert k.documents c.args.name.now c.args.entry; rules = k.rules })) was) (λ was. ⊥) 0 e
    c.args.records.now c.save_at.new.records c.args.disk.now c.save_at.new.disk)) c.place_of.ensures.stays c.save_at.ensures.refused

pub returns-in-None-clause-ok : goal.returns-in-None-clause-ok
returns-in-None-clause-ok g c =
    subst (λ (k : Contents). OnOk c.save_set.result (ComesTo g.D.Disk c.args.records.now c.save_set.new.records c.args.disk.now c.save_set.new.disk (λ was now. SavesEntry k c.save_set.new.self was now))) c.place_of.ensures.stays c.save_set.ensures.ok

pub returns-in-None-clause-refused : goal.returns-in-None-clause-refused
returns-in-None-clause-refused g c =
    subst (λ (k : Contents). IfErr c.save_set.result (λ (e : StoreError). NotStored g.D.Disk (λ was. catalog_needs (catalog_bytes (record { documents = insert k.documents c.args.name.now c.args.entry; rules = k.rules })) was) (λ was. ⊥) 0 e
    c.args.records.now c.save_set.new.records c.args.disk.now c.save_set.new.disk)) c.place_of.ensures.stays c.save_set.ensures.refused
