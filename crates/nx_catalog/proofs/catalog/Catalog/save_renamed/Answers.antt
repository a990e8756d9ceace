use Rattle.std.proofs.Common.{◌≡◌, ap, sym, subst, ◌∙◌}
use Rattle.std.specs.Prelude.{OnOk, IfErr}
use Rattle.nx_records.specs.declared.error.StoreError.{StoreError}
use Rattle.nx_records.specs.Changes.{catalog_needs}
use Rattle.nx_records.specs.Refusals.{NotStored}
use Rattle.nx_catalog.specs.NameMap.{map_in}
use Rattle.nx_catalog.specs.Catalog.{Entries, entries_renamed, catalog_bytes}
use Rattle.nx_catalog.proofs.InsideLemmas.{shown_map}
use Rattle.nx_catalog.proofs.catalog.Catalog.save_renamed.Goals as goal

pub returns-clause-documents : goal.returns-clause-documents
returns-clause-documents g c =
    let here : map_in c.in-Ok.documents ≡ entries_renamed c.args.self.now.documents c.args.old_name.now c.args.new_name.now =
    c.in-Ok.ensures.moved ∙ ap (λ (d : Entries). entries_renamed d c.args.old_name.now c.args.new_name.now) (shown_map (record { view = c.self.view_is; are = c.self.invariant.0 })) in
    subst (λ (d : Entries). OnOk c.save_documents.result (c.save_documents.new.self.documents ≡ d)) here c.save_documents.ensures.documents

pub returns-clause-form : goal.returns-clause-form
returns-clause-form g c = c.save_documents.ensures.form (sym c.is_ended.ensures ∙ c.if-is_ended.false)

pub returns-clause-refused : goal.returns-clause-refused
returns-clause-refused g c =
    let here : map_in c.in-Ok.documents ≡ entries_renamed c.args.self.now.documents c.args.old_name.now c.args.new_name.now =
    c.in-Ok.ensures.moved ∙ ap (λ (d : Entries). entries_renamed d c.args.old_name.now c.args.new_name.now) (shown_map (record { view = c.self.view_is; are = c.self.invariant.0 })) in
    subst (λ (d : Entries). IfErr c.save_documents.result (λ (e : StoreError). NotStored g.D.Disk (λ was. catalog_needs (catalog_bytes (record { documents = d; rules = c.args.self.now.rules })) was) (λ was. ⊥) 0 e
    c.args.records.now c.save_documents.new.records c.args.disk.now c.save_documents.new.disk)) here c.save_documents.ensures.refused
