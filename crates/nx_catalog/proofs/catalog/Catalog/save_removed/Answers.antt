use Rattle.std.proofs.Common.{◌≡◌, ◌<◌, ap, subst, ◌∙◌}
use Rattle.std.specs.FinMap.{remove}
use Rattle.nx_records.specs.Changes.{catalog_needs}
use Rattle.nx_records.specs.Refusals.{NotChanged}
use Rattle.nx_catalog.specs.NameMap.{map_in}
use Rattle.nx_catalog.specs.Catalog.{Entries, catalog_bytes}
use Rattle.nx_catalog.proofs.InsideLemmas.{shown_map}
use Rattle.nx_catalog.proofs.SavingLemmas.{removed_refused}
use Rattle.nx_catalog.proofs.catalog.Catalog.save_removed.Goals as goal

pub returns-in-Err-clause-refused : goal.returns-in-Err-clause-refused
returns-in-Err-clause-refused g c =
    let here : map_in c.in-Ok.documents ≡ remove c.args.self.now.documents c.args.name.now = c.in-Ok.ensures.left ∙ ap (λ (d : Entries). remove d c.args.name.now) (shown_map (record { view = c.self.view_is; are = c.self.invariant.0 })) in
    subst (λ (d : Entries). NotChanged g.D.Disk (λ was. was.free < catalog_needs (catalog_bytes (record { documents = d; rules = c.args.self.now.rules })) was) 0 c.not_full.result c.args.records.now c.not_full.new.records c.args.disk.now c.save_documents.new.disk) here
    (removed_refused g.D.Disk c.args.records.now c.save_documents.new.records c.args.disk.now c.save_documents.new.disk c.not_full.new.records
    (λ was. catalog_needs (catalog_bytes (record { documents = map_in c.in-Ok.documents; rules = c.args.self.now.rules })) was) c.in-Err.error c.not_full.result c.not_full.ensures.full c.not_full.ensures.other c.in-Err.ensures.refused)
