use Rattle.std.proofs.Common.{List, ap, ap₂, subst, ◌∙◌}
use Rattle.nx_matrix.specs.declared.rule.Rule.{Rule}
use Rattle.std.specs.FinMap.{contains_key}
use Rattle.nx_records.specs.Changes.{catalog_needs}
use Rattle.nx_records.specs.Refusals.{NotStored}
use Rattle.nx_catalog.specs.Catalog.{Contents, Entries, catalog_bytes}
use Rattle.nx_catalog.proofs.SavingLemmas.{there_then}
use Rattle.nx_catalog.proofs.PlaceLemmas.{set_saved}
use Rattle.nx_catalog.proofs.catalog.Catalog.save_set.Goals as goal

pub put_back-requires : goal.put_back-requires
put_back-requires g c = ap (λ (d : Entries). contains_key d c.args.name.now) c.in-Ok.ensures.documents ∙ there_then c.args.self.now.documents c.args.name.now c.args.entry

pub returns-in-Ok-save-clause-ok : goal.returns-in-Ok-save-clause-ok
returns-in-Ok-save-clause-ok g c saved now stands =
    let came = c.in-Ok-save.ensures.ok saved now stands in
    (came.0, came.1, set_saved c.args.self.now c.set.new.self now came.0 came.2)

pub returns-in-Err-clause-refused : goal.returns-in-Err-clause-refused
returns-in-Err-clause-refused g c =
    let same = ap₂ (λ (d : Entries) (rs : List Rule). record { documents = d; rules = rs }) c.in-Ok.ensures.documents c.set.ensures.rules in
    subst (λ (k : Contents). NotStored g.D.Disk (λ was. catalog_needs (catalog_bytes k) was) (λ was. ⊥) 0 c.in-Err.error c.args.records.now c.save.new.records c.args.disk.now c.save.new.disk) same c.in-Err.ensures.refused
