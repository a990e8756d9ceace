use Rattle.std.proofs.Common.{ℕ, List, length, ap, subst, ◌∙◌, arith}
use Rattle.std.specs.Prelude.{OnOk, IfErr}
use Rattle.nx_records.specs.declared.error.StoreError.{StoreError}
use Rattle.nx_records.specs.Records.{ComesTo}
use Rattle.nx_records.specs.Changes.{SetsCatalog, catalog_needs}
use Rattle.nx_records.specs.Refusals.{NotStored}
use Rattle.nx_catalog.proofs.LengthLemmas.{catalog_length}
use Rattle.nx_catalog.proofs.catalog.Catalog.save.Goals as goal

pub set_catalog-requires : goal.set_catalog-requires
set_catalog-requires g c =
    let same = ap (λ (b : List ℕ). length b) (c.as_slice.ensures ∙ c.in-Ok.ensures.bytes) in
    let size = catalog_length c.args.self.now in
    omega (arith, same, size)

pub returns-clause-ok : goal.returns-clause-ok
returns-clause-ok g c =
    subst (λ (b : List ℕ). OnOk c.set_catalog.result (ComesTo g.D.Disk c.args.records.now c.set_catalog.new.self c.args.disk.now c.set_catalog.new.disk (λ was now. SetsCatalog b was now)))
    (c.as_slice.ensures ∙ c.in-Ok.ensures.bytes) c.set_catalog.ensures.ok

pub returns-clause-refused : goal.returns-clause-refused
returns-clause-refused g c =
    subst (λ (b : List ℕ). IfErr c.set_catalog.result (λ (e : StoreError). NotStored g.D.Disk (λ was. catalog_needs b was) (λ was. ⊥) 0 e c.args.records.now c.set_catalog.new.self c.args.disk.now c.set_catalog.new.disk))
    (c.as_slice.ensures ∙ c.in-Ok.ensures.bytes) c.set_catalog.ensures.refused
