use Rattle.std.proofs.Common.{ℕ, List, subst, sym, ◌∙◌}
use Rattle.std.proofs.lemmas.Result.{err_from_is_err_and}
use Rattle.nx_records.specs.declared.error.StoreError.{StoreError}
use Rattle.nx_records.specs.Refusals.{NotRead}
use Rattle.nx_records.proofs.RefusalLemmas.{err_passed}
use Rattle.nx_hold.proofs.RefusalLemmas.{read_fewer, read_damaged}
use Rattle.nx_catalog.specs.Catalog.{Contents, IsCatalog}
use Rattle.nx_catalog.proofs.store.load_catalog.Goals as goal

pub returns-in_err-bytes-clause-refused : goal.returns-in_err-bytes-clause-refused
returns-in_err-bytes-clause-refused g c =
    err_passed c.from_residual.result (λ (e : StoreError). NotRead g.D.Disk (λ now. (contents : Contents) → IsCatalog now.catalog.bytes contents → ⊥) 0 e c.args.records.now c.read_catalog.new.self c.args.disk.now c.read_catalog.new.disk) c.in_err-bytes.field-0.0
    (err_from_is_err_and c.from_residual.result c.from_residual.ensures.1)
    (read_fewer g.D.Disk (λ now. ⊥) (λ now. (contents : Contents) → IsCatalog now.catalog.bytes contents → ⊥) 0 0 c.args.records.now c.read_catalog.new.self c.args.disk.now c.read_catalog.new.disk
    (λ held none. absurd none) c.in_err-bytes.field-0.0 c.in_err-bytes.ensures.refused)

pub returns-in_default-read-clause-refused : goal.returns-in_default-read-clause-refused
returns-in_default-read-clause-refused g c =
    let none = rw c.in_default-read.is at c.in-Ok.ensures in
    read_damaged g.D.Disk (λ now. (contents : Contents) → IsCatalog now.catalog.bytes contents → ⊥) 0 {r0 = c.args.records.now} {r1 = c.read_catalog.new.self} {r2 = c.damaged.new.records} c.args.disk.now c.read_catalog.new.disk c.damaged.result
    c.damaged.ensures.result c.in_ok-bytes.ensures.ok.0 c.in_ok-bytes.ensures.ok.1 c.damaged.ensures.ends
    (λ saved now stands contents is. none contents (subst (λ (b : List ℕ). IsCatalog b contents) (c.in_ok-bytes.ensures.ok.3 saved now stands ∙ sym c.as_slice.ensures) is))

pub returns-clause-ok : goal.returns-clause-ok
returns-clause-ok g c =
    let read = rw c.in-Some.is at c.in-Ok.ensures in (
      c.in_ok-bytes.ensures.ok.0,
      c.in_ok-bytes.ensures.ok.1,
      λ saved now stands. subst (λ (b : List ℕ). IsCatalog b c.in-Some.catalog) (c.as_slice.ensures ∙ sym (c.in_ok-bytes.ensures.ok.3 saved now stands)) read,
    )
