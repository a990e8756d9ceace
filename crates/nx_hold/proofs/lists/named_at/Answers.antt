use Rattle.std.proofs.Common.{◌≡◌, ap, ◌∙◌, sym, Some, None}
use Rattle.std.proofs.lemmas.Result.{err_from_is_err_and}
use Rattle.nx_records.specs.declared.error.StoreError.{StoreError}
use Rattle.nx_records.specs.Refusals.{NotRead}
use Rattle.nx_records.proofs.RefusalLemmas.{err_passed}
use Rattle.nx_hold.specs.Pieces.{HoldsNone}
use Rattle.nx_hold.specs.Changes.{place_of}
use Rattle.nx_hold.proofs.MapLemmas.{no_record, undecoded}
use Rattle.nx_hold.proofs.RefusalLemmas.{read_fewer, read_damaged}
use Rattle.nx_hold.proofs.lists.named_at.Goals as goal

pub returns-in_err-bytes-clause-refused : goal.returns-in_err-bytes-clause-refused
returns-in_err-bytes-clause-refused g c =
    err_passed c.from_residual.result (λ (e : StoreError). NotRead g.D.Disk (λ now. HoldsNone now (place_of c.args.rid)) c.args.rid.page e c.args.records.now c.read.new.self c.args.disk.now c.read.new.disk) c.in_err-bytes.field-0.0
    (err_from_is_err_and c.from_residual.result c.from_residual.ensures.1)
    (read_fewer g.D.Disk (λ now. now.records c.args.rid.page c.args.rid.slot ≡ None) (λ now. HoldsNone now (place_of c.args.rid)) c.args.rid.page c.args.rid.page c.args.records.now c.read.new.self c.args.disk.now c.read.new.disk
    (λ held none. no_record none) c.in_err-bytes.field-0.0 c.in_err-bytes.ensures.refused)

pub returns-in_default-clause-refused : goal.returns-in_default-clause-refused
returns-in_default-clause-refused g c =
    read_damaged g.D.Disk (λ now. HoldsNone now (place_of c.args.rid)) c.args.rid.page {r0 = c.args.records.now} {r1 = c.read.new.self} {r2 = c.damaged.new.records} c.args.disk.now c.read.new.disk c.damaged.result
    c.damaged.ensures.result c.in_ok-bytes.ensures.ok.0 c.in_ok-bytes.ensures.ok.1 c.damaged.ensures.ends
    (λ saved now stands. undecoded (c.in_ok-bytes.ensures.ok.2 saved now stands ∙ ap Some (sym c.as_slice.ensures)) c.in_default.ensures)

pub returns-clause-ok : goal.returns-clause-ok
returns-clause-ok g c =
    let told = c.in-Some.ensures in (
      told.0,
      c.in_ok-bytes.ensures.ok.0,
      c.in_ok-bytes.ensures.ok.1,
      c.list_of.ensures told.0 told.2,
      λ saved now stands. record { bytes = c.in_ok-bytes.ensures.ok.2 saved now stands ∙ ap Some (sym c.as_slice.ensures ∙ told.1.2); valid = told.1.0; numbers = told.1.1 },
    )
