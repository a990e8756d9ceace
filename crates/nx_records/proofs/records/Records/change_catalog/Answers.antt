use Rattle.std.proofs.Common.{◌≡◌, ◌∙◌, ◌≤◌, ◌+◌, List, ℕ, length, sym, ap, subst, arith}
use Rattle.std.proofs.lemmas.Result.{err_from_is_err_and}
use Rattle.nx_host.proofs.DiskLemmas.{still_then}
use Rattle.nx_holdings.specs.declared.header.Header.{Header}
use Rattle.nx_holdings.specs.Holdings.{Held}
use Rattle.nx_links.proofs.ListLemmas.{catalog_from}
use Rattle.nx_records.specs.declared.error.StoreError.{StoreError}
use Rattle.nx_records.specs.Records.{StandsFor}
use Rattle.nx_records.specs.Refusals.{NotChanged}
use Rattle.nx_records.specs.Chains.{NoListFrom}
use Rattle.nx_records.specs.Patching.{with_patch}
use Rattle.nx_records.proofs.StandLemmas.{keeps_then, on_ok_then, if_err_then}
use Rattle.nx_records.proofs.RefusalLemmas.{err_passed}
use Rattle.nx_records.proofs.LeaveLemmas.{had_ended}
use Rattle.nx_records.proofs.WritingLemmas.{header_stands}
use Rattle.nx_records.proofs.RewritingLemmas.{alone_then}
use Rattle.nx_records.proofs.KnownLemmas.{found_step, found_behind, found_stands, found_runs, found_keeps, found_refused, found_memory, found_alone, find_refused, patch_is}
use Rattle.nx_records.proofs.records.Records.change_catalog.Goals as goal

pub returns-then-self-clause-refused : goal.returns-then-self-clause-refused
returns-then-self-clause-refused g c = had_ended c.if-self.true

pub returns-in_err-know_catalog-clause-refused : goal.returns-in_err-know_catalog-clause-refused
returns-in_err-know_catalog-clause-refused g c =
    let head = c.args.self.now.head in
    err_passed c.from_residual.result (λ (e : StoreError). NotChanged g.D.Disk (λ was. ⊥) 0 e c.args.self.now c.know_catalog.new.self c.args.disk.now c.know_catalog.new.disk) c.in_err-know_catalog.field-0.0
    (err_from_is_err_and c.from_residual.result c.from_residual.ensures.1)
    (find_refused g.D.Disk c.args.self.now c.know_catalog.new.self c.args.disk.now c.know_catalog.new.disk (NoListFrom head.pages head.catalog head.catalog_length) c.in_err-know_catalog.field-0.0 c.know_catalog.ensures.still
    (λ saved now stands none. none now.catalog.bytes (catalog_from stands.holds) (stands.holds).behind.catalog_length) c.in_err-know_catalog.ensures.refused)

pub returns-in_err-patch_catalog-clause-refused : goal.returns-in_err-patch_catalog-clause-refused
returns-in_err-patch_catalog-clause-refused g c =
    err_passed c.from_residual-in_err-patch_catalog.result (λ (e : StoreError). NotChanged g.D.Disk (λ was. ⊥) 0 e c.args.self.now c.patch_catalog.new.self c.args.disk.now c.patch_catalog.new.disk) c.in_err-patch_catalog.field-0.0
    (err_from_is_err_and c.from_residual-in_err-patch_catalog.result c.from_residual-in_err-patch_catalog.ensures.1)
    (found_refused g.D.Disk c.args.self.now c.know_catalog.new.self c.args.disk.now c.know_catalog.new.disk c.in_ok-know_catalog.ensures.stays c.know_catalog.ensures.still c.patch_catalog.new.self c.patch_catalog.new.disk c.if-self.false c.patch_catalog.ensures.still
    c.in_ok-know_catalog.ensures.ok c.in_err-patch_catalog.field-0.0 c.in_err-patch_catalog.ensures.refused)

pub returns-clause-refused : goal.returns-clause-refused
returns-clause-refused g c =
    let keeps = keeps_then {r0 = c.know_catalog.new.self} {r1 = c.patch_catalog.new.self} {r2 = c.store_header.new.self} c.in_ok-patch_catalog.ensures.keeps.0 c.store_header.ensures.keeps in
    if_err_then c.store_header.result c.store_header.ensures.refused (λ e same.
    found_memory g.D.Disk c.args.self.now c.know_catalog.new.self c.args.disk.now c.know_catalog.new.disk c.in_ok-know_catalog.ensures.stays c.know_catalog.ensures.still c.store_header.new.self c.patch_catalog.new.disk e same c.if-self.false c.patch_catalog.ensures.still keeps)

pub returns-clause-known : goal.returns-clause-known
returns-clause-known g c = on_ok_then c.store_header.result c.store_header.ensures.ok (λ ok none.
    c.in_ok-know_catalog.ensures.known (sym (c.store_header.ensures.known ∙ c.in_ok-patch_catalog.ensures.keeps.1) ∙ none))

pub returns-clause-ok : goal.returns-clause-ok
returns-clause-ok g c =
    let found = c.in_ok-know_catalog.ensures.stays in
    let known = c.store_header.ensures.known ∙ c.in_ok-patch_catalog.ensures.keeps.1 in
    let keeps = keeps_then {r0 = c.know_catalog.new.self} {r1 = c.patch_catalog.new.self} {r2 = c.store_header.new.self} c.in_ok-patch_catalog.ensures.keeps.0 c.store_header.ensures.keeps in
    on_ok_then c.store_header.result c.store_header.ensures.ok (λ ok saved now stands.
    let on = c.in_ok-know_catalog.ensures.ok saved now stands in
    let later : StandsFor g.D.Disk c.know_catalog.new.self c.know_catalog.new.disk saved now = found_stands g.D.Disk c.args.self.now c.know_catalog.new.self c.args.disk.now c.know_catalog.new.disk found c.know_catalog.ensures.still stands on in
    let within = c.requires.within in
    let long = (stands.holds).behind.catalog_length in (
      with_patch now c.args.at c.args.bytes.now,
      header_stands {r0 = c.know_catalog.new.self} {r2 = c.store_header.new.self} c.patch_catalog.new.self keeps c.patch_catalog.ensures.still c.store_header.new.self.head_range ok.0 ok.2 later
          (c.in_ok-patch_catalog.ensures.ok (stands.keeps).image now (found_step g.D.Disk c.args.self.now c.know_catalog.new.self c.args.disk.now c.know_catalog.new.disk found c.know_catalog.ensures.still (stands.keeps).step)
          (found_behind g.D.Disk c.args.self.now c.know_catalog.new.self c.args.disk.now c.know_catalog.new.disk found c.know_catalog.ensures.still (stands.keeps).image (stands.holds).behind) on) (λ some. known ∙ sym on),
      patch_is now c.args.at c.args.bytes.now (omega (arith, within, long)),
    ))

pub returns-clause-in_place : goal.returns-clause-in_place
returns-clause-in_place g c =
    let found = c.in_ok-know_catalog.ensures.stays in
    let place = c.in_ok-patch_catalog.ensures.in_place in
    on_ok_then c.store_header.result c.store_header.ensures.ok (λ ok. (
      (
        ap (λ (h : Header). h.free) ok.0 ∙ place.0.0 ∙ ap (λ (h : Header). h.free) found.2,
        ap (λ (h : Header). h.pages) ok.0 ∙ place.0.1 ∙ ap (λ (h : Header). h.pages) found.2,
      ),
      ap (λ (h : Header). h.catalog) ok.0 ∙ place.1 ∙ ap (λ (h : Header). h.catalog) found.2,
    ))

pub returns-clause-alone : goal.returns-clause-alone
returns-clause-alone g c =
    let found = c.in_ok-know_catalog.ensures.stays in
    on_ok_then c.store_header.result c.store_header.ensures.beside (λ beside saved now stands.
    let on = c.in_ok-know_catalog.ensures.ok saved now stands in
    let image = (stands.keeps).image in
    found_alone c.args.self.now c.know_catalog.new.self c.store_header.new.self image found.0
    (alone_then c.know_catalog.new.self c.patch_catalog.new.self c.store_header.new.self image
    (c.in_ok-patch_catalog.ensures.alone image now (found_step g.D.Disk c.args.self.now c.know_catalog.new.self c.args.disk.now c.know_catalog.new.disk found c.know_catalog.ensures.still (stands.keeps).step)
    (found_behind g.D.Disk c.args.self.now c.know_catalog.new.self c.args.disk.now c.know_catalog.new.disk found c.know_catalog.ensures.still (stands.keeps).image (stands.holds).behind) on) beside))

pub returns-clause-keeps : goal.returns-clause-keeps
returns-clause-keeps g c =
    let found = c.in_ok-know_catalog.ensures.stays in
    let keeps = keeps_then {r0 = c.know_catalog.new.self} {r1 = c.patch_catalog.new.self} {r2 = c.store_header.new.self} c.in_ok-patch_catalog.ensures.keeps.0 c.store_header.ensures.keeps in
    on_ok_then c.store_header.result c.store_header.ensures.ok (λ ok. (
      found_runs g.D.Disk c.args.self.now c.know_catalog.new.self c.args.disk.now c.know_catalog.new.disk found c.know_catalog.ensures.still c.store_header.new.self c.patch_catalog.new.disk keeps c.if-self.false,
      found_keeps g.D.Disk c.args.self.now c.know_catalog.new.self c.args.disk.now c.know_catalog.new.disk found c.know_catalog.ensures.still c.store_header.new.self c.patch_catalog.new.disk keeps c.patch_catalog.ensures.still,
      ok.1,
    ))
