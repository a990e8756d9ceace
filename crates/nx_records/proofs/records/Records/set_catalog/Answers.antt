use Rattle.std.proofs.Common.{◌∙◌, ◌+◌, ◌<◌, List, ℕ, length, ap, arith, inr}
use Rattle.std.proofs.lemmas.Result.{err_from_is_err_and}
use Rattle.nx_holdings.specs.Holdings.{Link, chain_count}
use Rattle.nx_links.specs.Beside.{HeldBeside}
use Rattle.nx_links.proofs.BesideLemmas.{chain_count_of}
use Rattle.nx_links.proofs.JoinLemmas.{all_but, places_but, enter}
use Rattle.nx_wal.specs.declared.wal.Wal.{Wal}
use Rattle.nx_wal.specs.Wal.{pending}
use Rattle.nx_replay.specs.Log.{entry_pages}
use Rattle.nx_records.specs.declared.error.StoreError.{StoreError}
use Rattle.nx_records.specs.Changes.{SetsCatalog, catalog_needs}
use Rattle.nx_records.specs.Refusals.{NotStored}
use Rattle.nx_records.specs.Chains.{IsChainOf}
use Rattle.nx_records.proofs.StandLemmas.{keeps_then, forgotten, saved_kept, steps_lead, on_ok_then, if_err_then}
use Rattle.nx_records.proofs.RefusalLemmas.{err_passed, memory_stored, runs_on}
use Rattle.nx_records.proofs.WritingLemmas.{led_stored}
use Rattle.nx_records.proofs.RewritingLemmas.{alone_then, catalog_alone, catalog_steps, named_keeps}
use Rattle.nx_records.proofs.LeaveLemmas.{had_ended}
use Rattle.nx_records.proofs.InPlaceLemmas.{takes_none_then}
use Rattle.nx_holdings.specs.declared.header.Header.{Header}
use Rattle.nx_records.proofs.records.Records.set_catalog.Goals as goal

pub returns-in_err-first-clause-refused : goal.returns-in_err-first-clause-refused
returns-in_err-first-clause-refused g c =
    let head = c.args.self.now.head in
    err_passed c.from_residual.result (λ (e : StoreError). NotStored g.D.Disk (λ was. catalog_needs c.args.bytes.now was) (λ was. ⊥) 0 e c.args.self.now c.rewrite_catalog.new.self c.args.disk.now c.rewrite_catalog.new.disk)
    c.in_err-first.field-0.0 (err_from_is_err_and c.from_residual.result c.from_residual.ensures.1)
    (led_stored g.D.Disk c.args.self.now c.rewrite_catalog.new.self c.args.disk.now c.rewrite_catalog.new.disk 0 (IsChainOf head.catalog head.catalog_length)
    (λ was. catalog_needs c.args.bytes.now was) (λ (links : List Link) (held : HeldBeside). held.free + length links < chain_count (length c.args.bytes.now)) (λ was. ⊥) c.in_err-first.field-0.0 c.if-self.false c.rewrite_catalog.ensures.still
    (λ was held holds.
    let entered = enter holds head.catalog held.catalog.bytes holds.catalog in
    let count = chain_count_of entered.holds in
    let long = ap (λ (b : List ℕ). chain_count (length b)) entered.are in
    let length_is = ap length entered.are ∙ holds.catalog_length in (
      entered.links,
      record { records = held.records; lists = all_but holds head.catalog; places = places_but holds head.catalog; free = held.free },
      entered.holds,
      record { begins = entered.here; long = length_is; count = count ∙ ap chain_count length_is },
      λ few. omega (arith, count, long, few),
    ))
    c.in_err-first.ensures.refused)

pub returns-clause-ok : goal.returns-clause-ok
returns-clause-ok g c =
    let stays = c.name_catalog.ensures.stays in
    let some = c.requires in
    on_ok_then c.store_header.result c.store_header.ensures.ok (λ ok.
    steps_lead g.D.Disk c.args.self.now c.name_catalog.new.self c.store_header.new.self c.args.disk.now c.rewrite_catalog.new.disk (λ was now. SetsCatalog c.args.bytes.now was now)
    (named_keeps {r0 = c.args.self.now} {r1 = c.rewrite_catalog.new.self} c.name_catalog.new.self c.in_ok-first.first (length c.args.bytes.now) c.in_ok-first.ensures.keeps c.name_catalog.ensures.head c.name_catalog.ensures.stays c.name_catalog.ensures.forgets) c.store_header.ensures.keeps c.rewrite_catalog.ensures.still c.store_header.new.self.head_range ok.0 ok.2
    (catalog_steps g.D.Disk c.args.self.now c.rewrite_catalog.new.self c.name_catalog.new.self c.args.disk.now c.in_ok-first.first c.args.bytes.now (omega (arith, some))
    c.in_ok-first.ensures.ok (stays.0, c.name_catalog.ensures.head))
    (inr (forgotten c.store_header.ensures.keeps.known c.name_catalog.ensures.forgets)))

pub returns-clause-alone : goal.returns-clause-alone
returns-clause-alone g c =
    let stays = c.name_catalog.ensures.stays in
    on_ok_then c.store_header.result c.store_header.ensures.beside (λ beside saved now stands same.
    alone_then c.args.self.now c.rewrite_catalog.new.self c.store_header.new.self (stands.keeps).image
    (catalog_alone g.D.Disk c.args.self.now c.rewrite_catalog.new.self c.name_catalog.new.self c.args.disk.now c.in_ok-first.first c.args.bytes.now c.in_ok-first.ensures.ok
    (stands.keeps).image now (stands.keeps).step (stands.holds).behind same)
    (λ p other. beside p other ∙ ap (λ (w : Wal). entry_pages (pending w) p) stays.0))

pub returns-clause-keeps : goal.returns-clause-keeps
returns-clause-keeps g c =
    let keeps = keeps_then {r0 = c.args.self.now} {r1 = c.name_catalog.new.self} {r2 = c.store_header.new.self} (named_keeps {r0 = c.args.self.now} {r1 = c.rewrite_catalog.new.self} c.name_catalog.new.self c.in_ok-first.first (length c.args.bytes.now) c.in_ok-first.ensures.keeps c.name_catalog.ensures.head c.name_catalog.ensures.stays c.name_catalog.ensures.forgets) c.store_header.ensures.keeps in
    on_ok_then c.store_header.result c.store_header.ensures.ok (λ ok. (runs_on c.if-self.false keeps, saved_kept keeps c.rewrite_catalog.ensures.still, ok.1))

pub returns-clause-refused : goal.returns-clause-refused
returns-clause-refused g c =
    let keeps = keeps_then {r0 = c.args.self.now} {r1 = c.name_catalog.new.self} {r2 = c.store_header.new.self} (named_keeps {r0 = c.args.self.now} {r1 = c.rewrite_catalog.new.self} c.name_catalog.new.self c.in_ok-first.first (length c.args.bytes.now) c.in_ok-first.ensures.keeps c.name_catalog.ensures.head c.name_catalog.ensures.stays c.name_catalog.ensures.forgets) c.store_header.ensures.keeps in
    if_err_then c.store_header.result c.store_header.ensures.refused (λ e same.
    memory_stored g.D.Disk c.args.self.now c.store_header.new.self c.args.disk.now c.rewrite_catalog.new.disk 0 (λ was. catalog_needs c.args.bytes.now was) (λ was. ⊥) e
    same c.if-self.false c.rewrite_catalog.ensures.still keeps)

pub returns-then-self-clause-refused : goal.returns-then-self-clause-refused
returns-then-self-clause-refused g c = had_ended c.if-self.true

pub returns-clause-in_place : goal.returns-clause-in_place
returns-clause-in_place g c = on_ok_then c.store_header.result c.store_header.ensures.ok (λ ok same.
    let kept = c.in_ok-first.ensures.in_place same in
    let head = c.name_catalog.ensures.head in (
      takes_none_then c.args.self.now c.rewrite_catalog.new.self c.store_header.new.self kept.0
          (ap (λ (h : Header). h.free) ok.0 ∙ ap (λ (h : Header). h.free) head, ap (λ (h : Header). h.pages) ok.0 ∙ ap (λ (h : Header). h.pages) head),
      ap (λ (h : Header). h.catalog) ok.0 ∙ ap (λ (h : Header). h.catalog) head ∙ kept.1,
    ))
