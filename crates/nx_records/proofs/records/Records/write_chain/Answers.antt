use Rattle.std.proofs.Common.{◌≡◌, ◌∙◌, inl, inr, true, ◌*◌, ◌-◌, ◌<◌, ◌≤◌, List, [], ℕ, length, drop, refl, sym, ap, arith}
use Rattle.std.proofs.lemmas.List.{drop_all}
use Rattle.std.proofs.lemmas.Result.{err_from_is_err_and}
use Rattle.nx_host.proofs.DiskLemmas.{none_still, still_then}
use Rattle.nx_holdings.specs.Holdings.{Link, next_of, content_of, chain_count}
use Rattle.nx_links.specs.Beside.{HeldBeside}
use Rattle.nx_records.specs.declared.error.StoreError.{StoreError}
use Rattle.nx_records.specs.Chains.{MayLead, IsWritten, NotLed, link_before}
use Rattle.nx_records.proofs.StandLemmas.{keeps_then}
use Rattle.nx_records.proofs.RefusalLemmas.{err_passed, keeps_self}
use Rattle.nx_records.proofs.WritingLemmas.{steps_none, steps_on, steps_weaker, led_later, written_begins, written_ends, written_few}
use Rattle.nx_records.specs.Records.{has_free}
use Rattle.nx_records.specs.declared.error.StoreError.TheVariants as error
use Rattle.nx_records.specs.declared.records.Records.{Records}
use Rattle.nx_records.proofs.records.Records.write_chain.Goals as goal

pub loop-left-init : goal.loop-left-init
loop-left-init g c =
    let count : c.chain_pages-left.result ≡ chain_count (length c.args.bytes.now) = c.chain_pages-left.ensures in
    record {
      keeps = keeps_self c.args.self.now c.args.self.now c.requires refl;
      still = none_still;
      within = omega (arith, count);
      reads = omega (arith, count);
      free = inl (refl, count);
      steps = steps_none c.args.self.now (λ (links : List Link). links ≡ []) (λ (links more : List Link). IsWritten 0 c.chain_pages-left.result c.args.bytes.now more)
          (λ links none. record {
            first = ap next_of none;
            are = ap content_of none ∙ sym (drop_all (c.chain_pages-left.result * 8184) c.args.bytes.now (omega (arith, count)));
            count = let empty = ap (λ (ls : List Link). length ls) none in omega (arith, empty, count);
          });
    }

pub returns-in_err-page-clause-refused : goal.returns-in_err-page-clause-refused
returns-in_err-page-clause-refused g c =
    let one = c.loop-left.invariant in
    let some : 1 ≤ c.loop-left.left = let more = c.loop-left-test.true in omega (arith, more) in
    err_passed c.from_residual.result (λ (e : StoreError). NotLed g.D.Disk (λ links. links ≡ []) (λ links held. held.free < chain_count (length c.args.bytes.now)) c.args.named e c.args.self.now c.put_link.new.self c.args.disk.now c.put_link.new.disk)
    c.in_err-page.field-0.0 (err_from_is_err_and c.from_residual.result c.from_residual.ensures.1)
    (led_later g.D.Disk c.args.self.now c.loop-left.self c.put_link.new.self c.args.disk.now c.loop-left.disk c.put_link.new.disk c.args.named (λ (links : List Link). links ≡ [])
    (λ (links more : List Link). IsWritten c.loop-left.next c.loop-left.left c.args.bytes.now more) (MayLead c.loop-left.next c.content_at-content.result.now)
    (λ (links : List Link) (held : HeldBeside). held.free < chain_count (length c.args.bytes.now)) (λ (links : List Link) (held : HeldBeside). held.free ≡ 0) c.in_err-page.field-0.0 c.requires
    (one.keeps, one.still, one.steps) (
      λ links mid none comes. written_begins some c.content_at-content.ensures comes,
      λ links mid held next none comes keeps zero. written_few some none comes keeps zero,
    )
    c.in_err-page.ensures.refused)

pub returns-in_err-page-clause-still : goal.returns-in_err-page-clause-still
returns-in_err-page-clause-still g c = still_then c.loop-left.invariant.still c.put_link.ensures.still

pub loop-left-preserved : goal.loop-left-preserved
loop-left-preserved g c =
    let one = c.loop-left.invariant in
    let some : 1 ≤ c.loop-left.left = let more = c.loop-left-test.true in omega (arith, more) in
    record {
      keeps = keeps_then {r0 = c.args.self.now} {r1 = c.loop-left.self} {r2 = c.put_link.new.self} one.keeps c.in_ok-page.ensures.keeps;
      still = still_then one.still c.put_link.ensures.still;
      within = let within = one.within in omega (arith, within);
      reads = let so_far = one.reads in let once = c.put_link.ensures.reads in omega (arith, so_far, once, some);
      free = inr (elim one.free [ inl first ↦ ap (λ (r : Records). has_free r) (sym first.0) ∙ c.in_ok-page.ensures.free | inr free ↦ free ]);
      steps = steps_on g.D.Disk c.args.self.now c.loop-left.self c.put_link.new.self c.args.disk.now c.loop-left.disk (λ (links : List Link). links ≡ [])
          (λ (links more : List Link). IsWritten c.loop-left.next c.loop-left.left c.args.bytes.now more) (MayLead c.loop-left.next c.content_at-content.result.now)
          (λ (links more : List Link). more ≡ link_before c.in_ok-page.page c.content_at-content.result.now links) (λ (links more : List Link). IsWritten c.in_ok-page.page (c.loop-left.left - 1) c.args.bytes.now more)
          one.keeps one.still one.steps c.in_ok-page.ensures.ok
          (λ links mid comes. written_begins some c.content_at-content.ensures comes)
          (λ links mid more comes goes. written_ends c.in_ok-page.page more some c.content_at-content.ensures comes goes);
    }

pub returns-clause-ok : goal.returns-clause-ok
returns-clause-ok g c =
    let none : c.loop-left.left ≡ 0 = let past = c.loop-left-test.false in omega (arith, past) in
    steps_weaker c.args.self.now c.loop-left.self (λ (links : List Link). links ≡ []) (λ (links more : List Link). IsWritten c.loop-left.next c.loop-left.left c.args.bytes.now more)
    (λ (links more : List Link). (next_of more ≡ c.loop-left.next) × (content_of more ≡ c.args.bytes.now)) c.loop-left.invariant.steps
    (λ pages next links more holds starts comes. (comes.first, comes.are ∙ ap (λ (n : ℕ). drop (n * 8184) c.args.bytes.now) none))

pub returns-in_err-page-clause-memory : goal.returns-in_err-page-clause-memory
returns-in_err-page-clause-memory g c =
    err_passed c.from_residual.result (λ (e : StoreError). e ≡ error.Memory → has_free c.args.self.now ≡ true) c.in_err-page.field-0.0 (err_from_is_err_and c.from_residual.result c.from_residual.ensures.1)
    (λ is. elim c.loop-left.invariant.free [ inl first ↦ ap (λ (r : Records). has_free r) (sym first.0) ∙ c.in_err-page.ensures.memory is | inr free ↦ free ])

pub returns-clause-free : goal.returns-clause-free
returns-clause-free g c some =
    elim c.loop-left.invariant.free [
      | inl first ↦ let none = c.loop-left-test.false in let count = first.1 in absurd (omega (arith, none, count, some))
      | inr free ↦ free
    ]
