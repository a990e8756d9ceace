use Rattle.std.proofs.Common.{◌≡◌, true}
use Rattle.std.proofs.lemmas.Result.{err_from_is_err_and}
use Rattle.nx_records.specs.declared.error.StoreError.{StoreError}
use Rattle.nx_records.specs.Chains.{MayLead, NotLed}
use Rattle.nx_records.proofs.StandLemmas.{keeps_then}
use Rattle.nx_records.proofs.RefusalLemmas.{err_passed}
use Rattle.nx_records.proofs.WritingLemmas.{put_steps, take_led}
use Rattle.nx_records.proofs.RoomLemmas.{taken_memory}
use Rattle.nx_records.specs.Records.{has_free}
use Rattle.nx_records.specs.declared.error.StoreError.TheVariants as error
use Rattle.nx_records.proofs.records.Records.put_link.Goals as goal

pub returns-in_err-page-clause-refused : goal.returns-in_err-page-clause-refused
returns-in_err-page-clause-refused g c =
    err_passed c.from_residual.result (λ (e : StoreError). NotLed g.D.Disk (MayLead c.args.next c.args.content.now) (λ links held. held.free ≡ 0) c.args.named e c.args.self.now c.take.new.self c.args.disk.now c.take.new.disk)
    c.in_err-page.field-0.0 (err_from_is_err_and c.from_residual.result c.from_residual.ensures.1)
    (take_led g.D.Disk c.args.self.now c.take.new.self c.args.disk.now c.take.new.disk c.args.named (MayLead c.args.next c.args.content.now) c.in_err-page.field-0.0 c.requires.runs c.in_err-page.ensures.refused)

pub returns-clause-keeps : goal.returns-clause-keeps
returns-clause-keeps g c = keeps_then {r0 = c.args.self.now} {r1 = c.take.new.self} {r2 = c.store.new.self} c.in_ok-page.ensures.keeps.0 c.store.ensures.keeps

pub returns-clause-ok : goal.returns-clause-ok
returns-clause-ok g c =
    put_steps g.D.Disk c.args.self.now c.take.new.self c.store.new.self c.args.disk.now c.args.content.now c.chain_page-bytes.result.bytes (c.in_ok-page.ensures.ok, c.in_ok-page.ensures.keeps.1) c.in_ok-store.ensures.ok
    c.chain_page-bytes.ensures c.requires.some c.requires.few

pub returns-in_err-page-clause-memory : goal.returns-in_err-page-clause-memory
returns-in_err-page-clause-memory g c =
    err_passed c.from_residual.result (λ (e : StoreError). e ≡ error.Memory → has_free c.args.self.now ≡ true) c.in_err-page.field-0.0 (err_from_is_err_and c.from_residual.result c.from_residual.ensures.1)
    (taken_memory g.D.Disk c.args.named c.args.self.now c.take.new.self c.args.disk.now c.take.new.disk c.in_err-page.field-0.0 c.in_err-page.ensures.refused)

pub returns-in_err-store-clause-memory : goal.returns-in_err-store-clause-memory
returns-in_err-store-clause-memory g c =
    err_passed c.from_residual-in_err-store.result (λ (e : StoreError). e ≡ error.Memory → has_free c.args.self.now ≡ true) c.in_err-store.field-0.0
    (err_from_is_err_and c.from_residual-in_err-store.result c.from_residual-in_err-store.ensures.1) (λ is. c.in_ok-page.ensures.free)
