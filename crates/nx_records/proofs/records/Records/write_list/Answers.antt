use Rattle.std.proofs.Common.{◌≡◌, ◌<◌, List, [], length, refl, true, inl}
use Rattle.std.proofs.lemmas.Result.{err_from_is_err_and}
use Rattle.nx_holdings.specs.Holdings.{Link, chain_count}
use Rattle.nx_links.specs.Beside.{HeldBeside}
use Rattle.nx_links.proofs.JoinLemmas.{all_lists, all_places, enter_none}
use Rattle.nx_records.specs.declared.error.StoreError.{StoreError}
use Rattle.nx_records.specs.Changes.{WritesList}
use Rattle.nx_records.specs.Refusals.{NotStored}
use Rattle.nx_records.proofs.StandLemmas.{keeps_then, saved_kept, steps_lead}
use Rattle.nx_records.proofs.RefusalLemmas.{err_passed, memory_stored, runs_on}
use Rattle.nx_records.proofs.WritingLemmas.{led_stored, written_steps}
use Rattle.nx_records.proofs.LeaveLemmas.{had_ended}
use Rattle.nx_records.specs.Records.{has_free}
use Rattle.nx_records.specs.declared.error.StoreError.TheVariants as error
use Rattle.nx_records.proofs.records.Records.write_list.Goals as goal

pub returns-in_err-first-clause-refused : goal.returns-in_err-first-clause-refused
returns-in_err-first-clause-refused g c =
    err_passed c.from_residual.result (λ (e : StoreError). NotStored g.D.Disk (λ was. chain_count (length c.args.bytes.now)) (λ was. ⊥) 0 e c.args.self.now c.write_chain.new.self c.args.disk.now c.write_chain.new.disk)
    c.in_err-first.field-0.0 (err_from_is_err_and c.from_residual.result c.from_residual.ensures.1)
    (led_stored g.D.Disk c.args.self.now c.write_chain.new.self c.args.disk.now c.write_chain.new.disk 0 (λ (links : List Link). links ≡ []) (λ was. chain_count (length c.args.bytes.now))
    (λ (links : List Link) (held : HeldBeside). held.free < chain_count (length c.args.bytes.now)) (λ was. ⊥) c.in_err-first.field-0.0 c.if-self.false c.write_chain.ensures.still
    (λ was held holds. ([], record { records = held.records; lists = all_lists holds; places = all_places holds; free = held.free }, enter_none holds, refl, λ few. few)) c.in_err-first.ensures.refused)

pub returns-in_err-store_header-clause-refused : goal.returns-in_err-store_header-clause-refused
returns-in_err-store_header-clause-refused g c =
    err_passed c.from_residual-in_err-store_header.result (λ (e : StoreError). NotStored g.D.Disk (λ was. chain_count (length c.args.bytes.now)) (λ was. ⊥) 0 e c.args.self.now c.store_header.new.self c.args.disk.now c.write_chain.new.disk)
    c.in_err-store_header.field-0.0 (err_from_is_err_and c.from_residual-in_err-store_header.result c.from_residual-in_err-store_header.ensures.1)
    (memory_stored g.D.Disk c.args.self.now c.store_header.new.self c.args.disk.now c.write_chain.new.disk 0 (λ was. chain_count (length c.args.bytes.now)) (λ was. ⊥) c.in_err-store_header.field-0.0
    c.in_err-store_header.ensures.refused c.if-self.false c.write_chain.ensures.still
    (keeps_then {r0 = c.args.self.now} {r1 = c.write_chain.new.self} {r2 = c.store_header.new.self} c.in_ok-first.ensures.keeps c.store_header.ensures.keeps))

pub returns-clause-ok : goal.returns-clause-ok
returns-clause-ok g c =
    steps_lead g.D.Disk c.args.self.now c.write_chain.new.self c.store_header.new.self c.args.disk.now c.write_chain.new.disk (λ was now. WritesList c.in_ok-first.first c.args.bytes.now was now)
    c.in_ok-first.ensures.keeps c.store_header.ensures.keeps c.write_chain.ensures.still c.store_header.new.self.head_range c.in_ok-store_header.ensures.ok.0 c.in_ok-store_header.ensures.ok.2
    (written_steps g.D.Disk c.args.self.now c.write_chain.new.self c.args.disk.now c.in_ok-first.first c.args.bytes.now c.requires c.in_ok-first.ensures.ok)
    (inl (λ was now writes. (writes.changes).catalog))

pub returns-clause-keeps : goal.returns-clause-keeps
returns-clause-keeps g c =
    let keeps = keeps_then {r0 = c.args.self.now} {r1 = c.write_chain.new.self} {r2 = c.store_header.new.self} c.in_ok-first.ensures.keeps c.store_header.ensures.keeps in
    (runs_on c.if-self.false keeps, saved_kept keeps c.write_chain.ensures.still, c.in_ok-store_header.ensures.ok.1)

pub returns-then-self-clause-refused : goal.returns-then-self-clause-refused
returns-then-self-clause-refused g c = had_ended c.if-self.true

pub returns-in_err-first-clause-memory : goal.returns-in_err-first-clause-memory
returns-in_err-first-clause-memory g c =
    err_passed c.from_residual.result (λ (e : StoreError). e ≡ error.Memory → has_free c.args.self.now ≡ true) c.in_err-first.field-0.0 (err_from_is_err_and c.from_residual.result c.from_residual.ensures.1)
    c.in_err-first.ensures.memory

pub returns-in_err-store_header-clause-memory : goal.returns-in_err-store_header-clause-memory
returns-in_err-store_header-clause-memory g c =
    err_passed c.from_residual-in_err-store_header.result (λ (e : StoreError). e ≡ error.Memory → has_free c.args.self.now ≡ true) c.in_err-store_header.field-0.0
    (err_from_is_err_and c.from_residual-in_err-store_header.result c.from_residual-in_err-store_header.ensures.1) (λ is. c.in_ok-first.ensures.free c.requires)
