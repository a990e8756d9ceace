use Rattle.std.proofs.Common.{◌≡◌, arith, inl}
use Rattle.std.proofs.lemmas.Result.{err_from_is_err_and}
use Rattle.nx_records.specs.declared.error.StoreError.{StoreError}
use Rattle.nx_records.specs.Changes.{AddsRecord}
use Rattle.nx_records.specs.Refusals.{NotStored}
use Rattle.nx_records.proofs.StandLemmas.{keeps_then, saved_kept, steps_lead}
use Rattle.nx_records.proofs.RefusalLemmas.{err_passed, put_stored, memory_stored, runs_on}
use Rattle.nx_records.proofs.LeaveLemmas.{had_ended}
use Rattle.nx_records.proofs.RoomLemmas.{takes_then}
use Rattle.nx_records.specs.Room.{HasRoomFor}
use Rattle.nx_records.specs.Records.{next_number, IsInStepWith, current_pages}
use Rattle.nx_records.specs.declared.error.StoreError.TheVariants as error
use Rattle.nx_host.specs.Disk.{Image}
use Rattle.nx_records.proofs.records.Records.add.Goals as goal

pub returns-in_err-rid-clause-refused : goal.returns-in_err-rid-clause-refused
returns-in_err-rid-clause-refused g c =
    err_passed c.from_residual.result (λ (e : StoreError). NotStored g.D.Disk (λ was. 1) (λ was. ⊥) 0 e c.args.self.now c.place.new.self c.args.disk.now c.place.new.disk) c.in_err-rid.field-0.0
    (err_from_is_err_and c.from_residual.result c.from_residual.ensures.1)
    (put_stored g.D.Disk c.args.self.now c.place.new.self c.args.disk.now c.place.new.disk 0 (λ was. 1) (λ held. held.free ≡ 0) (λ was. ⊥) c.in_err-rid.field-0.0 c.if-self.false c.place.ensures.still
    (λ held none. omega (arith, none)) c.in_err-rid.ensures.refused)

pub returns-in_err-store_header-clause-refused : goal.returns-in_err-store_header-clause-refused
returns-in_err-store_header-clause-refused g c =
    err_passed c.from_residual-in_err-store_header.result (λ (e : StoreError). NotStored g.D.Disk (λ was. 1) (λ was. ⊥) 0 e c.args.self.now c.store_header.new.self c.args.disk.now c.place.new.disk)
    c.in_err-store_header.field-0.0 (err_from_is_err_and c.from_residual-in_err-store_header.result c.from_residual-in_err-store_header.ensures.1)
    (memory_stored g.D.Disk c.args.self.now c.store_header.new.self c.args.disk.now c.place.new.disk 0 (λ was. 1) (λ was. ⊥) c.in_err-store_header.field-0.0 c.in_err-store_header.ensures.refused c.if-self.false
    c.place.ensures.still (keeps_then {r0 = c.args.self.now} {r1 = c.place.new.self} {r2 = c.store_header.new.self} c.in_ok-rid.ensures.ok.0 c.store_header.ensures.keeps))

pub returns-clause-ok : goal.returns-clause-ok
returns-clause-ok g c =
    steps_lead g.D.Disk c.args.self.now c.place.new.self c.store_header.new.self c.args.disk.now c.place.new.disk (λ was now. AddsRecord c.in_ok-rid.rid.page c.in_ok-rid.rid.slot c.args.bytes.now was now)
    c.in_ok-rid.ensures.ok.0 c.store_header.ensures.keeps c.place.ensures.still c.store_header.new.self.head_range c.in_ok-store_header.ensures.ok.0 c.in_ok-store_header.ensures.ok.2 c.in_ok-rid.ensures.ok.1
    (inl (λ was now adds. (adds.changes).catalog))

pub returns-clause-keeps : goal.returns-clause-keeps
returns-clause-keeps g c =
    let keeps = keeps_then {r0 = c.args.self.now} {r1 = c.place.new.self} {r2 = c.store_header.new.self} c.in_ok-rid.ensures.ok.0 c.store_header.ensures.keeps in
    (runs_on c.if-self.false keeps, saved_kept keeps c.place.ensures.still, c.in_ok-store_header.ensures.ok.1)

pub returns-then-self-clause-refused : goal.returns-then-self-clause-refused
returns-then-self-clause-refused g c = had_ended c.if-self.true

pub returns-in_err-rid-clause-memory : goal.returns-in_err-rid-clause-memory
returns-in_err-rid-clause-memory g c =
    err_passed c.from_residual.result (λ (e : StoreError). e ≡ error.Memory → (was : Image) → IsInStepWith g.D.Disk c.args.self.now c.args.disk.now was → HasRoomFor c.args.self.now (current_pages c.args.self.now was) c.args.bytes.now)
    c.in_err-rid.field-0.0 (err_from_is_err_and c.from_residual.result c.from_residual.ensures.1) (λ is was step. c.in_err-rid.ensures.memory is was step)

pub returns-in_err-store_header-clause-memory : goal.returns-in_err-store_header-clause-memory
returns-in_err-store_header-clause-memory g c =
    err_passed c.from_residual-in_err-store_header.result
    (λ (e : StoreError). e ≡ error.Memory → (was : Image) → IsInStepWith g.D.Disk c.args.self.now c.args.disk.now was → HasRoomFor c.args.self.now (current_pages c.args.self.now was) c.args.bytes.now)
    c.in_err-store_header.field-0.0 (err_from_is_err_and c.from_residual-in_err-store_header.result c.from_residual-in_err-store_header.ensures.1) (λ is was step. c.in_ok-rid.ensures.has_room was step)

pub returns-clause-room : goal.returns-clause-room
returns-clause-room g c was step fits =
    takes_then c.args.self.now c.place.new.self c.store_header.new.self (next_number c.place.new.self) (c.in_ok-rid.ensures.room was step fits) c.in_ok-store_header.ensures.ok.0
