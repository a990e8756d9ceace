use Rattle.std.proofs.Common.{◌≡◌, ◌∙◌, inl, inr, List, ℕ, refl, sym, ap, subst, arith}
use Rattle.std.proofs.lemmas.Result.{err_from_is_err_and}
use Rattle.std.specs.Prelude.{Option}
use Rattle.nx_host.proofs.DiskLemmas.{settled_still, still_then}
use Rattle.nx_slots.specs.Edits.{IsPut}
use Rattle.nx_wal.specs.Wal.{IsInStep, current}
use Rattle.nx_holdings.specs.Holdings.{HoldsBehind}
use Rattle.nx_records.specs.declared.records.Records.{Records}
use Rattle.nx_records.specs.declared.error.StoreError.{StoreError}
use Rattle.nx_records.specs.Records.{has_ended, has_free, KeepsKnown, KeepsLog}
use Rattle.nx_records.specs.Pages.{SeesSo, NotPut}
use Rattle.nx_records.proofs.StandLemmas.{keeps_then, keeps_under, range_moved}
use Rattle.nx_records.proofs.StepLemmas.{new_steps, fresh_room}
use Rattle.nx_records.proofs.RefusalLemmas.{err_passed, put_fewer, put_memory, take_refused, later_refused}
use Rattle.nx_records.proofs.RoomLemmas.{taken_memory}
use Rattle.nx_records.specs.Room.{HasRoomFor}
use Rattle.nx_records.specs.declared.error.StoreError.TheVariants as error
use Rattle.nx_records.proofs.records.Records.place.Goals as goal

pub returns-in_err-rid-clause-refused : goal.returns-in_err-rid-clause-refused
returns-in_err-rid-clause-refused g c =
    err_passed c.from_residual.result (λ (e : StoreError). NotPut g.D.Disk (λ held. held.free ≡ 0) c.args.named e c.args.self.now c.put_in_room.new.self c.args.disk.now c.put_in_room.new.disk) c.in_err-rid.field-0.0
    (err_from_is_err_and c.from_residual.result c.from_residual.ensures.1)
    (put_fewer g.D.Disk c.args.self.now c.put_in_room.new.self c.args.disk.now c.put_in_room.new.disk c.args.named (λ held. held.free ≡ 0) (λ held. ⊥) c.in_err-rid.field-0.0 (λ held none. absurd none)
    c.in_err-rid.ensures.refused)

pub returns-in-Some-clause-ok : goal.returns-in-Some-clause-ok
returns-in-Some-clause-ok g c = rw c.in-Some.is at c.in_ok-rid.ensures.ok

pub returns-in_err-page-clause-refused : goal.returns-in_err-page-clause-refused
returns-in_err-page-clause-refused g c =
    let same = rw c.in_default.is at c.in_ok-rid.ensures.none in
    let limit = c.put_in_room.new.self.head_range.settings.limit.1 in
    let pages = c.put_in_room.new.self.head_range.pages.1 in
    err_passed c.from_residual-in_err-page.result (λ (e : StoreError). NotPut g.D.Disk (λ held. held.free ≡ 0) c.args.named e c.args.self.now c.take.new.self c.args.disk.now c.take.new.disk) c.in_err-page.field-0.0
    (err_from_is_err_and c.from_residual-in_err-page.result c.from_residual-in_err-page.ensures.1)
    (later_refused c.take.new.self c.take.new.disk (λ held. held.free ≡ 0) c.args.named c.in_err-page.field-0.0 same c.put_in_room.ensures.still
    (take_refused g.D.Disk c.put_in_room.new.self c.take.new.self c.put_in_room.new.disk c.take.new.disk c.args.named c.in_err-page.field-0.0 (ap (λ (r : Records). has_ended r) same ∙ c.requires.runs)
    (omega (arith, limit, pages)) c.in_err-page.ensures.refused))

pub unreachable-requires : goal.unreachable-requires
unreachable-requires g c = fresh_room c.new-slots.result c.args.bytes.now c.in_default-put.field-0 c.new-slots.ensures c.requires.few c.in_default-put.ensures.no_room.0

pub unreachable-unreachable : goal.unreachable-unreachable
unreachable-unreachable g c = fresh_room c.new-slots.result c.args.bytes.now c.in_default-put.field-0 c.new-slots.ensures c.requires.few c.in_default-put.ensures.no_room.0

pub returns-in_err-store-clause-refused : goal.returns-in_err-store-clause-refused
returns-in_err-store-clause-refused g c =
    let same = rw c.in_default.is at c.in_ok-rid.ensures.none in
    err_passed c.from_residual-in_err-store.result (λ (e : StoreError). NotPut g.D.Disk (λ held. held.free ≡ 0) c.args.named e c.args.self.now c.store.new.self c.args.disk.now c.take.new.disk)
    c.in_err-store.field-0.0 (err_from_is_err_and c.from_residual-in_err-store.result c.from_residual-in_err-store.ensures.1)
    (put_memory g.D.Disk c.args.self.now c.store.new.self c.args.disk.now c.take.new.disk c.args.named (λ held. held.free ≡ 0) c.in_err-store.field-0.0 c.in_err-store.ensures.refused
    (subst (λ (r : Records). KeepsLog r c.store.new.self) same
    (keeps_then {r0 = c.put_in_room.new.self} {r1 = c.take.new.self} {r2 = c.store.new.self} c.in_ok-page.ensures.keeps.0 c.store.ensures.keeps)))

pub invariant_of-self : goal.invariant_of-self
invariant_of-self g c =
    let low = c.in_ok-page.ensures.keeps.2 in record {
      saved_range = c.store.new.self.saved_range;
      head_range = range_moved c.store.new.self.head.free c.in_ok-page.page c.store.new.self.head_range c.store.new.self.head_range.pointers.0 (omega (arith, low));
      numbered = c.store.new.self.numbered;
      header_waits = c.store.new.self.header_waits;
      runs = c.store.new.self.runs;
    }

pub returns-clause-ok : goal.returns-clause-ok
returns-clause-ok g c =
    let same = rw c.in_default.is at c.in_ok-rid.ensures.none in
    let keeps = keeps_then {r0 = c.put_in_room.new.self} {r1 = c.take.new.self} {r2 = c.store.new.self} c.in_ok-page.ensures.keeps.0 c.store.ensures.keeps in
    let limit = c.put_in_room.new.self.head_range.settings.limit.1 in
    let pages = c.put_in_room.new.self.head_range.pages.1 in (
      keeps_under {q0 = c.args.self.now} keeps (ap (λ (r : Records). r.wal) (sym same)) (ap (λ (r : Records). r.saved) (sym same)) refl refl refl (keeps.settings_stay ∙ ap (λ (r : Records). r.head.settings) same) (subst (λ (r : Records). KeepsKnown r.catalog_pages c.store.new.self.catalog_pages) same keeps.known),
      λ was held step holds.
          new_steps g.D.Disk c.put_in_room.new.self c.take.new.self c.store.new.self c.put_in_room.new.disk c.bytes.result.now.bytes c.args.bytes.now (omega (arith, limit, pages))
          (c.in_ok-page.ensures.ok, c.in_ok-page.ensures.keeps.1) c.in_ok-store.ensures.ok c.new-slots.ensures c.bytes.ensures.slotted
          (subst (λ (a : List (Option (List ℕ))). IsPut c.new-slots.result c.args.bytes.now c.in-Ok.slot a) (sym c.bytes.ensures.slots) c.in-Ok.ensures.ok) was held
          (subst (λ (r : Records). IsInStep g.D.Disk r.wal c.put_in_room.new.disk was) (sym same) (record { settled = settled_still c.put_in_room.ensures.still step.settled; follows = step.follows }))
          (subst (λ (r : Records). HoldsBehind (current r.wal was) r.head held) (sym same) holds),
    )

pub returns-in_err-page-clause-still : goal.returns-in_err-page-clause-still
returns-in_err-page-clause-still g c = still_then c.put_in_room.ensures.still c.take.ensures.still

pub returns-in_err-store-clause-still : goal.returns-in_err-store-clause-still
returns-in_err-store-clause-still g c = still_then c.put_in_room.ensures.still c.take.ensures.still

pub returns-clause-still : goal.returns-clause-still
returns-clause-still g c = still_then c.put_in_room.ensures.still c.take.ensures.still

pub returns-in-Some-clause-room : goal.returns-in-Some-clause-room
returns-in-Some-clause-room g c was step fits = rw c.in-Some.is at c.in_ok-rid.ensures.takes

pub returns-in-Some-clause-has_room : goal.returns-in-Some-clause-has_room
returns-in-Some-clause-has_room g c was step = let fits = rw c.in-Some.is at c.in_ok-rid.ensures.fits in inl (fits was step)

pub returns-clause-room : goal.returns-clause-room
returns-clause-room g c was step fits = let full = rw c.in_default.is at c.in_ok-rid.ensures.full in absurd (full was step fits)

pub returns-clause-has_room : goal.returns-clause-has_room
returns-clause-has_room g c was step = let same = rw c.in_default.is at c.in_ok-rid.ensures.none in inr (ap (λ (r : Records). has_free r) (sym same) ∙ c.in_ok-page.ensures.free)

pub returns-in_err-rid-clause-memory : goal.returns-in_err-rid-clause-memory
returns-in_err-rid-clause-memory g c =
    err_passed c.from_residual.result (λ (e : StoreError). e ≡ error.Memory → SeesSo g.D.Disk c.args.self.now c.args.disk.now (λ pages. HasRoomFor c.args.self.now pages c.args.bytes.now)) c.in_err-rid.field-0.0
    (err_from_is_err_and c.from_residual.result c.from_residual.ensures.1) (λ is was step. inl (c.in_err-rid.ensures.memory is was step))

pub returns-in_err-page-clause-memory : goal.returns-in_err-page-clause-memory
returns-in_err-page-clause-memory g c =
    err_passed c.from_residual-in_err-page.result (λ (e : StoreError). e ≡ error.Memory → SeesSo g.D.Disk c.args.self.now c.args.disk.now (λ pages. HasRoomFor c.args.self.now pages c.args.bytes.now)) c.in_err-page.field-0.0
    (err_from_is_err_and c.from_residual-in_err-page.result c.from_residual-in_err-page.ensures.1) (taken_memory g.D.Disk c.args.named c.put_in_room.new.self c.take.new.self c.put_in_room.new.disk c.take.new.disk c.in_err-page.field-0.0 c.in_err-page.ensures.refused)

pub returns-in_err-store-clause-memory : goal.returns-in_err-store-clause-memory
returns-in_err-store-clause-memory g c =
    let same = rw c.in_default.is at c.in_ok-rid.ensures.none in
    err_passed c.from_residual-in_err-store.result (λ (e : StoreError). e ≡ error.Memory → SeesSo g.D.Disk c.args.self.now c.args.disk.now (λ pages. HasRoomFor c.args.self.now pages c.args.bytes.now)) c.in_err-store.field-0.0
    (err_from_is_err_and c.from_residual-in_err-store.result c.from_residual-in_err-store.ensures.1) (λ is was step. inr (ap (λ (r : Records). has_free r) (sym same) ∙ c.in_ok-page.ensures.free))
