use Rattle.std.proofs.Common.{◌≡◌, ◌∙◌, ◌<◌, ℕ, List, Option, ap, refl, subst}
use Rattle.std.proofs.lemmas.Result.{err_from_is_err_and}
use Rattle.nx_slots.specs.Slots.{slots_of}
use Rattle.nx_records.specs.declared.records.Records.{Records}
use Rattle.nx_records.specs.declared.error.StoreError.{StoreError}
use Rattle.nx_records.specs.Records.{KeepsLog}
use Rattle.nx_records.specs.Changes.{AddsRecord}
use Rattle.nx_records.specs.Pages.{HasSlots, SeesSo, NotPut}
use Rattle.nx_records.proofs.StandLemmas.{Stores, stepped}
use Rattle.nx_records.proofs.StepLemmas.{put_holds}
use Rattle.nx_records.proofs.RefusalLemmas.{err_passed, room_refused, put_memory}
use Rattle.nx_records.proofs.RoomLemmas.{lacks_no_fit, found_memory}
use Rattle.nx_records.specs.Room.{FitsRoom}
use Rattle.nx_records.specs.declared.error.StoreError.TheVariants as error
use Rattle.nx_holdings.specs.declared.header.Header.{Header}
use Rattle.nx_records.proofs.records.Records.put_loaded.Goals as goal

pub returns-clause-ok : goal.returns-clause-ok
returns-clause-ok g c =
    let same = c.in_ok-load_slotted.ensures.ok.0 in
    let room = c.args.self.now.head.room in
    let before = c.load_slotted.new.into.bytes in (
      subst (λ (r : Records). KeepsLog r c.store.new.self) same c.store.ensures.keeps,
      stepped g.D.Disk c.args.self.now c.store.new.self c.args.disk.now room c.put_in.new.page.bytes (λ was now. AddsRecord room c.in-Ok.slot c.args.bytes.now was now)
          (subst (λ (r : Records). Stores r r.head c.store.new.self room c.put_in.new.page.bytes) same c.in_ok-store.ensures.ok)
          (λ was held step holds. put_holds holds room c.in-Ok.slot (slots_of before) c.args.bytes.now c.put_in.new.page.bytes c.in_ok-load_slotted.ensures.ok.1
          (record { bytes = before; there = c.in_ok-load_slotted.ensures.ok.3 was step; slotted = c.in_ok-load_slotted.ensures.ok.2; are = refl })
          c.put_in.ensures.slotted c.in-Ok.ensures.ok),
    )

pub returns-in_err-load_slotted-clause-refused : goal.returns-in_err-load_slotted-clause-refused
returns-in_err-load_slotted-clause-refused g c =
    err_passed c.from_residual.result (λ (e : StoreError). NotPut g.D.Disk (λ held. ⊥) c.args.named e c.args.self.now c.load_slotted.new.self c.args.disk.now c.load_slotted.new.disk) c.in_err-load_slotted.field-0.0
    (err_from_is_err_and c.from_residual.result c.from_residual.ensures.1)
    (room_refused g.D.Disk c.args.self.now c.load_slotted.new.self c.args.disk.now c.load_slotted.new.disk c.args.named (λ held. ⊥) c.in_err-load_slotted.field-0.0 c.requires.there c.in_err-load_slotted.ensures.refused)

pub returns-in_err-store-clause-refused : goal.returns-in_err-store-clause-refused
returns-in_err-store-clause-refused g c =
    err_passed c.from_residual-in_err-store.result (λ (e : StoreError). NotPut g.D.Disk (λ held. ⊥) c.args.named e c.args.self.now c.store.new.self c.args.disk.now c.load_slotted.new.disk)
    c.in_err-store.field-0.0 (err_from_is_err_and c.from_residual-in_err-store.result c.from_residual-in_err-store.ensures.1)
    (put_memory g.D.Disk c.args.self.now c.store.new.self c.args.disk.now c.load_slotted.new.disk c.args.named (λ held. ⊥) c.in_err-store.field-0.0 c.in_err-store.ensures.refused
    (subst (λ (r : Records). KeepsLog r c.store.new.self) c.in_ok-load_slotted.ensures.ok.0 c.store.ensures.keeps))

pub returns-clause-takes : goal.returns-clause-takes
returns-clause-takes g c =
    let same = c.in_ok-load_slotted.ensures.ok.0 in
    let stored = c.in_ok-store.ensures.ok.0 in
    (ap (λ (h : Header). h.free) stored ∙ ap (λ (r : Records). r.head.free) same, ap (λ (h : Header). h.pages) stored ∙ ap (λ (r : Records). r.head.pages) same)

pub returns-clause-fits : goal.returns-clause-fits
returns-clause-fits g c was step = record {
  some = c.requires.there;
  page = c.load_slotted.new.into.bytes;
  there = c.in_ok-load_slotted.ensures.ok.3 was step;
  slotted = c.in_ok-load_slotted.ensures.ok.2;
  fits = (c.in-Ok.ensures.ok).room;
}

pub returns-in_default-clause-full : goal.returns-in_default-clause-full
returns-in_default-clause-full g c was step fits = lacks_no_fit c.in_default.field-0 (c.in_ok-load_slotted.ensures.ok.3 was step) c.in_default.ensures.no_room.0 fits

pub returns-in_err-load_slotted-clause-memory : goal.returns-in_err-load_slotted-clause-memory
returns-in_err-load_slotted-clause-memory g c =
    err_passed c.from_residual.result (λ (e : StoreError). e ≡ error.Memory → SeesSo g.D.Disk c.args.self.now c.args.disk.now (λ pages. FitsRoom pages c.args.self.now.head c.args.bytes.now)) c.in_err-load_slotted.field-0.0
    (err_from_is_err_and c.from_residual.result c.from_residual.ensures.1) (found_memory g.D.Disk (λ pages. c.args.self.now.head.room < c.args.self.now.head.pages → (slots : List (Option (List ℕ))) → HasSlots pages c.args.self.now.head.room slots → ⊥) c.args.named c.args.self.now c.load_slotted.new.self c.args.disk.now c.load_slotted.new.disk c.in_err-load_slotted.field-0.0 c.in_err-load_slotted.ensures.refused)

pub returns-in_err-store-clause-memory : goal.returns-in_err-store-clause-memory
returns-in_err-store-clause-memory g c =
    err_passed c.from_residual-in_err-store.result (λ (e : StoreError). e ≡ error.Memory → SeesSo g.D.Disk c.args.self.now c.args.disk.now (λ pages. FitsRoom pages c.args.self.now.head c.args.bytes.now))
    c.in_err-store.field-0.0 (err_from_is_err_and c.from_residual-in_err-store.result c.from_residual-in_err-store.ensures.1)
    (λ is was step. record {
      some = c.requires.there;
      page = c.load_slotted.new.into.bytes;
      there = c.in_ok-load_slotted.ensures.ok.3 was step;
      slotted = c.in_ok-load_slotted.ensures.ok.2;
      fits = (c.in-Ok.ensures.ok).room;
    })
