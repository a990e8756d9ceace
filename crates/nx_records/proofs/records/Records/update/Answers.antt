use Rattle.std.proofs.Common.{◌≡◌, ◌<◌, ◌∙◌, refl, sym, ap, subst, inl}
use Rattle.std.proofs.lemmas.Result.{err_from_is_err_and}
use Rattle.std.specs.Prelude.{None, IsSome}
use Rattle.nx_host.proofs.DiskLemmas.{none_still, still_then}
use Rattle.nx_slots.specs.Slots.{slots_of}
use Rattle.nx_records.specs.declared.records.Records.{Records}
use Rattle.nx_records.specs.declared.error.StoreError.{StoreError}
use Rattle.nx_records.specs.Records.{waiting, KeepsLog}
use Rattle.nx_records.specs.Changes.{UpdatesRecord, update_needs}
use Rattle.nx_records.specs.Pages.{HasSlots}
use Rattle.nx_records.specs.Refusals.{NotStored}
use Rattle.nx_records.proofs.StandLemmas.{keeps_then, saved_kept, steps_lead, later_steps, sees_later}
use Rattle.nx_records.proofs.RefusalLemmas.{err_passed, keeps_self, store_refused, slot_damaged, ended_now, later_refused, put_stored, memory_stored, runs_on}
use Rattle.nx_records.proofs.StepLemmas.{page_records}
use Rattle.nx_records.proofs.LeaveLemmas.{had_ended}
use Rattle.nx_records.proofs.records.Records.update.Goals as goal

pub returns-in_err-load_slotted-clause-refused : goal.returns-in_err-load_slotted-clause-refused
returns-in_err-load_slotted-clause-refused g c =
    err_passed c.from_residual.result (λ (e : StoreError). NotStored g.D.Disk (update_needs c.args.rid.page c.args.rid.slot c.args.bytes.now) (λ now. now.records c.args.rid.page c.args.rid.slot ≡ None) c.args.rid.page e
    c.args.self.now c.load_slotted.new.self c.args.disk.now c.load_slotted.new.disk)
    c.in_err-load_slotted.field-0.0 (err_from_is_err_and c.from_residual.result c.from_residual.ensures.1)
    (store_refused g.D.Disk c.args.self.now c.load_slotted.new.self c.args.disk.now c.load_slotted.new.disk c.args.rid.page (update_needs c.args.rid.page c.args.rid.slot c.args.bytes.now) c.args.rid.page c.args.rid.slot
    c.in_err-load_slotted.field-0.0 c.in_err-load_slotted.ensures.refused)

pub returns-in_default-read_in-clause-refused : goal.returns-in_default-read_in-clause-refused
returns-in_default-read_in-clause-refused g c =
    let same = c.in_ok-load_slotted.ensures.ok.0 in
    let ends = ended_now {r0 = c.args.self.now} {r1 = c.load_slotted.new.self} {r2 = c.damaged.new.self} c.if-self.false same c.damaged.ensures.ended in
    subst (λ (e : StoreError). NotStored g.D.Disk (update_needs c.args.rid.page c.args.rid.slot c.args.bytes.now) (λ now. now.records c.args.rid.page c.args.rid.slot ≡ None) c.args.rid.page e
    c.args.self.now c.damaged.new.self c.args.disk.now c.load_slotted.new.disk) (sym c.damaged.ensures.result)
    (slot_damaged g.D.Disk c.args.self.now c.damaged.new.self c.args.disk.now c.load_slotted.new.disk c.args.rid.page c.args.rid.page c.args.rid.slot (slots_of c.load_slotted.new.into.bytes) ends c.in_ok-load_slotted.ensures.slots c.in_default-read_in.ensures)

pub replace-requires-clause-there : goal.replace-requires-clause-there
replace-requires-clause-there g c = subst IsSome (sym c.in-Some-read_in.ensures) refl

pub returns-in_err-place-clause-refused : goal.returns-in_err-place-clause-refused
returns-in_err-place-clause-refused g c =
    let same = c.in_ok-load_slotted.ensures.ok.0 in
    let still = c.load_slotted.ensures.still in
    err_passed c.from_residual-in_err-place.result (λ (e : StoreError). NotStored g.D.Disk (update_needs c.args.rid.page c.args.rid.slot c.args.bytes.now) (λ now. now.records c.args.rid.page c.args.rid.slot ≡ None) c.args.rid.page e
    c.args.self.now c.replace.new.self c.args.disk.now c.replace.new.disk)
    c.in_err-place.field-0.0 (err_from_is_err_and c.from_residual-in_err-place.result c.from_residual-in_err-place.ensures.1)
    (put_stored g.D.Disk c.args.self.now c.replace.new.self c.args.disk.now c.replace.new.disk c.args.rid.page (update_needs c.args.rid.page c.args.rid.slot c.args.bytes.now)
    (λ held. held.free < update_needs c.args.rid.page c.args.rid.slot c.args.bytes.now held) (λ now. now.records c.args.rid.page c.args.rid.slot ≡ None) c.in_err-place.field-0.0 c.if-self.false
    (still_then still c.replace.ensures.still) (λ held less. less)
    (later_refused c.replace.new.self c.replace.new.disk (λ held. held.free < update_needs c.args.rid.page c.args.rid.slot c.args.bytes.now held) c.args.rid.page c.in_err-place.field-0.0 same still
    (c.in_err-place.ensures.refused (sees_later (λ pages. HasSlots pages c.args.rid.page (slots_of c.load_slotted.new.into.bytes)) same still c.in_ok-load_slotted.ensures.slots))))

pub returns-in_err-store_header-clause-refused : goal.returns-in_err-store_header-clause-refused
returns-in_err-store_header-clause-refused g c =
    let same = c.in_ok-load_slotted.ensures.ok.0 in
    let keeps = keeps_then {r0 = c.args.self.now} {r1 = c.replace.new.self} {r2 = c.store_header.new.self} (subst (λ (r : Records). KeepsLog r c.replace.new.self) same c.in_ok-place.ensures.keeps) c.store_header.ensures.keeps in
    err_passed c.from_residual-in_err-store_header.result (λ (e : StoreError). NotStored g.D.Disk (update_needs c.args.rid.page c.args.rid.slot c.args.bytes.now) (λ now. now.records c.args.rid.page c.args.rid.slot ≡ None)
    c.args.rid.page e c.args.self.now c.store_header.new.self c.args.disk.now c.replace.new.disk)
    c.in_err-store_header.field-0.0 (err_from_is_err_and c.from_residual-in_err-store_header.result c.from_residual-in_err-store_header.ensures.1)
    (memory_stored g.D.Disk c.args.self.now c.store_header.new.self c.args.disk.now c.replace.new.disk c.args.rid.page (update_needs c.args.rid.page c.args.rid.slot c.args.bytes.now)
    (λ now. now.records c.args.rid.page c.args.rid.slot ≡ None) c.in_err-store_header.field-0.0 c.in_err-store_header.ensures.refused c.if-self.false (still_then c.load_slotted.ensures.still c.replace.ensures.still) keeps)

pub returns-clause-ok : goal.returns-clause-ok
returns-clause-ok g c =
    let same = c.in_ok-load_slotted.ensures.ok.0 in
    let still = c.load_slotted.ensures.still in
    steps_lead g.D.Disk c.args.self.now c.replace.new.self c.store_header.new.self c.args.disk.now c.replace.new.disk
    (λ was now. UpdatesRecord c.args.rid.page c.args.rid.slot c.args.bytes.now c.in_ok-place.place.page c.in_ok-place.place.slot was now)
    (subst (λ (r : Records). KeepsLog r c.replace.new.self) same c.in_ok-place.ensures.keeps) c.store_header.ensures.keeps (still_then still c.replace.ensures.still) c.store_header.new.self.head_range
    c.in_ok-store_header.ensures.ok.0 c.in_ok-store_header.ensures.ok.2
    (later_steps c.replace.new.self same still (c.in_ok-place.ensures.ok (sees_later (λ pages. HasSlots pages c.args.rid.page (slots_of c.load_slotted.new.into.bytes)) same still c.in_ok-load_slotted.ensures.slots)))
    (inl (λ was now updates. (updates.changes).catalog))

pub returns-clause-keeps : goal.returns-clause-keeps
returns-clause-keeps g c =
    let same = c.in_ok-load_slotted.ensures.ok.0 in
    let keeps = keeps_then {r0 = c.args.self.now} {r1 = c.replace.new.self} {r2 = c.store_header.new.self} (subst (λ (r : Records). KeepsLog r c.replace.new.self) same c.in_ok-place.ensures.keeps) c.store_header.ensures.keeps in
    (runs_on c.if-self.false keeps, saved_kept keeps (still_then c.load_slotted.ensures.still c.replace.ensures.still), c.in_ok-store_header.ensures.ok.1)

pub returns-in_err-store_header-clause-still : goal.returns-in_err-store_header-clause-still
returns-in_err-store_header-clause-still g c = still_then c.load_slotted.ensures.still c.replace.ensures.still

pub returns-clause-still : goal.returns-clause-still
returns-clause-still g c = still_then c.load_slotted.ensures.still c.replace.ensures.still

pub returns-clause-alone : goal.returns-clause-alone
returns-clause-alone g c saved now stands there p other seen =
    let holds = (stands.holds).behind in
    let has = c.in_ok-load_slotted.ensures.slots (stands.keeps).image (stands.keeps).step in
    let slot = sym (page_records holds c.args.rid.page (slots_of c.load_slotted.new.into.bytes) has c.args.rid.slot) ∙ sym (holds.records c.args.rid.page c.args.rid.slot) ∙ there in
    let stays : c.replace.new.self ≡ c.args.self.now = c.in_ok-place.ensures.alone slot ∙ c.in_ok-load_slotted.ensures.ok.0 in
    c.in_ok-store_header.ensures.beside p other ∙ ap (λ (r : Records). waiting r p) stays

pub returns-then-self-clause-refused : goal.returns-then-self-clause-refused
returns-then-self-clause-refused g c = had_ended c.if-self.true

pub returns-in_default-clause-refused : goal.returns-in_default-clause-refused
returns-in_default-clause-refused g c =
    let keeps = keeps_self c.args.self.now c.args.self.now c.if-self.false refl in
    (runs_on c.if-self.false keeps, saved_kept keeps none_still)

pub returns-in_err-place-clause-still : goal.returns-in_err-place-clause-still
returns-in_err-place-clause-still g c = still_then c.load_slotted.ensures.still c.replace.ensures.still
