use Rattle.std.proofs.Common.{◌≡◌, refl, sym, subst, inl}
use Rattle.std.proofs.lemmas.Result.{err_from_is_err_and}
use Rattle.std.specs.Prelude.{None, IsSome}
use Rattle.nx_records.specs.declared.records.Records.{Records}
use Rattle.nx_records.specs.declared.error.StoreError.{StoreError}
use Rattle.nx_records.specs.Records.{KeepsLog}
use Rattle.nx_records.specs.Changes.{RemovesRecord}
use Rattle.nx_slots.specs.Slots.{slots_of}
use Rattle.nx_records.specs.Pages.{HasSlots}
use Rattle.nx_records.specs.Refusals.{NotChanged}
use Rattle.nx_records.proofs.StandLemmas.{keeps_then, saved_kept, steps_lead, later_steps, sees_later, on_ok_then, if_err_then}
use Rattle.nx_records.proofs.RefusalLemmas.{err_passed, change_refused, slot_damaged, ended_now, memory_changed, runs_on}
use Rattle.nx_records.proofs.records.Records.remove_loaded.Goals as goal

pub returns-in_err-load_slotted-clause-refused : goal.returns-in_err-load_slotted-clause-refused
returns-in_err-load_slotted-clause-refused g c =
    err_passed c.from_residual.result (λ (e : StoreError). NotChanged g.D.Disk (λ now. now.records c.args.rid.page c.args.rid.slot ≡ None) c.args.rid.page e c.args.self.now c.load_slotted.new.self c.args.disk.now c.load_slotted.new.disk)
    c.in_err-load_slotted.field-0.0 (err_from_is_err_and c.from_residual.result c.from_residual.ensures.1)
    (change_refused g.D.Disk c.args.self.now c.load_slotted.new.self c.args.disk.now c.load_slotted.new.disk c.args.rid.page c.args.rid.page c.args.rid.slot c.in_err-load_slotted.field-0.0 c.in_err-load_slotted.ensures.refused)

pub returns-in_default-clause-refused : goal.returns-in_default-clause-refused
returns-in_default-clause-refused g c =
    let same = c.in_ok-load_slotted.ensures.ok.0 in
    let ends = ended_now {r0 = c.args.self.now} {r1 = c.load_slotted.new.self} {r2 = c.damaged.new.self} c.requires same c.damaged.ensures.ended in
    subst (λ (e : StoreError). NotChanged g.D.Disk (λ now. now.records c.args.rid.page c.args.rid.slot ≡ None) c.args.rid.page e c.args.self.now c.damaged.new.self c.args.disk.now c.load_slotted.new.disk) (sym c.damaged.ensures.result)
    (slot_damaged g.D.Disk c.args.self.now c.damaged.new.self c.args.disk.now c.load_slotted.new.disk c.args.rid.page c.args.rid.page c.args.rid.slot (slots_of c.load_slotted.new.into.bytes) ends c.in_ok-load_slotted.ensures.slots c.in_default.ensures)

pub drop_record-requires-clause-there : goal.drop_record-requires-clause-there
drop_record-requires-clause-there g c = subst IsSome (sym c.in-Some.ensures) refl

pub returns-in_err-drop_record-clause-refused : goal.returns-in_err-drop_record-clause-refused
returns-in_err-drop_record-clause-refused g c =
    err_passed c.from_residual-in_err-drop_record.result
    (λ (e : StoreError). NotChanged g.D.Disk (λ now. now.records c.args.rid.page c.args.rid.slot ≡ None) c.args.rid.page e c.args.self.now c.drop_record.new.self c.args.disk.now c.load_slotted.new.disk)
    c.in_err-drop_record.field-0.0 (err_from_is_err_and c.from_residual-in_err-drop_record.result c.from_residual-in_err-drop_record.ensures.1)
    (memory_changed g.D.Disk c.args.self.now c.drop_record.new.self c.args.disk.now c.load_slotted.new.disk c.args.rid.page (λ now. now.records c.args.rid.page c.args.rid.slot ≡ None) c.in_err-drop_record.field-0.0
    c.in_err-drop_record.ensures.refused c.requires c.load_slotted.ensures.still (subst (λ (r : Records). KeepsLog r c.drop_record.new.self) c.in_ok-load_slotted.ensures.ok.0 c.drop_record.ensures.keeps))

pub returns-clause-ok : goal.returns-clause-ok
returns-clause-ok g c =
    let same = c.in_ok-load_slotted.ensures.ok.0 in
    let still = c.load_slotted.ensures.still in
    on_ok_then c.store_header.result c.store_header.ensures.ok (λ ok.
    steps_lead g.D.Disk c.args.self.now c.drop_record.new.self c.store_header.new.self c.args.disk.now c.load_slotted.new.disk (λ was now. RemovesRecord c.args.rid.page c.args.rid.slot was now)
    (subst (λ (r : Records). KeepsLog r c.drop_record.new.self) same c.drop_record.ensures.keeps) c.store_header.ensures.keeps still c.store_header.new.self.head_range ok.0 ok.2
    (later_steps c.drop_record.new.self same still (c.in_ok-drop_record.ensures.ok (sees_later (λ pages. HasSlots pages c.args.rid.page (slots_of c.load_slotted.new.into.bytes)) same still c.in_ok-load_slotted.ensures.slots)))
    (inl (λ was now removes. (removes.changes).catalog)))

pub returns-clause-keeps : goal.returns-clause-keeps
returns-clause-keeps g c =
    let keeps = keeps_then {r0 = c.args.self.now} {r1 = c.drop_record.new.self} {r2 = c.store_header.new.self}
    (subst (λ (r : Records). KeepsLog r c.drop_record.new.self) c.in_ok-load_slotted.ensures.ok.0 c.drop_record.ensures.keeps) c.store_header.ensures.keeps in
    on_ok_then c.store_header.result c.store_header.ensures.ok (λ ok. (runs_on c.requires keeps, saved_kept keeps c.load_slotted.ensures.still, ok.1))

pub returns-clause-refused : goal.returns-clause-refused
returns-clause-refused g c =
    let keeps = keeps_then {r0 = c.args.self.now} {r1 = c.drop_record.new.self} {r2 = c.store_header.new.self}
    (subst (λ (r : Records). KeepsLog r c.drop_record.new.self) c.in_ok-load_slotted.ensures.ok.0 c.drop_record.ensures.keeps) c.store_header.ensures.keeps in
    if_err_then c.store_header.result c.store_header.ensures.refused (λ e same.
    memory_changed g.D.Disk c.args.self.now c.store_header.new.self c.args.disk.now c.load_slotted.new.disk c.args.rid.page (λ now. now.records c.args.rid.page c.args.rid.slot ≡ None) e
    same c.requires c.load_slotted.ensures.still keeps)
