use Rattle.std.proofs.Common.{List, ℕ, ◌<◌, refl, sym, ap, subst, arith}
use Rattle.std.proofs.lemmas.Result.{err_from_is_err_and}
use Rattle.std.specs.Prelude.{Option}
use Rattle.nx_slots.specs.Slots.{slots_of}
use Rattle.nx_slots.specs.declared.page.PageBytes.{PageBytes}
use Rattle.nx_records.specs.declared.error.StoreError.{StoreError}
use Rattle.nx_records.specs.Changes.{AddsRecord, RemovesRecord, UpdatesRecord, update_needs}
use Rattle.nx_records.specs.Pages.{HasSlots, SeesSo, NotPut}
use Rattle.nx_records.proofs.StandLemmas.{keeps_then, stepped, if_ok_then, if_err_then}
use Rattle.nx_records.proofs.StepLemmas.{set_holds, same_holds, moved_record, longer_needs}
use Rattle.nx_records.proofs.RefusalLemmas.{err_passed, keeps_self, put_memory, moved_refused, moved_steps}
use Rattle.nx_records.proofs.records.Records.replace.Goals as goal

pub returns-in_err-store-in-Ok-clause-refused : goal.returns-in_err-store-in-Ok-clause-refused
returns-in_err-store-in-Ok-clause-refused g c =
    err_passed c.from_residual.result (λ (e : StoreError). SeesSo g.D.Disk c.args.self.now c.args.disk.now (λ pages. HasSlots pages c.args.rid.page (slots_of c.args.page.now.bytes))
    → NotPut g.D.Disk (λ held. held.free < update_needs c.args.rid.page c.args.rid.slot c.args.bytes.now held) c.args.rid.page e c.args.self.now c.store.new.self c.args.disk.now c.args.disk.now)
    c.in_err-store-in-Ok.field-0.0 (err_from_is_err_and c.from_residual.result c.from_residual.ensures.1)
    (λ sees. put_memory g.D.Disk c.args.self.now c.store.new.self c.args.disk.now c.args.disk.now c.args.rid.page (λ held. held.free < update_needs c.args.rid.page c.args.rid.slot c.args.bytes.now held)
    c.in_err-store-in-Ok.field-0.0 c.in_err-store-in-Ok.ensures.refused c.store.ensures.keeps)

pub returns-in_ok-store-in-Ok-clause-ok : goal.returns-in_ok-store-in-Ok-clause-ok
returns-in_ok-store-in-Ok-clause-ok g c sees =
    stepped g.D.Disk c.args.self.now c.store.new.self c.args.disk.now c.args.rid.page c.set_in.new.page.bytes
    (λ was now. UpdatesRecord c.args.rid.page c.args.rid.slot c.args.bytes.now c.args.rid.page c.args.rid.slot was now) c.in_ok-store-in-Ok.ensures.ok
    (λ was held step holds. set_holds holds c.args.rid.page c.args.rid.slot (slots_of c.args.page.now.bytes) c.args.bytes.now c.set_in.new.page.bytes c.requires.low (sees was step) c.requires.there c.set_in.ensures.slotted
    c.in-Ok.ensures.ok.now)

pub returns-in_err-drop_record-in-Err-clause-refused : goal.returns-in_err-drop_record-in-Err-clause-refused
returns-in_err-drop_record-in-Err-clause-refused g c =
    err_passed c.from_residual-in_err-drop_record-in-Err.result (λ (e : StoreError). SeesSo g.D.Disk c.args.self.now c.args.disk.now (λ pages. HasSlots pages c.args.rid.page (slots_of c.args.page.now.bytes))
    → NotPut g.D.Disk (λ held. held.free < update_needs c.args.rid.page c.args.rid.slot c.args.bytes.now held) c.args.rid.page e c.args.self.now c.drop_record.new.self c.args.disk.now c.args.disk.now)
    c.in_err-drop_record-in-Err.field-0.0 (err_from_is_err_and c.from_residual-in_err-drop_record-in-Err.result c.from_residual-in_err-drop_record-in-Err.ensures.1)
    (λ sees. put_memory g.D.Disk c.args.self.now c.drop_record.new.self c.args.disk.now c.args.disk.now c.args.rid.page (λ held. held.free < update_needs c.args.rid.page c.args.rid.slot c.args.bytes.now held)
    c.in_err-drop_record-in-Err.field-0.0 c.in_err-drop_record-in-Err.ensures.refused c.drop_record.ensures.keeps)

pub returns-in_ok-drop_record-in-Err-clause-keeps : goal.returns-in_ok-drop_record-in-Err-clause-keeps
returns-in_ok-drop_record-in-Err-clause-keeps g c =
    if_ok_then c.place.result c.place.ensures.ok (λ place ok. keeps_then {r0 = c.args.self.now} {r1 = c.drop_record.new.self} {r2 = c.place.new.self} c.drop_record.ensures.keeps ok.0)

pub returns-in_ok-drop_record-in-Err-clause-ok : goal.returns-in_ok-drop_record-in-Err-clause-ok
returns-in_ok-drop_record-in-Err-clause-ok g c = if_ok_then c.place.result c.place.ensures.ok (λ place ok sees.
    let stays = c.in-Err.ensures.no_room.1 in
    moved_steps g.D.Disk c.args.self.now c.drop_record.new.self c.place.new.self c.args.disk.now c.place.new.disk (λ was now. RemovesRecord c.args.rid.page c.args.rid.slot was now)
    (λ was now. AddsRecord place.page place.slot c.args.bytes.now was now) (λ was now. UpdatesRecord c.args.rid.page c.args.rid.slot c.args.bytes.now place.page place.slot was now) c.drop_record.ensures.keeps
    (c.in_ok-drop_record-in-Err.ensures.ok (subst (λ (s : List (Option (List ℕ))). SeesSo g.D.Disk c.args.self.now c.args.disk.now (λ pages. HasSlots pages c.args.rid.page s)) (sym (ap (λ (p : PageBytes). slots_of p.bytes) stays)) sees)) ok.1
    (λ was held mid next step holds removes adds. moved_record removes adds
    (let one = longer_needs holds c.args.rid.page c.args.rid.slot (slots_of c.args.page.now.bytes) c.args.bytes.now c.in-Err.field-0 (sees was step) c.requires.there c.in-Err.ensures.no_room.0 in omega (arith, one))))

pub returns-in_ok-drop_record-in-Err-clause-refused : goal.returns-in_ok-drop_record-in-Err-clause-refused
returns-in_ok-drop_record-in-Err-clause-refused g c = if_err_then c.place.result c.place.ensures.refused (λ e refused sees.
    let stays = c.in-Err.ensures.no_room.1 in
    moved_refused g.D.Disk c.args.self.now c.drop_record.new.self c.place.new.self c.args.disk.now c.place.new.disk (λ was now. RemovesRecord c.args.rid.page c.args.rid.slot was now)
    (λ held. held.free < update_needs c.args.rid.page c.args.rid.slot c.args.bytes.now held) c.args.rid.page e c.requires.runs c.drop_record.ensures.keeps
    (c.in_ok-drop_record-in-Err.ensures.ok (subst (λ (s : List (Option (List ℕ))). SeesSo g.D.Disk c.args.self.now c.args.disk.now (λ pages. HasSlots pages c.args.rid.page s)) (sym (ap (λ (p : PageBytes). slots_of p.bytes) stays)) sees))
    (λ was held mid step holds removes none.
    let one = longer_needs holds c.args.rid.page c.args.rid.slot (slots_of c.args.page.now.bytes) c.args.bytes.now c.in-Err.field-0 (sees was step) c.requires.there c.in-Err.ensures.no_room.0 in
    let fewer = removes.free in
    omega (arith, one, fewer, none)) refused)

pub returns-then-is_there-clause-keeps : goal.returns-then-is_there-clause-keeps
returns-then-is_there-clause-keeps g c = keeps_self c.args.self.now c.args.self.now c.requires.runs refl

pub returns-then-is_there-clause-ok : goal.returns-then-is_there-clause-ok
returns-then-is_there-clause-ok g c sees was held step holds =
    (held, holds, same_holds holds c.args.rid.page c.args.rid.slot (slots_of c.args.page.now.bytes) c.args.bytes.now (sees was step) (c.is_there.ensures.yes c.if-is_there.true))

pub returns-then-is_there-clause-alone : goal.returns-then-is_there-clause-alone
returns-then-is_there-clause-alone g c there = refl

pub returns-in_ok-store-in-Ok-clause-alone : goal.returns-in_ok-store-in-Ok-clause-alone
returns-in_ok-store-in-Ok-clause-alone g c there = absurd (c.is_there.ensures.no c.if-is_there.false there)

pub returns-in_ok-drop_record-in-Err-clause-alone : goal.returns-in_ok-drop_record-in-Err-clause-alone
returns-in_ok-drop_record-in-Err-clause-alone g c =
    if_ok_then c.place.result c.place.ensures.ok (λ place ok there. absurd (c.is_there.ensures.no c.if-is_there.false there))
