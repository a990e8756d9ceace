use Rattle.std.proofs.Common.{◌∙◌, refl, subst, sym}
use Rattle.std.proofs.lemmas.Result.{err_from_is_err_and}
use Rattle.nx_slots.specs.Slots.{IsSlotted}
use Rattle.nx_records.specs.declared.error.StoreError.{StoreError}
use Rattle.nx_records.specs.Pages.{NotFound}
use Rattle.nx_records.proofs.RefusalLemmas.{err_passed, ended_now, found_damaged, missing_slots, NoSlots, some_same}
use Rattle.nx_records.proofs.records.Records.load_slotted.Goals as goal

pub returns-in_err-load_used-clause-refused : goal.returns-in_err-load_used-clause-refused
returns-in_err-load_used-clause-refused g c =
    err_passed c.from_residual.result (λ (e : StoreError). NotFound g.D.Disk (NoSlots c.args.page c.args.self.now) c.args.named e c.args.self.now c.load_used.new.self c.args.disk.now c.load_used.new.disk)
    c.in_err-load_used.field-0.0 (err_from_is_err_and c.from_residual.result c.from_residual.ensures.1)
    (missing_slots g.D.Disk c.args.self.now c.load_used.new.self c.args.disk.now c.load_used.new.disk c.args.named c.args.page c.in_err-load_used.field-0.0 c.in_err-load_used.ensures.refused)

pub returns-then-not-is_page-clause-refused : goal.returns-then-not-is_page-clause-refused
returns-then-not-is_page-clause-refused g c =
    found_damaged g.D.Disk c.args.self.now c.damaged.new.self c.args.disk.now c.load_used.new.disk c.args.named (NoSlots c.args.page c.args.self.now) c.damaged.result c.damaged.ensures.result
    (ended_now {r0 = c.args.self.now} {r1 = c.load_used.new.self} {r2 = c.damaged.new.self} c.requires c.in_ok-load_used.ensures.ok.0 c.damaged.ensures.ended)
    (λ was step low slots has. c.is_page.ensures.no c.if-not-is_page.true (subst IsSlotted (some_same (sym has.there ∙ c.in_ok-load_used.ensures.ok.2 was step)) has.slotted))

pub returns-clause-slots : goal.returns-clause-slots
returns-clause-slots g c was step = record { bytes = c.load_used.new.into.bytes; there = c.in_ok-load_used.ensures.ok.2 was step; slotted = c.is_page.ensures.yes c.if-not-is_page.false; are = refl }
