use Rattle.std.proofs.Common.{sym, ◌∙◌}
use Rattle.nx_slots.specs.Slots.{slots_of}
use Rattle.nx_holdings.specs.Holdings.{free_bytes}
use Rattle.nx_records.specs.Changes.{RemovesRecord}
use Rattle.nx_records.proofs.StandLemmas.{on_ok_then, stepped}
use Rattle.nx_records.proofs.StepLemmas.{clear_holds, release_holds, empty_slots, full_slots}
use Rattle.nx_records.proofs.records.Records.drop_record.Goals as goal

pub returns-then-free_bytes_in-clause-ok : goal.returns-then-free_bytes_in-clause-ok
returns-then-free_bytes_in-clause-ok g c = on_ok_then c.release.result c.release.ensures.ok (λ ok sees.
    stepped g.D.Disk c.args.self.now c.release.new.self c.args.disk.now c.args.rid.page (free_bytes c.args.self.now.head.free) (λ was now. RemovesRecord c.args.rid.page c.args.rid.slot was now) ok
    (λ was held step holds. release_holds holds c.args.rid.page c.args.rid.slot (slots_of c.args.page.now.bytes) c.requires.low (sees was step) c.requires.there
    (sym c.clear_in.ensures.now ∙ empty_slots (slots_of c.clear_in.new.page.bytes) (sym c.free_bytes_in.ensures ∙ c.if-free_bytes_in.true))))

pub returns-else-free_bytes_in-clause-ok : goal.returns-else-free_bytes_in-clause-ok
returns-else-free_bytes_in-clause-ok g c = on_ok_then c.store.result c.store.ensures.ok (λ ok sees.
    stepped g.D.Disk c.args.self.now c.store.new.self c.args.disk.now c.args.rid.page c.clear_in.new.page.bytes (λ was now. RemovesRecord c.args.rid.page c.args.rid.slot was now) ok
    (λ was held step holds. clear_holds holds c.args.rid.page c.args.rid.slot (slots_of c.args.page.now.bytes) c.clear_in.new.page.bytes c.requires.low (sees was step) c.requires.there c.clear_in.ensures.slotted
    c.clear_in.ensures.now
    (full_slots _ (λ free. c.if-free_bytes_in.false (c.free_bytes_in.ensures ∙ free)))))
