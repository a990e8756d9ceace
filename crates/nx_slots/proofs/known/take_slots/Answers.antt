use Rattle.nx_slots.proofs.KnownLemmas.{slots_taken}
use Rattle.nx_slots.proofs.known.take_slots.Goals as goal

-- src/known.rt:36:1
pub returns : goal.returns
returns c = slots_taken c.args.known.now c.args.page.now c.copy_from_slice.new.self c.count_at.result c.requires.slotted c.requires.long c.count_at.ensures c.copy_from_slice.ensures.after
