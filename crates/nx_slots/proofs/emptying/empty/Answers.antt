use Rattle.nx_slots.proofs.EmptyLemmas.{emptied_slotted, emptied_slots}
use Rattle.nx_slots.proofs.emptying.empty.Goals as goal

pub returns-clause-slotted : goal.returns-clause-slotted
returns-clause-slotted c =
    emptied_slotted c.args.page.now c.lay.new.page c.set_u16_at.new.bytes c.args.slot c.args.count c.requires.slotted c.requires.there c.requires.few c.requires.last
    c.lay.ensures.laid c.set_u16_at.ensures

pub returns-clause-slots : goal.returns-clause-slots
returns-clause-slots c =
    emptied_slots c.args.page.now c.lay.new.page c.set_u16_at.new.bytes c.args.slot c.args.count c.requires.slotted c.requires.there c.requires.few c.requires.last
    c.lay.ensures.laid c.set_u16_at.ensures
