use Rattle.nx_slots.proofs.AppendLemmas.{appended_slotted, appended_slots}
use Rattle.nx_slots.proofs.appending.append.Goals as goal

pub returns-clause-slotted : goal.returns-clause-slotted
returns-clause-slotted c =
    appended_slotted c.args.page.now c.set_u16_at.new.bytes c.lay.new.page c.args.count c.args.start c.args.bytes.now c.requires.slotted c.requires.count c.requires.some c.requires.within c.requires.behind c.requires.room
    c.set_u16_at.ensures c.lay.ensures.laid

pub returns-clause-slots : goal.returns-clause-slots
returns-clause-slots c =
    appended_slots c.args.page.now c.set_u16_at.new.bytes c.lay.new.page c.args.count c.args.start c.args.bytes.now c.requires.slotted c.requires.count c.requires.some c.requires.within c.requires.behind c.requires.room
    c.set_u16_at.ensures c.lay.ensures.laid
