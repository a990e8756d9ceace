use Rattle.std.proofs.Common.{sym, ◌∙◌, arith}
use Rattle.nx_slots.proofs.RoomLemmas.{seen_empty, seen_full}
use Rattle.nx_slots.proofs.room.with_slot.Goals as goal

pub returns-then-at-eq0 : goal.returns-then-at-eq0
returns-then-at-eq0 c =
    seen_empty c.args.page.now c.args.room c.args.i c.min.result c.requires.there (sym c.offset_in-at.ensures ∙ c.if-at-eq0.true) (sym c.size_at-size.ensures ∙ c.if-size-eq0.true)
    c.min.ensures c.requires.seen

pub returns : goal.returns
returns c =
    let at = c.offset_in-at.ensures in
    let size = c.size_at-size.ensures in
    let count = c.requires.seen.count in
    let within = c.requires.seen.descends.within in
    seen_full c.args.page.now c.args.room c.args.i c.offset_in-at.result c.size_at-size.result at size
    record { some = omega arith; behind = omega arith; within = omega arith }
    (omega arith) c.requires.seen
