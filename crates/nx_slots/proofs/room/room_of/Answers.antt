use Rattle.std.proofs.Common.{ℕ, ◌-◌, ◌≤◌, subst, arith}
use Rattle.nx_slots.specs.Slots.{size_of}
use Rattle.nx_slots.proofs.CoverLemmas.{slotted_whole}
use Rattle.nx_slots.proofs.RoomLemmas.{seen_room}
use Rattle.nx_slots.proofs.room.room_of.Goals as goal

pub returns-in-Some : goal.returns-in-Some
returns-in-Some c =
    seen_room c.args.page.now c.in-Some.room c.count_at-count.result (c.is_headed.ensures.yes c.if-not-is_headed.false) c.count_at-count.ensures c.in-Some.ensures
    (c.ends_full.ensures.yes c.if-not-ends_full.false)

pub scanned_room-requires : goal.scanned_room-requires
scanned_room-requires c =
    let count = c.count_at-count.ensures in
    slotted_whole c.args.page.now c.count_at-count.result (c.is_headed.ensures.yes c.if-not-is_headed.false) count (c.has_slots.ensures.yes c.if-not-has_slots.false)
    (λ some. subst (λ (n : ℕ). 1 ≤ size_of c.args.page.now (n - 1)) count (c.ends_full.ensures.yes c.if-not-ends_full.false (omega arith)))
