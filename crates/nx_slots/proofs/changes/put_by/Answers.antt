use Rattle.std.proofs.Common.{ℕ, ◌+◌, length, refl, sym, ap, ◌∙◌, arith, inl, inr}
use Rattle.std.proofs.lemmas.Bool.{cases_lt}
use Rattle.std.specs.Prelude.{◌==◌, if◌then◌else◌}
use Rattle.nx_slots.specs.Slots.{count_of, slots_of}
use Rattle.nx_slots.proofs.ReadLemmas.{length-slots_of}
use Rattle.nx_slots.proofs.EditLemmas.{edited_record}
use Rattle.nx_slots.proofs.ChangeLemmas.{needed_is, put_stands, put_way}
use Rattle.nx_slots.proofs.RoomLemmas.{slot_within}
use Rattle.nx_slots.proofs.changes.put_by.Goals as goal

pub returns-then-needed-room-clause-no_room : goal.returns-then-needed-room-clause-no_room
returns-then-needed-room-clause-no_room c =
    let room = c.requires.room in
    let needed = needed_is (slots_of c.args.page.now) c.args.bytes.now c.args.room.slot c.args.room.count c.needed_at-needed.result
    c.needed_at-needed.ensures room.slot (room.count ∙ sym (length-slots_of c.args.page.now)) in
    ((needed, room.free, c.if-needed-room.true), refl)

pub fill-requires-clause-stands : goal.fill-requires-clause-stands
fill-requires-clause-stands c =
    let room = c.requires.room in
    let count = room.count in
    let free = room.free in
    put_stands c.args.page.now c.args.room.slot c.args.bytes.now c.count_after.result c.needed_at-needed.result room.slotted c.requires.some
    (put_way c.args.room.slot (count_of c.args.page.now) c.count_after.result (slot_within room)
    (λ low. c.count_after.ensures.there (omega arith) ∙ count) (λ at. c.count_after.ensures.new (omega arith) ∙ ap (λ (n : ℕ). n + 1) count))
    (c.needed_at-needed.ensures ∙ ap (λ (n : ℕ). if c.args.room.slot == n then length c.args.bytes.now + 4 else length c.args.bytes.now) count)
    (omega arith)

pub returns-clause-ok : goal.returns-clause-ok
returns-clause-ok c =
    let room = c.requires.room in
    let count = room.count in
    let needed = needed_is (slots_of c.args.page.now) c.args.bytes.now c.args.room.slot c.args.room.count c.needed_at-needed.result
    c.needed_at-needed.ensures room.slot (count ∙ sym (length-slots_of c.args.page.now)) in
    let free = room.free in
    record {
      room = omega arith;
      place = room.slot;
      now =
          c.fill.ensures.slots
          ∙ edited_record c.args.page.now c.args.room.slot c.args.bytes.now c.count_after.result c.requires.some
          (put_way c.args.room.slot (count_of c.args.page.now) c.count_after.result (slot_within room)
          (λ low. c.count_after.ensures.there (omega arith) ∙ count) (λ at. c.count_after.ensures.new (omega arith) ∙ ap (λ (n : ℕ). n + 1) count));
    }

pub count_after-requires-clause-within : goal.count_after-requires-clause-within
count_after-requires-clause-within c =
    let count = c.requires.room.count in
    let within = slot_within c.requires.room in
    omega arith

pub fill-requires-clause-there : goal.fill-requires-clause-there
fill-requires-clause-there c i low other =
    let count = c.requires.room.count in
    let within = slot_within c.requires.room in
    elim (cases_lt c.args.room.slot c.args.room.count) [
      | inl there ↦ let same = c.count_after.ensures.there there in omega arith
      | inr end ↦ let more = c.count_after.ensures.new (omega arith) in elim (cases_lt i c.args.room.count) [
        | inl below ↦ omega arith
        | inr past ↦ absurd (other (omega arith))
      ]
    ]

pub overflow_cast-result-2 : goal.overflow_cast-result-2
overflow_cast-result-2 c =
    let within = slot_within c.requires.room in
    let few = c.requires.room.slotted.headed.few in
    omega arith
