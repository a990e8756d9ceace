-- What the pass that tests a page finds of its room.
use Rattle.std.proofs.Common.{◌≡◌, ℕ, suc, ◌+◌, ◌-◌, ◌*◌, ◌<◌, ◌≤◌, min, List, [], ◌∷◌, length, refl, ap, subst, ◌∙◌, arith, inl, inr}
use Rattle.std.proofs.lemmas.Bool.{cases_lt}
use Rattle.std.specs.Prelude.{Option, Some, None}
use Rattle.nx_slots.specs.Edits.{first_empty}
use Rattle.nx_slots.proofs.ReadLemmas.{length-slots_of}
use Rattle.nx_slots.specs.Slots.{count_of, at_of, size_of, slots_of, IsHeaded, IsFullSlot}
use Rattle.nx_slots.specs.Covers.{sizes, IsSeen}
use Rattle.nx_slots.specs.Rooms.{HasRoom}
use Rattle.nx_slots.specs.declared.room.Room.{Room}
use Rattle.nx_slots.proofs.FitLemmas.{taken-slots_of}
use Rattle.nx_slots.proofs.ChangeLemmas.{found_empty}
use Rattle.nx_slots.proofs.CoverLemmas.{descends_none, descends_empty, descends_full, slotted_whole}

sizes-more : (size : ℕ → ℕ) (i : ℕ) → sizes size (i + 1) ≡ sizes size i + size i
sizes-more size i =
    let e : i + 1 ≡ suc i = omega arith in
    ap (λ (n : ℕ). sizes size n) e ∙ omega arith

-- at the start
pub seen_none : (page : List ℕ) (count : ℕ) → IsHeaded page → count ≡ count_of page
    → IsSeen page (record { count = count; slot = count; free = 8184 - 4 * count; start = 8192 }) 0
seen_none page count headed counted =
    let few = headed.few in
    record {
      count = counted;
      descends = descends_none page;
      full = λ slot below low. absurd (omega arith);
      empty = inl counted;
      free = omega arith;
      fits = omega arith;
    }

-- one empty slot more
pub seen_empty : (page : List ℕ) (room : Room) (i slot : ℕ) → i < count_of page → at_of page i ≡ 0 → size_of page i ≡ 0
    → slot ≡ min room.slot i → IsSeen page room i
    → IsSeen page (record { count = room.count; slot = slot; free = room.free; start = room.start }) (i + 1)
seen_empty page room i slot low at none first seen =
    let more = sizes-more (λ n. size_of page n) i in
    let free = seen.free in
    let fits = seen.fits in
    record {
      count = seen.count;
      descends = descends_empty page room.start i at none seen.descends;
      full = λ n below there. seen.full n (omega arith) (omega arith);
      empty = elim (cases_lt room.slot i) [
        | inl before ↦
            let same : room.slot ≡ slot = omega arith in
            elim seen.empty [
              | inl end ↦ absurd (omega arith)
              | inr here ↦ inr (omega arith, subst (λ (n : ℕ). size_of page n ≡ 0) same here.1)
            ]
        | inr behind ↦
            let same : i ≡ slot = omega arith in
            inr (omega arith, subst (λ (n : ℕ). size_of page n ≡ 0) same none)
      ];
      free = omega arith;
      fits = omega arith;
    }

-- one record more
pub seen_full : (page : List ℕ) (room : Room) (i at size : ℕ) → at ≡ at_of page i → size ≡ size_of page i → IsFullSlot page i
    → at + size ≤ room.start → IsSeen page room i
    → IsSeen page (record { count = room.count; slot = room.slot; free = room.free - size; start = at }) (i + 1)
seen_full page room i at size begins sized full ends seen =
    let more = sizes-more (λ n. size_of page n) i in
    let free = seen.free in
    let fits = seen.fits in
    let behind = full.behind in
    record {
      count = seen.count;
      descends = descends_full page room.start i at begins full (omega arith) seen.descends;
      full = λ n below there. elim (cases_lt n i) [
        | inl before ↦ seen.full n below before
        | inr from ↦
            let same : i ≡ n = omega arith in
            subst (λ (m : ℕ). 1 ≤ size_of page m) same full.some
      ];
      empty = elim seen.empty [
        | inl end ↦ inl end
        | inr here ↦ let before = here.0 in inr (omega arith, here.1)
      ];
      free = omega arith;
      fits = omega arith;
    }

-- and at the end
pub seen_room : (page : List ℕ) (room : Room) (done : ℕ) → IsHeaded page → done ≡ count_of page → IsSeen page room done
    → (1 ≤ done → 1 ≤ size_of page (done - 1)) → HasRoom page room
seen_room page room done headed end seen_done last_done =
    let seen = subst (λ (n : ℕ). IsSeen page room n) end seen_done in
    let last = subst (λ (n : ℕ). 1 ≤ n → 1 ≤ size_of page (n - 1)) end last_done in
    let is = slotted_whole page (count_of page) headed refl seen.descends.slotted last in
    let taken = taken-slots_of page is in
    let free = seen.free in
    let within : room.slot ≤ count_of page = elim seen.empty [ inl all ↦ omega arith | inr here ↦ let low = here.0 in omega arith ] in
    record {
      slotted = is;
      count = seen.count;
      slot = found_empty page room.slot is within (λ j low. seen.full j low (omega arith)) seen.empty;
      free = omega arith;
      within = seen.descends.within;
      behind = seen.descends.behind;
    }

-- the first empty slot is one of the slots, or the next new one
pub slot_within : {page : List ℕ} {room : Room} → HasRoom page room → room.slot ≤ count_of page
slot_within {page} {room} has =
    let slot = has.slot in
    let long = length-slots_of page in
    let low = first_empty_low (slots_of page) in
    omega arith
  where
    first_empty_low : (slots : List (Option (List ℕ))) → first_empty slots ≤ length slots
    first_empty_low [] = omega arith
    first_empty_low (None ∷ slots) = omega arith
    first_empty_low (Some bytes ∷ slots) = let rest = first_empty_low slots in omega arith
