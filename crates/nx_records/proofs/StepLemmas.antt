-- What the pages hold after a record was put, changed or taken out.
use Rattle.std.proofs.Common.{◌≡◌, ℕ, ◌+◌, ◌-◌, ◌<◌, ◌≤◌, List, [], ◌∷◌, length, refl, sym, ap, subst, ◌∙◌, arith, Bool, true, false, inl, inr}
use Rattle.std.proofs.lemmas.Bool.{cases_Bool, cases_lt, eqb-true, eq-eqb, false≢true, lt-ltb}
use Rattle.std.proofs.lemmas.List.{get_or-set_other, get_or-set_same, get_or_past}
use Rattle.std.specs.Prelude.{◌==◌, ◌≢◌, ◌^◌, ◌&&◌, if◌then◌else◌, nat_lt, slice_index_or, slice_set, Option, Some, None, IsSome}
use Rattle.nx_host.specs.declared.disk.Disk.{Ghosts}
use Rattle.std.specs.Option.{option_or, is_some}
use Rattle.nx_replay.specs.Log.{Pages, replay}
use Rattle.nx_slots.specs.Slots.{IsSlotted, slots_of}
use Rattle.nx_slots.specs.Edits.{with_record, without_record, HasRecord, IsPut, free_in, record_bytes, growth_of, bytes_in, needed_for}
use Rattle.nx_slots.specs.Refusals.{LacksRoom}
use Rattle.nx_slots.specs.declared.page.SlotsError.{SlotsError}
use Rattle.nx_slots.specs.declared.page.SlotsError.TheVariants.{NoRoom}
use Rattle.nx_slots.proofs.MapLemmas.{first_empty-within, first_empty-empty, with_record-here, with_record-other, without_record-here, without_record-other}
use Rattle.nx_host.specs.Disk.{Image}
use Rattle.nx_wal.specs.declared.wal.Wal.{Wal}
use Rattle.nx_wal.specs.Wal.{IsInStep, PutsRecord, ClearsRecord, current}
use Rattle.nx_holdings.specs.declared.header.Header.{Header}
use Rattle.nx_holdings.specs.Header.{newest_format}
use Rattle.nx_holdings.specs.Holdings.{with_page, free_bytes, record_in, Held, HoldsBehind, times, IsFreeList, Shares, IsShared}
use Rattle.nx_holdings.proofs.TimesLemmas.{times_one, times-cons}
use Rattle.nx_holdings.proofs.SharedLemmas.{named_parts}
use Rattle.nx_holdings.proofs.HeldLemmas.{slotted_record, other_record, holds_numbered, holds_changed, holds_released, holds_first, holds_unused, free_kind}
use Rattle.nx_records.proofs.StandLemmas.{Stores, put_current}
use Rattle.nx_records.specs.declared.records.Records.{Records}
use Rattle.nx_records.specs.Records.{next_number, has_free_by}
use Rattle.nx_records.specs.Changes.{records_with, AddsRecord, RemovesRecord, UpdatesRecord, needs_than, update_needs}
use Rattle.nx_records.specs.Pages.{HasSlots, IsFreeAt, SeesSo, IsPageTaken, numbered, released}

some_not_none : {T : Type 0} {x : T} → ◌≡◌ {A = Option T} None (Some x) → ⊥
some_not_none same = cc

-- what a slot holds, with this at one of them
abbrev pub slot_with : (ℕ → Option (List ℕ)) → ℕ → Option (List ℕ) → ℕ → Option (List ℕ)
slot_with old slot new s = if s == slot then new else old s

pub put_slots : (slots after : List (Option (List ℕ))) (slot : ℕ) (bytes : List ℕ) → IsPut slots bytes slot after
    → (s : ℕ) → slice_index_or after s None ≡ slot_with (λ i. slice_index_or slots i None) slot (Some bytes) s
put_slots slots after slot bytes put s =
    let within : slot ≤ length slots = let most = first_empty-within slots in let place = put.place in omega (arith, most, place) in
    ap (λ (r : List (Option (List ℕ))). slice_index_or r s None) put.now
    ∙ elim (cases_Bool (s == slot)) [
      | inl holds ↦
          ap (λ (i : ℕ). slice_index_or (with_record slots slot bytes) i None) (eqb-true s slot holds) ∙ with_record-here slots slot bytes within
          ∙ sym (ap (λ (b : Bool). if b then Some bytes else slice_index_or slots s None) holds)
      | inr fails ↦
          with_record-other slots slot bytes s within (λ same. false≢true (sym fails ∙ eq-eqb s slot same))
          ∙ sym (ap (λ (b : Bool). if b then Some bytes else slice_index_or slots s None) fails)
    ]

pub record_within : (slots : List (Option (List ℕ))) (slot : ℕ) → HasRecord slots slot → slot < length slots
record_within slots slot has = elim (cases_lt slot (length slots)) [
  | inl low ↦ low
  | inr past ↦ absurd (false≢true (subst IsSome (get_or_past slots slot None past) has))
]

pub set_slots : (slots after : List (Option (List ℕ))) (slot : ℕ) (bytes : List ℕ) → HasRecord slots slot → after ≡ slice_set slots slot (Some bytes)
    → (s : ℕ) → slice_index_or after s None ≡ slot_with (λ i. slice_index_or slots i None) slot (Some bytes) s
set_slots slots after slot bytes has now s =
    ap (λ (r : List (Option (List ℕ))). slice_index_or r s None) now
    ∙ elim (cases_Bool (s == slot)) [
      | inl holds ↦
          ap (λ (i : ℕ). slice_index_or (slice_set slots slot (Some bytes)) i None) (eqb-true s slot holds) ∙ get_or-set_same slots slot (Some bytes) None (record_within slots slot has)
          ∙ sym (ap (λ (b : Bool). if b then Some bytes else slice_index_or slots s None) holds)
      | inr fails ↦
          get_or-set_other slots slot s (Some bytes) None (λ same. false≢true (sym fails ∙ eq-eqb s slot same))
          ∙ sym (ap (λ (b : Bool). if b then Some bytes else slice_index_or slots s None) fails)
    ]

pub clear_slots : (slots after : List (Option (List ℕ))) (slot : ℕ) → after ≡ without_record slots slot
    → (s : ℕ) → slice_index_or after s None ≡ slot_with (λ i. slice_index_or slots i None) slot None s
clear_slots slots after slot now s =
    ap (λ (r : List (Option (List ℕ))). slice_index_or r s None) now
    ∙ elim (cases_Bool (s == slot)) [
      | inl holds ↦
          ap (λ (i : ℕ). slice_index_or (without_record slots slot) i None) (eqb-true s slot holds) ∙ without_record-here slots slot
          ∙ sym (ap (λ (b : Bool). if b then None else slice_index_or slots s None) holds)
      | inr fails ↦
          without_record-other slots slot s (λ same. false≢true (sym fails ∙ eq-eqb s slot same))
          ∙ sym (ap (λ (b : Bool). if b then None else slice_index_or slots s None) fails)
    ]

module _ {pages : Pages} {h : Header} {held : Held} (holds : HoldsBehind pages h held) where
  -- the records where one slot of one page is changed
  pub changed_records : (page slot : ℕ) (bytes : List ℕ) (new : Option (List ℕ)) → ((s : ℕ) → record_in (Some bytes) s ≡ slot_with (record_in (pages page)) slot new s)
      → (p s : ℕ) → records_with held.records page slot new p s ≡ record_in (with_page pages page bytes p) s
  changed_records page slot bytes new slots p s = elim (cases_Bool (p == page)) [
    | inl same ↦
        let here : held.records p s ≡ record_in (pages page) s = holds.records p s ∙ ap (λ (q : ℕ). record_in (pages q) s) (eqb-true p page same) in
        ap (λ (b : Bool). if b && (s == slot) then new else held.records p s) same
        ∙ ap (λ (o : Option (List ℕ)). if s == slot then new else o) here
        ∙ sym (slots s)
        ∙ sym (ap (λ (b : Bool). record_in (if b then Some bytes else pages p) s) same)
    | inr fails ↦
        ap (λ (b : Bool). if b && (s == slot) then new else held.records p s) fails ∙ holds.records p s
        ∙ sym (ap (λ (b : Bool). record_in (if b then Some bytes else pages p) s) fails)
  ]

  -- what a page with these slots holds
  pub page_records : (page : ℕ) (slots : List (Option (List ℕ))) → HasSlots pages page slots → (s : ℕ) → record_in (pages page) s ≡ slice_index_or slots s None
  page_records page slots has s =
      slotted_record pages page s has.bytes has.there has.slotted ∙ ap (λ (r : List (Option (List ℕ))). slice_index_or r s None) has.are

  pub bytes_records : (bytes : List ℕ) → IsSlotted bytes → (s : ℕ) → record_in (Some bytes) s ≡ slice_index_or (slots_of bytes) s None
  bytes_records bytes slotted s = slotted_record (λ p. Some bytes) 0 s bytes refl slotted

  pub some_slots : (slots : List (Option (List ℕ))) (s : ℕ) (record_there : List ℕ) → slice_index_or slots s None ≡ Some record_there → slots ≢ []
  some_slots slots s record_there there none = some_not_none (sym (ap (λ (r : List (Option (List ℕ))). slice_index_or r s None) none) ∙ there)

  pub here_is : (slot : ℕ) (old : ℕ → Option (List ℕ)) (new : Option (List ℕ)) → slot_with old slot new slot ≡ new
  here_is slot old new = ap (λ (b : Bool). if b then new else old slot) (eq-eqb slot slot refl)

  lift_slots : (page slot : ℕ) (slots : List (Option (List ℕ))) (bytes : List ℕ) (new : Option (List ℕ)) → HasSlots pages page slots → IsSlotted bytes
      → ((s : ℕ) → slice_index_or (slots_of bytes) s None ≡ slot_with (λ i. slice_index_or slots i None) slot new s)
      → (s : ℕ) → record_in (Some bytes) s ≡ slot_with (record_in (pages page)) slot new s
  lift_slots page slot slots bytes new has slotted after s =
      bytes_records bytes slotted s ∙ after s ∙ ap (λ (o : Option (List ℕ)). if s == slot then new else o) (sym (page_records page slots has s))

  -- a record is put into a slotted page
  pub put_holds : (page slot : ℕ) (slots : List (Option (List ℕ))) (bytes page_bytes : List ℕ) → page < h.pages → HasSlots pages page slots → IsSlotted page_bytes
      → IsPut slots bytes slot (slots_of page_bytes) → (next : Held) × HoldsBehind (with_page pages page page_bytes) h next × AddsRecord page slot bytes held next
  put_holds page slot slots bytes page_bytes low has slotted put =
      let after = put_slots slots (slots_of page_bytes) slot bytes put in
      let nonempty = some_slots (slots_of page_bytes) slot bytes (after slot ∙ here_is slot (λ i. slice_index_or slots i None) (Some bytes)) in
      let records = records_with held.records page slot (Some bytes) in (
        record held { records = records },
        holds_changed page has.bytes page_bytes holds low has.there has.slotted slotted nonempty records
            (changed_records page slot page_bytes (Some bytes) (lift_slots page slot slots page_bytes (Some bytes) has slotted after)),
        record {
          was_none = holds.records page slot ∙ page_records page slots has slot ∙ ap (λ (i : ℕ). slice_index_or slots i None) put.place ∙ first_empty-empty slots;
          changes = record { records = refl; lists = refl; catalog = refl; settings = refl };
          free = omega arith;
        },
      )

  -- a record of a slotted page is changed
  pub set_holds : (page slot : ℕ) (slots : List (Option (List ℕ))) (bytes page_bytes : List ℕ) → page < h.pages → HasSlots pages page slots → HasRecord slots slot → IsSlotted page_bytes
      → slots_of page_bytes ≡ slice_set slots slot (Some bytes) → (next : Held) × HoldsBehind (with_page pages page page_bytes) h next × UpdatesRecord page slot bytes page slot held next
  set_holds page slot slots bytes page_bytes low has there slotted set =
      let after = set_slots slots (slots_of page_bytes) slot bytes there set in
      let nonempty = some_slots (slots_of page_bytes) slot bytes (after slot ∙ here_is slot (λ i. slice_index_or slots i None) (Some bytes)) in
      let records = records_with (records_with held.records page slot None) page slot (Some bytes) in
      let are = changed_records page slot page_bytes (Some bytes) (lift_slots page slot slots page_bytes (Some bytes) has slotted after) in (
        record held { records = records },
        holds_changed page has.bytes page_bytes holds low has.there has.slotted slotted nonempty records (λ p s. twice p s ∙ are p s),
        record {
          was_there = subst IsSome (sym (holds.records page slot ∙ page_records page slots has slot)) there;
          was_none =
              ap (λ (b : Bool). if b && (slot == slot) then None else held.records page slot) (eq-eqb page page refl)
              ∙ ap (λ (b : Bool). if b then None else held.records page slot) (eq-eqb slot slot refl);
          changes = record { records = refl; lists = refl; catalog = refl; settings = refl };
          stays = λ none. (refl, refl);
          free = omega arith;
        },
      )
    where
      twice : (p s : ℕ) → records_with (records_with held.records page slot None) page slot (Some bytes) p s ≡ records_with held.records page slot (Some bytes) p s
      twice p s = over_twice ((p == page) && (s == slot)) (held.records p s)
        where
          over_twice : (b : Bool) (o : Option (List ℕ)) → (if b then Some bytes else (if b then None else o)) ≡ (if b then Some bytes else o)
          over_twice true o = refl
          over_twice false o = refl

  -- ... to the bytes that it has
  pub same_holds : (page slot : ℕ) (slots : List (Option (List ℕ))) (bytes : List ℕ) → HasSlots pages page slots → slice_index_or slots slot None ≡ Some bytes → UpdatesRecord page slot bytes page slot held held
  same_holds page slot slots bytes has there = record {
    was_there = ap is_some here;
    was_none =
        ap (λ (b : Bool). if b && (slot == slot) then None else held.records page slot) (eq-eqb page page refl)
        ∙ ap (λ (b : Bool). if b then None else held.records page slot) (eq-eqb slot slot refl);
    changes = record { records = λ i p s. each p s i; lists = refl; catalog = refl; settings = refl };
    stays = λ none. (refl, refl);
    free = omega arith;
  }
    where
      here : held.records page slot ≡ Some bytes
      here = holds.records page slot ∙ page_records page slots has slot ∙ there

      each : (p s : ℕ) → held.records p s ≡ records_with (records_with held.records page slot None) page slot (Some bytes) p s
      each p s = elim (cases_Bool ((p == page) && (s == slot))) [
        | inl both ↦
            elim (cases_Bool (p == page)) [
              | inl one ↦
                  let other : (s == slot) ≡ true = ap (λ (b : Bool). b && (s == slot)) (sym one) ∙ both in
                  ap (λ (q : ℕ). held.records q s) (eqb-true p page one) ∙ ap (λ (t : ℕ). held.records page t) (eqb-true s slot other) ∙ here
                  ∙ sym (ap (λ (b : Bool). if b then Some bytes else records_with held.records page slot None p s) both)
              | inr none ↦ absurd (false≢true (ap (λ (b : Bool). b && (s == slot)) (sym none) ∙ both))
            ]
        | inr fails ↦ sym (ap (λ (b : Bool). if b then Some bytes else (if b then None else held.records p s)) fails)
      ]

  -- a record is taken out of a slotted page, which has others
  pub clear_holds : (page slot : ℕ) (slots : List (Option (List ℕ))) (page_bytes : List ℕ) → page < h.pages → HasSlots pages page slots → HasRecord slots slot → IsSlotted page_bytes
      → slots_of page_bytes ≡ without_record slots slot → slots_of page_bytes ≢ [] → (next : Held) × HoldsBehind (with_page pages page page_bytes) h next × RemovesRecord page slot held next
  clear_holds page slot slots page_bytes low has there slotted clear nonempty =
      let after = clear_slots slots (slots_of page_bytes) slot clear in
      let records = records_with held.records page slot None in (
        record held { records = records },
        holds_changed page has.bytes page_bytes holds low has.there has.slotted slotted nonempty records
            (changed_records page slot page_bytes None (lift_slots page slot slots page_bytes None has slotted after)),
        record {
          was_there = subst IsSome (sym (holds.records page slot ∙ page_records page slots has slot)) there;
          changes = record { records = refl; lists = refl; catalog = refl; settings = refl };
          free = omega arith;
        },
      )

  -- the last record of a page is taken out, and the page given back
  pub release_holds : (page slot : ℕ) (slots : List (Option (List ℕ))) → page < h.pages → HasSlots pages page slots → HasRecord slots slot → without_record slots slot ≡ []
      → (next : Held) × HoldsBehind (with_page pages page (free_bytes h.free)) (released page h) next × RemovesRecord page slot held next
  release_holds page slot slots low has there gone =
      let after = clear_slots slots [] slot (sym gone) in
      let records = records_with held.records page slot None in (
        record held { records = records; free = held.free + 1 },
        holds_released page has.bytes holds low has.there has.slotted records
            (changed_records page slot (free_bytes h.free) None (λ s.
            other_record (λ p. Some (free_bytes h.free)) 0 s (record { bytes = free_bytes h.free; there = refl; kind = free_kind h.free })
            ∙ after s ∙ ap (λ (o : Option (List ℕ)). if s == slot then None else o) (sym (page_records page slots has s)))),
        record {
          was_there = subst IsSome (sym (holds.records page slot ∙ page_records page slots has slot)) there;
          changes = record { records = refl; lists = refl; catalog = refl; settings = refl };
          free = omega arith;
        },
      )

-- no slot is left where all bytes are free
pub empty_slots : (slots : List (Option (List ℕ))) → free_in slots ≡ 8184 → slots ≡ []
empty_slots [] free = refl
empty_slots (s ∷ ss) free = absurd (omega (arith, free))

pub full_slots : (slots : List (Option (List ℕ))) → (free_in slots ≡ 8184 → ⊥) → slots ≢ []
unfolding record_bytes
full_slots slots full none = full (ap (λ (r : List (Option (List ℕ))). free_in r) none)

fresh_slots : (slots : List (Option (List ℕ))) (slot : ℕ) (bytes page_bytes : List ℕ) → slots ≡ [] → IsPut slots bytes slot (slots_of page_bytes)
    → (s : ℕ) → slice_index_or (slots_of page_bytes) s None ≡ slot_with (λ i. None) slot (Some bytes) s
fresh_slots slots slot bytes page_bytes none put s =
    put_slots slots (slots_of page_bytes) slot bytes put s
    ∙ ap (λ (r : List (Option (List ℕ))). slot_with (λ i. slice_index_or r i None) slot (Some bytes) s) none

-- a record is put into a page that was free
module _ {pages : Pages} {h h1 : Header} {held : Held} (holds : HoldsBehind pages h held) (few : h.pages ≤ 2 ^ 32) where
  pub new_holds : (page slot : ℕ) (slots : List (Option (List ℕ))) (bytes page_bytes : List ℕ) → IsPageTaken pages page h h1 → slots ≡ [] → IsSlotted page_bytes → IsPut slots bytes slot (slots_of page_bytes)
      → (next : Held) × HoldsBehind (with_page pages page page_bytes) (record h1 { room = page }) next × AddsRecord page slot bytes held next
  new_holds page slot slots bytes page_bytes takes none slotted put =
      let records = records_with held.records page slot (Some bytes) in
      elim takes [
        | inl free ↦
            let there : pages page ≡ Some (free_bytes free.next) = free.free.there in
            let no_record : (s : ℕ) → record_in (pages page) s ≡ None = (λ s. other_record pages page s (record { bytes = free_bytes free.next; there = there; kind = free_kind free.next })) in
            let made = holds_first page page_bytes holds free.next free.here free.some few there free.free.low slotted nonempty records (are no_record) in (
              record held { records = records; free = held.free - 1 },
              subst (λ (x : Header). HoldsBehind (with_page pages page page_bytes) (record x { room = page }) (record held { records = records; free = held.free - 1 })) (sym free.head) made.0,
              record {
                was_none = holds.records page slot ∙ no_record slot;
                changes = record { records = refl; lists = refl; catalog = refl; settings = refl };
                free = omega arith;
              },
            )
        | inr new ↦
            let gone : pages page ≡ None = (holds.shared).none_past page (let here = new.here in omega (arith, here)) in
            let no_record : (s : ℕ) → record_in (pages page) s ≡ None = (λ s. ap (λ (o : Option (List ℕ)). record_in o s) gone) in
            let made = holds_unused page page_bytes holds new.here new.low slotted nonempty records (are no_record) in (
              record held { records = records; free = held.free - 1 },
              subst (λ (x : Header). HoldsBehind (with_page pages page page_bytes) (record x { room = page }) (record held { records = records; free = held.free - 1 })) (sym new.head) made.0,
              record {
                was_none = holds.records page slot ∙ no_record slot;
                changes = record { records = refl; lists = refl; catalog = refl; settings = refl };
                free = omega arith;
              },
            )
      ]
    where
      after : (s : ℕ) → slice_index_or (slots_of page_bytes) s None ≡ slot_with (λ i. None) slot (Some bytes) s
      after = fresh_slots slots slot bytes page_bytes none put

      nonempty : slots_of page_bytes ≢ []
      nonempty = some_slots holds (slots_of page_bytes) slot bytes (after slot ∙ here_is holds slot (λ i. None) (Some bytes))

      are : ((s : ℕ) → record_in (pages page) s ≡ None) → (p s : ℕ) → records_with held.records page slot (Some bytes) p s ≡ record_in (with_page pages page page_bytes p) s
      are no_record = changed_records holds page slot page_bytes (Some bytes) (λ s.
          bytes_records holds page_bytes slotted s ∙ after s ∙ ap (λ (o : Option (List ℕ)). if s == slot then Some bytes else o) (sym (no_record s)))

-- the room page is slotted
pub room_slotted : {pages : Pages} {h : Header} {held : Held} → HoldsBehind pages h held → h.room ≢ 0 → (h.room < h.pages) × ((slots : List (Option (List ℕ))) × HasSlots pages h.room slots)
room_slotted holds some =
    let room = (holds.shared).room some in
    let used = (holds.shared).slotted _ room.0 room.1 in
    (room.0, (slots_of used.bytes, record { bytes = used.bytes; there = used.there; slotted = used.slotted; are = refl }))

-- the first free page is one
pub first_free : {pages : Pages} {h : Header} {s : Shares} → IsShared pages h s [] → h.free ≢ 0 → h.pages ≤ 2 ^ 32 → (h.free < h.pages) × ((next : ℕ) × IsFreeAt pages h.free next)
first_free {pages = pages} {h = h} {s = s} shared some few = go s.free refl shared.free
  where
    below : (p : ℕ) → 1 ≤ times p s.free → p < h.pages
    below p among = shared.below p (let e = named_parts p s [] in omega (arith, e, among))

    next_low : (first : ℕ) (ps : List ℕ) → IsFreeList pages first ps → ((p : ℕ) → 1 ≤ times p ps → p < h.pages) → first < 2 ^ 32
    next_low first [] list under = let zero : first ≡ 0 = list in omega (arith, zero)
    next_low first (p ∷ ps) list under =
        let same : first ≡ p = list.0 in
        let low = under p (let one = times_one p ps in omega (arith, one)) in
        omega (arith, same, low, few)

    go : (ps : List ℕ) → s.free ≡ ps → IsFreeList pages h.free ps → (h.free < h.pages) × ((next : ℕ) × IsFreeAt pages h.free next)
    go [] are list = absurd (some list)
    go (p ∷ ps) are list =
        let first : h.free ≡ p = list.0 in
        let counts = λ (q : ℕ). ap (λ (r : List ℕ). times q r) are in
        let low : p < h.pages = below p (let c = counts p in let one = times_one p ps in omega (arith, c, one)) in (
          omega (arith, first, low),
          (
            list.1.0,
            record {
              there = ap pages first ∙ list.1.1;
              low = next_low list.1.0 ps list.1.2 (λ q among. below q (let c = counts q in let t = times-cons q p ps in omega (arith, c, t, among)));
            },
          ),
        )

-- where the header tells of no free page, none is free
pub none_free : {pages : Pages} {h : Header} {s : Shares} {count : ℕ} → IsShared pages h s [] → count ≡ length s.free + (h.settings.limit - h.pages) → has_free_by h ≡ false → count ≡ 0
none_free {pages = pages} {h = h} {s = s} shared count none = elim (cases_Bool (h.free == 0)) [
  | inl zero ↦
      let few : nat_lt h.pages h.settings.limit ≡ false = sym (ap (λ (b : Bool). if b then nat_lt h.pages h.settings.limit else true) zero) ∙ none in
      let no_list = go s.free refl shared.free (eqb-true h.free 0 zero) in
      elim (cases_lt h.pages h.settings.limit) [
        | inl low ↦ absurd (false≢true (sym few ∙ lt-ltb h.pages h.settings.limit low))
        | inr past ↦ omega (arith, count, no_list, past)
      ]
  | inr some ↦ absurd (false≢true (sym none ∙ ap (λ (b : Bool). if b then nat_lt h.pages h.settings.limit else true) some))
]
  where
    go : (ps : List ℕ) → s.free ≡ ps → IsFreeList pages h.free ps → h.free ≡ 0 → length s.free ≡ 0
    go [] are list zero = ap length are
    go (p ∷ ps) are list zero =
        let here : p ≡ 0 = sym list.0 ∙ zero in
        let e = named_parts 0 s [] in
        let once = shared.once 0 in
        let f = ap (λ (r : List ℕ). times 0 r) are in
        let one : times 0 (p ∷ ps) ≡ 1 + times 0 ps = ap (λ (q : ℕ). times 0 (q ∷ ps)) here ∙ times_one 0 ps in
        let head : times 0 (0 ∷ []) ≡ 1 = times_one 0 [] in
        absurd (omega (arith, e, once, f, one, head))

-- a fresh page has room for a record
pub fresh_room : (slots : List (Option (List ℕ))) (bytes : List ℕ) (e : SlotsError) → slots ≡ [] → length bytes ≤ 8176 → LacksRoom slots (needed_for slots bytes) e → ⊥
unfolding record_bytes
fresh_room slots bytes (NoRoom needed free) none few lacks =
    let wanted : needed ≡ length bytes + 4 = lacks.0 ∙ ap (λ (r : List (Option (List ℕ))). needed_for r bytes) none in
    let room : free ≡ 8184 = lacks.1 ∙ ap (λ (r : List (Option (List ℕ))). free_in r) none in
    let less : free < needed = lacks.2 in
    absurd (omega (arith, wanted, room, less, few))

-- a page is taken, and a record put into it
module _ {D : Type 0} (d : Ghosts D) (r0 r1 r2 : Records) (before : D) where
  pub new_steps : {page slot : ℕ} {slots : List (Option (List ℕ))} (page_bytes bytes : List ℕ) → r0.head.pages ≤ 2 ^ 32
      → SeesSo d r0 before (λ pages. IsPageTaken pages page r0.head r1.head) × (r1.wal ≡ r0.wal) → Stores r1 r1.head r2 page page_bytes
      → slots ≡ [] → IsSlotted page_bytes → IsPut slots bytes slot (slots_of page_bytes)
      → (was : Image) (held : Held) → IsInStep d r0.wal before was → HoldsBehind (current r0.wal was) r0.head held
      → (next : Held) × HoldsBehind (current r2.wal was) (record r2.head { room = page }) next × AddsRecord page slot bytes held next
  new_steps {page = page} {slot = slot} {slots = slots} page_bytes bytes few taken stored none slotted put was held step holds =
      let r = new_holds holds few page slot slots bytes page_bytes (taken.0 was step) none slotted put in
      let base : Header = record r1.head { room = page } in
      let pages : current r2.wal was ≡ with_page (current r0.wal was) page page_bytes =
      stored.2 was ∙ ap (λ (w : Wal). with_page (current w was) page page_bytes) taken.1 in
      let under : record r2.head { room = page } ≡ numbered (next_number r1) base = ap (λ (h : Header). record h { room = page }) stored.0 in (
        r.0,
        subst (λ (p : Pages). HoldsBehind p (record r2.head { room = page }) r.0) (sym pages)
            (subst (λ (h : Header). HoldsBehind (with_page (current r0.wal was) page page_bytes) h r.0) (sym under) (holds_numbered newest_format (next_number r1) r.1)),
        r.2,
      )

-- a record that was taken out and put again was replaced
pub moved_record : {page slot to_page to_slot : ℕ} {bytes : List ℕ} {was mid now : Held} → RemovesRecord page slot was mid → AddsRecord to_page to_slot bytes mid now
    → 1 ≤ update_needs page slot bytes was → UpdatesRecord page slot bytes to_page to_slot was now
moved_record {to_page = to_page} {to_slot = to_slot} {bytes = bytes} removes adds longer = record {
  was_there = removes.was_there;
  was_none = sym (ap (λ (f : ℕ → ℕ → Option (List ℕ)). f to_page to_slot) (removes.changes).records) ∙ adds.was_none;
  changes = record {
    records = (adds.changes).records ∙ ap (λ (f : ℕ → ℕ → Option (List ℕ)). records_with f to_page to_slot (Some bytes)) (removes.changes).records;
    lists = (adds.changes).lists ∙ (removes.changes).lists;
    catalog = (adds.changes).catalog ∙ (removes.changes).catalog;
    settings = (adds.changes).settings ∙ (removes.changes).settings;
  };
  stays = λ none. absurd (omega (arith, none, longer));
  free = let a = removes.free in let b = adds.free in omega (arith, a, b, longer);
}

-- bytes that don't fit are longer than the old ones
pub longer_needs : {pages : Pages} {h : Header} {held : Held} (holds : HoldsBehind pages h held) (page slot : ℕ) (slots : List (Option (List ℕ))) (bytes : List ℕ) (e : SlotsError)
    → HasSlots pages page slots → HasRecord slots slot → LacksRoom slots (growth_of slots slot bytes) e → update_needs page slot bytes held ≡ 1
longer_needs holds page slot slots bytes (NoRoom needed free) has there lacks =
    let here = holds.records page slot ∙ page_records holds page slots has slot in
    ap (λ (o : Option (List ℕ)). needs_than o bytes) here ∙ go (slice_index_or slots slot None) refl there
  where
    go : (o : Option (List ℕ)) → slice_index_or slots slot None ≡ o → IsSome o → needs_than o bytes ≡ 1
    go None are is = absurd (false≢true is)
    go (Some old) are is =
        let grows : needed ≡ length bytes - length old = lacks.0 ∙ ap (λ (o : Option (List ℕ)). length bytes - length (bytes_in o)) are in
        let less : free < needed = lacks.2 in
        ap (λ (b : Bool). if b then 1 else 0) (lt-ltb (length old) (length bytes) (omega (arith, grows, less)))

-- a record is put into the room page, which waits
pub room_put : {D : Type 0} (d : Ghosts D) (head : Header) (old new : Wal) (disk : D) (slot : ℕ) (bytes : List ℕ) → head.room ≢ 0 → PutsRecord head.room bytes slot old new
    → (was : Image) (held : Held) → IsInStep d old disk was → HoldsBehind (current old was) head held
    → (next : Held) × HoldsBehind (current new was) head next × AddsRecord head.room slot bytes held next
room_put d head old new disk slot bytes some put was held step holds =
    let has : HasSlots (current old was) head.room (slots_of put.was) =
    record { bytes = put.was; there = ap (λ (o : Option (List ℕ)). option_or o (replay was head.room)) put.waited; slotted = put.puts.slotted_before; are = refl } in
    let next = put_holds holds head.room slot (slots_of put.was) bytes put.now (holds.shared.room some).0 has put.puts.slotted put.puts.put in
    (next.0, subst (λ (p : Pages). HoldsBehind p head next.0) (sym (put_current old new head.room put.now put.waits was)) next.1, next.2)

-- a record is taken out of a page that waits, and has another one
pub waiting_clear : {D : Type 0} (d : Ghosts D) (head : Header) (old new : Wal) (disk : D) (page slot : ℕ) → page < head.pages → ClearsRecord page slot old new
    → (was : Image) (held : Held) → IsInStep d old disk was → HoldsBehind (current old was) head held
    → (next : Held) × HoldsBehind (current new was) head next × RemovesRecord page slot held next
waiting_clear d head old new disk page slot low clears was held step holds =
    let takes = clears.takes in
    let has : HasSlots (current old was) page (slots_of clears.was) =
    record { bytes = clears.was; there = ap (λ (o : Option (List ℕ)). option_or o (replay was page)) clears.waited; slotted = takes.slotted_before; are = refl } in
    let next = clear_holds holds page slot (slots_of clears.was) clears.now low has takes.several.there takes.slotted takes.clear (λ none. takes.several.others (sym takes.clear ∙ none)) in
    (next.0, subst (λ (p : Pages). HoldsBehind p head next.0) (sym (put_current old new page clears.now clears.waits was)) next.1, next.2)
