-- What pages hold where one of them is changed.
use Rattle.std.proofs.Common.{◌≡◌, ◌⊎◌, ℕ, ◌+◌, ◌-◌, ◌<◌, ◌≤◌, List, [], ◌∷◌, length, refl, sym, ap, subst, ◌∙◌, arith, Bool, false, inl, inr}
use Rattle.std.proofs.lemmas.Bool.{cases_Bool, eq-eqb, false≢true}
use Rattle.std.specs.Prelude.{◌==◌, ◌≢◌, ◌^◌, if◌then◌else◌, slice_index, slice_index_or, Option, Some, None, IsSome}
use Rattle.nx_replay.specs.Log.{Pages, IsDense}
use Rattle.nx_slots.specs.Slots.{IsSlotted, slots_of}
use Rattle.nx_chain.specs.Chain.{chain_bytes}
use Rattle.nx_holdings.specs.declared.header.Header.{Header}
use Rattle.nx_holdings.specs.Header.{header_bytes, IsInRange}
use Rattle.nx_holdings.specs.Holdings.{with_page, times, free_bytes, pages_of_chains, Shares, named, record_in, IsUsed, IsShared, Held, HoldsBehind, HoldsBy}
use Rattle.nx_holdings.proofs.TimesLemmas.{times_one, times_other, with_page-here, with_page-other, free_there, chain_there}
use Rattle.nx_holdings.proofs.SharedLemmas.{equal_or, some_or, named_parts, named_loose, write_aside, write_used, named_else, room_else, grow, loosen, use_loose, free_loose, take_first, IsTaken}

-- a page is there, and is no slotted page
pub record IsOther (pages : Pages) (page : ℕ) : Type 0 where
  pub bytes : List ℕ
  pub there : pages page ≡ Some bytes
  pub kind : (slice_index bytes 0 == 1) ≡ false

pub header_kind : (h : Header) → (slice_index (header_bytes h) 0 == 1) ≡ false
unfolding header_bytes
header_kind h = refl

pub free_kind : (next : ℕ) → (slice_index (free_bytes next) 0 == 1) ≡ false
unfolding free_bytes
free_kind next = refl

pub chain_kind : (next : ℕ) (content : List ℕ) → (slice_index (chain_bytes next content) 0 == 1) ≡ false
unfolding chain_bytes
chain_kind next content = refl

zero_none : (p : ℕ) → (p ≡ 0 → ⊥) → times p (0 ∷ []) ≡ 0
zero_none p apart = times_other p 0 [] apart

-- a page that is named, and isn't loose, is no slotted page
pub named_other : {pages : Pages} {h : Header} {s : Shares} {loose : List ℕ} (first : Header) → pages 0 ≡ Some (header_bytes first) → IsShared pages h s loose
    → (p : ℕ) → 1 ≤ times p (named s loose) → (1 ≤ times p loose) ⊎ IsOther pages p
named_other {pages = pages} {h = h} {s = s} {loose = loose} first here is p some =
    let e = named_parts p s loose in
    elim (equal_or p 0) [
      | inl zero ↦ inr (record { bytes = header_bytes first; there = ap pages zero ∙ here; kind = header_kind first })
      | inr apart ↦ elim (some_or (times p s.free)) [
        | inl free ↦ let f = free_there pages h.free s.free p is.free free in inr (record { bytes = free_bytes f.0; there = f.1; kind = free_kind f.0 })
        | inr no_free ↦ elim (some_or (times p (pages_of_chains s.chains))) [
          | inl chain ↦ let c = chain_there pages s.chains p is.chains chain in inr (record { bytes = chain_bytes c.0 c.1.0; there = c.1.1; kind = chain_kind c.0 c.1.0 })
          | inr no_chain ↦ let z = zero_none p apart in inl (omega (arith, e, z, no_free, no_chain, some))
        ]
      ]
    ]

-- such a page holds no record
pub other_record : (pages : Pages) (p slot : ℕ) → IsOther pages p → record_in (pages p) slot ≡ None
other_record pages p slot other =
    ap (λ (o : Option (List ℕ)). record_in o slot) other.there ∙ ap (λ (b : Bool). if b then slice_index_or (slots_of other.bytes) slot None else None) other.kind

-- a slotted page holds what its slots hold
pub slotted_record : (pages : Pages) (p slot : ℕ) (bytes : List ℕ) → pages p ≡ Some bytes → IsSlotted bytes → record_in (pages p) slot ≡ slice_index_or (slots_of bytes) slot None
slotted_record pages p slot bytes there slotted =
    ap (λ (o : Option (List ℕ)). record_in o slot) there
    ∙ ap (λ (b : Bool). if b then slice_index_or (slots_of bytes) slot None else None) (eq-eqb (slice_index bytes 0) 1 (slotted.headed).kind)

some_is : {x y : List ℕ} → ◌≡◌ {A = Option (List ℕ)} (Some x) (Some y) → x ≡ y
some_is same = cc

-- so a slotted page isn't named
pub slotted_free : {pages : Pages} {h : Header} {held : Held} (holds : HoldsBehind pages h held) (p : ℕ) (bytes : List ℕ) → pages p ≡ Some bytes → IsSlotted bytes
    → times p (named holds.shares []) ≡ 0
slotted_free {pages = pages} holds p bytes there slotted = elim (some_or (times p (named holds.shares []))) [
  | inr none ↦ none
  | inl some ↦ elim (named_other holds.header.0 holds.header.1 holds.shared p some) [
    | inl loose ↦ absurd (omega (arith, loose))
    | inr other ↦
        let same : other.bytes ≡ bytes = some_is (sym other.there ∙ there) in
        absurd (false≢true (sym other.kind ∙ ap (λ (b : List ℕ). slice_index b 0 == 1) same ∙ eq-eqb (slice_index bytes 0) 1 (slotted.headed).kind))
  ]
]

-- what is no slotted page below the header's number holds no record
pub unslotted_none : {pages : Pages} {h : Header} {held : Held} (holds : HoldsBehind pages h held) (p slot : ℕ)
    → (p < h.pages → (bytes : List ℕ) → pages p ≡ Some bytes → IsSlotted bytes → ⊥) → held.records p slot ≡ None
unslotted_none {pages = pages} {h = h} holds p slot lacks = holds.records p slot ∙ elim (low_or p h.pages) [
  | inr past ↦ ap (λ (o : Option (List ℕ)). record_in o slot) ((holds.shared).none_past p past)
  | inl low ↦ elim (some_or (times p (named holds.shares []))) [
    | inr none ↦ let used = (holds.shared).slotted p low none in absurd (lacks low used.bytes used.there used.slotted)
    | inl some ↦ elim (named_other holds.header.0 holds.header.1 holds.shared p some) [
      | inl loose ↦ absurd (omega (arith, loose))
      | inr other ↦ other_record pages p slot other
    ]
  ]
]
  where
    low_or : (a b : ℕ) → (a < b) ⊎ (b ≤ a)
    low_or a b = elim (some_or (b - a)) [ inl some ↦ inl (omega arith) | inr none ↦ inr (omega arith) ]

-- No page below one that is there is missing.
pub holds_dense : {pages : Pages} {h : Header} {held : Held} → HoldsBehind pages h held → IsDense pages
holds_dense {pages = pages} {h = h} holds p q below some = elim (some_or (times p (named holds.shares []))) [
  | inr none ↦ let used = (holds.shared).slotted p p_low none in subst IsSome (sym used.there) refl
  | inl named_one ↦ elim (named_other holds.header.0 holds.header.1 holds.shared p named_one) [
    | inl loose ↦ absurd (omega (arith, loose))
    | inr other ↦ subst IsSome (sym other.there) refl
  ]
]
  where
    p_low : p < h.pages
    p_low = elim (some_or (h.pages - q)) [
      | inl more ↦ omega arith
      | inr none ↦ let gone = (holds.shared).none_past q (omega arith) in absurd (false≢true (subst IsSome gone some))
    ]

-- with the header's page written, all pages are sound
pub holds_all : {pages : Pages} {h : Header} {held : Held} → IsInRange h → HoldsBehind pages h held → HoldsBy (with_page pages 0 (header_bytes h)) h held
holds_all {pages = pages} {h = h} {held = held} range holds = record {
  here = with_page-here pages 0 (header_bytes h);
  range = range;
  behind = record {
    shares = holds.shares;
    header = (h, with_page-here pages 0 (header_bytes h));
    shared = write_aside holds.shared 0 (header_bytes h) (inr refl);
    settings = holds.settings;
    records = λ page slot. elim (equal_or page 0) [
      | inl zero ↦
          holds.records page slot ∙ ap (λ (p : ℕ). record_in (pages p) slot) zero
          ∙ other_record pages 0 slot (record { bytes = header_bytes holds.header.0; there = holds.header.1; kind = header_kind holds.header.0 })
          ∙ sym (other_record (with_page pages 0 (header_bytes h)) 0 slot (record { bytes = header_bytes h; there = with_page-here pages 0 (header_bytes h); kind = header_kind h }))
          ∙ ap (λ (p : ℕ). record_in (with_page pages 0 (header_bytes h) p) slot) (sym zero)
      | inr apart ↦ holds.records page slot ∙ ap (λ (o : Option (List ℕ)). record_in o slot) (sym (with_page-other pages 0 (header_bytes h) page apart))
    ];
    lists = holds.lists;
    catalog = holds.catalog;
    catalog_pages = holds.catalog_pages;
    catalog_length = holds.catalog_length;
    free = holds.free;
  };
}

-- another format and another number of the group change nothing else
pub holds_numbered : {pages : Pages} {h : Header} {held : Held} (format number : ℕ) → HoldsBehind pages h held → HoldsBehind pages (record h { format = format; number = number }) held
holds_numbered {h = h} format number holds = record {
  shares = holds.shares;
  header = holds.header;
  shared = named_else holds.shared (record h { format = format; number = number }) holds.shares [] refl refl (holds.shared).free (holds.shared).chains (λ p. refl);
  settings = holds.settings;
  records = holds.records;
  lists = holds.lists;
  catalog = holds.catalog;
  catalog_pages = holds.catalog_pages;
  catalog_length = holds.catalog_length;
  free = holds.free;
}

-- another room page, which is slotted
pub holds_room : {pages : Pages} {h : Header} {held : Held} (page : ℕ) (bytes : List ℕ) (holds : HoldsBehind pages h held) → page < h.pages → pages page ≡ Some bytes → IsSlotted bytes
    → HoldsBehind pages (record h { room = page }) held
holds_room {h = h} page bytes holds low there slotted = record {
  shares = holds.shares;
  header = holds.header;
  shared = room_else holds.shared (record h { room = page }) refl refl (λ some. (low, slotted_free holds page bytes there slotted));
  settings = holds.settings;
  records = holds.records;
  lists = holds.lists;
  catalog = holds.catalog;
  catalog_pages = holds.catalog_pages;
  catalog_length = holds.catalog_length;
  free = holds.free;
}

-- a slotted page is changed to another one
module _ {pages : Pages} {h : Header} {held : Held} (page : ℕ) (old bytes : List ℕ) (holds : HoldsBehind pages h held) where
  abbrev now : Pages
  now = with_page pages page bytes

  not_zero : page < h.pages → pages page ≡ Some old → IsSlotted old → 0 ≡ page → ⊥
  not_zero low there slotted zero =
      let same : header_bytes holds.header.0 ≡ old = some_is (sym holds.header.1 ∙ ap pages zero ∙ there) in
      absurd (false≢true (sym (header_kind holds.header.0) ∙ ap (λ (b : List ℕ). slice_index b 0 == 1) same ∙ eq-eqb (slice_index old 0) 1 (slotted.headed).kind))

  pub holds_changed : page < h.pages → pages page ≡ Some old → IsSlotted old → IsSlotted bytes → slots_of bytes ≢ [] → (records : ℕ → ℕ → Option (List ℕ))
      → ((p slot : ℕ) → records p slot ≡ record_in (now p) slot) → HoldsBehind now h (record held { records = records })
  holds_changed low there slotted slotted_now some records are = record {
    shares = holds.shares;
    header = (holds.header.0, with_page-other pages page bytes 0 (not_zero low there slotted) ∙ holds.header.1);
    shared = write_used holds.shared page bytes (slotted_free holds page old there slotted) low
        (record { bytes = bytes; there = with_page-here pages page bytes; slotted = slotted_now; some = some });
    settings = holds.settings;
    records = are;
    lists = holds.lists;
    catalog = holds.catalog;
    catalog_pages = holds.catalog_pages;
    catalog_length = holds.catalog_length;
    free = holds.free;
  }

-- a slotted page is given back to the free list
module _ {pages : Pages} {h : Header} {held : Held} (page : ℕ) (old : List ℕ) (holds : HoldsBehind pages h held) where
  abbrev freed : Pages
  freed = with_page pages page (free_bytes h.free)

  abbrev released : Header
  released = record h { free = page; room = if h.room == page then 0 else h.room }

  pub holds_released : page < h.pages → pages page ≡ Some old → IsSlotted old → (records : ℕ → ℕ → Option (List ℕ)) → ((p slot : ℕ) → records p slot ≡ record_in (freed p) slot)
      → HoldsBehind freed released (record held { records = records; free = held.free + 1 })
  holds_released low there slotted records are =
      let none = slotted_free holds page old there slotted in
      let no_room : Header = record h { room = if h.room == page then 0 else h.room } in
      let aside : IsShared pages no_room holds.shares [] = room_else holds.shared no_room refl refl (other_room none) in
      let loose : IsShared pages no_room holds.shares (page ∷ []) = loosen aside page low none (room_apart h.room) in
      let written : IsShared freed no_room holds.shares (page ∷ []) = write_aside loose page (free_bytes h.free) (inl (let one = times_one page [] in omega (arith, one))) in
      record {
        shares = record holds.shares { free = page ∷ (holds.shares).free };
        header = (holds.header.0, with_page-other pages page (free_bytes h.free) 0 (not_zero page old (free_bytes h.free) holds low there slotted) ∙ holds.header.1);
        shared = free_loose page released written (with_page-here pages page (free_bytes h.free)) refl refl refl;
        settings = holds.settings;
        records = are;
        lists = holds.lists;
        catalog = holds.catalog;
        catalog_pages = holds.catalog_pages;
        catalog_length = holds.catalog_length;
        free = let e = holds.free in omega (arith, e);
      }
    where
      room_apart : (room : ℕ) → (if room == page then 0 else room) ≡ page → ⊥
      room_apart room same = elim (cases_Bool (room == page)) [
        | inl holds_same ↦ absurd (not_zero page old (free_bytes h.free) holds low there slotted (sym (ap (λ (b : Bool). if b then 0 else room) holds_same) ∙ same))
        | inr fails ↦ absurd (false≢true (sym fails ∙ eq-eqb room page (sym (ap (λ (b : Bool). if b then 0 else room) fails) ∙ same)))
      ]

      other_room : times page (named holds.shares []) ≡ 0 → (if h.room == page then 0 else h.room) ≢ 0
          → ((if h.room == page then 0 else h.room) < h.pages) × (times (if h.room == page then 0 else h.room) (named holds.shares []) ≡ 0)
      other_room none some = elim (cases_Bool (h.room == page)) [
        | inl holds_same ↦ absurd (some (ap (λ (b : Bool). if b then 0 else h.room) holds_same))
        | inr fails ↦
            let same : (if h.room == page then 0 else h.room) ≡ h.room = ap (λ (b : Bool). if b then 0 else h.room) fails in
            let was = (holds.shared).room (λ zero. some (same ∙ zero)) in
            (let low_room = was.0 in omega (arith, same, low_room), ap (λ (r : ℕ). times r (named holds.shares [])) same ∙ was.1)
      ]

-- a page that was free becomes a slotted page, and the room page
module _ {pages : Pages} {h : Header} {held : Held} (page : ℕ) (bytes : List ℕ) (holds : HoldsBehind pages h held) where
  abbrev with_it : Pages
  with_it = with_page pages page bytes

  used_here : IsSlotted bytes → slots_of bytes ≢ [] → IsUsed with_it page
  used_here slotted some = record { bytes = bytes; there = with_page-here pages page bytes; slotted = slotted; some = some }

  -- a loose page is used, and becomes the room page
  settle : {h1 : Header} {s : Shares} → IsShared pages h1 s (page ∷ []) → IsSlotted bytes → slots_of bytes ≢ [] → IsShared with_it (record h1 { room = page }) s []
  settle {h1 = h1} {s = s} loose slotted some =
      let written : IsShared with_it h1 s (page ∷ []) = write_aside loose page bytes (inl (let one = times_one page [] in omega (arith, one))) in
      let used = use_loose page written (used_here slotted some) in
      let once = loose.once page in
      let low = loose.below page in
      let e = named_loose page page s [] in
      let one = times_one page [] in
      room_else used (record h1 { room = page }) refl refl (λ some_room. (low (omega (arith, e, one)), omega (arith, e, one, once)))

  header_stays : {h1 : Header} {s : Shares} → IsShared pages h1 s (page ∷ []) → 0 ≡ page → ⊥
  header_stays {s = s} loose zero =
      let e = named_parts page s (page ∷ []) in
      let once = loose.once page in
      let one = times_one page [] in
      let first : times page (0 ∷ []) ≡ 1 = ap (λ (r : ℕ). times page (r ∷ [])) zero ∙ one in
      absurd (omega (arith, e, once, one, first))

  -- the first of the free list
  pub holds_first : (next : ℕ) → page ≡ h.free → h.free ≢ 0 → h.pages ≤ 2 ^ 32 → pages page ≡ Some (free_bytes next) → next < 2 ^ 32 → IsSlotted bytes → slots_of bytes ≢ []
      → (records : ℕ → ℕ → Option (List ℕ)) → ((p slot : ℕ) → records p slot ≡ record_in (with_it p) slot)
      → HoldsBehind with_it (record h { free = next; room = page }) (record held { records = records; free = held.free - 1 }) × (1 ≤ held.free)
  holds_first next first some few there low slotted nonempty records are =
      let taken0 = take_first next (record h { free = next }) holds.shared some few (ap pages (sym first) ∙ there) low refl refl refl in
      let taken = subst (λ (q : ℕ). IsTaken pages h holds.shares [] q (record h { free = next })) (sym first) taken0 in
      let count : length (holds.shares).free ≡ 1 + length taken.rest = ap length taken.split ∙ omega arith in
      let e = holds.free in (
        record {
          shares = record holds.shares { free = taken.rest };
          header = (holds.header.0, with_page-other pages page bytes 0 (header_stays taken.shared) ∙ holds.header.1);
          shared = settle taken.shared slotted nonempty;
          settings = holds.settings;
          records = are;
          lists = holds.lists;
          catalog = holds.catalog;
          catalog_pages = holds.catalog_pages;
          catalog_length = holds.catalog_length;
          free = omega (arith, e, count);
        },
        omega (arith, e, count),
      )

  -- the first that was never used
  pub holds_unused : page ≡ h.pages → h.pages < h.settings.limit → IsSlotted bytes → slots_of bytes ≢ []
      → (records : ℕ → ℕ → Option (List ℕ)) → ((p slot : ℕ) → records p slot ≡ record_in (with_it p) slot)
      → HoldsBehind with_it (record h { pages = h.pages + 1; room = page }) (record held { records = records; free = held.free - 1 }) × (1 ≤ held.free)
  holds_unused new low slotted nonempty records are =
      let grown = subst (λ (q : ℕ). IsShared pages (record h { pages = h.pages + 1 }) holds.shares (q ∷ [])) (sym new) (grow holds.shared (record h { pages = h.pages + 1 }) refl refl refl) in
      let e = holds.free in (
        record {
          shares = holds.shares;
          header = (holds.header.0, with_page-other pages page bytes 0 (header_stays grown) ∙ holds.header.1);
          shared = settle grown slotted nonempty;
          settings = holds.settings;
          records = are;
          lists = holds.lists;
          catalog = holds.catalog;
          catalog_pages = holds.catalog_pages;
          catalog_length = holds.catalog_length;
          free = omega (arith, e, low);
        },
        omega (arith, e, low),
      )
