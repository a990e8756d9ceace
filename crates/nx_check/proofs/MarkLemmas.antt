-- One mark more: of a chain page, of a slotted page, of a record.
use Rattle.std.proofs.Common.{◌≡◌, ◌≢◌, ℕ, zero, ◌+◌, ◌-◌, ◌*◌, ◌<◌, ◌≤◌, ◌/◌, Bool, true, false, List, [], ◌∷◌, ◌++◌, length, Option, Some, None, refl, sym, ap, ◌∙◌, subst, arith, inl, inr}
use Rattle.std.specs.Prelude.{◌==◌, ◌&&◌, ◌||◌, not, nat_lt, if◌then◌else◌, is_some, IsSome, Contains, slice_index, slice_index_or}
use Rattle.std.proofs.lemmas.Bool.{false≢true, eq-eqb, eqb-true, cases_Bool, cases_lt, ltb-true, lt-ltb}
use Rattle.std.proofs.lemmas.List.{get_or_past}
use Rattle.std.proofs.lemmas.List.Elements.{Contains-append_cases}
use Rattle.nx_slots.specs.Slots.{IsSlotted, count_of, size_of, slot_of, slots_of}
use Rattle.nx_slots.specs.Edits.{size_in}
use Rattle.nx_slots.proofs.ReadLemmas.{length-slots_of, get_or-slots_of}
use Rattle.nx_slots.proofs.FitLemmas.{size_in-slot_of}
use Rattle.nx_replay.specs.Log.{Pages}
use Rattle.nx_holdings.specs.Holdings.{times, free_bytes, record_in, Link}
use Rattle.nx_chain.specs.Chain.{chain_bytes}
use Rattle.nx_holdings.proofs.ChainLemmas.{same_bytes}
use Rattle.nx_holdings.proofs.OneLemmas.{first_of_chain, first_of_free}
use Rattle.nx_holdings.proofs.HeldLemmas.{free_kind, chain_kind}
use Rattle.nx_holdings.proofs.TimesLemmas.{times-append, times_one, times_other}
use Rattle.nx_layouts.specs.Layout.{RecordPlace}
use Rattle.nx_layouts.proofs.PlaceLemmas.{no_place, one_place, first_among, later_among}
use Rattle.nx_rules.specs.Listed.{IsSlottedPage, IsFreePageAt, IsLinkTo}
use Rattle.nx_check.specs.declared.left.Left.{Left}
use Rattle.nx_check.specs.declared.uses.PageUse.{PageUse}
use Rattle.nx_check.specs.declared.uses.PageUse.TheVariants.{Unseen, Free, Chain, Slotted}
use Rattle.nx_check.specs.declared.uses.Uses.{Uses}
use Rattle.nx_check.specs.Words.{is_bit_set, words_for}
use Rattle.nx_check.specs.Uses.{use_of}
use Rattle.nx_check.specs.Marks.{is_reached, MarksSlotted, IsUsedSo, AreMarked, HasUse}

-- the page has this use now
abbrev pub MarksPage : Uses → Uses → ℕ → PageUse → Type 0
MarksPage old new page is = (p : ℕ) → use_of new p ≡ (if p == page then is else use_of old p)

pub marked_here : (old new : Uses) (page : ℕ) (is : PageUse) → MarksPage old new page is → (p : ℕ) → (p == page) ≡ true → use_of new p ≡ is
marked_here old new page is now p same = now p ∙ ap (λ (b : Bool). if b then is else use_of old p) same

marked_other : (old new : Uses) (page : ℕ) (is : PageUse) → MarksPage old new page is → (p : ℕ) → (p == page) ≡ false → use_of new p ≡ use_of old p
marked_other old new page is now p other = now p ∙ ap (λ (b : Bool). if b then is else use_of old p) other

-- Which forms pages have apart from each other:

slotted_kind : (bytes : List ℕ) → IsSlotted bytes → (slice_index bytes 0 == 1) ≡ true
slotted_kind bytes h = ap (λ (x : ℕ). x == 1) h.headed.kind

free_not_slotted : (pages : Pages) (page next : ℕ) (bytes : List ℕ) → IsFreePageAt pages page next → IsSlottedPage pages page bytes → ⊥
free_not_slotted pages page next bytes free h =
    let same : free_bytes next ≡ bytes = same_bytes (free_bytes next) bytes (pages page) free.there h.there in
    false≢true (sym (free_kind next) ∙ ap (λ (b : List ℕ). slice_index b 0 == 1) same ∙ slotted_kind bytes h.slotted)

chain_not_slotted : (pages : Pages) (page : ℕ) (link : Link) (next : ℕ) (bytes : List ℕ) → IsLinkTo pages link next → link.page ≡ page → IsSlottedPage pages page bytes → ⊥
chain_not_slotted pages page link next bytes at here h =
    let same : chain_bytes next link.content ≡ bytes = same_bytes (chain_bytes next link.content) bytes (pages page) (subst (λ (p : ℕ). pages p ≡ Some (chain_bytes next link.content)) here at.is.there) h.there in
    false≢true (sym (chain_kind next link.content) ∙ ap (λ (b : List ℕ). slice_index b 0 == 1) same ∙ slotted_kind bytes h.slotted)

chain_not_free : (pages : Pages) (page : ℕ) (link : Link) (next behind : ℕ) → IsLinkTo pages link next → link.page ≡ page → IsFreePageAt pages page behind → ⊥
chain_not_free pages page link next behind at here free =
    let same : chain_bytes next link.content ≡ free_bytes behind = same_bytes (chain_bytes next link.content) (free_bytes behind) (pages page) (subst (λ (p : ℕ). pages p ≡ Some (chain_bytes next link.content)) here at.is.there) free.there in
    let first : slice_index (chain_bytes next link.content) 0 ≡ slice_index (free_bytes behind) 0 = ap (λ (b : List ℕ). slice_index b 0) same in
    two_not_zero (sym (first_of_chain next link.content) ∙ first ∙ first_of_free behind)
  where
    two_not_zero : 2 ≡ zero → ⊥
    two_not_zero e = omega (arith, e)

-- A chain page more.

module _ (left : Left) (pages : Pages) (free used : List ℕ) (reached : List RecordPlace) (page : ℕ) where
  so_used : (more : List ℕ) (p : ℕ) (u : PageUse) → times p more ≡ times p used → IsUsedSo left pages free used reached p u → IsUsedSo left pages free more reached p u
  so_used more p Unseen e h = (h.0, e ∙ h.1, h.2)
  so_used more p Free e h = h
  so_used more p Chain e h = (subst (λ (n : ℕ). 1 ≤ n) (sym e) h.0, h.1)
  so_used more p (Slotted count first) e h = record { in_none = (h.in_none.0, e ∙ h.in_none.1); bytes = h.bytes; slotted = h.slotted; some = h.some; counted = h.counted; each = h.each }

-- a chain page that has another use is in a list
pub seen_chain : (uses : Uses) (left : Left) (pages : Pages) (free used : List ℕ) (reached : List RecordPlace) (link : Link) (next : ℕ) → AreMarked uses left pages free used reached → IsLinkTo pages link next
    → (use_of uses link.page ≡ Unseen → ⊥) → times link.page used ≡ 0 → ⊥
seen_chain uses left pages free used reached link next marked at seen none = go (use_of uses link.page) refl (marked.each link.page)
  where
    go : (u : PageUse) → use_of uses link.page ≡ u → IsUsedSo left pages free used reached link.page u → ⊥
    go Unseen e h = seen e
    go Free e h = chain_not_free pages link.page link next h.1.0 at refl h.1.1
    go Chain e h = let some = h.0 in omega (arith, some, none)
    go (Slotted count first) e h = chain_not_slotted pages link.page link next h.bytes at refl h.slotted

-- an unseen page is in no list
pub unseen_unused : (uses : Uses) (left : Left) (pages : Pages) (free used : List ℕ) (reached : List RecordPlace) (page : ℕ) → AreMarked uses left pages free used reached → use_of uses page ≡ Unseen
    → (times page free ≡ 0) × (times page used ≡ 0) × ((slot : ℕ) → is_reached page slot reached ≡ false)
unseen_unused uses left pages free used reached page marked unseen = subst (λ (u : PageUse). IsUsedSo left pages free used reached page u) unseen (marked.each page)

pub mark_chain : (old new : Uses) (left : Left) (pages : Pages) (free used : List ℕ) (reached : List RecordPlace) (link : Link) (next : ℕ) → AreMarked old left pages free used reached → IsLinkTo pages link next
    → MarksPage old new link.page Chain → AreMarked new left pages free (used ++ link.page ∷ []) reached
mark_chain old new left pages free used reached link next marked at now = record {
  owner = marked.owner;
  words = λ p first count e. elim (cases_Bool (p == link.page)) [
    | inl same ↦ absurd (let x : Chain ≡ Slotted count first = sym (marked_here old new link.page Chain now p same) ∙ e in cc x)
    | inr other ↦ marked.words p first count (sym (marked_other old new link.page Chain now p other) ∙ e)
  ];
  each = λ p. elim (cases_Bool (p == link.page)) [
    | inl same ↦
        let is : p ≡ link.page = eqb-true p link.page same in
        let one : times p (link.page ∷ []) ≡ 1 = subst (λ (x : ℕ). times p (x ∷ []) ≡ 1) is (times_one p []) in
        let e = times-append p used (link.page ∷ []) in
        subst (λ (u : PageUse). IsUsedSo left pages free (used ++ link.page ∷ []) reached p u) (sym (marked_here old new link.page Chain now p same)) (omega (arith, e, one), (link, next, at, sym is))
    | inr other ↦
        let apart : p ≡ link.page → ⊥ = λ s. false≢true (sym other ∙ eq-eqb p link.page s) in
        let none : times p (link.page ∷ []) ≡ 0 = times_other p link.page [] apart in
        let e = times-append p used (link.page ∷ []) in
        let same : times p (used ++ link.page ∷ []) ≡ times p used = omega (arith, e, none) in
        subst (λ (u : PageUse). IsUsedSo left pages free (used ++ link.page ∷ []) reached p u) (sym (marked_other old new link.page Chain now p other)) (so_used left pages free used reached link.page (used ++ link.page ∷ []) p (use_of old p) same (marked.each p))
  ];
}

-- A slotted page more.

-- a page that is slotted is unseen where it has no marks of records
slotted_unseen : (uses : Uses) (left : Left) (pages : Pages) (free used : List ℕ) (reached : List RecordPlace) (page : ℕ) (bytes : List ℕ) → AreMarked uses left pages free used reached → IsSlottedPage pages page bytes
    → ((first count : ℕ) → use_of uses page ≡ Slotted count first → ⊥) → use_of uses page ≡ Unseen
slotted_unseen uses left pages free used reached page bytes marked is none = go (use_of uses page) refl (marked.each page)
  where
    go : (u : PageUse) → use_of uses page ≡ u → IsUsedSo left pages free used reached page u → use_of uses page ≡ Unseen
    go Unseen e h = e
    go Free e h = absurd (free_not_slotted pages page h.1.0 bytes h.1.1 is)
    go Chain e h = absurd (chain_not_slotted pages page h.1.0 h.1.1 bytes h.1.2 h.1.3 is)
    go (Slotted count first) e h = absurd (none first count e)

-- what words of a page behind others say
pub record AddsPage (old new : Left) (bytes : List ℕ) (first : ℕ) : Type 0 where
  pub first_is : first ≡ length old.words.items
  pub long : length new.words.items ≡ first + words_for (count_of bytes)
  pub stay : (i : ℕ) → i < 8 * length old.words.items → is_bit_set new.words.items i ≡ is_bit_set old.words.items i
  pub here : (slot : ℕ) → slot < count_of bytes → is_bit_set new.words.items (8 * first + slot) ≡ is_some (slice_index_or (slots_of bytes) slot None)

pub slotted_record_in : (bytes : List ℕ) (slot : ℕ) → IsSlotted bytes → record_in (Some bytes) slot ≡ slice_index_or (slots_of bytes) slot None
slotted_record_in bytes slot h = ap (λ (b : Bool). if b then slice_index_or (slots_of bytes) slot None else None) (slotted_kind bytes h)

and_true : (b c : Bool) → c ≡ false → b ≡ (b && not c)
and_true true c e = ap not (sym e)
and_true false c e = refl

within_words : (slot count : ℕ) → slot < count → slot < 8 * words_for count
within_words slot count low = omega (arith, low)

module _ (old new : Left) (bytes : List ℕ) (at : ℕ) (pages : Pages) (free used : List ℕ) (reached : List RecordPlace) where
  so_left : AddsPage old new bytes at → (p : ℕ) (u : PageUse) → ((first count : ℕ) → u ≡ Slotted count first → first + words_for count ≤ length old.words.items) → IsUsedSo old pages free used reached p u → IsUsedSo new pages free used reached p u
  so_left adds p Unseen low h = h
  so_left adds p Free low h = h
  so_left adds p Chain low h = h
  so_left adds p (Slotted count first) low h = record {
    in_none = h.in_none;
    bytes = h.bytes;
    slotted = h.slotted;
    some = h.some;
    counted = h.counted;
    each = λ slot under.
        let within = low first count refl in
        let few = within_words slot count under in
        adds.stay (8 * first + slot) (omega (arith, within, few)) ∙ h.each slot under;
  }

pub mark_slotted : (old new : Uses) (was left : Left) (pages : Pages) (free used : List ℕ) (reached : List RecordPlace) (page first : ℕ) (bytes : List ℕ) → AreMarked old was pages free used reached → IsSlottedPage pages page bytes
    → slots_of bytes ≢ [] → ((f c : ℕ) → use_of old page ≡ Slotted c f → ⊥) → AddsPage was left bytes first → MarksPage old new page (Slotted (count_of bytes) first) → AreMarked new left pages free used reached
mark_slotted old new was left pages free used reached page first bytes marked is some none adds now =
    let unseen = unseen_unused old was pages free used reached page marked (slotted_unseen old was pages free used reached page bytes marked is none) in
    let before = adds.first_is in
    let long = adds.long in
    record {
      owner = λ i. if nat_lt i first then marked.owner i else page;
      words = λ p f c e. elim (cases_Bool (p == page)) [
        | inl same ↦
            let e : Slotted (count_of bytes) first ≡ Slotted c f = sym (marked_here old new page (Slotted (count_of bytes) first) now p same) ∙ e in
            let first_is : first ≡ f = cc e in
            let count_is : count_of bytes ≡ c = cc e in
            record {
              within = subst (λ (x : ℕ). x + words_for c ≤ length left.words.items) first_is (subst (λ (x : ℕ). first + words_for x ≤ length left.words.items) count_is (omega (arith, long)));
              own = λ i from under. ap (λ (b : Bool). if b then marked.owner i else page) (not_below i first (subst (λ (x : ℕ). x ≤ i) (sym first_is) from)) ∙ sym (eqb-true p page same);
            }
        | inr other ↦
            let h = marked.words p f c (sym (marked_other old new page (Slotted (count_of bytes) first) now p other) ∙ e) in
            let within = h.within in
            record {
              within = omega (arith, within, before, long);
              own = λ i from under. ap (λ (b : Bool). if b then marked.owner i else page) (is_below i first (omega (arith, within, before, under))) ∙ h.own i from under;
            }
      ];
      each = λ p. elim (cases_Bool (p == page)) [
        | inl same ↦
            let there : p ≡ page = eqb-true p page same in
            subst (λ (u : PageUse). IsUsedSo left pages free used reached p u) (sym (marked_here old new page (Slotted (count_of bytes) first) now p same))
            (subst (λ (q : ℕ). MarksSlotted left pages free used reached q first (count_of bytes)) (sym there) (record {
              in_none = (unseen.0, unseen.1);
              bytes = bytes;
              slotted = is;
              some = some;
              counted = refl;
              each = λ slot under.
                  adds.here slot under ∙ ap is_some (sym (slotted_record_in bytes slot is.slotted)) ∙ and_true (is_some (record_in (Some bytes) slot)) (is_reached page slot reached) (unseen.2 slot);
            }))
        | inr other ↦
            subst (λ (u : PageUse). IsUsedSo left pages free used reached p u) (sym (marked_other old new page (Slotted (count_of bytes) first) now p other))
            (so_left was left bytes first pages free used reached adds p (use_of old p) (λ f c e. (marked.words p f c e).within) (marked.each p))
      ];
    }
  where
    not_below : (i n : ℕ) → n ≤ i → nat_lt i n ≡ false
    not_below i n h = elim (cases_Bool (nat_lt i n)) [ inl this_is ↦ absurd (let low : i < n = ltb-true i n this_is in omega (arith, low, h)) | inr not_this ↦ not_this ]

    is_below : (i n : ℕ) → i < n → nat_lt i n ≡ true
    is_below i n h = lt-ltb i n h

-- A record more.

reached_last : (page slot : ℕ) (places : List RecordPlace) (place : RecordPlace) → is_reached page slot (places ++ place ∷ []) ≡ (is_reached page slot places || (place.page == page && place.slot == slot))
reached_last page slot [] place = or_false (place.page == page && place.slot == slot)
  where
    or_false : (b : Bool) → (b || false) ≡ b
    or_false true = refl
    or_false false = refl
reached_last page slot (x ∷ places) place =
    ap (λ (b : Bool). (x.page == page && x.slot == slot) || b) (reached_last page slot places place) ∙ or_assoc (x.page == page && x.slot == slot) (is_reached page slot places) (place.page == page && place.slot == slot)
  where
    or_assoc : (a b c : Bool) → (a || (b || c)) ≡ ((a || b) || c)
    or_assoc true b c = refl
    or_assoc false b c = refl

same_place : (page slot : ℕ) (x : RecordPlace) → (x.page == page && x.slot == slot) ≡ true → x ≡ record { page = page; slot = slot }
same_place page slot x e =
    let both = two_true (x.page == page) (x.slot == slot) e in
    let p : x.page ≡ page = eqb-true x.page page both.0 in
    let s : x.slot ≡ slot = eqb-true x.slot slot both.1 in
    λ i. record { page = p i; slot = s i }
  where
    two_true : (a b : Bool) → (a && b) ≡ true → (a ≡ true) × (b ≡ true)
    two_true true true e = (refl, refl)
    two_true true false e = absurd (cc)
    two_true false b e = absurd (cc)

pub reached_contains : (page slot : ℕ) (places : List RecordPlace) → is_reached page slot places ≡ true → Contains places (record { page = page; slot = slot })
reached_contains page slot [] e = absurd (false≢true e)
reached_contains page slot (x ∷ places) e =
    elim (cases_Bool (x.page == page && x.slot == slot)) [
      | inl same ↦ subst (λ (p : RecordPlace). Contains (x ∷ places) p) (same_place page slot x same) (first_among x places)
      | inr other ↦ later_among x places (record { page = page; slot = slot }) (reached_contains page slot places (sym (ap (λ (b : Bool). b || is_reached page slot places) other) ∙ e))
    ]

self_same : (page slot : ℕ) → (page == page && slot == slot) ≡ true
self_same page slot = ap (λ (b : Bool). b && slot == slot) (eq-eqb page page refl) ∙ eq-eqb slot slot refl

pub contains_reached : (page slot : ℕ) (places : List RecordPlace) → Contains places (record { page = page; slot = slot }) → is_reached page slot places ≡ true
contains_reached page slot [] h = absurd (no_place (record { page = page; slot = slot }) h)
contains_reached page slot (x ∷ places) h =
    elim (Contains-append_cases (x ∷ []) places (record { page = page; slot = slot }) h) [
      | inl here ↦
          let is : record { page = page; slot = slot } ≡ x = one_place x (record { page = page; slot = slot }) here in
          ap (λ (b : Bool). b || is_reached page slot places) (ap (λ (y : RecordPlace). y.page == page && y.slot == slot) (sym is) ∙ self_same page slot)
      | inr there ↦ or_true (x.page == page && x.slot == slot) (is_reached page slot places) (contains_reached page slot places there)
    ]
  where
    or_true : (a b : Bool) → b ≡ true → (a || b) ≡ true
    or_true true b e = refl
    or_true false b e = e

-- a record that is left wasn't reached, and one that is there and not left was
pub left_new : (uses : Uses) (left : Left) (pages : Pages) (free used : List ℕ) (reached : List RecordPlace) (page slot first count : ℕ) (bytes own : List ℕ) → AreMarked uses left pages free used reached → use_of uses page ≡ Slotted count first
    → pages page ≡ Some bytes → record_in (Some bytes) slot ≡ Some own → (slot < count) × (is_bit_set left.words.items (8 * first + slot) ≡ not (is_reached page slot reached))
left_new uses left pages free used reached page slot first count bytes own marked is there found =
    let h : MarksSlotted left pages free used reached page first count = subst (λ (u : PageUse). IsUsedSo left pages free used reached page u) is (marked.each page) in
    let same : h.bytes ≡ bytes = same_bytes h.bytes bytes (pages page) h.slotted.there there in
    let found_in : record_in (Some h.bytes) slot ≡ Some own = subst (λ (b : List ℕ). record_in (Some b) slot ≡ Some own) (sym same) found in
    let low : slot < count = subst (λ (n : ℕ). slot < n) (sym h.counted) (slot_low h.bytes slot own (sym (slotted_record_in h.bytes slot h.slotted.slotted) ∙ found_in)) in
    (low, h.each slot low ∙ ap (λ (o : Option (List ℕ)). is_some o && not (is_reached page slot reached)) found_in)
  where
    slot_low : (b : List ℕ) (s : ℕ) (o : List ℕ) → slice_index_or (slots_of b) s None ≡ Some o → s < count_of b
    slot_low b s o e = elim (cases_lt s (length (slots_of b))) [
      | inl low ↦ subst (λ (n : ℕ). s < n) (length-slots_of b) low
      | inr past ↦ absurd (let x : None ≡ Some o = sym (get_or_past (slots_of b) s None past) ∙ e in cc x)
    ]

any_true : (b : Bool) → (b || true) ≡ true
any_true true = refl
any_true false = refl

or_none : (b : Bool) → (b || false) ≡ b
or_none true = refl
or_none false = refl

none_false : (b : Bool) → false ≡ (b && not true)
none_false true = refl
none_false false = refl

not_equal : (i j : ℕ) → (i ≡ j → ⊥) → (i == j) ≡ false
not_equal i j apart = elim (cases_Bool (i == j)) [ inl this_is ↦ absurd (apart (eqb-true i j this_is)) | inr not_this ↦ not_this ]

module _ (uses : Uses) (was left : Left) (pages : Pages) (free used : List ℕ) (reached : List RecordPlace) (page slot first count : ℕ) where
  abbrev place : RecordPlace
  place = record { page = page; slot = slot }

  so_reached : AreMarked uses was pages free used reached → use_of uses page ≡ Slotted count first → slot < count → ((i : ℕ) → is_bit_set left.words.items i ≡ (if i == 8 * first + slot then false else is_bit_set was.words.items i))
      → (p : ℕ) (u : PageUse) → use_of uses p ≡ u → IsUsedSo was pages free used reached p u → IsUsedSo left pages free used (reached ++ place ∷ []) p u
  so_reached marked is low now p Unseen e h = (h.0, h.1, λ s. reached_last p s reached place ∙ ap (λ (b : Bool). b || (page == p && slot == s)) (h.2 s) ∙ ap (λ (b : Bool). b && slot == s) (other_page p e))
    where
      other_page : (q : ℕ) → use_of uses q ≡ Unseen → (page == q) ≡ false
      other_page q unseen = elim (cases_Bool (page == q)) [
        | inl same ↦ absurd (let x : Slotted count first ≡ Unseen = sym is ∙ ap (use_of uses) (eqb-true page q same) ∙ unseen in cc x)
        | inr other ↦ other
      ]
  so_reached marked is low now p Free e h = h
  so_reached marked is low now p Chain e h = h
  so_reached marked is low now p (Slotted c f) e h = record {
    in_none = h.in_none;
    bytes = h.bytes;
    slotted = h.slotted;
    some = h.some;
    counted = h.counted;
    each = λ s under. now (8 * f + s) ∙ elim (cases_Bool (page == p)) [
      | inl same ↦ here s under (eqb-true page p same) same
      | inr other ↦ there s under other
    ];
  }
    where
      here : (s : ℕ) → s < c → page ≡ p → (page == p) ≡ true → (if 8 * f + s == 8 * first + slot then false else is_bit_set was.words.items (8 * f + s)) ≡ (is_some (record_in (Some h.bytes) s) && not (is_reached p s (reached ++ place ∷ [])))
      here s under same_page same =
          let one : Slotted count first ≡ Slotted c f = sym is ∙ ap (use_of uses) same_page ∙ e in
          let first_is : first ≡ f = cc one in
          elim (cases_Bool (slot == s)) [
            | inl this ↦
                let slot_is : slot ≡ s = eqb-true slot s this in
                let at : 8 * f + s ≡ 8 * first + slot = omega (arith, first_is, slot_is) in
                let now_in : is_reached p s (reached ++ place ∷ []) ≡ true = reached_last p s reached place ∙ ap (λ (b : Bool). is_reached p s reached || b) (ap (λ (b : Bool). b && slot == s) same ∙ this) ∙ any_true (is_reached p s reached) in
                ap (λ (b : Bool). if b then false else is_bit_set was.words.items (8 * f + s)) (eq-eqb (8 * f + s) (8 * first + slot) at) ∙ none_false (is_some (record_in (Some h.bytes) s)) ∙ sym (ap (λ (b : Bool). is_some (record_in (Some h.bytes) s) && not b) now_in)
            | inr other ↦
                let apart : 8 * f + s ≡ 8 * first + slot → ⊥ = λ at. false≢true (sym other ∙ eq-eqb slot s (omega (arith, at, first_is))) in
                let as_was : is_reached p s (reached ++ place ∷ []) ≡ is_reached p s reached = reached_last p s reached place ∙ ap (λ (b : Bool). is_reached p s reached || b) (ap (λ (b : Bool). b && slot == s) same ∙ other) ∙ or_none (is_reached p s reached) in
                ap (λ (b : Bool). if b then false else is_bit_set was.words.items (8 * f + s)) (not_equal (8 * f + s) (8 * first + slot) apart) ∙ h.each s under ∙ sym (ap (λ (b : Bool). is_some (record_in (Some h.bytes) s) && not b) as_was)
          ]

      there : (s : ℕ) → s < c → (page == p) ≡ false → (if 8 * f + s == 8 * first + slot then false else is_bit_set was.words.items (8 * f + s)) ≡ (is_some (record_in (Some h.bytes) s) && not (is_reached p s (reached ++ place ∷ [])))
      there s under other =
          let mine = marked.words p f c e in
          let its = marked.words page first count is in
          let mine_own : marked.owner ((8 * f + s) / 8) ≡ p = mine.own ((8 * f + s) / 8) (omega arith) (omega (arith, under)) in
          let its_own : marked.owner ((8 * first + slot) / 8) ≡ page = its.own ((8 * first + slot) / 8) (omega arith) (omega (arith, low)) in
          let apart : 8 * f + s ≡ 8 * first + slot → ⊥ = λ at. false≢true (sym other ∙ eq-eqb page p (sym its_own ∙ ap (λ (i : ℕ). marked.owner (i / 8)) (sym at) ∙ mine_own)) in
          let as_was : is_reached p s (reached ++ place ∷ []) ≡ is_reached p s reached = reached_last p s reached place ∙ ap (λ (b : Bool). is_reached p s reached || b) (ap (λ (b : Bool). b && slot == s) other) ∙ or_none (is_reached p s reached) in
          ap (λ (b : Bool). if b then false else is_bit_set was.words.items (8 * f + s)) (not_equal (8 * f + s) (8 * first + slot) apart) ∙ h.each s under ∙ sym (ap (λ (b : Bool). is_some (record_in (Some h.bytes) s) && not b) as_was)

pub mark_reached : (uses : Uses) (was left : Left) (pages : Pages) (free used : List ℕ) (reached : List RecordPlace) (page slot first count : ℕ) → AreMarked uses was pages free used reached → use_of uses page ≡ Slotted count first → slot < count
    → length left.words.items ≡ length was.words.items → ((i : ℕ) → is_bit_set left.words.items i ≡ (if i == 8 * first + slot then false else is_bit_set was.words.items i)) → AreMarked uses left pages free used (reached ++ record { page = page; slot = slot } ∷ [])
mark_reached uses was left pages free used reached page slot first count marked is low long now = record {
  owner = marked.owner;
  words = λ p f c e. (let h = marked.words p f c e in record { within = subst (λ (n : ℕ). f + words_for c ≤ n) (sym long) h.within; own = h.own });
  each = λ p. so_reached uses was left pages free used reached page slot first count marked is low now p (use_of uses p) refl (marked.each p);
}

-- What has a use.

some_of : (o : Option (List ℕ)) → IsSome o → is_some o ≡ true
some_of None h = absurd (false≢true h)
some_of (Some x) h = refl

use_some : (xs : List (Option (List ℕ))) → (xs ≡ [] → ⊥) → length xs ≡ 0 → ⊥
use_some [] some e = some refl
use_some (x ∷ xs) some e = absurd (omega (arith, e))

-- a slotted page whose records aren't all left behind isn't in use, and one whose records are is
pub slotted_in_use : (uses : Uses) (left : Left) (pages : Pages) (free used : List ℕ) (reached : List RecordPlace) (page first count : ℕ) → AreMarked uses left pages free used reached → use_of uses page ≡ Slotted count first
    → ((slot : ℕ) → slot < count → is_bit_set left.words.items (8 * first + slot) ≡ false) → HasUse pages free used reached page
slotted_in_use uses left pages free used reached page first count marked is none =
    let h : MarksSlotted left pages free used reached page first count = subst (λ (u : PageUse). IsUsedSo left pages free used reached page u) is (marked.each page) in
    inr (inr (
      h.bytes,
      h.slotted,
      h.some,
      λ slot some. elim (cases_lt slot count) [
        | inl low ↦ reached_contains page slot reached (was_reached (is_some (record_in (Some h.bytes) slot)) (is_reached page slot reached) (some_of (record_in (Some h.bytes) slot) some) (sym (h.each slot low) ∙ none slot low))
        | inr past ↦ absurd (no_slot h.bytes slot (h.slotted).slotted (subst (λ (n : ℕ). n ≤ slot) h.counted past) some)
      ],
    ))
  where
    was_reached : (a b : Bool) → a ≡ true → (a && not b) ≡ false → b ≡ true
    was_reached true true e f = refl
    was_reached true false e f = sym f
    was_reached false b e f = absurd (false≢true e)

    no_slot : (b : List ℕ) (s : ℕ) → IsSlotted b → count_of b ≤ s → IsSome (record_in (Some b) s) → ⊥
    no_slot b s slotted past some =
        let none : record_in (Some b) s ≡ None = slotted_record_in b s slotted ∙ get_or_past (slots_of b) s None (subst (λ (n : ℕ). n ≤ s) (sym (length-slots_of b)) past) in
        false≢true (subst (λ (o : Option (List ℕ)). IsSome o) none some)

pub slotted_not_in_use : (uses : Uses) (left : Left) (pages : Pages) (free used : List ℕ) (reached : List RecordPlace) (page first count slot : ℕ) → AreMarked uses left pages free used reached → use_of uses page ≡ Slotted count first → slot < count
    → is_bit_set left.words.items (8 * first + slot) ≡ true → HasUse pages free used reached page → ⊥
slotted_not_in_use uses left pages free used reached page first count slot marked is low set has =
    let h : MarksSlotted left pages free used reached page first count = subst (λ (u : PageUse). IsUsedSo left pages free used reached page u) is (marked.each page) in
    let both = two_true (is_some (record_in (Some h.bytes) slot)) (not (is_reached page slot reached)) (sym (h.each slot low) ∙ set) in
    elim has [
      | inl some ↦ (let none = h.in_none.0 in absurd (omega (arith, none, some)))
      | inr (inl some) ↦ (let none = h.in_none.1 in absurd (omega (arith, none, some)))
      | inr (inr found) ↦
          let same : h.bytes ≡ found.0 = same_bytes h.bytes found.0 (pages page) h.slotted.there found.1.there in
          let some : IsSome (record_in (Some found.0) slot) = subst (λ (b : List ℕ). IsSome (record_in (Some b) slot)) same (is_there (record_in (Some h.bytes) slot) both.0) in
          let yes : is_reached page slot reached ≡ true = contains_reached page slot reached (found.3 slot some) in
          absurd (false≢true (ap not (sym yes) ∙ both.1))
    ]
  where
    two_true : (a b : Bool) → (a && b) ≡ true → (a ≡ true) × (b ≡ true)
    two_true true true e = (refl, refl)
    two_true true false e = absurd (cc)
    two_true false b e = absurd (cc)

    is_there : (o : Option (List ℕ)) → is_some o ≡ true → IsSome o
    is_there None e = absurd (false≢true e)
    is_there (Some x) e = refl

-- a slotted page with slots has a record in the last of them
last_record : (bytes : List ℕ) → IsSlotted bytes → (slots_of bytes ≡ [] → ⊥) → IsSome (record_in (Some bytes) (count_of bytes - 1))
last_record bytes is some =
    let none : length (slots_of bytes) ≡ 0 → ⊥ = use_some (slots_of bytes) some in
    let long = length-slots_of bytes in
    let many : 1 ≤ count_of bytes = (elim (cases_lt 0 (count_of bytes)) [ inl this_is ↦ omega (arith, this_is) | inr not_this ↦ absurd (none (omega (arith, long, not_this))) ]) in
    let low : count_of bytes - 1 < count_of bytes = omega (arith, many) in
    let size : size_in (slot_of bytes (count_of bytes - 1)) ≡ size_of bytes (count_of bytes - 1) = size_in-slot_of bytes (count_of bytes - 1) is low in
    let found : record_in (Some bytes) (count_of bytes - 1) ≡ slot_of bytes (count_of bytes - 1) = slotted_record_in bytes (count_of bytes - 1) is ∙ get_or-slots_of bytes (count_of bytes - 1) low in
    subst (λ (o : Option (List ℕ)). IsSome o) (sym found) (go (slot_of bytes (count_of bytes - 1)) (let big = is.last many in omega (arith, size, big)))
  where
    go : (o : Option (List ℕ)) → 1 ≤ size_in o → IsSome o
    go None big = absurd (omega (arith, big))
    go (Some x) big = refl

pub unseen_not_in_use : (uses : Uses) (left : Left) (pages : Pages) (free used : List ℕ) (reached : List RecordPlace) (page : ℕ) → AreMarked uses left pages free used reached → use_of uses page ≡ Unseen → HasUse pages free used reached page → ⊥
unseen_not_in_use uses left pages free used reached page marked unseen has =
    let h = unseen_unused uses left pages free used reached page marked unseen in
    elim has [
      | inl some ↦ (let none = h.0 in absurd (omega (arith, none, some)))
      | inr (inl some) ↦ (let none = h.1 in absurd (omega (arith, none, some)))
      | inr (inr found) ↦
          let slot = count_of found.0 - 1 in
          let yes : is_reached page slot reached ≡ true = contains_reached page slot reached (found.3 slot (last_record found.0 (found.1).slotted found.2)) in
          absurd (false≢true (sym (h.2 slot) ∙ yes))
    ]

pub free_in_use : (uses : Uses) (left : Left) (pages : Pages) (free used : List ℕ) (reached : List RecordPlace) (page : ℕ) → AreMarked uses left pages free used reached → use_of uses page ≡ Free → HasUse pages free used reached page
free_in_use uses left pages free used reached page marked is =
    let h : IsUsedSo left pages free used reached page Free = subst (λ (u : PageUse). IsUsedSo left pages free used reached page u) is (marked.each page) in inl h.0

pub chain_in_use : (uses : Uses) (left : Left) (pages : Pages) (free used : List ℕ) (reached : List RecordPlace) (page : ℕ) → AreMarked uses left pages free used reached → use_of uses page ≡ Chain → HasUse pages free used reached page
chain_in_use uses left pages free used reached page marked is =
    let h : IsUsedSo left pages free used reached page Chain = subst (λ (u : PageUse). IsUsedSo left pages free used reached page u) is (marked.each page) in inr (inl h.0)

pub not_true : (b : Bool) → not b ≡ true → b ≡ false
not_true true e = absurd (false≢true e)
not_true false e = refl

pub not_false : (b : Bool) → not b ≡ false → b ≡ true
not_false true e = refl
not_false false e = absurd (false≢true (sym e))

-- a page with a record has slots
pub there_some : (bytes own : List ℕ) (slot : ℕ) → IsSlotted bytes → record_in (Some bytes) slot ≡ Some own → slots_of bytes ≢ []
there_some bytes own slot is found none =
    let e : None ≡ Some own = sym (ap (λ (l : List (Option (List ℕ))). slice_index_or l slot None) none) ∙ sym (slotted_record_in bytes slot is) ∙ found in
    cc e
