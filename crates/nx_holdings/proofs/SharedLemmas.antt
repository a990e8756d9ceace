-- How pages stay shared out where a page is taken, given back, used or changed.
use Rattle.std.proofs.Common.{◌≡◌, ◌⊎◌, ℕ, ◌+◌, ◌<◌, ◌≤◌, List, [], ◌∷◌, ◌++◌, refl, sym, ap, subst, ◌∙◌, arith, inl, inr}
use Rattle.std.proofs.lemmas.Bool.{cases_Bool, eqb-true, eq-eqb, false≢true}
use Rattle.std.specs.Prelude.{◌==◌, ◌≢◌, ◌^◌, Option, Some}
use Rattle.std.specs.List.{AllByRecursion}
use Rattle.nx_replay.specs.Log.{Pages}
use Rattle.nx_holdings.specs.declared.header.Header.{Header}
use Rattle.nx_holdings.specs.Holdings.{with_page, times, free_bytes, IsFreeList, AreLinked, links_of, pages_of_chains, Shares, named, IsUsed, IsShared}
use Rattle.nx_holdings.proofs.FreeLemmas.{free_one}
use Rattle.nx_holdings.proofs.TimesLemmas.{times_one, times_other, times-cons, times-append, times_apart, with_page-other, free_same, chains_same}

pub equal_or : (p q : ℕ) → (p ≡ q) ⊎ (p ≡ q → ⊥)
equal_or p q = elim (cases_Bool (p == q)) [ inl holds ↦ inl (eqb-true p q holds) | inr fails ↦ inr (λ same. false≢true (sym fails ∙ eq-eqb p q same)) ]

pub some_or : (n : ℕ) → (1 ≤ n) ⊎ (n ≡ 0)
some_or n = elim (equal_or n 0) [ inl same ↦ inr same | inr apart ↦ inl (omega arith) ]

-- a page is named as the header, as a free page, by a chain, or as a loose one
pub named_parts : (p : ℕ) (s : Shares) (loose : List ℕ)
    → times p (named s loose) ≡ times p (0 ∷ []) + (times p s.free + (times p (pages_of_chains s.chains) + times p loose))
named_parts p s loose =
    times-cons p 0 (s.free ++ (pages_of_chains s.chains ++ loose))
    ∙ ap (λ (n : ℕ). times p (0 ∷ []) + n) (times-append p s.free (pages_of_chains s.chains ++ loose) ∙ ap (λ (n : ℕ). times p s.free + n) (times-append p (pages_of_chains s.chains) loose))

pub named_loose : (p q : ℕ) (s : Shares) (loose : List ℕ) → times p (named s (q ∷ loose)) ≡ times p (q ∷ []) + times p (named s loose)
named_loose p q s loose =
    let one = named_parts p s (q ∷ loose) in
    let other = named_parts p s loose in
    let more = times-cons p q loose in
    shift (times p (0 ∷ [])) (times p s.free) (times p (pages_of_chains s.chains)) (times p loose) (times p (q ∷ [])) one other more
  where
    shift : {a b x : ℕ} (z f c l q : ℕ) → a ≡ z + (f + (c + x)) → b ≡ z + (f + (c + l)) → x ≡ q + l → a ≡ q + b
    shift z f c l q ea eb ex = omega arith

pub named_free : (p q : ℕ) (s : Shares) (loose : List ℕ) → times p (named (record s { free = q ∷ s.free }) loose) ≡ times p (q ∷ []) + times p (named s loose)
named_free p q s loose =
    let one = named_parts p (record s { free = q ∷ s.free }) loose in
    let other = named_parts p s loose in
    let more = times-cons p q s.free in
    shift (times p (0 ∷ [])) (times p s.free) (times p (pages_of_chains s.chains)) (times p loose) (times p (q ∷ [])) one other more
  where
    shift : {a b x : ℕ} (z f c l q : ℕ) → a ≡ z + (x + (c + l)) → b ≡ z + (f + (c + l)) → x ≡ q + f → a ≡ q + b
    shift z f c l q ea eb ex = omega arith

one_of : (p : ℕ) → times p (p ∷ []) ≡ 1
one_of p = times_one p []

none_of : (p q : ℕ) → (p ≡ q → ⊥) → times p (q ∷ []) ≡ 0
none_of p q apart = times_other p q [] apart

-- Other bytes at a page that is loose, or the header's, leave all others.
module _ {pages : Pages} {h : Header} {s : Shares} {loose : List ℕ} (is : IsShared pages h s loose) where
  parts : (p : ℕ) → times p (0 ∷ []) + (times p s.free + (times p (pages_of_chains s.chains) + times p loose)) ≤ 1
  parts p = let e = named_parts p s loose in let once = is.once p in omega (arith, e, once)

  pub write_aside : (page : ℕ) (bytes : List ℕ) → (1 ≤ times page loose) ⊎ (page ≡ 0) → IsShared (with_page pages page bytes) h s loose
  write_aside page bytes aside = record {
    free = free_same pages (with_page pages page bytes) h.free s.free (λ p some. with_page-other pages page bytes p (λ same. away p same (omega (arith, some)))) is.free;
    chains = chains_same pages (with_page pages page bytes) s.chains (λ p some. with_page-other pages page bytes p (λ same. away p same (omega (arith, some)))) is.chains;
    once = is.once;
    below = is.below;
    slotted = λ p low none. used_same p none (is.slotted p low none);
    room = is.room;
    none_past = λ p past. with_page-other pages page bytes p (λ same. let low = is.below page in_named in absurd (omega (arith, low, same, past))) ∙ is.none_past p past;
  }
    where
      aside_some : 1 ≤ times page (0 ∷ []) + times page loose
      aside_some = elim aside [
        | inl loose_one ↦ omega (arith, loose_one)
        | inr zero ↦ let e : times page (0 ∷ []) ≡ 1 = ap (λ (r : ℕ). times page (r ∷ [])) (sym zero) ∙ one_of page in omega (arith, e)
      ]

      in_named : 1 ≤ times page (named s loose)
      in_named = let e = named_parts page s loose in let some = aside_some in omega (arith, e, some)

      away : (p : ℕ) → p ≡ page → 1 ≤ times p s.free + times p (pages_of_chains s.chains) → ⊥
      away p same some =
          let once = parts page in
          let more = aside_some in
          let f : times p s.free ≡ times page s.free = ap (λ (r : ℕ). times r s.free) same in
          let c : times p (pages_of_chains s.chains) ≡ times page (pages_of_chains s.chains) = ap (λ (r : ℕ). times r (pages_of_chains s.chains)) same in
          absurd (omega (arith, once, more, f, c, some))

      used_same : (p : ℕ) → times p (named s loose) ≡ 0 → IsUsed pages p → IsUsed (with_page pages page bytes) p
      used_same p none used = record {
        bytes = used.bytes;
        there = with_page-other pages page bytes p (λ same. times_apart page p (named s loose) in_named none (sym same)) ∙ used.there;
        slotted = used.slotted;
        some = used.some;
      }

  -- A slotted page is changed to another.
  pub write_used : (page : ℕ) (bytes : List ℕ) → times page (named s loose) ≡ 0 → page < h.pages → IsUsed (with_page pages page bytes) page → IsShared (with_page pages page bytes) h s loose
  write_used page bytes none low used = record {
    free = free_same pages (with_page pages page bytes) h.free s.free (λ p some. with_page-other pages page bytes p (λ same. away p same (omega (arith, some)))) is.free;
    chains = chains_same pages (with_page pages page bytes) s.chains (λ p some. with_page-other pages page bytes p (λ same. away p same (omega (arith, some)))) is.chains;
    once = is.once;
    below = is.below;
    slotted = λ p under free. elim (equal_or p page) [
      | inl same ↦ subst (λ (q : ℕ). IsUsed (with_page pages page bytes) q) (sym same) used
      | inr apart ↦ let old = is.slotted p under free in record { bytes = old.bytes; there = with_page-other pages page bytes p apart ∙ old.there; slotted = old.slotted; some = old.some }
    ];
    room = is.room;
    none_past = λ p past. with_page-other pages page bytes p (λ same. absurd (omega (arith, low, same, past))) ∙ is.none_past p past;
  }
    where
      away : (p : ℕ) → p ≡ page → 1 ≤ times p s.free + times p (pages_of_chains s.chains) → ⊥
      away p same some =
          let e = named_parts page s loose in
          let f : times p s.free ≡ times page s.free = ap (λ (r : ℕ). times r s.free) same in
          let c : times p (pages_of_chains s.chains) ≡ times page (pages_of_chains s.chains) = ap (λ (r : ℕ). times r (pages_of_chains s.chains)) same in
          absurd (omega (arith, e, f, c, some, none))

  -- The same pages are named, in another way.
  pub named_else : (h' : Header) (s' : Shares) (loose' : List ℕ) → h'.pages ≡ h.pages → h'.room ≡ h.room → IsFreeList pages h'.free s'.free
      → AllByRecursion (λ c. AreLinked pages (links_of c)) s'.chains → ((p : ℕ) → times p (named s' loose') ≡ times p (named s loose)) → IsShared pages h' s' loose'
  named_else h' s' loose' same_pages same_room free chains same = record {
    free = free;
    chains = chains;
    once = λ p. let e = same p in let once = is.once p in omega (arith, e, once);
    below = λ p some. let e = same p in let low = is.below p (omega (arith, e, some)) in omega (arith, low, same_pages);
    slotted = λ p low none. let e = same p in is.slotted p (omega (arith, low, same_pages)) (omega (arith, e, none));
    room = λ some.
        let old = is.room (λ zero. some (same_room ∙ zero)) in
        (let low = old.0 in omega (arith, low, same_pages, same_room), ap (λ (r : ℕ). times r (named s' loose')) same_room ∙ same h.room ∙ old.1);
    none_past = λ p past. is.none_past p (omega (arith, past, same_pages));
  }

  -- another room page, slotted, or none
  pub room_else : (h' : Header) → h'.pages ≡ h.pages → h'.free ≡ h.free → (h'.room ≢ 0 → (h'.room < h.pages) × (times h'.room (named s loose) ≡ 0)) → IsShared pages h' s loose
  room_else h' same_pages same_free room = record {
    free = subst (λ (f : ℕ). IsFreeList pages f s.free) (sym same_free) is.free;
    chains = is.chains;
    once = is.once;
    below = λ p some. let low = is.below p some in omega (arith, low, same_pages);
    slotted = λ p low none. is.slotted p (omega (arith, low, same_pages)) none;
    room = λ some. let new = room some in (let low = new.0 in omega (arith, low, same_pages), new.1);
    none_past = λ p past. is.none_past p (omega (arith, past, same_pages));
  }

  -- The first page that was never used becomes a loose one.
  pub grow : (h' : Header) → h'.pages ≡ h.pages + 1 → h'.free ≡ h.free → h'.room ≡ h.room → IsShared pages h' s (h.pages ∷ loose)
  grow h' more same_free same_room = record {
    free = subst (λ (f : ℕ). IsFreeList pages f s.free) (sym same_free) is.free;
    chains = is.chains;
    once = λ p. let e = named_loose p h.pages s loose in let once = is.once p in elim (equal_or p h.pages) [
      | inl same ↦ let none = new_none p same in let one = most_one p in omega (arith, e, none, one)
      | inr apart ↦ let zero = none_of p h.pages apart in omega (arith, e, zero, once)
    ];
    below = λ p some. let e = named_loose p h.pages s loose in elim (equal_or p h.pages) [
      | inl same ↦ omega (arith, same, more)
      | inr apart ↦ let zero = none_of p h.pages apart in let low = is.below p (omega (arith, e, zero, some)) in omega (arith, low, more)
    ];
    slotted = λ p low none. let e = named_loose p h.pages s loose in elim (equal_or p h.pages) [
      | inl same ↦ let one : times p (h.pages ∷ []) ≡ 1 = ap (λ (r : ℕ). times p (r ∷ [])) (sym same) ∙ one_of p in absurd (omega (arith, e, none, one))
      | inr apart ↦ is.slotted p (omega (arith, low, more, apart)) (omega (arith, e, none))
    ];
    room = λ some.
        let old = is.room (λ zero. some (same_room ∙ zero)) in
        let e = named_loose h.room h.pages s loose in
        let zero = none_of h.room h.pages (λ same. let low = old.0 in absurd (omega (arith, low, same))) in
        let none = old.1 in
        (let low = old.0 in omega (arith, low, more, same_room), ap (λ (r : ℕ). times r (named s (h.pages ∷ loose))) same_room ∙ omega (arith, e, zero, none));
    none_past = λ p past. is.none_past p (omega (arith, past, more));
  }
    where
      most_one : (p : ℕ) → times p (h.pages ∷ []) ≤ 1
      most_one p = elim (equal_or p h.pages) [
        | inl same ↦ let one : times p (h.pages ∷ []) ≡ 1 = ap (λ (r : ℕ). times p (r ∷ [])) (sym same) ∙ one_of p in omega (arith, one)
        | inr apart ↦ let zero = none_of p h.pages apart in omega (arith, zero)
      ]

      new_none : (p : ℕ) → p ≡ h.pages → times p (named s loose) ≡ 0
      new_none p same = elim (some_or (times p (named s loose))) [ inl some ↦ (let low = is.below p some in absurd (omega (arith, low, same))) | inr none ↦ none ]

  -- A slotted page, which isn't the room page, becomes a loose one.
  pub loosen : (page : ℕ) → page < h.pages → times page (named s loose) ≡ 0 → (h.room ≡ page → ⊥) → IsShared pages h s (page ∷ loose)
  loosen page low none apart_room = record {
    free = is.free;
    chains = is.chains;
    once = λ p. let e = named_loose p page s loose in let once = is.once p in elim (equal_or p page) [
      | inl same ↦
          let one : times p (page ∷ []) ≡ 1 = ap (λ (r : ℕ). times p (r ∷ [])) (sym same) ∙ one_of p in
          let zero : times p (named s loose) ≡ 0 = ap (λ (r : ℕ). times r (named s loose)) same ∙ none in
          omega (arith, e, one, zero)
      | inr apart ↦ let zero = none_of p page apart in omega (arith, e, zero, once)
    ];
    below = λ p some. let e = named_loose p page s loose in elim (equal_or p page) [
      | inl same ↦ omega (arith, same, low)
      | inr apart ↦ let zero = none_of p page apart in is.below p (omega (arith, e, zero, some))
    ];
    slotted = λ p under free. let e = named_loose p page s loose in is.slotted p under (omega (arith, e, free));
    room = λ some.
        let old = is.room some in
        let e = named_loose h.room page s loose in
        let zero = none_of h.room page apart_room in
        let free = old.1 in
        (old.0, omega (arith, e, zero, free));
    none_past = is.none_past;
  }

-- A loose page that has become a slotted one with a record is used.
pub use_loose : {pages : Pages} {h : Header} {s : Shares} {loose : List ℕ} (page : ℕ) → IsShared pages h s (page ∷ loose) → IsUsed pages page → IsShared pages h s loose
use_loose {pages = pages} {h = h} {s = s} {loose = loose} page is used = record {
  free = is.free;
  chains = is.chains;
  once = λ p. let e = named_loose p page s loose in let once = is.once p in omega (arith, e, once);
  below = λ p some. let e = named_loose p page s loose in is.below p (omega (arith, e, some));
  slotted = λ p low none. elim (equal_or p page) [
    | inl same ↦ subst (λ (q : ℕ). IsUsed pages q) (sym same) used
    | inr apart ↦ let e = named_loose p page s loose in let zero = none_of p page apart in is.slotted p low (omega (arith, e, zero, none))
  ];
  room = λ some. let old = is.room some in let e = named_loose h.room page s loose in let none = old.1 in (old.0, omega (arith, e, none));
  none_past = is.none_past;
}

-- A loose page that has become a free page becomes the first of the free list.
pub free_loose : {pages : Pages} {h : Header} {s : Shares} {loose : List ℕ} (page : ℕ) (h' : Header) → IsShared pages h s (page ∷ loose) → pages page ≡ Some (free_bytes h.free)
    → h'.pages ≡ h.pages → h'.room ≡ h.room → h'.free ≡ page → IsShared pages h' (record s { free = page ∷ s.free }) loose
free_loose {pages = pages} {h = h} {s = s} {loose = loose} page h' is there same_pages same_room same_free =
    named_else is h' (record s { free = page ∷ s.free }) loose same_pages same_room (same_free, (h.free, there, is.free)) is.chains
    (λ p. named_free p page s loose ∙ sym (named_loose p page s loose))

-- The first page of the free list becomes a loose one.
pub record IsTaken (pages : Pages) (h : Header) (s : Shares) (loose : List ℕ) (page : ℕ) (h' : Header) : Type 0 where
  pub rest : List ℕ
  pub split : s.free ≡ page ∷ rest
  pub shared : IsShared pages h' (record s { free = rest }) (page ∷ loose)

pub take_first : {pages : Pages} {h : Header} {s : Shares} {loose : List ℕ} (next : ℕ) (h' : Header) → IsShared pages h s loose → h.free ≢ 0 → h.pages ≤ 2 ^ 32
    → pages h.free ≡ Some (free_bytes next) → next < 2 ^ 32 → h'.pages ≡ h.pages → h'.room ≡ h.room → h'.free ≡ next → IsTaken pages h s loose h.free h'
take_first {pages = pages} {h = h} {s = s} {loose = loose} next h' is some few there low same_pages same_room same_free = go s.free refl is.free
  where
    next_low : (first : ℕ) (ps : List ℕ) → IsFreeList pages first ps → ((p : ℕ) → 1 ≤ times p ps → p < h.pages) → first < 2 ^ 32
    next_low first [] list below = let zero : first ≡ 0 = list in omega (arith, zero)
    next_low first (p ∷ ps) list below =
        let same : first ≡ p = list.0 in
        let under = below p (let one = times_one p ps in omega (arith, one)) in
        omega (arith, same, under, few)

    go : (ps : List ℕ) → s.free ≡ ps → IsFreeList pages h.free ps → IsTaken pages h s loose h.free h'
    go [] are list = absurd (some list)
    go (p ∷ ps) are list =
        let first : h.free ≡ p = list.0 in
        let split : s.free ≡ h.free ∷ ps = are ∙ ap (λ (q : ℕ). q ∷ ps) (sym first) in
        let bytes : free_bytes list.1.0 ≡ free_bytes next = inner (sym list.1.1 ∙ ap pages (sym first) ∙ there) in
        let ps_low : (q : ℕ) → 1 ≤ times q ps → q < h.pages = (λ q among. is.below q
        (let e = named_parts q s loose in let f = ap (λ (r : List ℕ). times q r) are in let c = times-cons q p ps in omega (arith, e, f, c, among))) in
        let same : list.1.0 ≡ next = free_one list.1.0 next (next_low list.1.0 ps list.1.2 ps_low) low bytes in
        record {
          rest = ps;
          split = split;
          shared = named_else is h' (record s { free = ps }) (h.free ∷ loose) same_pages same_room
              (subst (λ (f : ℕ). IsFreeList pages f ps) (same ∙ sym same_free) list.1.2) is.chains
              (λ q. named_loose q h.free (record s { free = ps }) loose ∙ sym (named_free q h.free (record s { free = ps }) loose)
              ∙ ap (λ (fs : List ℕ). times q (named (record s { free = fs }) loose)) (sym split));
        }
      where
        inner : {x y : List ℕ} → ◌≡◌ {A = Option (List ℕ)} (Some x) (Some y) → x ≡ y
        inner same = cc
