-- One page more of a free list: what a loop over it keeps.
use Rattle.std.proofs.Common.{◌≡◌, ◌≢◌, ◌⊎◌, ℕ, zero, suc, ◌+◌, ◌<◌, ◌≤◌, Bool, false, List, [], ◌∷◌, ◌++◌, length, length-append, Some, None, refl, sym, ap, ◌∙◌, subst, arith, inl, inr}
use Rattle.std.specs.Prelude.{◌==◌, if◌then◌else◌}
use Rattle.std.proofs.lemmas.Bool.{false≢true, eq-eqb, eqb-true, cases_Bool}
use Rattle.nx_replay.specs.Log.{Pages}
use Rattle.nx_holdings.specs.declared.header.Header.{Header}
use Rattle.nx_holdings.specs.Holdings.{times}
use Rattle.nx_holdings.specs.Free.{IsFreePage, IsNoFreePage}
use Rattle.nx_holdings.proofs.TimesLemmas.{times-append, times_one, times_other}
use Rattle.nx_rules.specs.Listed.{last_page, IsFreePageAt, AreFreeFrom, HasHeaderPage, IsFreeTo}
use Rattle.nx_rules.specs.Broken.{BreaksFree}
use Rattle.nx_check.specs.declared.uses.PageUse.{PageUse}
use Rattle.nx_check.specs.declared.uses.PageUse.TheVariants.{Unseen, Free}
use Rattle.nx_check.specs.declared.uses.Uses.{Uses}
use Rattle.nx_check.specs.Uses.{use_of, count_unseen, unseen_in, free_use, MarksFree}
use Rattle.nx_check.proofs.MarkLemmas.{MarksPage}

free_on : (pages : Pages) (first : ℕ) (ps : List ℕ) (p next : ℕ) → AreFreeFrom pages first ps p → p ≢ 0 → IsFreePageAt pages p next → AreFreeFrom pages first (ps ++ p ∷ []) next
free_on pages first [] p next h some at = (h, some, (next, at, refl))
free_on pages first (q ∷ ps) p next h some at = (h.0, h.1, (h.2.0, h.2.1, free_on pages h.2.0 ps p next h.2.2 some at))

-- one page more among others: by cases, whether it is this one
pub more_times : (q p : ℕ) (ps : List ℕ) → ((q ≡ p) × (times q (ps ++ p ∷ []) ≡ times q ps + 1)) ⊎ ((q ≡ p → ⊥) × (times q (ps ++ p ∷ []) ≡ times q ps))
more_times q p ps =
    let e = times-append q ps (p ∷ []) in
    elim (cases_Bool (q == p)) [
      | inl same ↦ (let is : q ≡ p = eqb-true q p same in let one : times q (p ∷ []) ≡ 1 = subst (λ (x : ℕ). times q (x ∷ []) ≡ 1) is (times_one q []) in inl (is, omega (arith, e, one)))
      | inr other ↦
          let apart : q ≡ p → ⊥ = λ s. false≢true (sym other ∙ eq-eqb q p s) in
          let none : times q (p ∷ []) ≡ 0 = times_other q p [] apart in
          inr (apart, omega (arith, e, none))
    ]

-- A free list goes on by a free page below the header's number that is new.
free_more : (pages : Pages) (head : Header) (free : List ℕ) (page next : ℕ) → IsFreeTo pages head free page → page ≢ 0 → IsFreePageAt pages page next → page < head.pages → times page free ≡ 0 → IsFreeTo pages head (free ++ page ∷ []) next
free_more pages head free page next h some at low fresh = record {
  linked = free_on pages head.free free page next h.linked some at;
  below = λ q among. elim (more_times q page free) [
    | inl same ↦ subst (λ (x : ℕ). x < head.pages) (sym same.0) low
    | inr other ↦ h.below q (let e = other.1 in omega (arith, e, among))
  ];
  once = λ q. elim (more_times q page free) [
    | inl same ↦ (let e = same.1 in let none : times q free ≡ 0 = subst (λ (x : ℕ). times x free ≡ 0) (sym same.0) fresh in omega (arith, e, none))
    | inr other ↦ (let e = other.1 in let few = h.once q in omega (arith, e, few))
  ];
}

pub last_more : (before : ℕ) (ps : List ℕ) (p : ℕ) → last_page before (ps ++ p ∷ []) ≡ p
last_more before [] p = refl
last_more before (q ∷ ps) p = last_more q ps p

free_unseen : (is : PageUse) (n : ℕ) → is ≡ free_use n → is ≡ Unseen → n ≡ 0
free_unseen is zero e u = refl
free_unseen is (suc n) e u = absurd (let x : Unseen ≡ Free = sym u ∙ e in cc x)

seen_free : (is : PageUse) (n : ℕ) → is ≡ free_use n → (is ≡ Unseen → ⊥) → n ≡ 0 → ⊥
seen_free is zero e u n = u e
seen_free is (suc n) e u h = absurd (omega (arith, h))

marks_more : (old new : Uses) (free : List ℕ) (page : ℕ) → MarksFree old free → MarksPage old new page Free → MarksFree new (free ++ page ∷ [])
marks_more old new free page marks now p =
    elim (more_times p page free) [
      | inl same ↦
          let there : use_of new p ≡ Free = now p ∙ ap (λ (b : Bool). if b then Free else use_of old p) (eq-eqb p page same.0) in
          there ∙ many (times p (free ++ page ∷ [])) (let e = same.1 in omega (arith, e))
      | inr other ↦
          let apart : (p == page) ≡ false = elim (cases_Bool (p == page)) [ inl is ↦ absurd (other.0 (eqb-true p page is)) | inr not_is ↦ not_is ] in
          now p ∙ ap (λ (b : Bool). if b then Free else use_of old p) apart ∙ marks p ∙ ap free_use (sym other.1)
    ]
  where
    many : (n : ℕ) → 1 ≤ n → Free ≡ free_use n
    many zero some = absurd (omega (arith, some))
    many (suc n) some = refl

-- one page less is unseen
stays_unseen : (old new : Uses) (page n : ℕ) → MarksPage old new page Free → n ≤ page → unseen_in new n ≡ unseen_in old n
stays_unseen old new page zero now low = refl
stays_unseen old new page (suc n) now low =
    let apart : (n == page) ≡ false = elim (cases_Bool (n == page)) [ inl is ↦ absurd (let same : n ≡ page = eqb-true n page is in omega (arith, same, low)) | inr not_is ↦ not_is ] in
    let here : use_of new n ≡ use_of old n = now n ∙ ap (λ (b : Bool). if b then Free else use_of old n) apart in
    let rest : unseen_in new n ≡ unseen_in old n = stays_unseen old new page n now (omega (arith, low)) in
    ap (λ (u : PageUse). count_unseen u + unseen_in new n) here ∙ ap (λ (k : ℕ). count_unseen (use_of old n) + k) rest

pub unseen_less : (old new : Uses) (page n : ℕ) → MarksPage old new page Free → use_of old page ≡ Unseen → page < n → suc (unseen_in new n) ≤ unseen_in old n
unseen_less old new page zero now unseen low = absurd (omega (arith, low))
unseen_less old new page (suc n) now unseen low =
    elim (cases_Bool (n == page)) [
      | inl is ↦
          let same : n ≡ page = eqb-true n page is in
          let here : use_of new n ≡ Free = now n ∙ ap (λ (b : Bool). if b then Free else use_of old n) is in
          let was : use_of old n ≡ Unseen = ap (use_of old) same ∙ unseen in
          let rest : unseen_in new n ≡ unseen_in old n = stays_unseen old new page n now (omega (arith, same)) in
          let a : count_unseen (use_of new n) ≡ 0 = ap count_unseen here in
          let b : count_unseen (use_of old n) ≡ 1 = ap count_unseen was in
          omega (arith, rest, a, b)
      | inr apart ↦
          let here : use_of new n ≡ use_of old n = now n ∙ ap (λ (b : Bool). if b then Free else use_of old n) apart in
          let count : count_unseen (use_of new n) ≡ count_unseen (use_of old n) = ap count_unseen here in
          let other : n ≡ page → ⊥ = λ e. false≢true (sym apart ∙ eq-eqb n page e) in
          let rest : suc (unseen_in new n) ≤ unseen_in old n = unseen_less old new page n now unseen (omega (arith, low, other)) in
          omega (arith, rest, count)
    ]

-- what a walk over the free list has come to, up to a page
pub record IsFreeWalk (pages : Pages) (head : Header) (uses : Uses) (by page base now : ℕ) : Type 0 where
  pub free : List ℕ
  pub to : IsFreeTo pages head free page
  pub marks : MarksFree uses free
  pub last : by ≡ last_page 0 free
  pub reads : now ≤ base + length free

pub begin_free : (pages : Pages) (head : Header) (uses : Uses) (base : ℕ) → ((p : ℕ) → use_of uses p ≡ Unseen) → IsFreeWalk pages head uses 0 head.free base base
begin_free pages head uses base clear = record {
  free = [];
  to = record { linked = refl; below = λ p some. absurd (omega (arith, some)); once = λ p. omega arith };
  marks = clear;
  last = refl;
  reads = omega arith;
}

pub go_on_free : (pages : Pages) (head : Header) (old new : Uses) (by page next base now later : ℕ) (bytes : List ℕ) → IsFreeWalk pages head old by page base now → later ≤ now + 1 → page ≢ 0 → pages page ≡ Some bytes → IsFreePage bytes next → page < head.pages → use_of old page ≡ Unseen
    → MarksPage old new page Free → IsFreeWalk pages head new page next base later
go_on_free pages head old new by page next base now later bytes h soon some there is low unseen marked =
    let at : IsFreePageAt pages page next = record { there = there ∙ ap (λ (b : List ℕ). Some b) is.are; low = is.low } in
    let fresh : times page h.free ≡ 0 = free_unseen (use_of old page) (times page h.free) (h.marks page) unseen in
    record {
      free = h.free ++ page ∷ [];
      to = free_more pages head h.free page next h.to some at low fresh;
      marks = marks_more old new h.free page h.marks marked;
      last = sym (last_more 0 h.free page);
      reads = let so_far : now ≤ base + length h.free = h.reads in let long : length (h.free ++ page ∷ []) ≡ length h.free + length (page ∷ []) = length-append h.free (page ∷ []) in omega (arith, so_far, long, soon);
    }

pub missing_free : (pages : Pages) (head : Header) (uses : Uses) (by page base now : ℕ) → HasHeaderPage pages head → IsFreeWalk pages head uses by page base now → page ≢ 0 → pages page ≡ None → BreaksFree pages by
missing_free pages head uses by page base now header h some none = record { head = head; header = header; free = h.free; next = page; to = h.to; goes_on = some; blamed = inl (h.last, none) }

pub no_free : (pages : Pages) (head : Header) (uses : Uses) (by page base now : ℕ) (bytes : List ℕ) → HasHeaderPage pages head → IsFreeWalk pages head uses by page base now → page ≢ 0 → pages page ≡ Some bytes → IsNoFreePage bytes → BreaksFree pages page
no_free pages head uses by page base now bytes header h some there none = record {
  head = head;
  header = header;
  free = h.free;
  next = page;
  to = h.to;
  goes_on = some;
  blamed = inr (refl, (bytes, there, λ n is low fresh. none n is));
}

pub bad_free : (pages : Pages) (head : Header) (uses : Uses) (by page base now : ℕ) (bytes : List ℕ) → HasHeaderPage pages head → IsFreeWalk pages head uses by page base now → page ≢ 0 → pages page ≡ Some bytes → (page < head.pages → use_of uses page ≡ Unseen → ⊥) → BreaksFree pages page
bad_free pages head uses by page base now bytes header h some there bad = record {
  head = head;
  header = header;
  free = h.free;
  next = page;
  to = h.to;
  goes_on = some;
  blamed = inr (refl, (bytes, there, λ n is low fresh. seen_free (use_of uses page) (times page h.free) (h.marks page) (bad low) fresh));
}
