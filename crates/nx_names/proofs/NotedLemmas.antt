-- What is found among records by their places.
use Rattle.std.proofs.Common.{◌≡◌, ◌<◌, ◌≤◌, ℕ, zero, suc, ◌+◌, ◌*◌, Bool, true, false, List, [], ◌∷◌, ◌++◌, length, get_or, Contains, refl, sym, ap, ◌∙◌, subst, arith, inl, inr}
use Rattle.std.specs.Prelude.{◌&&◌, ◌||◌}
use Rattle.std.specs.List.Sorted.{IsNonDecreasingBy, IsPartitionPoint}
use Rattle.std.specs.Ordering.{nat_cmp, ordering_index}
use Rattle.std.specs.declared.cmp.Ordering.TheVariants.{Less, Equal, Greater}
use Rattle.std.proofs.lemmas.Cmp.{ranked}
use Rattle.std.proofs.lemmas.Bool.{cases_lt}
use Rattle.std.proofs.lemmas.List.Folds.{list_any_at}
use Rattle.std.proofs.lemmas.Bool.Decides.{nat_tests}
use Rattle.std.proofs.lemmas.List.Elements.{Contains-append_left}
use Rattle.nx_layouts.specs.Layout.{RecordPlace, ArePlacedOnce}
use Rattle.nx_layouts.proofs.PlaceLemmas.{place_is, first_among, later_among, once-right, once-disjoint}
use Rattle.nx_names.specs.declared.noted.Noted.{Noted}
use Rattle.nx_names.specs.Serials.{HaveSmallSlots, is_noted_at, has_noted, noted_from, noted_key, PlacesRise}

-- what isn't so is false
pub not_true : (b : Bool) → (b ≡ true → ⊥) → b ≡ false
not_true true isnt = absurd (isnt refl)
not_true false isnt = refl

pub or_false : (b : Bool) → (b || false) ≡ b
or_false true = refl
or_false false = refl

-- no record stands at the place
pub none_noted : (records : List Noted) (place : RecordPlace) (test : ℕ → Bool) → ((k : ℕ) (d : Noted) → k < length records → is_noted_at place (get_or records k d) ≡ false) → has_noted records place test ≡ false
none_noted [] place test none = refl
none_noted (r ∷ rs) place test none =
    let here : is_noted_at place r ≡ false = none 0 r (omega arith) in
    ap (λ (b : Bool). (b && test r.serial) || has_noted rs place test) here ∙ none_noted rs place test (λ k d low. none (suc k) d (omega arith))

-- one stands there alone
pub one_noted : (records : List Noted) (place : RecordPlace) (test : ℕ → Bool) (d : Noted) (k : ℕ) → k < length records → is_noted_at place (get_or records k d) ≡ true
    → ((j : ℕ) → j < length records → is_noted_at place (get_or records j d) ≡ true → j ≡ k) → has_noted records place test ≡ test (get_or records k d).serial
one_noted [] place test d k low here alone = absurd (omega arith)
one_noted (r ∷ rs) place test d zero low here alone =
    let here : is_noted_at place r ≡ true = here in
    let rest : has_noted rs place test ≡ false = none_noted rs place test (λ j e high.
    not_true (is_noted_at place (get_or rs j e)) (λ also.
    let far : suc j ≡ 0 = alone (suc j) (omega arith) (ap (is_noted_at place) (same rs j d e high) ∙ also) in absurd (omega arith))) in
    ap (λ (b : Bool). (b && test r.serial) || has_noted rs place test) here ∙ ap (λ (b : Bool). test r.serial || b) rest ∙ or_false (test r.serial)
  where
    same : (rs : List Noted) (j : ℕ) (d e : Noted) → j < length rs → get_or rs j d ≡ get_or rs j e
    same [] j d e high = absurd (omega arith)
    same (r ∷ rs) zero d e high = refl
    same (r ∷ rs) (suc j) d e high = same rs j d e (omega arith)
one_noted (r ∷ rs) place test d (suc k) low here alone =
    let other : is_noted_at place r ≡ false = not_true (is_noted_at place r) (λ also. let first : 0 ≡ suc k = alone 0 (omega arith) also in absurd (omega arith)) in
    ap (λ (b : Bool). (b && test r.serial) || has_noted rs place test) other
    ∙ one_noted rs place test d k (omega arith) here (λ j high also. let one : suc j ≡ suc k = alone (suc j) (omega arith) also in omega arith)

-- the place has the key
is_key : (place : RecordPlace) (r : Noted) → is_noted_at place r ≡ true → noted_key r ≡ place.page * 65536 + place.slot
is_key place r here = grind (arith, nat_tests)

-- ... and no other one has
has_key : (place : RecordPlace) (r : Noted) → place.slot < 65536 → r.slot < 65536 → noted_key r ≡ place.page * 65536 + place.slot → is_noted_at place r ≡ true
has_key place r low high same =
    let key : r.page * 65536 + r.slot ≡ place.page * 65536 + place.slot = same in
    let pages : r.page ≡ place.page = omega arith in
    let slots : r.slot ≡ place.slot = omega arith in
    grind (arith, nat_tests)

-- records behind each other have greater keys
pub rises_far : (records : List Noted) (d : Noted) → PlacesRise records → (i j : ℕ) → i < j → j < length records → noted_key (get_or records i d) < noted_key (get_or records j d)
rises_far records d rise i zero less high = absurd (omega arith)
rises_far records d rise i (suc j) less high =
    let next : noted_key (get_or records j d) < noted_key (get_or records (suc j) d) = subst (λ (k : ℕ). noted_key (get_or records j d) < noted_key (get_or records k d)) (let e : j + 1 ≡ suc j = omega arith in e) (rise j d (omega arith)) in
    elim (cases_lt i j) [
      | inl before ↦ let far = rises_far records d rise i j before (omega arith) in omega arith
      | inr not_before ↦ let same : i ≡ j = omega arith in subst (λ (k : ℕ). noted_key (get_or records k d) < noted_key (get_or records (suc j) d)) (sym same) next
    ]

-- ... so they are in the order of their keys
pub rising_sorted : (records : List Noted) → PlacesRise records → IsNonDecreasingBy noted_key records
rising_sorted records rise i j d le high = elim (cases_lt i j) [
  | inl before ↦ let far = rises_far records d rise i j before high in omega arith
  | inr not_before ↦ let same : i ≡ j = omega arith in subst (λ (k : ℕ). noted_key (get_or records i d) ≤ noted_key (get_or records k d)) same (omega arith)
]

module _ (records : List Noted) (small : HaveSmallSlots records) (up : IsNonDecreasingBy noted_key records) (place : RecordPlace) (low : place.slot < 65536) where
  abbrev key : ℕ
  key = place.page * 65536 + place.slot

  -- the comparisons with the key rise along the records, as a binary search asks
  comparisons_rise : IsNonDecreasingBy (λ r. ordering_index (nat_cmp (noted_key r) key)) records
  comparisons_rise i j d le high = let keys = up i j d le high in grind (arith, nat_tests)

  -- a binary search by keys finds the record at the place
  pub found_noted : PlacesRise records → (at : ℕ) (d : Noted) → at < length records → nat_cmp (noted_key (get_or records at d)) key ≡ Equal → (test : ℕ → Bool) → has_noted records place test ≡ test (get_or records at d).serial
  found_noted rise at d high equal test =
      let same : noted_key (get_or records at d) ≡ key = ranked (noted_key (get_or records at d)) key _ (sym equal) in
      one_noted records place test d at high (has_key place (get_or records at d) low (small at d high) same) (λ j lower also.
      let other : noted_key (get_or records j d) ≡ key = is_key place (get_or records j d) also in
      elim (cases_lt j at) [
        | inl before ↦ let far = rises_far records d rise j at before high in absurd (omega arith)
        | inr not_before ↦ elim (cases_lt at j) [
          | inl behind ↦ let far = rises_far records d rise at j behind lower in absurd (omega arith)
          | inr not_behind ↦ omega arith
        ]
      ])

  -- ... or at least one there
  pub found_one : (at : ℕ) (d : Noted) → at < length records → nat_cmp (noted_key (get_or records at d)) key ≡ Equal → has_noted records place (λ n. true) ≡ true
  found_one at d high equal =
      let same : noted_key (get_or records at d) ≡ key = ranked (noted_key (get_or records at d)) key _ (sym equal) in
      list_any_at (λ (r : Noted). is_noted_at place r && true) records at d high (ap (λ (b : Bool). b && true) (has_key place (get_or records at d) low (small at d high) same))

  -- ... or none
  pub missing_noted : (at : ℕ) → (IsNonDecreasingBy (λ r. ordering_index (nat_cmp (noted_key r) key)) records → IsPartitionPoint (λ r. nat_cmp (noted_key r) key ≡ Less) (λ r. nat_cmp (noted_key r) key ≡ Greater) records at) → (test : ℕ → Bool) → has_noted records place test ≡ false
  missing_noted at parted test = none_noted records place test (λ k d low.
      not_true (is_noted_at place (get_or records k d)) (λ here.
      let same : noted_key (get_or records k d) ≡ key = is_key place (get_or records k d) here in
      let parts = parted comparisons_rise in
      elim (cases_lt k at) [
        | inl before ↦ let less : noted_key (get_or records k d) < key = ranked (noted_key (get_or records k d)) key _ (sym (parts.0 k d (omega arith) before)) in absurd (omega arith)
        | inr behind ↦ let greater : key < noted_key (get_or records k d) = ranked (noted_key (get_or records k d)) key _ (sym (parts.1 k d behind low)) in absurd (omega arith)
      ]))

-- numbered places behind others
pub noted-append : (n : ℕ) (a b : List RecordPlace) → noted_from n (a ++ b) ≡ noted_from n a ++ noted_from (n + length a) b
noted-append n [] b = ap (λ (m : ℕ). noted_from m b) (let e : n ≡ n + 0 = omega arith in e)
noted-append n (p ∷ a) b =
    let first : Noted = record { page = p.page; serial = n; slot = p.slot } in
    ap (λ rs. first ∷ rs) (noted-append (n + 1) a b ∙ ap (λ (m : ℕ). noted_from (n + 1) a ++ noted_from m b) (let e : n + 1 + length a ≡ n + suc (length a) = omega arith in e))

pub noted-length : (n : ℕ) (places : List RecordPlace) → length (noted_from n places) ≡ length places
noted-length n [] = refl
noted-length n (p ∷ places) = let e = noted-length (n + 1) places in omega arith

-- a place that isn't among those numbered
pub not_noted : (n : ℕ) (places : List RecordPlace) (place : RecordPlace) (test : ℕ → Bool) → (Contains places place → ⊥) → has_noted (noted_from n places) place test ≡ false
not_noted n [] place test none = refl
not_noted n (p ∷ places) place test none =
    let first : Noted = record { page = p.page; serial = n; slot = p.slot } in
    let other : is_noted_at place first ≡ false = not_true (is_noted_at place first) (λ also. none (subst (λ (q : RecordPlace). Contains (p ∷ places) q) (at_place p place n also) (first_among p places))) in
    ap (λ (b : Bool). (b && test n) || has_noted (noted_from (n + 1) places) place test) other ∙ not_noted (n + 1) places place test (λ among. none (later_among p places place among))
  where
    at_place : (p place : RecordPlace) (n : ℕ) → (let r : Noted = record { page = p.page; serial = n; slot = p.slot } in is_noted_at place r ≡ true) → p ≡ place
    at_place p place n also = place_is p place (grind (arith, nat_tests)) (grind (arith, nat_tests))

itself : (place : RecordPlace) (n : ℕ) → let r : Noted = record { page = place.page; serial = n; slot = place.slot } in is_noted_at place r ≡ true
itself place n = grind (arith, nat_tests)

-- the number of a place among those numbered
pub noted_there : (n : ℕ) (front back : List RecordPlace) (place : RecordPlace) (test : ℕ → Bool) → (Contains front place → ⊥) → (Contains back place → ⊥) → has_noted (noted_from n (front ++ place ∷ back)) place test ≡ test (n + length front)
noted_there n [] back place test before behind =
    ap (λ (b : Bool). (b && test n) || has_noted (noted_from (n + 1) back) place test) (itself place n)
    ∙ ap (λ (b : Bool). test n || b) (not_noted (n + 1) back place test behind) ∙ or_false (test n) ∙ ap test (let e : n ≡ n + 0 = omega arith in e)
noted_there n (p ∷ front) back place test before behind =
    let only : has_noted (noted_from n (p ∷ [])) place test ≡ false = not_noted n (p ∷ []) place test (λ among. before (one p front place among)) in
    ap (λ (b : Bool). b || has_noted (noted_from (n + 1) (front ++ place ∷ back)) place test) (sym (or_false _) ∙ only)
    ∙ noted_there (n + 1) front back place test (λ among. before (later_among p front place among)) behind ∙ ap test (let e : n + 1 + length front ≡ n + suc (length front) = omega arith in e)
  where
    one : (p : RecordPlace) (front : List RecordPlace) (place : RecordPlace) → Contains (p ∷ []) place → Contains (p ∷ front) place
    one p front place among = Contains-append_left (p ∷ []) front place among

-- ... where none comes twice
pub noted_once : (front back : List RecordPlace) (place : RecordPlace) (test : ℕ → Bool) → ArePlacedOnce (front ++ place ∷ back) → has_noted (noted_from 0 (front ++ place ∷ back)) place test ≡ test (length front)
noted_once front back place test once =
    noted_there 0 front back place test (λ among. once-disjoint front (place ∷ back) once place among (first_among place back)) (once-right front (place ∷ back) once).0
    ∙ ap test (let e : 0 + length front ≡ length front = omega arith in e)

-- tests that answer alike find the same
pub noted_by : (records : List Noted) (place : RecordPlace) (one other : ℕ → Bool) → ((n : ℕ) → one n ≡ other n) → has_noted records place one ≡ has_noted records place other
noted_by [] place one other same = refl
noted_by (r ∷ rs) place one other same = ap (λ (b : Bool). (is_noted_at place r && b) || has_noted rs place one) (same r.serial) ∙ ap (λ (b : Bool). (is_noted_at place r && other r.serial) || b) (noted_by rs place one other same)
