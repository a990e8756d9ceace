-- Records put in the order of their places.
use Rattle.std.proofs.Common.{◌≡◌, ◌<◌, ℕ, zero, suc, ◌+◌, ◌*◌, ◌==◌, Bool, false, List, [], ◌∷◌, length, get_or, Contains, subst, arith}
use Rattle.std.specs.List.{AllByRecursion, IsDistinct}
use Rattle.std.specs.List.Sorted.{IsPermutation, IsNonDecreasingBy}
use Rattle.std.proofs.lemmas.Bool.Decides.{nat_tests}
use Rattle.std.proofs.lemmas.List.Sorted.{All-permutation}
use Rattle.std.proofs.lemmas.Map.Keys.{IsDistinct-IsPermutation, apart_from_distinct}
use Rattle.nx_layouts.specs.Layout.{RecordPlace, ArePlacedOnce}
use Rattle.nx_layouts.proofs.PlaceLemmas.{place_is, first_among, later_among}
use Rattle.nx_names.specs.declared.noted.Noted.{Noted}
use Rattle.nx_names.specs.Serials.{noted_from, noted_key, PlacesRise}
use Rattle.nx_names.proofs.NotedLemmas.{not_true}

-- records with equal keys
abbrev pub has_same_key : Noted → Noted → Bool
has_same_key a b = noted_key a == noted_key b

-- all slots are those of pages
abbrev pub AreSmall : List RecordPlace → Type 0
AreSmall places = (k : ℕ) (d : RecordPlace) → k < length places → (get_or places k d).slot < 65536

small_rest : (p : RecordPlace) (places : List RecordPlace) → AreSmall (p ∷ places) → AreSmall places
small_rest p places small k d low = small (suc k) d (omega arith)

same_places : (p q : RecordPlace) → p.slot < 65536 → q.slot < 65536 → p.page * 65536 + p.slot ≡ q.page * 65536 + q.slot → q ≡ p
same_places p q low high same = place_is q p (omega arith) (omega arith)

apart : (p : RecordPlace) (n m : ℕ) (places : List RecordPlace) → p.slot < 65536 → AreSmall places → (Contains places p → ⊥)
    → AllByRecursion (λ r. has_same_key (record { page = p.page; serial = n; slot = p.slot }) r ≡ false) (noted_from m places)
apart p n m [] low small none = tt
apart p n m (q ∷ places) low small none = (
  not_true (p.page * 65536 + p.slot == q.page * 65536 + q.slot) (λ same.
      none (subst (λ (x : RecordPlace). Contains (q ∷ places) x) (same_places p q low (small 0 q (omega arith)) (grind (arith, nat_tests))) (first_among q places))),
  apart p n (m + 1) places low (small_rest q places small) (λ among. none (later_among q places p among)),
)

distinct : (n : ℕ) (places : List RecordPlace) → AreSmall places → ArePlacedOnce places → IsDistinct has_same_key (noted_from n places)
unfolding IsDistinct
distinct n [] small once = tt
distinct n (p ∷ places) small once = (apart p n (n + 1) places (small 0 p (omega arith)) (small_rest p places small) once.0, distinct (n + 1) places (small_rest p places small) once.1)

flips : (a b : Noted) → has_same_key a b ≡ has_same_key b a
flips a b = grind (arith, nat_tests)

-- Where no place comes twice the sorted records rise.
pub sorted_rise : (places : List RecordPlace) (sorted : List Noted) → AreSmall places → ArePlacedOnce places → IsPermutation (noted_from 0 places) sorted → IsNonDecreasingBy noted_key sorted → PlacesRise sorted
sorted_rise places sorted small once same up k d low =
    let all = IsDistinct-IsPermutation has_same_key flips (noted_from 0 places) sorted same (distinct 0 places small once) in
    let other = apart_from_distinct has_same_key sorted k (k + 1) d all (omega arith) low in
    let le = up k (k + 1) d (omega arith) low in
    grind (arith, nat_tests)

pub small_noted : (n : ℕ) (places : List RecordPlace) → AreSmall places → (k : ℕ) (d : Noted) → k < length (noted_from n places) → (get_or (noted_from n places) k d).slot < 65536
small_noted n [] small k d low = absurd (omega arith)
small_noted n (p ∷ places) small zero d low = small 0 p (omega arith)
small_noted n (p ∷ places) small (suc k) d low = small_noted (n + 1) places (small_rest p places small) k d (omega arith)

-- ... and stay those of pages
pub sorted_small : (places : List RecordPlace) (sorted : List Noted) → AreSmall places → IsPermutation (noted_from 0 places) sorted → (k : ℕ) (d : Noted) → k < length sorted → (get_or sorted k d).slot < 65536
sorted_small places sorted small same k d low = All-permutation (λ (r : Noted). r.slot < 65536) (noted_from 0 places) sorted same (small_noted 0 places small) k d low
