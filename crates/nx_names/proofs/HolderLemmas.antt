-- The records that have one label, by their numbers.
use Rattle.std.proofs.Common.{◌≡◌, ◌<◌, ℕ, zero, suc, ◌+◌, ◌*◌, ◌==◌, Bool, true, false, List, [], ◌∷◌, ◌++◌, length, take, get_or, refl, sym, ap, ◌∙◌, arith, Result, Ok, Err}
use Rattle.std.specs.Prelude.{◌&&◌, ◌||◌}
use Rattle.std.specs.List.Sorted.{IsPermutation, IsNonDecreasingBy, IsBinarySearchResult, IsSearchInRange}
use Rattle.std.specs.Result.{is_ok}
use Rattle.std.specs.Ordering.{nat_cmp}
use Rattle.std.proofs.lemmas.Bool.Decides.{nat_tests}
use Rattle.std.proofs.lemmas.List.Sorted.{All-permutation}
use Rattle.nx_layouts.specs.Layout.{RecordPlace}
use Rattle.nx_names.specs.declared.noted.Noted.{Noted}
use Rattle.nx_names.specs.Serials.{AreNumbered, HaveSmallSlots, has_noted, is_in, is_noted_at, noted_from, noted_key, those_noted}
use Rattle.nx_names.proofs.NotedLemmas.{not_true, noted_by, found_one, missing_noted}

abbrev pub nobody : Noted
nobody = record { page = 0; serial = 0; slot = 0 }

pub are_numbered : (n : ℕ) (places : List RecordPlace) → AreNumbered n (noted_from n places)
are_numbered n [] k d low = absurd (omega arith)
are_numbered n (p ∷ places) zero d low = let e : n ≡ n + 0 = omega arith in e
are_numbered n (p ∷ places) (suc k) d low = are_numbered (n + 1) places k d (omega arith) ∙ (let e : n + 1 + k ≡ n + suc k = omega arith in e)

those_behind : (n : ℕ) (r : Noted) (rs : List Noted) → AreNumbered n (r ∷ rs) → AreNumbered (n + 1) rs
those_behind n r rs are k d low = are (suc k) d (omega arith) ∙ (let e : n + suc k ≡ n + 1 + k = omega arith in e)

-- no number passes the test
none_passes : (records : List Noted) (place : RecordPlace) (test : ℕ → Bool) → ((n : ℕ) → test n ≡ false) → has_noted records place test ≡ false
none_passes [] place test none = refl
none_passes (r ∷ rs) place test none = ap (λ (b : Bool). (is_noted_at place r && b) || has_noted rs place test) (none r.serial) ∙ and_no (is_noted_at place r) ∙ none_passes rs place test none
  where
    and_no : (b : Bool) {c : Bool} → ((b && false) || c) ≡ c
    and_no true = refl
    and_no false = refl

-- a number below those of all records
none_so_low : (n m : ℕ) (records : List Noted) (place : RecordPlace) → AreNumbered m records → n < m → has_noted records place (λ x. n == x) ≡ false
none_so_low n m [] place are low = refl
none_so_low n m (r ∷ rs) place are low =
    let other : (n == r.serial) ≡ false = not_true (n == r.serial) (λ same. let e : n ≡ r.serial = grind (arith, nat_tests) in let f = are 0 nobody (omega arith) in absurd (omega arith)) in
    ap (λ (b : Bool). (is_noted_at place r && b) || has_noted rs place (λ x. n == x)) other ∙ and_no (is_noted_at place r) ∙ none_so_low n (m + 1) rs place (those_behind m r rs are) (omega arith)
  where
    and_no : (b : Bool) {c : Bool} → ((b && false) || c) ≡ c
    and_no true = refl
    and_no false = refl

-- the record of a number
one_numbered : (m i : ℕ) (records : List Noted) (place : RecordPlace) → AreNumbered m records → i < length records → has_noted records place (λ x. (m + i) == x) ≡ is_noted_at place (get_or records i nobody)
one_numbered m i [] place are low = absurd (omega arith)
one_numbered m zero (r ∷ rs) place are low =
    let same : ((m + 0) == r.serial) ≡ true = let f = are 0 nobody (omega arith) in grind (arith, nat_tests) in
    ap (λ (b : Bool). (is_noted_at place r && b) || has_noted rs place (λ x. (m + 0) == x)) same ∙ and_yes (is_noted_at place r) (has_noted rs place (λ x. (m + 0) == x)) (none_so_low (m + 0) (m + 1) rs place (those_behind m r rs are) (omega arith))
  where
    and_yes : (b c : Bool) → c ≡ false → ((b && true) || c) ≡ b
    and_yes true c isnt = refl
    and_yes false c isnt = isnt
one_numbered m (suc i) (r ∷ rs) place are low =
    let other : ((m + suc i) == r.serial) ≡ false = not_true ((m + suc i) == r.serial) (λ same. let e : m + suc i ≡ r.serial = grind (arith, nat_tests) in let f = are 0 nobody (omega arith) in absurd (omega arith)) in
    ap (λ (b : Bool). (is_noted_at place r && b) || has_noted rs place (λ x. (m + suc i) == x)) other ∙ and_no (is_noted_at place r)
    ∙ noted_by rs place (λ x. (m + suc i) == x) (λ x. (m + 1 + i) == x) (λ x. ap (λ (n : ℕ). n == x) (let e : m + suc i ≡ m + 1 + i = omega arith in e)) ∙ one_numbered (m + 1) i rs place (those_behind m r rs are) (omega arith)
  where
    and_no : (b : Bool) {c : Bool} → ((b && false) || c) ≡ c
    and_no true = refl
    and_no false = refl

-- a test or another
either_noted : (records : List Noted) (place : RecordPlace) (one other : ℕ → Bool) → has_noted records place (λ n. one n || other n) ≡ (has_noted records place one || has_noted records place other)
either_noted [] place one other = refl
either_noted (r ∷ rs) place one other =
    ap (λ (b : Bool). (is_noted_at place r && (one r.serial || other r.serial)) || b) (either_noted rs place one other) ∙ shuffle (is_noted_at place r) (one r.serial) (other r.serial) (has_noted rs place one) (has_noted rs place other)
  where
    shuffle : (a x y p q : Bool) → ((a && (x || y)) || (p || q)) ≡ (((a && x) || p) || ((a && y) || q))
    shuffle false x y p q = refl
    shuffle true true y p q = refl
    shuffle true false true true q = refl
    shuffle true false true false q = refl
    shuffle true false false p q = refl

-- of the records of some numbers one stands at a place where a record does that has one of them
pub those_stand : (records : List Noted) (serials : List ℕ) (place : RecordPlace) → AreNumbered 0 records → ((serial : ℕ) → is_in serials serial ≡ true → serial < length records)
    → has_noted (those_noted records serials) place (λ n. true) ≡ has_noted records place (is_in serials)
those_stand records [] place are known = sym (none_passes records place (is_in []) (λ n. refl))
those_stand records (s ∷ serials) place are known =
    let low : s < length records = known s (ap (λ (b : Bool). b || is_in serials s) (let e : (s == s) ≡ true = grind (arith, nat_tests) in e)) in
    let rest = those_stand records serials place are (λ serial among. known serial (ap (λ (b : Bool). (s == serial) || b) among ∙ or_yes (s == serial))) in
    let one = sym (noted_by records place (λ x. (0 + s) == x) (λ x. s == x) (λ x. ap (λ (n : ℕ). n == x) (let e : 0 + s ≡ s = omega arith in e))) ∙ one_numbered 0 s records place are low in
    ap (λ (b : Bool). b || has_noted (those_noted records serials) place (λ n. true)) (and_true (is_noted_at place (get_or records s nobody)) ∙ sym one)
    ∙ ap (λ (b : Bool). has_noted records place (λ x. s == x) || b) rest
    ∙ sym (either_noted records place (λ x. s == x) (is_in serials))
  where
    or_yes : (b : Bool) → (b || true) ≡ true
    or_yes true = refl
    or_yes false = refl

    and_true : (b : Bool) → (b && true) ≡ b
    and_true true = refl
    and_true false = refl

pub those_small : (records : List Noted) (serials : List ℕ) → HaveSmallSlots records → ((serial : ℕ) → is_in serials serial ≡ true → serial < length records) → HaveSmallSlots (those_noted records serials)
those_small records [] small known k d low = absurd (omega arith)
those_small records (s ∷ serials) small known zero d low = small s nobody (known s (ap (λ (b : Bool). b || is_in serials s) (let e : (s == s) ≡ true = grind (arith, nat_tests) in e)))
those_small records (s ∷ serials) small known (suc k) d low = those_small records serials small (λ serial among. known serial (ap (λ (b : Bool). (s == serial) || b) among ∙ or_yes (s == serial))) k d (omega arith)
  where
    or_yes : (b : Bool) → (b || true) ≡ true
    or_yes true = refl
    or_yes false = refl

-- one number more
pub those_more : (records : List Noted) (serials : List ℕ) (i : ℕ) → i < length serials
    → those_noted records (take (suc i) serials) ≡ those_noted records (take i serials) ++ get_or records (get_or serials i 0) nobody ∷ []
those_more records [] i low = absurd (omega arith)
those_more records (s ∷ serials) zero low = refl
those_more records (s ∷ serials) (suc i) low = ap (λ rs. get_or records s nobody ∷ rs) (those_more records serials i (omega arith))

pub small_permuted : (records sorted : List Noted) → HaveSmallSlots records → IsPermutation records sorted → HaveSmallSlots sorted
small_permuted records sorted small same k d low = All-permutation (λ (r : Noted). r.slot < 65536) records sorted same small k d low

-- a binary search by keys says whether a record stands at the place
pub stands_where : (records : List Noted) → HaveSmallSlots records → IsNonDecreasingBy noted_key records → (place : RecordPlace) → place.slot < 65536 → (r : Result ℕ ℕ)
    → IsBinarySearchResult (λ y. nat_cmp (noted_key y) (place.page * 65536 + place.slot)) records r → IsSearchInRange r (length records) → is_ok r ≡ has_noted records place (λ n. true)
stands_where records small up place low (Ok at) found within = sym (found_one records small up place low at nobody within (found nobody))
stands_where records small up place low (Err at) parted within = sym (missing_noted records small up place low at parted (λ n. true))
