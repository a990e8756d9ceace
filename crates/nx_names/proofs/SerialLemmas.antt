-- Lists of numbers that don't fall, and maps from labels to them.
use Rattle.std.proofs.Common.{◌≡◌, ◌<◌, ◌≤◌, ℕ, zero, suc, leb, ◌+◌, ◌-◌, ◌==◌, Bool, true, false, List, [], ◌∷◌, ◌++◌, length, take, drop, get_or, refl, sym, ap, ◌∙◌, subst, length-append, arith, inl, inr, Result, Ok, Err}
use Rattle.std.specs.Prelude.{◌⊎◌, ◌||◌, Some}
use Rattle.std.specs.Str.{bytes_eq}
use Rattle.std.specs.List.{slice_get}
use Rattle.std.specs.List.Sorted.{IsNonDecreasing, IsPartitionPoint, IsBinarySearchResult}
use Rattle.std.specs.Result.{MatchResult, is_ok}
use Rattle.std.proofs.lemmas.List.Sorted.{searched}
use Rattle.std.specs.Ordering.{is_eq, nat_cmp}
use Rattle.std.specs.Cmp.Lexicographic.{slice_cmp}
use Rattle.std.specs.BTreeMap.{is_at, UpdatesBy}
use Rattle.std.specs.Map.{KeepsOthers}
use Rattle.std.proofs.lemmas.Bool.{cases_lt}
use Rattle.std.proofs.lemmas.Bool.Decides.{nat_tests}
use Rattle.std.proofs.lemmas.List.{take_all, length-take, length-drop, get_or-take, get_or-drop, get_or_append_left, get_or-append_right, take-append-drop}
use Rattle.std.proofs.lemmas.List.Folds.{list_any-append, list_any_at}
use Rattle.std.proofs.lemmas.Map.Text.{is_eq-slice_cmp}
use Rattle.std.proofs.lemmas.Slice.Eq.{bytes_eq-Decides}
use Rattle.nx_names.specs.Serials.{LabelNumbers, is_in, label_number}
use Rattle.nx_names.specs.Opening.{HasThoseBefore, IsFirstNew, AddsOpen}
use Rattle.nx_names.proofs.NotedLemmas.{not_true, or_false}

-- where a number is in a list
pub record IsAt (xs : List ℕ) (x : ℕ) : Type 0 where
  pub index : ℕ
  pub low : index < length xs
  pub is : (d : ℕ) → get_or xs index d ≡ x

pub is_at_some : (xs : List ℕ) (x : ℕ) → is_in xs x ≡ true → IsAt xs x
is_at_some [] x among = absurd (cc)
is_at_some (y ∷ xs) x among = by_case (y == x) refl (λ later. is_at_some xs x later)
  where
    by_case : (b : Bool) → (y == x) ≡ b → (is_in xs x ≡ true → IsAt xs x) → IsAt (y ∷ xs) x
    by_case true same rest = record { index = 0; low = omega arith; is = λ d. grind (arith, nat_tests) }
    by_case false other rest =
        let later = rest (sym (ap (λ (b : Bool). b || is_in xs x) other) ∙ among) in
        record { index = suc later.index; low = omega (arith, later.low); is = later.is }

pub is_in_at : (xs : List ℕ) (k d : ℕ) → k < length xs → is_in xs (get_or xs k d) ≡ true
is_in_at xs k d low = list_any_at (λ y. y == get_or xs k d) xs k d low (grind (arith, nat_tests))

pub in_either : (xs ys : List ℕ) (x : ℕ) → is_in (xs ++ ys) x ≡ true → (is_in xs x ≡ true) ⊎ (is_in ys x ≡ true)
in_either xs ys x among = by_case (is_in xs x) refl
  where
    by_case : (b : Bool) → is_in xs x ≡ b → (is_in xs x ≡ true) ⊎ (is_in ys x ≡ true)
    by_case true here = inl here
    by_case false other = inr (sym (list_any-append (λ y. y == x) xs ys ∙ ap (λ (b : Bool). b || is_in ys x) other) ∙ among)

pub in_first : (xs ys : List ℕ) (x : ℕ) → is_in xs x ≡ true → is_in (xs ++ ys) x ≡ true
in_first xs ys x among = list_any-append (λ y. y == x) xs ys ∙ ap (λ (b : Bool). b || is_in ys x) among

pub in_one : (y x : ℕ) → is_in (y ∷ []) x ≡ true → y ≡ x
in_one y x among = let same : (y == x) ≡ true = sym (or_false (y == x)) ∙ among in grind (arith, nat_tests)

-- one list behind another, where its numbers are no lower
pub rises_on : (xs ys : List ℕ) → IsNonDecreasing xs → IsNonDecreasing ys → ((x y : ℕ) → is_in xs x ≡ true → is_in ys y ≡ true → x ≤ y) → IsNonDecreasing (xs ++ ys)
rises_on xs ys first second apart i j d le low =
    let many = length-append xs ys in
    elim (cases_lt j (length xs)) [
      | inl inside ↦
          let a = get_or_append_left xs ys d i (omega arith) in
          let b = get_or_append_left xs ys d j inside in
          let c = first i j d le inside in
          omega arith
      | inr outside ↦
          let b = get_or-append_right xs ys (length xs) j d refl outside in
          elim (cases_lt i (length xs)) [
            | inl before ↦
                let a = get_or_append_left xs ys d i before in
                let c = apart (get_or xs i d) (get_or ys (j - length xs) d) (is_in_at xs i d before) (is_in_at ys (j - length xs) d (omega arith)) in
                omega arith
            | inr behind ↦
                let a = get_or-append_right xs ys (length xs) i d refl behind in
                let c = second (i - length xs) (j - length xs) d (omega arith) (omega arith) in
                omega arith
          ]
    ]

-- what was added to the numbers of a list
pub adds_open : (serials around new : List ℕ) (n : ℕ) → IsFirstNew serials around n → new ≡ serials ++ drop n around → IsNonDecreasing (drop n around) → AddsOpen serials around new
adds_open serials around new n parts is rest = λ rises ascend before.
    let up : IsNonDecreasing (serials ++ drop n around) = rises_on serials (drop n around) ascend rest (λ earlier serial known added. let more = parts.newer rises ascend serial earlier added known in omega arith) in
    (subst IsNonDecreasing (sym is) up, λ serial. ap (λ (xs : List ℕ). is_in xs serial) is ∙ list_any-append (λ y. y == serial) serials (drop n around) ∙ both rises before serial)
  where
    parted : (serial : ℕ) → is_in around serial ≡ (is_in (take n around) serial || is_in (drop n around) serial)
    parted serial = ap (λ (xs : List ℕ). is_in xs serial) (sym (take-append-drop n around)) ∙ list_any-append (λ y. y == serial) (take n around) (drop n around)

    both : IsNonDecreasing around → HasThoseBefore serials around → (serial : ℕ) → (is_in serials serial || is_in (drop n around) serial) ≡ (is_in serials serial || is_in around serial)
    both rises before serial = by_case (is_in (take n around) serial) refl
      where
        by_case : (b : Bool) → is_in (take n around) serial ≡ b → (is_in serials serial || is_in (drop n around) serial) ≡ (is_in serials serial || is_in around serial)
        by_case true older =
            let among : is_in around serial ≡ true = parted serial ∙ ap (λ (b : Bool). b || is_in (drop n around) serial) older in
            let later = parts.older rises serial older in
            let known : is_in serials serial ≡ true = before serial later.0 among later.1 later.2 in
            ap (λ (b : Bool). b || is_in (drop n around) serial) known ∙ sym (ap (λ (b : Bool). b || is_in around serial) known)
        by_case false newer = ap (λ (b : Bool). is_in serials serial || b) (sym (parted serial ∙ ap (λ (b : Bool). b || is_in (drop n around) serial) newer))

-- labels one of which got a number
module _ (name : List ℕ) (old new : LabelNumbers) (number : ℕ) (updates : UpdatesBy (λ a b. slice_cmp nat_cmp a.items b.items) (λ key. slice_cmp nat_cmp name key.items) old new (Some number)) where
  is_same : (a b : List ℕ) → is_eq (slice_cmp nat_cmp a b) ≡ true → a ≡ b
  is_same a b e = (bytes_eq-Decides a b).0 (sym (is_eq-slice_cmp a b) ∙ e)

  pub number_here : label_number new name ≡ Some number
  number_here = updates.1

  pub number_apart : (asked : List ℕ) → bytes_eq asked name ≡ false → label_number new asked ≡ label_number old asked
  unfolding KeepsOthers
  number_apart asked other =
      updates.3 (is_at (λ key. slice_cmp nat_cmp asked key.items))
      (λ x y is. ap (λ (a : List ℕ). is_eq (slice_cmp nat_cmp a y.items)) (is_same asked x.items is))
      (λ key is. is_eq-slice_cmp asked key.items ∙ ap (bytes_eq asked) (sym (is_same name key.items is)) ∙ other)

slice_at : (xs : List ℕ) (k x : ℕ) → slice_get xs k ≡ Some x → (k < length xs) × ((d : ℕ) → get_or xs k d ≡ x)
slice_at [] k x e = absurd (cc)
slice_at (y ∷ xs) zero x e = (omega arith, λ d. cc)
slice_at (y ∷ xs) (suc k) x e = let r = slice_at xs k x e in (omega (arith, r.0), r.1)

-- where a list's last number parts others
pub parts_at : (serials around : List ℕ) (last n : ℕ) → slice_get serials (length serials - 1) ≡ Some last → (IsNonDecreasing around → IsPartitionPoint (λ y. leb y last ≡ true) (λ y. leb y last ≡ false) around n) → IsFirstNew serials around n
parts_at serials around last n is parted =
    let at = slice_at serials (length serials - 1) last is in
    record {
      older = λ rises serial among.
          let place = is_at_some (take n around) serial among in
          let low : place.index < length (take n around) = place.low in
          let short = length-take n around in
          let here = (parted rises).0 place.index 0 (omega arith) (omega arith) in
          let same = sym (get_or-take n around place.index 0 (omega arith)) ∙ place.is 0 in
          (last, subst (λ (x : ℕ). is_in serials x ≡ true) (at.1 0) (is_in_at serials (length serials - 1) 0 at.0), grind (arith, nat_tests));
      newer = λ rises ascend serial earlier among known.
          let place = is_at_some (drop n around) serial among in
          let low : place.index < length (drop n around) = place.low in
          let short = length-drop n around in
          let there = (parted rises).1 (n + place.index) 0 (omega arith) (omega arith) in
          let same = sym (get_or-drop n around place.index 0) ∙ place.is 0 in
          let first = is_at_some serials earlier known in
          let le = ascend first.index (length serials - 1) 0 (omega (arith, first.low)) at.0 in
          let one = first.is 0 in
          let end = at.1 0 in
          grind (arith, nat_tests);
    }

-- what is left of a list behind so many of its elements
pub part_left : (xs : List ℕ) (n : ℕ) → take (length xs - n) (drop n xs) ≡ drop n xs
part_left xs n = take_all (length xs - n) (drop n xs) (let l = length-drop n xs in omega arith)

-- what a binary search says of a list that doesn't fall
pub found_serial : (xs : List ℕ) (x : ℕ) (r : Result ℕ ℕ) → IsNonDecreasing xs → IsBinarySearchResult (λ y. nat_cmp y x) xs r → is_ok r ≡ is_in xs x
found_serial xs x r rises found = by_case r (searched xs x r found (λ i j le low. rises i j 0 le low))
  where
    by_case : (r : Result ℕ ℕ) → MatchResult r (λ i. (i < length xs) × (get_or xs i 0 ≡ x)) (λ i. (i ≤ length xs) × ((k : ℕ) → k < i → get_or xs k 0 < x) × ((k : ℕ) → i ≤ k → k < length xs → x < get_or xs k 0)) → is_ok r ≡ is_in xs x
    by_case (Ok i) there = sym (subst (λ (y : ℕ). is_in xs y ≡ true) there.1 (is_in_at xs i 0 there.0))
    by_case (Err i) parts = sym (not_true (is_in xs x) (λ among.
        let place = is_at_some xs x among in
        let same = place.is 0 in
        elim (cases_lt place.index i) [
          | inl before ↦ let less = parts.1 place.index before in absurd (omega arith)
          | inr behind ↦ let more = parts.2 place.index behind place.low in absurd (omega arith)
        ]))
