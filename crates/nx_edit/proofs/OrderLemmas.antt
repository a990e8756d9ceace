-- Lists with the same elements, in whatever order: each function sums alike over both. No element comes twice in one, where none does in the other.
use Rattle.std.proofs.Common.{◌≡◌, ℕ, ◌≤◌, List, [], ◌∷◌, ◌++◌, inl, inr, refl, sym, ap, ap₂, ◌∙◌, subst, arith, IsPermutation}
use Rattle.std.specs.Prelude.{Contains, ◌⊎◌}
use Rattle.std.specs.List.{sum_by}
use Rattle.std.proofs.lemmas.Bool.Decides.{eqb_tells}
use Rattle.std.proofs.lemmas.List.Elements.{Contains-append_cases}
use Rattle.std.proofs.lemmas.List.Sums.{sum_by-append, sum_by-cons}
use Rattle.std.proofs.lemmas.List.Sorted.{IsPermutation-refl, IsPermutation-sym, IsPermutation-trans, IsPermutation-cons, IsPermutation-middle, sum_by-IsPermutation}
use Rattle.nx_piece.specs.declared.piece.Far.{Far}
use Rattle.nx_layouts.specs.Layout.{RecordPlace, AreOnce, ArePlacedOnce}
use Rattle.nx_layouts.proofs.PlaceLemmas.{same_place, no_place, one_place, first_among, later_among}

-- 1 on the left
abbrev left_one : {A B : Type 0} → A ⊎ B → ℕ
left_one (inl a) = 1
left_one (inr b) = 0

is_one : {A : Type 0} (s : A ⊎ (A → ⊥)) → A → left_one s ≡ 1
is_one (inl a) x = refl
is_one (inr not) x = absurd (not x)

is_none : {A : Type 0} (s : A ⊎ (A → ⊥)) → (A → ⊥) → left_one s ≡ 0
is_none (inl a) apart = absurd (apart a)
is_none (inr not) apart = refl

-- over elements that can be told apart
module _ {T : Type 0} (same : (x y : T) → (x ≡ y) ⊎ (x ≡ y → ⊥)) where
  -- 1, where the other is this one
  abbrev hits : T → T → ℕ
  hits x other = left_one (same x other)

  -- how often one is among others
  abbrev pub how_often : T → List T → ℕ
  how_often x others = sum_by (hits x) others

  pub some_times : (others : List T) (x : T) → Contains others x → 1 ≤ how_often x others
  some_times [] x among = absurd (no_place x among)
  some_times (y ∷ others) x among =
      let sum = sum_by-cons (hits x) y others in
      elim (Contains-append_cases (y ∷ []) others x among) [
        | inl here ↦ let one = is_one (same x y) (one_place y x here) in omega (arith, sum, one)
        | inr later ↦ let more = some_times others x later in omega (arith, sum, more)
      ]

  no_times : (others : List T) (x : T) → (Contains others x → ⊥) → how_often x others ≡ 0
  no_times [] x not = refl
  no_times (y ∷ others) x not =
      let sum = sum_by-cons (hits x) y others in
      let none = is_none (same x y) (λ is. not (subst (λ z. Contains (y ∷ others) z) (sym is) (first_among y others))) in
      let rest = no_times others x (λ among. not (later_among y others x among)) in
      omega (arith, sum, none, rest)

  once_at_most : (others : List T) → AreOnce others → (x : T) → how_often x others ≤ 1
  once_at_most [] once x = omega arith
  once_at_most (y ∷ others) once x =
      let sum = sum_by-cons (hits x) y others in
      elim (same x y) [
        | inl is ↦
            let one = is_one (same x y) is in
            let none = no_times others x (λ among. once.0 (subst (λ z. Contains others z) is among)) in
            omega (arith, sum, one, none)
        | inr apart ↦
            let none = is_none (same x y) apart in
            let most = once_at_most others once.1 x in
            omega (arith, sum, none, most)
      ]

  listed_once : (others : List T) → ((x : T) → how_often x others ≤ 1) → AreOnce others
  listed_once [] most = tt
  listed_once (y ∷ others) most = (
    λ among.
        let sum = sum_by-cons (hits y) y others in
        let one = is_one (same y y) refl in
        let more = some_times others y among in
        let few = most y in
        omega (arith, sum, one, more, few),
    listed_once others (λ x. let sum = sum_by-cons (hits x) y others in let few = most x in omega (arith, sum, few)),
  )

  pub once_in_order : (xs ys : List T) → IsPermutation xs ys → AreOnce ys → AreOnce xs
  once_in_order xs ys alike once = listed_once xs (λ x. let as_often = sum_by-IsPermutation (hits x) xs ys alike in let few = once_at_most ys once x in omega (arith, as_often, few))

  -- one that comes some times has others around it
  around_it : (ys : List T) (x : T) → 1 ≤ how_often x ys → (before : List T) × (behind : List T) × (ys ≡ before ++ (x ∷ behind))
  around_it [] x some = absurd (omega (arith, some))
  around_it (y ∷ ys) x some =
      elim (same x y) [
        | inl is ↦ ([], ys, ap (λ z. z ∷ ys) (sym is))
        | inr apart ↦
            let sum = sum_by-cons (hits x) y ys in
            let none = is_none (same x y) apart in
            let rest = around_it ys x (omega (arith, sum, none, some)) in
            (y ∷ rest.0, rest.1, ap (λ zs. y ∷ zs) rest.2)
      ]

  -- lists over which each function sums alike have the same elements
  pub by_sums : (xs ys : List T) → ((f : T → ℕ) → sum_by f xs ≡ sum_by f ys) → IsPermutation xs ys
  by_sums [] [] sums = IsPermutation-refl []
  by_sums [] (y ∷ ys) sums = absurd (let all = sums (λ z. 1) in let sum = sum_by-cons (λ (z : T). 1) y ys in omega (arith, all, sum))
  by_sums (x ∷ xs) ys sums =
      let own = is_one (same x x) refl in
      let sum = sum_by-cons (hits x) x xs in
      let all = sums (hits x) in
      let found = around_it ys x (omega (arith, own, sum, all)) in
      let rest : IsPermutation xs (found.0 ++ found.1) =
      by_sums xs (found.0 ++ found.1) (λ f.
      let whole = sums f ∙ ap (λ zs. sum_by f zs) found.2 in
      let first = sum_by-cons f x xs in
      let split = sum_by-append f found.0 (x ∷ found.1) in
      let second = sum_by-cons f x found.1 in
      let joined = sum_by-append f found.0 found.1 in
      omega (arith, whole, first, split, second, joined)) in
      subst (λ zs. IsPermutation (x ∷ xs) zs) (sym found.2)
      (IsPermutation-trans (x ∷ xs) (x ∷ (found.0 ++ found.1)) (found.0 ++ (x ∷ found.1)) (IsPermutation-cons x xs (found.0 ++ found.1) rest)
      (IsPermutation-sym (found.0 ++ (x ∷ found.1)) (x ∷ (found.0 ++ found.1)) (IsPermutation-middle found.0 x found.1)))

-- Numbers and far contents can be told apart:

pub same_number : (x y : ℕ) → (x ≡ y) ⊎ (x ≡ y → ⊥)
same_number x y = elim (eqb_tells x y) [ inl e ↦ inl e.1 | inr e ↦ inr e.1 ]

far_is : (a b : Far) → a.first ≡ b.first → a.length ≡ b.length → a ≡ b
far_is a b e f = ap₂ (λ (n m : ℕ). let z : Far = record { first = n; length = m } in z) e f

pub same_far : (x y : Far) → (x ≡ y) ⊎ (x ≡ y → ⊥)
same_far x y =
    elim (same_number x.first y.first) [
      | inl e ↦ elim (same_number x.length y.length) [ inl f ↦ inl (far_is x y e f) | inr f ↦ inr (λ h. f (ap (λ (z : Far). z.length) h)) ]
      | inr e ↦ inr (λ h. e (ap (λ (z : Far). z.first) h))
    ]

pub lists_by_sums : (xs ys : List ℕ) → ((f : ℕ → ℕ) → sum_by f xs ≡ sum_by f ys) → IsPermutation xs ys
lists_by_sums = by_sums same_number

pub fars_by_sums : (xs ys : List Far) → ((f : Far → ℕ) → sum_by f xs ≡ sum_by f ys) → IsPermutation xs ys
fars_by_sums = by_sums same_far

pub once_permuted : (places others : List RecordPlace) → IsPermutation places others → ArePlacedOnce others → ArePlacedOnce places
once_permuted = once_in_order same_place
