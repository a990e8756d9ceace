-- Intervals in document order stand in one order alone.
use Rattle.std.proofs.Common.{◌≡◌, ◌⊎◌, ℕ, zero, suc, List, [], ◌∷◌, Contains, IsPermutation, AllPairs, inl, inr, refl, sym, ap₂, ◌∙◌, subst, arith}
use Rattle.std.proofs.lemmas.List.Sorted.{Contains-permutation, IsPermutation-sym}
use Rattle.nx_parts.specs.declared.interval.Interval.{Interval}
use Rattle.nx_parts.specs.Order.{ComesBefore, first_member, AreInOrder}
use Rattle.nx_cuts.specs.Cut.{CutTree, AreParts, parts_of}
use Rattle.nx_cuts.proofs.OrderLemmas.{drawn_in_order}
use Rattle.nx_layouts.specs.Layout.{RecordPlace, Layout, without_places, AreLaidParts, whole}

module _ {X : Type 0} where
  first_in : (x : X) (xs : List X) → Contains (x ∷ xs) x
  first_in x xs = (zero, omega arith, refl)

  later_in : (x : X) (xs : List X) (z : X) → Contains xs z → Contains (x ∷ xs) z
  later_in x xs z (k, low, is) = (suc k, omega (arith, low), is)

  none_in : (z : X) → Contains [] z → ⊥
  none_in z (k, low, is) = absurd (omega (arith, low))

  which : (x : X) (xs : List X) (z : X) → Contains (x ∷ xs) z → (x ≡ z) ⊎ Contains xs z
  which x xs z (zero, low, is) = inl is
  which x xs z (suc k, low, is) = inr (k, omega (arith, low), is)

  before_later : (P : X → X → Type 0) (x : X) (xs : List X) (z : X) → AllPairs P (x ∷ xs) → Contains xs z → P x z
  before_later P x xs z pairs (k, low, is) = subst (P x) is (pairs zero (suc k) z (omega arith) (omega (arith, low)))

  pairs_behind : (P : X → X → Type 0) (x : X) (xs : List X) → AllPairs P (x ∷ xs) → AllPairs P xs
  pairs_behind P x xs pairs = λ i j d less low. pairs (suc i) (suc j) d (omega (arith, less)) (omega (arith, low))

-- two lists in a strict order that have the same elements are one
module _ {X : Type 0} (P : X → X → Type 0) (apart : (a b : X) → P a b → P b a → ⊥) where
  behind_still : (x y : X) (xs ys : List X) → x ≡ y → AllPairs P (x ∷ xs) → ((z : X) → Contains (x ∷ xs) z → Contains (y ∷ ys) z) → (z : X) → Contains xs z → Contains ys z
  behind_still x y xs ys same pairs within z among =
      elim (which y ys z (within z (later_in x xs z among))) [
        | inl here ↦ let itself : P x x = subst (P x) (sym here ∙ sym same) (before_later P x xs z pairs among) in absurd (apart x x itself itself)
        | inr later ↦ later
      ]

  one_first : (x y : X) (xs ys : List X) → AllPairs P (x ∷ xs) → AllPairs P (y ∷ ys) → Contains (y ∷ ys) x → Contains (x ∷ xs) y → x ≡ y
  one_first x y xs ys one other there here =
      elim (which y ys x there) [
        | inl same ↦ sym same
        | inr later ↦ elim (which x xs y here) [
          | inl same ↦ same
          | inr also ↦ absurd (apart x y (before_later P x xs y one also) (before_later P y ys x other later))
        ]
      ]

  one_order : (xs ys : List X) → AllPairs P xs → AllPairs P ys → ((z : X) → Contains xs z → Contains ys z) → ((z : X) → Contains ys z → Contains xs z) → xs ≡ ys
  one_order [] [] one other into back = refl
  one_order [] (y ∷ ys) one other into back = absurd (none_in y (back y (first_in y ys)))
  one_order (x ∷ xs) [] one other into back = absurd (none_in x (into x (first_in x xs)))
  one_order (x ∷ xs) (y ∷ ys) one other into back =
      let same : x ≡ y = one_first x y xs ys one other (into x (first_in x xs)) (back y (first_in y ys)) in
      ap₂ (λ a rest. a ∷ rest) same
      (one_order xs ys (pairs_behind P x xs one) (pairs_behind P y ys other) (behind_still x y xs ys same one into) (behind_still y x ys xs (sym same) other back))

apart_paths : (a b : List ℕ) → ComesBefore a b → ComesBefore b a → ⊥
apart_paths [] [] one other = one
apart_paths [] (y ∷ b) one other = other
apart_paths (x ∷ a) [] one other = one
apart_paths (x ∷ a) (y ∷ b) one other =
    elim one [
      | inl less ↦ elim other [ inl more ↦ absurd (omega (arith, less, more)) | inr also ↦ absurd (omega (arith, less, also.0)) ]
      | inr same ↦ elim other [ inl more ↦ absurd (omega (arith, same.0, more)) | inr also ↦ apart_paths a b same.1 also.1 ]
    ]

in_one_order : (parts others : List Interval) → AreInOrder parts → AreInOrder others → IsPermutation parts others → parts ≡ others
in_one_order parts others one other same =
    one_order (λ a b. ComesBefore (first_member a) (first_member b)) (λ a b. apart_paths (first_member a) (first_member b)) parts others one other
    (λ z among. Contains-permutation parts others z same among) (λ z among. Contains-permutation others parts z (IsPermutation-sym parts others same) among)

-- The intervals of a document that is laid out are the parts in document order of which they are a permutation.
pub parts_are_planned : (k : ℕ) (root : RecordPlace) (document : CutTree) (layout : Layout) (parts : List Interval) → without_places layout ≡ document.below
    → AreLaidParts k (whole root document.node layout) → AreInOrder parts → IsPermutation (parts_of document) parts → parts_of document ≡ parts
parts_are_planned k root document layout parts same light in_order permuted = in_one_order (parts_of document) parts (drawn_in_order k document (subst (AreParts k) same light.3.0)) in_order permuted
