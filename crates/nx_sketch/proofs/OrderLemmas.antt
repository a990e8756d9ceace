-- The separator's plan is one list.
use Rattle.std.proofs.Common.{◌≡◌, ℕ, suc, ◌<◌, ◌≤◌, List, [], ◌∷◌, refl, sym, subst, ◌∙◌, arith, inl, inr}
use Rattle.std.specs.Prelude.{Contains}
use Rattle.std.specs.List.{All, AllPairs}
use Rattle.std.proofs.lemmas.List.Elements.{All-contains}
use Rattle.nx_lists.proofs.ListLemmas.{contains_here, contains_there, contains_parts}
use Rattle.nx_parts.specs.declared.interval.Interval.{Interval}
use Rattle.nx_parts.specs.Order.{AreInOrder, ComesBefore, first_member}
use Rattle.nx_sketch.specs.Sketch.{Placed}
use Rattle.nx_sketch.specs.Separator.{IsSeparatorPlan}

-- the order of paths
pub comes_itself : (p : List ℕ) → ComesBefore p p → ⊥
comes_itself [] h = absurd h
comes_itself (x ∷ p) (inl less) = absurd (omega arith)
comes_itself (x ∷ p) (inr same) = comes_itself p same.1

pub comes_back : (p q : List ℕ) → ComesBefore p q → ComesBefore q p → ⊥
comes_back [] [] h g = absurd h
comes_back [] (y ∷ q) h g = absurd g
comes_back (x ∷ p) [] h g = absurd h
comes_back (x ∷ p) (y ∷ q) (inl less) (inl more) = absurd (omega arith)
comes_back (x ∷ p) (y ∷ q) (inl less) (inr same) = absurd (let e = same.0 in omega arith)
comes_back (x ∷ p) (y ∷ q) (inr same) (inl more) = absurd (let e = same.0 in omega arith)
comes_back (x ∷ p) (y ∷ q) (inr same) (inr also) = comes_back p q same.1 also.1

pairs_head : {X : Type 0} (R : X → X → Type 0) (x : X) (xs : List X) → AllPairs R (x ∷ xs) → All (R x) xs
pairs_head R x xs a = λ k d h. a 0 (suc k) d (omega arith) (omega arith)

pairs_tail : {X : Type 0} (R : X → X → Type 0) (x : X) (xs : List X) → AllPairs R (x ∷ xs) → AllPairs R xs
pairs_tail R x xs a = λ i j d low high. a (suc i) (suc j) d (omega arith) (omega arith)

-- two lists in document order with the same intervals are one list
nothing : {A : Type 0} (x : A) → Contains [] x → ⊥
nothing x c = let h = c.1 in absurd (omega arith)

abbrev Comes : Interval → Interval → Type 0
Comes a b = ComesBefore (first_member a) (first_member b)

comes_later : (x y : Interval) (xs : List Interval) → AreInOrder (x ∷ xs) → Contains xs y → Comes x y
comes_later x y xs o c = All-contains (Comes x) xs y (pairs_head Comes x xs o) c

same_head : (x y : Interval) (xs ys : List Interval) → AreInOrder (x ∷ xs) → AreInOrder (y ∷ ys) → Contains (y ∷ ys) x → Contains (x ∷ xs) y → x ≡ y
same_head x y xs ys ox oy cx cy = elim (contains_parts y ys x cx) [
  | inl same ↦ sym same
  | inr later ↦ elim (contains_parts x xs y cy) [
    | inl same ↦ same
    | inr also ↦ absurd (comes_back (first_member y) (first_member x) (comes_later y x ys oy later) (comes_later x y xs ox also))
  ]
]

into_tail : (x y z : Interval) (xs ys : List Interval) → AreInOrder (x ∷ xs) → x ≡ y → Contains xs z → Contains (y ∷ ys) z → Contains ys z
into_tail x y z xs ys o same c all = elim (contains_parts y ys z all) [
  | inl here ↦ absurd (comes_itself (first_member z) (subst (λ (w : Interval). Comes w z) (same ∙ here) (comes_later x z xs o c)))
  | inr later ↦ later
]

same_list : (xs ys : List Interval) → AreInOrder xs → AreInOrder ys → ((z : Interval) → Contains xs z → Contains ys z) → ((z : Interval) → Contains ys z → Contains xs z) → xs ≡ ys
same_list [] [] ox oy f g = refl
same_list [] (y ∷ ys) ox oy f g = absurd (nothing y (g y (contains_here y ys y refl)))
same_list (x ∷ xs) [] ox oy f g = absurd (nothing x (f x (contains_here x xs x refl)))
same_list (x ∷ xs) (y ∷ ys) ox oy f g =
    let same = same_head x y xs ys ox oy (f x (contains_here x xs x refl)) (g y (contains_here y ys y refl)) in
    let rest = same_list xs ys (pairs_tail Comes x xs ox) (pairs_tail Comes y ys oy)
    (λ z c. into_tail x y z xs ys ox same c (f z (contains_there x xs z c)))
    (λ z c. into_tail y x z ys xs oy (sym same) c (g z (contains_there y ys z c))) in
    λ i. same i ∷ rest i

pub one_plan : (nodes : List Placed) (t tolerance : ℕ) (xs ys : List Interval) → IsSeparatorPlan nodes t tolerance xs → IsSeparatorPlan nodes t tolerance ys → xs ≡ ys
one_plan nodes t tolerance xs ys p q = same_list xs ys p.order q.order (λ z c. (q.runs z).1 ((p.runs z).0 c)) (λ z c. (p.runs z).1 ((q.runs z).0 c))
