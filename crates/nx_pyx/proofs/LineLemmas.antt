-- A line without the CR at its end, and a line that is cut at its first space.
use Rattle.std.proofs.Common.{◌≡◌, ℕ, ◌+◌, ◌≤◌, Bool, true, false, ◌==◌, nat_lt, cond, List, [], ◌∷◌, ◌++◌, take, drop, None, Some, refl, sym, ap, arith, take_all}
use Rattle.std.specs.List.{position, position_or_len, before_first, after_first}
use Rattle.std.proofs.lemmas.Bool.Decides.{nat_tests}
use Rattle.std.proofs.lemmas.List.{drop_all}
use Rattle.nx_pyx.specs.Lines.{without_cr}

pub without_cr-cr : (xs : List ℕ) → without_cr (xs ++ 13 ∷ []) ≡ xs
without_cr-cr [] = refl
without_cr-cr (x ∷ []) = refl
without_cr-cr (x ∷ y ∷ xs) = ap (λ r. x ∷ r) (without_cr-cr (y ∷ xs))

pub without_cr-other : (xs : List ℕ) (b : ℕ) → (b == 13) ≡ false → without_cr (xs ++ b ∷ []) ≡ xs ++ b ∷ []
without_cr-other [] b h = ap (λ t. cond t [] (b ∷ [])) h
without_cr-other (x ∷ []) b h = ap (λ t. x ∷ cond t [] (b ∷ [])) h
without_cr-other (x ∷ y ∷ xs) b h = ap (λ r. x ∷ r) (without_cr-other (y ∷ xs) b h)

some_place : (b : Bool) (n i : ℕ) → cond b (Some n) None ≡ Some i → n ≡ i
some_place true n i h = cc
some_place false n i h = cc

no_place : (n m : ℕ) → cond (nat_lt n m) (Some n) None ≡ None → m ≤ n
no_place n m h = grind (arith, nat_tests)

-- a list cut where the first element that passes stands
pub before_first-Some : (p : ℕ → Bool) (xs : List ℕ) (i : ℕ) → position p xs ≡ Some i → take i xs ≡ before_first p xs
before_first-Some p xs i h = ap (λ n. take n xs) (sym (some_place _ _ i h))

pub after_first-Some : (p : ℕ → Bool) (xs : List ℕ) (i : ℕ) → position p xs ≡ Some i → drop (i + 1) xs ≡ after_first p xs
after_first-Some p xs i h = ap (λ n. drop (n + 1) xs) (sym (some_place _ _ i h))

-- where none passes
pub before_first-None : (p : ℕ → Bool) (xs : List ℕ) → position p xs ≡ None → xs ≡ before_first p xs
before_first-None p xs h = sym (take_all (position_or_len p xs) xs (no_place _ _ h))

pub after_first-None : (p : ℕ → Bool) (xs : List ℕ) → position p xs ≡ None → [] ≡ after_first p xs
after_first-None p xs h = sym (drop_all (position_or_len p xs + 1) xs (omega (arith, no_place _ _ h)))
