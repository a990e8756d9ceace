-- The byte of a log that is renewed.
use Rattle.std.proofs.Common.{◌≡◌, ℕ, List, [], ◌∷◌, length, min, ◌^◌, refl, sym, ap, ◌∙◌, arith}
use Rattle.std.specs.Prelude.{Option, Some, None, slice_get, ◌-◌}
use Rattle.std.specs.List.{last_or}
use Rattle.nx_wal.specs.Renewing.{first_byte}
use Rattle.nx_wal.proofs.ReadingLemmas.{some_same}

nth_last : {A : Type 0} (x : A) (xs : List A) → slice_get (x ∷ xs) (length xs) ≡ last_or (Some x) xs
nth_last x [] = refl
nth_last x (y ∷ ys) = nth_last y ys

-- the last item of a list that has one
pub last_is : (o : Option ℕ) (xs : List ℕ) (x : ℕ) → Some x ≡ slice_get xs (length xs - 1) → last_or o xs ≡ Some x
last_is o [] x is = absurd (let lost : Some x ≡ None = is in cc)
last_is o (y ∷ ys) x is =
    let at_end : length (y ∷ ys) - 1 ≡ length ys = omega arith in
    sym (nth_last y ys) ∙ sym (is ∙ ap (λ (n : ℕ). slice_get (y ∷ ys) n) at_end)

-- an empty log has no first byte, and another one's stands at its beginning
pub first_of_none : (log : List ℕ) (at : ℕ) → min (2 ^ 63) (length log) ≡ 0 → first_byte log ≡ Some at → ⊥
first_of_none [] at none is = let lost : None ≡ Some at = is in absurd (cc)
first_of_none (b ∷ bs) at none is = absurd (omega (arith, none))

pub first_at : (log : List ℕ) (at : ℕ) → first_byte log ≡ Some at → at ≡ 0
first_at [] at is = let lost : None ≡ Some at = is in absurd (cc)
first_at (b ∷ bs) at is = sym (some_same is)
