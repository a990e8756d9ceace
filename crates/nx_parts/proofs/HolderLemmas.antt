-- The holder of a path in a list of intervals that grows, and overlaps among them.
use Rattle.std.proofs.Common.{◌≡◌, ℕ, zero, suc, ◌+◌, Bool, true, false, if◌then◌else◌, List, [], ◌∷◌, ◌++◌, length, Option, None, Some, refl, sym, ap, ◌∙◌, arith}
use Rattle.std.specs.Prelude.{slice_get}
use Rattle.std.specs.List.{position, position_from}
use Rattle.std.specs.Option.{option_or}
use Rattle.std.proofs.lemmas.Iterator.Adapters.{position_from-zero}
use Rattle.nx_lists.proofs.CaseLemmas.{none_head}

pushed : (b : Bool) (i : ℕ) (o p q : Option ℕ) → o ≡ option_or p q → (if b then Some i else o) ≡ option_or (if b then Some i else p) q
pushed true i o p q e = refl
pushed false i o p q e = e

from-push : {X : Type 0} (p : X → Bool) (i : ℕ) (xs : List X) (x : X) → position_from p i (xs ++ x ∷ []) ≡ option_or (position_from p i xs) (if p x then Some (i + length xs) else None)
from-push {X} p i [] x = ap (λ (n : ℕ). if p x then Some n else None) (let e : i ≡ i + 0 = omega arith in e)
from-push {X} p i (y ∷ ys) x =
    pushed (p y) i (position_from p (i + 1) (ys ++ x ∷ [])) (position_from p (i + 1) ys) (if p x then Some (i + suc (length ys)) else None)
    (from-push p (i + 1) ys x ∙ ap (λ (n : ℕ). option_or (position_from p (i + 1) ys) (if p x then Some n else None)) (let e : i + 1 + length ys ≡ i + suc (length ys) = omega arith in e))

-- the first place where the test passes, in a list with one element more
pub position-push : {X : Type 0} (p : X → Bool) (xs : List X) (x : X) → position p (xs ++ x ∷ []) ≡ option_or (position p xs) (if p x then Some (length xs) else None)
position-push {X} p xs x =
    position_from-zero p (xs ++ x ∷ [])
    ∙ from-push p 0 xs x
    ∙ ap (λ (n : ℕ). option_or (position_from p 0 xs) (if p x then Some n else None)) (let e : 0 + length xs ≡ length xs = omega arith in e)
    ∙ ap (λ (o : Option ℕ). option_or o (if p x then Some (length xs) else None)) (sym (position_from-zero p xs))

from-none : {X : Type 0} (p : X → Bool) (i : ℕ) (xs : List X) (k : ℕ) (y : X) → position_from p i xs ≡ None → slice_get xs k ≡ Some y → p y ≡ false
from-none {X} p i [] k y none e = absurd (cc)
from-none {X} p i (x ∷ xs) zero y none e = let same : x ≡ y = cc in ap p (sym same) ∙ (none_head (p x) i (position_from p (i + 1) xs) none).0
from-none {X} p i (x ∷ xs) (suc k) y none e = from-none p (i + 1) xs k y (none_head (p x) i (position_from p (i + 1) xs) none).1 e

-- where there is no such place, the test fails everywhere
pub position-None : {X : Type 0} (p : X → Bool) (xs : List X) (k : ℕ) (y : X) → position p xs ≡ None → slice_get xs k ≡ Some y → p y ≡ false
position-None {X} p xs k y none e = from-none p 0 xs k y (sym (position_from-zero p xs) ∙ none) e
