-- What tests over lists decide.
use Rattle.std.proofs.Common.{◌≡◌, ℕ, zero, suc, ◌+◌, ◌<◌, ◌≤◌, leb, Bool, true, false, ◌&&◌, ◌||◌, not, List, [], ◌∷◌, Some, refl, sym, ap, subst, ◌∙◌, arith, zero-add, inl, inr}
use Rattle.std.specs.Bool.{Decides}
use Rattle.std.specs.List.{All, AllPairs, Contains, enumerate_from, list_all, list_any, range_with_len, slice_get}
use Rattle.std.proofs.lemmas.Bool.{cases_eq, false≢true, leb-true, le-leb}
use Rattle.std.proofs.lemmas.Bool.Decides.{Decides-by_and, Decides-and, Decides-like}
use Rattle.std.proofs.lemmas.List.Elements.{All-contains, All-contains_itself, All-weaker}
use Rattle.std.proofs.lemmas.List.Folds.{Any-from_list_any, list_any-from_Any}
use Rattle.std.proofs.lemmas.List.Kept.{AllPairs-cons}
use Rattle.nx_division_tests.specs.Tests.{pairs_test}

pub Decides-leb : (a b : ℕ) → Decides (leb a b) (a ≤ b)
Decides-leb a b = (leb-true a b, le-leb a b)

-- a test that has to pass only where another one does
pub Decides-implies : {P Q : Type 0} (x y : Bool) → Decides x P → Decides y Q → Decides (not x || y) (P → Q)
Decides-implies true y p q = (λ h _. q.0 h, λ f. q.1 (f (p.0 refl)))
Decides-implies false y p q = (λ _ a. absurd (false≢true (p.1 a)), λ _. refl)

-- or only where another one doesn't
pub Decides-unless : {P Q : Type 0} (x y : Bool) → Decides x P → Decides y Q → Decides (x || y) (¬ P → Q)
Decides-unless true y p q = (λ _ n. absurd (n (p.0 refl)), λ _. refl)
Decides-unless false y p q = (λ h _. q.0 h, λ f. q.1 (f (λ a. false≢true (p.1 a))))

-- or only where one does and another one doesn't
pub Decides-implies_unless : {P Q R : Type 0} (x y z : Bool) → Decides x P → Decides y Q → Decides z R → Decides (not x || y || z) (P → ¬ Q → R)
Decides-implies_unless true y z p q r = (λ h _. (Decides-unless y z q r).0 h, λ f. (Decides-unless y z q r).1 (f (p.0 refl)))
Decides-implies_unless false y z p q r = (λ _ a. absurd (false≢true (p.1 a)), λ _. refl)

pub any_decides : {X : Type 0} (p : X → Bool) (P : X → Type 0) → ((x : X) → Decides (p x) (P x)) → (xs : List X) → Decides (list_any p xs) ((x : X) × Contains xs x × P x)
any_decides p P each xs = (
  (λ h. let a = Any-from_list_any p xs h in (a.1, (a.0, a.2, a.3), (each a.1).0 a.4)),
  (λ a. list_any-from_Any p xs (a.1.0, a.0, a.1.1, a.1.2, (each a.0).1 a.2)),
)

pub all_decides : {X : Type 0} (p : X → Bool) (P : X → Type 0) → ((x : X) → Decides (p x) (P x)) → (xs : List X) → Decides (list_all p xs) (All P xs)
all_decides p P each xs = Decides-by_and p P (list_all p) each refl (λ _ _. refl) xs

pub each_decides : {X : Type 0} (p : X → Bool) (P : X → Type 0) → ((x : X) → Decides (p x) (P x)) → (xs : List X) → Decides (list_all p xs) ((x : X) → Contains xs x → P x)
each_decides p P each xs =
    Decides-like (list_all p xs) (λ a x c. All-contains P xs x a c) (λ f. All-weaker (Contains xs) P (λ x c. f x c) xs (All-contains_itself xs)) (all_decides p P each xs)

range_split : {P : ℕ → Type 0} (a n i : ℕ) → P a → ((i : ℕ) → a + 1 ≤ i → i < a + 1 + n → P i) → a ≤ i → i < a + suc n → P i
range_split {P} a n i here more low high =
    elim (cases_eq i a) [ inl e ↦ subst P (sym e) here | inr other ↦ more i (omega arith) (omega arith) ]

pub range_decides : (p : ℕ → Bool) (P : ℕ → Type 0) → ((i : ℕ) → Decides (p i) (P i)) → (a n : ℕ) → Decides (list_all p (range_with_len a n)) ((i : ℕ) → a ≤ i → i < a + n → P i)
range_decides p P each a zero = (λ _ i low high. absurd (omega arith), λ _. refl)
range_decides p P each a (suc n) =
    Decides-like (list_all p (range_with_len a (suc n)))
    (λ h i low high. range_split {P = P} a n i h.0 h.1 low high)
    (λ f. (f a (omega arith) (omega arith), λ i low high. f i (omega arith) (omega arith)))
    (Decides-and (p a) (list_all p (range_with_len (a + 1) n)) (each a) (range_decides p P each (a + 1) n))

pub numbered_decides : {X : Type 0} (p : ℕ × X → Bool) (P : ℕ × X → Type 0) → ((x : ℕ × X) → Decides (p x) (P x)) → (n : ℕ) (xs : List X) → Decides (list_all p (enumerate_from n xs)) ((i : ℕ) (x : X) → slice_get xs i ≡ Some x → P (n + i, x))
numbered_decides p P each n [] = (λ _ i x e. absurd (cc), λ _. refl)
numbered_decides {X} p P each n (y ∷ ys) =
    Decides-like (list_all p (enumerate_from n (y ∷ ys))) (λ h. ahead h.0 h.1)
    (λ f. (subst (λ m. P (m, y)) (let e : n + 0 ≡ n = omega arith in e) (f 0 y refl), λ i x e. subst (λ m. P (m, x)) (let g : n + suc i ≡ n + 1 + i = omega arith in g) (f (suc i) x e)))
    (Decides-and (p (n, y)) (list_all p (enumerate_from (n + 1) ys)) (each (n, y)) (numbered_decides p P each (n + 1) ys))
  where
    ahead : P (n, y) → ((i : ℕ) (x : X) → slice_get ys i ≡ Some x → P (n + 1 + i, x)) → (i : ℕ) (x : X) → slice_get (y ∷ ys) i ≡ Some x → P (n + i, x)
    ahead h g zero x e = let same : y ≡ x = cc in let k : n ≡ n + 0 = omega arith in subst (λ z. P (n + 0, z)) same (subst (λ m. P (m, y)) k h)
    ahead h g (suc i) x e = subst (λ m. P (m, x)) (let k : n + 1 + i ≡ n + suc i = omega arith in k) (g i x e)

pub places_decide : {X : Type 0} (p : ℕ × X → Bool) (P : ℕ × X → Type 0) → ((x : ℕ × X) → Decides (p x) (P x)) → (xs : List X) → Decides (list_all p (enumerate_from 0 xs)) ((i : ℕ) (x : X) → slice_get xs i ≡ Some x → P (i, x))
places_decide p P each xs =
    Decides-like (list_all p (enumerate_from 0 xs))
    (λ f i x e. subst (λ n. P (n, x)) (zero-add i) (f i x e))
    (λ f i x e. subst (λ n. P (n, x)) (sym (zero-add i)) (f i x e))
    (numbered_decides p P each 0 xs)

pub pairs_head : {X : Type 0} (R : X → X → Type 0) (x : X) (xs : List X) → AllPairs R (x ∷ xs) → All (R x) xs
pairs_head R x xs a = λ k d h. a 0 (suc k) d (omega arith) (omega arith)

pub pairs_tail : {X : Type 0} (R : X → X → Type 0) (x : X) (xs : List X) → AllPairs R (x ∷ xs) → AllPairs R xs
pairs_tail R x xs a = λ i j d low high. a (suc i) (suc j) d (omega arith) (omega arith)

pub pairs_decides : {X : Type 0} (r : X → X → Bool) (R : X → X → Type 0) → ((x y : X) → Decides (r x y) (R x y)) → (xs : List X) → Decides (pairs_test r xs) (AllPairs R xs)
pairs_decides r R each [] = (λ _ i j d low high. absurd (omega arith), λ _. refl)
pairs_decides r R each (x ∷ xs) =
    Decides-like (pairs_test r (x ∷ xs)) (λ h. AllPairs-cons R x xs h.0 h.1) (λ a. (pairs_head R x xs a, pairs_tail R x xs a))
    (Decides-and (list_all (r x) xs) (pairs_test r xs) (all_decides (r x) (R x) (each x) xs) (pairs_decides r R each xs))

-- the test of a list from those of its first element and of the others
pub pairs_then : {X : Type 0} {all : List X} {b : Bool} (r : X → X → Bool) (x : X) (xs : List X) → all ≡ x ∷ xs → true ≡ list_all (r x) xs → b ≡ pairs_test r xs → b ≡ pairs_test r all
pairs_then r x xs e t h = h ∙ ap (λ a. a && pairs_test r xs) t ∙ ap (pairs_test r) (sym e)

pub pairs_else : {X : Type 0} {all : List X} {b : Bool} (r : X → X → Bool) (x : X) (xs : List X) → all ≡ x ∷ xs → b ≡ false → b ≡ list_all (r x) xs → b ≡ pairs_test r all
pairs_else r x xs e f g = f ∙ ap (λ a. a && pairs_test r xs) (sym f ∙ g) ∙ ap (pairs_test r) (sym e)

-- two tests, of which the second is made where the first passes
pub both_then : {P Q : Type 0} (y : Bool) → P → Decides y Q → Decides y (P × Q)
both_then y p q = (λ h. (p, q.0 h), λ r. q.1 r.1)

pub both_else : {P Q : Type 0} (x : Bool) → x ≡ false → Decides x P → Decides x (P × Q)
both_else x e p = (λ h. absurd (false≢true (sym e ∙ h)), λ r. p.1 r.0)

pub implies_then : {P Q : Type 0} (y : Bool) → P → Decides y Q → Decides y (P → Q)
implies_then y p q = (λ h _. q.0 h, λ f. q.1 (f p))

pub implies_else : {P Q : Type 0} → ¬ P → Decides true (P → Q)
implies_else n = (λ _ p. absurd (n p), λ _. refl)
