-- What holds of each element of a list and each later one, by recursion.
use Rattle.std.proofs.Common.{List, [], ◌∷◌, ◌++◌, arith, AllPairs}
use Rattle.std.specs.List.{AllByRecursion}
use Rattle.std.proofs.lemmas.List.Kept.{AllPairs-cons}
use Rattle.std.proofs.lemmas.List.Elements.{All-from_recursion}

-- R holds of each element and each later one
abbrev pub PairsBy : {A : Type 0} → (A → A → Type 0) → List A → Type 0
PairsBy R [] = Unit {0}
PairsBy R (x ∷ xs) = AllByRecursion (R x) xs × PairsBy R xs

pub all_pairs : {A : Type 0} (R : A → A → Type 0) (xs : List A) → PairsBy R xs → AllPairs R xs
all_pairs R [] p = λ i j d low high. absurd (omega arith)
all_pairs R (x ∷ xs) p = AllPairs-cons R x xs (All-from_recursion (R x) xs p.0) (all_pairs R xs p.1)

-- of two lists one behind the other
pub both : {A : Type 0} (P : A → Type 0) (xs ys : List A) → AllByRecursion P xs → AllByRecursion P ys → AllByRecursion P (xs ++ ys)
both P [] ys a b = b
both P (x ∷ xs) ys a b = (a.0, both P xs ys a.1 b)

pub weaker : {A : Type 0} {P : A → Type 0} (Q : A → Type 0) (xs : List A) → ((x : A) → P x → Q x) → AllByRecursion P xs → AllByRecursion Q xs
weaker Q [] f a = tt
weaker Q (x ∷ xs) f a = (f x a.0, weaker Q xs f a.1)

pub pairs-append : {A : Type 0} {P Q : A → Type 0} (R : A → A → Type 0) (xs ys : List A) → AllByRecursion P xs → AllByRecursion Q ys → ((x y : A) → P x → Q y → R x y)
    → PairsBy R xs → PairsBy R ys → PairsBy R (xs ++ ys)
pairs-append R [] ys a b f c d = d
pairs-append R (x ∷ xs) ys a b f c d = (both (R x) xs ys c.0 (weaker (R x) ys (λ y q. f x y a.0 q) b), pairs-append R xs ys a.1 b f c.1 d)
