-- Lists that stand behind each other in one.
use Rattle.std.proofs.Common.{◌≡◌, ℕ, zero, suc, ◌≤◌, ◌<◌, List, [], ◌∷◌, ◌++◌, length, take, drop, get_or, refl, sym, ap, ◌∙◌, subst, arith}
use Rattle.std.specs.List.{between}
use Rattle.std.proofs.lemmas.Slice.{between_to_end, between_is}
use Rattle.nx_reach.specs.Parts.{parts_from, AreEnds, begin_of}

pub parts-length : (begin : ℕ) (ends xs : List ℕ) → length (parts_from begin ends xs) ≡ length ends
parts-length begin [] xs = refl
parts-length begin (end ∷ ends) xs = ap suc (parts-length end ends xs)

ends_low : (begin : ℕ) (ends : List ℕ) (n : ℕ) → AreEnds begin ends n → begin ≤ n
ends_low begin [] n are = omega arith
ends_low begin (end ∷ ends) n are = let low = ends_low end ends n are.1 in omega (arith, are.0)

begins : (end : ℕ) (ends : List ℕ) (k : ℕ) → begin_of end ends k ≡ get_or (end ∷ ends) k 0
begins end ends zero = refl
begins end ends (suc k) = refl

-- the part of this number
pub part_at : (begin : ℕ) (ends xs : List ℕ) (k : ℕ) → k < length ends → get_or (parts_from begin ends xs) k [] ≡ between (begin_of begin ends k) (get_or ends k 0) xs
part_at begin [] xs k low = absurd (omega arith)
part_at begin (end ∷ ends) xs zero low = refl
part_at begin (end ∷ ends) xs (suc k) low = part_at end ends xs k (omega arith) ∙ ap (λ (from : ℕ). between from (get_or ends k 0) xs) (begins end ends k)

-- ... begins before it ends, and ends in the list
pub part_within : (begin : ℕ) (ends : List ℕ) (n k : ℕ) → AreEnds begin ends n → k < length ends → (begin_of begin ends k ≤ get_or ends k 0) × (get_or ends k 0 ≤ n)
part_within begin [] n k are low = absurd (omega arith)
part_within begin (end ∷ ends) n zero are low = (are.0, ends_low end ends n are.1)
part_within begin (end ∷ ends) n (suc k) are low =
    let rest = part_within end ends n k are.1 (omega arith) in
    (subst (λ (from : ℕ). from ≤ get_or ends k 0) (begins end ends k) rest.0, rest.1)

-- one part more behind the others
pub ends_on : (begin : ℕ) (ends : List ℕ) (n m : ℕ) → AreEnds begin ends n → n ≤ m → AreEnds begin (ends ++ m ∷ []) m
ends_on begin [] n m are le = (omega arith, refl)
ends_on begin (end ∷ ends) n m are le = (are.0, ends_on end ends n m are.1 le)

front : (xs ys : List ℕ) (begin end : ℕ) → end ≤ length xs → between begin end (xs ++ ys) ≡ between begin end xs
front xs ys begin end within = between_is (xs ++ ys) begin end ∙ ap (λ (zs : List ℕ). drop begin zs) (take_front xs ys end within) ∙ sym (between_is xs begin end)
  where
    take_front : (xs ys : List ℕ) (n : ℕ) → n ≤ length xs → take n (xs ++ ys) ≡ take n xs
    take_front xs ys zero within = refl
    take_front [] ys (suc n) within = absurd (omega arith)
    take_front (x ∷ xs) ys (suc n) within = ap (λ zs. x ∷ zs) (take_front xs ys n (omega arith))

behind : (xs ys : List ℕ) → drop (length xs) (xs ++ ys) ≡ ys
behind [] ys = refl
behind (x ∷ xs) ys = behind xs ys

pub parts_on : (begin : ℕ) (ends xs ys : List ℕ) → AreEnds begin ends (length xs) → parts_from begin (ends ++ length (xs ++ ys) ∷ []) (xs ++ ys) ≡ parts_from begin ends xs ++ ys ∷ []
parts_on begin [] xs ys are =
    ap (λ part. part ∷ []) (between_to_end (xs ++ ys) begin (length (xs ++ ys)) (omega arith) ∙ ap (λ (n : ℕ). drop n (xs ++ ys)) are ∙ behind xs ys)
parts_on begin (end ∷ ends) xs ys are =
    let first = front xs ys begin end (ends_low end ends (length xs) are.1) in
    ap (λ part. part ∷ parts_from end (ends ++ length (xs ++ ys) ∷ []) (xs ++ ys)) first ∙ ap (λ parts. between begin end xs ∷ parts) (parts_on end ends xs ys are.1)
