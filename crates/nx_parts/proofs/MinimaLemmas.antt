-- A tree has one list of minima.
use Rattle.std.proofs.Common.{◌≡◌, ℕ, suc, ◌+◌, ◌≤◌, List, [], ◌∷◌, ◌++◌, length, take, drop, refl, sym, ap, ◌∙◌, subst, arith}
use Rattle.std.proofs.lemmas.List.{take_all}
use Rattle.std.proofs.Math.Seq.{take-add}
use Rattle.nx_tree.specs.Forest.{OrderedTree, Forest, Empty, Plant, nodes}
use Rattle.nx_parts.specs.declared.bounds.Bound.{Bound}
use Rattle.nx_parts.specs.Minima.{IsMinima, AreMinima, AreMinimaIn}

one_number : (m n : ℕ) → m ≤ n → n ≤ m → m ≡ n
one_number m n h g = omega (arith, h, g)

one_minima : (k : ℕ) (tree : OrderedTree) (x y : Bound) → IsMinima k tree x → IsMinima k tree y → x ≡ y
one_minima k tree x y p q =
    let bound : ℕ → ℕ → ℕ → Bound = λ least lean nearly. record { least = least; lean = lean; nearly = nearly } in
    let least : x.least ≡ y.least = one_number x.least y.least (subst (λ (n : ℕ). x.least ≤ n) q.least.reached (p.least.least q.least.one q.least.holds))
    (subst (λ (n : ℕ). y.least ≤ n) p.least.reached (q.least.least p.least.one p.least.holds)) in
    let lean : x.lean ≡ y.lean = one_number x.lean y.lean
    (subst (λ (n : ℕ). x.lean ≤ n) q.lean.reached (p.lean.least q.lean.one (q.lean.holds.0, q.lean.holds.1 ∙ sym least)))
    (subst (λ (n : ℕ). y.lean ≤ n) p.lean.reached (q.lean.least p.lean.one (p.lean.holds.0, p.lean.holds.1 ∙ least))) in
    let nearly : x.nearly ≡ y.nearly = one_number x.nearly y.nearly
    (subst (λ (n : ℕ). x.nearly ≤ n) q.nearly.reached
    (p.nearly.least q.nearly.one (q.nearly.holds.0, subst (λ (n : ℕ). length q.nearly.one ≤ n + 1) (sym least) q.nearly.holds.1)))
    (subst (λ (n : ℕ). y.nearly ≤ n) p.nearly.reached
    (q.nearly.least p.nearly.one (p.nearly.holds.0, subst (λ (n : ℕ). length p.nearly.one ≤ n + 1) least p.nearly.holds.1))) in
    ap (λ (n : ℕ). bound n x.lean x.nearly) least ∙ ap (λ (n : ℕ). bound y.least n x.nearly) lean ∙ ap (bound y.least y.lean) nearly

one_more : (m n : ℕ) (x : Bound) (xs : List Bound) → take (1 + m + n) (x ∷ xs) ≡ x ∷ take (m + n) xs
one_more m n x xs = ap (λ (j : ℕ). take j (x ∷ xs)) (let e : 1 + m + n ≡ suc (m + n) = omega arith in e)

same_minima : (k : ℕ) (f : Forest) (xs ys : List Bound) → AreMinimaIn k f xs → AreMinimaIn k f ys → take (nodes f) xs ≡ take (nodes f) ys
same_minima k Empty xs ys p q = refl
same_minima k (Plant node below beside) [] ys p q = absurd p
same_minima k (Plant node below beside) (x ∷ xs) [] p q = absurd q
same_minima k (Plant node below beside) (x ∷ xs) (y ∷ ys) (own, low, side) (own', low', side') =
    one_more (nodes below) (nodes beside) x xs
    ∙ ap (λ (b : Bound). b ∷ take (nodes below + nodes beside) xs) (one_minima k (record { node = node; below = below }) x y own own')
    ∙ ap (λ (bs : List Bound). y ∷ bs)
    (take-add (nodes below) (nodes beside) xs
    ∙ ap (λ (bs : List Bound). bs ++ take (nodes beside) (drop (nodes below) xs)) (same_minima k below xs ys low low')
    ∙ ap (λ (bs : List Bound). take (nodes below) ys ++ bs) (same_minima k beside (drop (nodes below) xs) (drop (nodes below) ys) side side')
    ∙ sym (take-add (nodes below) (nodes beside) ys))
    ∙ sym (one_more (nodes below) (nodes beside) y ys)

all_of : (n : ℕ) (xs : List Bound) → length xs ≡ n → take n xs ≡ xs
all_of n xs is = take_all n xs (omega (arith, is))

pub minima_once : (k : ℕ) (tree : OrderedTree) (xs ys : List Bound) → AreMinima k tree xs → AreMinima k tree ys → xs ≡ ys
minima_once k tree xs ys p q =
    let all = nodes (Plant tree.node tree.below Empty) in
    let size : nodes (Plant tree.node tree.below Empty) ≡ 1 + nodes tree.below = omega arith in
    sym (all_of all xs (p.one_each ∙ sym size)) ∙ same_minima k (Plant tree.node tree.below Empty) xs ys p.each q.each ∙ all_of all ys (q.one_each ∙ sym size)
