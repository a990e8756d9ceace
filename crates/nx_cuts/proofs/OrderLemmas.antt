-- The intervals of a tree are drawn in document order of their first members.
use Rattle.std.proofs.Common.{◌≡◌, ℕ, ◌+◌, ◌-◌, ◌<◌, ◌≤◌, IsTrue, List, [], ◌∷◌, ◌++◌, refl, sym, subst, arith, inl, inr}
use Rattle.std.specs.List.{AllByRecursion}
use Rattle.nx_parts.specs.declared.interval.Interval.{Interval}
use Rattle.nx_parts.specs.Order.{ComesBefore, first_member, AreInOrder}
use Rattle.nx_parts.specs.Partitioning.{has_member}
use Rattle.nx_cuts.specs.Cut.{CutForest, CutTree, Bare, Grown, Kept, width, intervals, AreFree, AreParts, parts_of}
use Rattle.nx_cuts.proofs.PairLemmas.{PairsBy, all_pairs, both, weaker, pairs-append}
use Rattle.nx_cuts.proofs.FeasibleLemmas.{Members, Reaches, further, reaches_child, members_reach, free_deeper, le_or}

-- of two paths through one node the one with the lesser step comes first
before_step : (path : List ℕ) (a b : ℕ) (r s : List ℕ) → a < b → ComesBefore (path ++ a ∷ r) (path ++ b ∷ s)
before_step [] a b r s l = inl l
before_step (step ∷ path) a b r s l = inr (refl, before_step path a b r s l)

-- a node comes before those below it, and below the later ones beside it
before_deeper : (path : List ℕ) (a b next : ℕ) (r : List ℕ) → a ≤ b → ComesBefore (path ++ a ∷ []) (path ++ b ∷ next ∷ r)
before_deeper [] a b next r l = elim (le_or a b) [ inl less ↦ inl less | inr more ↦ inr (omega arith, tt) ]
before_deeper (step ∷ path) a b next r l = inr (refl, before_deeper path a b next r l)

before_same : {a b c d : List ℕ} → a ≡ c → b ≡ d → ComesBefore c d → ComesBefore a b
before_same {a} {b} {c} {d} e f h = subst (λ x. ComesBefore x b) (sym e) (subst (λ y. ComesBefore c y) (sym f) h)

-- the first member of an interval is one of its members
has_first : (k : ℕ) (path : List ℕ) (position : ℕ) (c : CutForest) → AreParts k c → AllByRecursion (λ x. IsTrue (has_member x (first_member x))) (intervals path position c)
has_first k path position Bare h = tt
has_first k path position (Grown n b s) h =
    both _ (intervals (path ++ position ∷ []) 0 b) (intervals path (position + 1) s) (has_first k (path ++ position ∷ []) 0 b h.0) (has_first k path (position + 1) s h.1)
has_first k path position (Kept u m s) h =
    let some = h.0 in (
      reaches_child path position (position + width m - 1) position (omega arith) (omega arith),
      both _ (intervals path position m) (intervals path (position + width m) s) (has_first k path position m h.3) (has_first k path (position + width m) s h.4),
    )

-- what holds of all members holds of the first one
of_first : (P : List ℕ → Type 0) (xs : List Interval) → AllByRecursion (λ x. IsTrue (has_member x (first_member x))) xs → Members P xs → AllByRecursion (λ x. P (first_member x)) xs
of_first P [] a b = tt
of_first P (x ∷ xs) a b = (b.0 (first_member x) a.0, of_first P xs a.1 b.1)

firsts_reach : (k : ℕ) (path : List ℕ) (position : ℕ) (c : CutForest) → AreParts k c → AllByRecursion (λ x. Reaches path position (position + width c) (first_member x)) (intervals path position c)
firsts_reach k path position c h = of_first _ (intervals path position c) (has_first k path position c h) (members_reach k path position c h)

-- what is drawn below the members of an interval comes behind its first one
behind_first : (k : ℕ) (path : List ℕ) (position : ℕ) (m : CutForest) → AreParts k m → AreFree m → AllByRecursion (λ x. ComesBefore (path ++ position ∷ []) (first_member x)) (intervals path position m)
behind_first k path position m h f =
    let xs = intervals path position m in
    weaker _ xs (λ x d. before_same refl d.3 (before_deeper path position d.0 d.1 d.2 d.4)) (of_first _ xs (has_first k path position m h) (free_deeper k path position m h f))

-- those of trees from a later position on come behind those of earlier ones
abbrev pub Comes : Interval → Interval → Type 0
Comes a b = ComesBefore (first_member a) (first_member b)

drawn_sorted : (k : ℕ) (path : List ℕ) (position : ℕ) (c : CutForest) → AreParts k c → PairsBy Comes (intervals path position c)
drawn_sorted k path position Bare h = tt
drawn_sorted k path position (Grown n b s) h =
    let inner = path ++ position ∷ [] in
    pairs-append Comes (intervals inner 0 b) (intervals path (position + 1) s) (firsts_reach k inner 0 b h.0) (firsts_reach k path (position + 1) s h.1)
    (λ x y r t. let f = further path position 0 (0 + width b) (first_member x) r in let l = t.3 in before_same f.2 t.2 (before_step path position t.0 (f.0 ∷ f.1) t.1 (omega arith)))
    (drawn_sorted k inner 0 b h.0) (drawn_sorted k path (position + 1) s h.1)
drawn_sorted k path position (Kept u m s) h =
    let some = h.0 in
    let rest = firsts_reach k path (position + width m) s h.4 in (
      both _ (intervals path position m) (intervals path (position + width m) s) (behind_first k path position m h.3 h.1)
          (weaker _ (intervals path (position + width m) s) (λ y t. let l = t.3 in before_same refl t.2 (before_step path position t.0 [] t.1 (omega arith))) rest),
      pairs-append Comes (intervals path position m) (intervals path (position + width m) s) (firsts_reach k path position m h.3) rest
          (λ x y r t. let l = r.4 in let g = t.3 in before_same r.2 t.2 (before_step path r.0 t.0 r.1 t.1 (omega arith)))
          (drawn_sorted k path position m h.3) (drawn_sorted k path (position + width m) s h.4),
    )

pub drawn_in_order : (k : ℕ) (t : CutTree) → AreParts k t.below → AreInOrder (parts_of t)
drawn_in_order k t h =
    all_pairs Comes (parts_of t) (weaker _ (intervals [] 0 t.below) (λ y r. before_same {a = []} {c = []} refl r.2 tt) (firsts_reach k [] 0 t.below h), drawn_sorted k [] 0 t.below h)
