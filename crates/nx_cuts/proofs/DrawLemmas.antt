-- One interval more: the intervals are those of before and the new one.
use Rattle.std.proofs.Common.{◌≡◌, ℕ, zero, suc, ◌+◌, ◌-◌, List, [], ◌∷◌, ◌++◌, refl, ap, subst, ◌∙◌, arith, append_assoc, IsPermutation}
use Rattle.std.proofs.lemmas.List.Sorted.{IsPermutation-refl, IsPermutation-trans, IsPermutation-append_right, IsPermutation-middle}
use Rattle.nx_tree.specs.Forest.{Plant}
use Rattle.nx_parts.specs.declared.interval.Interval.{Interval}
use Rattle.nx_parts.specs.declared.interval.Interval.TheVariants.{Run}
use Rattle.nx_cuts.specs.Cut.{CutForest, Bare, Grown, Kept, joined, forest, width, intervals}
use Rattle.nx_cuts.specs.Rows.{first, behind}
use Rattle.nx_cuts.proofs.Draw.{wrapped, BeginsFree, IsFreeRun}

pub width-first : (n : ℕ) (c : CutForest) → BeginsFree n c → width (first n c) ≡ n
width-first zero c f = refl
width-first (suc n) Bare f = absurd f
width-first (suc n) (Grown x b s) f = omega (arith, width-first n s f)
width-first (suc n) (Kept u m s) f = absurd f

intervals-first : (path : List ℕ) (position n : ℕ) (c : CutForest) → BeginsFree n c
    → intervals path position (first n c) ++ intervals path (position + n) (behind n c) ≡ intervals path position c
intervals-first path position zero c f = ap (λ i. intervals path i c) (let e : position + 0 ≡ position = omega arith in e)
intervals-first path position (suc n) Bare f = absurd f
intervals-first path position (suc n) (Grown x b s) f =
    append_assoc (intervals (path ++ position ∷ []) 0 b) (intervals path (position + 1) (first n s)) (intervals path (position + suc n) (behind n s))
    ∙ ap (λ l. intervals (path ++ position ∷ []) 0 b ++ l)
    (ap (λ i. intervals path (position + 1) (first n s) ++ intervals path i (behind n s)) (let e : position + suc n ≡ position + 1 + n = omega arith in e) ∙ intervals-first path (position + 1) n s f)
intervals-first path position (suc n) (Kept u m s) f = absurd f

-- behind other intervals
pub moved : (x : Interval) (a b c : List Interval) → IsPermutation b (x ∷ c) → IsPermutation (a ++ b) (x ∷ (a ++ c))
moved x a b c p = IsPermutation-trans (a ++ b) (a ++ x ∷ c) (x ∷ (a ++ c)) (IsPermutation-append_right a b (x ∷ c) p) (IsPermutation-middle a x c)

exchanged : (x y : Interval) (c : List Interval) → IsPermutation (y ∷ x ∷ c) (x ∷ y ∷ c)
exchanged x y c = IsPermutation-middle (y ∷ []) x c

pub wrapped_row : (path : List ℕ) (position at count : ℕ) (c : CutForest) → IsFreeRun at count c
    → IsPermutation (intervals path position (wrapped at count c)) (Run path (position + at) (position + at + count - 1) ∷ intervals path position c)
wrapped_row path position zero count c f =
    let w = width-first count c f in
    let e : intervals path position (wrapped zero count c) ≡ Run path (position + 0) (position + 0 + count - 1) ∷ intervals path position c =
    ap (λ n. Run path position (position + n - 1) ∷ intervals path position (first count c) ++ intervals path (position + n) (behind count c)) w
    ∙ ap (λ l. Run path position (position + count - 1) ∷ l) (intervals-first path position count c f)
    ∙ ap (λ i. Run path i (i + count - 1) ∷ intervals path position c) (let z : position ≡ position + 0 = omega arith in z) in
    subst (λ l. IsPermutation (intervals path position (wrapped zero count c)) l) e (IsPermutation-refl _)
wrapped_row path position (suc at) count Bare f = absurd f
wrapped_row path position (suc at) count (Grown n b s) f =
    let ih = wrapped_row path (position + 1) at count s f in
    let e : Run path (position + 1 + at) (position + 1 + at + count - 1) ≡ Run path (position + suc at) (position + suc at + count - 1) = ap (λ i. Run path i (i + count - 1)) (let z : position + 1 + at ≡ position + suc at = omega arith in z) in
    subst (λ x. IsPermutation (intervals (path ++ position ∷ []) 0 b ++ intervals path (position + 1) (wrapped at count s)) (x ∷ (intervals (path ++ position ∷ []) 0 b ++ intervals path (position + 1) s))) e
    (moved (Run path (position + 1 + at) (position + 1 + at + count - 1)) (intervals (path ++ position ∷ []) 0 b) _ (intervals path (position + 1) s) ih)
wrapped_row path position (suc at) count (Kept u m s) f =
    let h = f.0 in
    let ih = wrapped_row path (position + width m) (suc at - width m) count s f.1 in
    let here = Run path position (position + width m - 1) in
    let new = Run path (position + width m + (suc at - width m)) (position + width m + (suc at - width m) + count - 1) in
    let e : new ≡ Run path (position + suc at) (position + suc at + count - 1) = ap (λ i. Run path i (i + count - 1)) (let z : position + width m + (suc at - width m) ≡ position + suc at = omega arith in z) in
    subst (λ x. IsPermutation (here ∷ intervals path position m ++ intervals path (position + width m) (wrapped (suc at - width m) count s)) (x ∷ here ∷ intervals path position m ++ intervals path (position + width m) s)) e
    (moved new (here ∷ intervals path position m) _ (intervals path (position + width m) s) ih)

forest-first : (n : ℕ) (c : CutForest) → BeginsFree n c → joined (forest (first n c)) (forest (behind n c)) ≡ forest c
forest-first zero c f = refl
forest-first (suc n) Bare f = absurd f
forest-first (suc n) (Grown x b s) f = ap (Plant x (forest b)) (forest-first n s f)
forest-first (suc n) (Kept u m s) f = absurd f

pub forest-wrapped : (at count : ℕ) (c : CutForest) → IsFreeRun at count c → forest (wrapped at count c) ≡ forest c
forest-wrapped zero count c f = forest-first count c f
forest-wrapped (suc at) count Bare f = absurd f
forest-wrapped (suc at) count (Grown n b s) f = ap (Plant n (forest b)) (forest-wrapped at count s f)
forest-wrapped (suc at) count (Kept u m s) f = ap (joined (forest m)) (forest-wrapped (suc at - width m) count s f.1)
