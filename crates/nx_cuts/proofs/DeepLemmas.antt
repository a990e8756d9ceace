-- One interval more, below the node at a path.
use Rattle.std.proofs.Common.{◌≡◌, ℕ, zero, suc, ◌+◌, ◌-◌, ◌≤◌, nat_lt, if◌then◌else◌, Bool, true, false, List, [], ◌∷◌, ◌++◌, refl, sym, ap, subst, ◌∙◌, arith, append_assoc, append-nil, IsPermutation}
use Rattle.std.specs.Bool.{MatchBool}
use Rattle.std.proofs.lemmas.Bool.Decides.{nat_tests}
use Rattle.std.proofs.lemmas.List.Sorted.{IsPermutation-append_left}
use Rattle.nx_parts.specs.declared.interval.Interval.TheVariants.{Run}
use Rattle.nx_cuts.specs.Cut.{CutForest, Bare, Grown, Kept, CutTree, width, intervals}
use Rattle.nx_cuts.specs.Rows.{changed_row}
use Rattle.nx_cuts.proofs.Draw.{drawn, AtRow, IsFreeAt}
use Rattle.nx_cuts.proofs.DrawLemmas.{wrapped_row, moved}

width-if : (b : Bool) (x y : CutForest) (n : ℕ) → width x ≡ n → width y ≡ n → width (if b then x else y) ≡ n
width-if true x y n e f = e
width-if false x y n e f = f

pub width-changed : (p : ℕ) (change : CutTree → CutTree) (c : CutForest) → width (changed_row p change c) ≡ width c
width-changed p change Bare = refl
width-changed zero change (Grown n b s) = refl
width-changed (suc p) change (Grown n b s) = ap (λ i. 1 + i) (width-changed p change s)
width-changed p change (Kept u m s) =
    width-if (nat_lt p (width m)) (Kept u (changed_row p change m) s) (Kept u m (changed_row (p - width m) change s)) (width m + width s)
    (ap (λ i. i + width s) (width-changed p change m)) (ap (λ i. width m + i) (width-changed (p - width m) change s))

-- the change adds the interval Run (Q ++ path) first last below the node at Q
abbrev pub AddsBelow : List ℕ → ℕ → ℕ → (CutTree → CutTree) → (CutForest → Type 0) → Type 0
AddsBelow path first last change Q = (above : List ℕ) (t : CutTree) → Q t.below → IsPermutation (intervals above 0 (change t).below) (Run (above ++ path) first last ∷ intervals above 0 t.below)

pub member_row : (Q : CutForest → Type 0) (p : ℕ) (m s : CutForest) (t : Bool) → t ≡ true → MatchBool t (AtRow p Q m) (AtRow (p - width m) Q s) → AtRow p Q m
member_row Q p m s true e a = a
member_row Q p m s false e a = cc

pub beside_row : (Q : CutForest → Type 0) (p : ℕ) (m s : CutForest) (t : Bool) → t ≡ false → MatchBool t (AtRow p Q m) (AtRow (p - width m) Q s) → AtRow (p - width m) Q s
beside_row Q p m s true e a = cc
beside_row Q p m s false e a = a

kept_adds : (path : List ℕ) (first last : ℕ) (change : CutTree → CutTree) (above : List ℕ) (position p : ℕ) (u : Unit {0}) (m s : CutForest) (t : Bool) → nat_lt p (width m) ≡ t
    → (t ≡ true → IsPermutation (intervals above position (changed_row p change m)) (Run (above ++ (position + p) ∷ path) first last ∷ intervals above position m))
    → (t ≡ false → IsPermutation (intervals above (position + width m) (changed_row (p - width m) change s)) (Run (above ++ (position + width m + (p - width m)) ∷ path) first last ∷ intervals above (position + width m) s))
    → IsPermutation (intervals above position (if t then Kept u (changed_row p change m) s else Kept u m (changed_row (p - width m) change s))) (Run (above ++ (position + p) ∷ path) first last ∷ intervals above position (Kept u m s))
kept_adds path first last change above position p u m s true e a b =
    let x = Run (above ++ (position + p) ∷ path) first last in
    let here = Run above position (position + width m - 1) in
    let w = width-changed p change m in
    let rest = intervals above (position + width m) s in
    subst (λ i. IsPermutation (Run above position (position + i - 1) ∷ intervals above position (changed_row p change m) ++ intervals above (position + i) s) (x ∷ here ∷ intervals above position m ++ rest)) (sym w)
    (moved x (here ∷ []) (intervals above position (changed_row p change m) ++ rest) (intervals above position m ++ rest)
    (IsPermutation-append_left rest _ (x ∷ intervals above position m) (a refl)))
kept_adds path first last change above position p u m s false e a b =
    let h : width m ≤ p = grind (arith, nat_tests) in
    let new = Run (above ++ (position + width m + (p - width m)) ∷ path) first last in
    let here = Run above position (position + width m - 1) in
    let same : new ≡ Run (above ++ (position + p) ∷ path) first last = ap (λ i. Run (above ++ i ∷ path) first last) (let z : position + width m + (p - width m) ≡ position + p = omega arith in z) in
    subst (λ x. IsPermutation (here ∷ intervals above position m ++ intervals above (position + width m) (changed_row (p - width m) change s)) (x ∷ here ∷ intervals above position m ++ intervals above (position + width m) s)) same
    (moved new (here ∷ intervals above position m) _ (intervals above (position + width m) s) (b refl))

row_adds : (path : List ℕ) (first last : ℕ) (change : CutTree → CutTree) (Q : CutForest → Type 0) → AddsBelow path first last change Q
    → (above : List ℕ) (position p : ℕ) (c : CutForest) → AtRow p Q c → IsPermutation (intervals above position (changed_row p change c)) (Run (above ++ (position + p) ∷ path) first last ∷ intervals above position c)
row_adds path first last change Q h above position p Bare a = absurd a
row_adds path first last change Q h above position zero (Grown n b s) a =
    let e : Run ((above ++ position ∷ []) ++ path) first last ≡ Run (above ++ (position + 0) ∷ path) first last =
    ap (λ l. Run l first last) (append_assoc above (position ∷ []) path ∙ ap (λ i. above ++ i ∷ path) (let z : position ≡ position + 0 = omega arith in z)) in
    subst (λ x. IsPermutation (intervals (above ++ position ∷ []) 0 (change (record { node = n; below = b })).below ++ intervals above (position + 1) s) (x ∷ intervals (above ++ position ∷ []) 0 b ++ intervals above (position + 1) s)) e
    (IsPermutation-append_left (intervals above (position + 1) s) _ (Run ((above ++ position ∷ []) ++ path) first last ∷ intervals (above ++ position ∷ []) 0 b) (h (above ++ position ∷ []) (record { node = n; below = b }) a))
row_adds path first last change Q h above position (suc p) (Grown n b s) a =
    let e : Run (above ++ (position + 1 + p) ∷ path) first last ≡ Run (above ++ (position + suc p) ∷ path) first last = ap (λ i. Run (above ++ i ∷ path) first last) (let z : position + 1 + p ≡ position + suc p = omega arith in z) in
    subst (λ x. IsPermutation (intervals (above ++ position ∷ []) 0 b ++ intervals above (position + 1) (changed_row p change s)) (x ∷ intervals (above ++ position ∷ []) 0 b ++ intervals above (position + 1) s)) e
    (moved (Run (above ++ (position + 1 + p) ∷ path) first last) (intervals (above ++ position ∷ []) 0 b) _ (intervals above (position + 1) s) (row_adds path first last change Q h above (position + 1) p s a))
row_adds path first last change Q h above position p (Kept u m s) a =
    kept_adds path first last change above position p u m s (nat_lt p (width m)) refl
    (λ t. row_adds path first last change Q h above position p m (member_row Q p m s (nat_lt p (width m)) t a))
    (λ t. row_adds path first last change Q h above (position + width m) (p - width m) s (beside_row Q p m s (nat_lt p (width m)) t a))

-- one interval more
pub drawn_adds : (path : List ℕ) (position count : ℕ) → AddsBelow path position (position + count - 1) (drawn path position count) (IsFreeAt path position count)
drawn_adds [] position count = λ above t a.
    subst (λ l. IsPermutation (intervals above 0 (drawn [] position count t).below) (l ∷ intervals above 0 t.below))
    (ap (λ l. Run l position (position + count - 1)) (sym (append-nil above)))
    (subst (λ i. IsPermutation (intervals above 0 (drawn [] position count t).below) (Run above i (i + count - 1) ∷ intervals above 0 t.below)) (let z : 0 + position ≡ position = omega arith in z) (wrapped_row above 0 position count t.below a))
drawn_adds (step ∷ path) position count = λ above t a.
    subst (λ i. IsPermutation (intervals above 0 (drawn (step ∷ path) position count t).below) (Run (above ++ i ∷ path) position (position + count - 1) ∷ intervals above 0 t.below)) (let z : 0 + step ≡ step = omega arith in z)
    (row_adds path position (position + count - 1) (drawn path position count) (IsFreeAt path position count) (drawn_adds path position count) above 0 step t.below a)
