-- An interval that shares no member with those that are drawn in can be drawn in.
use Rattle.std.proofs.Common.{◌≡◌, ℕ, zero, suc, ◌+◌, ◌-◌, ◌<◌, ◌≤◌, nat_lt, Bool, true, false, List, [], ◌∷◌, ◌++◌, None, Some, refl, sym, ap, subst, ◌∙◌, arith, append_assoc, append-nil, inl, inr}
use Rattle.std.specs.Bool.{MatchBool}
use Rattle.std.specs.List.{AllByRecursion}
use Rattle.std.specs.Prelude.{option_and_then}
use Rattle.std.proofs.lemmas.Bool.Decides.{nat_tests}
use Rattle.nx_tree.specs.Forest.{Forest, Empty, Plant, OrderedTree}
use Rattle.nx_tree.specs.Edit.{at, child}
use Rattle.nx_parts.specs.declared.interval.Interval.{Interval}
use Rattle.nx_parts.specs.declared.interval.Interval.TheVariants.{Run}
use Rattle.nx_parts.specs.Partitioning.{ShareMember}
use Rattle.nx_cuts.specs.Cut.{CutForest, Bare, Grown, Kept, CutTree, joined, forest, width, intervals, AreParts, tree_of}
use Rattle.nx_cuts.proofs.Draw.{AtRow, IsFreeAt, IsFreeRun, BeginsFree}
use Rattle.nx_cuts.proofs.FeasibleLemmas.{reaches_child, trees, trees-forest, le_or}

abbrev pub IsApart : Interval → List Interval → Type 0
IsApart x ys = AllByRecursion (λ y. ¬ ShareMember x y) ys

left : (x : Interval) (xs ys : List Interval) → IsApart x (xs ++ ys) → IsApart x xs
left x [] ys a = tt
left x (y ∷ xs) ys a = (a.0, left x xs ys a.1)

right : (x : Interval) (xs ys : List Interval) → IsApart x (xs ++ ys) → IsApart x ys
right x [] ys a = a
right x (y ∷ xs) ys a = right x xs ys a.1

-- a position of both
shared : (above : List ℕ) (a l b m i : ℕ) → a ≤ i → i ≤ l → b ≤ i → i ≤ m → ShareMember (Run above a l) (Run above b m)
shared above a l b m i p q r s = (above ++ i ∷ [], reaches_child above a l i p q, reaches_child above b m i r s)

begins_free : (k : ℕ) (above : List ℕ) (a l position count : ℕ) (c : CutForest) → AreParts k c → a ≤ position → position + count ≤ l + 1 → count ≤ width c
    → IsApart (Run above a l) (intervals above position c) → BeginsFree count c
begins_free k above a l position zero c h p q w n = tt
begins_free k above a l position (suc count) Bare h p q w n = omega arith
begins_free k above a l position (suc count) (Grown x b s) h p q w n =
    begins_free k above a l (position + 1) count s h.1 (omega arith) (omega arith) (omega arith) (right (Run above a l) (intervals (above ++ position ∷ []) 0 b) (intervals above (position + 1) s) n)
begins_free k above a l position (suc count) (Kept u m s) h p q w n =
    let e = h.0 in n.0 (shared above a l position (position + width m - 1) position p (omega arith) (omega arith) (omega arith))

free_run : (k : ℕ) (above : List ℕ) (a l position from count : ℕ) (c : CutForest) → AreParts k c → a ≡ position + from → position + from + count ≡ l + 1 → 1 ≤ count → from + count ≤ width c
    → IsApart (Run above a l) (intervals above position c) → IsFreeRun from count c
free_run k above a l position zero count c h p q o w n = begins_free k above a l position count c h (omega arith) (omega arith) (omega arith) n
free_run k above a l position (suc from) count Bare h p q o w n = omega arith
free_run k above a l position (suc from) count (Grown x b s) h p q o w n =
    free_run k above a l (position + 1) from count s h.1 (omega arith) (omega arith) o (omega arith) (right (Run above a l) (intervals (above ++ position ∷ []) 0 b) (intervals above (position + 1) s) n)
free_run k above a l position (suc from) count (Kept u m s) h p q o w n =
    elim (le_or (suc from) (width m)) [
      | inl e ↦ absurd (n.0 (shared above a l position (position + width m - 1) (position + suc from) (omega arith) (omega arith) (omega arith) (omega arith)))
      | inr e ↦ (e, free_run k above a l (position + width m) (suc from - width m) count s h.4 (omega arith) (omega arith) o (omega arith) (right (Run above a l) (intervals above position m) (intervals above (position + width m) s) n.1))
    ]

pub child_prefix : (f g : Forest) (p : ℕ) → p < trees f → child (joined f g) p ≡ child f p
child_prefix Empty g p h = absurd (omega arith)
child_prefix (Plant n b s) g zero h = refl
child_prefix (Plant n b s) g (suc p) h = child_prefix s g p (omega arith)

pub child_back : (f g : Forest) (p : ℕ) → child (joined f g) (trees f + p) ≡ child g p
child_back Empty g p = ap (child g) (let e : 0 + p ≡ p = omega arith in e)
child_back (Plant n b s) g p = ap (child (Plant n b (joined s g))) (let e : 1 + trees s + p ≡ suc (trees s + p) = omega arith in e) ∙ child_back s g p

no_child : (v : OrderedTree) → None ≡ Some v → ⊥
no_child v e = cc

same_child : (v w : OrderedTree) → Some v ≡ Some w → v ≡ w
same_child v w e = cc

abbrev pub CanDraw : ℕ → List ℕ → OrderedTree → ℕ → ℕ → ℕ → ℕ → Type 0
CanDraw k path u from count a l = (above : List ℕ) (t : CutTree) → AreParts k t.below → at (tree_of t) path ≡ Some u → IsApart (Run (above ++ path) a l) (intervals above 0 t.below) → IsFreeAt path from count t.below

choose_row : (Q : CutForest → Type 0) (p : ℕ) (m s : CutForest) (t : Bool) → (t ≡ true → AtRow p Q m) → (t ≡ false → AtRow (p - width m) Q s) → MatchBool t (AtRow p Q m) (AtRow (p - width m) Q s)
choose_row Q p m s true a b = a refl
choose_row Q p m s false a b = b refl

free_row : (k : ℕ) (path : List ℕ) (u : OrderedTree) (from count a l : ℕ) → CanDraw k path u from count a l → (above : List ℕ) (position p : ℕ) (c : CutForest) (v : OrderedTree)
    → AreParts k c → child (forest c) p ≡ Some v → at v path ≡ Some u → IsApart (Run (above ++ (position + p) ∷ path) a l) (intervals above position c) → AtRow p (IsFreeAt path from count) c
free_row k path u from count a l ih above position p Bare v h e f n = no_child v e
free_row k path u from count a l ih above position zero (Grown x b s) v h e f n =
    let w : record { node = x; below = forest b } ≡ v = same_child (record { node = x; below = forest b }) v e in
    let r : Run (above ++ (position + 0) ∷ path) a l ≡ Run ((above ++ position ∷ []) ++ path) a l =
    ap (λ q. Run q a l) (ap (λ i. above ++ i ∷ path) (let z : position + 0 ≡ position = omega arith in z) ∙ sym (append_assoc above (position ∷ []) path)) in
    ih (above ++ position ∷ []) (record { node = x; below = b }) h.0 (ap (λ q. at q path) w ∙ f)
    (subst (λ y. IsApart y (intervals (above ++ position ∷ []) 0 b)) r (left (Run (above ++ (position + 0) ∷ path) a l) (intervals (above ++ position ∷ []) 0 b) (intervals above (position + 1) s) n))
free_row k path u from count a l ih above position (suc p) (Grown x b s) v h e f n =
    free_row k path u from count a l ih above (position + 1) p s v h.1 e f
    (subst (λ i. IsApart (Run (above ++ i ∷ path) a l) (intervals above (position + 1) s)) (let z : position + suc p ≡ position + 1 + p = omega arith in z)
    (right (Run (above ++ (position + suc p) ∷ path) a l) (intervals (above ++ position ∷ []) 0 b) (intervals above (position + 1) s) n))
free_row k path u from count a l ih above position p (Kept w m s) v h e f n =
    let x = Run (above ++ (position + p) ∷ path) a l in
    let tm = trees-forest m in
    choose_row (IsFreeAt path from count) p m s (nat_lt p (width m))
    (λ t. let g : p < width m = grind (arith, nat_tests) in
    free_row k path u from count a l ih above position p m v h.3 (sym (child_prefix (forest m) (forest s) p (omega arith)) ∙ e) f (left x (intervals above position m) (intervals above (position + width m) s) n.1))
    (λ t. let g : width m ≤ p = grind (arith, nat_tests) in
    let z : trees (forest m) + (p - width m) ≡ p = omega arith in
    free_row k path u from count a l ih above (position + width m) (p - width m) s v h.4
    (sym (child_back (forest m) (forest s) (p - width m)) ∙ ap (child (joined (forest m) (forest s))) z ∙ e) f
    (subst (λ i. IsApart (Run (above ++ i ∷ path) a l) (intervals above (position + width m) s)) (let y : position + p ≡ position + width m + (p - width m) = omega arith in y)
    (right x (intervals above position m) (intervals above (position + width m) s) n.1)))

-- where the path leads to a node with these children, the interval can be drawn in
pub free_at : (k : ℕ) (path : List ℕ) (u : OrderedTree) (from count a l : ℕ) → a ≡ from → from + count ≡ l + 1 → 1 ≤ count → from + count ≤ trees u.below → CanDraw k path u from count a l
free_at k [] u from count a l p q o w = λ above t h e n.
    let x : tree_of t ≡ u = same_child (tree_of t) u e in
    let y : trees (forest t.below) ≡ trees u.below = ap (λ (z : OrderedTree). trees z.below) x in
    let z = trees-forest t.below in
    free_run k above a l 0 from count t.below h (omega arith) (omega arith) o (omega arith) (subst (λ i. IsApart (Run i a l) (intervals above 0 t.below)) (append-nil above) n)
free_at k (step ∷ path) u from count a l p q o w = λ above t h e n.
    (elim (child (forest t.below) step) as (λ c. child (forest t.below) step ≡ c → option_and_then (λ (v : OrderedTree). at v path) c ≡ Some u → AtRow step (IsFreeAt path from count) t.below) [
      | None ↦ λ is f. absurd (no_child u f)
      | Some v ↦ λ is f. free_row k path u from count a l (free_at k path u from count a l p q o w) above 0 step t.below v h is f
          (subst (λ i. IsApart (Run (above ++ i ∷ path) a l) (intervals above 0 t.below)) (let y : step ≡ 0 + step = omega arith in y) n)
    ]) refl e
