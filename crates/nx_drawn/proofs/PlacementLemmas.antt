-- The intervals beside a node that comes, or a tree that goes.
use Rattle.std.proofs.Common.{◌≡◌, ℕ, zero, suc, ◌+◌, ◌-◌, ◌<◌, ◌≤◌, ◌==◌, nat_lt, if◌then◌else◌, Bool, true, false, List, [], ◌∷◌, ◌++◌, map, refl, sym, ap, ◌∙◌, arith, append-nil}
use Rattle.std.proofs.lemmas.Bool.Decides.{nat_tests}
use Rattle.nx_tree.specs.declared.node.Node.{Node}
use Rattle.nx_matrix.specs.declared.rule.Entry.{Entry}
use Rattle.nx_matrix.specs.declared.rule.Entry.TheVariants.{Standalone, Cluster, Free}
use Rattle.nx_cuts.specs.Cut.{CutForest, Bare, Grown, Kept, width, AreParts, AreFree}
use Rattle.nx_cuts.specs.Rows.{joined_row, first, behind}
use Rattle.nx_drawn.specs.Edits.{placed_beside, placed_among, planted_row, kept, removed_row}
use Rattle.nx_drawn.specs.Placement.{Run, runs, later, earlier, new_run, divided_run, runs_with, less_run, runs_without, PlantsRuns, RemovesRuns}
use Rattle.nx_drawn.proofs.DeleteLemmas.{free_removed}
use Rattle.nx_drawn.proofs.FormedLemmas.{width_first, width_behind}
use Rattle.nx_cuts.proofs.RowLemmas.{width-joined_row}

pair : (a b c d : ℕ) → a ≡ c → b ≡ d → ◌≡◌ {A = Run} (a, b) (c, d)
pair a b c d e f = λ i. (e i, f i)

runs_later : (k a : ℕ) (c : CutForest) → AreParts k c → runs (a + 1) c ≡ map later (runs a c)
runs_later k a Bare h = refl
runs_later k a (Grown n b s) h = runs_later k (a + 1) s h.1
runs_later k a (Kept u m s) h =
    let w = h.0 in
    ap (λ (r : Run). r ∷ runs (a + 1 + width m) s) (pair (a + 1) (a + 1 + width m - 1) (a + 1) (a + width m - 1 + 1) refl (omega arith))
    ∙ ap (λ rs. (a + 1, a + width m - 1 + 1) ∷ rs) (ap (λ i. runs i s) (let e : a + 1 + width m ≡ a + width m + 1 = omega arith in e) ∙ runs_later k (a + width m) s h.4)

take_if : {X : Type 0} (t : Bool) (x y : X) → t ≡ true → (if t then x else y) ≡ x
take_if true x y e = refl
take_if false x y e = cc

skip_if : {X : Type 0} (t : Bool) (x y : X) → t ≡ false → (if t then x else y) ≡ y
skip_if true x y e = cc
skip_if false x y e = refl

-- a node in front of them
runs_front : (k : ℕ) (entry : Entry) (p a : ℕ) (c : CutForest) → AreParts k c → p ≤ a → runs_with entry p (runs a c) ≡ new_run entry p ++ map later (runs a c)
runs_front k entry p a Bare h le = sym (append-nil (new_run entry p))
runs_front k entry p a (Grown n b s) h le = runs_front k entry p (a + 1) s h.1 (omega arith)
runs_front k entry p a (Kept u m s) h le =
    let w = h.0 in
    skip_if (nat_lt (a + width m - 1) p) _ _ (let l : p ≤ a + width m - 1 = omega arith in grind (arith, nat_tests)) ∙ skip_if (nat_lt a p) _ _ (grind (arith, nat_tests))

runs_beside : (k : ℕ) (entry : Entry) (node : Node) (a : ℕ) (c : CutForest) → AreParts k c → runs a (placed_beside tt entry node c) ≡ new_run entry a ++ map later (runs a c)
runs_beside k Standalone node a c h = ap (λ (r : Run). r ∷ runs (a + 1) c) (pair a (a + 1 - 1) a a refl (omega arith)) ∙ ap (λ rs. (a, a) ∷ rs) (runs_later k a c h)
runs_beside k Cluster node a c h = runs_later k a c h
runs_beside k Free node a c h = runs_later k a c h

runs_among : (k : ℕ) (entry : Entry) (node : Node) (p a : ℕ) (m s : CutForest) → 1 ≤ p → p < width m → AreFree m → AreParts k s
    → runs a (placed_among tt tt tt entry node p m s) ≡ divided_run entry (a + p) (a, a + width m - 1) ++ map later (runs (a + width m) s)
runs_among k Free node p a m s low high f h =
    let x = width_first p m f (omega arith) in
    let y = width_behind p m f (omega arith) in
    let z = width-joined_row (first p m) (Grown node Bare (behind p m)) in
    let w : width (joined_row (first p m) (Grown node Bare (behind p m))) ≡ width m + 1 = omega (arith, x, y, z) in
    ap (λ (i : ℕ). (a, a + i - 1) ∷ runs (a + i) s) w ∙ ap (λ (r : Run). r ∷ runs (a + (width m + 1)) s) (pair a (a + (width m + 1) - 1) a (a + width m - 1 + 1) refl (omega arith))
    ∙ ap (λ rs. (a, a + width m - 1 + 1) ∷ rs) (ap (λ i. runs i s) (let e : a + (width m + 1) ≡ a + width m + 1 = omega arith in e) ∙ runs_later k (a + width m) s h)
runs_among k Standalone node p a m s low high f h =
    let x = width_first p m f (omega arith) in
    let y = width_behind p m f (omega arith) in
    let v : width (behind p m) ≡ width m - p = omega (arith, y) in
    ap (λ (i : ℕ). (a, a + i - 1) ∷ (a + i, a + i + 1 - 1) ∷ (a + i + 1, a + i + 1 + width (behind p m) - 1) ∷ runs (a + i + 1 + width (behind p m)) s) x
    ∙ ap (λ (i : ℕ). (a, a + p - 1) ∷ (a + p, i) ∷ (a + p + 1, a + p + 1 + width (behind p m) - 1) ∷ runs (a + p + 1 + width (behind p m)) s) (let e : a + p + 1 - 1 ≡ a + p = omega arith in e)
    ∙ ap (λ (i : ℕ). (a, a + p - 1) ∷ (a + p, a + p) ∷ (a + p + 1, i - 1) ∷ runs i s) (let e : a + p + 1 + width (behind p m) ≡ a + width m + 1 = omega (arith, y) in e)
    ∙ ap (λ (i : ℕ). (a, a + p - 1) ∷ (a + p, a + p) ∷ (a + p + 1, i) ∷ runs (a + width m + 1) s) (let e : a + width m + 1 - 1 ≡ a + width m - 1 + 1 = omega arith in e)
    ∙ ap (λ rs. (a, a + p - 1) ∷ (a + p, a + p) ∷ (a + p + 1, a + width m - 1 + 1) ∷ rs) (runs_later k (a + width m) s h)
runs_among k Cluster node p a m s low high f h =
    let x = width_first p m f (omega arith) in
    let y = width_behind p m f (omega arith) in
    ap (λ (i : ℕ). (a, a + i - 1) ∷ (a + i + 1, a + i + 1 + width (behind p m) - 1) ∷ runs (a + i + 1 + width (behind p m)) s) x
    ∙ ap (λ (i : ℕ). (a, a + p - 1) ∷ (a + p + 1, i - 1) ∷ runs i s) (let e : a + p + 1 + width (behind p m) ≡ a + width m + 1 = omega (arith, y) in e)
    ∙ ap (λ (i : ℕ). (a, a + p - 1) ∷ (a + p + 1, i) ∷ runs (a + width m + 1) s) (let e : a + width m + 1 - 1 ≡ a + width m - 1 + 1 = omega arith in e)
    ∙ ap (λ rs. (a, a + p - 1) ∷ (a + p + 1, a + width m - 1 + 1) ∷ rs) (runs_later k (a + width m) s h)

runs_there : (k : ℕ) (entry : Entry) (node : Node) (p a : ℕ) (u : Unit {0}) (m s : CutForest) (t : Bool) → nat_lt (suc p) (width m) ≡ t → AreParts k (Kept u m s)
    → ((q : ℕ) → q ≤ width s → runs (a + width m) (planted_row tt tt entry node q s) ≡ runs_with entry (a + width m + q) (runs (a + width m) s)) → suc p ≤ width m + width s
    → runs a (if t then placed_among tt tt tt entry node (suc p) m s else Kept u m (planted_row tt tt entry node (suc p - width m) s)) ≡ runs_with entry (a + suc p) ((a, a + width m - 1) ∷ runs (a + width m) s)
runs_there k entry node p a u m s true e h ih le =
    let l : suc p < width m = grind (arith, nat_tests) in
    runs_among k entry node (suc p) a m s (omega arith) l h.1 h.4
    ∙ sym (skip_if (nat_lt (a + width m - 1) (a + suc p)) _ _ (let g : a + suc p ≤ a + width m - 1 = omega arith in grind (arith, nat_tests)) ∙ take_if (nat_lt a (a + suc p)) _ _ (let g : a < a + suc p = omega arith in grind (arith, nat_tests)))
runs_there k entry node p a u m s false e h ih le =
    let l : width m ≤ suc p = grind (arith, nat_tests) in
    let w = h.0 in
    let i : a + width m + (suc p - width m) ≡ a + suc p = omega arith in
    ap (λ rs. (a, a + width m - 1) ∷ rs) (ih (suc p - width m) (omega arith) ∙ ap (λ q. runs_with entry q (runs (a + width m) s)) i)
    ∙ sym (take_if (nat_lt (a + width m - 1) (a + suc p)) _ _ (let g : a + width m - 1 < a + suc p = omega arith in grind (arith, nat_tests)))

plants_from : (k : ℕ) (entry : Entry) (node : Node) (p a : ℕ) (c : CutForest) → AreParts k c → p ≤ width c → runs a (planted_row tt tt entry node p c) ≡ runs_with entry (a + p) (runs a c)
plants_from k entry node zero a c h le = runs_beside k entry node a c h ∙ sym (runs_front k entry a a c h (omega arith)) ∙ ap (λ i. runs_with entry i (runs a c)) (let e : a ≡ a + 0 = omega arith in e)
plants_from k entry node (suc p) a Bare h le = absurd (omega arith)
plants_from k entry node (suc p) a (Grown n b s) h le =
    plants_from k entry node p (a + 1) s h.1 (omega arith) ∙ ap (λ i. runs_with entry i (runs (a + 1) s)) (let e : a + 1 + p ≡ a + suc p = omega arith in e)
plants_from k entry node (suc p) a (Kept u m s) h le =
    runs_there k entry node p a u m s (nat_lt (suc p) (width m)) refl h (λ q l. plants_from k entry node q (a + width m) s h.4 l) le

pub plants_runs : PlantsRuns
plants_runs k entry node p c h le = plants_from k entry node p 0 c h le ∙ ap (λ i. runs_with entry i (runs 0 c)) (let e : 0 + p ≡ p = omega arith in e)

-- one position later and back
back : (rs : List Run) → map earlier (map later rs) ≡ rs
back [] = refl
back (r ∷ rs) = ap (λ (x : Run). x ∷ map earlier (map later rs)) (pair (r.0 + 1 - 1) (r.1 + 1 - 1) r.0 r.1 (omega arith) (omega arith)) ∙ ap (λ xs. r ∷ xs) (back rs)

runs_back : (k a : ℕ) (c : CutForest) → AreParts k c → map earlier (runs (a + 1) c) ≡ runs a c
runs_back k a c h = ap (map earlier) (runs_later k a c h) ∙ back (runs a c)

-- a tree in front of them
runs_behind : (k p a : ℕ) (c : CutForest) → AreParts k c → p < a → runs_without p (runs a c) ≡ map earlier (runs a c)
runs_behind k p a Bare h lt = refl
runs_behind k p a (Grown n b s) h lt = runs_behind k p (a + 1) s h.1 (omega arith)
runs_behind k p a (Kept u m s) h lt =
    let w = h.0 in
    skip_if (nat_lt (a + width m - 1) p) _ _ (let l : p ≤ a + width m - 1 = omega arith in grind (arith, nat_tests)) ∙ take_if (nat_lt p a) _ _ (grind (arith, nat_tests))

width_removed : (p : ℕ) (m : CutForest) → AreFree m → p < width m → width (removed_row p m) + 1 ≡ width m
width_removed p Bare f lt = absurd (omega arith)
width_removed zero (Grown n b s) f lt = omega arith
width_removed (suc p) (Grown n b s) f lt = omega (arith, width_removed p s f (omega arith))
width_removed p (Kept u m s) f lt = absurd f

-- an interval of what is left of so many members
runs_kept : (k a w : ℕ) (m s : CutForest) → AreFree m → AreParts k s → width m + 1 ≡ w → runs a (kept tt m s) ≡ less_run (a, a + w - 1) ++ map earlier (runs (a + w) s)
runs_kept k a w Bare s f h e =
    sym (ap (λ rs. rs ++ map earlier (runs (a + w) s)) (take_if (a == (a + w - 1)) _ _ (let l : a ≡ a + w - 1 = omega arith in grind (arith, nat_tests)))
    ∙ ap (λ i. map earlier (runs i s)) (let l : a + w ≡ a + 1 = omega arith in l) ∙ runs_back k a s h)
runs_kept k a w (Grown n b r) s f h e =
    sym (ap (λ rs. rs ++ map earlier (runs (a + w) s)) (skip_if (a == (a + w - 1)) _ _ (let l : a < a + w - 1 = omega arith in grind (arith, nat_tests)))
    ∙ ap (λ rs. (a, a + w - 1 - 1) ∷ rs) (ap (λ i. map earlier (runs i s)) (let l : a + w ≡ a + (1 + width r) + 1 = omega arith in l) ∙ runs_back k (a + (1 + width r)) s h)
    ∙ ap (λ (i : ℕ). (a, i) ∷ runs (a + (1 + width r)) s) (let l : a + w - 1 - 1 ≡ a + (1 + width r) - 1 = omega arith in l))
runs_kept k a w (Kept u m r) s f h e = absurd f

removed_there : (k p a : ℕ) (u : Unit {0}) (m s : CutForest) (t : Bool) → nat_lt p (width m) ≡ t → AreParts k (Kept u m s) → AreFree (removed_row p m)
    → ((q : ℕ) → q < width s → runs (a + width m) (removed_row q s) ≡ runs_without (a + width m + q) (runs (a + width m) s)) → p < width m + width s
    → runs a (if t then kept tt (removed_row p m) s else Kept u m (removed_row (p - width m) s)) ≡ runs_without (a + p) ((a, a + width m - 1) ∷ runs (a + width m) s)
removed_there k p a u m s true e h free ih lt =
    let l : p < width m = grind (arith, nat_tests) in
    runs_kept k a (width m) (removed_row p m) s free h.4 (width_removed p m h.1 l)
    ∙ sym (skip_if (nat_lt (a + width m - 1) (a + p)) _ _ (let g : a + p ≤ a + width m - 1 = omega arith in grind (arith, nat_tests)) ∙ skip_if (nat_lt (a + p) a) _ _ (let g : a ≤ a + p = omega arith in grind (arith, nat_tests)))
removed_there k p a u m s false e h free ih lt =
    let l : width m ≤ p = grind (arith, nat_tests) in
    let w = h.0 in
    let i : a + width m + (p - width m) ≡ a + p = omega arith in
    ap (λ rs. (a, a + width m - 1) ∷ rs) (ih (p - width m) (omega arith) ∙ ap (λ q. runs_without q (runs (a + width m) s)) i)
    ∙ sym (take_if (nat_lt (a + width m - 1) (a + p)) _ _ (let g : a + width m - 1 < a + p = omega arith in grind (arith, nat_tests)))

removes_from : (k p a : ℕ) (c : CutForest) → AreParts k c → p < width c → runs a (removed_row p c) ≡ runs_without (a + p) (runs a c)
removes_from k p a Bare h lt = absurd (omega arith)
removes_from k zero a (Grown n b s) h lt = sym (runs_behind k (a + 0) (a + 1) s h.1 (omega arith) ∙ runs_back k a s h.1)
removes_from k (suc p) a (Grown n b s) h lt =
    removes_from k p (a + 1) s h.1 (omega arith) ∙ ap (λ i. runs_without i (runs (a + 1) s)) (let e : a + 1 + p ≡ a + suc p = omega arith in e)
removes_from k p a (Kept u m s) h lt = removed_there k p a u m s (nat_lt p (width m)) refl h (free_removed p m h.1) (λ q l. removes_from k q (a + width m) s h.4 l) lt

pub removes_runs : RemovesRuns
removes_runs k p c h lt = removes_from k p 0 c h lt ∙ ap (λ i. runs_without i (runs 0 c)) (let e : 0 + p ≡ p = omega arith in e)
