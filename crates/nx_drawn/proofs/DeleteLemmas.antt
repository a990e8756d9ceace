-- What a `delete` leaves is cut into parts that aren't too heavy.
use Rattle.std.proofs.Common.{◌≡◌, ℕ, zero, suc, ◌-◌, ◌≤◌, nat_lt, if◌then◌else◌, true, false, List, [], ◌∷◌, refl, ap, arith}
use Rattle.nx_weights.specs.Weight.{weight}
use Rattle.nx_cuts.specs.Cut.{CutForest, Bare, Grown, Kept, CutTree, width, part_weight, AreParts, AreFree}
use Rattle.nx_cuts.specs.Rows.{changed_row}
use Rattle.nx_cuts.proofs.DeepLemmas.{width-changed}
use Rattle.nx_drawn.specs.Edits.{kept, removed_row, deleted}
use Rattle.nx_drawn.specs.Splits.{whole_document}

-- what of free trees is left is free
pub free_removed : (p : ℕ) (m : CutForest) → AreFree m → AreFree (removed_row p m)
free_removed p Bare f = tt
free_removed zero (Grown n b s) f = f
free_removed (suc p) (Grown n b s) f = free_removed p s f
free_removed p (Kept u m s) f = absurd f

weight-kept : (m s : CutForest) → part_weight (kept tt m s) ≡ part_weight s
weight-kept Bare s = refl
weight-kept (Grown n b r) s = refl
weight-kept (Kept u m r) s = refl

-- ... and weighs no more
light_removed : (p : ℕ) (c : CutForest) → part_weight (removed_row p c) ≤ part_weight c
light_removed p Bare = omega arith
light_removed zero (Grown n b s) = omega arith
light_removed (suc p) (Grown n b s) = omega (arith, light_removed p s)
light_removed p (Kept u m s) =
    elim (nat_lt p (width m)) as (λ t. part_weight (if t then kept tt (removed_row p m) s else Kept u m (removed_row (p - width m) s)) ≤ part_weight s) [
      | true ↦ let e = weight-kept (removed_row p m) s in omega (arith, e)
      | false ↦ light_removed (p - width m) s
    ]

kept_parts : (k : ℕ) (m s : CutForest) → AreFree m → part_weight m ≤ k → AreParts k m → AreParts k s → AreParts k (kept tt m s)
kept_parts k Bare s f w a b = b
kept_parts k (Grown n d r) s f w a b = (omega arith, f, w, a, b)
kept_parts k (Kept u m r) s f w a b = absurd f

parts_removed : (k p : ℕ) (c : CutForest) → AreParts k c → AreParts k (removed_row p c)
parts_removed k p Bare h = tt
parts_removed k zero (Grown n b s) h = h.1
parts_removed k (suc p) (Grown n b s) h = (h.0, parts_removed k p s h.1)
parts_removed k p (Kept u m s) h =
    elim (nat_lt p (width m)) as (λ t. AreParts k (if t then kept tt (removed_row p m) s else Kept u m (removed_row (p - width m) s))) [
      | true ↦ kept_parts k (removed_row p m) s (free_removed p m h.1) (let x = light_removed p m in let y = h.2 in omega arith) (parts_removed k p m h.3) h.4
      | false ↦ (h.0, h.1, h.2, h.3, parts_removed k (p - width m) s h.4)
    ]

-- the same node, over parts that aren't too heavy, and no heavier than before
pub record IsLighter (k : ℕ) (old new : CutTree) : Type 0 where
  pub same : new.node ≡ old.node
  pub parts : AreParts k new.below
  pub less : part_weight new.below ≤ part_weight old.below

module _ (k : ℕ) (change : CutTree → CutTree) (lightens : (t : CutTree) → AreParts k t.below → IsLighter k t (change t)) where
  free_changed : (p : ℕ) (c : CutForest) → AreFree c → AreFree (changed_row p change c)
  free_changed p Bare f = tt
  free_changed zero (Grown n b s) f = f
  free_changed (suc p) (Grown n b s) f = free_changed p s f
  free_changed p (Kept u m s) f = absurd f

  light_changed : (p : ℕ) (c : CutForest) → AreParts k c → part_weight (changed_row p change c) ≤ part_weight c
  light_changed p Bare h = omega arith
  light_changed zero (Grown n b s) h =
      let l = lightens (record { node = n; below = b }) h.0 in let e : weight (change (record { node = n; below = b })).node ≡ weight n = ap weight l.same in let x = l.less in omega arith
  light_changed (suc p) (Grown n b s) h = omega (arith, light_changed p s h.1)
  light_changed p (Kept u m s) h =
      elim (nat_lt p (width m)) as (λ t. part_weight (if t then Kept u (changed_row p change m) s else Kept u m (changed_row (p - width m) change s)) ≤ part_weight s) [
        | true ↦ omega arith
        | false ↦ light_changed (p - width m) s h.4
      ]

  parts_changed : (p : ℕ) (c : CutForest) → AreParts k c → AreParts k (changed_row p change c)
  parts_changed p Bare h = tt
  parts_changed zero (Grown n b s) h = ((lightens (record { node = n; below = b }) h.0).parts, h.1)
  parts_changed (suc p) (Grown n b s) h = (h.0, parts_changed p s h.1)
  parts_changed p (Kept u m s) h =
      elim (nat_lt p (width m)) as (λ t. AreParts k (if t then Kept u (changed_row p change m) s else Kept u m (changed_row (p - width m) change s))) [
        | true ↦ (let w = width-changed p change m in let x = h.0 in omega arith, free_changed p m h.1, let x = light_changed p m h.3 in let y = h.2 in omega arith, parts_changed p m h.3, h.4)
        | false ↦ (h.0, h.1, h.2, h.3, parts_changed (p - width m) s h.4)
      ]

deleted_lighter : (k : ℕ) (path : List ℕ) (t : CutTree) → AreParts k t.below → IsLighter k t (deleted path t)
deleted_lighter k [] t h = record { same = refl; parts = h; less = omega arith }
deleted_lighter k (p ∷ []) t h = record { same = refl; parts = parts_removed k p t.below h; less = light_removed p t.below }
deleted_lighter k (p ∷ q ∷ path) t h = record {
  same = refl;
  parts = parts_changed k (deleted (q ∷ path)) (λ u g. deleted_lighter k (q ∷ path) u g) p t.below h;
  less = light_changed k (deleted (q ∷ path)) (λ u g. deleted_lighter k (q ∷ path) u g) p t.below h;
}

pub deleted_feasible : (k : ℕ) (path : List ℕ) (t : CutTree) → AreParts k (whole_document t) → AreParts k (whole_document (deleted path t))
deleted_feasible k path t h =
    let l = deleted_lighter k path t h.3.0 in
    let e : weight (deleted path t).node ≡ weight t.node = ap weight l.same in
    let x = l.less in let y = h.2 in (h.0, h.1, omega arith, (l.parts, tt), tt)
