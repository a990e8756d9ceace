-- Parts and the list of their weights.
use Rattle.std.proofs.Common.{◌≡◌, ℕ, zero, suc, ◌+◌, ◌<◌, ◌≤◌, List, length, map, get_or, refl, ap, ◌∙◌, arith}
use Rattle.std.specs.List.{All, range_with_len}
use Rattle.nx_tree.specs.Forest.{OrderedTree}
use Rattle.nx_parts.specs.declared.interval.Interval.{Interval}
use Rattle.nx_parts.specs.declared.error.PartsError.TheVariants.{Heavy}
use Rattle.nx_parts.specs.Partitioning.{owned_weight, part_weights, IsPartitioning, IsFeasible}
use Rattle.nx_parts.specs.Refusal.{IsFirst, IsHeavy, IsNotFeasible}
use Rattle.nx_parts.specs.Light.{IsAbove, IsFirstAbove}

length-mapped_range : (f : ℕ → ℕ) (a n : ℕ) → length (map f (range_with_len a n)) ≡ n
length-mapped_range f a zero = refl
length-mapped_range f a (suc n) = ap suc (length-mapped_range f (a + 1) n)

at-mapped_range : (f : ℕ → ℕ) (a n k d : ℕ) → k < n → get_or (map f (range_with_len a n)) k d ≡ f (a + k)
at-mapped_range f a zero k d h = absurd (omega arith)
at-mapped_range f a (suc n) zero d h = ap f (let e : a ≡ a + 0 = omega arith in e)
at-mapped_range f a (suc n) (suc k) d h = at-mapped_range f (a + 1) n k d (omega arith) ∙ ap f (let e : a + 1 + k ≡ a + suc k = omega arith in e)

module _ (tree : OrderedTree) (parts : List Interval) (weights : List ℕ) (are : weights ≡ part_weights tree parts) where
  pub length-weights : length weights ≡ length parts
  length-weights = ap length are ∙ length-mapped_range (owned_weight tree parts) 0 (length parts)

  weight_at : (k : ℕ) → k < length parts → get_or weights k 0 ≡ owned_weight tree parts k
  weight_at k h =
      ap (λ (xs : List ℕ). get_or xs k 0) are
      ∙ at-mapped_range (owned_weight tree parts) 0 (length parts) k 0 h
      ∙ ap (owned_weight tree parts) (let e : 0 + k ≡ k = omega arith in e)

  pub feasible : (k : ℕ) → IsPartitioning tree parts → All (λ weight. weight ≤ k) weights → IsFeasible k tree parts
  feasible k p all = record {
    partitioning = p;
    light = λ index h. let e = weight_at index h in let n = length-weights in let a = all index 0 (omega arith) in omega arith;
  }

  heavy_from : (k index : ℕ) → IsAbove k weights index → IsHeavy k tree parts index
  heavy_from k index h =
      let n = length-weights in
      let a = h.0 in
      let b = h.1 in
      let lt : index < length parts = omega arith in
      let e = weight_at index lt in
      (lt, omega arith)

  above_from : (k index : ℕ) → IsHeavy k tree parts index → IsAbove k weights index
  above_from k index h =
      let n = length-weights in
      let a = h.0 in
      let b = h.1 in
      let e = weight_at index a in
      (omega arith, omega arith)

  pub too_heavy : (k index slots : ℕ) → IsPartitioning tree parts → IsFirstAbove k weights (index, slots) → IsNotFeasible k tree parts (Heavy index slots)
  too_heavy k index slots p h =
      let first : IsFirst (IsHeavy k tree parts) index = record {
        holds = heavy_from k index h.0.holds;
        before = λ earlier lt x. h.0.before earlier lt (above_from k earlier x);
      } in
      (p, first, h.1 ∙ weight_at index first.holds.0)
