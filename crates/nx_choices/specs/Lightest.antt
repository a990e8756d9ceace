-- What the lightest intervals of given children weigh, by how many members are in their second form.
use Rattle.std.specs.Prelude.{◌≡◌, ◌↔◌, ◌⊎◌, ℕ, ◌+◌, ◌-◌, ◌*◌, ◌<◌, ◌≤◌, min, max, List, [], ◌∷◌, ◌++◌, length, slice_index, Option, None, Some}
use Rattle.nx_choices.specs.declared.child.Child.{Child}
use Rattle.nx_choices.specs.Profile.{IsInterval}

-- the lightest interval of these children with at most so many members in their second form weighs so much, or more than k and so does the weight
pub record IsLightest (k : ℕ) (children : List Child) (most weight : ℕ) : Type 0 where
  pub tells : (limit : ℕ) → limit ≤ k → IsInterval limit children most ↔ weight ≤ limit

-- The weights are those of the lightest intervals. More members in their second form than there are weights don't help, where fewer than `extras` are asked for. The first weight that is at most k is the one at `fewest`.
pub record AreLightest (k : ℕ) (children : List Child) (extras : ℕ) (weights : List ℕ) (fewest : ℕ) : Type 0 where
  pub some : 1 ≤ length weights
  pub few : length weights ≤ 1 + length children
  pub most : length weights ≤ max 1 extras
  pub each : (most : ℕ) → most < length weights → IsLightest k children most (slice_index weights most)
  pub rest : (limit most : ℕ) → limit ≤ k → length weights < extras → IsInterval limit children most → IsInterval limit children (length weights - 1)
  pub heavy : (most : ℕ) → most < fewest → k < slice_index weights most
  pub light : fewest < length weights → slice_index weights fewest ≤ k
  pub within : fewest ≤ length weights
  pub small : (index : ℕ) → slice_index weights index ≤ 256 * length children

-- a weight for one member more in its second form was added, or it wouldn't help, or isn't asked for
abbrev pub IsLengthened : ℕ → Child → List ℕ → List ℕ → Type 0
IsLengthened extras child old new =
    ((new ≡ old) × ((child.lean ≤ child.nearly) ⊎ (extras ≤ length old)))
    ⊎ ((child.nearly < child.lean) × (length old < extras) × (new ≡ old ++ (slice_index old (length old - 1) + child.nearly) ∷ []))

-- The child was added to the first `number` weights, but for those before `fewest`.
pub record HasAddedChild (child : Child) (fewest number : ℕ) (old new : List ℕ) : Type 0 where
  pub len : length new ≡ length old
  pub kept : (most : ℕ) → most < fewest → slice_index new most ≡ slice_index old most
  pub first : fewest ≡ 0 → slice_index new 0 ≡ slice_index old 0 + child.lean
  pub others : (most : ℕ) → 1 ≤ most → fewest ≤ most → most < number → slice_index new most ≡ min (slice_index old most + child.lean) (slice_index old (most - 1) + child.nearly)
  pub behind : (most : ℕ) → number ≤ most → slice_index new most ≡ slice_index old most

-- the first weight from `old` on that is at most k stands at `new`
pub record IsSkipped (k : ℕ) (weights : List ℕ) (old new : ℕ) : Type 0 where
  pub on : old ≤ new
  pub heavy : (most : ℕ) → old ≤ most → most < new → k < slice_index weights most
  pub light : new < length weights → slice_index weights new ≤ k
  pub within : old ≤ length weights → new ≤ length weights

-- the index of the first weight that is at most k, if there is one
abbrev pub IsFewest : List ℕ → ℕ → Option ℕ → Type 0
IsFewest weights fewest None = length weights ≤ fewest
IsFewest weights fewest (Some extra) = (extra ≡ fewest) × (fewest < length weights)
