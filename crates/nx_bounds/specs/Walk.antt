-- What a walk over the nodes of a tree says of their bounds, and what a comparison of two lists of weights does.
use Rattle.std.specs.Prelude.{◌≡◌, ◌≢◌, ℕ, ◌+◌, ◌<◌, List, length, Some, slice_get, slice_index}
use Rattle.nx_tree.specs.Forest.{OrderedTree}
use Rattle.nx_weights.specs.Weight.{weight}
use Rattle.nx_parts.specs.declared.bounds.Bound.{Bound}
use Rattle.nx_choices.specs.declared.child.Field.{Field}
use Rattle.nx_bounds.specs.declared.error.BoundsError.{BoundsError}
use Rattle.nx_bounds.specs.declared.error.BoundsError.TheVariants.{WrongWeight, Unsupported, Count, Memory}
use Rattle.nx_choices.specs.Claim.{Claimed, claim, IsSupported, IsExceeded, AreSupportedBefore}
use Rattle.nx_minima.specs.Seen.{as_child}
use Rattle.nx_bounds.specs.Claim.{claimed_children}

-- what is claimed of the root of a tree, where the bounds of the nodes below it come next
abbrev pub claim_at : ℕ → OrderedTree → List Bound → Bound → Claimed
claim_at k tree bounds bound = record { own = weight tree.node; children = claimed_children k tree.below bounds; bound = as_child bound }

-- this number of what is claimed of a node is the first that isn't supported
pub record IsFirstExceeded (k : ℕ) (node : Claimed) (field : Field) (claimed_number found : ℕ) : Type 0 where
  pub fields_before : AreSupportedBefore k field node
  pub is_claimed : claimed_number ≡ claim field node.bound
  pub exceeded : IsExceeded k field node found

-- the first of these claims that isn't supported stands at that index
pub record IsFirstUnsupported (k : ℕ) (claims : List Claimed) (index : ℕ) (field : Field) (claimed_number found : ℕ) : Type 0 where
  pub node : Claimed
  pub there : slice_get claims index ≡ Some node
  pub before : (earlier : ℕ) (other : Claimed) → earlier < index → slice_get claims earlier ≡ Some other → IsSupported k other
  pub exceeded : IsFirstExceeded k node field claimed_number found

-- why what is claimed of one node, whose place in document order is given, isn't supported
abbrev pub NodeFails : ℕ → Claimed → ℕ → BoundsError → Type 0
NodeFails k node place (Unsupported at field claimed_number found) = (at ≡ place) × IsFirstExceeded k node field claimed_number found
NodeFails k node place Memory = Unit {0}
NodeFails k node place _ = ⊥

-- why these claims aren't supported, the first of which is that of the node at the place
abbrev pub WalkFails : ℕ → List Claimed → ℕ → BoundsError → Type 0
WalkFails k claims place (Unsupported at field claimed_number found) = (index : ℕ) × (at ≡ place + index) × IsFirstUnsupported k claims index field claimed_number found
WalkFails k claims place Memory = Unit {0}
WalkFails k claims place _ = ⊥

-- the first weight that isn't the one that was found stands at that index
pub record IsFirstWrong (found claimed : List ℕ) (index claimed_weight found_weight : ℕ) : Type 0 where
  pub inside : index < length found
  pub other : slice_index claimed index ≢ slice_index found index
  pub before : (earlier : ℕ) → earlier < index → slice_index claimed earlier ≡ slice_index found earlier
  pub is_claimed : claimed_weight ≡ slice_index claimed index
  pub is_found : found_weight ≡ slice_index found index

-- why the weights that are claimed aren't those that were found
abbrev pub WeightsFail : List ℕ → List ℕ → BoundsError → Type 0
WeightsFail found claimed (WrongWeight index claimed_weight found_weight) = IsFirstWrong found claimed index claimed_weight found_weight
WeightsFail found claimed _ = ⊥

-- why there aren't so few intervals as the bound of the root says
abbrev pub CountFails : ℕ → ℕ → BoundsError → Type 0
CountFails number least (Count number_of_intervals bound) = (least < number) × (number_of_intervals ≡ number) × (bound ≡ least)
CountFails number least _ = ⊥
