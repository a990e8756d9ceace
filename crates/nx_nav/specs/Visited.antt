-- The places of the records that a walk has come to.
use Rattle.std.specs.Prelude.{◌≡◌, ◌↔◌, ◌==◌, ℕ, Bool, true, false, not, cond, List, [], get_or, Contains}
use Rattle.std.specs.Option.{option_map_or}
use Rattle.std.specs.Ordering.{nat_cmp}
use Rattle.std.specs.BTreeMap.{get}
use Rattle.nx_layouts.specs.Layout.{RecordPlace}
use Rattle.nx_nav.specs.declared.visited.Visited.{Visited}

-- the flags of a page's slots
abbrev pub flags_of : Visited → ℕ → List Bool
flags_of visited page = option_map_or (λ flags. flags.items) (get nat_cmp visited.pages page) []

-- whether a slot's flag is set
abbrev pub is_set : List Bool → ℕ → Bool
is_set flags slot = get_or flags slot false

-- They are the places of this list.
pub record HasVisited (visited : Visited) (places : List RecordPlace) : Type 0 where
  pub same : (place : RecordPlace) → (is_set (flags_of visited place.page) place.slot ≡ true) ↔ Contains places place

-- This slot's flag is set beside those that were, and is new where it wasn't among them.
pub record SetsFlag (slot : ℕ) (new : Bool) (old now : List Bool) : Type 0 where
  pub told : new ≡ not (is_set old slot)
  pub flags : (other : ℕ) → is_set now other ≡ cond (slot == other) true (is_set old other)
