-- A set of names.
use Rattle.std.specs.Prelude.{◌≡◌, ℕ, List, map}
use Rattle.std.specs.Global.{Vec}
use Rattle.nx_pyx.specs.declared.names.Names.{Names}
use Rattle.nx_pyx.specs.Fault.{is_among}

-- the names that the set has
abbrev pub names_in : Names → List (List ℕ)
names_in set = map (λ (name : Vec ℕ). name.items) set.names.keys

-- the set has each of these names and no other one
pub record HoldsNames (set : Names) (names : List (List ℕ)) : Type 0 where
  pub same : (name : List ℕ) → is_among name (names_in set) ≡ is_among name names
