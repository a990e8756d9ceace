-- What a search of a tree finds, which stands below a node itself.
use Rattle.std.specs.Prelude.{◌≡◌, ℕ, List, Option, None, Some}
use Rattle.std.specs.List.{find}
use Rattle.std.specs.Option.{option_map}
use Rattle.nx_tree.specs.Forest.{OrderedTree}
use Rattle.nx_weights.specs.Weight.{listed_from, is_heavy, weighed}

-- the path led to the tree before, and leads to its first node that weighs more than k now, whose weight was found; where there is none, the path is what it was
abbrev pub HasSearched : ℕ → OrderedTree → List ℕ → List ℕ → Option ℕ → Type 0
HasSearched k tree before now None = (find (is_heavy k) (listed_from before tree) ≡ None) × (now ≡ before)
HasSearched k tree before now (Some slots) = option_map weighed (find (is_heavy k) (listed_from before tree)) ≡ Some (now, slots)
