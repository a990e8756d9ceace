use Rattle.std.proofs.Common.{ℕ, ◌≡◌, ◌+◌, ◌<◌, ◌≤◌, ◌++◌, List, Some}
use Rattle.std.specs.Prelude.{Option, min}
use Rattle.std.specs.List.{AllByRecursion}
use Rattle.std.specs.BTreeMap.{get}
use Rattle.std.specs.Ordering.{nat_cmp}
use Rattle.nx_wal.proofs.places.logged_count.Given as goal

abbrev pub invariant-loop-page : goal.invariant-loop-page
invariant-loop-page l = record {
  gone : List (ℕ × Option ℕ);
  split : gone ++ l.page-iterator ≡ l.places.entries;
  above : AllByRecursion (λ (e : ℕ × Option ℕ). (at : ℕ) → e.1 ≡ Some at → min (e.0 + 1) 4294967295 ≤ l.count) gone;
  last : 0 < l.count → (p : ℕ) × (at : ℕ) × (get nat_cmp l.places p ≡ Some (Some at)) × (l.count ≡ min (p + 1) 4294967295);
}
