use Rattle.std.proofs.Common.{ℕ, ◌≡◌, ◌+◌, ◌*◌, ◌≤◌, ◌++◌, List, length, drop}
use Rattle.std.specs.Prelude.{IsSome}
use Rattle.std.specs.BTreeMap.{get}
use Rattle.std.specs.Ordering.{nat_cmp}
use Rattle.nx_replay.specs.Log.{entry_bytes}
use Rattle.nx_wal.specs.Places.{Kept, Notes, AreWithin}
use Rattle.nx_wal.specs.Writing.{entries_of}
use Rattle.nx_wal.proofs.places.set_places.Given as goal

abbrev pub invariant-loop-page : goal.invariant-loop-page
invariant-loop-page l = record {
  gone : List (ℕ × Kept);
  split : gone ++ l.page-iterator ≡ l.waiting.entries;
  here : l.place ≡ l.at + 8196 * length gone;
  keeps : (q : ℕ) → IsSome (get nat_cmp l.initial.places q) → IsSome (get nat_cmp l.places q);
  notes : (log rest : List ℕ) → drop l.at log ≡ entry_bytes (entries_of l.waiting.entries) ++ rest → Notes (entries_of gone) log l.initial.places l.places;
  within : (limit : ℕ) → l.at + 8196 * length l.waiting.entries ≤ limit → AreWithin limit l.initial.places → AreWithin limit l.places;
}
