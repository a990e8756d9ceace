use Rattle.std.proofs.Common.{ℕ, List, ◌≡◌, ◌+◌, ◌-◌, ◌*◌, ◌≤◌, length, drop}
use Rattle.nx_replay.specs.Log.{entries_in}
use Rattle.nx_wal.specs.Reading.{page_numbers}
use Rattle.nx_wal.specs.Places.{Notes, AreWithin}
use Rattle.nx_wal.proofs.reading.note_pages.Given as goal

abbrev pub invariant-loop-left : goal.invariant-loop-left
invariant-loop-left l = record {
  few : l.left ≤ length l.numbers;
  notes : (log : List ℕ) → l.numbers ≡ page_numbers (entries_in (length l.numbers) (drop l.at log))
      → Notes (entries_in (length l.numbers - l.left) (drop (l.at + 8196 * l.left) log)) log l.initial.places l.places;
  within : (limit : ℕ) → l.at + 8196 * length l.numbers ≤ limit → AreWithin limit l.initial.places → AreWithin limit l.places;
}

abbrev pub decreases-loop-left : goal.decreases-loop-left
decreases-loop-left l = l.left
