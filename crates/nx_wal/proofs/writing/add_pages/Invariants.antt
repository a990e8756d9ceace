use Rattle.std.proofs.Common.{ℕ, ◌≡◌, ◌+◌, ◌*◌, ◌≤◌, ◌++◌, List, length}
use Rattle.nx_replay.specs.Log.{entry_bytes}
use Rattle.nx_wal.specs.Places.{Kept}
use Rattle.nx_wal.specs.Writing.{entries_of}
use Rattle.nx_wal.specs.Gathering.{AddsBytes}
use Rattle.nx_wal.proofs.writing.add_pages.Given as goal

abbrev pub invariant-loop-page : goal.invariant-loop-page
invariant-loop-page g l = record {
  gone : List (ℕ × Kept);
  split : gone ++ l.page-iterator ≡ l.waiting.entries;
  ends : l.block.at + length l.block.bytes.items ≡ l.initial.block.at + length l.initial.block.bytes.items + 8196 * length gone;
  adds : AddsBytes g.D.Disk (entry_bytes (entries_of gone)) l.initial.block l.block l.initial.disk l.disk;
  long : length (entry_bytes (entries_of gone)) ≡ 8196 * length gone;
  faults : g.D.Disk.faults l.initial.disk ≤ g.D.Disk.faults l.disk;
}
