-- What is gathered in a block to be written behind a log's end.
use Rattle.std.specs.Prelude.{◌≡◌, ℕ, ◌+◌, List, ◌++◌, length}
use Rattle.nx_host.specs.declared.disk.Disk.{Ghosts}
use Rattle.nx_wal.specs.declared.block.Block.{Block}
use Rattle.nx_wal.specs.Writing.{Writes, Lays}

-- Since the first state these bytes were laid from an offset on, but for the last of them, which wait in the block.
pub record Gathers {D : Type 0} (d : Ghosts D) (start : ℕ) (bytes : List ℕ) (block : Block) (first now : D) : Type 0 where
  pub laid : List ℕ
  pub split : laid ++ block.bytes.items ≡ bytes
  pub here : block.at ≡ start + length laid
  pub writes : Writes d start (length laid) first now
  pub lays : Lays d start laid first now

-- Whatever was gathered before, it is gathered with these bytes behind it.
abbrev pub AddsBytes : {D : Type 0} → Ghosts D → List ℕ → Block → Block → D → D → Type 0
AddsBytes {D} d bytes before after old new = (start : ℕ) (so_far : List ℕ) (first : D) → Gathers d start so_far before first old → Gathers d start (so_far ++ bytes) after first new

-- Whatever was gathered before, no more was written than that and so many bytes behind it.
abbrev pub WritesNoFurther : {D : Type 0} → Ghosts D → ℕ → Block → D → D → Type 0
WritesNoFurther {D} d n before old new = (start : ℕ) (so_far : List ℕ) (first : D) → Gathers d start so_far before first old → Writes d start (length so_far + n) first new
