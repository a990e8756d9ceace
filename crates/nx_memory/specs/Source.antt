-- What is left of an input in memory.
use Rattle.std.specs.Prelude.{ℕ, List, drop}
use Rattle.nx_memory.specs.declared.source.Source.{Source}

-- the bytes that weren't given yet
abbrev pub bytes_left : Source → List ℕ
bytes_left source = drop source.given source.bytes.items
