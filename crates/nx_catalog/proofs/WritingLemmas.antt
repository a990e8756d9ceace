-- Bytes written one after another.
use Rattle.std.proofs.Common.{ℕ, List, map}
use Rattle.std.specs.Prelude.{flat_map}
use Rattle.std.specs.Global.{Vec}
use Rattle.std.specs.Borrow.{Bor}
use Rattle.std.specs.Map.Iter.{deref_pair}
use Rattle.nx_hold.specs.declared.entry.DocEntry.{DocEntry}
use Rattle.nx_pyx.specs.DocumentName.{by_bytes}
use Rattle.nx_catalog.specs.Catalog.{document_bytes}

-- an entry of the map
abbrev pub Entry : Type 0
Entry = Bor (Vec ℕ) × Bor DocEntry

-- the bytes of these entries
abbrev pub entries_bytes : List Entry → List ℕ
entries_bytes es = flat_map document_bytes (by_bytes (map deref_pair es))
