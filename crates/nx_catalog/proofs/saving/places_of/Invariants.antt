use Rattle.std.proofs.Common.{◌≡◌, ◌+◌, length}
use Rattle.nx_pyx.specs.DocumentName.{by_bytes}
use Rattle.nx_catalog.specs.Inside.{HavePlaces}
use Rattle.nx_catalog.proofs.WritingLemmas.{entries_bytes}
use Rattle.nx_catalog.proofs.saving.places_of.Given as goal

abbrev pub invariant-loop-name : goal.invariant-loop-name
invariant-loop-name l = record { end : l.end ≡ 4 + length (entries_bytes l.yielded); places : HavePlaces (by_bytes l.fn.documents.entries) l.places }
