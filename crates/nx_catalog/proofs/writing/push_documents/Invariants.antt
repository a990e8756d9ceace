use Rattle.std.proofs.Common.{◌≡◌, ◌++◌, length}
use Rattle.nx_piece.specs.Encoding.{four_bytes}
use Rattle.nx_catalog.proofs.WritingLemmas.{entries_bytes}
use Rattle.nx_catalog.proofs.writing.push_documents.Given as goal

abbrev pub invariant-loop-name : goal.invariant-loop-name
invariant-loop-name l = l.out ≡ (l.fn.out ++ four_bytes (length l.fn.documents.entries)) ++ entries_bytes l.yielded
