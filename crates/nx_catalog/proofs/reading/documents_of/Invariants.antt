use Rattle.std.specs.BTreeMap.{IsOrdered}
use Rattle.nx_pyx.specs.DocumentName.{vector_order}
use Rattle.nx_catalog.specs.Reading.{documents_at}
use Rattle.std.proofs.Common.{[]}
use Rattle.nx_catalog.proofs.DocumentLemmas.{HasRead}
use Rattle.nx_catalog.proofs.reading.documents_of.Given as goal

abbrev pub invariant-loop : goal.invariant-loop
invariant-loop l = record { read : HasRead l.count l.counter l.last l.rest l.documents.entries (documents_at l.count [] l.bytes); ordered : IsOrdered vector_order l.documents }
