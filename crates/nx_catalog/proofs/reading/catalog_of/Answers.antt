use Rattle.std.proofs.Common.{sym, ◌∙◌, arith}
use Rattle.std.proofs.lemmas.Bool.{eqb-true, eqb-false}
use Rattle.nx_pyx.specs.DocumentName.{by_bytes}
use Rattle.nx_catalog.proofs.CatalogLemmas.{none_of_documents, none_of_rules, more_behind, read_documents_are, read_catalog_is}
use Rattle.nx_catalog.proofs.PlaceLemmas.{no_places}
use Rattle.nx_catalog.proofs.reading.catalog_of.Goals as goal

pub returns-in_default : goal.returns-in_default
returns-in_default c = λ contents is. none_of_documents (rw c.in_default.is at c.in_ok-documents.ensures.read) is

pub returns-in_default-2 : goal.returns-in_default-2
returns-in_default-2 c = λ contents is.
    none_of_rules (by_bytes c.in-Some.documents.entries) (rw c.in-Some.is at c.in_ok-documents.ensures.read) (rw c.in_default-2.is at c.in_ok-matrix.ensures) is

pub returns-then-not-is_empty : goal.returns-then-not-is_empty
returns-then-not-is_empty c = λ contents is.
    more_behind (by_bytes c.in-Some.documents.entries) c.in-Some-2.matrix (rw c.in-Some.is at c.in_ok-documents.ensures.read) (rw c.in-Some-2.is at c.in_ok-matrix.ensures)
    (eqb-false _ _ (sym c.is_empty.ensures ∙ c.if-not-is_empty.true)) is

pub invariant_of-result : goal.invariant_of-result
invariant_of-result c = (
  read_documents_are c.args.bytes.now c.in-Some.documents (λ i. omega (arith, c.type_inv.bytes i)) (rw c.in-Some.is at c.in_ok-documents.ensures.ordered) (rw c.in-Some.is at c.in_ok-documents.ensures.read),
  λ name at there. absurd (no_places c.new.result c.new.ensures.empty name at there),
)

pub returns : goal.returns
returns c =
    read_catalog_is c.in-Some.documents c.in-Some-2.matrix (λ i. omega (arith, c.type_inv.bytes i)) (rw c.in-Some.is at c.in_ok-documents.ensures.ordered) (rw c.in-Some.is at c.in_ok-documents.ensures.read)
    (rw c.in-Some-2.is at c.in_ok-matrix.ensures) (eqb-true _ _ (sym c.is_empty.ensures ∙ c.if-not-is_empty.false))
