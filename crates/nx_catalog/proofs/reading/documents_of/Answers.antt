use Rattle.std.proofs.Common.{◌≡◌, [], true, false, ap, sym, ◌∙◌}
use Rattle.std.specs.Ordering.{is_lt}
use Rattle.nx_pyx.specs.DocumentName.{name_order, by_bytes}
use Rattle.nx_catalog.specs.Catalog.{Document}
use Rattle.nx_catalog.specs.Reading.{document_at, documents_at}
use Rattle.nx_catalog.proofs.RisingLemmas.{is_less}
use Rattle.nx_catalog.proofs.ListedLemmas.{none_comes, none_behind, all_come}
use Rattle.nx_catalog.proofs.DocumentLemmas.{read_more}
use Rattle.nx_catalog.proofs.reading.documents_of.Goals as goal

pub returns-in_default-clause-read : goal.returns-in_default-clause-read
returns-in_default-clause-read c =
    let none = rw c.in_default.is at c.read_document.ensures in
    none_comes document_at name_order (λ (d : Document). d.0) (by_bytes c.loop.documents.entries) c.args.count c.loop.counter c.loop.last.now c.loop.rest.now (documents_at c.args.count [] c.args.bytes.now)
    c.loop-test.true none (c.loop.invariant.read).so_far

pub returns-then-not-is_lt-clause-read : goal.returns-then-not-is_lt-clause-read
returns-then-not-is_lt-clause-read c =
    let found = rw c.in-Some.is at c.read_document.ensures in
    let order : is_lt (name_order c.loop.last.now c.in-Some.document.name.now) ≡ false = ap is_lt (sym c.cmp.ensures) ∙ sym c.is_lt.ensures ∙ c.if-not-is_lt.true in
    none_behind document_at name_order (λ (d : Document). d.0) (by_bytes c.loop.documents.entries) c.args.count c.loop.counter c.loop.last.now c.loop.rest.now
    (c.in-Some.document.name.now, c.in-Some.document.entry) c.in-Some.behind.now (documents_at c.args.count [] c.args.bytes.now)
    c.loop-test.true found order (c.loop.invariant.read).so_far

pub loop-preserved : goal.loop-preserved
loop-preserved c =
    let found = rw c.in-Some.is at c.read_document.ensures in
    let order : is_lt (name_order c.loop.last.now c.in-Some.document.name.now) ≡ true = ap is_lt (sym c.cmp.ensures) ∙ sym c.is_lt.ensures ∙ c.if-not-is_lt.false in
    record {
      read = read_more c.insert.new.self.entries c.in_ok-name.name c.in-Some.document.name.now c.in-Some.document.entry c.in-Some.behind.now c.loop.invariant.read c.loop-test.true found (is_less _ order) c.in_ok-name.ensures.items c.in_ok-insert.ensures.entries;
      ordered = c.in_ok-insert.ensures.ordered;
    }

pub returns-clause-read : goal.returns-clause-read
returns-clause-read c =
    all_come document_at name_order (λ (d : Document). d.0) (by_bytes c.loop.documents.entries) c.args.count c.loop.counter c.loop.last.now c.loop.rest.now (documents_at c.args.count [] c.args.bytes.now)
    c.loop-test.false (c.loop.invariant.read).so_far
