use Rattle.std.proofs.Common.{List, ap}
use Rattle.std.specs.List.{each_same}
use Rattle.std.specs.FinMap.{from_sorted}
use Rattle.nx_pyx.specs.DocumentName.{name_order}
use Rattle.nx_catalog.specs.Catalog.{Document}
use Rattle.nx_catalog.proofs.InsideLemmas.{same_documents}
use Rattle.nx_catalog.proofs.SavingLemmas.{same_entries}
use Rattle.nx_catalog.proofs.saving.copied_documents.Goals as goal

pub returns-clause-are : goal.returns-clause-are
returns-clause-are c =
    let same = same_entries _ _ (λ v w h. each_same v.items w.items h.0) (λ d e h. h) c.args.documents.now.entries c.in_ok-clone.field-0.entries c.in_ok-clone.ensures.cases in
    same_documents c.in_ok-clone.field-0 c.requires same

pub returns-clause-same : goal.returns-clause-same
returns-clause-same c =
    ap (λ (es : List Document). from_sorted {R = name_order} es)
    (same_entries _ _ (λ v w h. each_same v.items w.items h.0) (λ d e h. h) c.args.documents.now.entries c.in_ok-clone.field-0.entries c.in_ok-clone.ensures.cases)
