use Rattle.std.proofs.Common.{◌++◌, ℕ, List, length, ap, sym, ◌∙◌}
use Rattle.std.specs.Prelude.{flat_map}
use Rattle.std.specs.FinMap.{entries}
use Rattle.std.proofs.lemmas.List.{length-map}
use Rattle.nx_pyx.specs.DocumentName.{by_bytes}
use Rattle.nx_catalog.specs.Catalog.{Document, document_bytes, rule_bytes, listed_bytes}
use Rattle.nx_piece.specs.Encoding.{four_bytes}
use Rattle.nx_catalog.proofs.InsideLemmas.{Kept, Shows, shown_entries, shown_rules, catalog_form, spelled}
use Rattle.nx_catalog.proofs.catalog.Catalog.bytes.Goals as goal

pub returns-in-Err-clause-form : goal.returns-in-Err-clause-form
returns-in-Err-clause-form c = catalog_form (record { view = c.self.view_is; are = c.self.invariant.0 }) c.rules.ensures.rules

pub returns-in_err-push_documents-clause-form : goal.returns-in_err-push_documents-clause-form
returns-in_err-push_documents-clause-form c = catalog_form (record { view = c.self.view_is; are = c.self.invariant.0 }) c.rules.ensures.rules

pub returns-in_err-push_rules-clause-form : goal.returns-in_err-push_rules-clause-form
returns-in_err-push_rules-clause-form c = catalog_form (record { view = c.self.view_is; are = c.self.invariant.0 }) c.rules.ensures.rules

pub returns-clause-bytes : goal.returns-clause-bytes
returns-clause-bytes c =
    let shows : Shows c.args.self.now c.self.inside.documents c.self.inside.matrix = record { view = c.self.view_is; are = c.self.invariant.0 } in
    c.in_ok-push_rules.ensures
    ∙ ap (λ (front : List ℕ). front ++ (four_bytes (length c.as_slice.result.now) ++ flat_map rule_bytes c.as_slice.result.now)) (c.in_ok-push_documents.ensures ∙ ap (λ (out : List ℕ). out ++ (four_bytes (length c.self.inside.documents.entries) ++ flat_map document_bytes (by_bytes c.self.inside.documents.entries))) c.new-out.ensures)
    ∙ ap (λ (n : ℕ). four_bytes n ++ flat_map document_bytes (by_bytes c.self.inside.documents.entries) ++ (four_bytes (length c.as_slice.result.now) ++ flat_map rule_bytes c.as_slice.result.now)) (sym (length-map c.self.inside.documents.entries (λ (e : Kept). (e.0.items, e.1))))
    ∙ ap (λ (ds : List Document). listed_bytes ds c.as_slice.result.now) (shown_entries shows)
    ∙ ap (listed_bytes (entries c.args.self.now.documents)) (c.as_slice.ensures ∙ c.in-Ok.ensures.ok ∙ shown_rules shows)
    ∙ sym (spelled c.args.self.now)

pub returns-clause-form : goal.returns-clause-form
returns-clause-form c = catalog_form (record { view = c.self.view_is; are = c.self.invariant.0 }) c.rules.ensures.rules
