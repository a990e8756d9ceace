use Rattle.std.proofs.Common.{◌∙◌, subst}
use Rattle.std.specs.Prelude.{IfSome}
use Rattle.std.specs.FinMap.{entries}
use Rattle.nx_matrix.specs.Rules.{AreRules}
use Rattle.nx_pyx.specs.DocumentName.{by_bytes}
use Rattle.nx_catalog.specs.Catalog.{Contents}
use Rattle.nx_catalog.specs.Inside.{IsPlaceOf}
use Rattle.nx_catalog.proofs.InsideLemmas.{shown_entries, shown_rules}
use Rattle.nx_catalog.proofs.PlaceLemmas.{place_shown}
use Rattle.nx_catalog.proofs.catalog.Catalog.place_of.Goals as goal

pub returns-clause-place : goal.returns-clause-place
returns-clause-place c =
    subst (λ (k : Contents). IfSome c.copied.result (λ at. IsPlaceOf (entries k.documents) c.args.name.now at × AreRules k.rules)) c.in_ok-find_places.ensures
    (place_shown c.find_places.new.self (by_bytes c.self.inside.documents.entries) c.self.inside.matrix c.self.inside.places c.args.name.now (shown_entries (record { view = c.self.view_is; are = c.self.invariant.0 }))
    (shown_rules (record { view = c.self.view_is; are = c.self.invariant.0 })) c.self.invariant.1 c.copied.result (c.copied.ensures ∙ c.get.ensures.value))
