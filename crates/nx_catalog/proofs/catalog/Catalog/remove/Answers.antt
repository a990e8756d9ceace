use Rattle.std.proofs.Common.{arith, ap, ◌∙◌}
use Rattle.std.specs.FinMap.{remove}
use Rattle.nx_catalog.proofs.NameMap.{map_in-remove}
use Rattle.nx_catalog.proofs.InsideLemmas.{less_documents, shown_map}
use Rattle.nx_catalog.proofs.PlaceLemmas.{no_places}
use Rattle.nx_catalog.proofs.catalog.Catalog.remove.Goals as goal

pub invariant_of-self : goal.invariant_of-self
invariant_of-self c =
    (less_documents c.remove.new.self _ c.self.invariant.0 c.remove.ensures.entries c.remove.ensures.ordered (let h = c.remove.ensures.len in omega (arith, h)), λ name at there. absurd (no_places c.new.result c.new.ensures.empty name at there))

pub returns-clause-documents : goal.returns-clause-documents
returns-clause-documents c =
    map_in-remove c.args.name.now c.self.inside.documents c.remove.new.self c.self.invariant.0.ordered c.remove.ensures.ordered c.remove.ensures.updates
    ∙ ap (λ d. remove d c.args.name.now) (shown_map (record { view = c.self.view_is; are = c.self.invariant.0 }))
