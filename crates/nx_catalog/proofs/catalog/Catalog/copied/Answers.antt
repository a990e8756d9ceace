use Rattle.std.proofs.Common.{List, ap₂, ◌∙◌}
use Rattle.nx_matrix.specs.declared.rule.Rule.{Rule}
use Rattle.nx_catalog.specs.Catalog.{Entries}
use Rattle.nx_catalog.proofs.PlaceLemmas.{no_places}
use Rattle.nx_catalog.proofs.catalog.Catalog.copied.Goals as goal

pub invariant_of-result : goal.invariant_of-result
invariant_of-result c = (c.in_ok-documents.ensures.are, λ name at there. absurd (no_places c.new.result c.new.ensures.empty name at there))

pub returns : goal.returns
returns c = ap₂ (λ (d : Entries) (rs : List Rule). record { documents = d; rules = rs }) c.in_ok-documents.ensures.same c.in_ok-matrix.ensures ∙ c.self.view_is
