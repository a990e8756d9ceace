use Rattle.std.proofs.Common.{ap, ◌∙◌, List}
use Rattle.std.specs.FinMap.{empty}
use Rattle.nx_matrix.specs.declared.rule.Rule.{Rule}
use Rattle.nx_catalog.specs.Catalog.{Entries}
use Rattle.nx_catalog.proofs.NameMap.{map_in-empty}
use Rattle.nx_catalog.proofs.catalog.Catalog.new.Goals as goal

pub returns : goal.returns
returns c =
    ap (λ (d : Entries). record { documents = d; rules = c.new-2.result }) (map_in-empty c.new.result c.new.ensures.empty)
    ∙ ap (λ (r : List Rule). record { documents = empty; rules = r }) c.new-2.ensures
