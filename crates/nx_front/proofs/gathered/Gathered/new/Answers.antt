use Rattle.std.proofs.Common.{ap, ◌∙◌}
use Rattle.std.specs.FinMap.{get, get-empty}
use Rattle.nx_pyx.specs.DocumentName.{name_order}
use Rattle.nx_catalog.proofs.NameMap.{map_in-empty}
use Rattle.nx_front.proofs.gathered.Gathered.new.Goals as goal

pub returns : goal.returns
returns c name = ap (λ m. get m name) (map_in-empty c.new.result c.new.ensures.empty) ∙ get-empty name_order name
