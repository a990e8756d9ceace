use Rattle.std.proofs.Common.{◌∙◌}
use Rattle.nx_catalog.proofs.InsideLemmas.{shown_length}
use Rattle.nx_catalog.proofs.catalog.Catalog.len.Goals as goal

pub returns : goal.returns
returns c = c.len.ensures.len ∙ shown_length (record { view = c.self.view_is; are = c.self.invariant.0 })
