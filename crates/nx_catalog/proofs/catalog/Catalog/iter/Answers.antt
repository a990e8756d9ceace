use Rattle.std.proofs.Common.{ap, ◌∙◌}
use Rattle.nx_pyx.specs.DocumentName.{by_bytes}
use Rattle.nx_catalog.proofs.InsideLemmas.{shown_entries}
use Rattle.nx_catalog.proofs.catalog.Catalog.iter.Goals as goal

pub returns : goal.returns
returns c = ap by_bytes c.iter.ensures.rest ∙ shown_entries (record { view = c.self.view_is; are = c.self.invariant.0 })
