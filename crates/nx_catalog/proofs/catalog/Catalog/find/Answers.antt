use Rattle.std.proofs.Common.{◌∙◌}
use Rattle.nx_catalog.proofs.InsideLemmas.{shown_get}
use Rattle.nx_catalog.proofs.catalog.Catalog.find.Goals as goal

pub returns : goal.returns
returns c = c.copied.ensures ∙ c.get.ensures.value ∙ shown_get (record { view = c.self.view_is; are = c.self.invariant.0 }) c.args.name.now
