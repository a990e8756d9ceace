use Rattle.std.proofs.Common.{ap, sym, ◌∙◌}
use Rattle.std.specs.Prelude.{is_some}
use Rattle.nx_catalog.proofs.NameMap.{get-map_in}
use Rattle.nx_front.proofs.gathered.Gathered.has.Goals as goal

pub returns : goal.returns
returns c = c.contains_key.ensures ∙ ap is_some (sym (get-map_in c.args.self.now.names c.args.name.now c.args.self.now.ordered))
