use Rattle.std.proofs.Common.{sym, ◌∙◌}
use Rattle.nx_catalog.proofs.NameMap.{get-map_in}
use Rattle.nx_front.proofs.SearchingLemmas.{shown}
use Rattle.nx_front.proofs.gathered.Gathered.get.Goals as goal

pub returns : goal.returns
returns c = shown c.get.result (c.get.ensures.value ∙ sym (get-map_in c.args.self.now.names c.args.name.now c.args.self.now.ordered))
