use Rattle.std.proofs.Common.{ℕ, List, ap, ◌∙◌}
use Rattle.std.specs.FinMap.{insert}
use Rattle.nx_catalog.specs.NameMap.{map_in}
use Rattle.nx_catalog.proofs.NameMap.{map_in-insert}
use Rattle.nx_front.proofs.gathered.Gathered.keep.Goals as goal

pub returns : goal.returns
returns c =
    map_in-insert c.in_ok-key.key.items c.args.self.now.names c.insert.new.self c.args.names c.args.self.now.ordered c.in_ok-insert.ensures.ordered c.in_ok-insert.ensures.updates
    ∙ ap (λ (n : List ℕ). insert (map_in c.args.self.now.names) n c.args.names) c.in_ok-key.ensures.items
