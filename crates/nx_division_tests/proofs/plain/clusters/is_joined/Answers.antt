use Rattle.std.proofs.Common.{◌&&◌, length, drop, sym, ap, ◌∙◌}
use Rattle.nx_sketch.specs.Plan.{clusters_down}
use Rattle.nx_division_tests.proofs.PathLemmas.{prefix_fits, prefix_take}
use Rattle.nx_division_tests.proofs.plain.clusters.is_joined.Goals as goal

pub clusters_down-requires : goal.clusters_down-requires
clusters_down-requires c = prefix_fits c.args.top.now c.args.path.now (sym c.is_prefix.ensures ∙ c.if-is_prefix.true)

pub returns-then-is_prefix : goal.returns-then-is_prefix
returns-then-is_prefix c =
    let rest = drop (length c.args.top.now) c.args.path.now in
    c.clusters_down.ensures
    ∙ ap (λ q. clusters_down c.args.nodes.now q rest) (prefix_take c.args.top.now c.args.path.now (sym c.is_prefix.ensures ∙ c.if-is_prefix.true))
    ∙ ap (λ b. b && clusters_down c.args.nodes.now c.args.top.now rest) (sym c.if-is_prefix.true ∙ c.is_prefix.ensures)
