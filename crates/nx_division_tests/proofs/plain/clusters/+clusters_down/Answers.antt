use Rattle.std.proofs.Common.{◌≡◌, ◌+◌, ◌<◌, ◌&&◌, true, false, length, take, drop, sym, ap, ◌∙◌, arith}
use Rattle.nx_sketch.specs.Plan.{clusters_down, is_cluster_at}
use Rattle.nx_division_tests.proofs.PathLemmas.{down_step}
use Rattle.nx_division_tests.proofs.plain.clusters.+clusters_down.Goals as goal

pub returns-then-is_cluster_at : goal.returns-then-is_cluster_at
returns-then-is_cluster_at t c =
    let nodes = c.args.nodes.now in let path = c.args.path.now in let from = c.args.from in
    let here : true ≡ is_cluster_at nodes (take (from + 1) path) = sym c.if-is_cluster_at.true ∙ c.is_cluster_at.ensures in
    let within : from < length path = omega arith in
    c.clusters_down.ensures ∙ ap (λ b. b && clusters_down nodes (take (from + 1) path) (drop (from + 1) path)) here ∙ sym (down_step nodes path from within)

pub returns-else-is_cluster_at : goal.returns-else-is_cluster_at
returns-else-is_cluster_at t c =
    let nodes = c.args.nodes.now in let path = c.args.path.now in let from = c.args.from in
    let here : false ≡ is_cluster_at nodes (take (from + 1) path) = sym c.if-is_cluster_at.false ∙ c.is_cluster_at.ensures in
    let within : from < length path = omega arith in
    c.if-is_cluster_at.false ∙ ap (λ b. b && clusters_down nodes (take (from + 1) path) (drop (from + 1) path)) here ∙ sym (down_step nodes path from within)
