use Rattle.std.proofs.Common.{false, [], ◌∷◌, ◌++◌, ap, ◌∙◌, subst}
use Rattle.nx_weights.proofs.LimitLemmas.{document_within}
use Rattle.nx_parts.specs.declared.interval.Interval.TheVariants.{Root}
use Rattle.nx_partition.specs.Planning.{first_bound, AddsDrawing}
use Rattle.nx_partition.proofs.WholeLemmas.{whole_plan}
use Rattle.nx_partition.proofs.planning.parts_from.Goals as goal

pub plan_tree-requires-clause-limits : goal.plan_tree-requires-clause-limits
plan_tree-requires-clause-limits c = document_within c.args.tree.now c.requires.document

pub returns-clause-ok : goal.returns-clause-ok
returns-clause-ok c =
    let old = c.in_ok-push.ensures.ok ∙ ap (λ l. l ++ Root ∷ []) c.new-planner.ensures.parts in
    let whole = whole_plan c.args.k c.args.tree.now c.args.minima.now c.requires.minima c.new-planner.ensures.path old
    (subst (λ bs. AddsDrawing c.args.k c.args.tree.now false (first_bound bs) c.new-planner.result.path.items c.push.new.self c.plan_tree.new.self.parts) c.as_slice.ensures c.in_ok-plan_tree.ensures.parts) in
    whole.partitioning

pub returns-clause-few : goal.returns-clause-few
returns-clause-few c =
    let old = c.in_ok-push.ensures.ok ∙ ap (λ l. l ++ Root ∷ []) c.new-planner.ensures.parts in
    let whole = whole_plan c.args.k c.args.tree.now c.args.minima.now c.requires.minima c.new-planner.ensures.path old
    (subst (λ bs. AddsDrawing c.args.k c.args.tree.now false (first_bound bs) c.new-planner.result.path.items c.push.new.self c.plan_tree.new.self.parts) c.as_slice.ensures c.in_ok-plan_tree.ensures.parts) in
    whole.few
