use Rattle.std.proofs.lemmas.Bool.Decides.{not_from_Decides}
use Rattle.std.proofs.lemmas.Slice.Eq.{slice_eq-Decides}
use Rattle.nx_division_tests.proofs.SplitLemmas.{other_decides, same_interval-Decides, separator_decides}
use Rattle.nx_division_tests.proofs.plain.split.is_split_by.Goals as goal

pub returns-then-is_feasible_plan : goal.returns-then-is_feasible_plan
returns-then-is_feasible_plan c =
    separator_decides {nodes = c.args.nodes.now} {k = c.args.k} {target = c.args.target} {tolerance = c.args.tolerance} c.args.parts.now c.args.plan.now c.are_same.result c.requires.order (record { is = c.requires.plan })
    (c.is_feasible_plan.ensures.0 c.if-is_feasible_plan.true)
    (slice_eq-Decides same_interval-Decides c.args.parts.now c.args.plan.now c.are_same.result c.are_same.ensures)

pub returns-else-is_feasible_plan : goal.returns-else-is_feasible_plan
returns-else-is_feasible_plan c =
    other_decides {nodes = c.args.nodes.now} {k = c.args.k} {target = c.args.target} {tolerance = c.args.tolerance} c.args.parts.now c.args.plan.now c.is_other.result c.requires.order (record { is = c.requires.plan })
    (not_from_Decides c.is_feasible_plan.result c.is_feasible_plan.ensures c.if-is_feasible_plan.false) c.is_other.ensures
