use Rattle.std.proofs.lemmas.Bool.Decides.{not_from_Decides}
use Rattle.std.proofs.Common.{ap, ◌∙◌}
use Rattle.nx_sketch.specs.Separator.{is_left}
use Rattle.nx_division_tests.proofs.RunLemmas.{no_run, row_run, single_run}
use Rattle.nx_division_tests.proofs.plain.separator.run_end.Goals as goal

pub returns-then-is_single_child : goal.returns-then-is_single_child
returns-then-is_single_child c =
    single_run {nodes = c.args.nodes.now} {t = c.args.t} {tolerance = c.args.tolerance} c.requires.order c.args.parent.now c.args.first (c.is_single_child.ensures.0 c.if-is_single_child.true)

pub returns-then-begins_row : goal.returns-then-begins_row
returns-then-begins_row c =
    row_run {nodes = c.args.nodes.now} {t = c.args.t} {tolerance = c.args.tolerance} c.is_left-left.result c.args.parent.now c.args.first c.row_end.result
    (record {
      side = c.is_left-left.ensures ∙ ap (is_left c.args.nodes.now c.args.t) c.requires.path;
      single = not_from_Decides c.is_single_child.result c.is_single_child.ensures c.if-is_single_child.false;
      begins = c.begins_row.ensures.0 c.if-begins_row.true;
    })
    c.row_end.ensures

pub returns-else-begins_row : goal.returns-else-begins_row
returns-else-begins_row c =
    no_run {nodes = c.args.nodes.now} {t = c.args.t} {tolerance = c.args.tolerance} c.is_left-left.result c.args.parent.now c.args.first
    (c.is_left-left.ensures ∙ ap (is_left c.args.nodes.now c.args.t) c.requires.path)
    (not_from_Decides c.is_single_child.result c.is_single_child.ensures c.if-is_single_child.false)
    (not_from_Decides c.begins_row.result c.begins_row.ensures c.if-begins_row.false)
