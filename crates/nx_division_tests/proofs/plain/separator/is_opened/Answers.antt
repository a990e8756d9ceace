use Rattle.std.proofs.Common.{sym, ◌∙◌}
use Rattle.nx_sketch.specs.Separator.{is_marked}
use Rattle.nx_division_tests.proofs.RunLemmas.{opened_then, opened_else}
use Rattle.nx_division_tests.proofs.plain.separator.is_opened.Goals as goal

pub returns-then-is_empty : goal.returns-then-is_empty
returns-then-is_empty c = opened_then {m = is_marked c.args.nodes.now c.args.t c.args.tolerance c.args.parent.now} c.args.parent.now (sym c.if-is_empty.true ∙ c.is_empty.ensures)

pub returns : goal.returns
returns c = opened_else {m = is_marked c.args.nodes.now c.args.t c.args.tolerance c.args.parent.now} c.args.parent.now c.is_marked.result (sym c.if-is_empty.false ∙ c.is_empty.ensures) c.is_marked.ensures
