use Rattle.nx_division_tests.specs.Runs.{IsFirstOfRow, IsHelperOrMarked}
use Rattle.nx_division_tests.proofs.TestLemmas.{both_then, both_else}
use Rattle.nx_division_tests.proofs.plain.separator.begins_row.Goals as goal

pub returns-then-is_opened : goal.returns-then-is_opened
returns-then-is_opened c =
    both_then {P = IsHelperOrMarked c.args.nodes.now c.args.t c.args.tolerance c.args.parent.now} {Q = IsFirstOfRow c.args.nodes.now c.args.t c.args.tolerance c.args.left c.args.parent.now c.args.first} c.is_first_of_row.result (c.is_opened.ensures.0 c.if-is_opened.true) c.is_first_of_row.ensures

pub returns-else-is_opened : goal.returns-else-is_opened
returns-else-is_opened c =
    both_else {P = IsHelperOrMarked c.args.nodes.now c.args.t c.args.tolerance c.args.parent.now} {Q = IsFirstOfRow c.args.nodes.now c.args.t c.args.tolerance c.args.left c.args.parent.now c.args.first} c.is_opened.result c.if-is_opened.false c.is_opened.ensures
