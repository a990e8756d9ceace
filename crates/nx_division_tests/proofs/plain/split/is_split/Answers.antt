use Rattle.std.proofs.lemmas.Bool.Decides.{not_from_Decides}
use Rattle.nx_division_tests.proofs.SplitLemmas.{unordered_decides}
use Rattle.nx_division_tests.proofs.plain.split.is_split.Goals as goal

pub returns-else-is_in_order : goal.returns-else-is_in_order
returns-else-is_in_order c =
    unordered_decides {nodes = c.args.nodes.now} {k = c.args.k} {target = c.args.target} {tolerance = c.args.tolerance} c.args.parts.now (not_from_Decides c.is_in_order.result c.is_in_order.ensures c.if-is_in_order.false)
