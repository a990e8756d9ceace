use Rattle.std.proofs.Common.{sym}
use Rattle.nx_build.proofs.GapLemmas.{last_is_run, last_is_tree}
use Rattle.nx_build.proofs.items.last_run.Goals as goal

pub returns-in-Tree : goal.returns-in-Tree
returns-in-Tree c = sym (last_is_tree c.args.items.now c.in_ok-count.field-0.now c.in-Tree.field-0 (sym c.in_ok-count.ensures.value) c.in-Tree.is)

pub returns-in-Run : goal.returns-in-Run
returns-in-Run c = sym (last_is_run c.args.items.now c.in_ok-count.field-0.now c.in-Run.count (sym c.in_ok-count.ensures.value) c.in-Run.is)
