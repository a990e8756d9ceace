use Rattle.std.proofs.Common.{◌-◌, ◌*◌}
use Rattle.nx_ask.proofs.all.+rows.Given as goal

abbrev pub decreases-answer_rows : goal.decreases-answer_rows
decreases-answer_rows g l = 2 * l.workers

abbrev pub decreases-others : goal.decreases-others
decreases-others g l = 2 * l.workers - 1
