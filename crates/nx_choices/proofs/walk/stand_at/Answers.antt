use Rattle.std.proofs.Common.{sym, arith}
use Rattle.nx_choices.proofs.WalkLemmas.{stand_first, stand_other}
use Rattle.nx_choices.proofs.walk.stand_at.Goals as goal

pub returns-then-at-eq0 : goal.returns-then-at-eq0
returns-then-at-eq0 c = sym (stand_first c.args.number c.args.at c.args.second (omega arith))

pub returns-else-at-eq0 : goal.returns-else-at-eq0
returns-else-at-eq0 c = sym (stand_other c.args.number c.args.at c.args.second (omega arith))
