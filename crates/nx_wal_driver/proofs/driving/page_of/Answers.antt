use Rattle.std.proofs.Common.{refl}
use Rattle.nx_wal_driver.proofs.GroupLemmas.{first_page, later_page}
use Rattle.nx_wal_driver.proofs.driving.page_of.Goals as goal

pub returns-then-i-eq0-clause-place : goal.returns-then-i-eq0-clause-place
returns-then-i-eq0-clause-place c = first_page c.args.seed c.args.group c.args.count c.args.i c.if-i-eq0.true

pub returns-clause-place : goal.returns-clause-place
returns-clause-place c = later_page c.args.seed c.args.group c.args.count c.args.i _ c.if-i-eq0.false refl
