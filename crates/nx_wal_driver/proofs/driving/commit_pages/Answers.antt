use Rattle.nx_host.proofs.DiskLemmas.{written_alone_then}
use Rattle.nx_wal_driver.proofs.StepLemmas.{committed}
use Rattle.nx_wal_driver.proofs.driving.commit_pages.Goals as goal

pub returns-in_err-commit-clause-alone : goal.returns-in_err-commit-clause-alone
returns-in_err-commit-clause-alone g c = written_alone_then c.make_room.ensures.alone c.commit.ensures.goes (λ _ _ _. tt)

pub returns-clause-alone : goal.returns-clause-alone
returns-clause-alone g c = written_alone_then c.make_room.ensures.alone c.commit.ensures.goes (λ _ _ _. tt)

pub returns-clause-there : goal.returns-clause-there
returns-clause-there g c = λ was now step told.
    committed c.args.filling c.args.group c.args.count (λ m here. c.in_ok-make_room.ensures.in_step was m step here) c.in_ok-put_pages.ensures.follows c.in_ok-put_pages.ensures.there (c.commit.ensures.goes).told
    c.in_ok-commit.ensures.ok told
