use Rattle.nx_wal_driver.proofs.StepLemmas.{line_behind, no_line}
use Rattle.nx_wal_driver.proofs.driving.commit.Goals as goal

pub returns-in_err-commit_pages-clause-told : goal.returns-in_err-commit_pages-clause-told
returns-in_err-commit_pages-clause-told g c = λ was step. no_line _ c.commit_pages.ensures.alone

pub returns-clause-told : goal.returns-clause-told
returns-clause-told g c = λ was step. line_behind c.commit_pages.ensures.alone (λ now here. c.in_ok-commit_pages.ensures.there was now step here) c.give.ensures.contents c.give.ensures.images
