use Rattle.std.proofs.Common.{◌∙◌, ℕ, List, ap}
use Rattle.std.specs.Prelude.{Some}
use Rattle.nx_wal_driver.proofs.GroupLemmas.{put_there, put_others}
use Rattle.nx_wal_driver.proofs.driving.put.Goals as goal

pub returns-clause-there : goal.returns-clause-there
returns-clause-there c =
    put_there (record { page = c.args.stamp.page; bytes = c.stamped.result.bytes }) _ _ c.in_ok-put.ensures.pending ∙ ap (λ (r : List ℕ). Some r) c.stamped.ensures

pub returns-clause-others : goal.returns-clause-others
returns-clause-others c = put_others (record { page = c.args.stamp.page; bytes = c.stamped.result.bytes }) _ _ c.in_ok-put.ensures.pending
