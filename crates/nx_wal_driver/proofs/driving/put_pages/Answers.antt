use Rattle.std.proofs.Common.{◌∙◌}
use Rattle.nx_replay.specs.Log.{entry_pages}
use Rattle.nx_wal.specs.Wal.{pending}
use Rattle.nx_wal_driver.proofs.GroupLemmas.{one_more}
use Rattle.nx_wal_driver.proofs.driving.put_pages.Goals as goal

pub loop-i-preserved : goal.loop-i-preserved
loop-i-preserved c = record {
  there =
      one_more c.args.filling c.args.group c.args.count c.loop-i.i c.page_of-page.result (entry_pages (pending c.loop-i.wal)) (entry_pages (pending c.put.new.wal))
      c.page_of-page.ensures.place c.in_ok-put.ensures.there c.in_ok-put.ensures.others c.loop-i.invariant.there;
  follows = λ log follows. c.put.ensures.follows log (c.loop-i.invariant.follows log follows);
  goes_on = c.put.ensures.goes_on;
  same_length = c.put.ensures.length ∙ c.loop-i.invariant.same_length;
  some = λ _. c.in_ok-put.ensures.some;
}
