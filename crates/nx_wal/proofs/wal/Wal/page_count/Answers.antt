use Rattle.std.proofs.Common.{ℕ, refl, sym, subst}
use Rattle.nx_replay.specs.Log.{replay}
use Rattle.nx_wal.specs.Wal.{IsPageCount}
use Rattle.nx_wal.proofs.CountLemmas.{count_is}
use Rattle.nx_wal.proofs.wal.Wal.page_count.Goals as goal

pub returns-clause-ok : goal.returns-clause-ok
returns-clause-ok g c = (
  refl,
  c.if-self.false,
  λ was step. subst (λ (n : ℕ). IsPageCount n (replay was)) (sym c.max.ensures)
      (count_is was c.args.self.now.places c.in-Ok.count c.logged_count.result (step.follows).leads (c.in-Ok.ensures.count was (step.settled).here) c.logged_count.ensures.above c.logged_count.ensures.last),
)
