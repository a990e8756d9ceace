use Rattle.std.proofs.Common.{refl}
use Rattle.nx_wal.proofs.CountLemmas.{no_area}
use Rattle.nx_wal.proofs.LostLemmas.{lost_or_none, none_asked}
use Rattle.nx_wal.proofs.wal.Wal.first_lost.Goals as goal

pub returns-then-count-gt0-clause-ok : goal.returns-then-count-gt0-clause-ok
returns-then-count-gt0-clause-ok g c = (
  refl,
  c.if-self.false,
  λ was step. none_asked was c.in-Ok.count c.args.below (c.in-Ok.ensures.count was (step.settled).here) c.if-count-gt0.true,
)

pub returns-clause-ok : goal.returns-clause-ok
returns-clause-ok g c = (
  refl,
  c.if-self.false,
  λ was step. lost_or_none was c.args.self.now.places (step.follows).leads
      (no_area _ c.in-Ok.count c.if-count-gt0.false (c.in-Ok.ensures.count was (step.settled).here 0).1) c.args.below c.first_unplaced.result c.first_unplaced.ensures.some c.first_unplaced.ensures.none,
)
