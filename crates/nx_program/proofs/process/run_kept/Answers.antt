use Rattle.std.proofs.Common.{inr}
use Rattle.nx_program.proofs.process.run_kept.Goals as goal

pub returns-in-Ok : goal.returns-in-Ok
returns-in-Ok g c =
    inr (
      c.in-Ok.kept,
      c.run.new.host,
      c.in-Ok.ensures.over,
      record {
        carried = c.run.ensures.carried;
        completed = c.run.ensures.complete;
        usage = c.run.ensures.usage;
        untouched = c.run.ensures.untouched;
        bounded = c.run.ensures.bounded;
        counts = c.run.ensures.counts.0;
        faults = c.run.ensures.counts.1;
      },
    )
