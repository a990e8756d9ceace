use Rattle.std.proofs.Common.{refl}
use Rattle.nx_records.proofs.StandLemmas.{checkpoint_holds, checkpoint_stands}
use Rattle.nx_records.proofs.LeaveLemmas.{had_ended}
use Rattle.nx_records.proofs.records.Records.checkpoint.Goals as goal

pub returns-in_default-clause-goes : goal.returns-in_default-clause-goes
returns-in_default-clause-goes g c = checkpoint_holds g.D.Disk c.args.self.now c.args.disk.now c.checkpoint.new.disk c.checkpoint.ensures.goes

pub returns-clause-goes : goal.returns-clause-goes
returns-clause-goes g c = checkpoint_holds g.D.Disk c.args.self.now c.args.disk.now c.checkpoint.new.disk c.checkpoint.ensures.goes

pub returns-clause-ok : goal.returns-clause-ok
returns-clause-ok g c saved now image stands told =
    checkpoint_stands g.D.Disk c.args.self.now _ c.args.disk.now c.checkpoint.new.disk c.in-Ok.ensures.ok (c.requires.none, c.in-Ok.ensures.empty.1, c.if-self.false, refl, refl, refl)
    saved now image stands told

pub returns-clause-step : goal.returns-clause-step
returns-clause-step g c was now step told = let done = c.in-Ok.ensures.ok was now step told in (done.0, done.1)

pub returns-then-self-clause-refused : goal.returns-then-self-clause-refused
returns-then-self-clause-refused g c = had_ended c.if-self.true
