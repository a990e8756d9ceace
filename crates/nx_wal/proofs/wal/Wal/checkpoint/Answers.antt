use Rattle.std.proofs.Common.{◌<◌, arith, refl, sym}
use Rattle.nx_wal.proofs.WalLemmas.{checkpoint_goes, checkpoint_none, led, some_group, follows_none, ended_none}
use Rattle.nx_wal.proofs.OwnLemmas.{checkpoint_own}
use Rattle.nx_wal.proofs.wal.Wal.checkpoint.Goals as goal

pub returns-then-self-eq0-clause-ok : goal.returns-then-self-eq0-clause-ok
returns-then-self-eq0-clause-ok g c was now step told = checkpoint_none g.D.Disk c.args.self.now c.args.disk.now was now c.if-self-eq0.true step told

pub returns-in_default-clause-goes : goal.returns-in_default-clause-goes
returns-in_default-clause-goes g c = checkpoint_goes g.D.Disk c.args.self.now c.args.disk.now c.empty_log.new.disk (omega (arith, c.if-self-eq0.false)) c.empty_log.ensures.goes

pub returns-clause-goes : goal.returns-clause-goes
returns-clause-goes g c = checkpoint_goes g.D.Disk c.args.self.now c.args.disk.now c.empty_log.new.disk (omega (arith, c.if-self-eq0.false)) c.empty_log.ensures.goes

pub returns-clause-ok : goal.returns-clause-ok
returns-clause-ok g c was now step told =
    let some : 0 < c.args.self.now.end = omega (arith, c.if-self-eq0.false) in
    let done = c.in-Ok.ensures.ok was now (led g.D.Disk c.args.self.now c.args.disk.now was step) (some_group g.D.Disk c.args.self.now c.args.disk.now was step some) told in (
      record { settled = done.0; follows = follows_none _ now.log c.clear.ensures.empty c.clear-2.ensures.items refl done.2 },
      done.1,
      ended_none _ (sym (done.2).here),
    )

pub returns-in_default-clause-own : goal.returns-in_default-clause-own
returns-in_default-clause-own g c = checkpoint_own c.args.self.now c.args.disk.now c.empty_log.new.disk (omega (arith, c.if-self-eq0.false)) c.empty_log.ensures.own

pub returns-clause-own : goal.returns-clause-own
returns-clause-own g c = checkpoint_own c.args.self.now c.args.disk.now c.empty_log.new.disk (omega (arith, c.if-self-eq0.false)) c.empty_log.ensures.own
