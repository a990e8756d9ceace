use Rattle.std.proofs.Common.{refl}
use Rattle.nx_store.proofs.LogLemmas.{emptied_goes, emptied_at, emptied_holds, emptied_log}
use Rattle.nx_store.proofs.store.Store.empty_log.Goals as goal

pub returns-in_default-clause-goes : goal.returns-in_default-clause-goes
returns-in_default-clause-goes g c =
    emptied_goes {d = g.D.Disk} c.args.self.now c.abandon.new.self c.args.disk.now c.abandon.ensures.follows c.abandon.ensures.none_left (c.abandon.ensures.saved.0, c.abandon.ensures.saved.1, c.abandon.ensures.forgets) c.abandon.ensures.stays.0 c.checkpoint.new.disk c.checkpoint.ensures.goes

pub returns-clause-goes : goal.returns-clause-goes
returns-clause-goes g c =
    emptied_goes {d = g.D.Disk} c.args.self.now c.abandon.new.self c.args.disk.now c.abandon.ensures.follows c.abandon.ensures.none_left (c.abandon.ensures.saved.0, c.abandon.ensures.saved.1, c.abandon.ensures.forgets) c.abandon.ensures.stays.0 c.checkpoint.new.disk c.checkpoint.ensures.goes

pub returns-clause-ok : goal.returns-clause-ok
returns-clause-ok g c = (
  c.in-Ok.ensures.empty.1,
  c.in-Ok.ensures.empty.2,
  emptied_at {d = g.D.Disk} c.args.self.now c.abandon.new.self c.args.disk.now c.abandon.ensures.follows c.abandon.ensures.none_left (c.abandon.ensures.saved.0, c.abandon.ensures.saved.1, c.abandon.ensures.forgets) c.abandon.ensures.stays.0 c.checkpoint.new.disk
      (record { alloc = c.args.self.now.alloc; records = c.checkpoint.new.self; catalog = c.args.self.now.catalog }) c.in-Ok.ensures.ok c.in-Ok.ensures.empty.3 refl,
)

pub returns-clause-log : goal.returns-clause-log
returns-clause-log g c =
    emptied_log {d = g.D.Disk} c.args.self.now c.abandon.new.self c.args.disk.now c.abandon.ensures.follows c.abandon.ensures.none_left (c.abandon.ensures.saved.0, c.abandon.ensures.saved.1, c.abandon.ensures.forgets) c.abandon.ensures.stays.0 c.checkpoint.new.disk c.in-Ok.ensures.empty.4

pub returns-clause-holds : goal.returns-clause-holds
returns-clause-holds g c =
    emptied_holds {d = g.D.Disk} c.args.self.now c.abandon.new.self c.args.disk.now c.abandon.ensures.follows c.abandon.ensures.none_left (c.abandon.ensures.saved.0, c.abandon.ensures.saved.1, c.abandon.ensures.forgets) c.abandon.ensures.stays.0 c.checkpoint.new.disk
    (record { alloc = c.args.self.now.alloc; records = c.checkpoint.new.self; catalog = c.args.self.now.catalog }) c.in-Ok.ensures.ok c.in-Ok.ensures.empty.3 refl
