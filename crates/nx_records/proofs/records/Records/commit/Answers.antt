use Rattle.std.proofs.Common.{ℕ, refl, subst, ◌⊎◌}
use Rattle.nx_host.specs.Disk.{Image}
use Rattle.nx_host.specs.Still.{WritesAlone}
use Rattle.nx_replay.specs.Log.{HasSame, HasGroup}
use Rattle.nx_wal.specs.Wal.{IsInStep, next_group}
use Rattle.nx_records.proofs.StandLemmas.{commit_holds, commit_stands}
use Rattle.nx_records.proofs.LeaveLemmas.{had_ended}
use Rattle.nx_records.proofs.records.Records.commit.Goals as goal

pub returns-in_default-clause-goes : goal.returns-in_default-clause-goes
returns-in_default-clause-goes g c = commit_holds g.D.Disk c.args.self.now c.args.disk.now c.commit.new.disk c.args.self.now.head.number c.commit.ensures.goes

pub returns-in_default-clause-groups_go : goal.returns-in_default-clause-groups_go
returns-in_default-clause-groups_go g c =
    subst (λ (n : ℕ). WritesAlone g.D.Disk c.args.disk.now c.commit.new.disk (λ i. (was : Image) → IsInStep g.D.Disk c.args.self.now.wal c.args.disk.now was
    → HasSame was i ⊎ HasGroup (next_group n c.args.self.now.wal) was i)) (c.args.self.now.numbered c.requires.changed).0 c.commit.ensures.goes

pub returns-clause-goes : goal.returns-clause-goes
returns-clause-goes g c = commit_holds g.D.Disk c.args.self.now c.args.disk.now c.commit.new.disk c.args.self.now.head.number c.commit.ensures.goes

pub returns-clause-groups_go : goal.returns-clause-groups_go
returns-clause-groups_go g c =
    subst (λ (n : ℕ). WritesAlone g.D.Disk c.args.disk.now c.commit.new.disk (λ i. (was : Image) → IsInStep g.D.Disk c.args.self.now.wal c.args.disk.now was
    → HasSame was i ⊎ HasGroup (next_group n c.args.self.now.wal) was i)) (c.args.self.now.numbered c.requires.changed).0 c.commit.ensures.goes

pub returns-clause-ok : goal.returns-clause-ok
returns-clause-ok g c saved now image stands told =
    commit_stands g.D.Disk c.args.self.now _ c.args.disk.now c.commit.new.disk c.args.self.now.head.number c.in-Ok.ensures.ok (c.in-Ok.ensures.none_left.0, c.if-self.false, refl, refl, refl)
    saved now image stands told

pub returns-clause-group : goal.returns-clause-group
returns-clause-group g c was now step told =
    subst (λ (n : ℕ). HasGroup (next_group n c.args.self.now.wal) was now) (c.args.self.now.numbered c.requires.changed).0 (c.in-Ok.ensures.ok was now step told).1

pub returns-clause-step : goal.returns-clause-step
returns-clause-step g c was now step told = (c.in-Ok.ensures.ok was now step told).0

pub returns-then-self-clause-refused : goal.returns-then-self-clause-refused
returns-then-self-clause-refused g c = had_ended c.if-self.true

pub returns-clause-format : goal.returns-clause-format
returns-clause-format g c = (c.args.self.now.numbered c.requires.changed).1
