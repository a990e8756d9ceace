use Rattle.std.proofs.Common.{length, refl, subst}
use Rattle.nx_replay.specs.Log.{Group}
use Rattle.nx_wal.specs.Reading.{ArePagesOf}
use Rattle.nx_wal.proofs.WalLemmas.{group_from, group_there}
use Rattle.nx_wal.proofs.wal.Wal.group_part.Goals as goal

pub returns-clause-ok : goal.returns-clause-ok
returns-clause-ok g c = (
  refl,
  c.if-self.false,
  λ was step group there.
      let is = group_from c.args.self.now c.index.result.now c.args.index was.log step.follows c.requires c.index.ensures in
      subst (λ (x : Group). ArePagesOf x c.args.first (length c.args.into.now) c.read_part.new.into) (group_there group is there) (c.in-Ok.ensures.part was (step.settled).here is.stands),
)
