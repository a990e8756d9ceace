use Rattle.std.proofs.Common.{arith, refl, sym, ap, ◌∙◌}
use Rattle.std.specs.Prelude.{Some}
use Rattle.nx_replay.specs.Log.{Group}
use Rattle.nx_wal.proofs.WalLemmas.{group_from, group_long}
use Rattle.nx_wal.proofs.wal.Wal.group.Goals as goal

pub returns-in-Ok-clause-ok : goal.returns-in-Ok-clause-ok
returns-in-Ok-clause-ok g c = (
  refl,
  c.if-self.false,
  λ was step.
      let is = group_from c.args.self.now c.index-at.result.now c.args.index was.log step.follows c.requires c.index-at.ensures in
      is.group ∙ ap (λ (x : Group). Some x) (sym (c.in-Ok.ensures.group was (step.settled).here is.stands)),
)

pub returns-in-Ok-clause-reads : goal.returns-in-Ok-clause-reads
returns-in-Ok-clause-reads g c was step group there =
    let is = group_from c.args.self.now c.index-at.result.now c.args.index was.log step.follows c.requires c.index-at.ensures in
    let long = group_long group is there in
    let few = c.read_group.ensures.reads was (step.settled).here is.stands in
    omega (arith, long, few)

pub returns-in-Err-Disk-clause-reads : goal.returns-in-Err-Disk-clause-reads
returns-in-Err-Disk-clause-reads g c was step group there =
    let is = group_from c.args.self.now c.index-at.result.now c.args.index was.log step.follows c.requires c.index-at.ensures in
    let long = group_long group is there in
    let few = c.read_group.ensures.reads was (step.settled).here is.stands in
    omega (arith, long, few)

pub returns-in-Err-clause-reads : goal.returns-in-Err-clause-reads
returns-in-Err-clause-reads g c was step group there =
    let is = group_from c.args.self.now c.index-at.result.now c.args.index was.log step.follows c.requires c.index-at.ensures in
    let long = group_long group is there in
    let few = c.read_group.ensures.reads was (step.settled).here is.stands in
    omega (arith, long, few)
