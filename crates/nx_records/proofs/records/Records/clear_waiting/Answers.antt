use Rattle.std.proofs.Common.{refl, arith, inl}
use Rattle.nx_records.proofs.StandLemmas.{header_apart, same_wal}
use Rattle.nx_records.proofs.StepLemmas.{waiting_clear}
use Rattle.nx_records.proofs.records.Records.clear_waiting.Goals as goal

pub invariant_of-self-clause-header_waits : goal.invariant_of-self-clause-header_waits
invariant_of-self-clause-header_waits g c =
    header_apart _ c.args.self.now.waiting_head c.args.self.now.wal c.clear_record.new.self c.args.rid.page c.args.rid.slot c.clear_record.result c.if-rid-eq0.false
    c.clear_record.ensures.cleared c.clear_record.ensures.none c.args.self.now.header_waits

pub returns-clause-cleared : goal.returns-clause-cleared
returns-clause-cleared g c done = (
  record {
    runs = c.requires;
    follows = c.clear_record.ensures.follows;
    saved = refl;
    length_stays = c.clear_record.ensures.stays.0;
    settings_stay = refl;
    known = inl refl;
  },
  waiting_clear g.D.Disk c.args.self.now.head c.args.self.now.wal c.clear_record.new.self c.args.disk.now c.args.rid.page c.args.rid.slot
      (let low = c.if-rid-self.false in omega arith) (c.clear_record.ensures.cleared done),
)

pub returns-clause-none : goal.returns-clause-none
returns-clause-none g c none = same_wal c.args.self.now c.clear_record.new.self (c.clear_record.ensures.none none).0 _ _ _ _ _
