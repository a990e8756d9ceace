use Rattle.std.proofs.Common.{refl, inl}
use Rattle.nx_records.proofs.StandLemmas.{header_beside, same_wal}
use Rattle.nx_records.proofs.StepLemmas.{room_put}
use Rattle.nx_records.proofs.RoomLemmas.{waited_fits}
use Rattle.nx_records.proofs.records.Records.put_waiting.Goals as goal

pub returns-in-Some-clause-put : goal.returns-in-Some-clause-put
returns-in-Some-clause-put g c = (
  record {
    runs = c.requires.runs;
    follows = c.put_record.ensures.follows;
    saved = refl;
    length_stays = c.put_record.ensures.stays.0;
    settings_stay = refl;
    known = inl refl;
  },
  room_put g.D.Disk c.args.self.now.head c.args.self.now.wal c.put_record.new.self c.args.disk.now c.in-Some.slot c.args.bytes.now c.requires.there c.in-Some.ensures.put,
)

pub returns-in-None-clause-none : goal.returns-in-None-clause-none
returns-in-None-clause-none g c =
    same_wal c.args.self.now c.put_record.new.self c.in-None.ensures.none.0 _ _ _ _ _

pub invariant_of-self-clause-header_waits : goal.invariant_of-self-clause-header_waits
invariant_of-self-clause-header_waits g c =
    header_beside _ c.args.self.now.waiting_head c.args.self.now.wal c.put_record.new.self c.args.self.now.head.room c.args.bytes.now c.put_record.result c.requires.there
    c.put_record.ensures.put c.put_record.ensures.none c.args.self.now.header_waits

pub returns-in-Some-clause-fits : goal.returns-in-Some-clause-fits
returns-in-Some-clause-fits g c was = waited_fits c.args.self.now.wal c.put_record.new.self c.args.self.now.head c.requires.there c.in-Some.ensures.put was
