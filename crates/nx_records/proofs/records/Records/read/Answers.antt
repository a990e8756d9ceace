use Rattle.std.proofs.Common.{refl}
use Rattle.nx_records.proofs.LeaveLemmas.{leaves_same}
use Rattle.nx_records.proofs.RefusalLemmas.{ended_now}
use Rattle.nx_records.proofs.SeenLemmas.{none_damaged, past_damaged, seen_record}
use Rattle.nx_records.proofs.records.Records.read.Goals as goal

pub returns-then-rid-self-clause-refused : goal.returns-then-rid-self-clause-refused
returns-then-rid-self-clause-refused g c =
    let old = c.args.self.now in
    past_damaged g.D.Disk old c.damaged.new.self c.args.disk.now c.args.disk.now c.args.rid.page c.args.rid.slot c.args.rid.page c.damaged.result c.if-rid-self.true c.damaged.ensures.result
    (ended_now {r0 = old} {r1 = old} {r2 = c.damaged.new.self} c.if-self.false refl c.damaged.ensures.ended)

pub returns-in-Some-clause-ok : goal.returns-in-Some-clause-ok
returns-in-Some-clause-ok g c =
    let old = c.args.self.now in (
      c.if-self.false,
      leaves_same c.in_ok-bytes.ensures.ok.0,
      seen_record g.D.Disk old c.record_at.new.self c.args.disk.now c.record_at.new.disk c.args.rid.page c.args.rid.slot c.in_ok-bytes.field-0 c.in-Some.bytes c.in-Some.is c.in_ok-bytes.ensures.ok.1,
    )

pub returns-in-None-clause-refused : goal.returns-in-None-clause-refused
returns-in-None-clause-refused g c =
    let old = c.args.self.now in
    none_damaged g.D.Disk old c.damaged-in-None.new.self c.args.disk.now c.record_at.new.disk c.args.rid.page c.args.rid.slot c.in_ok-bytes.field-0 c.args.rid.page c.damaged-in-None.result c.in-None.is c.damaged-in-None.ensures.result
    (ended_now {r0 = old} {r1 = c.record_at.new.self} {r2 = c.damaged-in-None.new.self} c.if-self.false c.in_ok-bytes.ensures.ok.0 c.damaged-in-None.ensures.ended) c.in_ok-bytes.ensures.ok.1
