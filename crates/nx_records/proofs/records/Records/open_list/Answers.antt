use Rattle.std.proofs.Common.{refl}
use Rattle.nx_wal.specs.Wal.{current}
use Rattle.nx_links.proofs.ListLemmas.{lists_from}
use Rattle.nx_records.specs.Changes.{LacksList}
use Rattle.nx_records.proofs.ChainLemmas.{lacks_list, read_damaged}
use Rattle.nx_records.proofs.RefusalLemmas.{ended_now}
use Rattle.nx_records.proofs.records.Records.open_list.Goals as goal

pub returns-then-not-may_begin-clause-refused : goal.returns-then-not-may_begin-clause-refused
returns-then-not-may_begin-clause-refused g c =
    read_damaged g.D.Disk c.args.self.now c.damaged.new.self c.args.disk.now c.args.disk.now c.args.first (λ now. LacksList now c.args.first c.args.len) c.damaged.result c.damaged.ensures.result
    (ended_now {r0 = c.args.self.now} {r1 = c.args.self.now} {r2 = c.damaged.new.self} c.if-self.false refl c.damaged.ensures.ended)
    (λ saved now stands. lacks_list stands.holds c.args.first c.args.len (c.may_begin.ensures.no c.if-not-may_begin.true))

pub returns-in_default-clause-refused : goal.returns-in_default-clause-refused
returns-in_default-clause-refused g c =
    read_damaged g.D.Disk c.args.self.now c.damaged-in_default.new.self c.args.disk.now c.args.disk.now c.args.first (λ now. LacksList now c.args.first c.args.len) c.damaged-in_default.result
    c.damaged-in_default.ensures.result
    (ended_now {r0 = c.args.self.now} {r1 = c.args.self.now} {r2 = c.damaged-in_default.new.self} c.if-self.false refl c.damaged-in_default.ensures.ended)
    (λ saved now stands list there long. c.in_default.ensures.none (current c.args.self.now.wal (stands.keeps).image) list (lists_from stands.holds c.args.first list there).0 long)
