use Rattle.std.proofs.Common.{refl}
use Rattle.nx_records.proofs.StandLemmas.{header_known, all_wait, page_waits, put_current}
use Rattle.nx_records.proofs.records.Records.store.Goals as goal

pub returns-clause-ok : goal.returns-clause-ok
returns-clause-ok c = (
  c.begin.ensures,
  c.in-Ok.ensures.some,
  put_current c.args.self.now.wal c.put.new.self c.args.page c.args.bytes.now.bytes c.in-Ok.ensures.pending,
)

pub returns-clause-waits : goal.returns-clause-waits
returns-clause-waits c = page_waits c.args.self.now.waiting_head c.args.self.now.wal c.put.new.self c.args.page c.args.bytes.now.bytes c.in-Ok.ensures.pending

pub invariant_of-self-2-clause-header_waits : goal.invariant_of-self-2-clause-header_waits
invariant_of-self-2-clause-header_waits c =
    header_known c.args.self.now.waiting_head c.args.self.now.wal c.put.new.self c.args.page c.args.bytes.now.bytes c.in-Ok.ensures.pending c.known_beside-self.result
    c.known_beside-self.ensures.here c.known_beside-self.ensures.elsewhere c.args.self.now.header_waits

pub returns-clause-puts : goal.returns-clause-puts
returns-clause-puts c = record {
  head = c.begin.ensures;
  waits = all_wait c.args.self.now.waiting_head c.args.self.now.wal c.put.new.self c.args.page c.args.bytes.now.bytes c.in-Ok.ensures.pending;
  known = refl;
}
