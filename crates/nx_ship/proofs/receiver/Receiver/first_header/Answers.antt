use Rattle.std.proofs.Common.{sym}
use Rattle.nx_replay.specs.Log.{entry_pages}
use Rattle.nx_wal.specs.Wal.{pending}
use Rattle.nx_ship.proofs.EntryLemmas.{header_found, none_headed}
use Rattle.nx_ship.proofs.receiver.Receiver.first_header.Goals as goal

pub returns-in-Some : goal.returns-in-Some
returns-in-Some c = header_found (entry_pages (pending c.args.self.now.wal)) c.in-Some.first.now.bytes c.read_header.result (sym c.in-Some.ensures) c.read_header.ensures

pub returns-in-None : goal.returns-in-None
returns-in-None c header headed = none_headed (entry_pages (pending c.args.self.now.wal)) header (sym c.in-None.ensures) headed
