use Rattle.nx_replay.proofs.SettledLemmas.{on_ok}
use Rattle.nx_ship.specs.Reading.{page_of}
use Rattle.nx_ship.proofs.ReceivingLemmas.{leaves_none, same_stream}
use Rattle.nx_ship.proofs.TakingLemmas.{applies_none}
use Rattle.nx_ship.proofs.CallLemmas.{passes_page, not_next}
use Rattle.nx_ship.proofs.receiver.Receiver.put.Goals as goal

pub returns-in-Ok-clause-ok : goal.returns-in-Ok-clause-ok
returns-in-Ok-clause-ok g c = on_ok c.keep.result c.keep.ensures.ok (λ keeps. keeps c.in-Ok.ensures)

pub returns-in-Err-clause-ok : goal.returns-in-Err-clause-ok
returns-in-Err-clause-ok g c = passes_page {d = g.D.Disk} (page_of c.args.page c.args.self.now.reader) (not_next c.args.self.now.last c.args.self.now.reader.number c.in-Err.field-0 c.in-Err.ensures)

pub returns-in-Err-clause-moves : goal.returns-in-Err-clause-moves
returns-in-Err-clause-moves g c = applies_none c.args.self.now c.args.disk.now

pub returns-in-Err-clause-leaves : goal.returns-in-Err-clause-leaves
returns-in-Err-clause-leaves g c = leaves_none c.args.disk.now

pub returns-in-Err-clause-stays : goal.returns-in-Err-clause-stays
returns-in-Err-clause-stays g c = same_stream c.args.self.now
