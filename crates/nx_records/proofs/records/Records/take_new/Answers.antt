use Rattle.std.proofs.Common.{arith}
use Rattle.nx_records.proofs.RoomLemmas.{unused_is_free}
use Rattle.nx_records.proofs.records.Records.take_new.Goals as goal

pub returns-clause-free : goal.returns-clause-free
returns-clause-free c = let past = c.if-page-self.false in unused_is_free c.args.self.now.head c.requires.none (omega (arith, past))
