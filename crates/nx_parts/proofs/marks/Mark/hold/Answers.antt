use Rattle.std.proofs.Common.{refl}
use Rattle.nx_parts.proofs.MarkLemmas.{taken_root}
use Rattle.nx_parts.proofs.marks.Mark.hold.Goals as goal

pub returns-then-is_some-clause-err : goal.returns-then-is_some-clause-err
returns-then-is_some-clause-err c = (refl, taken_root c.args.self.now (c.if-is_some.ensures))
