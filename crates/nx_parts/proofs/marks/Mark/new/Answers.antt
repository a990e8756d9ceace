use Rattle.std.proofs.Common.{None, refl}
use Rattle.nx_parts.proofs.MarkLemmas.{empty_mark}
use Rattle.nx_parts.proofs.marks.Mark.new.Goals as goal

pub returns : goal.returns
returns c = λ path. empty_mark (record { holder = None; below = c.new.result }) refl c.new.ensures.items path
