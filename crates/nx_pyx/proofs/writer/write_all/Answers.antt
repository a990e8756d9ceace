use Rattle.std.proofs.Common.{rules}
use Rattle.nx_pyx.proofs.PrefixLemmas.{less-left}
use Rattle.nx_pyx.proofs.writer.write_all.Goals as goal

pub loop-writer-smaller : goal.loop-writer-smaller
loop-writer-smaller c = less-left c.loop-writer.bytes c.loop-writer.writer c.step.new.block c.step.new.self c.step.ensures.text (search rules)
