use Rattle.std.proofs.Common.{sym, ◌∙◌, arith}
use Rattle.nx_wal.proofs.ReadingLemmas.{if_ok}
use Rattle.nx_wal.proofs.reading.has_group.Goals as goal

pub returns-clause-some : goal.returns-clause-some
returns-clause-some g c = if_ok c.read_numbers.result c.read_numbers.ensures.rise (λ rises rise is. (omega (arith, c.if-head-eq0.false), λ was told fits. sym (rise was told fits) ∙ is))

pub returns-clause-none : goal.returns-clause-none
returns-clause-none g c = if_ok c.read_numbers.result c.read_numbers.ensures.rise (λ rises rise is some was told fits. sym (rise was told fits) ∙ is)
