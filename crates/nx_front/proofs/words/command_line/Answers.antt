use Rattle.nx_front.proofs.CommandLineLemmas.{no_line}
use Rattle.nx_front.proofs.words.command_line.Goals as goal

pub returns-in-Ok-None-clause-line : goal.returns-in-Ok-None-clause-line
returns-in-Ok-None-clause-line c = no_line c.args.words.now (rw c.in-Ok-None.field-0-is at c.in-Ok-None.ensures.found)
