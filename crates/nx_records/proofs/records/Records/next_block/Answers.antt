use Rattle.nx_records.proofs.ReadingLemmas.{block_read}
use Rattle.nx_records.proofs.records.Records.next_block.Goals as goal

pub returns-clause-goes_on : goal.returns-clause-goes_on
returns-clause-goes_on g c was len bytes step read = block_read read c.in_ok-block.ensures.ok.1 (c.in_ok-block.ensures.step was step)

pub returns-clause-stood : goal.returns-clause-stood
returns-clause-stood g c was step = c.in_ok-block.ensures.stood was step
