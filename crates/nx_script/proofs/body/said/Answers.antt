use Rattle.nx_script.proofs.DocumentLines.{said_read, said_wrong}
use Rattle.nx_script.proofs.body.said.Goals as goal

pub returns-in-Ok : goal.returns-in-Ok
returns-in-Ok c = said_read c.args.reader c.in-Ok.tree c.finish.result c.in-Ok.is c.in-Ok.ensures.ok c.finish.ensures.again

pub returns-in-Err-Pyx : goal.returns-in-Err-Pyx
returns-in-Err-Pyx c =
    said_wrong c.in-Err-Pyx.is c.in-Err-Pyx.field-0-is c.in-Err-Pyx.ensures.fault c.finish.ensures.again
