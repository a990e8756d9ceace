use Rattle.nx_script.proofs.DocumentLines.{feeds, feeds_fault}
use Rattle.nx_script.proofs.body.feed.Goals as goal

pub returns-in-Ok : goal.returns-in-Ok
returns-in-Ok c = feeds c.in-Ok.is c.in-Ok.ensures.ok c.feed.ensures.again

pub returns-in-Err-Pyx : goal.returns-in-Err-Pyx
returns-in-Err-Pyx c =
    feeds_fault c.args.bytes.now c.in-Err-Pyx.field-0-is c.in-Err-Pyx.ensures.failed
    c.in-Err-Pyx.ensures.fault c.feed.ensures.again
