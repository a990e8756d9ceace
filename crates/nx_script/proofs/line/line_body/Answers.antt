use Rattle.nx_script.proofs.BodyLemmas.{wrong_line}
use Rattle.nx_script.proofs.line.line_body.Goals as goal

pub returns-in-Err-Pyx : goal.returns-in-Err-Pyx
returns-in-Err-Pyx c = let h = rw c.in-Err-Pyx.field-0-is at c.in-Err-Pyx.ensures.err in wrong_line c.args.line.now c.in-Err-Pyx.error h
