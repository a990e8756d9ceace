use Rattle.std.proofs.Common.{sym}
use Rattle.nx_front.proofs.question.read_question.Goals as goal

pub returns-in-Bytes : goal.returns-in-Bytes
returns-in-Bytes c = rw (c.in-Bytes.is, sym c.as_slice.ensures) c.read_text.ensures
