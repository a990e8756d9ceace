use Rattle.std.proofs.Common.{refl, get_or, arith}
use Rattle.nx_pyx.proofs.FieldLemmas.{is_number-stopped, is_number-read}
use Rattle.nx_pyx.proofs.fields.number.Goals as goal

pub returns-in_err-number : goal.returns-in_err-number
returns-in_err-number c =
    let i = c.loop-digit.digit-index in
    rw c.from_residual.ensures (
    is_number-stopped c.args.digits.now i c.loop-digit.number (get_or c.args.digits.now i 0) 0 c.loop-digit.invariant (omega arith) refl c.in_err-number.ensures
    )

pub returns : goal.returns
returns c = is_number-read c.args.digits.now c.loop-digit.digit-index c.loop-digit.number c.loop-digit.invariant (omega arith)
