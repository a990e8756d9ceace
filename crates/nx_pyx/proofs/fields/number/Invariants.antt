use Rattle.nx_pyx.proofs.FieldLemmas.{IsRead}
use Rattle.nx_pyx.proofs.fields.number.Given as goal

abbrev pub invariant-loop-digit : goal.invariant-loop-digit
invariant-loop-digit l = IsRead l.digits l.digit-index l.number
