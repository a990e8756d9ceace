use Rattle.std.proofs.Common.{refl, arith}
use Rattle.nx_parts.proofs.check.first_above.Goals as goal

pub returns-then-weight-from : goal.returns-then-weight-from
returns-then-weight-from c = (
  record {
    holds = (omega arith, omega arith);
    before = λ j lt a. let h = c.loop-index.invariant j 0 lt in let b = a.1 in absurd (omega arith);
  },
  refl,
)
