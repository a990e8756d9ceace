use Rattle.std.proofs.Common.{ap}
use Rattle.std.specs.Prelude.{◌==◌}
use Rattle.std.proofs.lemmas.Nat.Bits.{bit_at_clear_same, bit_at_clear_other}
use Rattle.std.specs.Int.{w8}
use Rattle.nx_check.proofs.left.without_bit.Goals as goal

pub returns-clause-here : goal.returns-clause-here
returns-clause-here c = ap (λ x. x == 1) (bit_at_clear_same w8 c.args.word c.args.bit c.requires)

pub returns-clause-other : goal.returns-clause-other
returns-clause-other c = λ i low apart. ap (λ x. x == 1) (bit_at_clear_other w8 c.args.word c.args.bit c.requires i low apart)
