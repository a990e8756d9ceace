use Rattle.std.proofs.Common.{arith}
use Rattle.nx_choices.proofs.FoundLemmas.{supported_heavy}
use Rattle.nx_choices.proofs.choices.Choices.exceeded.Goals as goal

pub returns-in_default : goal.returns-in_default
returns-in_default c = supported_heavy c.args.k c.args.own c.args.children.now c.args.claimed (let h = c.in_default.ensures in omega arith)
