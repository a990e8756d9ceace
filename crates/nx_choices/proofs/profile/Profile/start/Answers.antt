use Rattle.std.proofs.Common.{arith}
use Rattle.nx_choices.proofs.BuildLemmas.{lefts_len}
use Rattle.nx_choices.proofs.profile.Profile.start.Goals as goal

pub returns-clause-lefts : goal.returns-clause-lefts
returns-clause-lefts c =
    let e = lefts_len c.args.profiles.now.lefts.items c.args.beyond c.requires.beyond_inside in
    record { len = omega arith; each = c.loop-cost.invariant.each }
