use Rattle.std.proofs.Common.{◌≡◌, ◌-◌, ◌<◌, ◌≤◌, get_or, Some, ap, subst, arith}
use Rattle.nx_choices.specs.Profile.{IsLeastLeft}
use Rattle.nx_choices.proofs.FoundLemmas.{left_none, left_some}
use Rattle.nx_choices.proofs.profile.Profile.least_left.Goals as goal

pub returns-then-left-room-clause-least : goal.returns-then-left-room-clause-least
returns-then-left-room-clause-least c = λ k children p.
    let base = c.args.self.now.base in let lefts = c.args.self.now.lefts.items in
    let from = c.from-base.ensures in let e = c.get_or_zero-left.ensures in let at = ap (λ n. get_or lefts (c.args.cost - n) 0) from in
    let much : c.args.room < get_or lefts (c.args.cost - base) 0 = omega arith in
    left_none k c.args.room children base lefts c.args.cost much p

pub returns-else-left-room-clause-least : goal.returns-else-left-room-clause-least
returns-else-left-room-clause-least c = λ k children p.
    let base = c.args.self.now.base in let lefts = c.args.self.now.lefts.items in
    let from = c.from-base.ensures in let e = c.get_or_zero-left.ensures in let at = ap (λ n. get_or lefts (c.args.cost - n) 0) from in
    let little : get_or lefts (c.args.cost - base) 0 ≤ c.args.room = omega arith in
    let enough : base ≤ c.args.cost = omega arith in
    let same : get_or lefts (c.args.cost - base) 0 ≡ c.get_or_zero-left.result = omega arith in
    subst (λ n. IsLeastLeft k c.args.room children c.args.cost (Some n)) same (left_some k c.args.room children base lefts c.args.cost enough little p)
