use Rattle.std.proofs.Common.{◌+◌, Some, ap, sym, subst, arith}
use Rattle.nx_choices.specs.Profile.{left_at, lefts_of}
use Rattle.nx_choices.specs.Walk.{IsTried}
use Rattle.nx_choices.proofs.WalkLemmas.{tried_some, tried_heavy, tried_dear}
use Rattle.nx_choices.proofs.walk.Walk.goes_on.Goals as goal

pub returns-in_default : goal.returns-in_default
returns-in_default c = λ k room extras members others small a r.
    tried_heavy k members others c.args.self.cost c.args.self.left extras c.args.lightest.now.weights.items c.args.lightest.now.fewest a c.in_default.ensures

pub returns-then-left_at-self : goal.returns-then-left_at-self
returns-then-left_at-self c = λ k room extras members others small a r.
    let lefts = c.args.profiles.now.lefts.items in let w = c.args.self.left in let weights = c.args.lightest.now.weights.items in let fewest = c.args.lightest.now.fewest in
    let same = c.in-Some.ensures.0 in
    let at = ap (λ n. left_at (w + 1) (c.args.beyond.base + (1 + n)) (lefts_of lefts c.args.beyond) c.args.self.cost) same in
    let e = c.left_at.ensures in
    subst (λ n. IsTried k members others c.args.self.cost w extras (Some n)) (sym same)
    (tried_some k room members others lefts c.args.beyond c.args.self.cost w extras weights fewest a c.in-Some.ensures.1 r small (omega arith))

pub returns-else-left_at-self : goal.returns-else-left_at-self
returns-else-left_at-self c = λ k room extras members others small a r.
    let lefts = c.args.profiles.now.lefts.items in let w = c.args.self.left in let weights = c.args.lightest.now.weights.items in let fewest = c.args.lightest.now.fewest in
    let same = c.in-Some.ensures.0 in
    let at = ap (λ n. left_at (w + 1) (c.args.beyond.base + (1 + n)) (lefts_of lefts c.args.beyond) c.args.self.cost) same in
    let e = c.left_at.ensures in
    tried_dear k room members others lefts c.args.beyond c.args.self.cost w extras weights fewest a r small (omega arith)
