use Rattle.std.proofs.Common.{◌+◌, ◌-◌, ◌/◌, ◌<◌, length, subst, arith}
use Rattle.nx_matrix.specs.Label.{behind_mark}
use Rattle.nx_matrix.specs.Rules.{AreRules}
use Rattle.nx_matrix.proofs.OrderLemmas.{Pair, compared, lowered, pair_same, raised}
use Rattle.nx_matrix.proofs.matrix.Matrix.search.Goals as goal

pub loop-low-preserved-in-Less : goal.loop-low-preserved-in-Less
loop-low-preserved-in-Less c =
    let pair : Pair = (behind_mark c.args.parent_mark c.args.parent.now, behind_mark c.args.child_mark c.args.child.now) in
    let rules = c.args.self.now in
    let are : AreRules rules = subst AreRules c.self.view_is c.self.invariant in
    let lies = c.loop-low.invariant in
    let middle = c.loop-low.low + (c.loop-low.high - c.loop-low.low) / 2 in
    let lt = c.loop-low-test.true in
    let below : middle < c.loop-low.high = omega arith in
    raised rules pair are.ordered c.loop-low.low c.loop-low.high middle lies (omega arith) below
    (compared c.self.inside.rules.items rules middle c.index.result.now pair _ c.self.view_is c.index.ensures (omega (arith, lies.within)) c.in-Less.ensures)

pub returns-in-Equal-clause-found : goal.returns-in-Equal-clause-found
returns-in-Equal-clause-found c =
    let pair : Pair = (behind_mark c.args.parent_mark c.args.parent.now, behind_mark c.args.child_mark c.args.child.now) in
    let rules = c.args.self.now in
    let lies = c.loop-low.invariant in
    let middle = c.loop-low.low + (c.loop-low.high - c.loop-low.low) / 2 in
    let lt = c.loop-low-test.true in
    let below : middle < c.loop-low.high = omega arith in
    let within : middle < length rules = omega (arith, lies.within) in
    record {
      within = within;
      same = λ d. pair_same _ pair (compared c.self.inside.rules.items rules middle c.index.result.now pair _ c.self.view_is c.index.ensures within c.in-Equal.ensures d);
    }

pub loop-low-preserved : goal.loop-low-preserved
loop-low-preserved c =
    let pair : Pair = (behind_mark c.args.parent_mark c.args.parent.now, behind_mark c.args.child_mark c.args.child.now) in
    let rules = c.args.self.now in
    let are : AreRules rules = subst AreRules c.self.view_is c.self.invariant in
    let lies = c.loop-low.invariant in
    let middle = c.loop-low.low + (c.loop-low.high - c.loop-low.low) / 2 in
    let lt = c.loop-low-test.true in
    let below : middle < c.loop-low.high = omega arith in
    lowered rules pair are.ordered c.loop-low.low c.loop-low.high middle lies (omega arith) below
    (compared c.self.inside.rules.items rules middle c.index.result.now pair _ c.self.view_is c.index.ensures (omega (arith, lies.within)) c.in-Greater.ensures)
