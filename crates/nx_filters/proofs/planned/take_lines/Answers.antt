use Rattle.std.proofs.Common.{◌-◌, ◌++◌, List, ℕ, length, take, drop, subst, arith}
use Rattle.std.proofs.lemmas.List.{take_all}
use Rattle.nx_script.specs.Body.{AwaitsDot, IsEndedBy, AwaitsOrHasDot}
use Rattle.nx_filters.proofs.PlannedLemmas.{take_on, taken_within}
use Rattle.nx_filters.proofs.planned.take_lines.Goals as goal

pub returns-then-ended-clause-inside : goal.returns-then-ended-clause-inside
returns-then-ended-clause-inside c = taken_within c.loop-start.start c.in_ok-len.len c.args.bytes.now c.loop-start.invariant.here c.in_ok-len.ensures.within

pub returns-then-ended-clause-stands : goal.returns-then-ended-clause-stands
returns-then-ended-clause-stands c = λ s within.
    subst (λ (l : List ℕ). IsEndedBy c.take.new.self l) (take_on s c.args.bytes.now c.loop-start.start c.in_ok-len.len)
    (subst (λ e. AwaitsOrHasDot e c.take.new.self ((s ++ take c.loop-start.start c.args.bytes.now) ++ take c.in_ok-len.len (take (length c.args.bytes.now - c.loop-start.start) (drop c.loop-start.start c.args.bytes.now)))) c.if-ended.true
    (c.in_ok-len.ensures.stands (s ++ take c.loop-start.start c.args.bytes.now) (c.loop-start.invariant.within s within)))

pub loop-start-preserved : goal.loop-start-preserved
loop-start-preserved c = record {
  here = taken_within c.loop-start.start c.in_ok-len.len c.args.bytes.now c.loop-start.invariant.here c.in_ok-len.ensures.within;
  within = λ s within.
      subst (λ (l : List ℕ). AwaitsDot c.take.new.self l) (take_on s c.args.bytes.now c.loop-start.start c.in_ok-len.len)
      (subst (λ e. AwaitsOrHasDot e c.take.new.self ((s ++ take c.loop-start.start c.args.bytes.now) ++ take c.in_ok-len.len (take (length c.args.bytes.now - c.loop-start.start) (drop c.loop-start.start c.args.bytes.now)))) c.if-ended.false
      (c.in_ok-len.ensures.stands (s ++ take c.loop-start.start c.args.bytes.now) (c.loop-start.invariant.within s within)));
}

pub returns-clause-stands : goal.returns-clause-stands
returns-clause-stands c = λ s within.
    let here = c.loop-start.invariant.here in
    let past = c.loop-start-test.false in
    subst (λ (l : List ℕ). AwaitsDot c.loop-start.body (s ++ l)) (take_all c.loop-start.start c.args.bytes.now (omega arith)) (c.loop-start.invariant.within s within)
