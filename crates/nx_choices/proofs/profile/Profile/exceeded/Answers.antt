use Rattle.std.proofs.Common.{◌+◌, ◌<◌, ◌≤◌, Some, None, sym, subst, arith}
use Rattle.nx_choices.specs.declared.child.Field.TheVariants.{Least}
use Rattle.nx_choices.specs.Claim.{IsExceeded}
use Rattle.nx_choices.specs.Profile.{count_by_cost, IsExcess}
use Rattle.nx_choices.proofs.FoundLemmas.{least_supported, least_exceeded, lean_exceeded, nearly_exceeded}
use Rattle.nx_choices.proofs.profile.Profile.exceeded.Goals as goal

pub returns-then-least-claimed : goal.returns-then-least-claimed
returns-then-least-claimed c = λ children p a.
    let own = c.args.parent.own in let room = c.args.parent.room in let number = c.args.parent.counts.number in let sum = c.args.parent.counts.sum in
    let from = c.from-claimed.ensures in let e = c.count-least.ensures in
    let less : count_by_cost sum number c.cheapest.result < c.args.claims.least = omega arith in (
      tt,
      subst (λ n. IsExceeded (own + room) Least (record { own = own; children = children; bound = c.args.claims }) n) (sym e)
          (least_exceeded own room children c.args.claims number sum c.cheapest.result a (c.cheapest.ensures.cheapest (own + room) children p) less),
    )

pub returns-in-Some : goal.returns-in-Some
returns-in-Some c = λ children p a.
    let own = c.args.parent.own in let room = c.args.parent.room in let number = c.args.parent.counts.number in let sum = c.args.parent.counts.sum in
    let from = c.from-claimed.ensures in let e = c.count-least.ensures in
    let enough : c.args.claims.least ≤ count_by_cost sum number c.cheapest.result = omega arith in
    let h = subst (λ n. IsExcess (own + room) own children n c.args.claims.lean (Some c.in-Some.found)) from (c.in-Some.ensures children p a) in (
      least_supported own room children c.args.claims number sum c.cheapest.result a (c.cheapest.ensures.cheapest (own + room) children p) enough,
      lean_exceeded (own + room) own children c.args.claims c.in-Some.found h,
    )

pub returns-in-Some-exceeds : goal.returns-in-Some-exceeds
returns-in-Some-exceeds c = λ children p a.
    let own = c.args.parent.own in let room = c.args.parent.room in let number = c.args.parent.counts.number in let sum = c.args.parent.counts.sum in
    let from = c.from-claimed.ensures in let e = c.count-least.ensures in
    let enough : c.args.claims.least ≤ count_by_cost sum number c.cheapest.result = omega arith in
    let lean = subst (λ n. IsExcess (own + room) own children n c.args.claims.lean None) from (c.in_default.ensures children p a) in
    let h = subst (λ n. IsExcess (own + room) own children (n + 1) c.args.claims.nearly (Some c.in-Some-exceeds.found)) from (c.in-Some-exceeds.ensures children p a) in (
      (least_supported own room children c.args.claims number sum c.cheapest.result a (c.cheapest.ensures.cheapest (own + room) children p) enough, lean),
      nearly_exceeded (own + room) own children c.args.claims c.in-Some-exceeds.found h,
    )

pub returns : goal.returns
returns c = λ children p a.
    let own = c.args.parent.own in let room = c.args.parent.room in let number = c.args.parent.counts.number in let sum = c.args.parent.counts.sum in
    let from = c.from-claimed.ensures in let e = c.count-least.ensures in
    let enough : c.args.claims.least ≤ count_by_cost sum number c.cheapest.result = omega arith in
    record {
      least = least_supported own room children c.args.claims number sum c.cheapest.result a (c.cheapest.ensures.cheapest (own + room) children p) enough;
      lean = subst (λ n. IsExcess (own + room) own children n c.args.claims.lean None) from (c.in_default.ensures children p a);
      nearly = subst (λ n. IsExcess (own + room) own children (n + 1) c.args.claims.nearly None) from (c.in_default-exceeds.ensures children p a);
    }
