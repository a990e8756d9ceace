use Rattle.std.proofs.Common.{◌+◌, ◌≤◌, arith}
use Rattle.nx_choices.specs.Profile.{count_by_cost}
use Rattle.nx_choices.proofs.LeastLemmas.{fewest}
use Rattle.nx_choices.proofs.profile.Profile.least.Goals as goal

pub returns : goal.returns
returns c = λ children p a.
    let own = c.args.parent.own in let room = c.args.parent.room in let number = c.args.parent.counts.number in let sum = c.args.parent.counts.sum in
    let h = c.cheapest.ensures.cheapest (own + room) children p in
    let e = c.count-least.ensures in
    let one : count_by_cost sum number c.cheapest.result ≤ c.count-least.result = omega arith in
    let more : count_by_cost sum number c.cheapest.result ≤ c.count-least.result + 1 = omega arith in
    record {
      least = fewest own room children number sum c.cheapest.result c.count-least.result a h e;
      lean = c.lightest.ensures children c.cheapest.result p a h one;
      nearly = c.lightest-2.ensures children c.cheapest.result p a h more;
    }
