use Rattle.std.proofs.Common.{◌≡◌, ◌+◌, ℕ, length, subst, arith}
use Rattle.nx_seek.specs.Children.{IsOneOn}
use Rattle.nx_seek.proofs.ChildLemmas.{run_fits, in_run, behind_run, is_node}
use Rattle.nx_seek.proofs.children.step_on.Goals as goal

pub returns-then-position-eq0 : goal.returns-then-position-eq0
returns-then-position-eq0 c f tail all stands some are fits =
    is_node all c.args.position (record { node = c.in-Some-Node.node; items = c.in-Some-Node.items; behind = c.in-Some-Node.behind; first = c.args.first }) f stands some
    ((rw c.in-Some-Node.field-0-is at c.in-Some-Node.ensures.first) f tail stands) c.if-position-eq0.true

pub returns-in-Some-Root : goal.returns-in-Some-Root
returns-in-Some-Root c f tail all stands some are fits =
    let run = (rw c.in-Some-Run.field-0-is at c.in-Some-Run.ensures.first) f tail stands in
    let there = (rw c.in-Some-Root.field-0-is at c.in-Some-Root.ensures) all are (run_fits c.args.first (length all) c.in-Some-Run.behind.now tail c.in-Some-Run.count f some fits run) in
    (in_run all c.args.first c.args.position c.in-Some-Root.index c.in-Some-Root.member c.in-Some-Run.behind.now tail c.in-Some-Run.count f some run there.0, there.1)

pub returns-in-Some-Behind : goal.returns-in-Some-Behind
returns-in-Some-Behind c f tail all stands some are fits =
    let run = (rw c.in-Some-Run.field-0-is at c.in-Some-Run.ensures.first) f tail stands in
    let far = (rw c.in-Some-Behind.field-0-is at c.in-Some-Behind.ensures) all are (run_fits c.args.first (length all) c.in-Some-Run.behind.now tail c.in-Some-Run.count f some fits run) in
    let sum : c.args.first + c.in-Some-Run.count ≡ c.in-Some.before = let s = c.in-Some.ensures in omega arith in
    subst (λ (n : ℕ). IsOneOn all c.args.first c.args.position f tail n c.in-Some-Behind.left c.in-Some-Run.behind.now) sum
    (behind_run c.in-Some-Run.count f stands some run far)
