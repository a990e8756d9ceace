use Rattle.std.proofs.Common.{rules, arith, ◌≡◌, ◌+◌, ◌≤◌, [], ◌∷◌, ◌++◌, false, ap, ◌∙◌, length, drop, sym, subst, vec_len}
use Rattle.std.proofs.lemmas.List.{drop_all, take_rest}
use Rattle.std.proofs.Math.ListN.{drop_of_length-le}
use Rattle.nx_tree.specs.Forest.{OrderedTree, Plant, Empty, nodes}
use Rattle.nx_tree.specs.Document.{depth}
use Rattle.nx_tree.proofs.TestLemmas.{next_left, depth_item}
use Rattle.nx_weights.proofs.LimitLemmas.{item_within, position_most, length_nodes}
use Rattle.nx_parts.specs.declared.bounds.Bound.{Bound}
use Rattle.nx_parts.specs.Minima.{AreMinimaIn}
use Rattle.nx_minima.specs.Seen.{tops}
use Rattle.nx_partition.specs.Planning.{first_bound, behind_first, AddsDrawing}
use Rattle.nx_partition.proofs.BoundsLemmas.{own_minima, below_minima, first_is, behind_is}
use Rattle.nx_partition.proofs.StandLemmas.{stands_many, choice_inside, next_of}
use Rattle.nx_partition.proofs.WalkLemmas.{uncut, walked_to_start, walked_to_next, walked_to_more, walked_end, popped}
use Rattle.nx_partition.proofs.planning.Planner.+plan_tree.Goals as goal

pub returns-then-bounds-eq1-clause-parts : goal.returns-then-bounds-eq1-clause-parts
returns-then-bounds-eq1-clause-parts t c =
    let m = (own_minima c.args.k c.args.tree.now c.args.bounds.now c.requires.minima).1 in
    let first = c.if-not-second.true in
    let flag : c.args.second ≡ false = grind (arith, first) in
    let one = ap (λ (b : Bound). b.least) (first_is c.args.bounds.now) ∙ c.if-bounds-eq1.true in
    subst (λ b. AddsDrawing c.args.k c.args.tree.now b (first_bound c.args.bounds.now) c.args.self.now.path.items c.args.self.now.parts c.args.self.now.parts) (sym flag)
    (uncut c.args.k c.args.tree.now (first_bound c.args.bounds.now) c.args.self.now.path.items c.args.self.now.parts m one)

pub loop-position-init : goal.loop-position-init
loop-position-init t c =
    let forest = c.as_slice-child-items.ensures.forest ∙ ap (λ (x : OrderedTree). x.below) c.tree.view_is in
    let behind = behind_is c.args.bounds.now in
    walked_to_start _ c.as_slice-child-items.result.now c.args.bounds.now
    (subst (AreMinimaIn c.args.k c.args.tree.now.below) behind (below_minima c.args.k c.args.tree.now c.args.bounds.now c.requires.minima))
    (ap (tops c.args.tree.now.below) (sym behind)) forest

pub index-stand-requires : goal.index-stand-requires
index-stand-requires t c =
    let forest = c.as_slice-child-items.ensures.forest ∙ ap (λ (x : OrderedTree). x.below) c.tree.view_is in
    let many = stands_many (behind_first c.args.bounds.now) c.as_slice-child-items.result.now c.in_ok-stands.ensures (below_minima c.args.k c.args.tree.now c.args.bounds.now c.requires.minima) forest in
    let len : vec_len c.in_ok-stands.stands ≡ length c.in_ok-stands.stands.items = omega (arith, c.in_ok-stands.stands.ok.0) in
    let within = c.loop-position-test.true in
    omega arith

pub overflow_cast-position : goal.overflow_cast-position
overflow_cast-position t c =
    let forest = c.as_slice-child-items.ensures.forest ∙ ap (λ (x : OrderedTree). x.below) c.tree.view_is in
    let most = position_most c.args.tree.now c.as_slice-child-items.result.now c.loop-position.position forest c.loop-position-test.true c.requires.limits in
    omega arith

pub open-requires-clause-small : goal.open-requires-clause-small
open-requires-clause-small t c =
    let forest = c.as_slice-child-items.ensures.forest ∙ ap (λ (x : OrderedTree). x.below) c.tree.view_is in
    position_most c.args.tree.now c.as_slice-child-items.result.now c.loop-position.position forest c.loop-position-test.true c.requires.limits

pub open-requires-clause-inside : goal.open-requires-clause-inside
open-requires-clause-inside t c =
    let ts = c.as_slice-child-items.result.now in
    let stands = c.in_ok-stands.stands.items in
    let forest = c.as_slice-child-items.ensures.forest ∙ ap (λ (x : OrderedTree). x.below) c.tree.view_is in
    let many = stands_many (behind_first c.args.bounds.now) ts c.in_ok-stands.ensures (below_minima c.args.k c.args.tree.now c.args.bounds.now c.requires.minima) forest in
    let within = c.loop-position-test.true in
    let stand = next_of stands c.loop-position.position c.index-stand.result.now (omega arith) c.index-stand.ensures in
    let few = c.requires.limits.few in
    let all = ap nodes forest in
    let number = length_nodes ts in
    choice_inside stands c.loop-position.position c.index-stand.result.now c.in_ok-stands.ensures (omega arith) stand

pub overflow_cast-position-in-loop-position : goal.overflow_cast-position-in-loop-position
overflow_cast-position-in-loop-position t c =
    let forest = c.as_slice-child-items.ensures.forest ∙ ap (λ (x : OrderedTree). x.below) c.tree.view_is in
    let most = position_most c.args.tree.now c.as_slice-child-items.result.now c.loop-position.position forest c.loop-position-test.true c.requires.limits in
    omega arith

pub plan_tree-requires : goal.plan_tree-requires
plan_tree-requires t c =
    let ts = c.as_slice-child-items.result.now in
    let i = c.loop-position.position in
    let child = c.child-item.result in
    let forest = c.as_slice-child-items.ensures.forest ∙ ap (λ (x : OrderedTree). x.below) c.tree.view_is in
    let d : 1 + depth child.below ≤ depth c.args.tree.now.below = depth_item c.args.tree.now.below ts i child forest c.loop-position-test.true c.child-item.is in
    let next = walked_to_next child c.loop-position.invariant (next_left _ _ _ c.loop-position-test.true c.child-item.is) in (
      search rules,
      (
        c.requires.some,
        (
          c.requires.bound,
          (
            item_within c.args.tree.now ts i child forest c.loop-position-test.true c.child-item.is c.requires.limits,
            subst (AreMinimaIn c.args.k (Plant child.node child.below Empty)) (sym (take_rest c.args.bounds.now c.loop-position.next)) next.0,
          ),
        ),
      ),
    )

pub loop-position-preserved : goal.loop-position-preserved
loop-position-preserved t c =
    let ts = c.as_slice-child-items.result.now in
    let stands = c.in_ok-stands.stands.items in
    let forest = c.as_slice-child-items.ensures.forest ∙ ap (λ (x : OrderedTree). x.below) c.tree.view_is in
    let many = stands_many (behind_first c.args.bounds.now) ts c.in_ok-stands.ensures (below_minima c.args.k c.args.tree.now c.args.bounds.now c.requires.minima) forest in
    let within = c.loop-position-test.true in
    let stand = next_of stands c.loop-position.position c.index-stand.result.now (omega arith) c.index-stand.ensures in
    let path = c.plan_tree.new.self.path in
    let len : vec_len path ≡ length path.items = omega (arith, path.ok.0) in
    let pushed = c.in_ok-push.ensures.items ∙ ap (λ l. l ++ c.loop-position.position ∷ []) c.in_ok-open.ensures.path in
    let rest = take_rest c.args.bounds.now c.loop-position.next in
    walked_to_more c.child-item.result c.index-stand.result.now c.loop-position.invariant (next_left _ _ _ within c.child-item.is, stand, c.count.ensures)
    c.in_ok-open.ensures.parts pushed
    (subst (λ b. AddsDrawing c.args.k c.child-item.result b (first_bound (drop c.loop-position.next c.args.bounds.now)) c.push.new.self.items c.open.new.self.parts c.plan_tree.new.self.parts) c.takes_second.ensures
    (subst (λ bs. AddsDrawing c.args.k c.child-item.result c.takes_second.result (first_bound bs) c.push.new.self.items c.open.new.self.parts c.plan_tree.new.self.parts) rest c.in_ok-plan_tree.ensures.parts))
    (popped c.loop-position.position (vec_len path) (c.in_ok-plan_tree.ensures.path ∙ pushed) len c.pop.ensures.rest)

pub returns-clause-parts : goal.returns-clause-parts
returns-clause-parts t c =
    let ts = c.as_slice-child-items.result.now in
    let stands = c.in_ok-stands.stands.items in
    let forest = c.as_slice-child-items.ensures.forest ∙ ap (λ (x : OrderedTree). x.below) c.tree.view_is in
    let many = stands_many (behind_first c.args.bounds.now) ts c.in_ok-stands.ensures (below_minima c.args.k c.args.tree.now c.args.bounds.now c.requires.minima) forest in
    let past = c.loop-position-test.false in
    walked_end (tops c.args.tree.now.below (behind_first c.args.bounds.now)) ts c.loop-position.position c.in_ok-stands.ensures c.loop-position.invariant (drop_all _ _ past)
    (drop_of_length-le stands (omega arith))
