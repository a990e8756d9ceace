use Rattle.std.proofs.Common.{rules, arith, ◌≡◌, ◌+◌, ◌<◌, ◌≤◌, sym, ap, ◌∙◌, length, vec_len}
use Rattle.nx_tree.specs.Forest.{OrderedTree}
use Rattle.nx_tree.specs.Document.{depth}
use Rattle.nx_tree.proofs.TestLemmas.{next_left, depth_item}
use Rattle.nx_weights.proofs.LimitLemmas.{item_within, position_most}
use Rattle.nx_weights.proofs.HeavyLemmas.{found_below, passed_more}
use Rattle.nx_weights.proofs.heavy.+find_heavy.Goals as goal

pub overflow_cast-position : goal.overflow_cast-position
overflow_cast-position t c =
    let forest = c.as_slice-child-items.ensures.forest ∙ ap (λ (x : OrderedTree). x.below) c.tree.view_is in
    let most : c.loop-position.position < 524288 =
    position_most c.args.tree.now c.as_slice-child-items.result.now c.loop-position.position forest c.loop-position-test.true c.requires in
    omega arith

pub find_heavy-requires : goal.find_heavy-requires
find_heavy-requires t c =
    let forest = c.as_slice-child-items.ensures.forest ∙ ap (λ (x : OrderedTree). x.below) c.tree.view_is in
    let d : 1 + depth c.child-item.result.below ≤ depth c.args.tree.now.below =
    depth_item c.args.tree.now.below c.as_slice-child-items.result.now c.loop-position.position c.child-item.result forest c.loop-position-test.true c.child-item.is in
    (search rules, item_within c.args.tree.now c.as_slice-child-items.result.now c.loop-position.position c.child-item.result forest c.loop-position-test.true c.child-item.is c.requires)

pub returns-then-is_some : goal.returns-then-is_some
returns-then-is_some t c =
    found_below c.args.k c.loop-position.position c.loop-position.path.items c.args.path.now.items c.push.new.self.items c.find_heavy.new.path.items c.as_slice-child-items.result.now c.args.tree.now c.child-item.result c.in_ok-found.found
    c.loop-position.invariant (next_left _ _ _ c.loop-position-test.true c.child-item.is) c.in_ok-push.ensures.items (sym c.is_some.ensures ∙ c.if-is_some.true) c.in_ok-found.ensures

pub loop-position-preserved : goal.loop-position-preserved
loop-position-preserved t c =
    let path = c.find_heavy.new.path in
    let len : vec_len path ≡ length path.items = omega (arith, path.ok.0) in
    passed_more c.args.k c.loop-position.position (vec_len path) c.loop-position.path.items c.args.path.now.items c.push.new.self.items path.items c.pop.new.self.items c.as_slice-child-items.result.now c.args.tree.now c.child-item.result c.in_ok-found.found
    c.loop-position.invariant (next_left _ _ _ c.loop-position-test.true c.child-item.is) c.in_ok-push.ensures.items (sym c.is_some.ensures ∙ c.if-is_some.false) c.in_ok-found.ensures c.pop.ensures.rest len
