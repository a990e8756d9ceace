use Rattle.std.proofs.Common.{arith, ◌≡◌, ◌+◌, ◌≤◌, [], ◌∷◌, ◌++◌, length, get_or, sym, subst, ap, ◌∙◌}
use Rattle.std.proofs.lemmas.Option.{slice_get-get_or}
use Rattle.nx_parts.specs.declared.bounds.Bound.{Bound}
use Rattle.nx_choices.specs.declared.child.Child.{Child}
use Rattle.nx_bounds.specs.Claim.{claimed_child}
use Rattle.std.proofs.lemmas.List.{drop_all}
use Rattle.nx_tree.specs.Forest.{OrderedTree, nodes}
use Rattle.nx_tree.proofs.TestLemmas.{next_left}
use Rattle.nx_weights.specs.Weight.{IsShort}
use Rattle.nx_weights.proofs.LimitLemmas.{item_within}
use Rattle.nx_bounds.proofs.WalkLemmas.{list_start, list_within, list_more, list_end}
use Rattle.nx_bounds.proofs.support.claim_children.Goals as goal

pub loop-child-init : goal.loop-child-init
loop-child-init c =
    let forest = c.as_slice-child-items.ensures.forest ∙ ap (λ (x : OrderedTree). x.below) c.tree.view_is in
    list_start c.args.k c.args.tree.now c.args.bounds.now c.args.place c.as_slice-child-items.result.now _ c.clear.ensures.items forest

pub bounds-bounds-next : goal.bounds-bounds-next
bounds-bounds-next c =
    let w : c.loop-child.next + 1 + nodes c.child-item.result.below ≤ length c.args.bounds.now =
    list_within c.args.k c.args.tree.now c.args.bounds.now c.args.place c.as_slice-child-items.result.now c.loop-child.child-index c.loop-child.next c.loop-child.list.items c.child-item.result
    c.loop-child.invariant (next_left _ _ _ c.loop-child-test.true c.child-item.is) c.requires.enough in
    omega arith

pub claimed_child-requires : goal.claimed_child-requires
claimed_child-requires c =
    let forest = c.as_slice-child-items.ensures.forest ∙ ap (λ (x : OrderedTree). x.below) c.tree.view_is in
    subst (λ (x : OrderedTree). IsShort x.node) (sym c.child.view_is)
    (item_within c.args.tree.now c.as_slice-child-items.result.now c.loop-child.child-index c.child-item.result forest c.loop-child-test.true c.child-item.is c.requires.limits).short

pub count-next-requires : goal.count-next-requires
count-next-requires c =
    let forest = c.as_slice-child-items.ensures.forest ∙ ap (λ (x : OrderedTree). x.below) c.tree.view_is in
    (item_within c.args.tree.now c.as_slice-child-items.result.now c.loop-child.child-index c.child-item.result forest c.loop-child-test.true c.child-item.is c.requires.limits).few

pub overflow_add-next-in-loop-child : goal.overflow_add-next-in-loop-child
overflow_add-next-in-loop-child c =
    let w : c.loop-child.next + 1 + nodes c.child-item.result.below ≤ length c.args.bounds.now =
    list_within c.args.k c.args.tree.now c.args.bounds.now c.args.place c.as_slice-child-items.result.now c.loop-child.child-index c.loop-child.next c.loop-child.list.items c.child-item.result
    c.loop-child.invariant (next_left _ _ _ c.loop-child-test.true c.child-item.is) c.requires.enough in
    let n : c.count-next.result ≡ 1 + nodes c.child-item.result.below = c.count-next.ensures in
    omega arith

pub loop-child-preserved : goal.loop-child-preserved
loop-child-preserved c =
    let least : Bound = record { least = 0; lean = 0; nearly = 0 } in
    let b = get_or c.args.bounds.now c.loop-child.next least in
    let w : c.loop-child.next + 1 + nodes c.child-item.result.below ≤ length c.args.bounds.now =
    list_within c.args.k c.args.tree.now c.args.bounds.now c.args.place c.as_slice-child-items.result.now c.loop-child.child-index c.loop-child.next c.loop-child.list.items c.child-item.result
    c.loop-child.invariant (next_left _ _ _ c.loop-child-test.true c.child-item.is) c.requires.enough in
    list_more c.args.k c.args.tree.now c.args.bounds.now c.args.place c.as_slice-child-items.result.now c.loop-child.child-index c.loop-child.next c.count-next.result c.loop-child.list.items
    c.push.new.self.items c.child-item.result b c.loop-child.invariant (next_left _ _ _ c.loop-child-test.true c.child-item.is)
    (slice_get-get_or c.args.bounds.now c.loop-child.next least (omega arith)) c.count-next.ensures
    (c.in_ok-push.ensures.items ∙ ap (λ (x : Child). c.loop-child.list.items ++ x ∷ []) (c.claimed_child.ensures ∙ ap (λ (x : OrderedTree). claimed_child c.args.k x.node b) c.child.view_is))

pub returns : goal.returns
returns c =
    list_end c.args.k c.args.tree.now c.args.bounds.now c.args.place c.as_slice-child-items.result.now c.loop-child.child-index c.loop-child.next c.loop-child.list.items c.loop-child.invariant
    (drop_all _ _ c.loop-child-test.false)
