use Rattle.std.proofs.Common.{◌≡◌, ◌<◌, ◌∙◌, length, replicate, sym, ap, subst, arith, rules}
use Rattle.nx_tree.specs.Forest.{OrderedTree}
use Rattle.nx_weights.specs.Weight.{weight, AreShort}
use Rattle.nx_weights.proofs.LimitLemmas.{document_within}
use Rattle.nx_parts.specs.declared.marks.Mark.{out-Mark}
use Rattle.nx_parts.proofs.WalkLemmas.{root_room, whole_sums, length_sums}
use Rattle.nx_parts.proofs.weigh.sum_owned.Goals as goal

pub add_owned-requires-clause-short : goal.add_owned-requires-clause-short
add_owned-requires-clause-short c =
    subst AreShort (sym (c.as_slice.ensures.forest ∙ ap (λ (x : OrderedTree). x.below) c.tree.view_is)) (document_within c.args.tree.now c.requires.document).all_short

pub add_owned-requires-clause-room : goal.add_owned-requires-clause-room
add_owned-requires-clause-room c =
    let zeros : c.in_ok-sums.sums.items ≡ replicate c.args.count 0 = c.in_ok-sums.ensures.items_if_clones_equal (λ y h. search rules) in
    let ok = c.in_ok-sums.sums.ok.0 in
    let len = c.in_ok-sums.ensures.len in
    let owner = c.requires.owner in
    let within : c.args.owner < length c.in_ok-sums.sums.items = omega arith in
    λ index lt.
    root_room c.args.tree.now c.in_ok-sums.sums.items c.deref_mut.result.now c.as_slice.result.now c.args.count c.args.owner c.from.result index c.requires.document zeros within
    (c.from.ensures ∙ c.weight.ensures ∙ ap (λ (x : OrderedTree). weight x.node) c.tree.view_is)
    c.deref_mut.ensures.value (c.as_slice.ensures.forest ∙ ap (λ (x : OrderedTree). x.below) c.tree.view_is)

pub returns-clause-sums : goal.returns-clause-sums
returns-clause-sums c =
    let zeros : c.in_ok-sums.sums.items ≡ replicate c.args.count 0 = c.in_ok-sums.ensures.items_if_clones_equal (λ y h. search rules) in
    let ok = c.in_ok-sums.sums.ok.0 in
    let len = c.in_ok-sums.ensures.len in
    let owner = c.requires.owner in
    let within : c.args.owner < length c.in_ok-sums.sums.items = omega arith in
    let begun = ap length c.deref_mut.ensures.value ∙ length_sums c.in_ok-sums.sums.items c.args.owner c.from.result in
    λ index lt.
    whole_sums c.args.tree.now c.in_ok-sums.sums.items c.deref_mut.result.now c.add_owned.new.sums (out-Mark c.args.root.now).below.items c.as_slice-2.result.now c.as_slice.result.now
    c.args.count c.in_ok-sums.sums.len c.args.owner c.from.result index zeros within
    (c.from.ensures ∙ c.weight.ensures ∙ ap (λ (x : OrderedTree). weight x.node) c.tree.view_is)
    c.deref_mut.ensures.value (c.as_slice.ensures.forest ∙ ap (λ (x : OrderedTree). x.below) c.tree.view_is)
    c.as_slice-2.ensures.value c.add_owned.auto.sums ok (c.add_owned.ensures index (omega arith))
