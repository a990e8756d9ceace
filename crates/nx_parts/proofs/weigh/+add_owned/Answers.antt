use Rattle.std.proofs.Common.{rules, arith, ◌≡◌, ◌≤◌, ◌<◌, ◌+◌, ◌^◌, [], ◌∷◌, length, unwrap_or, slice_set, get_or, refl, sym, ap, ◌∙◌, subst}
use Rattle.nx_tree.specs.Forest.{OrderedTree, forest_of}
use Rattle.nx_tree.specs.Document.{depth}
use Rattle.nx_tree.proofs.TestLemmas.{next_left, depth_item}
use Rattle.nx_weights.specs.Weight.{weight, total, IsShort, AreShort}
use Rattle.nx_parts.specs.Marks.{marked_in}
use Rattle.nx_parts.proofs.WalkLemmas.{child_short, owner_within, mid_length, mid_room, owed-more}
use Rattle.nx_parts.proofs.weigh.+add_owned.Goals as goal

pub weight-requires : goal.weight-requires
weight-requires t c =
    let next = next_left c.args.children.now c.loop-position.position c.index-children-position.result c.loop-position-test.true c.index-children-position.is in
    subst (λ (x : OrderedTree). IsShort x.node) (sym c.child.view_is)
    (child_short c.args.marks.now c.args.above c.loop-position.position c.args.sums.now c.loop-position.sums c.args.children.now c.index-children-position.result c.loop-position.invariant next).0

pub add_owned-requires : goal.add_owned-requires
add_owned-requires t c =
    let i = c.loop-position.position in
    let owner = c.unwrap_or-owner.result in
    let now = c.loop-position.sums in
    let s = c.loop-position.invariant in
    let mid = slice_set now owner (get_or now owner 0 + c.from.result) in
    let next = next_left c.args.children.now i c.index-children-position.result c.loop-position-test.true c.index-children-position.is in
    let below : forest_of c.as_slice.result.now ≡ c.index-children-position.result.below = c.as_slice.ensures.forest ∙ ap (λ (x : OrderedTree). x.below) c.child.view_is in
    let item : 1 + depth c.index-children-position.result.below ≤ depth (forest_of c.args.children.now) = depth_item (forest_of c.args.children.now) c.args.children.now i c.index-children-position.result refl c.loop-position-test.true c.index-children-position.is in
    let less : depth (forest_of c.as_slice.result.now) < depth (forest_of c.args.children.now) = let same = ap depth below in omega arith in
    let own : owner ≡ unwrap_or (marked_in c.args.marks.now i []) c.args.above = c.unwrap_or-owner.ensures ∙ ap (λ o. unwrap_or o c.args.above) c.holder_in.ensures in
    let is : c.from.result ≡ weight c.index-children-position.result.node = c.from.ensures ∙ c.weight.ensures ∙ ap (λ (x : OrderedTree). weight x.node) c.child.view_is in
    let in_old = owner_within (marked_in c.args.marks.now i []) c.args.above (length c.args.sums.now) owner own c.requires.above (c.requires.marks i []) in
    let len = s.len in
    let within : owner < length now = omega arith in
    let same : length mid ≡ length c.args.sums.now = mid_length c.args.marks.now c.args.above i c.args.sums.now now c.args.children.now c.index-children-position.result s next owner c.from.result mid own is within refl in (
      search rules,
      (
        subst AreShort (sym below) (child_short c.args.marks.now c.args.above i c.args.sums.now now c.args.children.now c.index-children-position.result s next).1,
        (
          omega arith,
          (
            λ p path place e. let lt = c.requires.marks i (p ∷ path) place (sym (c.below_in.ensures p path) ∙ e) in omega arith,
            λ index lt.
                let room = mid_room c.args.marks.now c.args.above i c.args.sums.now now c.args.children.now c.index-children-position.result s next owner c.from.result mid own is within refl
                (2 ^ 64) index (omega arith) (c.requires.room index (omega arith)) in
                let sums = ap total below in
                omega arith,
          ),
        ),
      ),
    )

pub loop-position-preserved : goal.loop-position-preserved
loop-position-preserved t c =
    let i = c.loop-position.position in
    let owner = c.unwrap_or-owner.result in
    let now = c.loop-position.sums in
    let s = c.loop-position.invariant in
    let mid = slice_set now owner (get_or now owner 0 + c.from.result) in
    let next = next_left c.args.children.now i c.index-children-position.result c.loop-position-test.true c.index-children-position.is in
    let below : forest_of c.as_slice.result.now ≡ c.index-children-position.result.below = c.as_slice.ensures.forest ∙ ap (λ (x : OrderedTree). x.below) c.child.view_is in
    let own : owner ≡ unwrap_or (marked_in c.args.marks.now i []) c.args.above = c.unwrap_or-owner.ensures ∙ ap (λ o. unwrap_or o c.args.above) c.holder_in.ensures in
    let is : c.from.result ≡ weight c.index-children-position.result.node = c.from.ensures ∙ c.weight.ensures ∙ ap (λ (x : OrderedTree). weight x.node) c.child.view_is in
    let in_old = owner_within (marked_in c.args.marks.now i []) c.args.above (length c.args.sums.now) owner own c.requires.above (c.requires.marks i []) in
    let len = s.len in
    let within : owner < length now = omega arith in
    owed-more c.args.marks.now c.args.above i c.args.sums.now now c.args.children.now c.index-children-position.result s next owner c.from.result mid own is within refl
    c.below_in.result.now c.as_slice.result.now c.add_owned.new.sums c.below_in.ensures below c.add_owned.auto.sums c.add_owned.ensures
