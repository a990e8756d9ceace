use Rattle.std.proofs.Common.{rules, arith, ◌≡◌, ◌+◌, ◌<◌, ◌≤◌, ◌∷◌, List, [], Some, length, take, drop, set, sym, ap, ◌∙◌, subst}
use Rattle.std.specs.List.{slice_get}
use Rattle.nx_piece.specs.declared.piece.Item.{Item}
use Rattle.nx_piece.specs.declared.piece.Item.TheVariants.{Tree}
use Rattle.nx_piece.specs.Gapped.{GappedTree, proxies_in}
use Rattle.nx_piece.specs.Items.{gapped_of, with_items}
use Rattle.nx_piece.specs.Valid.{AreApart}
use Rattle.nx_piece.specs.Locate.{Own, children_of}
use Rattle.nx_piece.specs.Found.{found_child, StandsAmong, IsFoundAt}
use Rattle.nx_piece_edits.specs.Taking.{IsTakenOut}
use Rattle.nx_piece_edits.proofs.TakeLemmas.{same_items, same_tree, not_tree, there_within, there_is, there_fits, apart_there, taken_here, taken_on, none_left}
use Rattle.nx_piece_edits.proofs.cutting.+cut_below.Goals as goal

pub take_item-cut-requires-clause-within : goal.take_item-cut-requires-clause-within
take_item-cut-requires-clause-within t c =
    let items : List Item = c.into_vec-items.result.items in
    let own : GappedTree = c.in-Some-Tree.field-0-0.now in
    let whole : gapped_of items ≡ c.args.tree.now.below = c.into_vec-items.ensures ∙ c.replace.ensures.value ∙ ap (λ (x : GappedTree). x.below) c.tree.view_is in
    let same : c.as_slice.result.now ≡ items = same_items c.as_slice.result.now items (c.as_slice.ensures ∙ ap (λ (x : GappedTree). x.below) c.tree.view_is ∙ sym whole) in
    let stands : StandsAmong items c.args.proxies.now c.args.first c.args.position own c.in-Some-Tree.before c.in-Some-Tree.index =
    subst (λ xs. StandsAmong xs c.args.proxies.now c.args.first c.args.position own c.in-Some-Tree.before c.in-Some-Tree.index) same
    (subst (λ x. IsFoundAt c.as_slice.result.now c.args.proxies.now c.args.first c.args.position (Some x)) c.in-Some-Tree.field-0-is c.in-Some-Tree.ensures.place) in
    let within : c.in-Some-Tree.index < length items = there_within items c.in-Some-Tree.index (Tree own) stands.there in
    omega arith

pub unreachable-requires : goal.unreachable-requires
unreachable-requires t c =
    let items : List Item = c.into_vec-items.result.items in
    let own : GappedTree = c.in-Some-Tree.field-0-0.now in
    let whole : gapped_of items ≡ c.args.tree.now.below = c.into_vec-items.ensures ∙ c.replace.ensures.value ∙ ap (λ (x : GappedTree). x.below) c.tree.view_is in
    let same : c.as_slice.result.now ≡ items = same_items c.as_slice.result.now items (c.as_slice.ensures ∙ ap (λ (x : GappedTree). x.below) c.tree.view_is ∙ sym whole) in
    let stands : StandsAmong items c.args.proxies.now c.args.first c.args.position own c.in-Some-Tree.before c.in-Some-Tree.index =
    subst (λ xs. StandsAmong xs c.args.proxies.now c.args.first c.args.position own c.in-Some-Tree.before c.in-Some-Tree.index) same
    (subst (λ x. IsFoundAt c.as_slice.result.now c.args.proxies.now c.args.first c.args.position (Some x)) c.in-Some-Tree.field-0-is c.in-Some-Tree.ensures.place) in
    not_tree c.in-Run.count own (c.in-Run.ensures.item ∙ there_is items c.in-Some-Tree.index (Tree own) _ stands.there)

pub returns-in_default-split_first-clause-below : goal.returns-in_default-split_first-clause-below
returns-in_default-split_first-clause-below t c =
    let items : List Item = c.into_vec-items.result.items in
    let own : GappedTree = c.in-Some-Tree.field-0-0.now in
    let whole : gapped_of items ≡ c.args.tree.now.below = c.into_vec-items.ensures ∙ c.replace.ensures.value ∙ ap (λ (x : GappedTree). x.below) c.tree.view_is in
    let same : c.as_slice.result.now ≡ items = same_items c.as_slice.result.now items (c.as_slice.ensures ∙ ap (λ (x : GappedTree). x.below) c.tree.view_is ∙ sym whole) in
    let stands : StandsAmong items c.args.proxies.now c.args.first c.args.position own c.in-Some-Tree.before c.in-Some-Tree.index =
    subst (λ xs. StandsAmong xs c.args.proxies.now c.args.first c.args.position own c.in-Some-Tree.before c.in-Some-Tree.index) same
    (subst (λ x. IsFoundAt c.as_slice.result.now c.args.proxies.now c.args.first c.args.position (Some x)) c.in-Some-Tree.field-0-is c.in-Some-Tree.ensures.place) in
    let found : slice_get (children_of c.args.proxies.now c.args.first (gapped_of items)) c.args.position ≡ Some (Own own c.in-Some-Tree.before) =
    ap (λ xs. slice_get (children_of c.args.proxies.now c.args.first (gapped_of xs)) c.args.position) (sym same) ∙ c.in-Some-Tree.ensures.found ∙ ap (λ x. Some (found_child x)) c.in-Some-Tree.field-0-is in
    let apart : AreApart (gapped_of items) = subst AreApart (sym whole) c.requires.apart in
    let none : c.args.path.now ≡ [] = none_left c.args.path.now c.in_default-split_first.ensures.cases in
    let cut_is : c.in-Tree.cut ≡ own = same_tree c.in-Tree.cut own (c.in-Tree.ensures.item ∙ there_is items c.in-Some-Tree.index (Tree own) _ stands.there) in
    let now = c.from_vec.ensures ∙ c.take_item-cut.ensures.rest in
    let taken = taken_here stands found in
    subst (λ p. IsTakenOut c.args.proxies.now c.args.first c.args.position p c.args.tree.now.below (Some c.in-Tree.cut) c.from_vec.result) (sym none)
    (subst (λ u. IsTakenOut c.args.proxies.now c.args.first c.args.position [] c.args.tree.now.below (Some u) c.from_vec.result) (sym cut_is)
    (subst (λ g. IsTakenOut c.args.proxies.now c.args.first c.args.position [] c.args.tree.now.below (Some own) g) (sym now)
    (subst (λ f. IsTakenOut c.args.proxies.now c.args.first c.args.position [] f (Some own) (with_items (take c.in-Some-Tree.index items) (gapped_of (drop (c.in-Some-Tree.index + 1) items)))) whole taken)))

pub index_mut-requires : goal.index_mut-requires
index_mut-requires t c =
    let items : List Item = c.into_vec-items.result.items in
    let own : GappedTree = c.in-Some-Tree.field-0-0.now in
    let whole : gapped_of items ≡ c.args.tree.now.below = c.into_vec-items.ensures ∙ c.replace.ensures.value ∙ ap (λ (x : GappedTree). x.below) c.tree.view_is in
    let same : c.as_slice.result.now ≡ items = same_items c.as_slice.result.now items (c.as_slice.ensures ∙ ap (λ (x : GappedTree). x.below) c.tree.view_is ∙ sym whole) in
    let stands : StandsAmong items c.args.proxies.now c.args.first c.args.position own c.in-Some-Tree.before c.in-Some-Tree.index =
    subst (λ xs. StandsAmong xs c.args.proxies.now c.args.first c.args.position own c.in-Some-Tree.before c.in-Some-Tree.index) same
    (subst (λ x. IsFoundAt c.as_slice.result.now c.args.proxies.now c.args.first c.args.position (Some x)) c.in-Some-Tree.field-0-is c.in-Some-Tree.ensures.place) in
    let within : c.in-Some-Tree.index < length items = there_within items c.in-Some-Tree.index (Tree own) stands.there in
    omega arith

pub cut_below-cut-requires : goal.cut_below-cut-requires
cut_below-cut-requires t c =
    let items : List Item = c.into_vec-items.result.items in
    let own : GappedTree = c.in-Some-Tree.field-0-0.now in
    let whole : gapped_of items ≡ c.args.tree.now.below = c.into_vec-items.ensures ∙ c.replace.ensures.value ∙ ap (λ (x : GappedTree). x.below) c.tree.view_is in
    let same : c.as_slice.result.now ≡ items = same_items c.as_slice.result.now items (c.as_slice.ensures ∙ ap (λ (x : GappedTree). x.below) c.tree.view_is ∙ sym whole) in
    let stands : StandsAmong items c.args.proxies.now c.args.first c.args.position own c.in-Some-Tree.before c.in-Some-Tree.index =
    subst (λ xs. StandsAmong xs c.args.proxies.now c.args.first c.args.position own c.in-Some-Tree.before c.in-Some-Tree.index) same
    (subst (λ x. IsFoundAt c.as_slice.result.now c.args.proxies.now c.args.first c.args.position (Some x)) c.in-Some-Tree.field-0-is c.in-Some-Tree.ensures.place) in
    let found : slice_get (children_of c.args.proxies.now c.args.first (gapped_of items)) c.args.position ≡ Some (Own own c.in-Some-Tree.before) =
    ap (λ xs. slice_get (children_of c.args.proxies.now c.args.first (gapped_of xs)) c.args.position) (sym same) ∙ c.in-Some-Tree.ensures.found ∙ ap (λ x. Some (found_child x)) c.in-Some-Tree.field-0-is in
    let apart : AreApart (gapped_of items) = subst AreApart (sym whole) c.requires.apart in
    let child_is : c.in-Tree-index_mut.child ≡ own = same_tree c.in-Tree-index_mut.child own (sym c.in-Tree-index_mut.is ∙ c.index_mut.ensures.value ∙ there_is items c.in-Some-Tree.index (Tree own) _ stands.there) in
    let below : c.in-Tree-index_mut.child.below ≡ own.below = ap (λ (x : GappedTree). x.below) child_is in
    let fits : c.in-Some-Tree.before + proxies_in own.below ≤ length c.args.proxies.now = there_fits stands (subst (λ f. c.args.first + proxies_in f ≤ length c.args.proxies.now) (sym whole) c.requires.fits) in
    (search rules, (subst (λ f. c.in-Some-Tree.before + proxies_in f ≤ length c.args.proxies.now) (sym below) fits, (c.requires.few, subst AreApart (sym below) (apart_there items c.in-Some-Tree.index own stands.there apart))))

pub unreachable-requires-in-Run-index_mut : goal.unreachable-requires-in-Run-index_mut
unreachable-requires-in-Run-index_mut t c =
    let items : List Item = c.into_vec-items.result.items in
    let own : GappedTree = c.in-Some-Tree.field-0-0.now in
    let whole : gapped_of items ≡ c.args.tree.now.below = c.into_vec-items.ensures ∙ c.replace.ensures.value ∙ ap (λ (x : GappedTree). x.below) c.tree.view_is in
    let same : c.as_slice.result.now ≡ items = same_items c.as_slice.result.now items (c.as_slice.ensures ∙ ap (λ (x : GappedTree). x.below) c.tree.view_is ∙ sym whole) in
    let stands : StandsAmong items c.args.proxies.now c.args.first c.args.position own c.in-Some-Tree.before c.in-Some-Tree.index =
    subst (λ xs. StandsAmong xs c.args.proxies.now c.args.first c.args.position own c.in-Some-Tree.before c.in-Some-Tree.index) same
    (subst (λ x. IsFoundAt c.as_slice.result.now c.args.proxies.now c.args.first c.args.position (Some x)) c.in-Some-Tree.field-0-is c.in-Some-Tree.ensures.place) in
    not_tree c.in-Run-index_mut.count own (sym c.in-Run-index_mut.is ∙ c.index_mut.ensures.value ∙ there_is items c.in-Some-Tree.index (Tree own) _ stands.there)

pub returns-clause-below : goal.returns-clause-below
returns-clause-below t c =
    let items : List Item = c.into_vec-items.result.items in
    let own : GappedTree = c.in-Some-Tree.field-0-0.now in
    let whole : gapped_of items ≡ c.args.tree.now.below = c.into_vec-items.ensures ∙ c.replace.ensures.value ∙ ap (λ (x : GappedTree). x.below) c.tree.view_is in
    let same : c.as_slice.result.now ≡ items = same_items c.as_slice.result.now items (c.as_slice.ensures ∙ ap (λ (x : GappedTree). x.below) c.tree.view_is ∙ sym whole) in
    let stands : StandsAmong items c.args.proxies.now c.args.first c.args.position own c.in-Some-Tree.before c.in-Some-Tree.index =
    subst (λ xs. StandsAmong xs c.args.proxies.now c.args.first c.args.position own c.in-Some-Tree.before c.in-Some-Tree.index) same
    (subst (λ x. IsFoundAt c.as_slice.result.now c.args.proxies.now c.args.first c.args.position (Some x)) c.in-Some-Tree.field-0-is c.in-Some-Tree.ensures.place) in
    let found : slice_get (children_of c.args.proxies.now c.args.first (gapped_of items)) c.args.position ≡ Some (Own own c.in-Some-Tree.before) =
    ap (λ xs. slice_get (children_of c.args.proxies.now c.args.first (gapped_of xs)) c.args.position) (sym same) ∙ c.in-Some-Tree.ensures.found ∙ ap (λ x. Some (found_child x)) c.in-Some-Tree.field-0-is in
    let apart : AreApart (gapped_of items) = subst AreApart (sym whole) c.requires.apart in
    let child_is : c.in-Tree-index_mut.child ≡ own = same_tree c.in-Tree-index_mut.child own (sym c.in-Tree-index_mut.is ∙ c.index_mut.ensures.value ∙ there_is items c.in-Some-Tree.index (Tree own) _ stands.there) in
    let on : c.args.path.now ≡ c.in-Some.next.now ∷ c.in-Some.rest.now = c.in-Some.ensures.cases.0 in
    let new : GappedTree = c.cut_below-cut.new.tree in
    let node = c.cut_below-cut.ensures.node ∙ ap (λ (x : GappedTree). x.node) child_is in
    let below = subst (λ f. IsTakenOut c.args.proxies.now c.in-Some-Tree.before c.in-Some.next.now c.in-Some.rest.now f c.cut_below-cut.result new.below) (ap (λ (x : GappedTree). x.below) child_is) c.cut_below-cut.ensures.below in
    let taken = taken_on c.in-Some.next.now c.in-Some.rest.now c.cut_below-cut.result new stands apart found node below in
    subst (λ p. IsTakenOut c.args.proxies.now c.args.first c.args.position p c.args.tree.now.below c.cut_below-cut.result c.from_vec-in-Tree-index_mut.result) (sym on)
    (subst (λ g. IsTakenOut c.args.proxies.now c.args.first c.args.position (c.in-Some.next.now ∷ c.in-Some.rest.now) c.args.tree.now.below c.cut_below-cut.result g) (sym c.from_vec-in-Tree-index_mut.ensures)
    (subst (λ f. IsTakenOut c.args.proxies.now c.args.first c.args.position (c.in-Some.next.now ∷ c.in-Some.rest.now) f c.cut_below-cut.result (gapped_of (set items c.in-Some-Tree.index (Tree new)))) whole taken))
