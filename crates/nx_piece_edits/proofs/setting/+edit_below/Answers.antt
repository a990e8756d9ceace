use Rattle.std.proofs.Common.{rules, arith, ◌≡◌, ◌+◌, ◌<◌, ◌≤◌, ◌∷◌, ℕ, List, [], Some, length, drop, sym, ap, ap₂, ◌∙◌, subst}
use Rattle.std.specs.List.{slice_get}
use Rattle.std.proofs.lemmas.Result.{on_ok_weaker}
use Rattle.nx_piece.specs.PieceNode.{PieceNode}
use Rattle.nx_piece.specs.declared.piece.Item.{Item}
use Rattle.nx_piece.specs.declared.piece.Item.TheVariants.{Tree}
use Rattle.nx_piece.specs.Gapped.{Gapped, GappedTree, proxies_in}
use Rattle.nx_piece.specs.Items.{gapped_of}
use Rattle.nx_piece.specs.Valid.{AreApart}
use Rattle.nx_piece.specs.Locate.{Own, Inside, reached, children_of}
use Rattle.nx_piece.specs.Found.{found_child, StandsAmong, IsFoundAt}
use Rattle.nx_piece_edits.specs.Setting.{with_tree, tree_with}
use Rattle.nx_piece_edits.specs.Editing.{node_edited, HasPlace}
use Rattle.nx_piece_edits.proofs.TakeLemmas.{same_items, same_tree, not_tree, there_within, there_is, there_fits, apart_there, none_left}
use Rattle.nx_piece_edits.proofs.LeftLemmas.{tree_reached, first_reached}
use Rattle.nx_piece_edits.proofs.SetLemmas.{tree_set, pair}
use Rattle.nx_piece_edits.proofs.setting.+edit_below.Goals as goal

pub edit_node-requires-clause-place : goal.edit_node-requires-clause-place
edit_node-requires-clause-place t c =
    let leads = c.requires.leads in
    let none : c.args.path.now ≡ [] = none_left c.args.path.now c.in_default.ensures.cases in
    let here : Inside c.args.tree.now c.args.first ≡ Inside leads.0 leads.1 = ap (λ p. reached c.args.proxies.now leads.2 p (Some (Own c.args.tree.now c.args.first))) (sym none) ∙ leads.3 in
    let tree : leads.0 ≡ c.args.tree.now = sym (ap (tree_reached c.args.tree.now) here) in
    let first : leads.1 ≡ c.args.first = sym (ap first_reached here) in
    subst (λ (u : GappedTree). HasPlace c.args.edit (children_of c.args.proxies.now c.args.first u.below)) tree
    (subst (λ (n : ℕ). HasPlace c.args.edit (children_of c.args.proxies.now n leads.0.below)) first leads.4)

pub returns-in_default-clause-ok : goal.returns-in_default-clause-ok
returns-in_default-clause-ok t c =
    on_ok_weaker c.edit_node.result (λ is target before used e.
    let none : c.args.path.now ≡ [] = none_left c.args.path.now c.in_default.ensures.cases in
    let here : Inside c.args.tree.now c.args.first ≡ Inside target before = ap (λ p. reached c.args.proxies.now used p (Some (Own c.args.tree.now c.args.first))) (sym none) ∙ e in
    is
    ∙ ap₂ (λ (u : GappedTree) (n : ℕ). node_edited c.args.edit u (drop n c.args.proxies.now)) (ap (tree_reached c.args.tree.now) here) (ap first_reached here)
    ∙ ap (λ p. tree_with p (node_edited c.args.edit target (drop before c.args.proxies.now)) c.args.tree.now (drop c.args.first c.args.proxies.now)) (sym none)) c.edit_node.ensures.ok

pub index_mut-requires : goal.index_mut-requires
index_mut-requires t c =
    let items : List Item = c.into_vec-items.result.items in
    let own : GappedTree = c.in-Some-Tree.field-0-0.now in
    let whole : gapped_of items ≡ c.args.tree.now.below = c.into_vec-items.ensures ∙ c.replace.ensures.value ∙ ap (λ (x : GappedTree). x.below) c.tree.view_is in
    let same : c.as_slice.result.now ≡ items = same_items c.as_slice.result.now items (c.as_slice.ensures ∙ ap (λ (x : GappedTree). x.below) c.tree.view_is ∙ sym whole) in
    let stands : StandsAmong items c.args.proxies.now c.args.first c.in-Some.position.now own c.in-Some-Tree.before c.in-Some-Tree.index =
    subst (λ xs. StandsAmong xs c.args.proxies.now c.args.first c.in-Some.position.now own c.in-Some-Tree.before c.in-Some-Tree.index) same
    (subst (λ x. IsFoundAt c.as_slice.result.now c.args.proxies.now c.args.first c.in-Some.position.now (Some x)) c.in-Some-Tree.field-0-is c.in-Some-Tree.ensures.place) in
    let within : c.in-Some-Tree.index < length items = there_within items c.in-Some-Tree.index (Tree own) stands.there in
    omega arith

pub edit_below-done-requires : goal.edit_below-done-requires
edit_below-done-requires t c =
    let items : List Item = c.into_vec-items.result.items in
    let own : GappedTree = c.in-Some-Tree.field-0-0.now in
    let whole : gapped_of items ≡ c.args.tree.now.below = c.into_vec-items.ensures ∙ c.replace.ensures.value ∙ ap (λ (x : GappedTree). x.below) c.tree.view_is in
    let same : c.as_slice.result.now ≡ items = same_items c.as_slice.result.now items (c.as_slice.ensures ∙ ap (λ (x : GappedTree). x.below) c.tree.view_is ∙ sym whole) in
    let stands : StandsAmong items c.args.proxies.now c.args.first c.in-Some.position.now own c.in-Some-Tree.before c.in-Some-Tree.index =
    subst (λ xs. StandsAmong xs c.args.proxies.now c.args.first c.in-Some.position.now own c.in-Some-Tree.before c.in-Some-Tree.index) same
    (subst (λ x. IsFoundAt c.as_slice.result.now c.args.proxies.now c.args.first c.in-Some.position.now (Some x)) c.in-Some-Tree.field-0-is c.in-Some-Tree.ensures.place) in
    let found : slice_get (children_of c.args.proxies.now c.args.first c.args.tree.now.below) c.in-Some.position.now ≡ Some (Own own c.in-Some-Tree.before) =
    ap (λ f. slice_get (children_of c.args.proxies.now c.args.first f) c.in-Some.position.now) (sym (ap gapped_of same ∙ whole)) ∙ c.in-Some-Tree.ensures.found ∙ ap (λ x. Some (found_child x)) c.in-Some-Tree.field-0-is in
    let child_is : c.in-Tree.child ≡ own = same_tree c.in-Tree.child own (sym c.in-Tree.is ∙ c.index_mut.ensures.value ∙ there_is items c.in-Some-Tree.index (Tree own) _ stands.there) in
    let on : c.args.path.now ≡ c.in-Some.position.now ∷ c.in-Some.rest.now = c.in-Some.ensures.cases.0 in
    let below : c.in-Tree.child.below ≡ own.below = ap (λ (x : GappedTree). x.below) child_is in
    let fits : c.in-Some-Tree.before + proxies_in own.below ≤ length c.args.proxies.now = there_fits stands (subst (λ f. c.args.first + proxies_in f ≤ length c.args.proxies.now) (sym whole) c.requires.fits) in
    let apart : AreApart (gapped_of items) = subst AreApart (sym whole) c.requires.apart in
    let leads = c.requires.leads in
    let there : reached c.args.proxies.now leads.2 (c.in-Some.position.now ∷ c.in-Some.rest.now) (Some (Own c.args.tree.now c.args.first)) ≡ Inside leads.0 leads.1 =
    subst (λ p. reached c.args.proxies.now leads.2 p (Some (Own c.args.tree.now c.args.first)) ≡ Inside leads.0 leads.1) on leads.3 in
    let next : reached c.args.proxies.now (leads.2 + 1) c.in-Some.rest.now (Some (Own c.in-Tree.child c.in-Some-Tree.before)) ≡ Inside leads.0 leads.1 =
    ap (λ (u : GappedTree). reached c.args.proxies.now (leads.2 + 1) c.in-Some.rest.now (Some (Own u c.in-Some-Tree.before))) child_is
    ∙ sym (ap (reached c.args.proxies.now (leads.2 + 1) c.in-Some.rest.now) found) ∙ there in (
      search rules,
      (
        subst (λ f. c.in-Some-Tree.before + proxies_in f ≤ length c.args.proxies.now) (sym below) fits,
        (
          c.requires.few,
          (subst AreApart (sym below) (apart_there items c.in-Some-Tree.index own stands.there apart), (c.requires.ranged, (leads.0, leads.1, leads.2 + 1, next, leads.4))),
        ),
      ),
    )

pub unreachable-requires-in-Run : goal.unreachable-requires-in-Run
unreachable-requires-in-Run t c =
    let items : List Item = c.into_vec-items.result.items in
    let own : GappedTree = c.in-Some-Tree.field-0-0.now in
    let whole : gapped_of items ≡ c.args.tree.now.below = c.into_vec-items.ensures ∙ c.replace.ensures.value ∙ ap (λ (x : GappedTree). x.below) c.tree.view_is in
    let same : c.as_slice.result.now ≡ items = same_items c.as_slice.result.now items (c.as_slice.ensures ∙ ap (λ (x : GappedTree). x.below) c.tree.view_is ∙ sym whole) in
    let stands : StandsAmong items c.args.proxies.now c.args.first c.in-Some.position.now own c.in-Some-Tree.before c.in-Some-Tree.index =
    subst (λ xs. StandsAmong xs c.args.proxies.now c.args.first c.in-Some.position.now own c.in-Some-Tree.before c.in-Some-Tree.index) same
    (subst (λ x. IsFoundAt c.as_slice.result.now c.args.proxies.now c.args.first c.in-Some.position.now (Some x)) c.in-Some-Tree.field-0-is c.in-Some-Tree.ensures.place) in
    not_tree c.in-Run.count own (sym c.in-Run.is ∙ c.index_mut.ensures.value ∙ there_is items c.in-Some-Tree.index (Tree own) _ stands.there)

pub returns-clause-ok : goal.returns-clause-ok
returns-clause-ok t c =
    on_ok_weaker c.edit_below-done.result (λ is target before used e.
    let items : List Item = c.into_vec-items.result.items in
    let own : GappedTree = c.in-Some-Tree.field-0-0.now in
    let whole : gapped_of items ≡ c.args.tree.now.below = c.into_vec-items.ensures ∙ c.replace.ensures.value ∙ ap (λ (x : GappedTree). x.below) c.tree.view_is in
    let same : c.as_slice.result.now ≡ items = same_items c.as_slice.result.now items (c.as_slice.ensures ∙ ap (λ (x : GappedTree). x.below) c.tree.view_is ∙ sym whole) in
    let stands : StandsAmong items c.args.proxies.now c.args.first c.in-Some.position.now own c.in-Some-Tree.before c.in-Some-Tree.index =
    subst (λ xs. StandsAmong xs c.args.proxies.now c.args.first c.in-Some.position.now own c.in-Some-Tree.before c.in-Some-Tree.index) same
    (subst (λ x. IsFoundAt c.as_slice.result.now c.args.proxies.now c.args.first c.in-Some.position.now (Some x)) c.in-Some-Tree.field-0-is c.in-Some-Tree.ensures.place) in
    let found : slice_get (children_of c.args.proxies.now c.args.first c.args.tree.now.below) c.in-Some.position.now ≡ Some (Own own c.in-Some-Tree.before) =
    ap (λ f. slice_get (children_of c.args.proxies.now c.args.first f) c.in-Some.position.now) (sym (ap gapped_of same ∙ whole)) ∙ c.in-Some-Tree.ensures.found ∙ ap (λ x. Some (found_child x)) c.in-Some-Tree.field-0-is in
    let child_is : c.in-Tree.child ≡ own = same_tree c.in-Tree.child own (sym c.in-Tree.is ∙ c.index_mut.ensures.value ∙ there_is items c.in-Some-Tree.index (Tree own) _ stands.there) in
    let on : c.args.path.now ≡ c.in-Some.position.now ∷ c.in-Some.rest.now = c.in-Some.ensures.cases.0 in
    let there : reached c.args.proxies.now used (c.in-Some.position.now ∷ c.in-Some.rest.now) (Some (Own c.args.tree.now c.args.first)) ≡ Inside target before =
    subst (λ p. reached c.args.proxies.now used p (Some (Own c.args.tree.now c.args.first)) ≡ Inside target before) on e in
    let next : reached c.args.proxies.now (used + 1) c.in-Some.rest.now (Some (Own c.in-Tree.child c.in-Some-Tree.before)) ≡ Inside target before =
    ap (λ (u : GappedTree). reached c.args.proxies.now (used + 1) c.in-Some.rest.now (Some (Own u c.in-Some-Tree.before))) child_is
    ∙ sym (ap (reached c.args.proxies.now (used + 1) c.in-Some.rest.now) found) ∙ there in
    let new : GappedTree = node_edited c.args.edit target (drop before c.args.proxies.now) in
    let child : c.edit_below-done.new.tree ≡ tree_with c.in-Some.rest.now new own (drop c.in-Some-Tree.before c.args.proxies.now) =
    is target before (used + 1) next ∙ ap (λ (u : GappedTree). tree_with c.in-Some.rest.now new u (drop c.in-Some-Tree.before c.args.proxies.now)) child_is in
    let below = c.from_vec.ensures ∙ tree_set c.in-Some.rest.now new c.edit_below-done.new.tree stands child
    ∙ ap (λ f. with_tree c.in-Some.position.now c.in-Some.rest.now new f (drop c.args.first c.args.proxies.now)) whole in
    let node = ap (λ (x : GappedTree). x.node) c.tree.view_is in
    ap₂ (λ (n : PieceNode) (b : Gapped). pair n b) node below
    ∙ ap (λ p. tree_with p new c.args.tree.now (drop c.args.first c.args.proxies.now)) (sym on)) c.edit_below-done.ensures.ok
