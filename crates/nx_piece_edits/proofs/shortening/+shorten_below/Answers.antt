use Rattle.std.proofs.Common.{rules, arith, ◌≡◌, ◌+◌, ◌<◌, ◌≤◌, ◌∷◌, suc, List, length, drop, sym, ap, ◌∙◌, subst}
use Rattle.nx_piece.specs.declared.piece.Item.{Item}
use Rattle.nx_piece.specs.declared.piece.Item.TheVariants.{Tree, Run}
use Rattle.nx_piece.specs.Gapped.{Gapped, GappedTree, item_count, proxies_in}
use Rattle.nx_piece.specs.Items.{gapped_of}
use Rattle.nx_piece_edits.specs.Cutting.{without_proxy}
use Rattle.nx_piece_edits.specs.Shortening.{IsItemOf, WithoutRun}
use Rattle.nx_piece.proofs.WalkLemmas.{next_falls}
use Rattle.nx_piece_edits.proofs.TakeLemmas.{same_items, there_within, there_is, set_there, proxies_there}
use Rattle.nx_piece_edits.proofs.ShortLemmas.{tree_within, run_within, tree_shorter, run_shorter}
use Rattle.nx_piece_edits.proofs.shortening.+shorten_below.Goals as goal

pub index_mut-requires : goal.index_mut-requires
index_mut-requires t c =
    let items : List Item = c.into_vec-items.result.items in
    let whole : gapped_of items ≡ c.args.tree.now.below = c.into_vec-items.ensures ∙ c.replace.ensures.value ∙ ap (λ (x : GappedTree). x.below) c.tree.view_is in
    let same : c.as_slice.result.now ≡ items = same_items c.as_slice.result.now items (c.as_slice.ensures ∙ ap (λ (x : GappedTree). x.below) c.tree.view_is ∙ sym whole) in
    let h : IsItemOf items c.args.index c.item_of-place.result = subst (λ xs. IsItemOf xs c.args.index c.item_of-place.result) same c.item_of-place.ensures in
    let within : c.item_of-place.result.0 < length items = there_within items c.item_of-place.result.0 h.item h.there in
    omega arith

pub shorten_below-requires : goal.shorten_below-requires
shorten_below-requires t c =
    let items : List Item = c.into_vec-items.result.items in
    let whole : gapped_of items ≡ c.args.tree.now.below = c.into_vec-items.ensures ∙ c.replace.ensures.value ∙ ap (λ (x : GappedTree). x.below) c.tree.view_is in
    let same : c.as_slice.result.now ≡ items = same_items c.as_slice.result.now items (c.as_slice.ensures ∙ ap (λ (x : GappedTree). x.below) c.tree.view_is ∙ sym whole) in
    let h : IsItemOf items c.args.index c.item_of-place.result = subst (λ xs. IsItemOf xs c.args.index c.item_of-place.result) same c.item_of-place.ensures in
    let within : c.item_of-place.result.0 < length items = there_within items c.item_of-place.result.0 h.item h.there in
    let is : h.item ≡ Tree c.in-Tree.child = sym (c.index_mut.ensures.value ∙ there_is items c.item_of-place.result.0 h.item c.index_mut.result.now h.there) ∙ c.in-Tree.is in
    let there : drop c.item_of-place.result.0 items ≡ Tree c.in-Tree.child ∷ drop (c.item_of-place.result.0 + 1) items = h.there ∙ ap (λ (x : Item). x ∷ drop (c.item_of-place.result.0 + 1) items) is in
    let falls : suc (item_count c.in-Tree.child.below) ≤ item_count c.args.tree.now.below = next_falls c.args.tree.now.below items c.item_of-place.result.0 c.in-Tree.child whole there in
    let sum = proxies_there items c.item_of-place.result.0 (Tree c.in-Tree.child) there in
    let all = ap proxies_in whole in
    let few = c.requires.few in
    let most : proxies_in c.in-Tree.child.below ≤ 524288 = omega arith in
    (search rules, (tree_within c.in-Tree.child h there, most))

pub shorten_run-requires-clause-within : goal.shorten_run-requires-clause-within
shorten_run-requires-clause-within t c =
    let items : List Item = c.into_vec-items.result.items in
    let whole : gapped_of items ≡ c.args.tree.now.below = c.into_vec-items.ensures ∙ c.replace.ensures.value ∙ ap (λ (x : GappedTree). x.below) c.tree.view_is in
    let same : c.as_slice.result.now ≡ items = same_items c.as_slice.result.now items (c.as_slice.ensures ∙ ap (λ (x : GappedTree). x.below) c.tree.view_is ∙ sym whole) in
    let h : IsItemOf items c.args.index c.item_of-place.result = subst (λ xs. IsItemOf xs c.args.index c.item_of-place.result) same c.item_of-place.ensures in
    let within : c.item_of-place.result.0 < length items = there_within items c.item_of-place.result.0 h.item h.there in
    omega arith

pub shorten_run-requires-clause-some : goal.shorten_run-requires-clause-some
shorten_run-requires-clause-some t c =
    let items : List Item = c.into_vec-items.result.items in
    let whole : gapped_of items ≡ c.args.tree.now.below = c.into_vec-items.ensures ∙ c.replace.ensures.value ∙ ap (λ (x : GappedTree). x.below) c.tree.view_is in
    let same : c.as_slice.result.now ≡ items = same_items c.as_slice.result.now items (c.as_slice.ensures ∙ ap (λ (x : GappedTree). x.below) c.tree.view_is ∙ sym whole) in
    let h : IsItemOf items c.args.index c.item_of-place.result = subst (λ xs. IsItemOf xs c.args.index c.item_of-place.result) same c.item_of-place.ensures in
    let within : c.item_of-place.result.0 < length items = there_within items c.item_of-place.result.0 h.item h.there in
    let is : h.item ≡ Run c.in-Run.count = sym (c.index_mut.ensures.value ∙ there_is items c.item_of-place.result.0 h.item c.index_mut.result.now h.there) ∙ c.in-Run.is in
    let there : drop c.item_of-place.result.0 items ≡ Run c.in-Run.count ∷ drop (c.item_of-place.result.0 + 1) items = h.there ∙ ap (λ (x : Item). x ∷ drop (c.item_of-place.result.0 + 1) items) is in
    let less : c.item_of-place.result.1 < c.in-Run.count = run_within c.in-Run.count h there in
    omega arith

pub returns-in-Tree-clause-below : goal.returns-in-Tree-clause-below
returns-in-Tree-clause-below t c =
    let items : List Item = c.into_vec-items.result.items in
    let whole : gapped_of items ≡ c.args.tree.now.below = c.into_vec-items.ensures ∙ c.replace.ensures.value ∙ ap (λ (x : GappedTree). x.below) c.tree.view_is in
    let same : c.as_slice.result.now ≡ items = same_items c.as_slice.result.now items (c.as_slice.ensures ∙ ap (λ (x : GappedTree). x.below) c.tree.view_is ∙ sym whole) in
    let h : IsItemOf items c.args.index c.item_of-place.result = subst (λ xs. IsItemOf xs c.args.index c.item_of-place.result) same c.item_of-place.ensures in
    let within : c.item_of-place.result.0 < length items = there_within items c.item_of-place.result.0 h.item h.there in
    let is : h.item ≡ Tree c.in-Tree.child = sym (c.index_mut.ensures.value ∙ there_is items c.item_of-place.result.0 h.item c.index_mut.result.now h.there) ∙ c.in-Tree.is in
    let there : drop c.item_of-place.result.0 items ≡ Tree c.in-Tree.child ∷ drop (c.item_of-place.result.0 + 1) items = h.there ∙ ap (λ (x : Item). x ∷ drop (c.item_of-place.result.0 + 1) items) is in
    c.from_vec.ensures ∙ tree_shorter c.in-Tree.child c.shorten_below.new.tree h there (tree_within c.in-Tree.child h there) c.shorten_below.ensures.node c.shorten_below.ensures.below
    ∙ ap (λ (f : Gapped). without_proxy c.args.index f) whole

pub returns-in-Run-clause-below : goal.returns-in-Run-clause-below
returns-in-Run-clause-below t c =
    let items : List Item = c.into_vec-items.result.items in
    let whole : gapped_of items ≡ c.args.tree.now.below = c.into_vec-items.ensures ∙ c.replace.ensures.value ∙ ap (λ (x : GappedTree). x.below) c.tree.view_is in
    let same : c.as_slice.result.now ≡ items = same_items c.as_slice.result.now items (c.as_slice.ensures ∙ ap (λ (x : GappedTree). x.below) c.tree.view_is ∙ sym whole) in
    let h : IsItemOf items c.args.index c.item_of-place.result = subst (λ xs. IsItemOf xs c.args.index c.item_of-place.result) same c.item_of-place.ensures in
    let within : c.item_of-place.result.0 < length items = there_within items c.item_of-place.result.0 h.item h.there in
    let is : h.item ≡ Run c.in-Run.count = sym (c.index_mut.ensures.value ∙ there_is items c.item_of-place.result.0 h.item c.index_mut.result.now h.there) ∙ c.in-Run.is in
    let there : drop c.item_of-place.result.0 items ≡ Run c.in-Run.count ∷ drop (c.item_of-place.result.0 + 1) items = h.there ∙ ap (λ (x : Item). x ∷ drop (c.item_of-place.result.0 + 1) items) is in
    c.from_vec-in-Run.ensures ∙ run_shorter c.in-Run.count c.shorten_run.new.items.items h there (run_within c.in-Run.count h there)
    (subst (λ xs. WithoutRun xs c.item_of-place.result.0 c.in-Run.count c.shorten_run.new.items.items) (set_there items c.item_of-place.result.0 (Run c.in-Run.count) there) c.shorten_run.ensures) ∙ ap (λ (f : Gapped). without_proxy c.args.index f) whole
