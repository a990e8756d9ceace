use Rattle.std.proofs.Common.{rules, arith, ◌≡◌, ◌+◌, ◌<◌, ◌≤◌, ◌∷◌, ◌++◌, suc, set, List, length, take, drop, sym, ap, ◌∙◌, subst}
use Rattle.nx_piece.specs.declared.piece.Item.{Item}
use Rattle.nx_piece.specs.declared.piece.Item.TheVariants.{Tree, Run}
use Rattle.nx_piece.specs.Gapped.{Gapped, GappedTree, item_count, proxies_in}
use Rattle.nx_piece.specs.Items.{gapped_of}
use Rattle.nx_piece.specs.Valid.{AreApart}
use Rattle.nx_piece_edits.specs.Cutting.{with_items_at}
use Rattle.nx_piece_edits.specs.Shortening.{IsItemOf}
use Rattle.nx_piece.proofs.WalkLemmas.{next_falls}
use Rattle.nx_piece_edits.proofs.TakeLemmas.{same_items, there_within, there_is, set_there, proxies_there, apart_there}
use Rattle.nx_piece_edits.proofs.ShortLemmas.{tree_within, run_within, tree_wider, run_wider}
use Rattle.nx_piece_edits.proofs.widening.+widen_below.Goals as goal

pub index_mut-requires : goal.index_mut-requires
index_mut-requires t c =
    let items : List Item = c.into_vec-items.result.items in
    let whole : gapped_of items ≡ c.args.tree.now.below = c.into_vec-items.ensures ∙ c.replace.ensures.value ∙ ap (λ (x : GappedTree). x.below) c.tree.view_is in
    let same : c.as_slice.result.now ≡ items = same_items c.as_slice.result.now items (c.as_slice.ensures ∙ ap (λ (x : GappedTree). x.below) c.tree.view_is ∙ sym whole) in
    let h : IsItemOf items c.args.index c.item_of-place.result = subst (λ xs. IsItemOf xs c.args.index c.item_of-place.result) same c.item_of-place.ensures in
    let within : c.item_of-place.result.0 < length items = there_within items c.item_of-place.result.0 h.item h.there in
    omega arith

pub widen_below-requires : goal.widen_below-requires
widen_below-requires t c =
    let items : List Item = c.into_vec-items.result.items in
    let whole : gapped_of items ≡ c.args.tree.now.below = c.into_vec-items.ensures ∙ c.replace.ensures.value ∙ ap (λ (x : GappedTree). x.below) c.tree.view_is in
    let same : c.as_slice.result.now ≡ items = same_items c.as_slice.result.now items (c.as_slice.ensures ∙ ap (λ (x : GappedTree). x.below) c.tree.view_is ∙ sym whole) in
    let h : IsItemOf items c.args.index c.item_of-place.result = subst (λ xs. IsItemOf xs c.args.index c.item_of-place.result) same c.item_of-place.ensures in
    let within : c.item_of-place.result.0 < length items = there_within items c.item_of-place.result.0 h.item h.there in
    let is : h.item ≡ Tree c.in-Tree.child = sym (c.index_mut.ensures.value ∙ there_is items c.item_of-place.result.0 h.item c.index_mut.result.now h.there) ∙ c.in-Tree.is in
    let there : drop c.item_of-place.result.0 items ≡ Tree c.in-Tree.child ∷ drop (c.item_of-place.result.0 + 1) items = h.there ∙ ap (λ (x : Item). x ∷ drop (c.item_of-place.result.0 + 1) items) is in
    let falls : suc (item_count c.in-Tree.child.below) ≤ item_count c.args.tree.now.below = next_falls c.args.tree.now.below items c.item_of-place.result.0 c.in-Tree.child whole there in
    let sum = proxies_there items c.item_of-place.result.0 (Tree c.in-Tree.child) there in
    let all = ap proxies_in whole in
    let few = c.requires.few in
    let most : proxies_in c.in-Tree.child.below ≤ 524288 = omega arith in
    let apart : AreApart (gapped_of items) = subst AreApart (sym whole) c.requires.apart in
    (search rules, (tree_within c.in-Tree.child h there, (most, (apart_there items c.item_of-place.result.0 c.in-Tree.child there apart, (c.requires.fits, c.requires.row)))))

pub overflow_sub-behind : goal.overflow_sub-behind
overflow_sub-behind t c =
    let items : List Item = c.into_vec-items.result.items in
    let whole : gapped_of items ≡ c.args.tree.now.below = c.into_vec-items.ensures ∙ c.replace.ensures.value ∙ ap (λ (x : GappedTree). x.below) c.tree.view_is in
    let same : c.as_slice.result.now ≡ items = same_items c.as_slice.result.now items (c.as_slice.ensures ∙ ap (λ (x : GappedTree). x.below) c.tree.view_is ∙ sym whole) in
    let h : IsItemOf items c.args.index c.item_of-place.result = subst (λ xs. IsItemOf xs c.args.index c.item_of-place.result) same c.item_of-place.ensures in
    let within : c.item_of-place.result.0 < length items = there_within items c.item_of-place.result.0 h.item h.there in
    let is : h.item ≡ Run c.in-Run.count = sym (c.index_mut.ensures.value ∙ there_is items c.item_of-place.result.0 h.item c.index_mut.result.now h.there) ∙ c.in-Run.is in
    let there : drop c.item_of-place.result.0 items ≡ Run c.in-Run.count ∷ drop (c.item_of-place.result.0 + 1) items = h.there ∙ ap (λ (x : Item). x ∷ drop (c.item_of-place.result.0 + 1) items) is in
    let less : c.item_of-place.result.1 < c.in-Run.count = run_within c.in-Run.count h there in
    omega arith

pub overflow_sub-behind-in-Run : goal.overflow_sub-behind-in-Run
overflow_sub-behind-in-Run t c =
    let items : List Item = c.into_vec-items.result.items in
    let whole : gapped_of items ≡ c.args.tree.now.below = c.into_vec-items.ensures ∙ c.replace.ensures.value ∙ ap (λ (x : GappedTree). x.below) c.tree.view_is in
    let same : c.as_slice.result.now ≡ items = same_items c.as_slice.result.now items (c.as_slice.ensures ∙ ap (λ (x : GappedTree). x.below) c.tree.view_is ∙ sym whole) in
    let h : IsItemOf items c.args.index c.item_of-place.result = subst (λ xs. IsItemOf xs c.args.index c.item_of-place.result) same c.item_of-place.ensures in
    let within : c.item_of-place.result.0 < length items = there_within items c.item_of-place.result.0 h.item h.there in
    let is : h.item ≡ Run c.in-Run.count = sym (c.index_mut.ensures.value ∙ there_is items c.item_of-place.result.0 h.item c.index_mut.result.now h.there) ∙ c.in-Run.is in
    let there : drop c.item_of-place.result.0 items ≡ Run c.in-Run.count ∷ drop (c.item_of-place.result.0 + 1) items = h.there ∙ ap (λ (x : Item). x ∷ drop (c.item_of-place.result.0 + 1) items) is in
    let less : c.item_of-place.result.1 < c.in-Run.count = run_within c.in-Run.count h there in
    omega arith

pub closed-requires-clause-fits : goal.closed-requires-clause-fits
closed-requires-clause-fits t c =
    let items : List Item = c.into_vec-items.result.items in
    let whole : gapped_of items ≡ c.args.tree.now.below = c.into_vec-items.ensures ∙ c.replace.ensures.value ∙ ap (λ (x : GappedTree). x.below) c.tree.view_is in
    let same : c.as_slice.result.now ≡ items = same_items c.as_slice.result.now items (c.as_slice.ensures ∙ ap (λ (x : GappedTree). x.below) c.tree.view_is ∙ sym whole) in
    let h : IsItemOf items c.args.index c.item_of-place.result = subst (λ xs. IsItemOf xs c.args.index c.item_of-place.result) same c.item_of-place.ensures in
    let within : c.item_of-place.result.0 < length items = there_within items c.item_of-place.result.0 h.item h.there in
    let is : h.item ≡ Run c.in-Run.count = sym (c.index_mut.ensures.value ∙ there_is items c.item_of-place.result.0 h.item c.index_mut.result.now h.there) ∙ c.in-Run.is in
    let there : drop c.item_of-place.result.0 items ≡ Run c.in-Run.count ∷ drop (c.item_of-place.result.0 + 1) items = h.there ∙ ap (λ (x : Item). x ∷ drop (c.item_of-place.result.0 + 1) items) is in
    let less : c.item_of-place.result.1 < c.in-Run.count = run_within c.in-Run.count h there in
    let sum = proxies_there items c.item_of-place.result.0 (Run c.in-Run.count) there in
    let all = ap proxies_in whole in
    let few = c.requires.few in
    let fits = c.requires.fits in
    omega arith

pub put_items-requires : goal.put_items-requires
put_items-requires t c =
    let items : List Item = c.into_vec-items.result.items in
    let whole : gapped_of items ≡ c.args.tree.now.below = c.into_vec-items.ensures ∙ c.replace.ensures.value ∙ ap (λ (x : GappedTree). x.below) c.tree.view_is in
    let same : c.as_slice.result.now ≡ items = same_items c.as_slice.result.now items (c.as_slice.ensures ∙ ap (λ (x : GappedTree). x.below) c.tree.view_is ∙ sym whole) in
    let h : IsItemOf items c.args.index c.item_of-place.result = subst (λ xs. IsItemOf xs c.args.index c.item_of-place.result) same c.item_of-place.ensures in
    let within : c.item_of-place.result.0 < length items = there_within items c.item_of-place.result.0 h.item h.there in
    omega arith

pub returns-in_ok-widen_below-in-Tree : goal.returns-in_ok-widen_below-in-Tree
returns-in_ok-widen_below-in-Tree t c =
    let items : List Item = c.into_vec-items.result.items in
    let whole : gapped_of items ≡ c.args.tree.now.below = c.into_vec-items.ensures ∙ c.replace.ensures.value ∙ ap (λ (x : GappedTree). x.below) c.tree.view_is in
    let same : c.as_slice.result.now ≡ items = same_items c.as_slice.result.now items (c.as_slice.ensures ∙ ap (λ (x : GappedTree). x.below) c.tree.view_is ∙ sym whole) in
    let h : IsItemOf items c.args.index c.item_of-place.result = subst (λ xs. IsItemOf xs c.args.index c.item_of-place.result) same c.item_of-place.ensures in
    let within : c.item_of-place.result.0 < length items = there_within items c.item_of-place.result.0 h.item h.there in
    let is : h.item ≡ Tree c.in-Tree.child = sym (c.index_mut.ensures.value ∙ there_is items c.item_of-place.result.0 h.item c.index_mut.result.now h.there) ∙ c.in-Tree.is in
    let there : drop c.item_of-place.result.0 items ≡ Tree c.in-Tree.child ∷ drop (c.item_of-place.result.0 + 1) items = h.there ∙ ap (λ (x : Item). x ∷ drop (c.item_of-place.result.0 + 1) items) is in
    let put = c.in_ok-widen_below-in-Tree.ensures in (
      ap (λ (x : GappedTree). x.node) c.tree.view_is,
      c.from_vec.ensures ∙ tree_wider (gapped_of c.args.row.items) c.in-Tree.child c.widen_below.new.tree h there (tree_within c.in-Tree.child h there) put.0 put.1
          ∙ ap (λ (f : Gapped). with_items_at c.args.index (gapped_of c.args.row.items) f) whole,
    )

pub returns-in_ok-put_items-in-Run : goal.returns-in_ok-put_items-in-Run
returns-in_ok-put_items-in-Run t c =
    let items : List Item = c.into_vec-items.result.items in
    let whole : gapped_of items ≡ c.args.tree.now.below = c.into_vec-items.ensures ∙ c.replace.ensures.value ∙ ap (λ (x : GappedTree). x.below) c.tree.view_is in
    let same : c.as_slice.result.now ≡ items = same_items c.as_slice.result.now items (c.as_slice.ensures ∙ ap (λ (x : GappedTree). x.below) c.tree.view_is ∙ sym whole) in
    let h : IsItemOf items c.args.index c.item_of-place.result = subst (λ xs. IsItemOf xs c.args.index c.item_of-place.result) same c.item_of-place.ensures in
    let within : c.item_of-place.result.0 < length items = there_within items c.item_of-place.result.0 h.item h.there in
    let is : h.item ≡ Run c.in-Run.count = sym (c.index_mut.ensures.value ∙ there_is items c.item_of-place.result.0 h.item c.index_mut.result.now h.there) ∙ c.in-Run.is in
    let there : drop c.item_of-place.result.0 items ≡ Run c.in-Run.count ∷ drop (c.item_of-place.result.0 + 1) items = h.there ∙ ap (λ (x : Item). x ∷ drop (c.item_of-place.result.0 + 1) items) is in
    let less : c.item_of-place.result.1 < c.in-Run.count = run_within c.in-Run.count h there in
    let apart : AreApart (gapped_of items) = subst AreApart (sym whole) c.requires.apart in
    let old : List Item = set items c.item_of-place.result.0 (Run c.in-Run.count) in
    let same_old : old ≡ items = set_there items c.item_of-place.result.0 (Run c.in-Run.count) there in
    let put : c.put_items.new.items.items ≡ take c.item_of-place.result.0 items ++ (c.in_ok-all-in-Run.all.items ++ drop (c.item_of-place.result.0 + 1) items) =
    c.in_ok-put_items-in-Run.ensures ∙ ap (λ (xs : List Item). take c.item_of-place.result.0 xs ++ (c.in_ok-all-in-Run.all.items ++ drop (c.item_of-place.result.0 + 1) xs)) same_old in (
      ap (λ (x : GappedTree). x.node) c.tree.view_is,
      c.from_vec-in-Run.ensures ∙ run_wider (gapped_of c.args.row.items) c.in-Run.count c.in_ok-all-in-Run.all.items c.put_items.new.items.items h there less apart c.requires.row c.in_ok-all-in-Run.ensures put
          ∙ ap (λ (f : Gapped). with_items_at c.args.index (gapped_of c.args.row.items) f) whole,
    )
