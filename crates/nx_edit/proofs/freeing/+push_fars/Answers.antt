use Rattle.std.proofs.Common.{rules, ◌≡◌, ◌++◌, [], ℕ, ◌+◌, ◌≤◌, suc, List, length, drop, Option, Vec, sym, ap, ◌∙◌, arith, append_assoc, append-nil}
use Rattle.std.specs.Option.{option_to_list}
use Rattle.std.proofs.lemmas.List.{nil_from_length, length-drop}
use Rattle.nx_piece.specs.declared.piece.Far.{Far}
use Rattle.nx_piece.specs.declared.piece.Item.{Item}
use Rattle.nx_piece.specs.Contents.{fars_in}
use Rattle.nx_piece.specs.Gapped.{Gapped, GappedTree, item_count}
use Rattle.nx_piece.specs.Items.{gapped_of}
use Rattle.nx_piece.proofs.WalkLemmas.{next_tree, next_run, next_falls}
use Rattle.nx_edit.proofs.freeing.+push_fars.Goals as goal
use Rattle.nx_edit.proofs.freeing.+push_fars.Goals.{in-Tree+in_ok-push_fars, in_default}

moved : (l o b r : List Far) → (l ++ (o ++ (b ++ []))) ++ r ≡ l ++ (o ++ (b ++ r))
moved l o b r = append_assoc l (o ++ (b ++ [])) r ∙ ap (λ (x : List Far). l ++ x) (append_assoc o (b ++ []) r ∙ ap (λ (x : List Far). o ++ x) (append_assoc b [] r))

dropped : (items : List Item) (i : ℕ) → length items ≤ i → drop i items ≡ []
dropped items i most = nil_from_length (drop i items) (let l = length-drop i items in omega (arith, l, most))

pub loop-item-init : goal.loop-item-init
loop-item-init t c =
    let below : gapped_of c.as_slice-item-items.result.now ≡ c.args.tree.now.below = c.as_slice-item-items.ensures ∙ ap (λ (x : GappedTree). x.below) c.tree.view_is in
    let far : (c.tree.inside).far ≡ c.args.tree.now.node.far = ap (λ (x : GappedTree). x.node.far) c.tree.view_is in
    let own : List Far = c.args.gone.now.items in
    ap (λ (g : Gapped). c.push_far.new.gone.items ++ fars_in g) below
    ∙ ap (λ (l : List Far). l ++ fars_in c.args.tree.now.below) (c.in_ok-push_far.ensures ∙ ap (λ (o : Option Far). own ++ option_to_list o) far)
    ∙ append_assoc own (option_to_list c.args.tree.now.node.far) (fars_in c.args.tree.now.below)
    ∙ ap (λ (l : List Far). own ++ (option_to_list c.args.tree.now.node.far ++ l)) (sym (append-nil (fars_in c.args.tree.now.below)))

pub push_fars-requires : goal.push_fars-requires
push_fars-requires t c =
    let d = next_tree c.as_slice-item-items.result.now c.loop-item.item-index c.item-item.result c.in-Tree.child c.loop-item-test.true c.item-item.is c.in-Tree.is in
    let falls : suc (item_count c.in-Tree.child.below) ≤ item_count c.args.tree.now.below =
    next_falls c.args.tree.now.below c.as_slice-item-items.result.now c.loop-item.item-index c.in-Tree.child (c.as_slice-item-items.ensures ∙ ap (λ (x : GappedTree). x.below) c.tree.view_is) d in
    (search rules, tt)

pub loop-item-preserved : goal.loop-item-preserved
loop-item-preserved t c =
    let items : List Item = c.as_slice-item-items.result.now in
    let left : Gapped = gapped_of (drop (c.loop-item.item-index + 1) items) in
    elim c.match-item.branch [
      | in-Tree+in_ok-push_fars w ↦
          let d = next_tree items c.loop-item.item-index c.item-item.result w.in-Tree.child c.loop-item-test.true c.item-item.is w.in-Tree.is in
          ap (λ (v : Vec Far _). v.items ++ fars_in left) w.gone-is
          ∙ ap (λ (l : List Far). l ++ fars_in left) w.in_ok-push_fars.ensures
          ∙ moved c.loop-item.gone.items (option_to_list w.in-Tree.child.node.far) (fars_in w.in-Tree.child.below) (fars_in left)
          ∙ ap (λ (xs : List Item). c.loop-item.gone.items ++ fars_in (gapped_of xs)) (sym d)
          ∙ c.loop-item.invariant
      | in_default w ↦
          ap (λ (v : Vec Far _). v.items ++ fars_in left) w.gone-is
          ∙ ap (λ (g : Gapped). c.loop-item.gone.items ++ fars_in g) (sym (next_run items c.loop-item.item-index c.item-item.result w.in_default.field-0 c.loop-item-test.true c.item-item.is w.in_default.is))
          ∙ c.loop-item.invariant
    ]

pub returns : goal.returns
returns t c =
    sym (append-nil c.loop-item.gone.items)
    ∙ ap (λ (xs : List Item). c.loop-item.gone.items ++ fars_in (gapped_of xs)) (sym (dropped c.as_slice-item-items.result.now c.loop-item.item-index c.loop-item-test.false))
    ∙ c.loop-item.invariant
