use Rattle.std.proofs.Common.{rules, arith, ap, ◌≡◌, ◌∙◌, ◌≤◌, suc, sym}
use Rattle.nx_tree.specs.declared.node.Node.{Node}
use Rattle.nx_piece.specs.Gapped.{Gapped, item_count, gapped_width}
use Rattle.nx_piece.specs.Items.{gapped_of}
use Rattle.nx_piece.specs.Viewing.{seen_items, seen_tree}
use Rattle.nx_piece.proofs.ApartLemmas.{row_end, row}
use Rattle.nx_piece.proofs.CopyLemmas.{tree_copied, run_copied, child_falls}
use Rattle.nx_piece.proofs.copying.+copy_items.Goals as goal

pub copy_items-requires : goal.copy_items-requires
copy_items-requires t c =
    let falls : suc (item_count (seen_items c.in-Tree.tree.children)) ≤ item_count (seen_items c.args.items) =
    child_falls {t = seen_tree c.in-Tree.tree} (gapped_of c.loop-item.copies.items) c.loop-item.invariant.same (rw c.in-Tree.is at c.in-Some.ensures) in
    (search rules, tt)

pub loop-item-preserved-in_ok-children-in-Tree : goal.loop-item-preserved-in_ok-children-in-Tree
loop-item-preserved-in_ok-children-in-Tree t c =
    let next = rw c.in-Tree.is at c.in-Some.ensures in
    let wide = ap gapped_width next in let room = c.loop-item.invariant.room in
    let long = c.push_reserved.ensures.len in let capacity = c.push_reserved.ensures.capacity in
    let copied : record { node = record { node = c.in_ok-node-in-Tree.node; far = c.in-Tree.tree.node.far }; below = c.in_ok-children-in-Tree.children } ≡ seen_tree c.in-Tree.tree =
    ap (λ (f : Gapped). record { node = record { node = c.in_ok-node-in-Tree.node; far = c.in-Tree.tree.node.far }; below = f }) c.in_ok-children-in-Tree.ensures
    ∙ ap (λ (n : Node). record { node = record { node = n; far = c.in-Tree.tree.node.far }; below = seen_items c.in-Tree.tree.children }) c.in_ok-node-in-Tree.ensures in
    record {
      same = tree_copied {t = seen_tree c.in-Tree.tree} c.loop-item.copies.items c.loop-item.invariant.same next copied c.push_reserved.ensures.items;
      room = omega arith;
    }

pub loop-item-preserved : goal.loop-item-preserved
loop-item-preserved t c =
    let next = rw c.in-Run.is at c.in-Some.ensures in
    let wide = ap gapped_width next in let room = c.loop-item.invariant.room in
    let long = c.push_reserved-in-Run.ensures.len in let capacity = c.push_reserved-in-Run.ensures.capacity in
    record {
      same = run_copied c.loop-item.copies.items c.loop-item.invariant.same next c.push_reserved-in-Run.ensures.items;
      room = omega arith;
    }

pub returns : goal.returns
returns t c =
    c.from_vec.ensures ∙ sym (row_end (gapped_of c.loop-item.copies.items)) ∙ ap (row (gapped_of c.loop-item.copies.items)) (sym c.in_default.ensures) ∙ c.loop-item.invariant.same
