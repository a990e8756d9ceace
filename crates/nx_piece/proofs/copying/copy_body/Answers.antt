use Rattle.std.proofs.Common.{arith, ap, ◌∙◌, sym, subst}
use Rattle.nx_piece.specs.Gapped.{Gapped, grown_of, gapped_width}
use Rattle.nx_piece.specs.Valid.{AreTrees}
use Rattle.nx_piece.specs.Viewing.{seen_tree}
use Rattle.nx_piece.proofs.ApartLemmas.{row_end, row}
use Rattle.nx_piece.proofs.CopyLemmas.{root_copied}
use Rattle.nx_piece.proofs.copying.copy_body.Goals as goal

pub loop-item-preserved-in_ok-copy_tree : goal.loop-item-preserved-in_ok-copy_tree
loop-item-preserved-in_ok-copy_tree c =
    let next = rw c.in-Tree.is at c.in-Some.ensures in
    let wide = ap gapped_width next in let room = c.loop-item.invariant.room in
    let long = c.push_reserved.ensures.len in let capacity = c.push_reserved.ensures.capacity in
    record {
      same = root_copied {t = seen_tree c.in-Tree.tree} c.loop-item.trees.items c.loop-item.invariant.same next c.in_ok-copy_tree.ensures c.push_reserved.ensures.items;
      trees = subst AreTrees next c.loop-item.invariant.trees;
      room = omega arith;
    }

pub returns : goal.returns
returns c =
    ap (λ (f : Gapped). record { roots = f })
    (c.from_vec.ensures ∙ sym (row_end (grown_of c.loop-item.trees.items)) ∙ ap (row (grown_of c.loop-item.trees.items)) (sym c.in_default.ensures) ∙ c.loop-item.invariant.same)
