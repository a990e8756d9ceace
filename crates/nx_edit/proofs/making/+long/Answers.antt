use Rattle.std.proofs.Common.{arith, refl}
use Rattle.nx_piece.specs.Items.{gapped_of}
use Rattle.nx_piece.proofs.WalkLemmas.{next_falls, next_tree}
use Rattle.std.proofs.Common.{sym, ap, ◌∙◌, subst, Bool}
use Rattle.std.specs.Prelude.{IsSome, IsTrue}
use Rattle.std.proofs.lemmas.Bool.{false≢true}
use Rattle.nx_piece.specs.Gapped.{GappedTree, End, Grow}
use Rattle.nx_piece.proofs.WalkLemmas.{next_left}
use Rattle.nx_edit.specs.Making.{first_long}
use Rattle.nx_edit.proofs.LongLemmas.{found_item, not_some, passed_here, passed_other, passed_tree}
use Rattle.nx_edit.proofs.making.+long.Goals.{long_item-in-Tree+else-has_long, long_item-in_default}
use Rattle.nx_edit.proofs.making.+long.Goals as goal

pub long_item-has_long-requires : goal.long_item-has_long-requires
long_item-has_long-requires t c =
    let d = next_tree c.args.items.now c.loop-index.index c.index-items-index.result c.in-Tree.tree c.loop-index-test.true c.index-items-index.is c.in-Tree.is in
    let falls = next_falls (gapped_of c.args.items.now) c.args.items.now c.loop-index.index c.in-Tree.tree refl d in
    omega (arith, falls)

pub long_item-returns-then-has_long : goal.long_item-returns-then-has_long
long_item-returns-then-has_long t c =
    let d = next_tree c.args.items.now c.loop-index.index c.index-items-index.result c.in-Tree.tree c.loop-index-test.true c.index-items-index.is c.in-Tree.is in
    passed_here c.args.items.now c.loop-index.index c.in-Tree.tree c.loop-index.invariant d (c.has_long.ensures.0 c.if-has_long.true)

pub has_long-returns-else-needs_list : goal.has_long-returns-else-needs_list
has_long-returns-else-needs_list t c =
    subst (λ (b : Bool). (IsTrue b → IsSome (first_long (Grow c.args.tree.now.node c.args.tree.now.below End))) × (IsSome (first_long (Grow c.args.tree.now.node c.args.tree.now.below End)) → IsTrue b)) (sym c.is_some.ensures)
    (found_item c.long_item.result c.as_slice.result.now c.args.tree.now.node c.args.tree.now.below (sym c.needs_list.ensures ∙ c.if-needs_list.false) (c.as_slice.ensures ∙ ap (λ (x : GappedTree). x.below) c.tree.view_is) c.long_item.ensures)

pub long_item-loop-index-preserved : goal.long_item-loop-index-preserved
long_item-loop-index-preserved t c =
    elim c.match-item.branch [
      | long_item-in-Tree+else-has_long w ↦
          let d = next_tree c.args.items.now c.loop-index.index c.index-items-index.result w.in-Tree.tree c.loop-index-test.true c.index-items-index.is w.in-Tree.is in
          passed_tree c.args.items.now c.loop-index.index w.in-Tree.tree c.loop-index.invariant d
          (not_some (first_long (Grow (w.in-Tree.tree).node (w.in-Tree.tree).below End)) (λ some. false≢true (sym w.if-has_long.false ∙ w.has_long.ensures.1 some)))
      | long_item-in_default w ↦
          passed_other c.args.items.now c.loop-index.index c.index-items-index.result c.loop-index.invariant (next_left c.args.items.now c.loop-index.index c.index-items-index.result c.loop-index-test.true c.index-items-index.is) w.in_default.not-Tree
    ]
