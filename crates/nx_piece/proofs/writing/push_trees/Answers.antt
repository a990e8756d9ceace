use Rattle.std.proofs.Common.{refl, ap}
use Rattle.std.proofs.lemmas.List.{drop_all}
use Rattle.nx_piece.specs.Gapped.{grown_of}
use Rattle.nx_piece.proofs.WalkLemmas.{next_root, next_small, first_small, written_tree, written_end}
use Rattle.nx_piece.proofs.writing.push_trees.Goals as goal

pub loop-tree-init : goal.loop-tree-init
loop-tree-init c = record { bytes = refl; pages = λ h. h; small = c.requires }

pub push_tree-requires : goal.push_tree-requires
push_tree-requires c =
    first_small c.tree-item.result _ (next_small _ _ (next_root _ _ _ c.loop-tree-test.true c.tree-item.is) c.loop-tree.invariant.small)

pub loop-tree-preserved : goal.loop-tree-preserved
loop-tree-preserved c = written_tree c.loop-tree.invariant (next_root _ _ _ c.loop-tree-test.true c.tree-item.is) c.in_ok-push_tree.ensures.bytes c.in_ok-push_tree.ensures.page c.in_ok-push_tree.ensures.pages

pub returns-clause-bytes : goal.returns-clause-bytes
returns-clause-bytes c = (written_end _ _ _ _ c.loop-tree.invariant (ap grown_of (drop_all _ _ c.loop-tree-test.false))).0

pub returns-clause-pages : goal.returns-clause-pages
returns-clause-pages c = (written_end _ _ _ _ c.loop-tree.invariant (ap grown_of (drop_all _ _ c.loop-tree-test.false))).1
