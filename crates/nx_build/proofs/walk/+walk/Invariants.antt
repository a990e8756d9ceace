use Rattle.std.proofs.Common.{◌≡◌, ◌≤◌, ◌-◌, ◌+◌, ◌*◌, [], take, drop, None, Some}
use Rattle.std.specs.Vec.Iter.{into_iter_items}
use Rattle.nx_tree.specs.Forest.{forest_of}
use Rattle.nx_tree.specs.Document.{depth}
use Rattle.nx_parts.specs.Marks.{holder_by_marks}
use Rattle.nx_piece.specs.Items.{gapped_of}
use Rattle.nx_cuts.specs.Cut.{CutForest}
use Rattle.nx_build.specs.Marked.{IsMarked, AreMembers}
use Rattle.nx_build.proofs.WalkLemmas.{WalksOn}
use Rattle.nx_build.proofs.walk.+walk.Given as goal

abbrev pub decreases-piece_tree : goal.decreases-piece_tree
decreases-piece_tree g l = 3 * (1 + depth l.tree.below)

abbrev pub decreases-items_of : goal.decreases-items_of
decreases-items_of g l = 3 * depth (forest_of l.trees.items) + 2

abbrev pub decreases-put_members : goal.decreases-put_members
decreases-put_members g l = 3 * depth (forest_of (into_iter_items l.trees.now)) + 1

abbrev pub invariant-items_of-loop-position : goal.invariant-items_of-loop-position
invariant-items_of-loop-position g l =
    (into_iter_items l.rest ≡ drop l.position l.fn.trees.items)
    × ((drawn : CutForest) → IsMarked None (holder_by_marks l.marks) 0 (forest_of l.fn.trees.items) drawn
    → WalksOn g.D.Disk None (holder_by_marks l.marks) l.position (into_iter_items l.rest) drawn l.fn.records l.records l.fn.disk l.disk (gapped_of l.items.items) l.fn.proxies l.proxies)

abbrev pub decreases-items_of-loop-position : goal.decreases-items_of-loop-position
decreases-items_of-loop-position g l = l.len - l.position

abbrev pub invariant-put_members-loop-position : goal.invariant-put_members-loop-position
invariant-put_members-loop-position g l =
    (l.first ≤ l.position) × (l.position ≤ l.end) × (into_iter_items l.trees ≡ drop (l.position - l.first) (into_iter_items l.fn.trees))
    × ((members : CutForest) (m : AreMembers (holder_by_marks l.marks) l.first (forest_of (take (l.end - l.first) (into_iter_items l.fn.trees))) members)
    → WalksOn g.D.Disk (Some m.index) (holder_by_marks l.marks) l.position (take (l.end - l.position) (into_iter_items l.trees)) members l.fn.records l.records l.fn.disk l.disk l.roots [] l.proxies)
