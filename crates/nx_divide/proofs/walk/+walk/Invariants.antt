use Rattle.std.proofs.Common.{◌≡◌, ◌≤◌, ◌-◌, ◌+◌, ◌*◌, [], length, take, drop, None, Some}
use Rattle.std.specs.Vec.Iter.{into_iter_items}
use Rattle.nx_parts.specs.Marks.{holder_by_marks}
use Rattle.nx_piece.specs.Gapped.{item_count, proxies_in}
use Rattle.nx_piece.specs.Items.{gapped_of}
use Rattle.nx_drafts.specs.Draft.{Draft}
use Rattle.nx_divide.specs.Marked.{IsMarkedDraft, AreMarkedMembers, many}
use Rattle.nx_divide.proofs.WalkLemmas.{WalksOn}
use Rattle.nx_divide.proofs.walk.+walk.Given as goal

abbrev pub decreases-piece_tree : goal.decreases-piece_tree
decreases-piece_tree g l = 4 * (1 + item_count l.tree.below)

abbrev pub decreases-items_of : goal.decreases-items_of
decreases-items_of g l = 4 * item_count (gapped_of l.items.items) + 3

abbrev pub decreases-put_members : goal.decreases-put_members
decreases-put_members g l = 4 * item_count (gapped_of (into_iter_items l.left.now)) + 2

abbrev pub decreases-gather_piece : goal.decreases-gather_piece
decreases-gather_piece g l = 4 * item_count (gapped_of (into_iter_items l.left.now)) + 1

abbrev pub invariant-items_of-loop-count : goal.invariant-items_of-loop-count
invariant-items_of-loop-count g l =
    (l.count ≡ length (into_iter_items l.left)) × (item_count (gapped_of (into_iter_items l.left)) ≤ item_count (gapped_of l.fn.items.items))
    × (many (gapped_of (into_iter_items l.left)) ≤ many (gapped_of l.fn.items.items))
    × (drop (proxies_in (gapped_of (into_iter_items l.left))) (into_iter_items l.olds) ≡ drop (proxies_in (gapped_of l.fn.items.items)) (into_iter_items l.fn.olds))
    × (l.position + 65536 * length (into_iter_items l.olds) + l.count ≤ 65536 * length (into_iter_items l.fn.olds) + length l.fn.items.items)
    × (length (into_iter_items l.olds) ≤ length (into_iter_items l.fn.olds))
    × ((drawn : Draft (Unit {0})) → IsMarkedDraft None (holder_by_marks l.marks) 0 (gapped_of l.fn.items.items) (into_iter_items l.fn.olds) drawn
    → WalksOn g.D.Disk None (holder_by_marks l.marks) l.position (gapped_of (into_iter_items l.left)) (into_iter_items l.olds) drawn l.fn.records l.records l.fn.disk l.disk (gapped_of l.made.items) l.fn.proxies l.proxies)

abbrev pub decreases-items_of-loop-count : goal.decreases-items_of-loop-count
decreases-items_of-loop-count g l = l.count

abbrev pub invariant-gather_piece-loop-position : goal.invariant-gather_piece-loop-position
invariant-gather_piece-loop-position g l =
    (l.first ≤ l.position) × (l.position ≤ l.end) × (into_iter_items l.left ≡ drop (l.position - l.first) (into_iter_items l.fn.left))
    × (drop (proxies_in (gapped_of (take (l.end - l.position) (into_iter_items l.left)))) (into_iter_items l.olds) ≡ drop (proxies_in (gapped_of (take (l.end - l.first) (into_iter_items l.fn.left)))) (into_iter_items l.fn.olds))
    × (length (into_iter_items l.olds) ≤ length (into_iter_items l.fn.olds))
    × ((members : Draft (Unit {0})) (m : AreMarkedMembers (holder_by_marks l.marks) l.first (gapped_of (take (l.end - l.first) (into_iter_items l.fn.left))) (into_iter_items l.fn.olds) members)
    → WalksOn g.D.Disk (Some m.index) (holder_by_marks l.marks) l.position (gapped_of (take (l.end - l.position) (into_iter_items l.left))) (into_iter_items l.olds) members l.fn.records l.records l.fn.disk l.disk l.roots [] l.proxies)
