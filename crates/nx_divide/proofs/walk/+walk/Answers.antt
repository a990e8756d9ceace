use Rattle.std.proofs.Common.{rules, ◌≡◌, ◌+◌, ◌-◌, ◌*◌, ◌≤◌, ◌<◌, [], ◌∷◌, List, length, take, drop, length-drop, None, Some, sym, ap, ◌∙◌, subst, arith, ℕ, refl}
use Rattle.std.specs.Vec.Iter.{into_iter_items}
use Rattle.std.proofs.lemmas.Result.{err_from_is_err_and}
use Rattle.nx_host.proofs.DiskLemmas.{still_then}
use Rattle.nx_parts.specs.Marks.{holder_by_marks}
use Rattle.nx_records.specs.declared.error.StoreError.{StoreError}
use Rattle.nx_records.specs.Refusals.{NotStored}
use Rattle.nx_records.proofs.RefusalLemmas.{err_passed}
use Rattle.nx_piece.specs.declared.piece.Item.{Item}
use Rattle.nx_piece.specs.declared.piece.Item.TheVariants.{Tree, Run}
use Rattle.nx_piece.specs.declared.piece.Proxy.{Proxy}
use Rattle.nx_piece.specs.Gapped.{Gapped, End, proxies_in, item_count}
use Rattle.nx_piece.specs.Items.{gapped_of}
use Rattle.nx_drafts.specs.Draft.{Draft, Ends, Comes, draft_needs}
use Rattle.nx_divide.specs.Marked.{IsMarkedDraft, AreMarkedMembers, many}
use Rattle.nx_divide.specs.Putting.{PutsRow}
use Rattle.nx_divide.proofs.LeftLemmas.{proxies-parted, many-drop, many-take, count-drop, olds_then, fewer_olds, tree_gapped, run_gapped, tree_many, tree_count, run_many, run_count, member_left, take_next, take_none, none_left}
use Rattle.nx_divide.proofs.WalkLemmas.{WalksOn, walk_begins, walk_ends}
use Rattle.nx_divide.proofs.RunLemmas.{run_there, run_room, run_step}
use Rattle.nx_divide.proofs.StepLemmas.{tree_can, tree_not, tree_put, tree_memory, tree_pushed, interval_can, interval_not, interval_room, interval_memory, interval_added, next_is_tree, member_can, member_not, member_put, member_memory, piece_can, piece_near, all_gathered, needs_fewer, put_done, put_not}
use Rattle.nx_divide.proofs.walk.+walk.Goals as goal

pub items_of-loop-count-init : goal.items_of-loop-count-init
items_of-loop-count-init g t c =
    let rest : into_iter_items c.into_iter-left.result ≡ c.args.items.items = c.into_iter-left.ensures.rest in
    let len : c.len-count.result ≡ length c.args.items.items = omega (arith, c.len-count.ensures, c.args.items.ok.0) in
    let items : item_count (gapped_of (into_iter_items c.into_iter-left.result)) ≡ item_count (gapped_of c.args.items.items) = ap (λ (l : List Item). item_count (gapped_of l)) rest in
    let all : many (gapped_of (into_iter_items c.into_iter-left.result)) ≡ many (gapped_of c.args.items.items) = ap (λ (l : List Item). many (gapped_of l)) rest in (
      len ∙ sym (ap length rest),
      omega (arith, items),
      omega (arith, all),
      ap (λ (l : List Item). drop (proxies_in (gapped_of l)) (into_iter_items c.args.olds.now)) rest,
      omega (arith, len),
      omega arith,
      λ drawn marked.
          subst (λ (xs : List Item). WalksOn g.D.Disk None (holder_by_marks c.args.marks.now) 0 (gapped_of (into_iter_items c.into_iter-left.result)) (into_iter_items c.args.olds.now) drawn c.args.records.now c.args.records.now c.args.disk.now c.args.disk.now (gapped_of xs) c.args.proxies.now c.args.proxies.now)
          (sym c.new-made.ensures.items)
          (subst (λ (l : List Item). WalksOn g.D.Disk None (holder_by_marks c.args.marks.now) 0 (gapped_of l) (into_iter_items c.args.olds.now) drawn c.args.records.now c.args.records.now c.args.disk.now c.args.disk.now End c.args.proxies.now c.args.proxies.now) (sym rest)
          (walk_begins {d = g.D.Disk} None (holder_by_marks c.args.marks.now) 0 (gapped_of c.args.items.items) (into_iter_items c.args.olds.now) drawn c.args.records.now c.args.disk.now c.args.proxies.now c.requires.runs marked)),
    )

pub items_of-put_members-requires : goal.items_of-put_members-requires
items_of-put_members-requires g t c κs within =
    let w : WalksOn g.D.Disk None (holder_by_marks c.args.marks.now) c.loop-count.position (gapped_of (into_iter_items c.loop-count.left)) (into_iter_items c.loop-count.olds) c.requires.marked.0 c.args.records.now c.loop-count.records c.args.disk.now c.loop-count.disk (gapped_of c.loop-count.made.items) c.args.proxies.now c.loop-count.proxies = c.loop-count.invariant.6 c.requires.marked.0 c.requires.marked.1 in
    let less : item_count (gapped_of (into_iter_items c.loop-count.left)) ≤ item_count (gapped_of c.args.items.items) = c.loop-count.invariant.1 in
    let all : many (gapped_of (into_iter_items c.loop-count.left)) ≤ many (gapped_of c.args.items.items) = c.loop-count.invariant.2 in
    let few : many (gapped_of c.args.items.items) ≤ 524288 = c.requires.few in
    let small : item_count (gapped_of c.args.items.items) ≤ 1048576 = c.requires.small in
    let fewer : length (into_iter_items c.loop-count.olds) ≤ length (into_iter_items c.args.olds.now) = c.loop-count.invariant.5 in
    let olds : length (into_iter_items c.args.olds.now) ≤ 524288 = c.requires.olds in
    let some : c.loop-count.position < c.members_end-end.result = c.members_end-end.ensures.some in
    let most : c.members_end-end.result ≤ c.loop-count.position + c.loop-count.count = c.members_end-end.ensures.within in
    let count : c.loop-count.count ≡ length (into_iter_items c.loop-count.left) = c.loop-count.invariant.0 in (
      search rules,
      (within, (((w.put).runs).after, (omega (arith, all, few), (omega (arith, less, small), (omega (arith, fewer, olds), (omega (arith, some), (omega (arith, most, count), interval_can {d = g.D.Disk} c.args.marks.now (into_iter_items c.loop-count.left) (w) c.in-Some.holder c.members_end-end.result (c.loop-count.position + c.loop-count.count) (ap (λ (n : ℕ). c.loop-count.position + n) c.loop-count.invariant.0) (let test : 0 < c.loop-count.count = c.loop-count-test.true in omega (arith, test)) (sym c.holder_in.ensures ∙ c.in-Some.is) c.members_end-end.ensures.some c.members_end-end.ensures.within c.members_end-end.ensures.held c.members_end-end.ensures.ends))))))),
    )

pub items_of-returns-in_err-proxy-in-Some-clause-still : goal.items_of-returns-in_err-proxy-in-Some-clause-still
items_of-returns-in_err-proxy-in-Some-clause-still g t c = still_then ((c.loop-count.invariant.6 c.requires.marked.0 c.requires.marked.1).put).still c.put_members.ensures.still

pub items_of-returns-in_err-proxy-in-Some-clause-refused : goal.items_of-returns-in_err-proxy-in-Some-clause-refused
items_of-returns-in_err-proxy-in-Some-clause-refused g t c =
    err_passed c.from_residual.result
    (λ (e : StoreError). (drawn : Draft (Unit {0})) → IsMarkedDraft None (holder_by_marks c.args.marks.now) 0 (gapped_of c.args.items.items) (into_iter_items c.args.olds.now) drawn
    → NotStored g.D.Disk (λ was. draft_needs drawn) (λ was. ⊥) 0 e c.args.records.now c.put_members.new.records c.args.disk.now c.put_members.new.disk)
    c.in_err-proxy-in-Some.field-0.0 (err_from_is_err_and c.from_residual.result c.from_residual.ensures.1)
    (λ drawn marked. interval_not {d = g.D.Disk} c.args.marks.now (into_iter_items c.loop-count.left) (c.loop-count.invariant.6 drawn marked) c.in-Some.holder c.members_end-end.result (c.loop-count.position + c.loop-count.count) (ap (λ (n : ℕ). c.loop-count.position + n) c.loop-count.invariant.0) (let test : 0 < c.loop-count.count = c.loop-count-test.true in omega (arith, test)) (sym c.holder_in.ensures ∙ c.in-Some.is) c.members_end-end.ensures.some c.members_end-end.ensures.within c.members_end-end.ensures.held c.members_end-end.ensures.ends c.put_members.new.records c.put_members.new.disk c.in_err-proxy-in-Some.field-0.0 c.in_err-proxy-in-Some.ensures.refused)

pub items_of-add_proxy-requires : goal.items_of-add_proxy-requires
items_of-add_proxy-requires g t c =
    let drawn = c.requires.marked.0 in
    let marked = c.requires.marked.1 in
    interval_room {d = g.D.Disk} c.args.marks.now (into_iter_items c.loop-count.left) (c.loop-count.invariant.6 drawn marked) c.in-Some.holder c.members_end-end.result (c.loop-count.position + c.loop-count.count) (ap (λ (n : ℕ). c.loop-count.position + n) c.loop-count.invariant.0) (let test : 0 < c.loop-count.count = c.loop-count-test.true in omega (arith, test)) (sym c.holder_in.ensures ∙ c.in-Some.is) c.members_end-end.ensures.some c.members_end-end.ensures.within c.members_end-end.ensures.held c.members_end-end.ensures.ends (gapped_of c.args.items.items) (into_iter_items c.args.olds.now) marked c.requires.few

pub items_of-returns-in_default-clause-still : goal.items_of-returns-in_default-clause-still
items_of-returns-in_default-clause-still g t c = still_then ((c.loop-count.invariant.6 c.requires.marked.0 c.requires.marked.1).put).still c.put_members.ensures.still

pub items_of-returns-in_default-clause-refused : goal.items_of-returns-in_default-clause-refused
items_of-returns-in_default-clause-refused g t c = λ drawn marked. interval_memory {d = g.D.Disk} c.args.marks.now (into_iter_items c.loop-count.left) (c.loop-count.invariant.6 drawn marked) c.in-Some.holder c.members_end-end.result (c.loop-count.position + c.loop-count.count) (ap (λ (n : ℕ). c.loop-count.position + n) c.loop-count.invariant.0) (let test : 0 < c.loop-count.count = c.loop-count-test.true in omega (arith, test)) (sym c.holder_in.ensures ∙ c.in-Some.is) c.members_end-end.ensures.some c.members_end-end.ensures.within c.members_end-end.ensures.held c.members_end-end.ensures.ends c.in_ok-proxy-in-Some.proxy c.in_ok-proxy-in-Some.ensures.ok

pub items_of-loop-count-preserved-in-Some : goal.items_of-loop-count-preserved-in-Some
items_of-loop-count-preserved-in-Some g t c =
    let n = (c.members_end-end.result - c.loop-count.position) in
    let left_is : into_iter_items c.put_members.new.left ≡ drop n (into_iter_items c.loop-count.left) = c.in_ok-proxy-in-Some.ensures.left in
    let olds_are : into_iter_items c.put_members.new.olds ≡ drop (proxies_in (gapped_of (take n (into_iter_items c.loop-count.left)))) (into_iter_items c.loop-count.olds) = c.in_ok-proxy-in-Some.ensures.olds in
    let count : c.loop-count.count ≡ length (into_iter_items c.loop-count.left) = c.loop-count.invariant.0 in
    let long : length (into_iter_items c.put_members.new.left) ≡ length (drop n (into_iter_items c.loop-count.left)) = ap length left_is in
    let dropped = length-drop n (into_iter_items c.loop-count.left) in
    let some : c.loop-count.position < c.members_end-end.result = c.members_end-end.ensures.some in
    let most : c.members_end-end.result ≤ c.loop-count.position + c.loop-count.count = c.members_end-end.ensures.within in
    let items : item_count (gapped_of (into_iter_items c.put_members.new.left)) ≡ item_count (gapped_of (drop n (into_iter_items c.loop-count.left))) = ap (λ (l : List Item). item_count (gapped_of l)) left_is in
    let items_less = count-drop n (into_iter_items c.loop-count.left) in
    let less : item_count (gapped_of (into_iter_items c.loop-count.left)) ≤ item_count (gapped_of c.args.items.items) = c.loop-count.invariant.1 in
    let all : many (gapped_of (into_iter_items c.put_members.new.left)) ≡ many (gapped_of (drop n (into_iter_items c.loop-count.left))) = ap (λ (l : List Item). many (gapped_of l)) left_is in
    let all_less = many-drop n (into_iter_items c.loop-count.left) in
    let fewer : many (gapped_of (into_iter_items c.loop-count.left)) ≤ many (gapped_of c.args.items.items) = c.loop-count.invariant.2 in
    let olds_fewer = fewer_olds (proxies_in (gapped_of (take n (into_iter_items c.loop-count.left)))) (into_iter_items c.loop-count.olds) (into_iter_items c.put_members.new.olds) olds_are in
    let bound : c.loop-count.position + 65536 * length (into_iter_items c.loop-count.olds) + c.loop-count.count ≤ 65536 * length (into_iter_items c.args.olds.now) + length c.args.items.items = c.loop-count.invariant.4 in
    let olds_less : length (into_iter_items c.loop-count.olds) ≤ length (into_iter_items c.args.olds.now) = c.loop-count.invariant.5 in (
      omega (arith, count, long, dropped),
      omega (arith, items, items_less, less),
      omega (arith, all, all_less, fewer),
      olds_then (proxies_in (gapped_of (take n (into_iter_items c.loop-count.left)))) (proxies_in (gapped_of (into_iter_items c.put_members.new.left))) (proxies_in (gapped_of (into_iter_items c.loop-count.left))) (into_iter_items c.loop-count.olds) (into_iter_items c.put_members.new.olds) olds_are
          (ap (λ (l : List Item). proxies_in (gapped_of (take n (into_iter_items c.loop-count.left))) + proxies_in (gapped_of l)) left_is ∙ proxies-parted n (into_iter_items c.loop-count.left)) ∙ c.loop-count.invariant.3,
      omega (arith, some, most, olds_fewer, bound),
      omega (arith, olds_fewer, olds_less),
      λ drawn marked. interval_added {d = g.D.Disk} c.args.marks.now (into_iter_items c.loop-count.left) (c.loop-count.invariant.6 drawn marked) c.in-Some.holder c.members_end-end.result (c.loop-count.position + c.loop-count.count) (ap (λ (n : ℕ). c.loop-count.position + n) c.loop-count.invariant.0) (let test : 0 < c.loop-count.count = c.loop-count-test.true in omega (arith, test)) (sym c.holder_in.ensures ∙ c.in-Some.is) c.members_end-end.ensures.some c.members_end-end.ensures.within c.members_end-end.ensures.held c.members_end-end.ensures.ends c.in_ok-proxy-in-Some.proxy c.in_ok-proxy-in-Some.ensures.ok
          (into_iter_items c.put_members.new.left) (into_iter_items c.put_members.new.olds) c.add_proxy.new.items.items c.add_proxy.new.proxies left_is olds_are c.in-Ok.ensures.items c.in-Ok.ensures.proxies,
    )

pub items_of-piece_tree-requires : goal.items_of-piece_tree-requires
items_of-piece_tree-requires g t c κs within =
    let w : WalksOn g.D.Disk None (holder_by_marks c.args.marks.now) c.loop-count.position (gapped_of (into_iter_items c.loop-count.left)) (into_iter_items c.loop-count.olds) c.requires.marked.0 c.args.records.now c.loop-count.records c.args.disk.now c.loop-count.disk (gapped_of c.loop-count.made.items) c.args.proxies.now c.loop-count.proxies = c.loop-count.invariant.6 c.requires.marked.0 c.requires.marked.1 in
    let next = tree_many (into_iter_items c.loop-count.left) (into_iter_items c.next_item.new.left) c.in-Tree.tree (c.next_item.ensures ∙ ap (λ (x : Item). x ∷ into_iter_items c.next_item.new.left) c.in-Tree.is) in
    let counted = tree_count (into_iter_items c.loop-count.left) (into_iter_items c.next_item.new.left) c.in-Tree.tree (c.next_item.ensures ∙ ap (λ (x : Item). x ∷ into_iter_items c.next_item.new.left) c.in-Tree.is) in
    let most : item_count (gapped_of (into_iter_items c.loop-count.left)) ≤ item_count (gapped_of c.args.items.items) = c.loop-count.invariant.1 in
    let less : 1 + item_count c.in-Tree.tree.below ≤ item_count (gapped_of c.args.items.items) = omega (arith, counted, most) in
    let all : many (gapped_of (into_iter_items c.loop-count.left)) ≤ many (gapped_of c.args.items.items) = c.loop-count.invariant.2 in
    let few : many (gapped_of c.args.items.items) ≤ 524288 = c.requires.few in
    let small : item_count (gapped_of c.args.items.items) ≤ 1048576 = c.requires.small in
    let fewer : length (into_iter_items c.loop-count.olds) ≤ length (into_iter_items c.args.olds.now) = c.loop-count.invariant.5 in
    let olds : length (into_iter_items c.args.olds.now) ≤ 524288 = c.requires.olds in (
      search rules,
      (within, (((w.put).runs).after, (omega (arith, next, all, few), (omega (arith, counted, most, small), (omega (arith, fewer, olds), tree_can {d = g.D.Disk} c.args.marks.now (w) c.in-Tree.tree (gapped_of (into_iter_items c.next_item.new.left)) c.below_in-below.result.now (tree_gapped (into_iter_items c.loop-count.left) (into_iter_items c.next_item.new.left) c.in-Tree.tree (c.next_item.ensures ∙ ap (λ (x : Item). x ∷ into_iter_items c.next_item.new.left) c.in-Tree.is)) (sym c.holder_in.ensures ∙ c.in-None.is) c.below_in-below.ensures))))),
    )

pub items_of-returns-in_err-tree-in-Tree-clause-still : goal.items_of-returns-in_err-tree-in-Tree-clause-still
items_of-returns-in_err-tree-in-Tree-clause-still g t c = still_then ((c.loop-count.invariant.6 c.requires.marked.0 c.requires.marked.1).put).still c.piece_tree.ensures.still

pub items_of-returns-in_err-tree-in-Tree-clause-refused : goal.items_of-returns-in_err-tree-in-Tree-clause-refused
items_of-returns-in_err-tree-in-Tree-clause-refused g t c =
    err_passed c.from_residual-in_err-tree-in-Tree.result
    (λ (e : StoreError). (drawn : Draft (Unit {0})) → IsMarkedDraft None (holder_by_marks c.args.marks.now) 0 (gapped_of c.args.items.items) (into_iter_items c.args.olds.now) drawn
    → NotStored g.D.Disk (λ was. draft_needs drawn) (λ was. ⊥) 0 e c.args.records.now c.piece_tree.new.records c.args.disk.now c.piece_tree.new.disk)
    c.in_err-tree-in-Tree.field-0.0 (err_from_is_err_and c.from_residual-in_err-tree-in-Tree.result c.from_residual-in_err-tree-in-Tree.ensures.1)
    (λ drawn marked. tree_not {d = g.D.Disk} c.args.marks.now (c.loop-count.invariant.6 drawn marked) c.in-Tree.tree (gapped_of (into_iter_items c.next_item.new.left)) c.below_in-below.result.now (tree_gapped (into_iter_items c.loop-count.left) (into_iter_items c.next_item.new.left) c.in-Tree.tree (c.next_item.ensures ∙ ap (λ (x : Item). x ∷ into_iter_items c.next_item.new.left) c.in-Tree.is)) (sym c.holder_in.ensures ∙ c.in-None.is) c.below_in-below.ensures c.piece_tree.new.records c.piece_tree.new.disk c.in_err-tree-in-Tree.field-0.0 c.in_err-tree-in-Tree.ensures.refused)

pub items_of-returns-in_default-push-clause-still : goal.items_of-returns-in_default-push-clause-still
items_of-returns-in_default-push-clause-still g t c = still_then ((c.loop-count.invariant.6 c.requires.marked.0 c.requires.marked.1).put).still c.piece_tree.ensures.still

pub items_of-returns-in_default-push-clause-refused : goal.items_of-returns-in_default-push-clause-refused
items_of-returns-in_default-push-clause-refused g t c = λ drawn marked. tree_memory {d = g.D.Disk} c.args.marks.now (c.loop-count.invariant.6 drawn marked) c.in-Tree.tree (gapped_of (into_iter_items c.next_item.new.left)) c.below_in-below.result.now (tree_gapped (into_iter_items c.loop-count.left) (into_iter_items c.next_item.new.left) c.in-Tree.tree (c.next_item.ensures ∙ ap (λ (x : Item). x ∷ into_iter_items c.next_item.new.left) c.in-Tree.is)) (sym c.holder_in.ensures ∙ c.in-None.is) c.below_in-below.ensures c.in_ok-tree-in-Tree.tree c.piece_tree.new.proxies c.in_ok-tree-in-Tree.ensures.node c.in_ok-tree-in-Tree.ensures.ok

pub items_of-loop-count-preserved-in-Tree : goal.items_of-loop-count-preserved-in-Tree
items_of-loop-count-preserved-in-Tree g t c =
    let next : (into_iter_items c.loop-count.left) ≡ Tree c.in-Tree.tree ∷ (into_iter_items c.next_item.new.left) = (c.next_item.ensures ∙ ap (λ (x : Item). x ∷ into_iter_items c.next_item.new.left) c.in-Tree.is) in
    let long : length (into_iter_items c.loop-count.left) ≡ length (Tree c.in-Tree.tree ∷ (into_iter_items c.next_item.new.left)) = ap length next in
    let count : c.loop-count.count ≡ length (into_iter_items c.loop-count.left) = c.loop-count.invariant.0 in
    let alls = tree_many (into_iter_items c.loop-count.left) (into_iter_items c.next_item.new.left) c.in-Tree.tree next in
    let counted = tree_count (into_iter_items c.loop-count.left) (into_iter_items c.next_item.new.left) c.in-Tree.tree next in
    let less : item_count (gapped_of (into_iter_items c.loop-count.left)) ≤ item_count (gapped_of c.args.items.items) = c.loop-count.invariant.1 in
    let fewer : many (gapped_of (into_iter_items c.loop-count.left)) ≤ many (gapped_of c.args.items.items) = c.loop-count.invariant.2 in
    let olds_are : into_iter_items c.piece_tree.new.olds ≡ drop (proxies_in c.in-Tree.tree.below) (into_iter_items c.loop-count.olds) = c.in_ok-tree-in-Tree.ensures.olds in
    let olds_fewer = fewer_olds (proxies_in c.in-Tree.tree.below) (into_iter_items c.loop-count.olds) (into_iter_items c.piece_tree.new.olds) olds_are in
    let bound : c.loop-count.position + 65536 * length (into_iter_items c.loop-count.olds) + c.loop-count.count ≤ 65536 * length (into_iter_items c.args.olds.now) + length c.args.items.items = c.loop-count.invariant.4 in
    let olds_less : length (into_iter_items c.loop-count.olds) ≤ length (into_iter_items c.args.olds.now) = c.loop-count.invariant.5 in
    let test : 0 < c.loop-count.count = c.loop-count-test.true in (
      omega (arith, count, long),
      omega (arith, counted, less),
      omega (arith, alls, fewer),
      olds_then (proxies_in c.in-Tree.tree.below) (proxies_in (gapped_of (into_iter_items c.next_item.new.left))) (proxies_in (gapped_of (into_iter_items c.loop-count.left))) (into_iter_items c.loop-count.olds) (into_iter_items c.piece_tree.new.olds) olds_are (sym (ap (λ (l : List Item). proxies_in (gapped_of l)) next)) ∙ c.loop-count.invariant.3,
      omega (arith, olds_fewer, bound, test),
      omega (arith, olds_fewer, olds_less),
      λ drawn marked.
          subst (λ (l : List Proxy). WalksOn g.D.Disk None (holder_by_marks c.args.marks.now) (c.loop-count.position + 1) (gapped_of (into_iter_items c.next_item.new.left)) l drawn c.args.records.now c.piece_tree.new.records c.args.disk.now c.piece_tree.new.disk (gapped_of c.push.new.self.items) c.args.proxies.now c.piece_tree.new.proxies) (sym olds_are)
          (tree_pushed {d = g.D.Disk} c.loop-count.made.items c.push.new.self.items c.in_ok-tree-in-Tree.tree
          (tree_put {d = g.D.Disk} c.args.marks.now (c.loop-count.invariant.6 drawn marked) c.in-Tree.tree (gapped_of (into_iter_items c.next_item.new.left)) c.below_in-below.result.now (tree_gapped (into_iter_items c.loop-count.left) (into_iter_items c.next_item.new.left) c.in-Tree.tree (c.next_item.ensures ∙ ap (λ (x : Item). x ∷ into_iter_items c.next_item.new.left) c.in-Tree.is)) (sym c.holder_in.ensures ∙ c.in-None.is) c.below_in-below.ensures c.in_ok-tree-in-Tree.tree c.piece_tree.new.proxies c.in_ok-tree-in-Tree.ensures.node c.in_ok-tree-in-Tree.ensures.ok) c.in-Ok-push.ensures.items),
    )

pub items_of-keep_run-requires-clause-room : goal.items_of-keep_run-requires-clause-room
items_of-keep_run-requires-clause-room g t c =
    let drawn = c.requires.marked.0 in
    let marked = c.requires.marked.1 in
    run_room {d = g.D.Disk} c.in-Run.run' c.loop-count.position (gapped_of (into_iter_items c.loop-count.left)) (gapped_of (into_iter_items c.next_item.new.left)) (into_iter_items c.loop-count.olds) drawn (gapped_of c.loop-count.made.items) c.args.proxies.now c.loop-count.proxies (c.loop-count.invariant.6 drawn marked) (run_gapped (into_iter_items c.loop-count.left) (into_iter_items c.next_item.new.left) c.in-Run.run' (c.next_item.ensures ∙ ap (λ (x : Item). x ∷ into_iter_items c.next_item.new.left) c.in-Run.is)) (gapped_of c.args.items.items) (into_iter_items c.args.olds.now) 0 None (holder_by_marks c.args.marks.now) marked c.requires.few

pub items_of-keep_run-requires-clause-there : goal.items_of-keep_run-requires-clause-there
items_of-keep_run-requires-clause-there g t c =
    let drawn = c.requires.marked.0 in
    let marked = c.requires.marked.1 in
    run_there {d = g.D.Disk} c.in-Run.run' c.loop-count.position (gapped_of (into_iter_items c.loop-count.left)) (gapped_of (into_iter_items c.next_item.new.left)) (into_iter_items c.loop-count.olds) drawn (gapped_of c.loop-count.made.items) c.args.proxies.now c.loop-count.proxies (c.loop-count.invariant.6 drawn marked) (run_gapped (into_iter_items c.loop-count.left) (into_iter_items c.next_item.new.left) c.in-Run.run' (c.next_item.ensures ∙ ap (λ (x : Item). x ∷ into_iter_items c.next_item.new.left) c.in-Run.is))

pub items_of-returns-in_default-keep_run-clause-still : goal.items_of-returns-in_default-keep_run-clause-still
items_of-returns-in_default-keep_run-clause-still g t c = ((c.loop-count.invariant.6 c.requires.marked.0 c.requires.marked.1).put).still

pub items_of-returns-in_default-keep_run-clause-refused : goal.items_of-returns-in_default-keep_run-clause-refused
items_of-returns-in_default-keep_run-clause-refused g t c = λ drawn marked. let w = c.loop-count.invariant.6 drawn marked in ((w.put).runs, (w.put).keeps)

pub items_of-loop-count-preserved : goal.items_of-loop-count-preserved
items_of-loop-count-preserved g t c =
    let run = c.in-Run.run' in
    let next : (into_iter_items c.loop-count.left) ≡ Run run ∷ (into_iter_items c.next_item.new.left) = (c.next_item.ensures ∙ ap (λ (x : Item). x ∷ into_iter_items c.next_item.new.left) c.in-Run.is) in
    let long : length (into_iter_items c.loop-count.left) ≡ length (Run run ∷ (into_iter_items c.next_item.new.left)) = ap length next in
    let count : c.loop-count.count ≡ length (into_iter_items c.loop-count.left) = c.loop-count.invariant.0 in
    let alls = run_many (into_iter_items c.loop-count.left) (into_iter_items c.next_item.new.left) run next in
    let counted = run_count (into_iter_items c.loop-count.left) (into_iter_items c.next_item.new.left) run next in
    let less : item_count (gapped_of (into_iter_items c.loop-count.left)) ≤ item_count (gapped_of c.args.items.items) = c.loop-count.invariant.1 in
    let fewer : many (gapped_of (into_iter_items c.loop-count.left)) ≤ many (gapped_of c.args.items.items) = c.loop-count.invariant.2 in
    let olds_are : into_iter_items c.keep_run.new.olds ≡ drop run (into_iter_items c.loop-count.olds) = c.in-Ok-keep_run.ensures.olds in
    let olds_fewer = length-drop run (into_iter_items c.loop-count.olds) in
    let olds_length : length (into_iter_items c.keep_run.new.olds) ≡ length (drop run (into_iter_items c.loop-count.olds)) = ap length olds_are in
    let there : run ≤ length (into_iter_items c.loop-count.olds) =
    (let drawn = c.requires.marked.0 in
    let marked = c.requires.marked.1 in
    run_there {d = g.D.Disk} run c.loop-count.position (gapped_of (into_iter_items c.loop-count.left)) (gapped_of (into_iter_items c.next_item.new.left)) (into_iter_items c.loop-count.olds) drawn (gapped_of c.loop-count.made.items) c.args.proxies.now c.loop-count.proxies (c.loop-count.invariant.6 drawn marked) (run_gapped (into_iter_items c.loop-count.left) (into_iter_items c.next_item.new.left) run next)) in
    let few : c.in-Ok-keep_run.roots ≤ 65535 * run = c.in-Ok-keep_run.ensures.few in
    let bound : c.loop-count.position + 65536 * length (into_iter_items c.loop-count.olds) + c.loop-count.count ≤ 65536 * length (into_iter_items c.args.olds.now) + length c.args.items.items = c.loop-count.invariant.4 in
    let olds_less : length (into_iter_items c.loop-count.olds) ≤ length (into_iter_items c.args.olds.now) = c.loop-count.invariant.5 in (
      omega (arith, count, long),
      omega (arith, counted, less),
      omega (arith, alls, fewer),
      olds_then run (proxies_in (gapped_of (into_iter_items c.next_item.new.left))) (proxies_in (gapped_of (into_iter_items c.loop-count.left))) (into_iter_items c.loop-count.olds) (into_iter_items c.keep_run.new.olds) olds_are (sym (ap (λ (l : List Item). proxies_in (gapped_of l)) next)) ∙ c.loop-count.invariant.3,
      omega (arith, olds_fewer, olds_length, bound, there, few, count, long),
      omega (arith, olds_fewer, olds_length, olds_less),
      λ drawn marked. run_step {d = g.D.Disk} run c.loop-count.position (gapped_of (into_iter_items c.loop-count.left)) (gapped_of (into_iter_items c.next_item.new.left)) (into_iter_items c.loop-count.olds) drawn (gapped_of c.loop-count.made.items) c.args.proxies.now c.loop-count.proxies (c.loop-count.invariant.6 drawn marked) (run_gapped (into_iter_items c.loop-count.left) (into_iter_items c.next_item.new.left) run next)
          c.in-Ok-keep_run.roots (into_iter_items c.keep_run.new.olds) (gapped_of c.keep_run.new.items.items) c.keep_run.new.proxies c.in-Ok-keep_run.ensures.roots olds_are c.in-Ok-keep_run.ensures.items c.in-Ok-keep_run.ensures.proxies,
    )

pub items_of-returns-clause-still : goal.items_of-returns-clause-still
items_of-returns-clause-still g t c = ((c.loop-count.invariant.6 c.requires.marked.0 c.requires.marked.1).put).still

pub items_of-returns-clause-ok : goal.items_of-returns-clause-ok
items_of-returns-clause-ok g t c =
    let count : c.loop-count.count ≡ length (into_iter_items c.loop-count.left) = c.loop-count.invariant.0 in
    let test : c.loop-count.count ≤ 0 = c.loop-count-test.false in
    λ drawn marked.
    subst (λ (b : Gapped). PutsRow g.D.Disk c.args.records.now c.loop-count.records c.args.disk.now c.loop-count.disk drawn b c.args.proxies.now c.loop-count.proxies) (sym c.from_vec.ensures)
    (walk_ends {d = g.D.Disk} (c.loop-count.invariant.6 drawn marked) (ap gapped_of (none_left (into_iter_items c.loop-count.left) (omega (arith, count, test)))))

pub gather_piece-loop-position-init : goal.gather_piece-loop-position-init
gather_piece-loop-position-init g t c = (
  omega arith,
  c.requires.order,
  ap (λ (n : ℕ). drop n (into_iter_items c.args.left.now)) (let none : 0 ≡ c.args.first - c.args.first = omega arith in none),
  refl,
  omega arith,
  λ members m.
      subst (λ (b : Gapped). WalksOn g.D.Disk (Some m.index) (holder_by_marks c.args.marks.now) c.args.first (gapped_of (take (c.args.end - c.args.first) (into_iter_items c.args.left.now))) (into_iter_items c.args.olds.now) members c.args.records.now c.args.records.now c.args.disk.now c.args.disk.now b [] c.new-proxies.result)
      (sym c.new-roots.ensures)
      (subst (λ (l : List Proxy). WalksOn g.D.Disk (Some m.index) (holder_by_marks c.args.marks.now) c.args.first (gapped_of (take (c.args.end - c.args.first) (into_iter_items c.args.left.now))) (into_iter_items c.args.olds.now) members c.args.records.now c.args.records.now c.args.disk.now c.args.disk.now End [] l)
      (sym c.new-proxies.ensures)
      (walk_begins {d = g.D.Disk} (Some m.index) (holder_by_marks c.args.marks.now) c.args.first (gapped_of (take (c.args.end - c.args.first) (into_iter_items c.args.left.now))) (into_iter_items c.args.olds.now) members c.args.records.now c.args.disk.now [] c.requires.runs m.marked)),
)

pub gather_piece-next_tree-requires : goal.gather_piece-next_tree-requires
gather_piece-next_tree-requires g t c =
    let members = c.requires.marked.0 in
    let m = c.requires.marked.1 in
    let w : WalksOn g.D.Disk (Some m.index) (holder_by_marks c.args.marks.now) c.loop-position.position (gapped_of (take (c.args.end - c.loop-position.position) (into_iter_items c.loop-position.left))) (into_iter_items c.loop-position.olds) members c.args.records.now c.loop-position.records c.args.disk.now c.loop-position.disk c.loop-position.roots [] c.loop-position.proxies = c.loop-position.invariant.5 members m in
    let long : length (into_iter_items c.loop-position.left) ≡ length (drop (c.loop-position.position - c.args.first) (into_iter_items c.args.left.now)) = ap length c.loop-position.invariant.2 in
    let dropped = length-drop (c.loop-position.position - c.args.first) (into_iter_items c.args.left.now) in
    let within : c.args.end ≤ c.args.first + length (into_iter_items c.args.left.now) = c.requires.within in
    let low : c.args.first ≤ c.loop-position.position = c.loop-position.invariant.0 in
    let test : c.loop-position.position < c.args.end = c.loop-position-test.true in
    next_is_tree {d = g.D.Disk} c.args.marks.now c.args.end (into_iter_items c.loop-position.left) w m.free test (omega (arith, long, dropped, within, low, test))

pub gather_piece-piece_tree-requires : goal.gather_piece-piece_tree-requires
gather_piece-piece_tree-requires g t c κs within =
    let members = c.requires.marked.0 in
    let m = c.requires.marked.1 in
    let w : WalksOn g.D.Disk (Some m.index) (holder_by_marks c.args.marks.now) c.loop-position.position (gapped_of (take (c.args.end - c.loop-position.position) (into_iter_items c.loop-position.left))) (into_iter_items c.loop-position.olds) members c.args.records.now c.loop-position.records c.args.disk.now c.loop-position.disk c.loop-position.roots [] c.loop-position.proxies = c.loop-position.invariant.5 members m in
    let next = tree_many (into_iter_items c.loop-position.left) (into_iter_items c.next_tree.new.left) c.next_tree.result c.next_tree.ensures in
    let counted = tree_count (into_iter_items c.loop-position.left) (into_iter_items c.next_tree.new.left) c.next_tree.result c.next_tree.ensures in
    let at = c.loop-position.position - c.args.first in
    let items : item_count (gapped_of (into_iter_items c.loop-position.left)) ≡ item_count (gapped_of (drop at (into_iter_items c.args.left.now))) = ap (λ (l : List Item). item_count (gapped_of l)) c.loop-position.invariant.2 in
    let items_less = count-drop at (into_iter_items c.args.left.now) in
    let all : many (gapped_of (into_iter_items c.loop-position.left)) ≡ many (gapped_of (drop at (into_iter_items c.args.left.now))) = ap (λ (l : List Item). many (gapped_of l)) c.loop-position.invariant.2 in
    let all_less = many-drop at (into_iter_items c.args.left.now) in
    let less : 1 + item_count c.next_tree.result.below ≤ item_count (gapped_of (into_iter_items c.args.left.now)) = omega (arith, counted, items, items_less) in
    let few : many (gapped_of (into_iter_items c.args.left.now)) ≤ 524288 = c.requires.few in
    let small : item_count (gapped_of (into_iter_items c.args.left.now)) ≤ 1048576 = c.requires.small in
    let fewer : length (into_iter_items c.loop-position.olds) ≤ length (into_iter_items c.args.olds.now) = c.loop-position.invariant.4 in
    let olds : length (into_iter_items c.args.olds.now) ≤ 524288 = c.requires.olds in (
      search rules,
      (within, (((w.put).runs).after, (omega (arith, next, all, all_less, few), (omega (arith, less, small), (omega (arith, fewer, olds), member_can {d = g.D.Disk} c.args.marks.now (w) m.free c.next_tree.result (gapped_of (take (c.args.end - (c.loop-position.position + 1)) (into_iter_items c.next_tree.new.left))) c.below_in-below.result.now (ap gapped_of (take_next (into_iter_items c.loop-position.left) (into_iter_items c.next_tree.new.left) (Tree c.next_tree.result) c.loop-position.position c.args.end c.loop-position-test.true c.next_tree.ensures)) c.below_in-below.ensures))))),
    )

pub gather_piece-returns-in_err-made-clause-still : goal.gather_piece-returns-in_err-made-clause-still
gather_piece-returns-in_err-made-clause-still g t c = still_then ((c.loop-position.invariant.5 c.requires.marked.0 c.requires.marked.1).put).still c.piece_tree.ensures.still

pub gather_piece-returns-in_err-made-clause-refused : goal.gather_piece-returns-in_err-made-clause-refused
gather_piece-returns-in_err-made-clause-refused g t c =
    err_passed c.from_residual.result
    (λ (e : StoreError). (members : Draft (Unit {0})) → AreMarkedMembers (holder_by_marks c.args.marks.now) c.args.first (gapped_of (take (c.args.end - c.args.first) (into_iter_items c.args.left.now))) (into_iter_items c.args.olds.now) members
    → NotStored g.D.Disk (λ was. draft_needs members) (λ was. ⊥) 0 e c.args.records.now c.piece_tree.new.records c.args.disk.now c.piece_tree.new.disk)
    c.in_err-made.field-0.0 (err_from_is_err_and c.from_residual.result c.from_residual.ensures.1)
    (λ members m. member_not {d = g.D.Disk} c.args.marks.now (c.loop-position.invariant.5 members m) m.free c.next_tree.result (gapped_of (take (c.args.end - (c.loop-position.position + 1)) (into_iter_items c.next_tree.new.left))) c.below_in-below.result.now (ap gapped_of (take_next (into_iter_items c.loop-position.left) (into_iter_items c.next_tree.new.left) (Tree c.next_tree.result) c.loop-position.position c.args.end c.loop-position-test.true c.next_tree.ensures)) c.below_in-below.ensures c.piece_tree.new.records c.piece_tree.new.disk c.in_err-made.field-0.0 c.in_err-made.ensures.refused)

pub gather_piece-returns-in_default-clause-still : goal.gather_piece-returns-in_default-clause-still
gather_piece-returns-in_default-clause-still g t c = still_then ((c.loop-position.invariant.5 c.requires.marked.0 c.requires.marked.1).put).still c.piece_tree.ensures.still

pub gather_piece-returns-in_default-clause-refused : goal.gather_piece-returns-in_default-clause-refused
gather_piece-returns-in_default-clause-refused g t c = λ members m. member_memory {d = g.D.Disk} c.args.marks.now (c.loop-position.invariant.5 members m) m.free c.next_tree.result (gapped_of (take (c.args.end - (c.loop-position.position + 1)) (into_iter_items c.next_tree.new.left))) c.below_in-below.result.now (ap gapped_of (take_next (into_iter_items c.loop-position.left) (into_iter_items c.next_tree.new.left) (Tree c.next_tree.result) c.loop-position.position c.args.end c.loop-position-test.true c.next_tree.ensures)) c.below_in-below.ensures c.in_ok-made.made c.piece_tree.new.proxies c.in_ok-made.ensures.node c.in_ok-made.ensures.ok

pub gather_piece-loop-position-preserved : goal.gather_piece-loop-position-preserved
gather_piece-loop-position-preserved g t c =
    let low : c.args.first ≤ c.loop-position.position = c.loop-position.invariant.0 in
    let high : c.loop-position.position < c.args.end = c.loop-position-test.true in
    let olds_are : into_iter_items c.piece_tree.new.olds ≡ drop (proxies_in c.next_tree.result.below) (into_iter_items c.loop-position.olds) = c.in_ok-made.ensures.olds in
    let olds_fewer = fewer_olds (proxies_in c.next_tree.result.below) (into_iter_items c.loop-position.olds) (into_iter_items c.piece_tree.new.olds) olds_are in
    let olds_less : length (into_iter_items c.loop-position.olds) ≤ length (into_iter_items c.args.olds.now) = c.loop-position.invariant.4 in (
      omega (arith, low),
      omega (arith, high),
      member_left (into_iter_items c.args.left.now) (into_iter_items c.loop-position.left) (c.loop-position.position - c.args.first) c.loop-position.invariant.2 (Tree c.next_tree.result) (into_iter_items c.next_tree.new.left) c.next_tree.ensures c.loop-position.position c.args.first low refl,
      olds_then (proxies_in c.next_tree.result.below) (proxies_in (gapped_of (take (c.args.end - (c.loop-position.position + 1)) (into_iter_items c.next_tree.new.left)))) (proxies_in (gapped_of (take (c.args.end - c.loop-position.position) (into_iter_items c.loop-position.left)))) (into_iter_items c.loop-position.olds) (into_iter_items c.piece_tree.new.olds) olds_are
          (sym (ap proxies_in (ap gapped_of (take_next (into_iter_items c.loop-position.left) (into_iter_items c.next_tree.new.left) (Tree c.next_tree.result) c.loop-position.position c.args.end c.loop-position-test.true c.next_tree.ensures)))) ∙ c.loop-position.invariant.3,
      omega (arith, olds_fewer, olds_less),
      λ members m.
          subst (λ (l : List Proxy). WalksOn g.D.Disk (Some m.index) (holder_by_marks c.args.marks.now) (c.loop-position.position + 1) (gapped_of (take (c.args.end - (c.loop-position.position + 1)) (into_iter_items c.next_tree.new.left))) l members c.args.records.now c.piece_tree.new.records c.args.disk.now c.piece_tree.new.disk c.push.new.self [] c.piece_tree.new.proxies) (sym olds_are)
          (subst (λ (b : Gapped). WalksOn g.D.Disk (Some m.index) (holder_by_marks c.args.marks.now) (c.loop-position.position + 1) (gapped_of (take (c.args.end - (c.loop-position.position + 1)) (into_iter_items c.next_tree.new.left))) (drop (proxies_in c.next_tree.result.below) (into_iter_items c.loop-position.olds)) members c.args.records.now c.piece_tree.new.records c.args.disk.now c.piece_tree.new.disk b [] c.piece_tree.new.proxies) (sym c.in-Ok.ensures.ok)
          (member_put {d = g.D.Disk} c.args.marks.now (c.loop-position.invariant.5 members m) m.free c.next_tree.result (gapped_of (take (c.args.end - (c.loop-position.position + 1)) (into_iter_items c.next_tree.new.left))) c.below_in-below.result.now (ap gapped_of (take_next (into_iter_items c.loop-position.left) (into_iter_items c.next_tree.new.left) (Tree c.next_tree.result) c.loop-position.position c.args.end c.loop-position-test.true c.next_tree.ensures)) c.below_in-below.ensures c.in_ok-made.made c.piece_tree.new.proxies c.in_ok-made.ensures.node c.in_ok-made.ensures.ok)),
    )

pub gather_piece-returns-clause-still : goal.gather_piece-returns-clause-still
gather_piece-returns-clause-still g t c = ((c.loop-position.invariant.5 c.requires.marked.0 c.requires.marked.1).put).still

pub gather_piece-returns-clause-valid : goal.gather_piece-returns-clause-valid
gather_piece-returns-clause-valid g t c =
    let members = c.requires.marked.0 in
    let m = c.requires.marked.1 in
    let w : WalksOn g.D.Disk (Some m.index) (holder_by_marks c.args.marks.now) c.loop-position.position (gapped_of (take (c.args.end - c.loop-position.position) (into_iter_items c.loop-position.left))) (into_iter_items c.loop-position.olds) members c.args.records.now c.loop-position.records c.args.disk.now c.loop-position.disk c.loop-position.roots [] c.loop-position.proxies = c.loop-position.invariant.5 members m in
    let few : many (gapped_of (into_iter_items c.args.left.now)) ≤ 524288 = c.requires.few in
    let less = many-take (c.args.end - c.args.first) (into_iter_items c.args.left.now) in
    piece_can {d = g.D.Disk} c.args.marks.now w (ap gapped_of (take_none (into_iter_items c.loop-position.left) c.loop-position.position c.args.end c.loop-position-test.false)) c.args.first (gapped_of (take (c.args.end - c.args.first) (into_iter_items c.args.left.now))) (into_iter_items c.args.olds.now) m (omega (arith, few, less))

pub gather_piece-returns-clause-near : goal.gather_piece-returns-clause-near
gather_piece-returns-clause-near g t c =
    let members = c.requires.marked.0 in
    let m = c.requires.marked.1 in
    let w : WalksOn g.D.Disk (Some m.index) (holder_by_marks c.args.marks.now) c.loop-position.position (gapped_of (take (c.args.end - c.loop-position.position) (into_iter_items c.loop-position.left))) (into_iter_items c.loop-position.olds) members c.args.records.now c.loop-position.records c.args.disk.now c.loop-position.disk c.loop-position.roots [] c.loop-position.proxies = c.loop-position.invariant.5 members m in
    piece_near {d = g.D.Disk} c.args.marks.now w (ap gapped_of (take_none (into_iter_items c.loop-position.left) c.loop-position.position c.args.end c.loop-position-test.false)) c.args.first (gapped_of (take (c.args.end - c.args.first) (into_iter_items c.args.left.now))) (into_iter_items c.args.olds.now) m

pub gather_piece-returns-clause-ok : goal.gather_piece-returns-clause-ok
gather_piece-returns-clause-ok g t c =
    all_gathered g.D.Disk c.args.marks.now (gapped_of (take (c.args.end - c.args.first) (into_iter_items c.args.left.now))) (gapped_of (take (c.args.end - c.loop-position.position) (into_iter_items c.loop-position.left))) (into_iter_items c.args.olds.now) (into_iter_items c.loop-position.olds) c.args.first c.loop-position.position c.loop-position.roots c.loop-position.proxies c.args.records.now c.loop-position.records c.args.disk.now c.loop-position.disk
    c.loop-position.invariant.5 (ap gapped_of (take_none (into_iter_items c.loop-position.left) c.loop-position.position c.args.end c.loop-position-test.false))

pub put_members-returns-in_err-piece-clause-refused : goal.put_members-returns-in_err-piece-clause-refused
put_members-returns-in_err-piece-clause-refused g t c =
    err_passed c.from_residual.result
    (λ (e : StoreError). (members : Draft (Unit {0})) → AreMarkedMembers (holder_by_marks c.args.marks.now) c.args.first (gapped_of (take (c.args.end - c.args.first) (into_iter_items c.args.left.now))) (into_iter_items c.args.olds.now) members
    → NotStored g.D.Disk (λ was. draft_needs (Comes tt members Ends)) (λ was. ⊥) 0 e c.args.records.now c.gather_piece.new.records c.args.disk.now c.gather_piece.new.disk)
    c.in_err-piece.field-0.0 (err_from_is_err_and c.from_residual.result c.from_residual.ensures.1)
    (λ members m. needs_fewer g.D.Disk c.args.records.now c.gather_piece.new.records c.args.disk.now c.gather_piece.new.disk (draft_needs members) (draft_needs (Comes tt members Ends)) (omega arith) c.in_err-piece.field-0.0 (c.in_err-piece.ensures.refused members m))

pub put_members-returns-clause-still : goal.put_members-returns-clause-still
put_members-returns-clause-still g t c = still_then c.gather_piece.ensures.still c.add_piece.ensures.still

pub put_members-returns-clause-ok : goal.put_members-returns-clause-ok
put_members-returns-clause-ok g t c =
    put_done g.D.Disk c.args.marks.now (gapped_of (take (c.args.end - c.args.first) (into_iter_items c.args.left.now))) (into_iter_items c.args.olds.now) c.args.first c.in_ok-piece.piece c.args.records.now c.gather_piece.new.records c.add_piece.new.records c.args.disk.now c.gather_piece.new.disk c.add_piece.new.disk
    c.in_ok-piece.ensures.ok c.add_piece.result c.add_piece.ensures.roots c.add_piece.ensures.adds c.add_piece.ensures.keeps c.add_piece.ensures.still

pub put_members-returns-clause-refused : goal.put_members-returns-clause-refused
put_members-returns-clause-refused g t c =
    put_not g.D.Disk c.args.marks.now (gapped_of (take (c.args.end - c.args.first) (into_iter_items c.args.left.now))) (into_iter_items c.args.olds.now) c.args.first c.in_ok-piece.piece c.args.records.now c.gather_piece.new.records c.add_piece.new.records c.args.disk.now c.gather_piece.new.disk c.add_piece.new.disk
    c.in_ok-piece.ensures.ok c.add_piece.result c.add_piece.ensures.refused
