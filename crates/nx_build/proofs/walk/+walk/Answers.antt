use Rattle.std.proofs.Common.{rules, ◌≡◌, ◌+◌, ◌-◌, ◌≤◌, ◌<◌, [], List, length, take, drop, None, Some, sym, ap, ◌∙◌, subst, arith, ℕ, refl}
use Rattle.std.specs.Vec.Iter.{into_iter_items}
use Rattle.std.proofs.lemmas.Result.{err_from_is_err_and}
use Rattle.nx_host.proofs.DiskLemmas.{still_then}
use Rattle.nx_tree.specs.declared.node.Node.{Node}
use Rattle.nx_tree.specs.Forest.{OrderedTree, Forest, forest_of}
use Rattle.nx_tree.specs.Document.{depth}
use Rattle.nx_parts.specs.Marks.{holder_by_marks}
use Rattle.nx_records.specs.declared.error.StoreError.{StoreError}
use Rattle.nx_records.specs.Refusals.{NotStored}
use Rattle.nx_records.proofs.RefusalLemmas.{err_passed}
use Rattle.nx_piece.specs.declared.piece.Item.{Item}
use Rattle.nx_piece.specs.declared.piece.Proxy.{Proxy}
use Rattle.nx_piece.specs.PieceNode.{PieceNode}
use Rattle.nx_piece.specs.Gapped.{Gapped, GappedTree, End, Grow}
use Rattle.nx_piece.specs.Items.{gapped_of}
use Rattle.nx_cuts.specs.Cut.{CutForest, Bare, Grown}
use Rattle.nx_hold.specs.Contents.{content_pages}
use Rattle.nx_build.specs.Marked.{IsMarked, AreMembers}
use Rattle.nx_build.specs.Laying.{drawn_needs, proxy_count, LaysTrees}
use Rattle.nx_build.proofs.LeftLemmas.{first_few, many_left, few_left, short_left, depth_left, none_left, next_left, next_few, next_short, next_depth, behind_left, member_left, take_next, take_none}
use Rattle.nx_build.proofs.WalkLemmas.{WalksOn, walk_begins, walk_ends}
use Rattle.nx_build.proofs.StepLemmas.{none_marked, some_marked, tree_can, tree_not, tree_laid, tree_memory, tree_pushed, interval_can, interval_not, interval_room, interval_memory, interval_added, member_can, member_not, member_laid, member_memory, gathered_near, piece_can, put_laid, put_not}
use Rattle.nx_build.proofs.TreeLemmas.{node_refused, below_refused, tree_lays}
use Rattle.nx_build.proofs.walk.+walk.Goals as goal

pub piece_tree-returns-in_err-made-clause-refused : goal.piece_tree-returns-in_err-made-clause-refused
piece_tree-returns-in_err-made-clause-refused g t c =
    err_passed c.from_residual.result
    (λ (e : StoreError). (drawn : CutForest) → IsMarked None (holder_by_marks c.args.marks.now) 0 c.args.tree.below drawn
    → NotStored g.D.Disk (λ was. content_pages c.args.tree.node + drawn_needs drawn) (λ was. ⊥) 0 e c.args.records.now c.hold_node.new.records c.args.disk.now c.hold_node.new.disk)
    c.in_err-made.field-0.0 (err_from_is_err_and c.from_residual.result c.from_residual.ensures.1)
    (λ drawn marked.
    subst (λ (n : Node). NotStored g.D.Disk (λ was. content_pages n + drawn_needs drawn) (λ was. ⊥) 0 c.in_err-made.field-0.0 c.args.records.now c.hold_node.new.records c.args.disk.now c.hold_node.new.disk)
    (ap (λ (x : OrderedTree). x.node) c.tree.view_is)
    (node_refused g.D.Disk c.args.records.now c.hold_node.new.records c.args.disk.now c.hold_node.new.disk c.tree.inside.node drawn c.in_err-made.field-0.0 c.in_err-made.ensures.refused))

pub piece_tree-returns-in_err-made-inside-clause-refused : goal.piece_tree-returns-in_err-made-inside-clause-refused
piece_tree-returns-in_err-made-inside-clause-refused g t c =
    let opened = c.into_vec.ensures in
    let told = c.children.view_is in
    let inside : c.tree.inside.children ≡ c.args.tree.below = ap (λ (x : OrderedTree). x.below) c.tree.view_is in
    let below : forest_of c.into_vec.result.items ≡ c.args.tree.below = cc in
    err_passed c.from_residual-in_err-made-inside.result
    (λ (e : StoreError). (drawn : CutForest) → IsMarked None (holder_by_marks c.args.marks.now) 0 c.args.tree.below drawn
    → NotStored g.D.Disk (λ was. content_pages c.args.tree.node + drawn_needs drawn) (λ was. ⊥) 0 e c.args.records.now c.items_of.new.records c.args.disk.now c.items_of.new.disk)
    c.in_err-made-inside.field-0.0 (err_from_is_err_and c.from_residual-in_err-made-inside.result c.from_residual-in_err-made-inside.ensures.1)
    (λ drawn marked.
    subst (λ (n : Node). NotStored g.D.Disk (λ was. content_pages n + drawn_needs drawn) (λ was. ⊥) 0 c.in_err-made-inside.field-0.0 c.args.records.now c.items_of.new.records c.args.disk.now c.items_of.new.disk)
    (ap (λ (x : OrderedTree). x.node) c.tree.view_is)
    (below_refused {d = g.D.Disk} c.tree.inside.node c.in_ok-made.made c.in_ok-made.ensures.item c.in_ok-made.ensures.ok c.in_ok-made.ensures.keeps c.hold_node.ensures.still c.items_of.new.records c.items_of.new.disk drawn
    c.in_err-made-inside.field-0.0 (c.in_err-made-inside.ensures.refused drawn (subst (λ (f : Forest). IsMarked None (holder_by_marks c.args.marks.now) 0 f drawn) (sym below) marked))))

pub piece_tree-returns-clause-ok : goal.piece_tree-returns-clause-ok
piece_tree-returns-clause-ok g t c = λ drawn marked.
    let opened = c.into_vec.ensures in
    let told = c.children.view_is in
    let inside : c.tree.inside.children ≡ c.args.tree.below = ap (λ (x : OrderedTree). x.below) c.tree.view_is in
    let below : forest_of c.into_vec.result.items ≡ c.args.tree.below = cc in
    subst (λ (n : PieceNode). LaysTrees g.D.Disk c.args.records.now c.items_of.new.records c.args.disk.now c.items_of.new.disk (Grown c.args.tree.node drawn Bare) (Grow n c.in_ok-made-inside.field-0 End) c.args.proxies.now c.items_of.new.proxies)
    (sym (ap (λ (x : GappedTree). x.node) c.made.view_is))
    (subst (λ (n : Node). LaysTrees g.D.Disk c.args.records.now c.items_of.new.records c.args.disk.now c.items_of.new.disk (Grown n drawn Bare) (Grow c.in_ok-made.made.node c.in_ok-made-inside.field-0 End) c.args.proxies.now c.items_of.new.proxies)
    (ap (λ (x : OrderedTree). x.node) c.tree.view_is)
    (tree_lays {d = g.D.Disk} c.tree.inside.node c.in_ok-made.made c.in_ok-made.ensures.item c.in_ok-made.ensures.ok c.in_ok-made.ensures.keeps c.hold_node.ensures.still drawn c.in_ok-made-inside.field-0 c.args.proxies.now c.items_of.new.proxies
    c.in_ok-made.ensures.near (c.in_ok-made-inside.ensures.ok drawn (subst (λ (f : Forest). IsMarked None (holder_by_marks c.args.marks.now) 0 f drawn) (sym below) marked))))

pub items_of-loop-position-init : goal.items_of-loop-position-init
items_of-loop-position-init g t c = (
  c.into_iter-rest.ensures.rest,
  λ drawn marked.
      subst (λ (xs : List Item). WalksOn g.D.Disk None (holder_by_marks c.args.marks.now) 0 (into_iter_items c.into_iter-rest.result) drawn c.args.records.now c.args.records.now c.args.disk.now c.args.disk.now (gapped_of xs) c.args.proxies.now c.args.proxies.now)
      (sym c.new-items.ensures.items)
      (subst (λ (l : List OrderedTree). WalksOn g.D.Disk None (holder_by_marks c.args.marks.now) 0 l drawn c.args.records.now c.args.records.now c.args.disk.now c.args.disk.now End c.args.proxies.now c.args.proxies.now) (sym c.into_iter-rest.ensures.rest)
      (walk_begins {d = g.D.Disk} None (holder_by_marks c.args.marks.now) 0 c.args.trees.items drawn c.args.records.now c.args.disk.now c.args.proxies.now c.requires.runs marked)),
)

pub items_of-piece_tree-requires : goal.items_of-piece_tree-requires
items_of-piece_tree-requires g t c κs within =
    let drawn = c.requires.marked.0 in
    let w : WalksOn g.D.Disk None (holder_by_marks c.args.marks.now) c.loop-position.position (into_iter_items c.loop-position.rest) drawn c.args.records.now c.loop-position.records c.args.disk.now c.loop-position.disk (gapped_of c.loop-position.items.items) c.args.proxies.now c.loop-position.proxies = c.loop-position.invariant.1 drawn c.requires.marked.1 in
    let less : 1 + depth c.next_tree-tree.result.below ≤ depth (forest_of c.args.trees.items) = next_depth c.args.trees.items (into_iter_items c.loop-position.rest) c.loop-position.position c.loop-position.invariant.0 c.next_tree-tree.result (into_iter_items c.next_tree-tree.new.trees) c.next_tree-tree.ensures in (
      search rules,
      (
        within,
        (
          ((w.laid).runs).after,
          (
            next_few c.args.trees.items (into_iter_items c.loop-position.rest) c.loop-position.position c.loop-position.invariant.0 c.next_tree-tree.result (into_iter_items c.next_tree-tree.new.trees) c.next_tree-tree.ensures c.requires.few,
            (
              next_short c.args.trees.items (into_iter_items c.loop-position.rest) c.loop-position.position c.loop-position.invariant.0 c.next_tree-tree.result (into_iter_items c.next_tree-tree.new.trees) c.next_tree-tree.ensures c.requires.short,
              tree_can {d = g.D.Disk} c.args.marks.now w c.next_tree-tree.result (into_iter_items c.next_tree-tree.new.trees) c.below_in-below.result.now c.next_tree-tree.ensures (none_marked c.args.marks.now c.loop-position.position c.holder_in.result c.holder_in.ensures c.in-None.is) c.below_in-below.ensures,
            ),
          ),
        ),
      ),
    )

pub items_of-returns-in_err-made-in-None-clause-refused : goal.items_of-returns-in_err-made-in-None-clause-refused
items_of-returns-in_err-made-in-None-clause-refused g t c =
    err_passed c.from_residual.result
    (λ (e : StoreError). (drawn : CutForest) → IsMarked None (holder_by_marks c.args.marks.now) 0 (forest_of c.args.trees.items) drawn
    → NotStored g.D.Disk (λ was. drawn_needs drawn) (λ was. ⊥) 0 e c.args.records.now c.piece_tree.new.records c.args.disk.now c.piece_tree.new.disk)
    c.in_err-made-in-None.field-0.0 (err_from_is_err_and c.from_residual.result c.from_residual.ensures.1)
    (λ drawn marked.
    tree_not {d = g.D.Disk} c.args.marks.now (c.loop-position.invariant.1 drawn marked) c.next_tree-tree.result (into_iter_items c.next_tree-tree.new.trees) c.below_in-below.result.now c.next_tree-tree.ensures (none_marked c.args.marks.now c.loop-position.position c.holder_in.result c.holder_in.ensures c.in-None.is) c.below_in-below.ensures
    c.piece_tree.new.records c.piece_tree.new.disk c.in_err-made-in-None.field-0.0 c.in_err-made-in-None.ensures.refused)

pub items_of-returns-in_default-clause-refused : goal.items_of-returns-in_default-clause-refused
items_of-returns-in_default-clause-refused g t c = λ drawn marked.
    tree_memory {d = g.D.Disk} c.args.marks.now (c.loop-position.invariant.1 drawn marked) c.next_tree-tree.result (into_iter_items c.next_tree-tree.new.trees) c.below_in-below.result.now c.next_tree-tree.ensures (none_marked c.args.marks.now c.loop-position.position c.holder_in.result c.holder_in.ensures c.in-None.is) c.below_in-below.ensures
    c.in_ok-made-in-None.made c.piece_tree.new.proxies c.in_ok-made-in-None.ensures.ok

pub items_of-loop-position-preserved-in-None : goal.items_of-loop-position-preserved-in-None
items_of-loop-position-preserved-in-None g t c = (
  next_left c.args.trees.items (into_iter_items c.loop-position.rest) c.loop-position.position c.loop-position.invariant.0 c.next_tree-tree.result (into_iter_items c.next_tree-tree.new.trees) c.next_tree-tree.ensures,
  λ drawn marked.
      tree_pushed {d = g.D.Disk} c.loop-position.items.items c.push.new.self.items c.in_ok-made-in-None.made
      (tree_laid {d = g.D.Disk} c.args.marks.now (c.loop-position.invariant.1 drawn marked) c.next_tree-tree.result (into_iter_items c.next_tree-tree.new.trees) c.below_in-below.result.now c.next_tree-tree.ensures (none_marked c.args.marks.now c.loop-position.position c.holder_in.result c.holder_in.ensures c.in-None.is) c.below_in-below.ensures
      c.in_ok-made-in-None.made c.piece_tree.new.proxies c.in_ok-made-in-None.ensures.ok)
      c.in-Ok.ensures.items,
)

pub items_of-put_members-requires : goal.items_of-put_members-requires
items_of-put_members-requires g t c κs within =
    let whole : c.len-len.result ≡ length c.args.trees.items = omega (arith, c.len-len.ensures, c.args.trees.ok.0) in
    let many : c.len-len.result ≡ c.loop-position.position + length (into_iter_items c.loop-position.rest) = whole ∙ many_left c.args.trees.items (into_iter_items c.loop-position.rest) c.loop-position.position c.loop-position.invariant.0 (omega (arith, whole, c.loop-position-test.true)) in
    let drawn = c.requires.marked.0 in
    let w : WalksOn g.D.Disk None (holder_by_marks c.args.marks.now) c.loop-position.position (into_iter_items c.loop-position.rest) drawn c.args.records.now c.loop-position.records c.args.disk.now c.loop-position.disk (gapped_of c.loop-position.items.items) c.args.proxies.now c.loop-position.proxies = c.loop-position.invariant.1 drawn c.requires.marked.1 in
    let less : depth (forest_of (into_iter_items c.loop-position.rest)) ≤ depth (forest_of c.args.trees.items) = depth_left c.args.trees.items (into_iter_items c.loop-position.rest) c.loop-position.position c.loop-position.invariant.0 in (
      search rules,
      (
        within,
        (
          ((w.laid).runs).after,
          (
            few_left c.args.trees.items (into_iter_items c.loop-position.rest) c.loop-position.position c.loop-position.invariant.0 c.requires.few,
            (
              short_left c.args.trees.items (into_iter_items c.loop-position.rest) c.loop-position.position c.loop-position.invariant.0 c.requires.short,
              (
                (let some : c.loop-position.position < c.members_end-end.result = c.members_end-end.ensures.some in omega (arith, some)),
                (
                  (let most : c.members_end-end.result ≤ c.len-len.result = c.members_end-end.ensures.within in omega (arith, most, many)),
                  interval_can {d = g.D.Disk} c.args.marks.now w c.in-Some.holder c.members_end-end.result c.len-len.result many c.loop-position-test.true (some_marked c.args.marks.now c.loop-position.position c.in-Some.holder c.holder_in.result c.holder_in.ensures c.in-Some.is)
                      c.members_end-end.ensures.some c.members_end-end.ensures.within c.members_end-end.ensures.held c.members_end-end.ensures.ends,
                ),
              ),
            ),
          ),
        ),
      ),
    )

pub items_of-returns-in_err-proxy-in-Some-clause-refused : goal.items_of-returns-in_err-proxy-in-Some-clause-refused
items_of-returns-in_err-proxy-in-Some-clause-refused g t c =
    let whole : c.len-len.result ≡ length c.args.trees.items = omega (arith, c.len-len.ensures, c.args.trees.ok.0) in
    let many : c.len-len.result ≡ c.loop-position.position + length (into_iter_items c.loop-position.rest) = whole ∙ many_left c.args.trees.items (into_iter_items c.loop-position.rest) c.loop-position.position c.loop-position.invariant.0 (omega (arith, whole, c.loop-position-test.true)) in
    err_passed c.from_residual-in_err-proxy-in-Some.result
    (λ (e : StoreError). (drawn : CutForest) → IsMarked None (holder_by_marks c.args.marks.now) 0 (forest_of c.args.trees.items) drawn
    → NotStored g.D.Disk (λ was. drawn_needs drawn) (λ was. ⊥) 0 e c.args.records.now c.put_members.new.records c.args.disk.now c.put_members.new.disk)
    c.in_err-proxy-in-Some.field-0.0 (err_from_is_err_and c.from_residual-in_err-proxy-in-Some.result c.from_residual-in_err-proxy-in-Some.ensures.1)
    (λ drawn marked.
    interval_not {d = g.D.Disk} c.args.marks.now (c.loop-position.invariant.1 drawn marked) c.in-Some.holder c.members_end-end.result c.len-len.result many c.loop-position-test.true (some_marked c.args.marks.now c.loop-position.position c.in-Some.holder c.holder_in.result c.holder_in.ensures c.in-Some.is)
    c.members_end-end.ensures.some c.members_end-end.ensures.within c.members_end-end.ensures.held c.members_end-end.ensures.ends
    c.put_members.new.records c.put_members.new.disk c.in_err-proxy-in-Some.field-0.0 c.in_err-proxy-in-Some.ensures.refused)

pub items_of-add_proxy-requires : goal.items_of-add_proxy-requires
items_of-add_proxy-requires g t c =
    let whole : c.len-len.result ≡ length c.args.trees.items = omega (arith, c.len-len.ensures, c.args.trees.ok.0) in
    let many : c.len-len.result ≡ c.loop-position.position + length (into_iter_items c.loop-position.rest) = whole ∙ many_left c.args.trees.items (into_iter_items c.loop-position.rest) c.loop-position.position c.loop-position.invariant.0 (omega (arith, whole, c.loop-position-test.true)) in
    let drawn = c.requires.marked.0 in
    let marked = c.requires.marked.1 in
    interval_room {d = g.D.Disk} c.args.marks.now (c.loop-position.invariant.1 drawn marked) c.in-Some.holder c.members_end-end.result c.len-len.result many c.loop-position-test.true (some_marked c.args.marks.now c.loop-position.position c.in-Some.holder c.holder_in.result c.holder_in.ensures c.in-Some.is)
    c.members_end-end.ensures.some c.members_end-end.ensures.within c.members_end-end.ensures.held c.members_end-end.ensures.ends (forest_of c.args.trees.items) marked c.requires.few

pub items_of-returns-in_default-add_proxy-clause-refused : goal.items_of-returns-in_default-add_proxy-clause-refused
items_of-returns-in_default-add_proxy-clause-refused g t c =
    let whole : c.len-len.result ≡ length c.args.trees.items = omega (arith, c.len-len.ensures, c.args.trees.ok.0) in
    let many : c.len-len.result ≡ c.loop-position.position + length (into_iter_items c.loop-position.rest) = whole ∙ many_left c.args.trees.items (into_iter_items c.loop-position.rest) c.loop-position.position c.loop-position.invariant.0 (omega (arith, whole, c.loop-position-test.true)) in
    λ drawn marked.
    interval_memory {d = g.D.Disk} c.args.marks.now (c.loop-position.invariant.1 drawn marked) c.in-Some.holder c.members_end-end.result c.len-len.result many c.loop-position-test.true (some_marked c.args.marks.now c.loop-position.position c.in-Some.holder c.holder_in.result c.holder_in.ensures c.in-Some.is)
    c.members_end-end.ensures.some c.members_end-end.ensures.within c.members_end-end.ensures.held c.members_end-end.ensures.ends c.in_ok-proxy-in-Some.proxy c.in_ok-proxy-in-Some.ensures.ok

pub items_of-loop-position-preserved : goal.items_of-loop-position-preserved
items_of-loop-position-preserved g t c =
    let whole : c.len-len.result ≡ length c.args.trees.items = omega (arith, c.len-len.ensures, c.args.trees.ok.0) in
    let many : c.len-len.result ≡ c.loop-position.position + length (into_iter_items c.loop-position.rest) = whole ∙ many_left c.args.trees.items (into_iter_items c.loop-position.rest) c.loop-position.position c.loop-position.invariant.0 (omega (arith, whole, c.loop-position-test.true)) in (
      behind_left c.args.trees.items (into_iter_items c.loop-position.rest) c.loop-position.position c.loop-position.invariant.0 (into_iter_items c.put_members.new.trees) c.members_end-end.result (let some : c.loop-position.position < c.members_end-end.result = c.members_end-end.ensures.some in omega (arith, some)) c.in_ok-proxy-in-Some.ensures.rest,
      λ drawn marked.
          interval_added {d = g.D.Disk} c.args.marks.now (c.loop-position.invariant.1 drawn marked) c.in-Some.holder c.members_end-end.result c.len-len.result many c.loop-position-test.true (some_marked c.args.marks.now c.loop-position.position c.in-Some.holder c.holder_in.result c.holder_in.ensures c.in-Some.is)
          c.members_end-end.ensures.some c.members_end-end.ensures.within c.members_end-end.ensures.held c.members_end-end.ensures.ends c.in_ok-proxy-in-Some.proxy c.in_ok-proxy-in-Some.ensures.ok
          (into_iter_items c.put_members.new.trees) c.add_proxy.new.items.items c.add_proxy.new.proxies c.in_ok-proxy-in-Some.ensures.rest c.in-Ok-add_proxy.ensures.items c.in-Ok-add_proxy.ensures.proxies,
    )

pub items_of-returns-clause-ok : goal.items_of-returns-clause-ok
items_of-returns-clause-ok g t c =
    let whole : c.len-len.result ≡ length c.args.trees.items = omega (arith, c.len-len.ensures, c.args.trees.ok.0) in
    λ drawn marked.
    subst (λ (b : Gapped). LaysTrees g.D.Disk c.args.records.now c.loop-position.records c.args.disk.now c.loop-position.disk drawn b c.args.proxies.now c.loop-position.proxies) (sym c.from_vec.ensures)
    (walk_ends {d = g.D.Disk} (c.loop-position.invariant.1 drawn marked) (none_left c.args.trees.items (into_iter_items c.loop-position.rest) c.loop-position.position c.loop-position.invariant.0 (omega (arith, whole, c.loop-position-test.false))))

pub put_members-loop-position-init : goal.put_members-loop-position-init
put_members-loop-position-init g t c = (
  (let same : c.args.first ≤ c.args.first = omega arith in same),
  c.requires.order,
  ap (λ (n : ℕ). drop n (into_iter_items c.args.trees.now)) (let none : 0 ≡ c.args.first - c.args.first = omega arith in none),
  λ members m.
      subst (λ (b : Gapped). WalksOn g.D.Disk (Some m.index) (holder_by_marks c.args.marks.now) c.args.first (take (c.args.end - c.args.first) (into_iter_items c.args.trees.now)) members c.args.records.now c.args.records.now c.args.disk.now c.args.disk.now b [] c.new-proxies.result)
      (sym c.new-roots.ensures)
      (subst (λ (l : List Proxy). WalksOn g.D.Disk (Some m.index) (holder_by_marks c.args.marks.now) c.args.first (take (c.args.end - c.args.first) (into_iter_items c.args.trees.now)) members c.args.records.now c.args.records.now c.args.disk.now c.args.disk.now End [] l)
      (sym c.new-proxies.ensures)
      (walk_begins {d = g.D.Disk} (Some m.index) (holder_by_marks c.args.marks.now) c.args.first (take (c.args.end - c.args.first) (into_iter_items c.args.trees.now)) members c.args.records.now c.args.disk.now [] c.requires.runs m.marked)),
)

pub put_members-piece_tree-requires : goal.put_members-piece_tree-requires
put_members-piece_tree-requires g t c κs within =
    let members = c.requires.marked.0 in
    let m = c.requires.marked.1 in
    let w : WalksOn g.D.Disk (Some m.index) (holder_by_marks c.args.marks.now) c.loop-position.position (take (c.args.end - c.loop-position.position) (into_iter_items c.loop-position.trees)) members c.args.records.now c.loop-position.records c.args.disk.now c.loop-position.disk c.loop-position.roots [] c.loop-position.proxies = c.loop-position.invariant.3 members m in
    let less : 1 + depth c.next_tree.result.below ≤ depth (forest_of (into_iter_items c.args.trees.now)) = next_depth (into_iter_items c.args.trees.now) (into_iter_items c.loop-position.trees) (c.loop-position.position - c.args.first) c.loop-position.invariant.2 c.next_tree.result (into_iter_items c.next_tree.new.trees) c.next_tree.ensures in (
      search rules,
      (
        within,
        (
          ((w.laid).runs).after,
          (
            next_few (into_iter_items c.args.trees.now) (into_iter_items c.loop-position.trees) (c.loop-position.position - c.args.first) c.loop-position.invariant.2 c.next_tree.result (into_iter_items c.next_tree.new.trees) c.next_tree.ensures c.requires.few,
            (
              next_short (into_iter_items c.args.trees.now) (into_iter_items c.loop-position.trees) (c.loop-position.position - c.args.first) c.loop-position.invariant.2 c.next_tree.result (into_iter_items c.next_tree.new.trees) c.next_tree.ensures c.requires.short,
              member_can {d = g.D.Disk} c.args.marks.now w m.free c.next_tree.result (take (c.args.end - (c.loop-position.position + 1)) (into_iter_items c.next_tree.new.trees)) c.below_in-below.result.now (take_next (into_iter_items c.loop-position.trees) (into_iter_items c.next_tree.new.trees) c.next_tree.result c.loop-position.position c.args.end c.loop-position-test.true c.next_tree.ensures) c.below_in-below.ensures,
            ),
          ),
        ),
      ),
    )

pub put_members-returns-in_err-made-clause-still : goal.put_members-returns-in_err-made-clause-still
put_members-returns-in_err-made-clause-still g t c = still_then ((c.loop-position.invariant.3 c.requires.marked.0 c.requires.marked.1).laid).still c.piece_tree.ensures.still

pub put_members-returns-in_err-made-clause-refused : goal.put_members-returns-in_err-made-clause-refused
put_members-returns-in_err-made-clause-refused g t c =
    err_passed c.from_residual.result
    (λ (e : StoreError). (members : CutForest) → AreMembers (holder_by_marks c.args.marks.now) c.args.first (forest_of (take (c.args.end - c.args.first) (into_iter_items c.args.trees.now))) members
    → NotStored g.D.Disk (λ was. 1 + proxy_count members + drawn_needs members) (λ was. ⊥) 0 e c.args.records.now c.piece_tree.new.records c.args.disk.now c.piece_tree.new.disk)
    c.in_err-made.field-0.0 (err_from_is_err_and c.from_residual.result c.from_residual.ensures.1)
    (λ members m.
    member_not {d = g.D.Disk} c.args.marks.now (c.loop-position.invariant.3 members m) m.free c.next_tree.result (take (c.args.end - (c.loop-position.position + 1)) (into_iter_items c.next_tree.new.trees)) c.below_in-below.result.now (take_next (into_iter_items c.loop-position.trees) (into_iter_items c.next_tree.new.trees) c.next_tree.result c.loop-position.position c.args.end c.loop-position-test.true c.next_tree.ensures) c.below_in-below.ensures
    c.piece_tree.new.records c.piece_tree.new.disk c.in_err-made.field-0.0 c.in_err-made.ensures.refused)

pub put_members-returns-in_default-clause-still : goal.put_members-returns-in_default-clause-still
put_members-returns-in_default-clause-still g t c = still_then ((c.loop-position.invariant.3 c.requires.marked.0 c.requires.marked.1).laid).still c.piece_tree.ensures.still

pub put_members-returns-in_default-clause-refused : goal.put_members-returns-in_default-clause-refused
put_members-returns-in_default-clause-refused g t c = λ members m.
    member_memory {d = g.D.Disk} c.args.marks.now (c.loop-position.invariant.3 members m) m.free c.next_tree.result (take (c.args.end - (c.loop-position.position + 1)) (into_iter_items c.next_tree.new.trees)) c.below_in-below.result.now (take_next (into_iter_items c.loop-position.trees) (into_iter_items c.next_tree.new.trees) c.next_tree.result c.loop-position.position c.args.end c.loop-position-test.true c.next_tree.ensures) c.below_in-below.ensures
    c.in_ok-made.made c.piece_tree.new.proxies c.in_ok-made.ensures.ok

pub put_members-loop-position-preserved : goal.put_members-loop-position-preserved
put_members-loop-position-preserved g t c = (
  (let low : c.args.first ≤ c.loop-position.position = c.loop-position.invariant.0 in omega (arith, low)),
  (let high : c.loop-position.position < c.args.end = c.loop-position-test.true in omega (arith, high)),
  member_left (into_iter_items c.args.trees.now) (into_iter_items c.loop-position.trees) (c.loop-position.position - c.args.first) c.loop-position.invariant.2 c.next_tree.result (into_iter_items c.next_tree.new.trees) c.next_tree.ensures c.loop-position.position c.args.first c.loop-position.invariant.0 refl,
  λ members m.
      subst (λ (b : Gapped). WalksOn g.D.Disk (Some m.index) (holder_by_marks c.args.marks.now) (c.loop-position.position + 1) (take (c.args.end - (c.loop-position.position + 1)) (into_iter_items c.next_tree.new.trees)) members c.args.records.now c.piece_tree.new.records c.args.disk.now c.piece_tree.new.disk b [] c.piece_tree.new.proxies)
      (sym c.in-Ok.ensures.ok)
      (member_laid {d = g.D.Disk} c.args.marks.now (c.loop-position.invariant.3 members m) m.free c.next_tree.result (take (c.args.end - (c.loop-position.position + 1)) (into_iter_items c.next_tree.new.trees)) c.below_in-below.result.now (take_next (into_iter_items c.loop-position.trees) (into_iter_items c.next_tree.new.trees) c.next_tree.result c.loop-position.position c.args.end c.loop-position-test.true c.next_tree.ensures) c.below_in-below.ensures
      c.in_ok-made.made c.piece_tree.new.proxies c.in_ok-made.ensures.ok),
)

pub put_members-add_piece-requires : goal.put_members-add_piece-requires
put_members-add_piece-requires g t c = record {
  valid = piece_can {d = g.D.Disk} c.args.marks.now (c.loop-position.invariant.3 c.requires.marked.0 c.requires.marked.1) (take_none (into_iter_items c.loop-position.trees) c.loop-position.position c.args.end c.loop-position-test.false) c.args.first (forest_of (take (c.args.end - c.args.first) (into_iter_items c.args.trees.now))) c.requires.marked.1 (first_few (c.args.end - c.args.first) (into_iter_items c.args.trees.now) c.requires.few);
  near = gathered_near {d = g.D.Disk} c.args.marks.now (c.loop-position.invariant.3 c.requires.marked.0 c.requires.marked.1) (take_none (into_iter_items c.loop-position.trees) c.loop-position.position c.args.end c.loop-position-test.false);
}

pub put_members-returns-clause-still : goal.put_members-returns-clause-still
put_members-returns-clause-still g t c = still_then ((c.loop-position.invariant.3 c.requires.marked.0 c.requires.marked.1).laid).still c.add_piece.ensures.still

pub put_members-returns-clause-ok : goal.put_members-returns-clause-ok
put_members-returns-clause-ok g t c =
    put_laid g.D.Disk c.args.marks.now (take (c.args.end - c.args.first) (into_iter_items c.args.trees.now)) (take (c.args.end - c.loop-position.position) (into_iter_items c.loop-position.trees)) c.args.first c.loop-position.position c.loop-position.roots c.loop-position.proxies c.args.records.now c.loop-position.records c.add_piece.new.records c.args.disk.now c.loop-position.disk
    c.add_piece.new.disk c.loop-position.invariant.3 (take_none (into_iter_items c.loop-position.trees) c.loop-position.position c.args.end c.loop-position-test.false) c.add_piece.result c.add_piece.ensures.roots c.add_piece.ensures.ok c.add_piece.ensures.takes c.add_piece.ensures.keeps c.add_piece.ensures.still

pub put_members-returns-clause-refused : goal.put_members-returns-clause-refused
put_members-returns-clause-refused g t c =
    put_not g.D.Disk c.args.marks.now (take (c.args.end - c.args.first) (into_iter_items c.args.trees.now)) (take (c.args.end - c.loop-position.position) (into_iter_items c.loop-position.trees)) c.args.first c.loop-position.position c.loop-position.roots c.loop-position.proxies c.args.records.now c.loop-position.records c.add_piece.new.records c.args.disk.now c.loop-position.disk
    c.add_piece.new.disk c.loop-position.invariant.3 (take_none (into_iter_items c.loop-position.trees) c.loop-position.position c.args.end c.loop-position-test.false) c.add_piece.result c.add_piece.ensures.refused
