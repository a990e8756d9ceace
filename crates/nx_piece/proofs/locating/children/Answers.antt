use Rattle.std.proofs.Common.{arith, ◌≡◌, ◌+◌, ◌-◌, ◌≤◌, ℕ, length, take, drop, sym, ap, ◌∙◌, subst}
use Rattle.std.specs.List.{sum_by}
use Rattle.nx_piece.specs.Gapped.{Gapped, proxies_in}
use Rattle.nx_piece.specs.Items.{gapped_of}
use Rattle.nx_piece.specs.Valid.{HaveRoots}
use Rattle.nx_piece.specs.Locate.{children_of}
use Rattle.nx_piece.proofs.WalkLemmas.{next_tree, next_run}
use Rattle.nx_piece.proofs.LocateLemmas.{ranged_take, ranged_drop, tree_counted, gap_counted, counted_few}
use Rattle.nx_piece.proofs.locating.children.Goals as goal
use Rattle.nx_piece.proofs.locating.children.Goals.{in-Tree, in-Run}

pub overflow_add-children : goal.overflow_add-children
overflow_add-children c =
    let d = next_tree c.as_slice-item-items.result.now c.loop-item.item-index c.item-item.result c.in-Tree.tree c.loop-item-test.true c.item-item.is c.in-Tree.is in
    let ranged = subst HaveRoots (sym c.as_slice-proxies.ensures) c.requires.piece.ranged in
    let room : c.args.first + proxies_in c.args.at.now.below ≤ length c.args.piece.now.proxies = c.requires.node.fits in
    let few : length c.args.piece.now.proxies ≤ 524288 = c.requires.piece.body.few_proxies in
    let small = c.requires.node.small in
    let most = counted_few c.loop-item.invariant ranged (omega arith) (omega arith) in
    let next = ap (λ (f : Gapped). length (children_of c.as_slice-proxies.result.now c.loop-item.before f)) (ap gapped_of d) in
    omega arith

pub roots_of-children-requires-clause-ranged : goal.roots_of-children-requires-clause-ranged
roots_of-children-requires-clause-ranged c =
    ranged_take (c.loop-item.before + c.in-Run.count - c.loop-item.before) (drop c.loop-item.before c.as_slice-proxies.result.now)
    (ranged_drop c.loop-item.before c.as_slice-proxies.result.now (subst HaveRoots (sym c.as_slice-proxies.ensures) c.requires.piece.ranged))

pub overflow_add-children-in-Run : goal.overflow_add-children-in-Run
overflow_add-children-in-Run c =
    let d = next_run c.as_slice-item-items.result.now c.loop-item.item-index c.item-item.result c.in-Run.count c.loop-item-test.true c.item-item.is c.in-Run.is in
    let span : c.loop-item.before + c.in-Run.count - c.loop-item.before ≡ c.in-Run.count = omega arith in
    let ranged = subst HaveRoots (sym c.as_slice-proxies.ensures) c.requires.piece.ranged in
    let room : c.args.first + proxies_in c.args.at.now.below ≤ length c.args.piece.now.proxies = c.requires.node.fits in
    let few : length c.args.piece.now.proxies ≤ 524288 = c.requires.piece.body.few_proxies in
    let small = c.requires.node.small in
    let next = gap_counted c.loop-item.invariant d
    (c.roots_of-children.ensures ∙ ap (λ (n : ℕ). sum_by (λ p. p.roots) (take n (drop c.loop-item.before c.as_slice-proxies.result.now))) span) in
    let most = counted_few next ranged (omega arith) (omega arith) in
    omega arith

pub loop-item-preserved : goal.loop-item-preserved
loop-item-preserved c =
    elim c.match-item.branch [
      | in-Tree w ↦
          let d = next_tree c.as_slice-item-items.result.now c.loop-item.item-index c.item-item.result w.in-Tree.tree c.loop-item-test.true c.item-item.is w.in-Tree.is in
          rw (w.before-is, w.children-is) (tree_counted w.in-Tree.tree w.proxies_below-before.result c.loop-item.invariant (ap gapped_of d) w.proxies_below-before.ensures)
      | in-Run w ↦
          let d = next_run c.as_slice-item-items.result.now c.loop-item.item-index c.item-item.result w.in-Run.count c.loop-item-test.true c.item-item.is w.in-Run.is in
          let span : c.loop-item.before + w.in-Run.count - c.loop-item.before ≡ w.in-Run.count = omega arith in
          rw (w.before-is, w.children-is) (gap_counted c.loop-item.invariant d
          (w.roots_of-children.ensures ∙ ap (λ (n : ℕ). sum_by (λ p. p.roots) (take n (drop c.loop-item.before c.as_slice-proxies.result.now))) span))
    ]
