use Rattle.std.proofs.Common.{arith, ◌≡◌, ◌+◌, ◌-◌, ◌≤◌, ℕ, length, take, drop, sym, ap, ◌∙◌, subst}
use Rattle.std.specs.List.{sum_by}
use Rattle.nx_piece.specs.declared.piece.Piece.{Piece}
use Rattle.nx_piece.specs.Gapped.{Gapped, proxies_in}
use Rattle.nx_piece.specs.Viewing.{seen_items}
use Rattle.nx_piece.specs.Valid.{HaveRoots}
use Rattle.nx_piece.specs.Locate.{children_of}
use Rattle.nx_piece.proofs.LocateLemmas.{ranged_take, ranged_drop, gap_counted, counted_few}
use Rattle.nx_piece.proofs.finding.count_children.Goals as goal

pub overflow_add-children : goal.overflow_add-children
overflow_add-children c =
    let proxies = c.as_slice-proxies.ensures ∙ ap (λ (p : Piece). p.proxies) c.piece.view_is in
    let ranged = subst HaveRoots (sym proxies) c.requires.piece.ranged in
    let room : c.args.first + proxies_in (seen_items c.args.at.children) ≤ length c.args.piece.now.proxies = c.requires.node.fits in
    let few : length c.args.piece.now.proxies ≤ 524288 = c.requires.piece.body.few_proxies in
    let small = c.requires.node.small in
    let most = counted_few c.loop-item.invariant ranged (omega arith) (omega arith) in
    let next = ap (λ (f : Gapped). length (children_of c.as_slice-proxies.result.now c.loop-item.before f)) (rw c.in-Tree.is at c.in-Some.ensures) in
    omega arith

pub roots_of-children-requires-clause-ranged : goal.roots_of-children-requires-clause-ranged
roots_of-children-requires-clause-ranged c =
    let proxies = c.as_slice-proxies.ensures ∙ ap (λ (p : Piece). p.proxies) c.piece.view_is in
    ranged_take (c.loop-item.before + c.in-Run.count - c.loop-item.before) (drop c.loop-item.before c.as_slice-proxies.result.now)
    (ranged_drop c.loop-item.before c.as_slice-proxies.result.now (subst HaveRoots (sym proxies) c.requires.piece.ranged))

pub overflow_add-children-in-Run : goal.overflow_add-children-in-Run
overflow_add-children-in-Run c =
    let proxies = c.as_slice-proxies.ensures ∙ ap (λ (p : Piece). p.proxies) c.piece.view_is in
    let span : c.loop-item.before + c.in-Run.count - c.loop-item.before ≡ c.in-Run.count = omega arith in
    let ranged = subst HaveRoots (sym proxies) c.requires.piece.ranged in
    let room : c.args.first + proxies_in (seen_items c.args.at.children) ≤ length c.args.piece.now.proxies = c.requires.node.fits in
    let few : length c.args.piece.now.proxies ≤ 524288 = c.requires.piece.body.few_proxies in
    let small = c.requires.node.small in
    let next = gap_counted c.loop-item.invariant (rw c.in-Run.is at c.in-Some.ensures)
    (c.roots_of-children.ensures ∙ ap (λ (n : ℕ). sum_by (λ p. p.roots) (take n (drop c.loop-item.before c.as_slice-proxies.result.now))) span) in
    let most = counted_few next ranged (omega arith) (omega arith) in
    omega arith

pub loop-item-preserved : goal.loop-item-preserved
loop-item-preserved c =
    let span : c.loop-item.before + c.in-Run.count - c.loop-item.before ≡ c.in-Run.count = omega arith in
    gap_counted c.loop-item.invariant (rw c.in-Run.is at c.in-Some.ensures)
    (c.roots_of-children.ensures ∙ ap (λ (n : ℕ). sum_by (λ p. p.roots) (take n (drop c.loop-item.before c.as_slice-proxies.result.now))) span)
