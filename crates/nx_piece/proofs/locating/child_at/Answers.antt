use Rattle.std.proofs.Common.{arith, ◌≡◌, ◌+◌, ◌-◌, ◌∷◌, ℕ, length, take, drop, ap, ◌∙◌}
use Rattle.std.specs.List.{slice_get}
use Rattle.nx_piece.specs.Items.{gapped_of}
use Rattle.nx_piece.specs.Locate.{kept_from}
use Rattle.nx_piece.specs.declared.piece.Item.{Item}
use Rattle.nx_piece.specs.declared.piece.Item.TheVariants.{Run}
use Rattle.nx_piece.proofs.WalkLemmas.{next_tree, next_left}
use Rattle.nx_piece.proofs.LocateLemmas.{is_kept, tree_passed, gap_passed}
use Rattle.nx_piece.proofs.FoundLemmas.{tree_passing, run_passing}
use Rattle.nx_piece.proofs.locating.child_at.Goals as goal
use Rattle.nx_piece.proofs.locating.child_at.Goals.{in-Tree+else-left-eq0, in-Run+in-Err}

pub returns-in-Ok-clause-found : goal.returns-in-Ok-clause-found
returns-in-Ok-clause-found c =
    let d : drop c.loop-index.index c.args.items.now ≡ Run c.in-Run.count ∷ drop (c.loop-index.index + 1) c.args.items.now =
    next_left _ _ _ c.loop-index-test.true c.index-items-index.is ∙ ap (λ (x : Item). x ∷ drop (c.loop-index.index + 1) c.args.items.now) c.in-Run.is in
    let span : c.in-Run.count ≡ c.loop-index.before + c.in-Run.count - c.loop-index.before = omega arith in
    is_kept c.loop-index.invariant.0 (ap gapped_of d)
    (ap (λ (n : ℕ). slice_get (kept_from c.loop-index.before (take n (drop c.loop-index.before c.args.proxies.now))) c.loop-index.left) span ∙ c.in-Ok.ensures.found)

pub loop-index-preserved : goal.loop-index-preserved
loop-index-preserved c =
    elim c.match-item.branch [
      | in-Tree+else-left-eq0 w ↦
          let d = next_tree c.args.items.now c.loop-index.index c.index-items-index.result w.in-Tree.tree c.loop-index-test.true c.index-items-index.is w.in-Tree.is in
          rw (w.before-is, w.left-is) (
            tree_passed w.in-Tree.tree w.proxies_below-before.result c.loop-index.invariant.0 (ap gapped_of d) (omega arith) w.proxies_below-before.ensures,
            tree_passing w.in-Tree.tree w.proxies_below-before.result c.loop-index.invariant.1 d (omega arith) w.proxies_below-before.ensures,
          )
      | in-Run+in-Err w ↦
          let d : drop c.loop-index.index c.args.items.now ≡ Run w.in-Run.count ∷ drop (c.loop-index.index + 1) c.args.items.now =
          next_left _ _ _ c.loop-index-test.true c.index-items-index.is ∙ ap (λ (x : Item). x ∷ drop (c.loop-index.index + 1) c.args.items.now) w.in-Run.is in
          let span : c.loop-index.before + w.in-Run.count - c.loop-index.before ≡ w.in-Run.count = omega arith in
          let left : c.loop-index.left ≡ length (kept_from c.loop-index.before (take w.in-Run.count (drop c.loop-index.before c.args.proxies.now))) + w.in-Err.rest =
          w.in-Err.ensures.behind ∙ ap (λ (n : ℕ). length (kept_from c.loop-index.before (take n (drop c.loop-index.before c.args.proxies.now))) + w.in-Err.rest) span in
          rw (w.before-is, w.left-is) (gap_passed c.loop-index.invariant.0 (ap gapped_of d) left, run_passing c.loop-index.invariant.1 d left)
    ]
