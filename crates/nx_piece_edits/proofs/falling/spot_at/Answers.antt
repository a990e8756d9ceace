use Rattle.std.proofs.Common.{arith, ◌≡◌, ◌+◌, ◌-◌, ◌≤◌, ◌∷◌, ℕ, Some, length, take, drop, ap, ◌∙◌, subst}
use Rattle.std.specs.List.{slice_get}
use Rattle.nx_piece.specs.Items.{gapped_of}
use Rattle.nx_piece.specs.Locate.{Kept, kept_from}
use Rattle.nx_piece.specs.declared.piece.Item.{Item}
use Rattle.nx_piece.specs.declared.piece.Item.TheVariants.{Run}
use Rattle.nx_piece.proofs.WalkLemmas.{next_tree, next_left}
use Rattle.nx_piece.proofs.LocateLemmas.{tree_passed, gap_passed}
use Rattle.nx_piece.proofs.FoundLemmas.{tree_passing, run_passing}
use Rattle.nx_piece_edits.specs.Editing.{IsSpot}
use Rattle.nx_piece_edits.proofs.SpotLemmas.{kept_place, spot_here, spot_inside, spot_last}
use Rattle.nx_piece_edits.proofs.falling.spot_at.Goals as goal
use Rattle.nx_piece_edits.proofs.falling.spot_at.Goals.{in-Tree, in-Run+in-Err}

pub returns-then-left-eq0 : goal.returns-then-left-eq0
returns-then-left-eq0 c =
    let within : c.loop-index.index ≤ length c.args.items.now = omega arith in
    spot_here c.loop-index.invariant.1 c.requires.fits c.requires.apart c.requires.ranged within c.if-left-eq0.true

pub overflow_sub-result : goal.overflow_sub-result
overflow_sub-result c =
    let place = (kept_place c.loop-index.before c.loop-index.left (take (c.loop-index.before + c.in-Run.count - c.loop-index.before) (drop c.loop-index.before c.args.proxies.now)) c.in-Ok.index_there c.in-Ok.field-0-1 c.in-Ok.ensures.found).1 in
    omega (arith, place)

pub returns-in-Ok : goal.returns-in-Ok
returns-in-Ok c =
    let d : drop c.loop-index.index c.args.items.now ≡ Run c.in-Run.count ∷ drop (c.loop-index.index + 1) c.args.items.now =
    next_left _ _ _ c.loop-index-test.true c.index-items-index.is ∙ ap (λ (x : Item). x ∷ drop (c.loop-index.index + 1) c.args.items.now) c.in-Run.is in
    let span : c.in-Run.count ≡ c.loop-index.before + c.in-Run.count - c.loop-index.before = omega arith in
    let some : 1 ≤ c.loop-index.left = omega arith in
    let found : slice_get (kept_from c.loop-index.before (take c.in-Run.count (drop c.loop-index.before c.args.proxies.now))) c.loop-index.left ≡ Some (Kept c.in-Ok.index_there c.in-Ok.field-0-1) =
    ap (λ (n : ℕ). slice_get (kept_from c.loop-index.before (take n (drop c.loop-index.before c.args.proxies.now))) c.loop-index.left) span ∙ c.in-Ok.ensures.found in
    spot_inside c.loop-index.invariant.1 c.loop-index.invariant.0 c.requires.fits c.requires.apart c.requires.ranged c.requires.between some d found

pub loop-index-preserved : goal.loop-index-preserved
loop-index-preserved c =
    elim c.match-item.branch [
      | in-Tree w ↦
          let d = next_tree c.args.items.now c.loop-index.index c.index-items-index.result w.in-Tree.tree c.loop-index-test.true c.index-items-index.is w.in-Tree.is in
          rw (w.before-is, w.left-is) (
            tree_passed w.in-Tree.tree w.proxies_below-before.result c.loop-index.invariant.0 (ap gapped_of d) (omega arith) w.proxies_below-before.ensures,
            tree_passing w.in-Tree.tree w.proxies_below-before.result c.loop-index.invariant.1 d (omega arith) w.proxies_below-before.ensures,
          )
      | in-Run+in-Err w ↦
          let d : drop c.loop-index.index c.args.items.now ≡ Run w.in-Run.count ∷ drop (c.loop-index.index + 1) c.args.items.now =
          next_left _ _ _ c.loop-index-test.true c.index-items-index.is ∙ ap (λ (x : Item). x ∷ drop (c.loop-index.index + 1) c.args.items.now) w.in-Run.is in
          let span : c.loop-index.before + w.in-Run.count - c.loop-index.before ≡ w.in-Run.count = omega arith in
          let left : c.loop-index.left ≡ length (kept_from c.loop-index.before (take w.in-Run.count (drop c.loop-index.before c.args.proxies.now))) + w.in-Err.rest =
          w.in-Err.ensures.behind ∙ ap (λ (n : ℕ). length (kept_from c.loop-index.before (take n (drop c.loop-index.before c.args.proxies.now))) + w.in-Err.rest) span in
          rw (w.before-is, w.left-is) (gap_passed c.loop-index.invariant.0 (ap gapped_of d) left, run_passing c.loop-index.invariant.1 d left)
    ]

pub returns : goal.returns
returns c =
    let end : c.loop-index.index ≡ length c.args.items.now = omega arith in
    subst (λ (n : ℕ). IsSpot c.args.items.now (drop c.args.first c.args.proxies.now) c.args.position n 0) end
    (spot_last c.loop-index.invariant.1 c.requires.fits c.requires.apart c.requires.ranged c.requires.between.within end)
