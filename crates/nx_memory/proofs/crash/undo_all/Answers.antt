use Rattle.std.proofs.Common.{◌-◌, List, ℕ, length, take, reverse, sym, ap, ◌∙◌, arith}
use Rattle.std.proofs.lemmas.List.{length-take}
use Rattle.nx_memory.specs.Undo.{kept_by, undone_all}
use Rattle.nx_memory.proofs.UndoLemmas.{change_at, undone_more, undone_whole, kept_fewer}
use Rattle.nx_memory.proofs.crash.undo_all.Goals as goal

pub loop-left-preserved : goal.loop-left-preserved
loop-left-preserved c =
    let changes = c.args.changes.now in
    let left = c.loop-left.left in
    let covered = c.args.covered.now in
    let kept = c.loop-left.kept in
    let cut = length-take kept covered in
    let few = kept_fewer (change_at changes (left - 1)) (length (take kept covered)) in
    let rest = undone_all c.args.area (reverse (take (left - 1) changes)) in
    record {
      within = omega arith;
      kept = omega (arith, cut, few, c.in_ok-kept.ensures.kept);
      rest = c.loop-left.invariant.rest
          ∙ undone_more changes left c.loop-left-test.true c.loop-left.invariant.within c.args.area c.loop-left.bytes.items covered kept
          ∙ ap (λ (l : List ℕ). rest l (take (kept_by (change_at changes (left - 1)) (length (take kept covered))) covered)) (sym c.in_ok-kept.ensures.bytes)
          ∙ ap (λ (n : ℕ). rest c.undo.new.bytes.items (take n covered)) (sym c.in_ok-kept.ensures.kept);
    }

pub returns : goal.returns
returns c =
    sym
    (c.loop-left.invariant.rest
    ∙ undone_whole c.args.area c.args.changes.now c.loop-left.left c.loop-left.bytes.items (take c.loop-left.kept c.args.covered.now) c.loop-left-test.false)
