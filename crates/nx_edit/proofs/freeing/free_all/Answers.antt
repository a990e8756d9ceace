use Rattle.std.proofs.Common.{◌≡◌, ℕ, ◌+◌, ◌<◌, suc, List, [], ◌∷◌, ◌++◌, length, take, drop, get_or, refl, subst, arith}
use Rattle.std.proofs.lemmas.List.{drop_more, take_all}
use Rattle.std.proofs.lemmas.Result.{err_from_is_err_and}
use Rattle.std.proofs.Math.Seq.{take-suc}
use Rattle.nx_piece.specs.declared.piece.Far.{Far}
use Rattle.nx_records.specs.declared.error.StoreError.{StoreError}
use Rattle.nx_records.proofs.RefusalLemmas.{err_passed}
use Rattle.nx_edit.specs.Removing.{NotFreed}
use Rattle.nx_edit.proofs.FreeLemmas.{freeing_then, freeing_refused, freeing_done}
use Rattle.nx_edit.proofs.freeing.free_all.Goals as goal

taken : (xs : List Far) (i : ℕ) (d : Far) → i < length xs → take (i + 1) xs ≡ take i xs ++ (get_or xs i d ∷ [])
taken xs i d within = subst (λ (n : ℕ). take n xs ≡ take i xs ++ (get_or xs i d ∷ [])) (let e : suc i ≡ i + 1 = omega arith in e) (take-suc xs i d within)

pub returns-in_err-free_far-clause-refused : goal.returns-in_err-free_far-clause-refused
returns-in_err-free_far-clause-refused g c =
    err_passed c.from_residual.result (λ (e : StoreError). NotFreed g.D.Disk c.args.gone.now e c.args.records.now c.free_far.new.records c.args.disk.now c.free_far.new.disk) c.in_err-free_far.field-0.0
    (err_from_is_err_and c.from_residual.result c.from_residual.ensures.1)
    (freeing_refused c.loop-far.invariant _ (drop (c.loop-far.far-index + 1) c.args.gone.now) (drop_more c.args.gone.now c.loop-far.far-index _ c.loop-far-test.true) c.free_far.new.records c.free_far.new.disk c.in_err-free_far.field-0.0 c.in_err-free_far.ensures.refused)

pub loop-far-preserved : goal.loop-far-preserved
loop-far-preserved g c =
    freeing_then c.loop-far.invariant _ (drop (c.loop-far.far-index + 1) c.args.gone.now) (drop_more c.args.gone.now c.loop-far.far-index _ c.loop-far-test.true) c.free_far.new.records c.free_far.new.disk refl
    (taken c.args.gone.now c.loop-far.far-index _ c.loop-far-test.true) c.in_ok-free_far.ensures.keeps.0 c.in_ok-free_far.ensures.keeps.1 c.free_far.ensures.still c.in_ok-free_far.ensures.keeps.2 c.in_ok-free_far.ensures.ok

pub returns-clause-ok : goal.returns-clause-ok
returns-clause-ok g c = freeing_done c.loop-far.invariant (take_all c.loop-far.far-index c.args.gone.now c.loop-far-test.false)
