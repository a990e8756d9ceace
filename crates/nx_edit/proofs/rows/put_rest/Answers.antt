use Rattle.std.proofs.Common.{ℕ, ◌≤◌, sym, ◌∙◌, arith}
use Rattle.std.proofs.lemmas.Result.{err_from_is_err_and}
use Rattle.nx_records.specs.declared.error.StoreError.{StoreError}
use Rattle.nx_records.specs.Refusals.{NotStored}
use Rattle.nx_records.proofs.RefusalLemmas.{err_passed}
use Rattle.nx_hold.specs.Pieces.{HoldsNone}
use Rattle.nx_hold.specs.Changes.{place_of}
use Rattle.nx_edit.specs.Passing.{put_needs}
use Rattle.nx_edit.proofs.PassCalls.{changed_stored}
use Rattle.nx_piece.specs.Gapped.{gapped_width}
use Rattle.nx_edit.proofs.RemoveLemmas.{tested_none, tested_some}
use Rattle.nx_edit.proofs.rows.put_rest.Goals as goal

pub returns-then-is_empty-clause-ok : goal.returns-then-is_empty-clause-ok
returns-then-is_empty-clause-ok g c saved now stands tidy may =
    let next = c.in_ok-remove_piece.ensures.ok saved now stands tidy in
    (next.0, next.1, next.2, (tested_none (gapped_width c.args.rest.body.roots) (sym c.is_empty.ensures ∙ c.if-is_empty.true), next.3))

pub returns-clause-ok : goal.returns-clause-ok
returns-clause-ok g c saved now stands tidy may =
    let next = c.in_ok-proxy.ensures.ok saved now stands tidy may in
    let not = tested_some (gapped_width c.args.rest.body.roots) (sym c.is_empty.ensures ∙ c.if-is_empty.false) in
    let some : 1 ≤ gapped_width c.args.rest.body.roots = omega (arith, not) in
    (next.0, next.1, next.2, (some, c.in_ok-proxy.ensures.roots, next.3))

pub returns-in_err-remove_piece-clause-refused : goal.returns-in_err-remove_piece-clause-refused
returns-in_err-remove_piece-clause-refused g c =
    err_passed c.from_residual.result (λ (e : StoreError). (page : ℕ) × NotStored g.D.Disk (λ was. put_needs c.args.rest) (λ was. HoldsNone was (place_of c.args.rid)) page e c.args.records.now c.remove_piece.new.records c.args.disk.now c.remove_piece.new.disk)
    c.in_err-remove_piece.field-0.0 (err_from_is_err_and c.from_residual.result c.from_residual.ensures.1) (
      c.args.rid.page,
      changed_stored g.D.Disk (λ was. put_needs c.args.rest) (λ was. HoldsNone was (place_of c.args.rid)) c.args.rid.page c.in_err-remove_piece.field-0.0 c.args.records.now c.remove_piece.new.records c.args.disk.now c.remove_piece.new.disk
          c.in_err-remove_piece.ensures.refused,
    )
