use Rattle.std.proofs.lemmas.Result.{err_from_is_err_and}
use Rattle.nx_records.specs.declared.error.StoreError.{StoreError}
use Rattle.nx_records.specs.Refusals.{NotChanged}
use Rattle.nx_records.proofs.RefusalLemmas.{err_passed}
use Rattle.nx_hold.specs.Pieces.{HoldsNone}
use Rattle.nx_hold.specs.Changes.{place_of}
use Rattle.nx_hold.proofs.pieces.remove_piece.Goals as goal

pub returns-in_err-take_piece-clause-refused : goal.returns-in_err-take_piece-clause-refused
returns-in_err-take_piece-clause-refused g c =
    err_passed c.from_residual.result (λ (e : StoreError). NotChanged g.D.Disk (λ was. HoldsNone was (place_of c.args.rid)) c.args.rid.page e c.args.records.now c.take_piece.new.records c.args.disk.now c.take_piece.new.disk) c.in_err-take_piece.field-0.0
    (err_from_is_err_and c.from_residual.result c.from_residual.ensures.1) c.in_err-take_piece.ensures.refused
