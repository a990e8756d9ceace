use Rattle.std.proofs.Common.{ℕ, ◌∙◌}
use Rattle.std.proofs.lemmas.Result.{err_from_is_err_and}
use Rattle.nx_host.proofs.DiskLemmas.{still_then}
use Rattle.nx_records.specs.declared.error.StoreError.{StoreError}
use Rattle.nx_records.specs.Refusals.{NotStored}
use Rattle.nx_records.proofs.RefusalLemmas.{err_passed}
use Rattle.nx_hold.specs.Pieces.{HoldsNone}
use Rattle.nx_hold.specs.Changes.{place_named, place_of}
use Rattle.nx_hold.proofs.RefusalLemmas.{runs_then, saved_then}
use Rattle.nx_edit.specs.Passing.{put_needs}
use Rattle.nx_edit.proofs.MakingCalls.{far_updated, making_stored, update_refused}
use Rattle.nx_edit.proofs.HalfLemmas.{made_valid}
use Rattle.nx_edit.proofs.RowCalls.{err_map, ok_map, valid_piece}
use Rattle.nx_edit.proofs.making.update_far.Goals as goal

pub make_far-requires-clause-piece : goal.make_far-requires-clause-piece
make_far-requires-clause-piece g c = valid_piece c.args.piece c.requires.valid

pub returns-in_err-made-clause-refused : goal.returns-in_err-made-clause-refused
returns-in_err-made-clause-refused g c =
    err_passed c.from_residual.result (λ (e : StoreError). (page : ℕ) × NotStored g.D.Disk (λ was. put_needs c.args.piece) (λ was. HoldsNone was (place_of c.args.rid)) page e c.args.records.now c.make_far.new.records c.args.disk.now c.make_far.new.disk)
    c.in_err-made.field-0.0 (err_from_is_err_and c.from_residual.result c.from_residual.ensures.1)
    (making_stored g.D.Disk c.args.piece (place_of c.args.rid) c.args.records.now c.make_far.new.records c.args.disk.now c.make_far.new.disk c.in_err-made.field-0.0 c.in_err-made.ensures.refused)

pub update_piece-requires-clause-valid : goal.update_piece-requires-clause-valid
update_piece-requires-clause-valid g c = made_valid c.args.piece c.in_ok-made.made c.in_ok-made.ensures.far c.requires.valid

pub update_piece-requires-clause-near : goal.update_piece-requires-clause-near
update_piece-requires-clause-near g c = (c.in_ok-made.ensures.far).near

pub returns-clause-still : goal.returns-clause-still
returns-clause-still g c = still_then c.make_far.ensures.still c.update_piece.ensures.still

pub returns-clause-roots : goal.returns-clause-roots
returns-clause-roots g c = ok_map c.update_piece.result (λ proxy roots. roots ∙ (c.in_ok-made.ensures.far).wide) c.update_piece.ensures.roots

pub returns-clause-ok : goal.returns-clause-ok
returns-clause-ok g c =
    ok_map c.update_piece.result (λ proxy updates.
    far_updated {d = g.D.Disk} c.args.piece c.in_ok-made.made (place_of c.args.rid) c.in_ok-made.ensures.far {r0 = c.args.records.now} {r1 = c.make_far.new.records} {x0 = c.args.disk.now} {x1 = c.make_far.new.disk} c.in_ok-made.ensures.ok
    {r2 = c.update_piece.new.records} {x2 = c.update_piece.new.disk} (place_named proxy) updates) c.update_piece.ensures.ok

pub returns-clause-keeps : goal.returns-clause-keeps
returns-clause-keeps g c =
    ok_map c.update_piece.result (λ proxy keeps. (
      runs_then {r0 = c.args.records.now} {r1 = c.make_far.new.records} {r2 = c.update_piece.new.records} c.in_ok-made.ensures.keeps.0 keeps.0,
      saved_then {d = g.D.Disk} {r0 = c.args.records.now} {r1 = c.make_far.new.records} {r2 = c.update_piece.new.records} {x0 = c.args.disk.now} {x1 = c.make_far.new.disk} {x2 = c.update_piece.new.disk} c.in_ok-made.ensures.keeps.1 keeps.1,
      keeps.2,
    )) c.update_piece.ensures.keeps

pub returns-clause-refused : goal.returns-clause-refused
returns-clause-refused g c =
    err_map c.update_piece.result (λ e refused.
    update_refused {d = g.D.Disk} c.args.piece c.in_ok-made.made (place_of c.args.rid) c.in_ok-made.ensures.far {r0 = c.args.records.now} {r1 = c.make_far.new.records} {x0 = c.args.disk.now} {x1 = c.make_far.new.disk} c.in_ok-made.ensures.ok
    c.in_ok-made.ensures.keeps.0 c.in_ok-made.ensures.keeps.1 c.make_far.ensures.still c.in_ok-made.ensures.leaves c.args.rid.page c.update_piece.new.records c.update_piece.new.disk e refused) c.update_piece.ensures.refused
