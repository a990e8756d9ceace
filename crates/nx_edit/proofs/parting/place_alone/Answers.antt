use Rattle.std.proofs.Common.{◌≡◌, sym, ap, ◌∙◌, subst, arith}
use Rattle.std.proofs.lemmas.Result.{err_from_is_err_and}
use Rattle.nx_piece.specs.declared.piece.Piece.{Piece}
use Rattle.nx_piece.specs.Gapped.{Gapped, gapped_width}
use Rattle.nx_piece.specs.Valid.{AreNear}
use Rattle.nx_records.specs.declared.error.StoreError.{StoreError}
use Rattle.nx_records.specs.Refusals.{NotStored}
use Rattle.nx_records.proofs.RefusalLemmas.{err_passed}
use Rattle.nx_hold.specs.Changes.{place_named, piece_needs, AddsPiece}
use Rattle.nx_hold.specs.Pieces.{MayName}
use Rattle.nx_edit.specs.Parting.{alone_piece}
use Rattle.nx_edit.proofs.PassedLemmas.{piece_same}
use Rattle.nx_edit.proofs.SizeLemmas.{light_alone}
use Rattle.nx_edit.proofs.parting.place_alone.Goals as goal

pub add_piece-requires-clause-valid : goal.add_piece-requires-clause-valid
add_piece-requires-clause-valid g c = light_alone 256 c.args.leaf.node c.in-Ok.alone c.in-Ok.ensures.0 c.in-Ok.ensures.1 c.requires.written c.requires.light (omega arith)

pub add_piece-requires-clause-near : goal.add_piece-requires-clause-near
add_piece-requires-clause-near g c = subst AreNear (sym c.in-Ok.ensures.0) (c.requires.written.0, tt, tt)

pub returns-in_err-own-clause-refused : goal.returns-in_err-own-clause-refused
returns-in_err-own-clause-refused g c =
    let same : c.in-Ok.alone ≡ alone_piece c.args.leaf.node = piece_same c.in-Ok.alone (alone_piece c.args.leaf.node) c.in-Ok.ensures.0 c.in-Ok.ensures.1 in
    err_passed c.from_residual.result (λ (e : StoreError). NotStored g.D.Disk (λ was. piece_needs (alone_piece c.args.leaf.node)) (λ was. ⊥) 0 e c.args.records.now c.add_piece.new.records c.args.disk.now c.add_piece.new.disk)
    c.in_err-own.field-0.0 (err_from_is_err_and c.from_residual.result c.from_residual.ensures.1)
    (subst (λ (p : Piece). NotStored g.D.Disk (λ was. piece_needs p) (λ was. ⊥) 0 c.in_err-own.field-0.0 c.args.records.now c.add_piece.new.records c.args.disk.now c.add_piece.new.disk) same c.in_err-own.ensures.refused)

pub returns-clause-ok : goal.returns-clause-ok
returns-clause-ok g c saved now stands tidy may =
    let same : c.in-Ok.alone ≡ alone_piece c.args.leaf.node = piece_same c.in-Ok.alone (alone_piece c.args.leaf.node) c.in-Ok.ensures.0 c.in-Ok.ensures.1 in
    let next = c.in_ok-own.ensures.ok saved now stands tidy (subst (λ (f : Gapped). MayName now f) (sym c.in-Ok.ensures.0) may) in (
      next.0,
      next.1,
      next.2,
      (c.in_ok-own.own, c.in_ok-own.ensures.roots ∙ ap (λ (p : Piece). gapped_width p.body.roots) same, subst (λ (p : Piece). AddsPiece (place_named c.in_ok-own.own) p now next.0) same next.3, c.in-Ok-replace_by_row.ensures),
    )
