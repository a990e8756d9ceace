use Rattle.std.proofs.Common.{◌≡◌, [], None, ap, ◌∙◌}
use Rattle.std.proofs.lemmas.Result.{IfOk-weaker}
use Rattle.nx_sketch.specs.Sketch.{spots_of}
use Rattle.nx_split.specs.Piece.{sketch_of}
use Rattle.nx_split.proofs.SketchLemmas.{piece_is_flat, piece_is_sketch}
use Rattle.nx_split.proofs.EntryLemmas.{marks_alike}
use Rattle.nx_split.proofs.division.separator.Goals as goal

pub separator-requires : goal.separator-requires
separator-requires c =
    piece_is_flat [] None c.args.piece.now c.deref.result.now c.requires.piece
    (c.deref.ensures.value ∙ c.in_ok-spots.ensures ∙ ap (λ r. spots_of (sketch_of r None c.args.piece.now)) c.new-matrix.ensures)

pub returns : goal.returns
returns c =
    let is : c.deref.result.now ≡ spots_of (sketch_of [] None c.args.piece.now) =
    c.deref.ensures.value ∙ c.in_ok-spots.ensures ∙ ap (λ r. spots_of (sketch_of r None c.args.piece.now)) c.new-matrix.ensures in
    IfOk-weaker c.separator.result _ _
    (λ found h rules above. h (sketch_of [] None c.args.piece.now) is (piece_is_sketch [] None c.args.piece.now).rising
    ∙ marks_alike rules above c.args.piece.now c.args.target c.args.tolerance)
    c.separator.ensures
