use Rattle.std.proofs.Common.{◌∙◌, arith}
use Rattle.std.specs.Option.{option_copied}
use Rattle.std.proofs.lemmas.Result.{IfOk-weaker}
use Rattle.nx_split.specs.Piece.{sketch_of}
use Rattle.nx_split.proofs.SketchLemmas.{piece_is_light, piece_is_sketch, piece_is_splittable, piece_weighs}
use Rattle.nx_split.proofs.division.split.Goals as goal

pub split-requires-clause-k : goal.split-requires-clause-k
split-requires-clause-k c =
    omega (arith, c.requires.heavy, piece_weighs c.args.piece.now c.requires.piece)

pub split-requires-clause-sketch : goal.split-requires-clause-sketch
split-requires-clause-sketch c =
    piece_is_splittable c.args.k c.args.matrix.now (option_copied c.args.above) c.args.piece.now c.deref.result.now c.requires.piece c.requires.nodes (c.deref.ensures.value ∙ c.in_ok-spots.ensures)

pub returns : goal.returns
returns c =
    let rules = c.args.matrix.now in
    let above = option_copied c.args.above in
    let piece = c.args.piece.now in
    IfOk-weaker c.split.result _ _
    (λ division h. h (sketch_of rules above piece) (c.deref.ensures.value ∙ c.in_ok-spots.ensures) (piece_is_sketch rules above piece) (piece_is_light c.args.k rules above piece c.requires.nodes))
    c.split.ensures
