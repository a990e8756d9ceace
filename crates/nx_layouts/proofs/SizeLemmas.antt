-- What the nodes of a record weigh.
use Rattle.std.proofs.Common.{◌≡◌, refl, ◌∙◌, arith}
use Rattle.nx_piece.specs.Gapped.{Gapped, End, Grow, Gap, gapped_weight}
use Rattle.nx_cuts.specs.Cut.{Bare, Grown, Kept}
use Rattle.nx_layouts.specs.Layout.{Layout, laid_weight, gap_more, piece_body}
use Rattle.nx_layouts.proofs.NodeLemmas.{item_weighs}

weight_gap_more : (g : Gapped) → gapped_weight (gap_more g) ≡ gapped_weight g
weight_gap_more End = refl
weight_gap_more (Grow node below beside) = refl
weight_gap_more (Gap count beside) = refl

-- a piece weighs what its part weighs
pub body_weight : (a : Layout) → gapped_weight (piece_body a) ≡ laid_weight a
body_weight Bare = refl
body_weight (Grown node below beside) = omega (arith, item_weighs node, body_weight below, body_weight beside)
body_weight (Kept place members beside) = weight_gap_more (piece_body beside) ∙ body_weight beside
