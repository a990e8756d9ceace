use Rattle.std.proofs.Common.{ap, ◌∙◌, ◌==◌}
use Rattle.nx_piece.specs.Gapped.{grown_of}
use Rattle.nx_piece.proofs.WalkLemmas.{width_trees}
use Rattle.nx_piece.proofs.piece.PieceTrees.is_empty.Goals as goal

pub returns : goal.returns
returns c = c.is_empty.ensures ∙ ap (λ n. n == 0) (width_trees _ _ (ap grown_of c.as_slice.ensures.value ∙ c.self.view_is))
