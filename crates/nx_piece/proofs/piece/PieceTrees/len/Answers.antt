use Rattle.std.proofs.Common.{ap, ◌∙◌}
use Rattle.nx_piece.specs.Gapped.{grown_of}
use Rattle.nx_piece.proofs.WalkLemmas.{width_trees}
use Rattle.nx_piece.proofs.piece.PieceTrees.len.Goals as goal

pub returns : goal.returns
returns c = width_trees _ _ (ap grown_of c.as_slice.ensures.value ∙ c.self.view_is)
