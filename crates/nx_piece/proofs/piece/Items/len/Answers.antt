use Rattle.std.proofs.Common.{ap, ◌∙◌}
use Rattle.nx_piece.specs.Items.{gapped_of}
use Rattle.nx_piece.proofs.WalkLemmas.{width_items}
use Rattle.nx_piece.proofs.piece.Items.len.Goals as goal

pub returns : goal.returns
returns c = width_items _ _ (ap gapped_of c.as_slice.ensures.value ∙ c.self.view_is)
