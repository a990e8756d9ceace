use Rattle.std.proofs.Common.{ap, ◌∙◌}
use Rattle.nx_piece.specs.Items.{gapped_of}
use Rattle.nx_piece.proofs.GappedLemmas.{gapped_of-push}
use Rattle.nx_build.proofs.items.add_proxy.Goals as goal

pub returns-clause-items : goal.returns-clause-items
returns-clause-items c = ap gapped_of c.in_ok-push-2.ensures.items ∙ gapped_of-push _ _ ∙ c.take_run-count.ensures
