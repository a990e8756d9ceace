use Rattle.nx_weights.proofs.LimitLemmas.{document_within}
use Rattle.nx_par_driver.proofs.bounding.bounded.Goals as goal

pub once-requires-clause-limits : goal.once-requires-clause-limits
once-requires-clause-limits g c κs within = document_within c.args.tree.now c.requires.document
