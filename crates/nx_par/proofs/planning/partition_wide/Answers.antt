use Rattle.nx_weights.proofs.LimitLemmas.{document_within}
use Rattle.nx_par.proofs.planning.partition_wide.Goals as goal

pub bounds_wide-requires-clause-limits : goal.bounds_wide-requires-clause-limits
bounds_wide-requires-clause-limits g c κs within = document_within c.args.tree.now c.requires.document
