use Rattle.nx_weights.proofs.LimitLemmas.{document_within}
use Rattle.nx_par_tests.proofs.agreeing.plain.Goals as goal

pub bounds-requires-clause-limits : goal.bounds-requires-clause-limits
bounds-requires-clause-limits c = document_within c.args.tree.now c.requires.document
