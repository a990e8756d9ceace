use Rattle.nx_filters.proofs.PlannedLemmas.{document_more}
use Rattle.nx_filters.proofs.planned.PlannedConsumer.take.Goals as goal

pub returns-clause-ok : goal.returns-clause-ok
returns-clause-ok c = λ s document.
    document_more c.args.self.now.tree c.args.self.now.plan c.extend_from_slice.new.self c.args.block.now s document c.in_ok-extend_from_slice.ensures.ok
