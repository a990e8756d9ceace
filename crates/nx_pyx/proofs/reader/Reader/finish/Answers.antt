use Rattle.std.proofs.lemmas.Result.{IfOk-weaker, IfErr-weaker}
use Rattle.nx_pyx.proofs.StreamLemmas.{only_reading}
use Rattle.nx_pyx.proofs.reader.Reader.finish.Goals as goal

pub returns-clause-only : goal.returns-clause-only
returns-clause-only c =
    λ s tree read reads.
    only_reading c.end.result s tree (IfOk-weaker c.end.result _ _ (λ t h. h s read) c.end.ensures.ok)
    (IfErr-weaker c.end.result _ _ (λ e h. h s read) c.end.ensures.fault) reads
