use Rattle.nx_engine.proofs.MapLemmas.{empty_documents}
use Rattle.nx_engine.proofs.plain.Plain.new.Goals as goal

pub returns : goal.returns
returns c = empty_documents c.new.result c.new.ensures.empty
