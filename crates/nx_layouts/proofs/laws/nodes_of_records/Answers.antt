use Rattle.nx_layouts.proofs.CountLemmas.{nodes_of_records}
use Rattle.nx_layouts.proofs.laws.nodes_of_records.Goals as goal

pub returns : goal.returns
returns c = nodes_of_records
