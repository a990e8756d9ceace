use Rattle.nx_split.proofs.PathLemmas.{listed_where_reached, reached_where_listed}
use Rattle.nx_split.proofs.laws.nodes_stand_where_paths_lead.Goals as goal

pub returns-clause-listed : goal.returns-clause-listed
returns-clause-listed c = listed_where_reached

pub returns-clause-reached : goal.returns-clause-reached
returns-clause-reached c = reached_where_listed
