use Rattle.nx_pyx.proofs.PathLemmas.{path-text, path_text-positions_of}
use Rattle.nx_pyx.proofs.laws.paths.Goals as goal

pub returns-clause-read : goal.returns-clause-read
returns-clause-read c = path-text

pub returns-clause-written : goal.returns-clause-written
returns-clause-written c = path_text-positions_of
