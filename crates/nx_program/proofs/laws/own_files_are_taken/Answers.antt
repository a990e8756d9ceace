use Rattle.nx_program.proofs.OwnLemmas.{own_is_taken}
use Rattle.nx_program.proofs.laws.own_files_are_taken.Goals as goal

pub returns : goal.returns
returns c = own_is_taken
