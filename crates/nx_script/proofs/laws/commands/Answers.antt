use Rattle.nx_script.proofs.OneList.{one_list}
use Rattle.nx_script.proofs.laws.commands.Goals as goal

pub returns : goal.returns
returns c = one_list
