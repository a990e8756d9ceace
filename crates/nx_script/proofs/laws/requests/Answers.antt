use Rattle.nx_script.proofs.OneRequestList.{one_request_list}
use Rattle.nx_script.proofs.laws.requests.Goals as goal

pub returns : goal.returns
returns c = one_request_list
