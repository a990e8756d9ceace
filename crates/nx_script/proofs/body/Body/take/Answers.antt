use Rattle.nx_script.proofs.DocumentLines.{takes_whole}
use Rattle.nx_script.proofs.body.Body.take.Goals as goal

pub returns-in_ok-go_on-in-None-clause-stands : goal.returns-in_ok-go_on-in-None-clause-stands
returns-in_ok-go_on-in-None-clause-stands c = takes_whole c.args.self.now c.go_on.new.self c.args.bytes.now c.in_ok-go_on-in-None.ensures
