use Rattle.nx_program.proofs.CommandLemmas.{ran_over}
use Rattle.nx_program.proofs.process.command.Goals as goal

pub returns-in-Ok-host_of-clause-carried : goal.returns-in-Ok-host_of-clause-carried
returns-in-Ok-host_of-clause-carried g c =
    ran_over c.args.arguments _ _ _ _ c.in-Ok-host_of.host c.carry_out.result c.in-Ok.ensures.given c.in-Ok-host_of.ensures c.carry_out.ensures
