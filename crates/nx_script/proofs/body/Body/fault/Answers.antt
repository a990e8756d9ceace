use Rattle.std.proofs.Common.{ap, ◌∙◌}
use Rattle.nx_script.specs.BeforeDot.{before_dot}
use Rattle.nx_script.specs.Body.{fault_in}
use Rattle.nx_script.proofs.DocumentLines.{told, read_before}
use Rattle.nx_script.proofs.body.Body.fault.Goals as goal

pub returns : goal.returns
returns c = λ s within. c.fault_in.ensures ∙ ap fault_in c.error.ensures ∙ told _ (before_dot s) (read_before c.args.self.now s within)
