use Rattle.std.proofs.Common.{Some, sym, ap, ◌∙◌}
use Rattle.nx_parts.specs.declared.interval.Interval.TheVariants.{Root}
use Rattle.nx_bounds.specs.declared.text.PlanLine.TheVariants.{Part}
use Rattle.nx_bounds.proofs.PlanFields.{root-not, root-is}
use Rattle.nx_bounds.proofs.text.read.root_line.Goals as goal

pub returns-in_err-weight : goal.returns-in_err-weight
returns-in_err-weight c = rw c.from_residual.ensures (sym (root-not c.args.others.now c.in_err-weight.ensures))

pub returns : goal.returns
returns c = ap (λ w. Some (Part Root w)) c.in_ok-weight.ensures.1 ∙ sym (root-is c.args.others.now c.in_ok-weight.ensures.0)
