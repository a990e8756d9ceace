use Rattle.std.proofs.Common.{ap, ◌∙◌}
use Rattle.nx_pyx.specs.Lines.{cut, without_cr}
use Rattle.nx_script.specs.Commands.{is_dot}
use Rattle.nx_script.proofs.Prefixes.{dot_prefix}
use Rattle.nx_script.proofs.body.Body.is_at_dot.Goals as goal

pub returns-clause-within : goal.returns-clause-within
returns-clause-within c =
    λ s within. c.is_dot.ensures
    ∙ ap is_dot (c.without_cr.ensures ∙ ap without_cr (c.as_slice.ensures ∙ within.held))
    ∙ dot_prefix (cut s).rest
