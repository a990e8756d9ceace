use Rattle.std.proofs.Common.{[]}
use Rattle.nx_script.proofs.DocumentLines.{takes_lines}
use Rattle.nx_script.proofs.body.Body.take_lines.Goals as goal

pub returns-clause-stands : goal.returns-clause-stands
returns-clause-stands c =
    takes_lines c.requires.held c.before_dot-len.ensures
    c.in_ok-feed.ensures c.in_ok-hold.ensures.reader (c.in_ok-hold.ensures.held [] c.requires.held)
