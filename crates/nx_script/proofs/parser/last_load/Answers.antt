use Rattle.nx_script.proofs.ParserLemmas.{last_cut, last_ends}
use Rattle.nx_script.proofs.parser.last_load.Goals as goal

pub returns-then-not-is_at_dot : goal.returns-then-not-is_at_dot
returns-then-not-is_at_dot c =
    λ parser seen commands inside parsed. last_cut parser c.args.load inside c.is_at_dot.result c.is_at_dot.ensures.held c.if-not-is_at_dot.true seen commands parsed

pub returns : goal.returns
returns c =
    λ parser seen commands inside parsed.
    last_ends parser c.args.load inside c.is_at_dot.result c.is_at_dot.ensures.held c.in_ok-loaded.field-0 c.if-not-is_at_dot.false c.in_ok-loaded.ensures seen commands parsed
