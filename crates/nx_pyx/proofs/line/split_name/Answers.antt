use Rattle.std.proofs.Common.{◌+◌, ◌-◌, length, drop, arith, sym, ◌∙◌, length-drop, take_all}
use Rattle.nx_pyx.specs.Event.{is_space}
use Rattle.nx_pyx.proofs.LineLemmas.{before_first-Some, after_first-Some, before_first-None, after_first-None}
use Rattle.nx_pyx.proofs.line.split_name.Goals as goal

pub returns-in-Some-clause-name : goal.returns-in-Some-clause-name
returns-in-Some-clause-name c = before_first-Some is_space c.args.rest.now c.in-Some.end (sym c.in-Some.ensures.at)

pub returns-in-Some-clause-content : goal.returns-in-Some-clause-content
returns-in-Some-clause-content c =
    let rest = c.args.rest.now in
    let end = c.in-Some.end in
    take_all (length rest - (end + 1)) (drop (end + 1) rest) (omega (arith, length-drop (end + 1) rest))
    ∙ after_first-Some is_space rest end (sym c.in-Some.ensures.at)

pub returns-in-None-clause-name : goal.returns-in-None-clause-name
returns-in-None-clause-name c = before_first-None is_space c.args.rest.now (sym c.in-None.ensures.at)

pub returns-in-None-clause-content : goal.returns-in-None-clause-content
returns-in-None-clause-content c = after_first-None is_space c.args.rest.now (sym c.in-None.ensures.at)
