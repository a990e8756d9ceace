use Rattle.std.proofs.Common.{◌≡◌, ◌∷◌, decimal, get_or, rules}
use Rattle.nx_pyx.specs.Path.{step_text}
use Rattle.nx_pyx.proofs.PathLemmas.{prefix-step, prefix-steps}
use Rattle.nx_pyx.proofs.paths.push_path.Goals as goal

pub returns-in_err-push_number-clause-prefix : goal.returns-in_err-push_number-clause-prefix
returns-in_err-push_number-clause-prefix c =
    prefix-step c.args.block.now c.loop-position.block c.push_number.new.block c.args.positions.now c.loop-position.position-index c.loop-position-test.true c.loop-position.invariant
    (let step : 47 ∷ decimal c.from.result ≡ step_text (get_or c.args.positions.now c.loop-position.position-index 0) = search rules in step) c.push_number.ensures.prefix

pub returns-clause-prefix : goal.returns-clause-prefix
returns-clause-prefix c = prefix-steps c.args.block.now c.loop-position.block c.args.positions.now c.loop-position.position-index c.loop-position.invariant
