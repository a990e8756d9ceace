use Rattle.std.proofs.Common.{arith, ◌≤◌}
use Rattle.nx_piece_edits.proofs.SpotLemmas.{run_is_before}
use Rattle.nx_piece_edits.proofs.planting.run_before.Goals as goal

pub returns : goal.returns
returns c =
    let some : 1 ≤ c.args.index = omega arith in
    run_is_before c.args.items.now c.args.index c.run_at.result c.requires.apart some c.requires.within c.run_at.ensures
