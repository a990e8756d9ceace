use Rattle.std.proofs.Common.{arith, ◌<◌, List, length, refl}
use Rattle.nx_piece.specs.declared.piece.Item.{Item}
use Rattle.nx_piece_edits.proofs.ShortLemmas.{run_smaller, run_gone}
use Rattle.nx_piece_edits.proofs.shortening.shorten_run.Goals as goal

pub returns-then-count-gt1 : goal.returns-then-count-gt1
returns-then-count-gt1 c =
    let items : List Item = c.args.items.now.items in
    let within : c.args.place < length items = omega arith in
    run_smaller items _ c.args.place c.args.count within (omega arith) refl

pub returns-else-count-gt1 : goal.returns-else-count-gt1
returns-else-count-gt1 c = run_gone c.args.items.now.items c.remove.new.self.items c.args.place c.args.count (omega arith) c.remove.ensures.by_index.2
