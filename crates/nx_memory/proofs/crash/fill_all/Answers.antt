use Rattle.std.proofs.Common.{ap, ◌∙◌, arith}
use Rattle.nx_memory.specs.Undo.{filled}
use Rattle.nx_memory.proofs.UndoLemmas.{change_at, filled_none, filled_more}
use Rattle.nx_memory.proofs.crash.fill_all.Goals as goal

pub loop-change-init : goal.loop-change-init
loop-change-init c = filled_none c.args.area c.args.bytes.now.items

pub loop-change-preserved : goal.loop-change-preserved
loop-change-preserved c =
    let changes = c.args.changes.now in
    let i = c.loop-change.change-index in
    c.in_ok-fill.ensures
    ∙ ap (filled c.args.area (change_at changes i)) c.loop-change.invariant
    ∙ filled_more c.args.area changes i c.args.bytes.now.items (omega arith)
