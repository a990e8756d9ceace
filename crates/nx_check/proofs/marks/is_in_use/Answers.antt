use Rattle.std.proofs.Common.{sym}
use Rattle.nx_check.proofs.MarkLemmas.{unseen_not_in_use, slotted_in_use, slotted_not_in_use, not_false, not_true}
use Rattle.nx_check.proofs.marks.is_in_use.Goals as goal

pub returns-in-Unseen-clause-no : goal.returns-in-Unseen-clause-no
returns-in-Unseen-clause-no c = λ _ pages free used reached marked some has. unseen_not_in_use c.args.uses.now c.args.left.now pages free used reached c.args.page marked (sym c.in-Unseen.ensures) has

pub returns-in-Slotted-clause-yes : goal.returns-in-Slotted-clause-yes
returns-in-Slotted-clause-yes c = λ yes pages free used reached marked.
    slotted_in_use c.args.uses.now c.args.left.now pages free used reached c.args.page c.in-Slotted.first c.in-Slotted.count marked (sym c.in-Slotted.ensures) (c.has_any.ensures.no (not_true c.has_any.result yes))

pub returns-in-Slotted-clause-no : goal.returns-in-Slotted-clause-no
returns-in-Slotted-clause-no c = λ no pages free used reached marked some has.
    let any = c.has_any.ensures.yes (not_false c.has_any.result no) in
    slotted_not_in_use c.args.uses.now c.args.left.now pages free used reached c.args.page c.in-Slotted.first c.in-Slotted.count any.0 marked (sym c.in-Slotted.ensures) any.1 any.2 has
