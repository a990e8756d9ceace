use Rattle.std.proofs.Common.{arith}
use Rattle.nx_hold.proofs.WrittenLemmas.{head_for, headless, inline_for, chained_for}
use Rattle.nx_hold.proofs.lists.list_named.Goals as goal

pub returns-in_default : goal.returns-in_default
returns-in_default c stored is = absurd (headless c.args.bytes.now stored is c.in_default.ensures)

pub returns : goal.returns
returns c stored is = chained_for c.in-Some.head stored (head_for c.args.bytes.now c.in-Some.field-0-1.now c.in-Some.head stored is c.in-Some.ensures) (let t = c.if-head-ne2.false in omega arith)
