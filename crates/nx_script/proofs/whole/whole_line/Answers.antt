use Rattle.nx_script.proofs.WholeLemmas.{gives_long, gives_short}
use Rattle.nx_script.proofs.whole.whole_line.Goals as goal

pub returns-then-line-gt-LONGEST_LINE : goal.returns-then-line-gt-LONGEST_LINE
returns-then-line-gt-LONGEST_LINE c = gives_long c.args.bytes.now c.without_cr-line.result.now c.without_cr-line.ensures c.if-line-gt-LONGEST_LINE.true

pub returns : goal.returns
returns c = gives_short c.args.bytes.now c.without_cr-line.result.now c.in_ok-from_slice.field-0 c.without_cr-line.ensures c.if-line-gt-LONGEST_LINE.false c.in_ok-from_slice.ensures
