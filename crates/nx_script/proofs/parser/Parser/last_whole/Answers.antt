use Rattle.std.proofs.Common.{sym, ◌∙◌}
use Rattle.nx_script.proofs.WholeLemmas.{last_none, last_some}
use Rattle.nx_script.proofs.parser.Parser.last_whole.Goals as goal

pub returns-then-is_empty : goal.returns-then-is_empty
returns-then-is_empty c = last_none c.args.self.now (sym c.if-is_empty.ensures)

pub returns : goal.returns
returns c =
    last_some c.args.self.now c.in_ok-whole_line.field-0 (sym c.if-is_empty.ensures) (λ whole held. c.in_ok-whole_line.ensures whole (c.as_slice.ensures ∙ held))
