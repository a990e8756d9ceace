use Rattle.std.proofs.Common.{sym, ap, ◌∙◌}
use Rattle.nx_pyx.specs.Lines.{without_cr}
use Rattle.nx_script.proofs.ParserLemmas.{last_none, last_begins, last_says}
use Rattle.nx_script.proofs.parser.Parser.last_line.Goals as goal

pub returns-then-is_empty : goal.returns-then-is_empty
returns-then-is_empty c = last_none c.args.self.now c.requires (sym c.if-is_empty.ensures)

pub returns-then-begins_load : goal.returns-then-begins_load
returns-then-begins_load c =
    last_begins c.args.self.now c.without_cr-line.result.now c.requires (sym c.if-is_empty.ensures) (c.without_cr-line.ensures ∙ ap without_cr c.as_slice.ensures)
    (sym c.if-begins_load.ensures)

pub returns : goal.returns
returns c =
    last_says c.args.self.now c.without_cr-line.result.now c.requires (sym c.if-is_empty.ensures) (c.without_cr-line.ensures ∙ ap without_cr c.as_slice.ensures)
    c.in_ok-parse.field-0 (sym c.if-begins_load.ensures) c.in_ok-parse.ensures
