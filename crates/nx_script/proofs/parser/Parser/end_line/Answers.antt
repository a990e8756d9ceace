use Rattle.std.proofs.Common.{◌++◌, sym, ◌∙◌}
use Rattle.std.proofs.lemmas.Result.{IfOk-weaker}
use Rattle.nx_pyx.proofs.StreamLemmas.{still_none}
use Rattle.nx_script.proofs.ParserLemmas.{adds_line, means_whole, means_held}
use Rattle.nx_script.proofs.parser.Parser.end_line.Goals as goal

pub returns-then-is_empty : goal.returns-then-is_empty
returns-then-is_empty c =
    IfOk-weaker c.add.result _ _
    (λ command adds. adds_line command c.requires.unbroken
    (c.requires.outside, still_none c.args.self.now.held c.add.new.self.held (sym c.if-is_empty.ensures) c.add.ensures.held)
    (means_whole c.without_cr.result.now c.args.rest.now c.args.self.now.held c.without_cr.ensures (sym c.if-is_empty.ensures)) adds)
    c.add.ensures.added

pub returns : goal.returns
returns c =
    IfOk-weaker c.add-2.result _ _
    (λ command adds. adds_line command c.requires.unbroken
    (c.requires.outside, cc)
    (λ rest held. means_held c.without_cr-2.result.now c.as_slice.result.now (rest ++ c.args.rest.now) c.without_cr-2.ensures
    (c.as_slice.ensures ∙ c.replace-held.ensures.value ∙ c.in_ok-hold.ensures.held rest held)) adds)
    c.add-2.ensures.added
