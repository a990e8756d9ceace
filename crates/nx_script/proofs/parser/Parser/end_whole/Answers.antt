use Rattle.std.proofs.Common.{◌++◌, ◌∙◌}
use Rattle.std.proofs.lemmas.Result.{IfOk-weaker}
use Rattle.nx_script.proofs.WholeLemmas.{ends_line}
use Rattle.nx_script.proofs.parser.Parser.end_whole.Goals as goal

pub returns : goal.returns
returns c =
    IfOk-weaker c.whole_line.result _ _
    (λ line gives. ends_line c.args.self.now _ c.args.rest.now line c.requires (cc)
    (λ rest held. gives (rest ++ c.args.rest.now) (c.as_slice.ensures ∙ c.replace-held.ensures.value ∙ c.in_ok-hold.ensures.held rest held)))
    c.whole_line.ensures
