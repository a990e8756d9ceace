use Rattle.std.proofs.Common.{sym, ◌∙◌}
use Rattle.std.proofs.lemmas.Result.{IfOk-weaker}
use Rattle.nx_script.proofs.parser.Parser.finish.Goals as goal

pub returns-in-Some : goal.returns-in-Some
returns-in-Some c =
    IfOk-weaker c.last_load.result _ _ (λ last h seen commands parsed. h c.args.self.now seen commands (sym c.take.ensures.value ∙ c.in-Some.is) parsed) c.last_load.ensures
