use Rattle.std.proofs.Common.{ℕ, List, sym, subst}
use Rattle.std.proofs.lemmas.Result.{IfOk-weaker}
use Rattle.nx_script.specs.BeforeDot.{before_dot}
use Rattle.nx_script.specs.Body.{Says}
use Rattle.nx_script.proofs.DocumentLines.{says_lines, read_before}
use Rattle.nx_script.proofs.body.Body.finish.Goals as goal

pub returns-clause-lines : goal.returns-clause-lines
returns-clause-lines c = IfOk-weaker c.said.result _ _ (λ said h s read. says_lines s said read.ended (h s read.read)) c.said.ensures

pub returns-clause-within : goal.returns-clause-within
returns-clause-within c = IfOk-weaker c.said.result _ _ (λ said h s within. h (before_dot s) (read_before c.args.self s within)) c.said.ensures

pub returns-clause-ended : goal.returns-clause-ended
returns-clause-ended c =
    IfOk-weaker c.said.result _ _ (λ said h s ends more. subst (λ (l : List ℕ). Says l said) (sym (ends.before more)) (h ends.prefix ends.read.read)) c.said.ensures
