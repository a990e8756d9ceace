use Rattle.std.proofs.Common.{◌∷◌, [], ◌∙◌}
use Rattle.nx_pyx.proofs.PrefixLemmas.{prefix-all, prefix-first, prefix-rest}
use Rattle.nx_pyx.proofs.writer.push_name_before_content.Goals as goal

pub returns-in_err-push_name-clause-prefix : goal.returns-in_err-push_name-clause-prefix
returns-in_err-push_name-clause-prefix c = prefix-first _ _ (c.args.before ∷ c.args.name.now) (32 ∷ []) c.push_name.ensures.prefix

pub returns-in_err-push-clause-prefix : goal.returns-in_err-push-clause-prefix
returns-in_err-push-clause-prefix c =
    prefix-first _ _ (c.args.before ∷ c.args.name.now) (32 ∷ []) (prefix-all _ _ _ (c.in_err-push.ensures.err ∙ c.in_ok-push_name.ensures.ok))

pub returns-clause-prefix : goal.returns-clause-prefix
returns-clause-prefix c =
    prefix-rest _ _ _ (c.args.before ∷ c.args.name.now) (32 ∷ []) c.in_ok-push_name.ensures.ok (prefix-all _ _ _ c.in_ok-push.ensures.ok)
