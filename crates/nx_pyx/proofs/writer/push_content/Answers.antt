use Rattle.std.proofs.Common.{[], ◌∷◌}
use Rattle.nx_pyx.proofs.PrefixLemmas.{prefix-rest}
use Rattle.nx_pyx.proofs.writer.push_content.Goals as goal

pub returns-clause-prefix : goal.returns-clause-prefix
returns-clause-prefix c = prefix-rest _ _ _ (c.args.before ∷ []) _ c.in_ok-push.ensures.ok c.push_escaped.ensures.prefix
