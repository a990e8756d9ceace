use Rattle.std.proofs.Common.{[], ◌∷◌}
use Rattle.nx_pyx.proofs.PrefixLemmas.{prefix-all, prefix-rest}
use Rattle.nx_pyx.proofs.writer.push_name.Goals as goal

pub returns-clause-prefix : goal.returns-clause-prefix
returns-clause-prefix c =
    prefix-rest _ _ _ (c.args.before ∷ []) _ c.in_ok-push.ensures.ok (prefix-all _ _ _ c.in_ok-extend_from_slice.ensures.ok)
