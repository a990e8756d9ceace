use Rattle.std.proofs.Common.{◌≡◌}
use Rattle.nx_rules.specs.declared.verdict.Verdict.TheVariants.{Sound, Wrong}
use Rattle.nx_rules.proofs.VerdictLemmas.{one_verdict}
use Rattle.nx_rules.proofs.KeptLemmas.{stands_keeps}
use Rattle.nx_rules.proofs.laws.none_broken.Goals as goal

pub returns : goal.returns
returns c pages state stands rule page broken =
    let same : Sound ≡ Wrong page rule = one_verdict pages Sound (Wrong page rule) (stands_keeps pages state stands) broken in
    absurd (cc same)
