use Rattle.nx_catalog.proofs.SavingLemmas.{IsCopied}
use Rattle.nx_catalog.proofs.saving.copied.Given as goal

abbrev pub invariant-loop-rule : goal.invariant-loop-rule
invariant-loop-rule l = IsCopied l.rule-items l.rule-index l.copy
