use Rattle.std.proofs.Common.{refl, ◌∙◌, rules}
use Rattle.nx_pyx.proofs.PrefixLemmas.{prefix-take, less-left}
use Rattle.nx_bounds.proofs.GrownLemmas.{grown_none, grown_then}
use Rattle.nx_bounds.proofs.text.writer.PlanWriter.fill.Goals as goal

pub returns-in_err-step-clause-prefix : goal.returns-in_err-step-clause-prefix
returns-in_err-step-clause-prefix c =
    prefix-take _ _ _ _ (grown_then _ _ _ c.loop-self.invariant.begun c.step.ensures.begun) (c.step.ensures.text ∙ c.loop-self.invariant.text)

pub returns-then-not-branch-clause-prefix : goal.returns-then-not-branch-clause-prefix
returns-then-not-branch-clause-prefix c =
    prefix-take _ _ _ _ (grown_then _ _ _ c.loop-self.invariant.begun c.step.ensures.begun) (c.step.ensures.text ∙ c.loop-self.invariant.text)

pub loop-self-init : goal.loop-self-init
loop-self-init c = record { text = refl; begun = grown_none _ _ refl }

pub loop-self-preserved : goal.loop-self-preserved
loop-self-preserved c = record {
  text = c.step.ensures.text ∙ c.loop-self.invariant.text;
  begun = grown_then _ _ _ c.loop-self.invariant.begun c.step.ensures.begun;
}

pub loop-self-smaller : goal.loop-self-smaller
loop-self-smaller c = less-left c.loop-self.block c.loop-self.self c.step.new.block c.step.new.self c.step.ensures.text (search rules)

pub returns-clause-prefix : goal.returns-clause-prefix
returns-clause-prefix c = prefix-take _ _ _ _ c.loop-self.invariant.begun c.loop-self.invariant.text
