use Rattle.std.proofs.Common.{◌∙◌, rules}
use Rattle.nx_pyx.specs.Text.{text_of}
use Rattle.nx_pyx.proofs.PrefixLemmas.{prefix-take, less-left}
use Rattle.nx_pyx.proofs.WriterLemmas.{more_lines}
use Rattle.nx_pyx.proofs.writer.Writer.fill.Goals as goal

pub returns-in_err-step-clause-prefix : goal.returns-in_err-step-clause-prefix
returns-in_err-step-clause-prefix c =
    let added = more_lines _ _ _ c.loop-self.invariant.lines c.step.ensures.lines in
    prefix-take _ _ _ _ (text_of added.0, added.1) (c.step.ensures.text ∙ c.loop-self.invariant.text)

pub returns-in_err-step-clause-lines : goal.returns-in_err-step-clause-lines
returns-in_err-step-clause-lines c = more_lines _ _ _ c.loop-self.invariant.lines c.step.ensures.lines

pub returns-then-not-branch-clause-prefix : goal.returns-then-not-branch-clause-prefix
returns-then-not-branch-clause-prefix c =
    let added = more_lines _ _ _ c.loop-self.invariant.lines c.step.ensures.lines in
    prefix-take _ _ _ _ (text_of added.0, added.1) (c.step.ensures.text ∙ c.loop-self.invariant.text)

pub returns-then-not-branch-clause-lines : goal.returns-then-not-branch-clause-lines
returns-then-not-branch-clause-lines c = more_lines _ _ _ c.loop-self.invariant.lines c.step.ensures.lines

pub loop-self-preserved : goal.loop-self-preserved
loop-self-preserved c = record {
  text = c.step.ensures.text ∙ c.loop-self.invariant.text;
  lines = more_lines _ _ _ c.loop-self.invariant.lines c.step.ensures.lines;
}

pub loop-self-smaller : goal.loop-self-smaller
loop-self-smaller c = less-left c.loop-self.block c.loop-self.self c.step.new.block c.step.new.self c.step.ensures.text (search rules)

pub returns-clause-prefix : goal.returns-clause-prefix
returns-clause-prefix c = prefix-take _ _ _ _ (text_of c.loop-self.invariant.lines.0, c.loop-self.invariant.lines.1) c.loop-self.invariant.text
