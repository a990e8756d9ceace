-- The record that a walk comes to next, and the rule that it breaks.
use Rattle.std.specs.Prelude.{ℕ}
use Rattle.nx_replay.specs.Log.{Pages}
use Rattle.nx_rules.specs.declared.verdict.PageRule.{PageRule}
use Rattle.nx_rules.specs.declared.verdict.PageRule.TheVariants as rule
use Rattle.nx_rules.specs.Walked.{Named}
use Rattle.nx_rules.specs.Tour.{Visit, Tour}
use Rattle.nx_rules.specs.Broken.{BreaksMissing, BreaksSlotted, BreaksTwice, BreaksForm, BreaksChain, BreaksRoots, BreaksDocument, BreaksWeight}

-- the record that a walk comes to next breaks the rule
abbrev pub BreaksAt : Pages → Tour → Visit → Named → PageRule → ℕ → Type 0
BreaksAt pages tour visit named rule.Missing page = BreaksMissing pages tour visit named page
BreaksAt pages tour visit named rule.Slotted page = BreaksSlotted pages tour visit named page
BreaksAt pages tour visit named rule.Twice page = BreaksTwice pages tour visit named page
BreaksAt pages tour visit named rule.Form page = BreaksForm pages tour visit named page
BreaksAt pages tour visit named rule.Chain page = BreaksChain pages tour visit named page
BreaksAt pages tour visit named rule.Roots page = BreaksRoots pages tour visit named page
BreaksAt pages tour visit named rule.Document page = BreaksDocument pages tour visit named page
BreaksAt pages tour visit named rule.Weight page = BreaksWeight pages tour visit named page
BreaksAt pages tour visit named _ page = ⊥
