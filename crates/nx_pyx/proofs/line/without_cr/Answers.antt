use Rattle.std.proofs.Common.{sym, ap, ◌∙◌, ◌∷◌, [], ◌++◌}
use borrow.Author.Tests.{ne_eqb}
use Rattle.nx_pyx.specs.Lines.{without_cr}
use Rattle.nx_pyx.proofs.LineLemmas.{without_cr-cr, without_cr-other}
use Rattle.nx_pyx.proofs.line.without_cr.Goals as goal

pub returns-then-last-eq13 : goal.returns-then-last-eq13
returns-then-last-eq13 c =
    sym (ap without_cr (c.in-Some.ensures.cases.0 ∙ ap (λ b. c.in-Some.prefix.now ++ b ∷ []) c.if-last-eq13.true) ∙ without_cr-cr c.in-Some.prefix.now)

pub returns-else-last-eq13 : goal.returns-else-last-eq13
returns-else-last-eq13 c =
    c.in-Some.ensures.cases.0
    ∙ sym (ap without_cr c.in-Some.ensures.cases.0 ∙ without_cr-other c.in-Some.prefix.now c.in-Some.last.now (ne_eqb _ _ c.if-last-eq13.false))
