use Rattle.std.proofs.Common.{sym, refl, ◌∙◌}
use Rattle.nx_pyx.proofs.BuilderLemmas.{finished, fails_unclosed}
use Rattle.nx_pyx.proofs.builder.Builder.finish.Goals as goal

pub returns-then-not-is_outside-clause-err : goal.returns-then-not-is_outside-clause-err
returns-then-not-is_outside-clause-err c =
    fails_unclosed c.args.self c.fault.result c.fault.ensures (sym c.is_outside.ensures ∙ c.if-not-is_outside.true)

pub returns-clause-ok : goal.returns-clause-ok
returns-clause-ok c =
    λ ls taken. finished c.args.self ls _ taken (sym c.is_outside.ensures ∙ c.if-not-is_outside.false) c.if-not-self.false refl c.new.ensures c.new-2.ensures c.replace.ensures.value
