use Rattle.std.proofs.Common.{◌≡◌, ℕ, List, ◌∙◌, subst}
use Rattle.nx_host.specs.Phase.{GivesAlone}
use Rattle.nx_replay.specs.Log.{replay}
use Rattle.nx_rules.specs.declared.verdict.Verdict.{Verdict}
use Rattle.nx_rules.specs.declared.verdict.Verdict.TheVariants.{Sound, Wrong}
use Rattle.nx_rules.specs.Verdict.{IsVerdict}
use Rattle.nx_filters.specs.declared.status.Status.TheVariants.{Damaged}
use Rattle.nx_front.specs.Init.{SaysLine}
use Rattle.nx_front.specs.Checking.{wrong_line}
use Rattle.nx_front.proofs.CheckingLemmas.{checks_told}
use Rattle.nx_front.proofs.check.check.Goals as goal

pub returns-in-Ok-Sound : goal.returns-in-Ok-Sound
returns-in-Ok-Sound g c =
    checks_told Sound c.say.result c.check.ensures.still
    (λ was settled. let found = c.in-Ok-Sound.ensures.verdict was settled in (found.0, subst (λ (v : Verdict). IsVerdict (replay was) v) c.in-Ok-Sound.field-0-is found.1))
    c.say.ensures.says c.say.ensures.alone

pub returns-in-Ok : goal.returns-in-Ok
returns-in-Ok g c =
    let d = g.H.Disk in
    let page = c.in-Ok-Wrong.page in
    let rule = c.in-Ok-Wrong.rule in
    let line : c.as_bytes.result.now ≡ wrong_line page rule = c.as_bytes.ensures.value ∙ c.in-Ok.ensures in
    checks_told (Wrong page rule) c.say-in-Ok.result c.check.ensures.still
    (λ was settled. let found = c.in-Ok-Wrong.ensures.verdict was settled in (found.0, subst (λ (v : Verdict). IsVerdict (replay was) v) c.in-Ok-Wrong.field-0-is found.1))
    (subst (λ (l : List ℕ). SaysLine l (Damaged page) c.say-in-Ok.result (d.beside c.check.new.disk) (d.beside c.say-in-Ok.new.host)) line c.say-in-Ok.ensures.says)
    (subst (λ (l : List ℕ). GivesAlone d l c.check.new.disk c.say-in-Ok.new.host) line c.say-in-Ok.ensures.alone)
