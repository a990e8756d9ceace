use Rattle.std.proofs.Common.{◌≡◌, Some, sym, ap, ◌∙◌, subst}
use Rattle.nx_filters.specs.declared.status.Status.{Status}
use Rattle.nx_front.specs.Applied.{ReceivesGroups}
use Rattle.nx_front.specs.Endings.{turned_away_line}
use Rattle.nx_front.proofs.AppliedLemmas.{receives_as, receives_refused, receives_starved}
use Rattle.nx_front.proofs.apply.apply.Goals as goal

pub returns-in-Ok : goal.returns-in-Ok
returns-in-Ok g c =
    let d = g.H.Disk in
    let said = rw c.in-Ok.is at c.in-Some.ensures in
    let is : turned_away_line c.apply-ended.result ≡ Some c.as_bytes.result.now = said ∙ ap Some (sym c.as_bytes.ensures.value) in
    receives_refused c.apply-ended.result c.as_bytes.result.now is c.say.ensures.alone c.apply-ended.ensures c.say.result c.say.ensures.says

pub returns-in-Err : goal.returns-in-Err
returns-in-Err g c = receives_starved c.apply-ended.result c.apply-ended.ensures

pub returns-in_default : goal.returns-in_default
returns-in_default g c =
    subst (λ (s : Status). ReceivesGroups g.H.Disk s c.args.host.now c.apply-ended.new.host) (sym c.applying_status.ensures)
    (receives_as c.apply-ended.result c.in_default.ensures c.apply-ended.ensures)
