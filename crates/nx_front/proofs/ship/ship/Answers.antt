use Rattle.std.proofs.Common.{◌≡◌, Some, sym, ap, ◌∙◌, subst}
use Rattle.nx_filters.specs.declared.status.Status.{Status}
use Rattle.nx_front.specs.Shipping.{ShipsGroups}
use Rattle.nx_front.specs.Endings.{said_lacking}
use Rattle.nx_front.proofs.ShippingLemmas.{ships_as, ships_refused, ships_starved}
use Rattle.nx_front.proofs.ship.ship.Goals as goal

pub returns-in-Ok : goal.returns-in-Ok
returns-in-Ok g c =
    let said = rw c.in-Ok.is at c.in-Some.ensures in
    let is : said_lacking c.ship-ended.result ≡ Some c.as_bytes.result.now = said ∙ ap Some (sym c.as_bytes.ensures.value) in
    ships_refused c.args.start c.ship-ended.result c.as_bytes.result.now is c.say.ensures.alone c.ship-ended.ensures c.say.result c.say.ensures.says

pub returns-in-Err : goal.returns-in-Err
returns-in-Err g c = ships_starved c.args.start c.ship-ended.result c.ship-ended.ensures

pub returns-in_default : goal.returns-in_default
returns-in_default g c =
    subst (λ (s : Status). ShipsGroups g.H.Disk c.args.start s c.args.host.now c.ship-ended.new.host) (sym c.shipping_status.ensures)
    (ships_as c.args.start c.ship-ended.result c.ship-ended.ensures)
