use Rattle.std.proofs.Common.{refl, arith}
use Rattle.nx_names.proofs.GatherLemmas.{begins_record}
use Rattle.nx_names.proofs.gatherer.Gatherer.enter.Goals as goal

pub returns : goal.returns
returns c = λ g is.
    begins_record c.args.self.now _ g is (record { page = c.args.page; slot = c.args.slot }) c.in-Ok.serial (omega (arith, c.ranges.slot.fits)) (grind (arith, c.in-Ok.ensures, c.len.ensures, c.args.self.now.noted.ok)) c.in_ok-push-2.ensures.items c.in_ok-push.ensures.items refl refl
