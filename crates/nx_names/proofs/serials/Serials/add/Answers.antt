use Rattle.std.proofs.Common.{◌<◌, ◌≤◌, length, refl, sym, arith}
use Rattle.std.proofs.lemmas.Bool.Decides.{nat_tests}
use Rattle.std.proofs.lemmas.Result.{on_ok_weaker}
use Rattle.nx_names.proofs.NumberLemmas.{adds_to, adds_first}
use Rattle.nx_names.proofs.serials.Serials.add.Goals as goal

pub returns-in-Some : goal.returns-in-Some
returns-in-Some c =
    let low : c.args.number < length c.args.self.now.lists.items = grind (arith, nat_tests, c.in-Some.ensures.variant, c.args.self.now.lists.ok) in
    on_ok_weaker c.add_open.result (λ opens. adds_to c.args.self.now c.args.number c.args.around.now c.in-Some.serials.now c.add_open.new.serials low (sym c.in-Some.ensures.value) opens) c.add_open.ensures

pub returns-in_ok-push-in-None : goal.returns-in_ok-push-in-None
returns-in_ok-push-in-None c =
    let past : length c.args.self.now.lists.items ≤ c.args.number = grind (arith, nat_tests, c.in-None.ensures.variant, c.args.self.now.lists.ok) in
    adds_first c.args.self.now _ c.args.number c.args.around.now c.in_ok-from_slice-in-None.field-0 past refl c.in_ok-push-in-None.ensures.items c.in_ok-from_slice-in-None.ensures.items
