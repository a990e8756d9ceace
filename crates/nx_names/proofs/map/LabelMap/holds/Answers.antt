use Rattle.std.proofs.Common.{List, ℕ, sym, ap, ◌∙◌, subst}
use Rattle.std.specs.List.Sorted.{IsNonDecreasing}
use Rattle.nx_names.specs.Serials.{is_in, serials_at}
use Rattle.nx_names.proofs.SerialLemmas.{found_serial}
use Rattle.nx_names.proofs.map.LabelMap.holds.Goals as goal

pub returns-in-Some : goal.returns-in-Some
returns-in-Some c =
    let serials = serials_at c.args.self.now.serials c.args.label.now in
    c.is_ok.ensures.value
    ∙ found_serial c.at.result.now c.in-Some.serial c.binary_search.result (subst IsNonDecreasing (sym c.at.ensures) (c.args.self.now.ascend c.args.label.now)) c.binary_search.ensures.position
    ∙ ap (λ (xs : List ℕ). is_in xs c.in-Some.serial) c.at.ensures ∙ sym (c.in-Some.ensures (is_in serials))
