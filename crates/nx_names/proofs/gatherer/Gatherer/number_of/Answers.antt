use Rattle.std.proofs.Common.{◌≡◌, ℕ, List, sym, ◌∙◌, subst}
use Rattle.nx_matrix.specs.Label.{label_by}
use Rattle.nx_names.specs.declared.serials.Serials.{Serials}
use Rattle.nx_names.specs.Numbering.{NumbersLabel}
use Rattle.nx_names.proofs.NumberLemmas.{right_after}
use Rattle.nx_names.proofs.gatherer.Gatherer.number_of.Goals as goal

pub returns-clause-number : goal.returns-clause-number
returns-clause-number c = λ right.
    let old : Serials = c.args.self.now.serials in
    let new : Serials = c.number_of-2.new.self in
    let hints = c.args.self.now.hints in
    let name : List ℕ = label_by c.args.kind c.args.name.now in
    let is : c.as_slice-label.result.now ≡ name = c.as_slice-label.ensures.value ∙ c.in_ok-write_label.ensures in
    let number = c.in_ok-number.number in
    let labels : NumbersLabel old name new number = subst (λ (l : List ℕ). NumbersLabel old l new number) is c.in_ok-number.ensures in
    let after = right_after old new hints name number labels right in
    (labels, c.in_ok-keep.ensures new.numbers after ((subst (λ (l : List ℕ). NumbersLabel old l new number) (sym is) labels).has))
