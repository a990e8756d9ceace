use Rattle.std.proofs.Common.{ℕ, List, sym, ap, ◌∙◌, subst}
use Rattle.std.proofs.lemmas.Result.{on_ok_weaker}
use Rattle.std.proofs.lemmas.Slice.Eq.{bytes_eq-Decides}
use Rattle.nx_matrix.specs.Label.{label_by}
use Rattle.nx_names.specs.Serials.{LabelNumbers, numbered_list, serials_at}
use Rattle.nx_names.specs.Opening.{AddsOpen}
use Rattle.nx_names.specs.Numbering.{AddsAt, AreRight}
use Rattle.nx_names.proofs.GatherLemmas.{begins_node}
use Rattle.nx_names.proofs.NumberLemmas.{serials_now, list_opens, still_numbered}
use Rattle.nx_names.proofs.gatherer.Gatherer.begin.Goals as goal

pub returns : goal.returns
returns c = on_ok_weaker c.add.result (λ adds. λ g is.
    let old = c.args.self.now in
    let mid = c.number_of.new.self in
    let label : List ℕ = label_by c.args.kind c.args.name.now in
    let number = c.in_ok-number.number in
    let found = c.in_ok-number.ensures.number is.right in
    let adds : AddsAt mid.serials number old.around.items c.add.new.self = subst (λ (xs : List ℕ). AddsAt mid.serials number xs c.add.new.self) (c.as_slice.ensures.value ∙ ap (λ v. v.items) c.in_ok-number.ensures.around) adds in
    begins_node old _ g is c.args.kind c.args.name.now (numbered_list c.add.new.self.lists.items number) c.in_ok-number.ensures.around c.in_ok-number.ensures.noted
    (serials_now old.serials mid.serials c.add.new.self label old.around.items number is.numbering found.0 adds)
    (λ asked e. subst (λ (l : List ℕ). AddsOpen (serials_at old.serials l) old.around.items (numbered_list c.add.new.self.lists.items number)) (sym ((bytes_eq-Decides asked label).0 e))
    (list_opens old.serials mid.serials c.add.new.self label old.around.items number is.numbering found.0 adds))
    (still_numbered old.serials mid.serials c.add.new.self label old.around.items number is.numbering found.0 adds)
    (subst (λ (m : LabelNumbers). AreRight m mid.hints) (sym adds.numbers) found.1)) c.add.ensures
