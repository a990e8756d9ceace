use Rattle.std.proofs.Common.{◌≡◌, ◌≤◌, ◌<◌, List, ℕ, length, get_or, Some, sym, ap, ◌∙◌, subst, arith}
use Rattle.std.proofs.lemmas.Bool.Decides.{nat_tests}
use Rattle.std.proofs.lemmas.Slice.Eq.{bytes_eq-Decides}
use Rattle.nx_matrix.specs.Label.{label_by}
use Rattle.nx_names.specs.Serials.{label_number}
use Rattle.nx_names.specs.declared.hints.Hint.{Hint}
use Rattle.nx_names.proofs.hints.Hints.number_in.Goals as goal

pub returns : goal.returns
returns c = λ numbers right.
    let label : List ℕ = label_by c.args.kind c.args.name.now in
    let hint : Hint = c.in_ok-hint.hint.now in
    let place = c.args.place in
    let items = c.args.self.now.hints.items in
    let found = c.in_ok-hint.ensures.lookup.3 in
    let low : place < length items = subst (λ (hs : List Hint). place < length hs) c.deref.ensures.value found.0 in
    let is : hint ≡ get_or items place hint = found.1 hint ∙ ap (λ (hs : List Hint). get_or hs place hint) c.deref.ensures.value in
    let own : hint.label.items ≡ label = sym c.as_slice.ensures.value ∙ (bytes_eq-Decides c.as_slice.result.now label).0 (sym c.is_label.ensures ∙ c.if-not-is_label.false) in
    let some : 1 ≤ length hint.label.items = grind (arith, nat_tests, c.is_empty.ensures, c.if-is_empty.false, hint.label.ok) in
    ap (label_number numbers) (sym own) ∙ ap (λ (h : Hint). label_number numbers h.label.items) is
    ∙ right place hint low (subst (λ (h : Hint). 1 ≤ length h.label.items) is some) ∙ sym (ap (λ (h : Hint). Some h.number) is)
