use Rattle.std.proofs.Common.{ℕ, Bool, List, not, ◌||◌, ap, sym, ◌∙◌}
use Rattle.std.specs.Global.{Vec}
use Rattle.std.specs.Str.{bytes_eq}
use Rattle.nx_pyx.specs.Fault.{is_among}
use Rattle.nx_pyx.proofs.NamesLemmas.{texts, found_is_among, is_among-insert}
use Rattle.nx_check.proofs.siblings.Siblings.add_name.Goals as goal

pub returns-clause-new : goal.returns-clause-new
returns-clause-new c =
    let keys = c.args.self.now.names.keys in
    let name = c.in_ok-from_slice.field-0 in
    let same = c.in_ok-from_slice.ensures.items in
    c.in_ok-insert.ensures.added ∙ ap not (found_is_among name keys ∙ ap (λ (n : List ℕ). is_among n (texts keys)) same)
    ∙ ap (λ (b : Bool). not (b || is_among c.args.name.now (texts keys))) (sym (sym c.has_attribute_named.ensures ∙ c.if-has_attribute_named.false))

pub returns-clause-added : goal.returns-clause-added
returns-clause-added c = λ yes q.
    let keys = c.args.self.now.names.keys in
    let name = c.in_ok-from_slice.field-0 in
    let same = c.in_ok-from_slice.ensures.items in
    ap (λ (ks : List (Vec ℕ)). is_among q (texts ks)) c.in_ok-insert.ensures.keys ∙ is_among-insert q name keys ∙ ap (λ (n : List ℕ). bytes_eq q n || is_among q (texts keys)) same
