use Rattle.std.proofs.Common.{ℕ, Bool, List, not, ◌||◌, ap, ◌∙◌}
use Rattle.std.specs.Global.{Vec}
use Rattle.std.specs.Str.{bytes_eq}
use Rattle.nx_pyx.specs.Fault.{is_among}
use Rattle.nx_pyx.proofs.NamesLemmas.{texts, found_is_among, is_among-insert}
use Rattle.nx_pyx.proofs.names.Names.insert.Goals as goal

pub returns : goal.returns
returns c = λ names h.
    let keys = c.args.self.now.names.keys in
    let name = c.in_ok-from_slice.field-0 in
    let text = c.args.name.now in
    let same = c.in_ok-from_slice.ensures.items in (
      c.in_ok-insert.ensures.added ∙ ap not (found_is_among name keys ∙ h.same name.items ∙ ap (λ (n : List ℕ). is_among n names) same),
      λ _. record {
        same = λ q. ap (λ (ks : List (Vec ℕ)). is_among q (texts ks)) c.in_ok-insert.ensures.keys
            ∙ is_among-insert q name keys
            ∙ ap (λ (n : List ℕ). bytes_eq q n || is_among q (texts keys)) same
            ∙ ap (λ (b : Bool). bytes_eq q text || b) (h.same q);
      },
    )
