use Rattle.std.proofs.Common.{List, sym, ap, ◌∙◌}
use Rattle.std.specs.Prelude.{is_some}
use Rattle.std.specs.Option.{option_copied_mut}
use Rattle.std.proofs.lemmas.Bool.{false≢true}
use Rattle.nx_pyx.specs.DocumentName.{by_bytes}
use Rattle.nx_catalog.proofs.NameMap.{map_in-insert, get-map_in}
use Rattle.nx_catalog.specs.Inside.{names_of}
use Rattle.nx_catalog.proofs.InsideLemmas.{Kept, set_documents}
use Rattle.nx_catalog.proofs.PlaceLemmas.{names_set}
use Rattle.nx_catalog.proofs.saving.put_at.Goals as goal

pub returns-in-Some-clause-are : goal.returns-in-Some-clause-are
returns-in-Some-clause-are c =
    let h = c.get_mut.follows.holds c.args.entry in
    set_documents (c.get_mut.follows.lender c.args.entry) _ c.args.entry c.requires c.numbers_fit.ensures h.0 h.4 h.2

pub returns-in-Some-clause-put : goal.returns-in-Some-clause-put
returns-in-Some-clause-put c there =
    let h = c.get_mut.follows.holds c.args.entry in
    map_in-insert c.args.name.now c.args.documents.now (c.get_mut.follows.lender c.args.entry) c.args.entry c.requires.ordered h.4 (h.3 (sym (ap is_some (get-map_in c.args.documents.now c.args.name.now c.requires.ordered)) ∙ there))

pub returns-in_default-clause-put : goal.returns-in_default-clause-put
returns-in_default-clause-put c there =
    absurd (false≢true (sym (ap is_some (sym c.get_mut.ensures.value ∙ ap option_copied_mut c.in_default.is)) ∙ sym (ap is_some (get-map_in c.args.documents.now c.args.name.now c.requires.ordered)) ∙ there))

pub returns-in-Some-clause-names : goal.returns-in-Some-clause-names
returns-in-Some-clause-names c =
    let h = c.get_mut.follows.holds c.args.entry in
    ap (λ (es : List Kept). names_of (by_bytes es)) h.0 ∙ names_set _ c.args.entry c.args.documents.now.entries
