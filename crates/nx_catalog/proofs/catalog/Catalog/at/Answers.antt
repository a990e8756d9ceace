use Rattle.std.proofs.Common.{ℕ, List, ap, sym, ◌∙◌, Some}
use Rattle.std.specs.Prelude.{option_map}
use Rattle.std.specs.Map.Iter.{deref_pair}
use Rattle.std.proofs.lemmas.Iterator.Consumers.{nth_from_yields_List, YieldsList-from_rest}
use Rattle.nx_catalog.proofs.InsideLemmas.{shown_at, shown_none}
use Rattle.nx_catalog.proofs.catalog.Catalog.at.Goals as goal

pub returns-in-Some : goal.returns-in-Some
returns-in-Some c =
    let found = nth_from_yields_List c.nth.result c.nth.new.self c.args.index c.nth.ensures.ran (YieldsList-from_rest c.self.inside.documents.entries c.iter.ensures.rest) in
    shown_at (record { view = c.self.view_is; are = c.self.invariant.0 }) c.args.index c.in-Some.name.now c.in-Some.entry.now (sym found ∙ ap (option_map deref_pair) c.in-Some.is)
    ∙ ap (λ (name : List ℕ). Some (name, c.in-Some.entry.now)) (sym c.as_slice.ensures.value)

pub returns-in-None : goal.returns-in-None
returns-in-None c =
    let found = nth_from_yields_List c.nth.result c.nth.new.self c.args.index c.nth.ensures.ran (YieldsList-from_rest c.self.inside.documents.entries c.iter.ensures.rest) in
    shown_none (record { view = c.self.view_is; are = c.self.invariant.0 }) c.args.index (sym found ∙ ap (option_map deref_pair) c.in-None.is)
