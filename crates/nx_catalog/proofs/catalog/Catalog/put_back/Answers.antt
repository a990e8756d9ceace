use Rattle.std.proofs.Common.{sym, ap, ◌∙◌}
use Rattle.std.specs.FinMap.{contains_key, insert, remove}
use Rattle.nx_catalog.specs.Catalog.{Entries}
use Rattle.nx_catalog.proofs.InsideLemmas.{shown_map}
use Rattle.nx_catalog.proofs.SavingLemmas.{put_back, taken_back}
use Rattle.nx_catalog.proofs.catalog.Catalog.put_back.Goals as goal

pub returns-in-Some-clause-documents : goal.returns-in-Some-clause-documents
returns-in-Some-clause-documents c documents entry is before =
    let m = shown_map (record { view = c.self.view_is; are = c.self.invariant.0 }) in
    c.put_at.ensures.put (ap (λ (d : Entries). contains_key d c.args.name.now) m ∙ c.requires) ∙ ap (λ (d : Entries). insert d c.args.name.now c.in-Some.entry) (m ∙ is)
    ∙ put_back documents c.args.name.now entry c.in-Some.entry (sym before ∙ c.in-Some.is)

pub returns-in-None-clause-documents : goal.returns-in-None-clause-documents
returns-in-None-clause-documents c documents entry is before =
    c.remove.ensures.documents ∙ ap (λ (d : Entries). remove d c.args.name.now) (shown_map (record { view = c.self.view_is; are = c.self.invariant.0 }) ∙ is) ∙ taken_back documents c.args.name.now entry (sym before ∙ c.in-None.is)
