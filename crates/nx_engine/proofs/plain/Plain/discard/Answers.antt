use Rattle.std.proofs.Common.{sym, ◌∙◌}
use Rattle.nx_engine.proofs.MapLemmas.{get_shown, remove_shown, removed_documents}
use Rattle.nx_engine.proofs.StepLemmas.{by_found, by_absent}
use Rattle.nx_engine.proofs.plain.Plain.discard.Goals as goal
use Rattle.nx_engine.proofs.plain.Plain.discard.Goals.{in-Some, in-None}

pub invariant_of-self : goal.invariant_of-self
invariant_of-self c = removed_documents _ c.remove.new.self _ c.self.invariant c.remove.ensures.entries c.remove.ensures.ordered

pub returns-clause-reply : goal.returns-clause-reply
returns-clause-reply c =
    let got = get_shown (record { view = c.self.view_is; are = c.self.invariant }) c.as_slice.ensures ∙ sym c.remove.ensures.value in
    elim c.match-remove.branch [ in-Some w ↦ w.result-is ∙ sym (by_found _ _ _ _ (got ∙ w.in-Some.is)) | in-None w ↦ w.result-is ∙ sym (by_absent _ _ _ (got ∙ w.in-None.is)) ]

pub returns-clause-documents : goal.returns-clause-documents
returns-clause-documents c = remove_shown c.remove.new.self _ _ (record { view = c.self.view_is; are = c.self.invariant }) c.as_slice.ensures c.remove.ensures.updates c.remove.ensures.ordered
