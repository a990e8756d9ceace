use Rattle.std.proofs.Common.{refl, sym, ◌∙◌}
use Rattle.nx_engine.proofs.MapLemmas.{get_shown, match_copied}
use Rattle.nx_engine.proofs.plain.Plain.document.Goals as goal

pub returns-clause-found : goal.returns-clause-found
returns-clause-found c = match_copied _ c.get.result (get_shown (record { view = c.self.view_is; are = c.self.invariant }) refl ∙ sym c.get.ensures.value)
