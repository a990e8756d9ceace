use Rattle.std.proofs.Common.{sym, ap, ◌∙◌}
use Rattle.nx_script.specs.declared.reply.Reply.TheVariants.{Exported}
use Rattle.nx_engine.proofs.MapLemmas.{get_shown}
use Rattle.nx_engine.proofs.StepLemmas.{by_found, by_absent}
use Rattle.nx_engine.proofs.plain.Plain.export.Goals as goal

pub returns-in_ok-write-in-Some : goal.returns-in_ok-write-in-Some
returns-in_ok-write-in-Some c =
    ap Exported c.in_ok-write-in-Some.ensures
    ∙ sym (by_found _ _ c.in-Some.tree.now _ (get_shown (record { view = c.self.view_is; are = c.self.invariant }) c.as_slice.ensures ∙ sym c.in-Some.ensures.value))

pub returns-in-None : goal.returns-in-None
returns-in-None c = sym (by_absent _ _ _ (get_shown (record { view = c.self.view_is; are = c.self.invariant }) c.as_slice.ensures ∙ sym c.in-None.ensures.value))
