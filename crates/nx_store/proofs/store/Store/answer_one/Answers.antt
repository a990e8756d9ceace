use Rattle.std.proofs.Common.{◌≡◌, ℕ, List, refl, sym, subst, ap, ◌∙◌}
use Rattle.std.proofs.lemmas.Bool.{false≢true}
use Rattle.nx_script.specs.declared.command.Command.{Command}
use Rattle.nx_script.specs.declared.command.Command.TheVariants.{Export}
use Rattle.nx_script.specs.declared.request.Request.TheVariants.{Single}
use Rattle.nx_store.specs.Reads.{is_lookup, needs_no_page, ReadsToFirst}
use Rattle.nx_store.specs.Staying.{LeavesOthers}
use Rattle.nx_store.specs.Store.{IsAnswered}
use Rattle.nx_store.proofs.ReadLemmas.{on_ok, other_reads}
use Rattle.nx_store.proofs.store.Store.answer_one.Goals as goal

pub returns-in-Export-clause-answers : goal.returns-in-Export-clause-answers
returns-in-Export-clause-answers g c state at told =
    subst (λ (k : Command). IsAnswered g.H.Disk c.answer_export.result state (Single k) c.args.self.now c.answer_export.new.self c.args.host.now c.answer_export.new.host) (ap Export c.as_slice.ensures ∙ sym c.in-Export.is) (c.answer_export.ensures.answers state at told)

pub returns-in-Export-clause-leaves : goal.returns-in-Export-clause-leaves
returns-in-Export-clause-leaves g c =
    subst (λ (k : Command). LeavesOthers g.H.Disk (Single k) c.args.self.now c.answer_export.new.self c.args.host.now c.answer_export.new.host) (ap Export c.as_slice.ensures ∙ sym c.in-Export.is) c.answer_export.ensures.leaves

pub returns-in-Export-clause-holds : goal.returns-in-Export-clause-holds
returns-in-Export-clause-holds g c quiet = c.answer_export.ensures.holds

pub returns-in-Export-clause-reads : goal.returns-in-Export-clause-reads
returns-in-Export-clause-reads g c =
    other_reads g.H.Disk c.args.command c.args.self.now c.args.host.now c.answer_export.new.host (ap is_lookup c.in-Export.is)

pub returns-in-Export-clause-unread : goal.returns-in-Export-clause-unread
returns-in-Export-clause-unread g c none = absurd (false≢true (sym (ap needs_no_page c.in-Export.is) ∙ none))

pub returns-in-Export-clause-early : goal.returns-in-Export-clause-early
returns-in-Export-clause-early g c name is =
    let same : c.as_slice.result.now ≡ name = cc (c.as_slice.ensures, c.in-Export.is, is) in
    subst (λ (n : List ℕ). ReadsToFirst g.H.Disk n c.args.self.now c.args.host.now c.answer_export.new.host) same c.answer_export.ensures.early

pub returns-in_default-clause-answers : goal.returns-in_default-clause-answers
returns-in_default-clause-answers g c = c.answer_whole.ensures.answers

pub returns-in_default-clause-leaves : goal.returns-in_default-clause-leaves
returns-in_default-clause-leaves g c = c.answer_whole.ensures.leaves

pub returns-in_default-clause-holds : goal.returns-in_default-clause-holds
returns-in_default-clause-holds g c = c.answer_whole.ensures.holds

pub returns-in_default-clause-reads : goal.returns-in_default-clause-reads
returns-in_default-clause-reads g c = c.answer_whole.ensures.reads c.args.command refl

pub returns-in_default-clause-unread : goal.returns-in_default-clause-unread
returns-in_default-clause-unread g c = c.answer_whole.ensures.unread
