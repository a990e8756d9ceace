use Rattle.std.proofs.Common.{◌≡◌, ap, sym, ◌∙◌}
use Rattle.std.specs.Prelude.{option_and_then}
use Rattle.std.specs.Result.{result_err}
use Rattle.std.proofs.lemmas.Result.{on_ok_weaker}
use Rattle.nx_tree.specs.Edit.{delete_refusal, cut_at}
use Rattle.nx_engine.specs.Step.{worded, delete_fault}
use Rattle.nx_engine.proofs.MapLemmas.{get_shown}
use Rattle.nx_engine.specs.Plain.{documents_in}
use Rattle.nx_engine.proofs.StepLemmas.{by_absent}
use Rattle.nx_engine.proofs.EditedLemmas.{Lent, written_are, edited_absent, edit_reply, edit_done}
use Rattle.nx_engine.proofs.plain.Plain.delete.Goals as goal

pub returns-in_default-clause-reply : goal.returns-in_default-clause-reply
returns-in_default-clause-reply c = sym (by_absent _ _ _ (get_shown (record { view = c.self.view_is; are = c.self.invariant }) c.as_slice.ensures ∙ sym c.in_default.ensures.value))

pub returns-in_default-clause-ok : goal.returns-in_default-clause-ok
returns-in_default-clause-ok c =
    ap documents_in c.get_mut.follows.holds-at-none ∙ c.self.view_is
    ∙ sym (edited_absent _ _ _ _ (get_shown (record { view = c.self.view_is; are = c.self.invariant }) c.as_slice.ensures ∙ sym c.in_default.ensures.value))

lent : (c : goal.After-done) → Lent c.args.self.now c.self.inside.documents c.args.name.now c.as_slice.result.now c.in-Some.tree.now
lent c = record { shows = record { view = c.self.view_is; are = c.self.invariant }; same = c.as_slice.ensures; found = sym c.in-Some.ensures.value }

why : (c : goal.After-done) → delete_fault c.args.path.now c.in-Some.tree.now ≡ option_and_then worded (result_err c.delete_at.result)
why c = ap (option_and_then worded) (ap (λ p. delete_refusal p c.in-Some.tree.now) (sym c.as_slice-2.ensures) ∙ sym c.delete_at.ensures.refused)

pub invariant_of-self-2 : goal.invariant_of-self-2
invariant_of-self-2 c = written_are (lent c) (c.get_mut.follows.lender c.delete_at.new.tree) c.delete_at.new.tree (c.get_mut.follows.holds c.delete_at.new.tree) c.delete_at.ensures.document

pub returns-clause-reply : goal.returns-clause-reply
returns-clause-reply c = edit_reply (lent c) _ c.delete_at.result c.done.result (why c) c.done.ensures.reply

pub returns-clause-ok : goal.returns-clause-ok
returns-clause-ok c =
    edit_done (lent c) (c.get_mut.follows.lender c.delete_at.new.tree) c.delete_at.new.tree (c.get_mut.follows.holds c.delete_at.new.tree) c.delete_at.result c.delete_at.ensures.err c.done.result c.done.ensures.memory
    (delete_fault c.args.path.now) (cut_at c.args.path.now) (why c) (on_ok_weaker c.delete_at.result (λ e. e ∙ ap (λ p. cut_at p c.in-Some.tree.now) c.as_slice-2.ensures) c.delete_at.ensures.ok)
