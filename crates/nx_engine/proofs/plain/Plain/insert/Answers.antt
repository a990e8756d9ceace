use Rattle.std.proofs.Common.{◌≡◌, refl, ap, sym, ◌∙◌}
use Rattle.std.specs.Prelude.{option_and_then}
use Rattle.std.specs.Result.{result_err}
use Rattle.std.proofs.lemmas.Result.{on_ok_weaker}
use Rattle.nx_tree.specs.Edit.{insert_refusal, put}
use Rattle.nx_script.specs.declared.command.LineBody.TheVariants.{Read}
use Rattle.nx_script.specs.declared.command.Command.TheVariants.{Insert}
use Rattle.nx_engine.specs.Step.{worded, done_unless, insert_fault, documents_after}
use Rattle.nx_engine.specs.Plain.{documents_in}
use Rattle.nx_engine.proofs.MapLemmas.{get_shown}
use Rattle.nx_engine.proofs.StepLemmas.{by_absent, by_found, worded-refusal_in}
use Rattle.nx_engine.proofs.EditedLemmas.{Lent, lent_found, lent_document, written_are, unwritten, insert_absent, edit_reply, edit_done, edit_failed}
use Rattle.nx_engine.proofs.plain.Plain.insert.Goals as goal

pub returns-in_default-clause-reply : goal.returns-in_default-clause-reply
returns-in_default-clause-reply c = sym (by_absent _ _ _ (get_shown (record { view = c.self.view_is; are = c.self.invariant }) c.as_slice.ensures ∙ sym c.in_default.ensures.value))

pub returns-in_default-clause-ok : goal.returns-in_default-clause-ok
returns-in_default-clause-ok c =
    ap documents_in c.get_mut.follows.holds-at-none ∙ c.self.view_is
    ∙ sym (insert_absent c.args.self.now c.args.name.now c.args.path.now c.args.line (get_shown (record { view = c.self.view_is; are = c.self.invariant }) c.as_slice.ensures ∙ sym c.in_default.ensures.value))

lent_wrong : (c : goal.In-Wrong) → Lent c.args.self.now c.self.inside.documents c.args.name.now c.as_slice.result.now c.in-Some.tree.now
lent_wrong c = record { shows = record { view = c.self.view_is; are = c.self.invariant }; same = c.as_slice.ensures; found = sym c.in-Some.ensures.value }

pub invariant_of-self-in-Wrong : goal.invariant_of-self-in-Wrong
invariant_of-self-in-Wrong c = written_are (lent_wrong c) (c.get_mut.follows.lender c.in-Some.tree.now) c.in-Some.tree.now (c.get_mut.follows.holds c.in-Some.tree.now) (lent_document (lent_wrong c))

pub returns-in-Wrong-clause-reply : goal.returns-in-Wrong-clause-reply
returns-in-Wrong-clause-reply c = sym (by_found _ _ c.in-Some.tree.now _ (lent_found (lent_wrong c)) ∙ ap (λ said. done_unless (insert_fault c.args.path.now said c.in-Some.tree.now)) c.in-Wrong.is)

pub returns-in-Wrong-clause-ok : goal.returns-in-Wrong-clause-ok
returns-in-Wrong-clause-ok c =
    unwritten (lent_wrong c) (c.get_mut.follows.lender c.in-Some.tree.now) c.in-Some.tree.now (c.get_mut.follows.holds c.in-Some.tree.now) refl
    ∙ sym (ap (λ said. documents_after c.args.self.now (Insert c.args.name.now c.args.path.now said)) c.in-Wrong.is)

lent : (c : goal.After-done) → Lent c.args.self.now c.self.inside.documents c.args.name.now c.as_slice.result.now c.in-Some.tree.now
lent c = record { shows = record { view = c.self.view_is; are = c.self.invariant }; same = c.as_slice.ensures; found = sym c.in-Some.ensures.value }

why : (c : goal.After-done) → insert_fault c.args.path.now (Read c.in-Read.node) c.in-Some.tree.now ≡ option_and_then worded (result_err c.insert_at.result)
why c =
    ap (option_and_then worded) (ap (λ p. insert_refusal c.in-Read.node p c.in-Some.tree.now) (sym c.as_slice-2.ensures) ∙ sym c.insert_at.ensures.refused)
    ∙ worded-refusal_in c.insert_at.result

pub invariant_of-self-2 : goal.invariant_of-self-2
invariant_of-self-2 c = written_are (lent c) (c.get_mut.follows.lender c.insert_at.new.tree) c.insert_at.new.tree (c.get_mut.follows.holds c.insert_at.new.tree) c.insert_at.ensures.document

pub returns-clause-reply : goal.returns-clause-reply
returns-clause-reply c = rw c.in-Read.is (edit_reply (lent c) (insert_fault c.args.path.now (Read c.in-Read.node)) c.insert_at.result c.done.result (why c) c.done.ensures.reply)

pub returns-clause-ok : goal.returns-clause-ok
returns-clause-ok c = rw c.in-Read.is (
    edit_done (lent c) (c.get_mut.follows.lender c.insert_at.new.tree) c.insert_at.new.tree (c.get_mut.follows.holds c.insert_at.new.tree) c.insert_at.result c.insert_at.ensures.err c.done.result c.done.ensures.memory
    (insert_fault c.args.path.now (Read c.in-Read.node)) (put c.in-Read.node c.args.path.now) (why c)
    (on_ok_weaker c.insert_at.result (λ e. e ∙ ap (λ p. put c.in-Read.node p c.in-Some.tree.now) c.as_slice-2.ensures) c.insert_at.ensures.ok))

pub returns-clause-err : goal.returns-clause-err
returns-clause-err c =
    edit_failed (lent c) (c.get_mut.follows.lender c.insert_at.new.tree) c.insert_at.new.tree (c.get_mut.follows.holds c.insert_at.new.tree) c.insert_at.result c.insert_at.ensures.err c.done.result c.done.ensures.memory
