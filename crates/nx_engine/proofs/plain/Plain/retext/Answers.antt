use Rattle.std.proofs.Common.{◌≡◌, refl, ap, sym, ◌∙◌}
use Rattle.std.specs.Prelude.{Some, option_and_then, true, false, nat_lt, ◌+◌, length}
use Rattle.std.specs.Result.{result_err}
use Rattle.std.proofs.lemmas.Result.{on_ok_weaker}
use Rattle.nx_tree.specs.Document.{longest_node}
use Rattle.nx_tree.specs.Edit.{retext_refusal, retext}
use Rattle.nx_script.specs.declared.command.TextBody.TheVariants.{Read}
use Rattle.nx_script.specs.declared.command.Command.TheVariants.{Retext}
use Rattle.nx_pyx.specs.declared.error.PyxFault.TheVariants.{LongLine}
use Rattle.nx_pyx.specs.Fault.{fault_at}
use Rattle.nx_script.specs.declared.reply.ReplyError.TheVariants.{Pyx}
use Rattle.nx_engine.specs.Step.{worded, done_unless, name_at, retext_fault, documents_after}
use Rattle.nx_engine.specs.Plain.{documents_in}
use Rattle.nx_engine.proofs.MapLemmas.{get_shown}
use Rattle.nx_engine.proofs.StepLemmas.{by_absent, by_found, long_refused, short_refused}
use Rattle.nx_engine.proofs.EditedLemmas.{Lent, lent_found, lent_document, written_are, unwritten, retext_absent, edited_at, edit_reply, edit_done}
use Rattle.nx_engine.proofs.plain.Plain.retext.Goals as goal

pub returns-in_default-clause-reply : goal.returns-in_default-clause-reply
returns-in_default-clause-reply c = sym (by_absent _ _ _ (get_shown (record { view = c.self.view_is; are = c.self.invariant }) c.as_slice.ensures ∙ sym c.in_default.ensures.value))

pub returns-in_default-clause-ok : goal.returns-in_default-clause-ok
returns-in_default-clause-ok c =
    ap documents_in c.get_mut.follows.holds-at-none ∙ c.self.view_is
    ∙ sym (retext_absent c.args.self.now c.args.name.now c.args.path.now c.args.text (get_shown (record { view = c.self.view_is; are = c.self.invariant }) c.as_slice.ensures ∙ sym c.in_default.ensures.value))

lent_wrong : (c : goal.In-Wrong) → Lent c.args.self.now c.self.inside.documents c.args.name.now c.as_slice.result.now c.in-Some.tree.now
lent_wrong c = record { shows = record { view = c.self.view_is; are = c.self.invariant }; same = c.as_slice.ensures; found = sym c.in-Some.ensures.value }

pub invariant_of-self-in-Wrong : goal.invariant_of-self-in-Wrong
invariant_of-self-in-Wrong c = written_are (lent_wrong c) (c.get_mut.follows.lender c.in-Some.tree.now) c.in-Some.tree.now (c.get_mut.follows.holds c.in-Some.tree.now) (lent_document (lent_wrong c))

pub returns-in-Wrong-clause-reply : goal.returns-in-Wrong-clause-reply
returns-in-Wrong-clause-reply c = sym (by_found _ _ c.in-Some.tree.now _ (lent_found (lent_wrong c)) ∙ ap (λ said. done_unless (retext_fault c.args.path.now said c.in-Some.tree.now)) c.in-Wrong.is)

pub returns-in-Wrong-clause-ok : goal.returns-in-Wrong-clause-ok
returns-in-Wrong-clause-ok c =
    unwritten (lent_wrong c) (c.get_mut.follows.lender c.in-Some.tree.now) c.in-Some.tree.now (c.get_mut.follows.holds c.in-Some.tree.now) refl
    ∙ sym (ap (λ said. documents_after c.args.self.now (Retext c.args.name.now c.args.path.now said)) c.in-Wrong.is)

lent_long : (c : goal.After-drop-content-inside) → Lent c.args.self.now c.self.inside.documents c.args.name.now c.as_slice.result.now c.in-Some.tree.now
lent_long c = record { shows = record { view = c.self.view_is; are = c.self.invariant }; same = c.as_slice.ensures; found = sym c.in-Some.ensures.value }

long : (c : goal.After-drop-content-inside) → retext_fault c.args.path.now (Read c.in-Read.content) c.in-Some.tree.now ≡ Some (Pyx (fault_at 1 LongLine))
long c =
    let more : nat_lt longest_node (length (name_at c.args.path.now c.in-Some.tree.now) + length c.in-Read.content) ≡ true =
    ap (λ n. nat_lt longest_node (length (name_at c.args.path.now c.in-Some.tree.now) + n)) (sym c.len.ensures) ∙ sym c.is_long.ensures ∙ c.if-is_long.true in
    long_refused c.args.path.now c.in-Read.content c.in-Some.tree.now more

pub invariant_of-self-then-is_long : goal.invariant_of-self-then-is_long
invariant_of-self-then-is_long c = written_are (lent_long c) (c.get_mut.follows.lender c.in-Some.tree.now) c.in-Some.tree.now (c.get_mut.follows.holds c.in-Some.tree.now) (lent_document (lent_long c))

pub returns-then-is_long-clause-reply : goal.returns-then-is_long-clause-reply
returns-then-is_long-clause-reply c =
    rw c.in-Read.is (sym (by_found _ _ c.in-Some.tree.now _ (lent_found (lent_long c)) ∙ ap done_unless (long c)))

pub returns-then-is_long-clause-ok : goal.returns-then-is_long-clause-ok
returns-then-is_long-clause-ok c =
    unwritten (lent_long c) (c.get_mut.follows.lender c.in-Some.tree.now) c.in-Some.tree.now (c.get_mut.follows.holds c.in-Some.tree.now) refl
    ∙ sym (ap (λ said. documents_after c.args.self.now (Retext c.args.name.now c.args.path.now said)) c.in-Read.is
    ∙ edited_at _ _ c.in-Some.tree.now _ _ (Some (Pyx (fault_at 1 LongLine))) (lent_found (lent_long c)) (long c))

lent : (c : goal.After-done) → Lent c.args.self.now c.self.inside.documents c.args.name.now c.as_slice.result.now c.in-Some.tree.now
lent c = record { shows = record { view = c.self.view_is; are = c.self.invariant }; same = c.as_slice.ensures; found = sym c.in-Some.ensures.value }

why : (c : goal.After-done) → retext_fault c.args.path.now (Read c.in-Read.content) c.in-Some.tree.now ≡ option_and_then worded (result_err c.retext_at.result)
why c =
    let short : nat_lt longest_node (length (name_at c.args.path.now c.in-Some.tree.now) + length c.in-Read.content) ≡ false =
    ap (λ n. nat_lt longest_node (length (name_at c.args.path.now c.in-Some.tree.now) + n)) (sym c.len.ensures) ∙ sym c.is_long.ensures ∙ c.if-is_long.false in
    short_refused c.args.path.now c.in-Read.content c.in-Some.tree.now short
    ∙ ap (option_and_then worded) (ap (λ p. retext_refusal p c.in-Some.tree.now) (sym c.as_slice-2.ensures) ∙ sym c.retext_at.ensures.refused)

pub invariant_of-self-2 : goal.invariant_of-self-2
invariant_of-self-2 c = written_are (lent c) (c.get_mut.follows.lender c.retext_at.new.tree) c.retext_at.new.tree (c.get_mut.follows.holds c.retext_at.new.tree) c.retext_at.ensures.document

pub returns-clause-reply : goal.returns-clause-reply
returns-clause-reply c = rw c.in-Read.is (edit_reply (lent c) (retext_fault c.args.path.now (Read c.in-Read.content)) c.retext_at.result c.done.result (why c) c.done.ensures.reply)

pub returns-clause-ok : goal.returns-clause-ok
returns-clause-ok c = rw c.in-Read.is (
    edit_done (lent c) (c.get_mut.follows.lender c.retext_at.new.tree) c.retext_at.new.tree (c.get_mut.follows.holds c.retext_at.new.tree) c.retext_at.result c.retext_at.ensures.err c.done.result c.done.ensures.memory
    (retext_fault c.args.path.now (Read c.in-Read.content)) (retext c.in-Read.content c.args.path.now) (why c)
    (on_ok_weaker c.retext_at.result (λ e. e ∙ ap (λ p. retext c.in-Read.content p c.in-Some.tree.now) c.as_slice-2.ensures) c.retext_at.ensures.ok))
