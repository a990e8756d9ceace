use Rattle.std.proofs.Common.{◌≡◌, true, false, cond, Some, sym, ap, subst, ◌∙◌}
use Rattle.std.specs.Prelude.{is_some}
use Rattle.std.specs.FinMap.{get, contains_key, insert, remove}
use Rattle.nx_tree.specs.Document.{IsDocument}
use Rattle.nx_script.specs.declared.reply.Reply.TheVariants.{Done, Refused}
use Rattle.nx_script.specs.declared.reply.ReplyError.TheVariants.{Exists}
use Rattle.nx_engine.proofs.MapLemmas.{Shows, get_shown, found_document, insert_shown, inserted_documents, remove_shown, removed_documents, put_elsewhere}
use Rattle.nx_engine.proofs.StepLemmas.{by_absent, rename_nowhere, rename_present, rename_done, rename_reply}
use Rattle.nx_engine.proofs.plain.Plain.rename.Goals as goal

pub returns-in_default-clause-reply : goal.returns-in_default-clause-reply
returns-in_default-clause-reply c = sym (by_absent _ _ _ (get_shown (record { view = c.self.view_is; are = c.self.invariant }) c.as_slice.ensures ∙ sym c.in_default.ensures.value))

pub returns-in_default-clause-ok : goal.returns-in_default-clause-ok
returns-in_default-clause-ok c =
    sym (rename_nowhere _ _ c.args.new (get_shown (record { view = c.self.view_is; are = c.self.invariant }) c.as_slice.ensures ∙ sym c.in_default.ensures.value))

pub returns-then-contains_key-clause-reply : goal.returns-then-contains_key-clause-reply
returns-then-contains_key-clause-reply c =
    let shows : Shows c.args.self.now c.self.inside.documents = record { view = c.self.view_is; are = c.self.invariant } in
    let found = get_shown shows c.as_slice.ensures ∙ sym c.in-Some.ensures.value in
    let there : contains_key c.args.self.now c.args.new ≡ true = ap is_some (get_shown shows c.as_slice-2.ensures) ∙ sym c.contains_key.ensures ∙ c.if-contains_key.true in
    sym (rename_reply _ _ c.args.new _ found ∙ ap (λ b. cond b (Refused Exists) Done) there)

pub returns-then-contains_key-clause-ok : goal.returns-then-contains_key-clause-ok
returns-then-contains_key-clause-ok c =
    let shows : Shows c.args.self.now c.self.inside.documents = record { view = c.self.view_is; are = c.self.invariant } in
    let there : contains_key c.args.self.now c.args.new ≡ true = ap is_some (get_shown shows c.as_slice-2.ensures) ∙ sym c.contains_key.ensures ∙ c.if-contains_key.true in
    sym (rename_present _ _ _ there)

pub invariant_of-self-2 : goal.invariant_of-self-2
invariant_of-self-2 c =
    let document : IsDocument c.in-Some.tree.now = found_document _ _ c.in-Some.tree.now c.self.invariant (sym c.in-Some.ensures.value) in
    let put = inserted_documents _ c.insert.new.self _ _ c.self.invariant (subst IsDocument (sym c.in-Ok.ensures.ok) document) c.in_ok-insert.ensures.entries c.in_ok-insert.ensures.ordered in
    removed_documents _ c.remove.new.self _ put c.remove.ensures.entries c.remove.ensures.ordered

pub returns-clause-reply : goal.returns-clause-reply
returns-clause-reply c =
    let shows : Shows c.args.self.now c.self.inside.documents = record { view = c.self.view_is; are = c.self.invariant } in
    let found = get_shown shows c.as_slice.ensures ∙ sym c.in-Some.ensures.value in
    let absent : contains_key c.args.self.now c.args.new ≡ false = ap is_some (get_shown shows c.as_slice-2.ensures) ∙ sym c.contains_key.ensures ∙ c.if-contains_key.false in
    sym (rename_reply _ _ c.args.new _ found ∙ ap (λ b. cond b (Refused Exists) Done) absent)

pub returns-clause-ok : goal.returns-clause-ok
returns-clause-ok c =
    let documents = c.args.self.now in
    let old = c.args.old.now in
    let new = c.args.new in
    let shows : Shows documents c.self.inside.documents = record { view = c.self.view_is; are = c.self.invariant } in
    let found : get documents old ≡ Some c.in-Some.tree.now = get_shown shows c.as_slice.ensures ∙ sym c.in-Some.ensures.value in
    let absent : contains_key documents new ≡ false = ap is_some (get_shown shows c.as_slice-2.ensures) ∙ sym c.contains_key.ensures ∙ c.if-contains_key.false in
    let document : IsDocument c.in-Some.tree.now = found_document _ _ c.in-Some.tree.now c.self.invariant (sym c.in-Some.ensures.value) in
    let put = inserted_documents _ c.insert.new.self _ _ c.self.invariant (subst IsDocument (sym c.in-Ok.ensures.ok) document) c.in_ok-insert.ensures.entries c.in_ok-insert.ensures.ordered in
    let after : Shows (insert documents new c.in-Ok.copied) c.insert.new.self =
    record { view = insert_shown c.insert.new.self _ _ _ shows c.into_vec.ensures c.in_ok-insert.ensures.updates c.in_ok-insert.ensures.ordered; are = put } in
    remove_shown c.remove.new.self _ _ after c.as_slice-3.ensures c.remove.ensures.updates c.remove.ensures.ordered
    ∙ put_elsewhere documents old new c.in-Ok.copied c.in-Some.tree.now found absent
    ∙ ap (insert (remove documents old) new) c.in-Ok.ensures.ok ∙ sym (rename_done documents old new c.in-Some.tree.now found absent)
