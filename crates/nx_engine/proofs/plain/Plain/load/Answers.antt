use Rattle.std.proofs.Common.{◌≡◌, true, false, refl, ap, sym, ◌∙◌}
use Rattle.std.specs.Prelude.{is_some}
use Rattle.std.specs.FinMap.{contains_key}
use Rattle.nx_script.specs.declared.reply.Reply.TheVariants.{Loaded}
use Rattle.nx_engine.proofs.MapLemmas.{Shows, get_shown, insert_shown, inserted_documents}
use Rattle.nx_engine.proofs.StepLemmas.{load_present, load_absent}
use Rattle.nx_engine.proofs.plain.Plain.load.Goals as goal

pub returns-then-contains_key-clause-reply : goal.returns-then-contains_key-clause-reply
returns-then-contains_key-clause-reply c =
    let there : contains_key c.args.self.now c.args.name ≡ true = ap is_some (get_shown (record { view = c.self.view_is; are = c.self.invariant }) c.as_slice.ensures) ∙ sym c.contains_key.ensures ∙ c.if-contains_key.true in rw there refl

pub returns-then-contains_key-clause-ok : goal.returns-then-contains_key-clause-ok
returns-then-contains_key-clause-ok c =
    let there : contains_key c.args.self.now c.args.name ≡ true = ap is_some (get_shown (record { view = c.self.view_is; are = c.self.invariant }) c.as_slice.ensures) ∙ sym c.contains_key.ensures ∙ c.if-contains_key.true in
    sym (load_present _ _ c.args.body there)

pub invariant_of-self-in-Read : goal.invariant_of-self-in-Read
invariant_of-self-in-Read c = inserted_documents _ c.insert.new.self _ _ c.self.invariant (let h = c.requires.1 in rw c.in-Read.is at h) c.in_ok-insert-in-Read.ensures.entries c.in_ok-insert-in-Read.ensures.ordered

pub returns-in-Wrong-clause-reply : goal.returns-in-Wrong-clause-reply
returns-in-Wrong-clause-reply c =
    let absent : contains_key c.args.self.now c.args.name ≡ false = ap is_some (get_shown (record { view = c.self.view_is; are = c.self.invariant }) c.as_slice.ensures) ∙ sym c.contains_key.ensures ∙ c.if-contains_key.false in
    rw (absent, c.in-Wrong.is) refl

pub returns-in_ok-insert-in-Read-clause-reply : goal.returns-in_ok-insert-in-Read-clause-reply
returns-in_ok-insert-in-Read-clause-reply c =
    let absent : contains_key c.args.self.now c.args.name ≡ false = ap is_some (get_shown (record { view = c.self.view_is; are = c.self.invariant }) c.as_slice.ensures) ∙ sym c.contains_key.ensures ∙ c.if-contains_key.false in
    rw (absent, c.in-Read.is) (ap (λ n. Loaded n 0) c.count-nodes.ensures)

pub returns-in_ok-insert-in-Read-clause-ok : goal.returns-in_ok-insert-in-Read-clause-ok
returns-in_ok-insert-in-Read-clause-ok c =
    let shows : Shows c.args.self.now c.self.inside.documents = record { view = c.self.view_is; are = c.self.invariant } in
    let absent : contains_key c.args.self.now c.args.name ≡ false = ap is_some (get_shown shows c.as_slice.ensures) ∙ sym c.contains_key.ensures ∙ c.if-contains_key.false in
    insert_shown c.insert.new.self _ _ _ shows c.into_vec.ensures c.in_ok-insert-in-Read.ensures.updates c.in_ok-insert-in-Read.ensures.ordered ∙ sym (load_absent _ _ _ _ absent c.in-Read.is)
