use Rattle.std.proofs.Common.{◌≡◌, List, ℕ, ap, sym, ◌∙◌, subst}
use Rattle.std.specs.Prelude.{Result, Err, IfOk}
use Rattle.std.specs.Option.{is_some}
use Rattle.std.specs.FinMap.{get}
use Rattle.nx_script.specs.declared.command.Command.TheVariants.{Load}
use Rattle.nx_script.specs.declared.command.LoadBody.{LoadBody}
use Rattle.nx_script.specs.declared.reply.Reply.{Reply}
use Rattle.nx_script.specs.declared.reply.ReplyError.{ReplyError}
use Rattle.nx_script.specs.declared.reply.ReplyError.TheVariants.{Pyx}
use Rattle.nx_store.specs.Changing.{PreparesNext}
use Rattle.nx_store.proofs.StepLemmas.{is_nothing}
use Rattle.nx_store.proofs.LoadNextLemmas.{exists_next, wrong_next}
use Rattle.nx_store.proofs.store.Store.load_next.Goals as goal

pub returns-then-is_some-clause-ok : goal.returns-then-is_some-clause-ok
returns-then-is_some-clause-ok g c =
    let there = ap (λ (n : List ℕ). is_some (get c.args.self.now.catalog.documents n)) (sym c.as_slice.ensures) ∙ ap (λ o. is_some o) (sym c.find.ensures) ∙ sym c.is_some.ensures ∙ c.if-is_some.true in
    exists_next g.D.Disk c.args.self.now c.args.disk.now c.requires.runs c.args.name.now c.args.body there

pub returns-in-Wrong-clause-ok : goal.returns-in-Wrong-clause-ok
returns-in-Wrong-clause-ok g c =
    let none = ap (λ (n : List ℕ). is_some (get c.args.self.now.catalog.documents n)) (sym c.as_slice.ensures) ∙ ap (λ o. is_some o) (sym c.find.ensures) ∙ sym c.is_some.ensures ∙ c.if-is_some.false in
    let new = is_nothing (get c.args.self.now.catalog.documents c.args.name.now) none in
    subst (λ (b : LoadBody). PreparesNext g.D.Disk (Load c.args.name.now b) (Err (Pyx c.in-Wrong.error)) c.args.text.now c.args.text.now c.args.self.now c.args.self.now c.args.disk.now c.args.disk.now) (sym c.in-Wrong.is)
    (wrong_next g.D.Disk c.args.self.now c.args.disk.now c.requires.runs c.args.name.now new c.in-Wrong.error)

pub returns-in-Read-clause-ok : goal.returns-in-Read-clause-ok
returns-in-Read-clause-ok g c =
    subst (λ (b : LoadBody). IfOk c.load_tree_next.result (λ (made : Result Reply ReplyError). PreparesNext g.D.Disk (Load c.args.name.now b) made c.args.text.now c.load_tree_next.new.text c.args.self.now c.load_tree_next.new.self c.args.disk.now c.load_tree_next.new.disk)) (sym c.in-Read.is) c.load_tree_next.ensures.ok
