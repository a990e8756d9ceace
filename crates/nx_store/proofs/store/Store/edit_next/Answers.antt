use Rattle.std.proofs.Common.{◌≡◌, sym, subst}
use Rattle.std.specs.Prelude.{Result, IfOk}
use Rattle.std.specs.FinMap.{get}
use Rattle.nx_pyx.specs.DocumentName.{is_document_name}
use Rattle.nx_script.specs.declared.command.Command.{Command}
use Rattle.nx_script.specs.declared.reply.Reply.{Reply}
use Rattle.nx_script.specs.declared.reply.ReplyError.{ReplyError}
use Rattle.nx_store.specs.Changing.{PreparesNext}
use Rattle.nx_store.proofs.GoneLemmas.{the_one, shown_there}
use Rattle.nx_store.proofs.EditLemmas.{named_there, none_entered, absent_body, wrong_body, said_same, said_can}
use Rattle.nx_store.proofs.PrepareLemmas.{store_left}
use Rattle.nx_store.proofs.store.Store.edit_next.Goals as goal

pub returns-in_default-clause-ok : goal.returns-in_default-clause-ok
returns-in_default-clause-ok g c = (
  store_left g.D.Disk c.args.self.now c.args.disk.now c.requires.runs,
  λ saved state at. absent_body state c.args.name.now c.args.path c.args.body (none_entered c.args.name.now at c.in_default.ensures),
)

pub returns-in-Err-clause-ok : goal.returns-in-Err-clause-ok
returns-in-Err-clause-ok g c =
    let is = (named_there (is_document_name c.args.name.now) (get (c.args.self.now.catalog).documents c.args.name.now) c.in-Some.entry c.in-Some.ensures).1 in (
      store_left g.D.Disk c.args.self.now c.args.disk.now c.requires.runs,
      λ saved state at. wrong_body state c.args.name.now c.args.path c.args.body c.in-Err.error ((the_one g.D.Disk c.args.self.now c.args.disk.now state at c.args.name.now c.in-Some.entry is).0).document (sym c.in-Err.ensures)
          (shown_there g.D.Disk c.args.self.now c.args.disk.now state at c.args.name.now c.in-Some.entry is),
    )

pub edit_document_next-requires-clause-named : goal.edit_document_next-requires-clause-named
edit_document_next-requires-clause-named g c = (named_there (is_document_name c.args.name.now) (get (c.args.self.now.catalog).documents c.args.name.now) c.in-Some.entry c.in-Some.ensures).0

pub edit_document_next-requires-clause-found : goal.edit_document_next-requires-clause-found
edit_document_next-requires-clause-found g c = (named_there (is_document_name c.args.name.now) (get (c.args.self.now.catalog).documents c.args.name.now) c.in-Some.entry c.in-Some.ensures).1

pub edit_document_next-requires-clause-can : goal.edit_document_next-requires-clause-can
edit_document_next-requires-clause-can g c = said_can c.args.name.now c.args.path c.args.body c.in-Ok.edit (sym c.in-Ok.ensures) c.requires.come

pub returns-in-Ok-clause-ok : goal.returns-in-Ok-clause-ok
returns-in-Ok-clause-ok g c =
    subst (λ (k : Command). IfOk c.edit_document_next.result (λ (made : Result Reply ReplyError). PreparesNext g.D.Disk k made c.args.text.now c.edit_document_next.new.text c.args.self.now c.edit_document_next.new.self c.args.disk.now c.edit_document_next.new.disk))
    (sym (said_same c.args.name.now c.args.path c.args.body c.in-Ok.edit (sym c.in-Ok.ensures)))
    c.edit_document_next.ensures.ok
