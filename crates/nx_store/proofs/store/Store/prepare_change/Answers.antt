use Rattle.std.proofs.Common.{sym, subst}
use Rattle.std.specs.Prelude.{Result, IfOk}
use Rattle.nx_script.specs.declared.command.Command.{Command}
use Rattle.nx_script.specs.declared.reply.Reply.{Reply}
use Rattle.nx_script.specs.declared.reply.ReplyError.{ReplyError}
use Rattle.nx_script.specs.Commands.{CanCome}
use Rattle.nx_store.specs.Changing.{PreparesNext}
use Rattle.nx_store.proofs.store.Store.prepare_change.Goals as goal

pub returns-in-Load-clause-ok : goal.returns-in-Load-clause-ok
returns-in-Load-clause-ok g c =
    subst (λ (k : Command). IfOk c.load_next.result (λ (made : Result Reply ReplyError). PreparesNext g.D.Disk k made c.args.text.now c.load_next.new.text c.args.self.now c.load_next.new.self c.args.disk.now c.load_next.new.disk)) (sym c.in-Load.is) c.load_next.ensures.ok

pub returns-in-SetRule-clause-ok : goal.returns-in-SetRule-clause-ok
returns-in-SetRule-clause-ok g c =
    subst (λ (k : Command). IfOk c.set_rule_next.result (λ (made : Result Reply ReplyError). PreparesNext g.D.Disk k made c.args.text.now c.set_rule_next.new.text c.args.self.now c.set_rule_next.new.self c.args.disk.now c.set_rule_next.new.disk)) (sym c.in-SetRule.is) c.set_rule_next.ensures.ok

pub returns-in-Discard-clause-ok : goal.returns-in-Discard-clause-ok
returns-in-Discard-clause-ok g c =
    subst (λ (k : Command). IfOk c.discard_next.result (λ (made : Result Reply ReplyError). PreparesNext g.D.Disk k made c.args.text.now c.discard_next.new.text c.args.self.now c.discard_next.new.self c.args.disk.now c.discard_next.new.disk)) (sym c.in-Discard.is) c.discard_next.ensures.ok

pub returns-in-Delete-clause-ok : goal.returns-in-Delete-clause-ok
returns-in-Delete-clause-ok g c =
    subst (λ (k : Command). IfOk c.edit_next.result (λ (made : Result Reply ReplyError). PreparesNext g.D.Disk k made c.args.text.now c.edit_next.new.text c.args.self.now c.edit_next.new.self c.args.disk.now c.edit_next.new.disk)) (sym c.in-Delete.is) c.edit_next.ensures.ok

pub returns-in-Retext-clause-ok : goal.returns-in-Retext-clause-ok
returns-in-Retext-clause-ok g c =
    subst (λ (k : Command). IfOk c.edit_next-in-Retext.result (λ (made : Result Reply ReplyError). PreparesNext g.D.Disk k made c.args.text.now c.edit_next-in-Retext.new.text c.args.self.now c.edit_next-in-Retext.new.self c.args.disk.now c.edit_next-in-Retext.new.disk)) (sym c.in-Retext.is) c.edit_next-in-Retext.ensures.ok

pub returns-in-Insert-clause-ok : goal.returns-in-Insert-clause-ok
returns-in-Insert-clause-ok g c =
    subst (λ (k : Command). IfOk c.edit_next-in-Insert.result (λ (made : Result Reply ReplyError). PreparesNext g.D.Disk k made c.args.text.now c.edit_next-in-Insert.new.text c.args.self.now c.edit_next-in-Insert.new.self c.args.disk.now c.edit_next-in-Insert.new.disk)) (sym c.in-Insert.is) c.edit_next-in-Insert.ensures.ok

pub edit_next-requires-clause-come : goal.edit_next-requires-clause-come
edit_next-requires-clause-come g c = tt

pub edit_next-requires-in-Retext-clause-come : goal.edit_next-requires-in-Retext-clause-come
edit_next-requires-in-Retext-clause-come g c = subst CanCome c.in-Retext.is c.requires.come

pub edit_next-requires-in-Insert-clause-come : goal.edit_next-requires-in-Insert-clause-come
edit_next-requires-in-Insert-clause-come g c = subst CanCome c.in-Insert.is c.requires.come

pub returns-in-Rename-clause-ok : goal.returns-in-Rename-clause-ok
returns-in-Rename-clause-ok g c =
    subst (λ (k : Command). IfOk c.rename_next.result (λ (made : Result Reply ReplyError). PreparesNext g.D.Disk k made c.args.text.now c.rename_next.new.text c.args.self.now c.rename_next.new.self c.args.disk.now c.rename_next.new.disk)) (sym c.in-Rename.is) c.rename_next.ensures.ok

pub rename_next-requires-clause-named : goal.rename_next-requires-clause-named
rename_next-requires-clause-named g c = subst CanCome c.in-Rename.is c.requires.come
