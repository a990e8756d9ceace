use Rattle.std.proofs.Common.{sym, ◌∙◌}
use Rattle.nx_script.specs.declared.command.Command.TheVariants.{Discard, Delete}
use Rattle.nx_engine.proofs.StepLemmas.{refused_after, refused_leaves}
use Rattle.nx_engine.proofs.plain.Plain.apply.Goals as goal

pub returns-in-Discard-clause-refused : goal.returns-in-Discard-clause-refused
returns-in-Discard-clause-refused c = λ e r. c.discard.ensures.documents ∙ refused_after c.args.self.now (Discard c.in-Discard.name) e (sym c.discard.ensures.reply ∙ r)

pub returns-in-Delete-clause-refused : goal.returns-in-Delete-clause-refused
returns-in-Delete-clause-refused c =
    refused_leaves c.args.self.now c.delete.new.self (Delete c.in-Delete.name c.in-Delete.path) c.delete.result c.delete.ensures.reply c.delete.ensures.ok
