use Rattle.nx_front.proofs.CommandLineLemmas.{too_many_words}
use Rattle.nx_front.proofs.words.command_of.Goals as goal

pub returns-in_default-clause-line : goal.returns-in_default-clause-line
returns-in_default-clause-line g c = too_many_words g.S.AsStr.text c.args.store.now c.args.command.now c.args.words.now c.in_default.len_at_least
