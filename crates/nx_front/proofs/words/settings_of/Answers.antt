use Rattle.nx_front.proofs.CommandLineLemmas.{too_many_settings}
use Rattle.nx_front.proofs.words.settings_of.Goals as goal

pub returns-in_default-2-clause-said : goal.returns-in_default-2-clause-said
returns-in_default-2-clause-said g c = too_many_settings g.S.AsStr.text c.args.words.now c.in_default.len_at_least
