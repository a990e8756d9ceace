use Rattle.std.proofs.Common.{sym, ◌∙◌}
use Rattle.std.proofs.lemmas.Bool.{false≢true}
use Rattle.nx_ship.proofs.EntryLemmas.{not_false, not_true}
use Rattle.nx_ship.proofs.receiver.Receiver.is_baseless.Goals as goal

pub returns-in-None-clause-yes : goal.returns-in-None-clause-yes
returns-in-None-clause-yes c holds = record {
  none = c.in-None.is;
  no_base = λ es kept base. false≢true (sym (not_true c.is_base.result holds) ∙ (c.is_base.ensures es kept).1 base);
}

pub returns-in-None-clause-no : goal.returns-in-None-clause-no
returns-in-None-clause-no c fails none es kept = (c.is_base.ensures es kept).0 (not_false c.is_base.result fails)
