use Rattle.nx_reach.proofs.ReadLemmas.{label_splits}
use Rattle.nx_reach.proofs.text.split_label.Goals as goal

pub returns-clause-splits : goal.returns-clause-splits
returns-clause-splits c = label_splits c.args.is_below c.args.named.now c.label_end-end.result c.label_end-end.ensures.before c.label_end-end.ensures.found
