use Rattle.std.proofs.Common.{ap, sym, ◌∙◌, cond}
use Rattle.nx_matrix.specs.Rules.{entry_of}
use Rattle.nx_matrix.proofs.OrderLemmas.{Pair}
use Rattle.nx_matrix.proofs.EntryLemmas.{asked, entry_absent, gap_none}
use Rattle.nx_matrix.proofs.matrix.Matrix.set.Goals as goal

pub returns-in-Free-clause-ok : goal.returns-in-Free-clause-ok
returns-in-Free-clause-ok c = λ p q.
    let pair : Pair = (c.args.parent.now, c.args.child.now) in
    entry_absent pair p q c.args.self.now (gap_none c.args.self.now pair c.in-Err.place c.in-Err.ensures.absent)
    ∙ ap (λ e. cond (asked pair p q) e (entry_of c.args.self.now p q)) (sym c.in-Free.is)
