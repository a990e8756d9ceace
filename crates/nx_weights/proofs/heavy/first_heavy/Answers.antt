use Rattle.nx_weights.proofs.HeavyLemmas.{none_found, some_found}
use Rattle.nx_weights.proofs.heavy.first_heavy.Goals as goal

pub returns-in_default-clause-heavy : goal.returns-in_default-clause-heavy
returns-in_default-clause-heavy c =
    none_found c.args.k c.args.tree.now c.new-path.result.items c.find_heavy.new.path.items c.new-path.ensures.items (rw c.in_default.is at c.in_ok-weight.ensures)

pub returns-clause-heavy : goal.returns-clause-heavy
returns-clause-heavy c =
    some_found c.args.k c.args.tree.now c.new-path.result.items c.find_heavy.new.path.items c.from_vec.result c.in-Some.weight c.new-path.ensures.items c.from_vec.ensures (rw c.in-Some.is at c.in_ok-weight.ensures)
