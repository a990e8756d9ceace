use Rattle.nx_choices.proofs.ReachLemmas.{IsLonger}
use Rattle.nx_choices.proofs.reach.Reach.extend.Given as goal

abbrev pub invariant-loop-sum : goal.invariant-loop-sum
invariant-loop-sum l = IsLonger l.k l.form l.children l.len l.sum

abbrev pub decreases-loop-sum : goal.decreases-loop-sum
decreases-loop-sum l = l.len
