use Rattle.std.proofs.Common.{◌-◌}
use Rattle.nx_edit.proofs.RemoveLemmas.{IsGoing}
use Rattle.nx_edit.proofs.removing.remove_rows.Given as goal

abbrev pub decreases-loop-proxy : goal.decreases-loop-proxy
decreases-loop-proxy g l = l.limit - l.went

abbrev pub invariant-loop-proxy : goal.invariant-loop-proxy
invariant-loop-proxy g l = IsGoing g.D.Disk l.proxies l.limit l.stack.items l.went l.initial.gone.items l.gone.items l.initial.records l.records l.initial.disk l.disk
