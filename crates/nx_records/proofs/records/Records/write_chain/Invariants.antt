use Rattle.std.proofs.Common.{◌≡◌, ◌⊎◌, ◌+◌, ◌≤◌, [], length, true}
use Rattle.nx_host.specs.Still.{IsStill}
use Rattle.nx_holdings.specs.Holdings.{chain_count}
use Rattle.nx_records.specs.Records.{has_free, KeepsLog}
use Rattle.nx_records.specs.Chains.{ChainStepsTo, IsWritten}
use Rattle.nx_records.proofs.records.Records.write_chain.Given as goal

-- the pages behind those that are left are written, by a read for each at most; before the first a page was free
abbrev pub invariant-loop-left : goal.invariant-loop-left
invariant-loop-left g l = record {
  keeps : KeepsLog l.initial.self l.self;
  still : IsStill g.D.Disk l.initial.disk l.disk;
  within : l.left ≤ chain_count (length l.bytes);
  reads : g.D.Disk.reads l.disk + l.left ≤ g.D.Disk.reads l.initial.disk + chain_count (length l.bytes);
  free : ((l.self ≡ l.initial.self) × (l.left ≡ chain_count (length l.bytes))) ⊎ (has_free l.initial.self ≡ true);
  steps : ChainStepsTo g.D.Disk l.initial.self l.self l.initial.disk (λ links. links ≡ []) (λ links more. IsWritten l.next l.left l.bytes more);
}

abbrev pub decreases-loop-left : goal.decreases-loop-left
decreases-loop-left g l = l.left
