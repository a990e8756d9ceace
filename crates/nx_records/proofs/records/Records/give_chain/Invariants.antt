use Rattle.std.proofs.Common.{◌≡◌, ◌≢◌, ◌+◌, ◌*◌, ◌≤◌, ℕ, List, length}
use Rattle.nx_host.specs.Disk.{Image}
use Rattle.nx_host.specs.Still.{IsStill}
use Rattle.nx_wal.specs.Wal.{current}
use Rattle.nx_holdings.specs.Holdings.{next_of, chain_count}
use Rattle.nx_links.specs.Lists.{IsReadTo}
use Rattle.nx_records.specs.Records.{page_count_of, KeepsLog}
use Rattle.nx_records.specs.Pages.{SeesSo}
use Rattle.nx_records.specs.Chains.{AddsNoLink, ChainStepsTo, IsChainLeft}
use Rattle.nx_records.proofs.records.Records.give_chain.Given as goal

-- what is left of the chain begins at the page; what was read and given back, by a read for each page, stood there before
abbrev pub invariant-loop-page : goal.invariant-loop-page
invariant-loop-page g l = record {
  keeps : KeepsLog l.initial.self l.self;
  still : IsStill g.D.Disk l.initial.disk l.disk;
  within : l.left ≤ l.len;
  full : l.page ≢ 0 → 8184 * g.D.Disk.reads l.disk + l.left ≤ 8184 * g.D.Disk.reads l.initial.disk + l.len;
  reads : g.D.Disk.reads l.disk ≤ g.D.Disk.reads l.initial.disk + chain_count l.len;
  fewer : (page_count_of l.self ≡ page_count_of l.initial.self) × ((was : Image) → AddsNoLink (current l.initial.self.wal was) (current l.self.wal was));
  read : SeesSo g.D.Disk l.initial.self l.initial.disk (λ pages. (bytes : List ℕ) × (length bytes + l.left ≡ l.len) × IsReadTo (page_count_of l.initial.self) pages l.first bytes l.page);
  steps : ChainStepsTo g.D.Disk l.initial.self l.self l.initial.disk (λ links. next_of links ≡ l.first) (λ links more. IsChainLeft l.page l.left l.len links more);
}

abbrev pub decreases-loop-page : goal.decreases-loop-page
decreases-loop-page g l = l.left
