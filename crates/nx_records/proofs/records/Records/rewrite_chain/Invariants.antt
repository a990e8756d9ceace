use Rattle.std.proofs.Common.{◌≡◌, ◌≢◌, ◌+◌, ◌*◌, ◌≤◌, ℕ, List, length}
use Rattle.nx_host.specs.Disk.{Image}
use Rattle.nx_host.specs.Still.{IsStill}
use Rattle.nx_wal.specs.Wal.{IsInStep, current}
use Rattle.nx_holdings.specs.Holdings.{next_of, chain_count}
use Rattle.nx_links.specs.Lists.{IsReadTo}
use Rattle.nx_records.specs.Records.{page_count_of, KeepsLog}
use Rattle.nx_records.specs.Room.{TakesNoPage}
use Rattle.nx_records.specs.Pages.{SeesSo}
use Rattle.nx_records.specs.Chains.{KeepsLinks, LinksStepTo, IsOver}
use Rattle.nx_records.proofs.records.Records.rewrite_chain.Given as goal

-- the pages before this one have their bytes, by a read for each; all pages that may follow say what they said before
abbrev pub invariant-loop-page : goal.invariant-loop-page
invariant-loop-page g l = record {
  keeps : KeepsLog l.initial.self l.self;
  still : IsStill g.D.Disk l.initial.disk l.disk;
  within : l.left ≤ l.len;
  full : l.page ≢ 0 → 8184 * l.index + l.left ≡ l.len;
  few : l.index ≤ chain_count l.len;
  reads : g.D.Disk.reads l.disk ≤ g.D.Disk.reads l.initial.disk + l.index;
  in_place : TakesNoPage l.initial.self l.self;
  links : l.page ≢ 0 → (was : Image) → IsInStep g.D.Disk l.initial.self.wal l.initial.disk was → KeepsLinks (current l.initial.self.wal was) (current l.self.wal was);
  read : SeesSo g.D.Disk l.initial.self l.initial.disk (λ pages. (bytes : List ℕ) × (length bytes + l.left ≡ l.len) × IsReadTo (page_count_of l.initial.self) pages l.first bytes l.page);
  steps : LinksStepTo g.D.Disk l.initial.self l.self l.initial.disk (λ links. next_of links ≡ l.first) (λ was links more. IsOver l.initial.self l.self was l.bytes l.index l.page l.left l.len links more);
}

abbrev pub decreases-loop-page : goal.decreases-loop-page
decreases-loop-page g l = l.left
