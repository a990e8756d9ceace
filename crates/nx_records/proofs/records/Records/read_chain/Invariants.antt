use Rattle.std.proofs.Common.{◌≡◌, ◌≢◌, ◌+◌, ◌*◌, ◌≤◌, length}
use Rattle.nx_host.specs.Still.{IsStill}
use Rattle.nx_holdings.specs.Holdings.{chain_count}
use Rattle.nx_links.specs.Lists.{IsReadTo}
use Rattle.nx_records.specs.Pages.{SeesSo}
use Rattle.nx_records.proofs.records.Records.read_chain.Given as goal

-- the list was read up to the reader's page, by a read for each block
abbrev pub invariant-loop-reader : goal.invariant-loop-reader
invariant-loop-reader g l = record {
  same : l.self ≡ l.initial.self;
  still : IsStill g.D.Disk l.initial.disk l.disk;
  left : length l.bytes + l.reader.left ≡ l.len;
  full : l.reader.left ≢ 0 → 8184 * g.D.Disk.reads l.disk ≤ 8184 * g.D.Disk.reads l.initial.disk + length l.bytes;
  reads : g.D.Disk.reads l.disk ≤ g.D.Disk.reads l.initial.disk + chain_count l.len;
  read : SeesSo g.D.Disk l.initial.self l.initial.disk (λ pages. IsReadTo l.initial.self.head.pages pages l.first l.bytes l.reader.next);
}

abbrev pub decreases-loop-reader : goal.decreases-loop-reader
decreases-loop-reader g l = l.reader.left
