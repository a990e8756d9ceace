use Rattle.std.proofs.Common.{◌≡◌, ◌≢◌, ◌+◌, ◌*◌, ◌-◌, ◌≤◌, ℕ, List, length}
use Rattle.nx_host.specs.Still.{IsStill}
use Rattle.nx_holdings.specs.Holdings.{chain_count}
use Rattle.nx_links.specs.Lists.{IsReadTo}
use Rattle.nx_records.specs.Records.{catalog_length_of}
use Rattle.nx_records.specs.Pages.{SeesSo}
use Rattle.nx_records.proofs.KnownLemmas.{WalksTo}
use Rattle.nx_records.proofs.records.Records.find_catalog.Given as goal

-- the catalog's chain has these pages up to the reader's, by a read for each
abbrev pub invariant-loop-reader : goal.invariant-loop-reader
invariant-loop-reader g l = record {
  same : l.self ≡ l.initial.self;
  still : IsStill g.D.Disk l.initial.disk l.disk;
  left : l.reader.left ≤ catalog_length_of l.initial.self;
  some : catalog_length_of l.initial.self ≤ l.reader.left + 8184 * length l.pages;
  full : l.reader.left ≢ 0 → 8184 * g.D.Disk.reads l.disk ≤ 8184 * g.D.Disk.reads l.initial.disk + (catalog_length_of l.initial.self - l.reader.left);
  reads : g.D.Disk.reads l.disk ≤ g.D.Disk.reads l.initial.disk + chain_count (catalog_length_of l.initial.self);
  read : SeesSo g.D.Disk l.initial.self l.initial.disk (λ pages. (bytes : List ℕ) × (length bytes + l.reader.left ≡ catalog_length_of l.initial.self) × IsReadTo l.initial.self.head.pages pages l.initial.self.head.catalog bytes l.reader.next);
  walks : SeesSo g.D.Disk l.initial.self l.initial.disk (λ pages. WalksTo l.initial.self.head.pages pages l.initial.self.head.catalog l.pages l.reader.next);
}

abbrev pub decreases-loop-reader : goal.decreases-loop-reader
decreases-loop-reader g l = l.reader.left
