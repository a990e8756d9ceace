use Rattle.std.specs.Prelude.{◌≡◌, ℕ, List, [], map}
use Rattle.nx_host.specs.Disk.{Image}
use Rattle.nx_host.specs.Still.{IsStill}
use Rattle.nx_pyx.specs.DocumentName.{by_bytes}
use Rattle.nx_rules.specs.Tour.{Visit, Tour}
use Rattle.nx_check.specs.Between.{IsBetweenDocuments}
use Rattle.nx_check.proofs.checking.walk_documents.Given as goal

abbrev pub invariant-loop-document : goal.invariant-loop-document
invariant-loop-document g l = record {
  still : IsStill g.D.Disk l.initial.disk l.disk;
  same : l.walk.wal ≡ l.initial.walk.wal;
  between : (was : Image) (base : ℕ) (tour : Tour) → IsBetweenDocuments g.D.Disk l.initial.walk l.initial.disk was base tour [] tour.visits → l.k ≡ tour.head.settings.k → tour.contents ≡ l.catalog
      → (new : Tour) × (before after : List Visit) × (new ≡ record tour { visits = new.visits }) × IsBetweenDocuments g.D.Disk l.walk l.disk was base new before after
      × (map (λ (v : Visit). (v.name, v.entry)) after ≡ by_bytes l.document-iterator);
}
