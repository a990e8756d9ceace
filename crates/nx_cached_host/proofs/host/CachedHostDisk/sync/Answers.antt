use Rattle.nx_cached_host.proofs.KeptLemmas.{none_kept}
use Rattle.nx_cached_host.proofs.host.CachedHostDisk.sync.Goals as goal

pub invariant_of-self : goal.invariant_of-self
invariant_of-self g c = record { are_kept = none_kept (g.H.Disk.contents c.sync-synced.new.self) c.forget.new.self.cache.pages c.forget.ensures.pages }
