use Rattle.nx_cached_host.proofs.KeptLemmas.{keeps_kept}
use Rattle.nx_cached_host.proofs.host.CachedHostHost.emit.Goals as goal

pub invariant_of-self : goal.invariant_of-self
invariant_of-self g c =
    let old = c.args.self.now in
    record { are_kept = keeps_kept (g.H.Disk.contents old.inner) (g.H.Disk.contents c.emit.new.self) old.kept.cache.pages c.emit.ensures.contents old.are_kept }
