use Rattle.nx_cached_host.proofs.KeptLemmas.{way_made, written_kept}
use Rattle.nx_cached_host.proofs.host.CachedHostDisk.write_at.Goals as goal

pub invariant_of-self : goal.invariant_of-self
invariant_of-self g c =
    let old = c.args.self.now in
    let kept = c.make_way.new.self.cache.pages in
    let was = g.H.Disk.contents old.inner in
    record {
      are_kept = written_kept c.write_at.result c.args.area c.args.at c.args.bytes.now was (g.H.Disk.contents c.write_at.new.self) kept c.write_at.ensures.told c.write_at.ensures.written c.write_at.ensures.failed
          c.make_way.ensures.before (way_made was old.kept.cache.pages kept c.make_way.ensures.all old.are_kept);
    }
