use Rattle.std.proofs.Common.{sym, subst}
use Rattle.nx_cache.specs.Cached.{Cached, EachListed}
use Rattle.nx_cache.proofs.CallerLemmas.{each_front}
use Rattle.nx_cached_host.specs.Kept.{EndsBy}
use Rattle.nx_cached_host.proofs.kept.KeptPages.copy.Goals as goal

pub invariant_of-self : goal.invariant_of-self
invariant_of-self c =
    let kept = c.args.self.now in
    let P = EndsBy kept.pages_end kept.log_end in
    let front = c.get.follows.holds-at-none in
    record {
      within = subst (λ (k : Cached). EachListed P k.pages) (sym front) (each_front P c.args.address kept.cache.pages kept.within);
    }
