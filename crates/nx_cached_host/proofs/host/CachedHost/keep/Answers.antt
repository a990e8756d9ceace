use Rattle.nx_cache.specs.Cached.{page_with}
use Rattle.nx_cached_host.specs.Kept.{StandsWhole, address_in}
use Rattle.nx_cached_host.proofs.KeptLemmas.{kept_put, page_stands}
use Rattle.nx_cached_host.proofs.host.CachedHost.keep.Goals as goal

pub invariant_of-self : goal.invariant_of-self
invariant_of-self g c =
    let old = c.args.self.now in
    let page = page_with c.args.bytes.now in
    record {
      are_kept = λ image is. kept_put (StandsWhole image) c.keep.result old.kept.cache.capacity (address_in c.args.area c.args.at) page old.kept.cache.pages c.keep.new.self.cache.pages
          (page_stands c.args.area c.args.at image page (c.requires.given image is) c.requires.page)
          (old.are_kept image is) c.keep.ensures.ok c.keep.ensures.err;
    }
