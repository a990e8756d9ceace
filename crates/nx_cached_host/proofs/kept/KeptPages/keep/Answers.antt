use Rattle.std.proofs.Common.{sym, subst, arith}
use Rattle.nx_cache.specs.Cached.{page_with}
use Rattle.nx_cached_host.specs.Kept.{EndsBy}
use Rattle.nx_cached_host.proofs.KeptLemmas.{ends_there, kept_put}
use Rattle.nx_cached_host.proofs.kept.KeptPages.keep.Goals as goal

pub invariant_of-self : goal.invariant_of-self
invariant_of-self c =
    let now = c.reach.new.self in
    let page = page_with c.args.page.now in
    let P = EndsBy now.pages_end now.log_end in
    record {
      within = kept_put P c.put.result now.cache.capacity c.address_in.result page now.cache.pages c.put.new.self.pages
          (subst (λ address. P address page) (sym c.address_in.ensures) (ends_there c.args.area c.args.at c.in-Some.end now.pages_end now.log_end page (omega (arith, c.in-Some.ensures.1)) c.reach.ensures.end))
          now.within c.put.ensures.ok c.put.ensures.err;
    }
