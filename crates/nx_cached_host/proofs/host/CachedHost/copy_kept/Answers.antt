use Rattle.std.proofs.Common.{ap, sym, subst, ◌∙◌}
use Rattle.nx_cache.specs.declared.address.Address.{Address}
use Rattle.nx_cache.specs.Cached.{EachListed, bytes_listed}
use Rattle.nx_cache.proofs.CallerLemmas.{each_front}
use Rattle.nx_cached_host.specs.Kept.{StandsWhole}
use Rattle.nx_cached_host.proofs.KeptLemmas.{copied_page}
use Rattle.nx_cached_host.proofs.host.CachedHost.copy_kept.Goals as goal

pub invariant_of-self : goal.invariant_of-self
invariant_of-self g c =
    let old = c.args.self.now in
    record { are_kept = λ image is. subst (EachListed (StandsWhole image)) (sym c.copy.ensures.pages) (each_front (StandsWhole image) c.address_in.result old.kept.cache.pages (old.are_kept image is)) }

pub returns-clause-copied : goal.returns-clause-copied
returns-clause-copied g c found =
    let old = c.args.self.now in
    copied_page (g.H.Disk.contents old.inner) old.kept.cache.pages c.args.area c.args.at c.copy.new.into old.are_kept
    (ap (λ (address : Address). bytes_listed address old.kept.cache.pages) (sym c.address_in.ensures) ∙ c.copy.ensures.copied found)
