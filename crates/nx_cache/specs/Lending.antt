-- What a cache is once a look at one of its pages has ended.
use Rattle.std.specs.Prelude.{◌≡◌, ⊤}
use Rattle.std.specs.Borrow.{Fml, MutBor, follows_so}
use mathlib.Core.Option.{none}
use Rattle.nx_cache.specs.declared.address.Address.{Address}
use Rattle.nx_cache.specs.Cached.{Cached, brought_to_front}
use Rattle.nx_cache.specs.contracts.PageCache.{the_row}

-- it has that page as its first, where it is listed, and its capacity
abbrev pub EndsInFront : MutBor Cached → Address → Fml
EndsInFront cache address = follows_so the_row the_row cache.ghost_name none (λ _ _. ⊤)
    (λ last. last ≡ record { pages = brought_to_front address cache.now.pages; capacity = cache.now.capacity })
