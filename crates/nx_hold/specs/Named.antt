-- The list that a record names for its proxies.
use Rattle.std.specs.Prelude.{◌≡◌, Option, None, Some}
use Rattle.nx_piece.specs.declared.piece.Stored.{Stored}
use Rattle.nx_piece.specs.declared.piece.Stored.TheVariants.{Inline, Chained}
use Rattle.nx_hold.specs.declared.lists.NamedList.{NamedList}

-- what is told of the list is so
abbrev pub NamesSo : Stored → Option NamedList → Type 0
NamesSo (Inline piece) list = list ≡ None
NamesSo (Chained body count chain) list = list ≡ Some (record { count = count; chain = chain })
