-- Which records a walk reads.
use Rattle.std.specs.Prelude.{Bool, true}
use Rattle.nx_layouts.specs.Layout.{RecordPlace}
use Rattle.nx_names.specs.Holders.{is_holder}
use Rattle.nx_find.specs.declared.wanted.Wanted.{Wanted}
use Rattle.nx_find.specs.declared.wanted.Wanted.TheVariants.{All, Those}

-- below the root's it reads the record at this place
abbrev pub is_wanted : Wanted → RecordPlace → Bool
is_wanted All place = true
is_wanted (Those holders) place = is_holder holders place
