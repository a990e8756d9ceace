-- The records that have one label.
use Rattle.std.specs.Prelude.{Bool, true}
use Rattle.nx_layouts.specs.Layout.{RecordPlace}
use Rattle.nx_names.specs.declared.holders.Holders.{Holders}
use Rattle.nx_names.specs.Serials.{has_noted}

-- the record at this place is one of them
abbrev pub is_holder : Holders → RecordPlace → Bool
is_holder holders place = has_noted holders.records.items place (λ serial. true)
