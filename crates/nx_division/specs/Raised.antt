-- The separator's plan without the interval of its root, which joins the part above where there is room.
use Rattle.std.specs.Prelude.{ℕ, ◌+◌, Bool, false, nat_le, if◌then◌else◌, Option, None, Some}
use Rattle.nx_matrix.specs.declared.rule.Entry.{Entry}
use Rattle.nx_matrix.specs.declared.rule.Entry.TheVariants.{Standalone, Cluster, Free}
use Rattle.nx_sketch.specs.Sketch.{sketch_weight}
use Rattle.nx_division.specs.declared.cut.Cut.TheVariants.{Stays}
use Rattle.nx_division.specs.Drawn.{Drawn, Bare, Grown, bare, staying_weight}
use Rattle.nx_division.specs.Separated.{mark_by}

-- a root with this entry, whose part weighs so much, may join the part above
abbrev pub may_join : ℕ → Entry → ℕ → Bool
may_join room Standalone load = false
may_join room Cluster load = nat_le load room
may_join room Free load = nat_le load room

-- the root that is of the separator, where it joins the part above; so much comes before these roots
abbrev pub raised_root : (room t tolerance a : ℕ) → Drawn → Option ℕ
raised_root room t tolerance a Bare = None
raised_root room t tolerance a (Grown position weight entry cut below beside) =
    if mark_by t tolerance a (weight + sketch_weight (bare below)) then (if may_join room entry (weight + staying_weight below) then Some position else None)
    else raised_root room t tolerance (a + (weight + sketch_weight (bare below))) beside

-- the plan in which it does
abbrev pub raised_plan : (room t tolerance a : ℕ) → Drawn → Drawn
raised_plan room t tolerance a Bare = Bare
raised_plan room t tolerance a (Grown position weight entry cut below beside) =
    if mark_by t tolerance a (weight + sketch_weight (bare below)) then (if may_join room entry (weight + staying_weight below) then Grown position weight entry Stays below beside else Grown position weight entry cut below beside)
    else Grown position weight entry cut below (raised_plan room t tolerance (a + (weight + sketch_weight (bare below))) beside)
