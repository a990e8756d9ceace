-- The separator's plan, drawn node by node.
use Rattle.std.specs.Prelude.{ℕ, ◌+◌, Bool, true, false, ◌&&◌, not, ◌==◌, nat_le, nat_lt, if◌then◌else◌, Option, None, Some}
use Rattle.nx_matrix.specs.declared.rule.Entry.{Entry}
use Rattle.nx_matrix.specs.declared.rule.Entry.TheVariants.{Standalone, Cluster, Free}
use Rattle.nx_sketch.specs.Sketch.{Sketch, Empty, Plant, sketch_weight}
use Rattle.nx_division.specs.declared.cut.Cut.{Cut}
use Rattle.nx_division.specs.declared.cut.Cut.TheVariants.{Stays, Begins, GoesOn}
use Rattle.nx_division.specs.declared.separate.Side.{Side}
use Rattle.nx_division.specs.declared.separate.Kind.{Kind}
use Rattle.nx_division.specs.declared.separate.Kind.TheVariants.{Single, Loose, Inner}
use Rattle.nx_division.specs.Drawn.{Drawn, Bare, Grown}

-- a subtree of that weight, which so much comes before, is of the separator
abbrev pub mark_by : ℕ → ℕ → ℕ → ℕ → Bool
mark_by t tolerance before within = nat_le before t && nat_lt t (before + within) && nat_lt tolerance within

-- what becomes of a node: an interval alone, one of a row, or neither; below the helper (`root`), and below it or a node of the separator (`wide`)
abbrev pub spot_kind : Entry → Bool → Bool → Bool → Kind
spot_kind Standalone root wide marked = Single
spot_kind Cluster root wide marked = if root && marked then Single else Inner
spot_kind Free root wide marked = if marked then (if root then Single else Inner) else (if wide then Loose else Inner)

abbrev pub same_side : Bool → Bool → Bool
same_side true left = left
same_side false left = not left

-- one of a row goes on where its neighbour before it is of the row, on the same side
abbrev pub row_cut : Option Side → ℕ → Bool → Cut
row_cut None position left = Begins
row_cut (Some side) position left = if (side.last + 1 == position) && same_side side.left left then GoesOn else Begins

abbrev pub cut_of : Kind → Option Side → ℕ → Bool → Cut
cut_of Single side position left = Begins
cut_of Loose side position left = row_cut side position left
cut_of Inner side position left = Stays

abbrev pub side_of : Kind → ℕ → Bool → Option Side
side_of Single position left = None
side_of Loose position left = Some (record { last = position; left = left })
side_of Inner position left = None

-- the plan, where so much comes before these nodes
abbrev pub separated : ℕ → ℕ → ℕ → Bool → Bool → Option Side → Sketch → Drawn
separated t tolerance a root wide side Empty = Bare
separated t tolerance a root wide side (Plant position weight entry below beside) =
    Grown position weight entry
    (cut_of (spot_kind entry root wide (mark_by t tolerance a (weight + sketch_weight below))) side position (nat_le (a + (weight + sketch_weight below)) t))
    (separated t tolerance (a + weight) false (mark_by t tolerance a (weight + sketch_weight below)) None below)
    (separated t tolerance (a + (weight + sketch_weight below)) root wide
    (side_of (spot_kind entry root wide (mark_by t tolerance a (weight + sketch_weight below))) position (nat_le (a + (weight + sketch_weight below)) t)) beside)
