-- Marks on the nodes of a tree, which say what interval each is a member of.
use Rattle.std.specs.Prelude.{◌≡◌, ℕ, ◌+◌, Bool, ◌==◌, if◌then◌else◌, List, [], ◌∷◌, Option, None, Some, unwrap_or, IsTrue, slice_get}
use Rattle.std.specs.Option.{option_and_then}
use Rattle.nx_tree.specs.Forest.{Forest, Empty, Plant}
use Rattle.nx_weights.specs.Weight.{weight}
use Rattle.nx_parts.specs.declared.marks.Mark.{Mark, out-Mark}
use Rattle.nx_parts.specs.declared.interval.Interval.{Interval}
use Rattle.nx_parts.specs.declared.error.PartsError.{PartsError}
use Rattle.nx_parts.specs.declared.error.PartsError.TheVariants.{OutOfTree, Overlap, NoRoot, Heavy, Memory}
use Rattle.nx_parts.specs.Refusal.{IsFirst, Overlaps}

-- the interval that holds the node at the path below the marked one
abbrev pub marked : Mark → List ℕ → Option ℕ
marked mark [] = (out-Mark mark).holder
marked mark (position ∷ path) = option_and_then (λ m. marked m path) (slice_get (out-Mark mark).below.items position)

-- the same for the node at the path below one of these
abbrev pub marked_in : List Mark → ℕ → List ℕ → Option ℕ
marked_in marks position path = option_and_then (λ m. marked m path) (slice_get marks position)

-- the nodes whose paths the test picks were members of no interval, and are members of this one now
pub record HoldsMembers (member : List ℕ → Bool) (index : ℕ) (old new : Mark) : Type 0 where
  pub free : (path : List ℕ) → IsTrue (member path) → marked old path ≡ None
  pub held : (path : List ℕ) → marked new path ≡ (if member path then Some index else marked old path)

-- one of the nodes whose paths the test picks is a member of some interval already
abbrev pub Clashes : (List ℕ → Bool) → Mark → Type 0
Clashes member mark = (path : List ℕ) × (taken : ℕ) × IsTrue (member path) × (marked mark path ≡ Some taken)

-- why nodes can't be made members of the interval
abbrev pub IsClash : (List ℕ → Bool) → ℕ → Mark → PartsError → Type 0
IsClash member index old (Overlap place) = (place ≡ index) × Clashes member old
IsClash member index old Memory = Unit {0}
IsClash member index old (OutOfTree place) = ⊥
IsClash member index old NoRoot = ⊥
IsClash member index old (Heavy place slots) = ⊥

-- it is the first interval that overlaps an earlier one, unless memory ran out
abbrev pub IsOverlap : List Interval → PartsError → Type 0
IsOverlap parts (Overlap index) = IsFirst (Overlaps parts) index
IsOverlap parts Memory = Unit {0}
IsOverlap parts (OutOfTree index) = ⊥
IsOverlap parts NoRoot = ⊥
IsOverlap parts (Heavy index slots) = ⊥

-- the interval that holds the node at the path, whose first step is to one of these
abbrev pub holder_by_marks : List Mark → List ℕ → Option ℕ
holder_by_marks marks [] = None
holder_by_marks marks (position ∷ path) = marked_in marks position path

-- what the interval at this place of the list owns of a forest that begins at a position below a node that `above` owns, where `holder` says which interval holds a node, by its path from there
abbrev pub owed : (List ℕ → Option ℕ) → ℕ → ℕ → ℕ → Forest → ℕ
owed holder index above position Empty = 0
owed holder index above position (Plant node below beside) =
    (if unwrap_or (holder (position ∷ [])) above == index then weight node else 0)
    + owed (λ path. holder (position ∷ path)) index (unwrap_or (holder (position ∷ [])) above) 0 below
    + owed holder index above (position + 1) beside
