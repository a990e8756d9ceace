-- The line that refuses an input.
use Rattle.std.specs.Prelude.{ℕ, List, [], ◌∷◌, ◌++◌, codes, decimal}
use Rattle.nx_pyx.specs.Path.{path_text}
use Rattle.nx_pyx.specs.Word.{word_of}
use Rattle.nx_pyx.specs.declared.error.PyxError.{PyxError}
use Rattle.nx_parts.specs.declared.error.PartsError.{PartsError}
use Rattle.nx_parts.specs.declared.error.PartsError.TheVariants.{OutOfTree, Overlap, NoRoot, Heavy}
use Rattle.nx_parts.specs.declared.error.PartsError.TheVariants as parts_error
use Rattle.nx_choices.specs.declared.child.Field.{Field}
use Rattle.nx_choices.specs.declared.child.Field.TheVariants.{Least, Lean, Nearly}
use Rattle.nx_bounds.specs.declared.error.BoundsError.{BoundsError}
use Rattle.nx_bounds.specs.declared.error.BoundsError.TheVariants.{Parts, WrongWeight, Length, Unsupported, Count, BadPlanLine, Memory}
use Rattle.nx_filters.specs.declared.refusal.Refusal.{Refusal}
use Rattle.nx_filters.specs.declared.refusal.Refusal.TheVariants.{Pyx, TooHeavy, Bounds}

-- fields with a space between each two, and an LF behind the last
abbrev pub line_of_fields : List (List ℕ) → List ℕ
line_of_fields [] = []
line_of_fields (field ∷ []) = field ++ codes "\n"
line_of_fields (field ∷ next ∷ fields) = field ++ 32 ∷ line_of_fields (next ∷ fields)

-- the word of a number of a bound
abbrev pub field_word : Field → List ℕ
field_word Least = codes "least"
field_word Lean = codes "lean"
field_word Nearly = codes "nearly"

abbrev pub parts_line : PartsError → List ℕ
parts_line (OutOfTree index) = line_of_fields (codes "refused" ∷ codes "out-of-tree" ∷ decimal index ∷ [])
parts_line (Overlap index) = line_of_fields (codes "refused" ∷ codes "overlap" ∷ decimal index ∷ [])
parts_line NoRoot = line_of_fields (codes "refused" ∷ codes "no-root" ∷ [])
parts_line (Heavy index slots) = line_of_fields (codes "refused" ∷ codes "heavy" ∷ decimal index ∷ decimal slots ∷ [])
parts_line parts_error.Memory = []

abbrev pub bounds_line : BoundsError → List ℕ
bounds_line (Parts error) = parts_line error
bounds_line (WrongWeight index claimed found) = line_of_fields (codes "refused" ∷ codes "weight" ∷ decimal index ∷ decimal claimed ∷ decimal found ∷ [])
bounds_line (Length bounds nodes) = line_of_fields (codes "refused" ∷ codes "length" ∷ decimal bounds ∷ decimal nodes ∷ [])
bounds_line (Unsupported node field claimed found) =
    line_of_fields (codes "refused" ∷ codes "unsupported" ∷ decimal node ∷ field_word field ∷ decimal claimed ∷ decimal found ∷ [])
bounds_line (Count intervals bound) = line_of_fields (codes "refused" ∷ codes "count" ∷ decimal intervals ∷ decimal bound ∷ [])
bounds_line (BadPlanLine line) = line_of_fields (codes "refused" ∷ codes "plan-line" ∷ decimal line ∷ [])
bounds_line Memory = []

abbrev pub fault_line : PyxError → List ℕ
fault_line error = line_of_fields (codes "refused" ∷ codes "pyx" ∷ decimal error.line ∷ word_of error.fault ∷ [])

abbrev pub heavy_line : List ℕ → ℕ → List ℕ
heavy_line path slots = line_of_fields (codes "refused" ∷ codes "too-heavy" ∷ path_text path ∷ decimal slots ∷ [])

abbrev pub refusal_line : Refusal → List ℕ
refusal_line (Pyx error) = fault_line error
refusal_line (TooHeavy path slots) = heavy_line path slots
refusal_line (Bounds error) = bounds_line error
