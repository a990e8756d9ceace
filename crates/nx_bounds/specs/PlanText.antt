-- The text of a plan: a line for each interval, and then a line for the bound of each node.
use Rattle.std.specs.Prelude.{◌≡◌, ℕ, ◌+◌, ◌≤◌, Bool, true, false, ◌&&◌, ◌==◌, if◌then◌else◌, List, [], ◌∷◌, ◌++◌, length, map, Option, None, Some, codes, decimal}
use Rattle.std.specs.Option.{option_map, option_map_or}
use Rattle.std.specs.List.{All, count_by, flat_map, slice_split, join_with_byte, zip}
use Rattle.std.specs.Str.{bytes_eq}
use Rattle.nx_pyx.specs.Event.{is_space}
use Rattle.nx_pyx.specs.Lines.{lines}
use Rattle.nx_pyx.specs.Field.{is_position, value_of, greatest_position, is_path, positions_of}
use Rattle.nx_pyx.specs.Path.{path_text}
use Rattle.nx_parts.specs.declared.interval.Interval.{Interval}
use Rattle.nx_parts.specs.declared.interval.Interval.TheVariants.{Root, Run}
use Rattle.nx_parts.specs.declared.bounds.Bound.{Bound}
use Rattle.nx_parts.specs.declared.plan.Plan.{Plan}
use Rattle.nx_bounds.specs.declared.error.BoundsError.{BoundsError}
use Rattle.nx_bounds.specs.declared.error.BoundsError.TheVariants.{BadPlanLine, Memory}
use Rattle.nx_bounds.specs.declared.text.read.Three.{Three}
use Rattle.nx_bounds.specs.declared.text.PlanLine.{PlanLine}
use Rattle.nx_bounds.specs.declared.text.PlanLine.TheVariants.{Part, Claim}

-- the fields of a line, which single spaces separate
abbrev pub fields : List ℕ → List (List ℕ)
fields line = slice_split is_space line

-- the numbers that the fields say, where they are three numbers
abbrev pub three_numbers : List (List ℕ) → Option Three
three_numbers (first ∷ second ∷ third ∷ []) =
    if is_position first && is_position second && is_position third
    then Some (record { first = value_of first; second = value_of second; third = value_of third })
    else None
three_numbers _ = None

-- the root alone, where the field behind the word is its weight
abbrev pub root_line : List (List ℕ) → Option PlanLine
root_line (weight ∷ []) = if is_position weight then Some (Part Root (value_of weight)) else None
root_line _ = None

-- children of the node at a path, where behind it stand the positions of the first and the last, and a weight
abbrev pub run_line : List (List ℕ) → Option PlanLine
run_line [] = None
run_line (path ∷ numbers) =
    if is_path path then option_map (λ n. Part (Run (positions_of path) n.first n.second) n.third) (three_numbers numbers) else None

-- the bound of a node, where behind the node stand the numbers of the bound
abbrev pub bound_line : List (List ℕ) → Option PlanLine
bound_line [] = None
bound_line (node ∷ numbers) =
    if is_position node
    then option_map (λ n. Claim (value_of node) (record { least = n.first; lean = n.second; nearly = n.third })) (three_numbers numbers)
    else None

-- what a word and the fields behind it say, where they are a line of a plan
abbrev pub line_by : List (List ℕ) → Option PlanLine
line_by [] = None
line_by (word ∷ others) =
    if bytes_eq word (codes "root") then root_line others
    else if bytes_eq word (codes "run") then run_line others
    else if bytes_eq word (codes "bound") then bound_line others
    else None

-- what a line says, where it is a line of a plan
abbrev pub plan_line : List ℕ → Option PlanLine
plan_line line = line_by (fields line)

abbrev pub part_line : Interval × ℕ → PlanLine
part_line (interval, weight) = Part interval weight

-- what is said of each of these nodes, where they are counted on from a number
abbrev pub bound_lines : ℕ → List Bound → List PlanLine
bound_lines node [] = []
bound_lines node (bound ∷ bounds) = Claim node bound ∷ bound_lines (node + 1) bounds

-- what a plan says: each interval with its weight, and then the bound of each node
abbrev pub lines_of : Plan → List PlanLine
lines_of plan = map part_line (zip plan.parts plan.weights) ++ bound_lines 0 plan.bounds

-- The lines are those of the plan, which has as many weights as intervals.
pub record Say (lines : List (List ℕ)) (plan : Plan) : Type 0 where
  pub one_each : length plan.weights ≡ length plan.parts
  pub said : map plan_line lines ≡ map (λ line. Some line) (lines_of plan)

-- the text reads as the plan
abbrev pub ReadsAs : List ℕ → Plan → Type 0
ReadsAs text plan = Say (lines text) plan

abbrev pub is_bound : PlanLine → Bool
is_bound (Part interval weight) = false
is_bound (Claim node bound) = true

-- how many of the lines are bounds
abbrev pub bounds_in : List (List ℕ) → ℕ
bounds_in lines = count_by (λ line. option_map_or is_bound (plan_line line) false) lines

-- behind so many bounds: an interval before all of them, or the bound of the next node
abbrev pub may_follow : ℕ → PlanLine → Bool
may_follow bounds (Part interval weight) = bounds == 0
may_follow bounds (Claim node bound) = node == bounds

-- the line is a line of a plan, and may stand behind these
abbrev pub goes_on : List (List ℕ) → List ℕ → Bool
goes_on before line = option_map_or (may_follow (bounds_in before)) (plan_line line) false

-- the first line that is none of a plan or stands out of order, counted from 1, where those before are sound
abbrev pub bad_line : List (List ℕ) → List (List ℕ) → Option ℕ
bad_line before [] = None
bad_line before (line ∷ others) = if goes_on before line then bad_line (before ++ line ∷ []) others else Some (length before + 1)

-- why the text is no plan
abbrev pub IsNoPlan : List ℕ → BoundsError → Type 0
IsNoPlan text (BadPlanLine line) = bad_line [] (lines text) ≡ Some line
IsNoPlan text Memory = Unit {0}
IsNoPlan text _ = ⊥

-- the fields that say an interval
abbrev pub interval_fields : Interval → List (List ℕ)
interval_fields Root = codes "root" ∷ []
interval_fields (Run parent first last) = codes "run" ∷ path_text parent ∷ decimal first ∷ decimal last ∷ []

-- the fields that say a line
abbrev pub line_fields : PlanLine → List (List ℕ)
line_fields (Part interval weight) = interval_fields interval ++ decimal weight ∷ []
line_fields (Claim node bound) = codes "bound" ∷ decimal node ∷ decimal bound.least ∷ decimal bound.lean ∷ decimal bound.nearly ∷ []

-- the text of a line: its fields, with a space between each two
abbrev pub line_text : PlanLine → List ℕ
line_text line = join_with_byte 32 (line_fields line)

-- the text of a plan: that of each line, which an LF ends
abbrev pub plan_text : Plan → List ℕ
plan_text plan = flat_map (λ line. line_text line ++ 10 ∷ []) (lines_of plan)

-- each number of the interval is at most the greatest that a field may say
abbrev pub IntervalFits : Interval → Type 0
IntervalFits Root = Unit {0}
IntervalFits (Run parent first last) = All (λ position. position ≤ greatest_position) parent × (first ≤ greatest_position) × (last ≤ greatest_position)

-- each number of the line is
abbrev pub Fits : PlanLine → Type 0
Fits (Part interval weight) = IntervalFits interval × (weight ≤ greatest_position)
Fits (Claim node bound) = (node ≤ greatest_position) × (bound.least ≤ greatest_position) × (bound.lean ≤ greatest_position) × (bound.nearly ≤ greatest_position)

-- The plan has as many weights as intervals, and each weight and each node fits its field.
pub record IsWritable (plan : Plan) : Type 0 where
  pub one_each : length plan.weights ≡ length plan.parts
  pub light : All (λ weight. weight ≤ greatest_position) plan.weights
  pub few : length plan.bounds ≤ greatest_position + 1

-- The same, and each other number fits its field, too.
pub record HasText (plan : Plan) : Type 0 where
  pub one_each : length plan.weights ≡ length plan.parts
  pub fits : All Fits (lines_of plan)
