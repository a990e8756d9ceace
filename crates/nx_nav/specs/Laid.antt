-- The intervals that steps tell, with the weights of their parts.
use Rattle.std.specs.Prelude.{◌≡◌, ℕ, ◌+◌, ◌-◌, min, List, [], ◌∷◌, ◌++◌, length, take, Option, None, Some, refl}
use Rattle.std.specs.List.{slice_get}
use Rattle.std.proofs.Common.{sym, ap, ◌∙◌}
use Rattle.nx_parts.specs.declared.interval.Interval.{Interval}
use Rattle.nx_parts.specs.declared.interval.Interval.TheVariants.{Root, Run}
use Rattle.nx_nav.specs.declared.laid.Laying.{Laying}
use Rattle.nx_nav.specs.Steps.{WalkStep, Begin, Open, Head, Block, Tail, Close}

-- Where a walk is: the positions of the open nodes from the root's own on, and that of the next node; with the intervals so far and what their parts weigh.
pub record Course : Type 0 where
  pub path : List ℕ
  pub position : ℕ
  pub parts : List Interval
  pub weights : List ℕ

abbrev pub course_of : Laying → Course
course_of laying = record { path = laying.path; position = laying.position; parts = laying.parts; weights = laying.weights }

-- the sum, or the greatest position
abbrev pub position_behind : ℕ → ℕ → ℕ
position_behind position more = min (position + more) 4294967295

-- the interval of so many nodes from a position on, or the root's where no node is open
abbrev pub interval_at : List ℕ → ℕ → ℕ → Interval
interval_at [] position roots = Root
interval_at (root ∷ path) position roots = Run path position (position_behind position (roots - 1))

-- the position behind a node that ends
abbrev pub position_after : Option ℕ → ℕ → ℕ
position_after None position = position
position_after (Some last) position = position_behind last 1

-- where a node begins
abbrev pub course_into : Course → Course
course_into at = record { path = at.path ++ at.position ∷ []; position = 0; parts = at.parts; weights = at.weights }

abbrev pub course_after : Course → WalkStep → Course
course_after at (Begin roots weight) = record { path = at.path; position = at.position; parts = at.parts ++ interval_at at.path at.position roots ∷ []; weights = at.weights ++ weight ∷ [] }
course_after at (Open node) = course_into at
course_after at (Head kind name) = course_into at
course_after at (Block bytes) = at
course_after at Tail = at
course_after at (Close kind name) = record {
  path = take (length at.path - 1) at.path;
  position = position_after (slice_get at.path (length at.path - 1)) at.position;
  parts = at.parts;
  weights = at.weights;
}

-- where a walk is after these steps
abbrev pub course_behind : Course → List WalkStep → Course
course_behind at [] = at
course_behind at (step ∷ told) = course_behind (course_after at step) told

course-append : (at : Course) (told more : List WalkStep) → course_behind at (told ++ more) ≡ course_behind (course_behind at told) more
course-append at [] more = refl
course-append at (step ∷ told) more = course-append (course_after at step) told more

pub courses_join : (was mid now : Course) (told more : List WalkStep) → mid ≡ course_behind was told → now ≡ course_behind mid more → now ≡ course_behind was (told ++ more)
courses_join was mid now told more first second = second ∙ ap (λ (at : Course). course_behind at more) first ∙ sym (course-append was told more)
