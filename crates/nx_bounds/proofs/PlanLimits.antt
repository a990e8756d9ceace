-- What is read of a text fits the fields, so that it can be written.
use Rattle.std.proofs.Common.{◌≡◌, ℕ, ◌+◌, ◌≤◌, ◌&&◌, cond, List, [], ◌∷◌, ◌++◌, length, map, Option, None, Some, subst, arith}
use Rattle.std.specs.Prelude.{codes}
use Rattle.std.specs.List.{All, zip}
use Rattle.std.specs.Option.{option_map}
use Rattle.std.specs.Str.{bytes_eq}
use Rattle.std.proofs.lemmas.Bool.{and_parts, cond_both}
use Rattle.std.proofs.lemmas.List.Elements.{All-nil, All-cons, All-head, All-tail}
use Rattle.nx_pyx.specs.Field.{is_position, value_of, greatest_position, is_path, positions_of}
use Rattle.nx_parts.specs.declared.interval.Interval.{Interval}
use Rattle.nx_parts.specs.declared.interval.Interval.TheVariants.{Root, Run}
use Rattle.nx_parts.specs.declared.bounds.Bound.{Bound}
use Rattle.nx_parts.specs.declared.plan.Plan.{Plan}
use Rattle.nx_bounds.specs.declared.text.PlanLine.{PlanLine}
use Rattle.nx_bounds.specs.declared.text.PlanLine.TheVariants.{Part, Claim}
use Rattle.nx_bounds.specs.declared.text.read.Three.{Three}
use Rattle.nx_bounds.specs.PlanText.{fields, three_numbers, root_line, run_line, bound_line, line_by, plan_line, part_line, bound_lines, lines_of, Say, IsWritable}
use Rattle.nx_bounds.proofs.PlanFields.{number-position}

-- the weight or the node of a line fits its field
abbrev FitsField : Option PlanLine → Type 0
FitsField None = Unit {0}
FitsField (Some (Part interval weight)) = weight ≤ greatest_position
FitsField (Some (Claim node bound)) = node ≤ greatest_position

root_fits : (others : List (List ℕ)) → FitsField (root_line others)
root_fits [] = tt
root_fits (weight ∷ []) = cond_both (is_position weight) (Some (Part Root (value_of weight))) None FitsField (λ is. number-position weight is) (λ _. tt)
root_fits (weight ∷ more ∷ others) = tt

abbrev ThirdFits : Option Three → Type 0
ThirdFits None = Unit {0}
ThirdFits (Some n) = n.third ≤ greatest_position

three_fits : (numbers : List (List ℕ)) → ThirdFits (three_numbers numbers)
three_fits [] = tt
three_fits (first ∷ []) = tt
three_fits (first ∷ second ∷ []) = tt
three_fits (first ∷ second ∷ third ∷ []) =
    let test = (is_position first && is_position second) && is_position third in
    cond_both test (Some (record { first = value_of first; second = value_of second; third = value_of third })) None ThirdFits
    (λ are. number-position third (and_parts (is_position first && is_position second) (is_position third) are).1) (λ _. tt)
three_fits (first ∷ second ∷ third ∷ more ∷ others) = tt

part_fits : (path : List ℕ) (found : Option Three) → ThirdFits found → FitsField (option_map (λ n. Part (Run (positions_of path) n.first n.second) n.third) found)
part_fits path None h = tt
part_fits path (Some n) h = h

run_fits : (others : List (List ℕ)) → FitsField (run_line others)
run_fits [] = tt
run_fits (path ∷ numbers) =
    cond_both (is_path path) (option_map (λ n. Part (Run (positions_of path) n.first n.second) n.third) (three_numbers numbers)) None FitsField
    (λ _. part_fits path (three_numbers numbers) (three_fits numbers)) (λ _. tt)

claim_fits : (node : ℕ) (found : Option Three) → node ≤ greatest_position → FitsField (option_map (λ n. Claim node (record { least = n.first; lean = n.second; nearly = n.third })) found)
claim_fits node None h = tt
claim_fits node (Some n) h = h

bound_fits : (others : List (List ℕ)) → FitsField (bound_line others)
bound_fits [] = tt
bound_fits (node ∷ numbers) =
    cond_both (is_position node) (option_map (λ n. Claim (value_of node) (record { least = n.first; lean = n.second; nearly = n.third })) (three_numbers numbers)) None FitsField
    (λ is. claim_fits (value_of node) (three_numbers numbers) (number-position node is)) (λ _. tt)

line_fits : (parts : List (List ℕ)) → FitsField (line_by parts)
line_fits [] = tt
line_fits (word ∷ others) =
    let after_run = cond (bytes_eq word (codes "bound")) (bound_line others) None in
    let after_root = cond (bytes_eq word (codes "run")) (run_line others) after_run in
    cond_both (bytes_eq word (codes "root")) (root_line others) after_root FitsField (λ _. root_fits others)
    (λ _. cond_both (bytes_eq word (codes "run")) (run_line others) after_run FitsField (λ _. run_fits others)
    (λ _. cond_both (bytes_eq word (codes "bound")) (bound_line others) None FitsField (λ _. bound_fits others) (λ _. tt)))

all_fit : (lines : List (List ℕ)) → All FitsField (map plan_line lines)
all_fit [] = All-nil FitsField
all_fit (line ∷ lines) = All-cons FitsField (plan_line line) (map plan_line lines) (line_fits (fields line)) (all_fit lines)

abbrev said : List PlanLine → List (Option PlanLine)
said lines = map (λ line. Some line) lines

-- the weights of a plan, and what stands behind its intervals
weights_fit : (parts : List Interval) (weights : List ℕ) (more : List PlanLine) → length weights ≡ length parts →
    All FitsField (said (map part_line (zip parts weights) ++ more)) → All (λ w. w ≤ greatest_position) weights × All FitsField (said more)
weights_fit [] [] more same h = (All-nil (λ w. w ≤ greatest_position), h)
weights_fit [] (weight ∷ weights) more same h = absurd (omega arith)
weights_fit (part ∷ parts) [] more same h = absurd (omega arith)
weights_fit (part ∷ parts) (weight ∷ weights) more same h =
    let others = said (map part_line (zip parts weights) ++ more) in
    let rest = weights_fit parts weights more (omega arith) (All-tail FitsField (Some (Part part weight)) others h) in
    (All-cons (λ w. w ≤ greatest_position) weight weights (All-head FitsField (Some (Part part weight)) others h) rest.0, rest.1)

-- the nodes of a plan
nodes_fit : (node : ℕ) (bounds : List Bound) → node ≤ greatest_position + 1 → All FitsField (said (bound_lines node bounds)) → node + length bounds ≤ greatest_position + 1
nodes_fit node [] least h = omega arith
nodes_fit node (bound ∷ bounds) least h =
    let others = said (bound_lines (node + 1) bounds) in
    let fits : node ≤ greatest_position = All-head FitsField (Some (Claim node bound)) others h in
    let rest = nodes_fit (node + 1) bounds (omega arith) (All-tail FitsField (Some (Claim node bound)) others h) in
    omega (arith, rest)

pub writable : (lines : List (List ℕ)) (plan : Plan) → Say lines plan → IsWritable plan
writable lines plan say =
    let fit : All FitsField (said (lines_of plan)) = subst (All FitsField) say.said (all_fit lines) in
    let weights = weights_fit plan.parts plan.weights (bound_lines 0 plan.bounds) say.one_each fit in
    let nodes = nodes_fit 0 plan.bounds (omega arith) weights.1 in
    record { one_each = say.one_each; light = weights.0; few = omega (arith, nodes) }
