-- A text reads as one plan at most, and one that does has no bad line.
use Rattle.std.proofs.Common.{◌≡◌, ℕ, ◌+◌, true, false, cond, List, [], ◌∷◌, ◌++◌, length, map, Option, None, Some, refl, sym, ap, ◌∙◌, arith}
use Rattle.std.specs.List.{flat_map, zip}
use Rattle.std.specs.Option.{option_map_or}
use Rattle.std.proofs.lemmas.Bool.{eq-eqb}
use Rattle.std.proofs.lemmas.List.Sums.{sum_by_push}
use Rattle.nx_parts.specs.declared.interval.Interval.{Interval}
use Rattle.nx_parts.specs.declared.bounds.Bound.{Bound}
use Rattle.nx_parts.specs.declared.plan.Plan.{Plan}
use Rattle.nx_bounds.specs.declared.text.PlanLine.{PlanLine}
use Rattle.nx_bounds.specs.declared.text.PlanLine.TheVariants.{Part, Claim}
use Rattle.nx_bounds.specs.PlanText.{plan_line, part_line, bound_lines, lines_of, Say, is_bound, bounds_in, may_follow, bad_line}
use Rattle.nx_bounds.proofs.PlanLines.{bad_later}

abbrev interval_in : Option PlanLine → List Interval
interval_in None = []
interval_in (Some (Part interval weight)) = interval ∷ []
interval_in (Some (Claim node bound)) = []

abbrev weight_in : Option PlanLine → List ℕ
weight_in None = []
weight_in (Some (Part interval weight)) = weight ∷ []
weight_in (Some (Claim node bound)) = []

abbrev bound_in : Option PlanLine → List Bound
bound_in None = []
bound_in (Some (Part interval weight)) = []
bound_in (Some (Claim node bound)) = bound ∷ []

abbrev say : List PlanLine → List (Option PlanLine)
say said = map (λ line. Some line) said

-- a plan by its lines
intervals_back : (parts : List Interval) (weights : List ℕ) (node : ℕ) (bounds : List Bound) → length weights ≡ length parts →
    flat_map interval_in (say (map part_line (zip parts weights) ++ bound_lines node bounds)) ≡ parts
intervals_back [] weights node [] h = refl
intervals_back [] weights node (bound ∷ bounds) h = intervals_back [] weights (node + 1) bounds h
intervals_back (part ∷ parts) [] node bounds h = absurd (omega arith)
intervals_back (part ∷ parts) (weight ∷ weights) node bounds h = ap (λ ps. part ∷ ps) (intervals_back parts weights node bounds (omega arith))

weights_back : (parts : List Interval) (weights : List ℕ) (node : ℕ) (bounds : List Bound) → length weights ≡ length parts →
    flat_map weight_in (say (map part_line (zip parts weights) ++ bound_lines node bounds)) ≡ weights
weights_back [] [] node [] h = refl
weights_back [] [] node (bound ∷ bounds) h = weights_back [] [] (node + 1) bounds h
weights_back [] (weight ∷ weights) node bounds h = absurd (omega arith)
weights_back (part ∷ parts) [] node bounds h = absurd (omega arith)
weights_back (part ∷ parts) (weight ∷ weights) node bounds h = ap (λ ws. weight ∷ ws) (weights_back parts weights node bounds (omega arith))

bounds_back : (node : ℕ) (bounds : List Bound) → flat_map bound_in (say (bound_lines node bounds)) ≡ bounds
bounds_back node [] = refl
bounds_back node (bound ∷ bounds) = ap (λ bs. bound ∷ bs) (bounds_back (node + 1) bounds)

all_bounds_back : (parts : List (Interval × ℕ)) (bounds : List Bound) → flat_map bound_in (say (map part_line parts ++ bound_lines 0 bounds)) ≡ bounds
all_bounds_back [] bounds = bounds_back 0 bounds
all_bounds_back (part ∷ parts) bounds = all_bounds_back parts bounds

abbrev plan_with : List Interval → List ℕ → List Bound → Plan
plan_with parts weights bounds = record { parts = parts; weights = weights; bounds = bounds }

pub same_plan : (ls : List (List ℕ)) (p q : Plan) → Say ls p → Say ls q → p ≡ q
same_plan ls p q a b =
    let e : say (lines_of p) ≡ say (lines_of q) = sym a.said ∙ b.said in
    let parts : p.parts ≡ q.parts =
    sym (intervals_back p.parts p.weights 0 p.bounds a.one_each) ∙ ap (flat_map interval_in) e ∙ intervals_back q.parts q.weights 0 q.bounds b.one_each in
    let weights : p.weights ≡ q.weights =
    sym (weights_back p.parts p.weights 0 p.bounds a.one_each) ∙ ap (flat_map weight_in) e ∙ weights_back q.parts q.weights 0 q.bounds b.one_each in
    let bounds : p.bounds ≡ q.bounds =
    sym (all_bounds_back (zip p.parts p.weights) p.bounds) ∙ ap (flat_map bound_in) e ∙ all_bounds_back (zip q.parts q.weights) q.bounds in
    ap (λ ps. plan_with ps p.weights p.bounds) parts
    ∙ ap (λ ws. plan_with q.parts ws p.bounds) weights
    ∙ ap (plan_with q.parts q.weights) bounds

head_of : (a b : Option PlanLine) (rest others : List (Option PlanLine)) → a ∷ rest ≡ b ∷ others → a ≡ b
head_of a b rest others h = cc

tail_of : (a b : Option PlanLine) (rest others : List (Option PlanLine)) → a ∷ rest ≡ b ∷ others → rest ≡ others
tail_of a b rest others h = cc

-- one line more that goes on
bounds_more : (before : List (List ℕ)) (line : List ℕ) (said : PlanLine) → plan_line line ≡ Some said → bounds_in (before ++ line ∷ []) ≡ bounds_in before + cond (is_bound said) 1 0
bounds_more before line said is =
    sum_by_push (λ l. cond (option_map_or is_bound (plan_line l) false) 1 0) before line ∙ ap (λ o. bounds_in before + cond (option_map_or is_bound o false) 1 0) is

sound_more : (before : List (List ℕ)) (line : List ℕ) (others : List (List ℕ)) (said : PlanLine) → plan_line line ≡ Some said → may_follow (bounds_in before) said ≡ true →
    bad_line (before ++ line ∷ []) others ≡ None → bad_line before (line ∷ others) ≡ None
sound_more before line others said is follows sound =
    bad_later before line others (ap (λ o. option_map_or (may_follow (bounds_in before)) o false) is ∙ follows) ∙ sound

sound_bounds : (bounds : List Bound) (node : ℕ) (before ls : List (List ℕ)) → map plan_line ls ≡ say (bound_lines node bounds) → bounds_in before ≡ node → bad_line before ls ≡ None
sound_bounds bounds node before [] h n = refl
sound_bounds [] node before (line ∷ ls) h n = cc
sound_bounds (bound ∷ bounds) node before (line ∷ ls) h n =
    let is : plan_line line ≡ Some (Claim node bound) = head_of _ _ (map plan_line ls) (say (bound_lines (node + 1) bounds)) h in
    sound_more before line ls (Claim node bound) is (eq-eqb node (bounds_in before) (sym n))
    (sound_bounds bounds (node + 1) (before ++ line ∷ []) ls (tail_of _ _ (map plan_line ls) (say (bound_lines (node + 1) bounds)) h)
    (bounds_more before line (Claim node bound) is ∙ ap (λ n. n + 1) n))

sound_parts : (parts : List (Interval × ℕ)) (bounds : List Bound) (before ls : List (List ℕ)) → map plan_line ls ≡ say (map part_line parts ++ bound_lines 0 bounds) → bounds_in before ≡ 0 →
    bad_line before ls ≡ None
sound_parts [] bounds before ls h n = sound_bounds bounds 0 before ls h n
sound_parts (part ∷ parts) bounds before [] h n = refl
sound_parts (part ∷ parts) bounds before (line ∷ ls) h n =
    let is : plan_line line ≡ Some (part_line part) = head_of _ _ (map plan_line ls) (say (map part_line parts ++ bound_lines 0 bounds)) h in
    sound_more before line ls (part_line part) is (eq-eqb (bounds_in before) 0 n)
    (sound_parts parts bounds (before ++ line ∷ []) ls (tail_of _ _ (map plan_line ls) (say (map part_line parts ++ bound_lines 0 bounds)) h)
    (bounds_more before line (part_line part) is ∙ omega (arith, n)))

pub sound : (ls : List (List ℕ)) (plan : Plan) → Say ls plan → bad_line [] ls ≡ None
sound ls plan h = sound_parts (zip plan.parts plan.weights) plan.bounds [] ls h.said refl
