-- The lines of a text of a plan, one after the other.
use Rattle.std.proofs.Common.{◌≡◌, ℕ, ◌+◌, ◌<◌, ◌≤◌, true, false, cond, List, [], ◌∷◌, ◌++◌, length, take, drop, map, ◌==◌, Option, None, Some, refl, sym, ap, ◌∙◌, subst, arith, append_assoc, append-nil}
use Rattle.std.specs.List.{count_by, fold, zip}
use Rattle.std.specs.Option.{option_map_or}
use Rattle.std.proofs.lemmas.Bool.{eqb-true}
use Rattle.std.proofs.lemmas.List.{map-append, length_push}
use Rattle.std.proofs.lemmas.List.Folds.{fold-map}
use Rattle.std.proofs.lemmas.List.Sums.{sum_by-cons, sum_by-append}
use Rattle.nx_pyx.specs.Lines.{Pieces, cut, without_cr, last_line, lines, has_lf, EndsLine}
use Rattle.nx_pyx.proofs.ShownFaultLemmas.{onto, cut-append}
use Rattle.nx_pyx.proofs.StreamLemmas.{cut-none, cut-line}
use Rattle.nx_parts.specs.declared.interval.Interval.{Interval}
use Rattle.nx_parts.specs.declared.bounds.Bound.{Bound}
use Rattle.nx_parts.specs.declared.plan.Plan.{Plan}
use Rattle.nx_bounds.specs.declared.text.PlanLine.{PlanLine}
use Rattle.nx_bounds.specs.declared.text.PlanLine.TheVariants.{Part, Claim}
use Rattle.nx_bounds.specs.PlanText.{plan_line, part_line, bound_lines, lines_of, Say, ReadsAs, is_bound, bounds_in, may_follow, goes_on, bad_line}

-- the lines of a piece of text
abbrev lines_in : Pieces → List (List ℕ)
lines_in p = map without_cr p.ended ++ last_line p.rest

-- a text without an LF is one line
pub lines-none : (text : List ℕ) → has_lf text ≡ false → 0 < length text → lines text ≡ without_cr text ∷ []
lines-none [] none some = absurd (omega arith)
lines-none (b ∷ text) none some = ap lines_in (cut-none (b ∷ text) none)

-- a line that an LF ends, and the lines behind it
pub lines-before : (line rest : List ℕ) → has_lf line ≡ false → lines ((line ++ 10 ∷ []) ++ rest) ≡ without_cr line ∷ lines rest
lines-before line rest none =
    ap lines_in (cut-append (line ++ 10 ∷ []) rest)
    ∙ ap (λ (p : Pieces). lines_in (onto p.ended (cut (p.rest ++ rest)))) (cut-line line none)

pub lines-more : (text : List ℕ) (end : ℕ) → EndsLine text end → lines text ≡ without_cr (take end text) ∷ lines (drop (end + 1) text)
lines-more text end ends =
    ap lines (ends.parts ∙ sym (append_assoc (take end text) (10 ∷ []) (drop (end + 1) text)))
    ∙ lines-before (take end text) (drop (end + 1) text) ends.none_before

-- one interval more
pub zip_push : (parts : List Interval) (weights : List ℕ) (part : Interval) (weight : ℕ) → length weights ≡ length parts →
    zip (parts ++ part ∷ []) (weights ++ weight ∷ []) ≡ zip parts weights ++ (part, weight) ∷ []
zip_push [] [] part weight h = refl
zip_push [] (w ∷ weights) part weight h = absurd (omega arith)
zip_push (p ∷ parts) [] part weight h = absurd (omega arith)
zip_push (p ∷ parts) (w ∷ weights) part weight h = ap (λ ps. (p, w) ∷ ps) (zip_push parts weights part weight (omega arith))

-- one bound more
pub bounds_push : (node : ℕ) (bounds : List Bound) (bound : Bound) → bound_lines node (bounds ++ bound ∷ []) ≡ bound_lines node bounds ++ Claim (node + length bounds) bound ∷ []
bounds_push node [] bound = let e : node ≡ node + 0 = omega arith in ap (λ n. Claim n bound ∷ []) e
bounds_push node (b ∷ bounds) bound =
    let e : node + 1 + length bounds ≡ node + length (b ∷ bounds) = omega arith in
    ap (λ ls. Claim node b ∷ ls) (bounds_push (node + 1) bounds bound ∙ ap (λ n. bound_lines (node + 1) bounds ++ Claim n bound ∷ []) e)

-- how many bounds a plan's lines are
count_bounds : (node : ℕ) (bounds : List Bound) → count_by is_bound (bound_lines node bounds) ≡ length bounds
count_bounds node [] = refl
count_bounds node (bound ∷ bounds) =
    let h = count_bounds (node + 1) bounds in
    sum_by-cons (λ line. cond (is_bound line) 1 0) (Claim node bound) (bound_lines (node + 1) bounds) ∙ omega (arith, h)

count_parts : (parts : List (Interval × ℕ)) → count_by is_bound (map part_line parts) ≡ 0
count_parts [] = refl
count_parts (part ∷ parts) =
    let h = count_parts parts in
    sum_by-cons (λ line. cond (is_bound line) 1 0) (part_line part) (map part_line parts) ∙ omega (arith, h)

count_said : (plan : Plan) → count_by is_bound (lines_of plan) ≡ length plan.bounds
count_said plan =
    let parts = count_parts (zip plan.parts plan.weights) in
    let bounds = count_bounds 0 plan.bounds in
    sum_by-append (λ line. cond (is_bound line) 1 0) (map part_line (zip plan.parts plan.weights)) (bound_lines 0 plan.bounds) ∙ omega (arith, parts, bounds)

pub bounds_in-said : (before : List (List ℕ)) (plan : Plan) → Say before plan → bounds_in before ≡ length plan.bounds
bounds_in-said before plan say =
    let f : ℕ → Option PlanLine → ℕ = λ n line. n + cond (option_map_or is_bound line false) 1 0 in
    sym (fold-map f plan_line 0 before)
    ∙ ap (fold f 0) say.said
    ∙ fold-map f (λ line. Some line) 0 (lines_of plan)
    ∙ count_said plan

-- whether a line goes on, by what it says
pub goes_on-said : (before : List (List ℕ)) (line : List ℕ) (plan : Plan) (said : PlanLine) → Say before plan → plan_line line ≡ Some said →
    goes_on before line ≡ may_follow (length plan.bounds) said
goes_on-said before line plan said say is =
    ap (λ o. option_map_or (may_follow (bounds_in before)) o false) is ∙ ap (λ n. may_follow n said) (bounds_in-said before plan say)

pub goes_on-none : (before : List (List ℕ)) (line : List ℕ) → plan_line line ≡ None → goes_on before line ≡ false
goes_on-none before line is = ap (λ o. option_map_or (may_follow (bounds_in before)) o false) is

-- one line more is said
say_more : (before : List (List ℕ)) (line : List ℕ) (old new : Plan) (said : PlanLine) → Say before old → plan_line line ≡ Some said →
    lines_of new ≡ lines_of old ++ said ∷ [] → length new.weights ≡ length new.parts → Say (before ++ line ∷ []) new
say_more before line old new said say is more one_each = record {
  one_each = one_each;
  said = map-append plan_line before (line ∷ [])
      ∙ ap (λ ls. ls ++ plan_line line ∷ []) say.said
      ∙ ap (λ o. map (λ l. Some l) (lines_of old) ++ o ∷ []) is
      ∙ sym (map-append (λ l. Some l) (lines_of old) (said ∷ []))
      ∙ ap (map (λ l. Some l)) (sym more);
}

nothing : {A : Type 0} (xs : List A) → (length xs == 0) ≡ true → xs ≡ []
nothing [] h = refl
nothing (x ∷ xs) h = absurd (omega (arith, eqb-true (length (x ∷ xs)) 0 h))

-- the lines of a plan by its three lists
abbrev lists_say : List Interval → List ℕ → List Bound → List PlanLine
lists_say parts weights bounds = map part_line (zip parts weights) ++ bound_lines 0 bounds

pub say_part : (before : List (List ℕ)) (line : List ℕ) (old new : Plan) (interval : Interval) (weight : ℕ) → Say before old → plan_line line ≡ Some (Part interval weight) →
    (length old.bounds == 0) ≡ true → new.parts ≡ old.parts ++ interval ∷ [] → new.weights ≡ old.weights ++ weight ∷ [] → new.bounds ≡ old.bounds →
    Say (before ++ line ∷ []) new
say_part before line old new interval weight say is no_bounds parts weights bounds =
    let none : old.bounds ≡ [] = nothing old.bounds no_bounds in
    let pairs = zip old.parts old.weights in
    let had : lines_of old ≡ map part_line pairs = ap (lists_say old.parts old.weights) none ∙ append-nil (map part_line pairs) in
    let has : lines_of new ≡ lines_of old ++ Part interval weight ∷ [] =
    ap (λ ps. lists_say ps new.weights new.bounds) parts
    ∙ ap (λ ws. lists_say (old.parts ++ interval ∷ []) ws new.bounds) weights
    ∙ ap (lists_say (old.parts ++ interval ∷ []) (old.weights ++ weight ∷ [])) (bounds ∙ none)
    ∙ append-nil (map part_line (zip (old.parts ++ interval ∷ []) (old.weights ++ weight ∷ [])))
    ∙ ap (map part_line) (zip_push old.parts old.weights interval weight say.one_each)
    ∙ map-append part_line pairs ((interval, weight) ∷ [])
    ∙ ap (λ ls. ls ++ Part interval weight ∷ []) (sym had) in
    say_more before line old new (Part interval weight) say is has
    (ap length weights ∙ length_push old.weights weight ∙ ap (λ n. n + 1) say.one_each ∙ sym (length_push old.parts interval) ∙ sym (ap length parts))

pub say_bound : (before : List (List ℕ)) (line : List ℕ) (old new : Plan) (node : ℕ) (bound : Bound) → Say before old → plan_line line ≡ Some (Claim node bound) →
    node ≡ length old.bounds → new.parts ≡ old.parts → new.weights ≡ old.weights → new.bounds ≡ old.bounds ++ bound ∷ [] →
    Say (before ++ line ∷ []) new
say_bound before line old new node bound say is next parts weights bounds =
    let had = map part_line (zip old.parts old.weights) in
    let number : 0 + length old.bounds ≡ node = omega arith in
    let has : lines_of new ≡ lines_of old ++ Claim node bound ∷ [] =
    ap (λ ps. lists_say ps new.weights new.bounds) parts
    ∙ ap (λ ws. lists_say old.parts ws new.bounds) weights
    ∙ ap (lists_say old.parts old.weights) bounds
    ∙ ap (λ ls. had ++ ls) (bounds_push 0 old.bounds bound)
    ∙ ap (λ (n : ℕ). had ++ (bound_lines 0 old.bounds ++ Claim n bound ∷ [])) number
    ∙ sym (append_assoc had (bound_lines 0 old.bounds) (Claim node bound ∷ [])) in
    say_more before line old new (Claim node bound) say is has (ap length weights ∙ say.one_each ∙ sym (ap length parts))

-- the first bad line is this one, or comes later
bad_here : (before : List (List ℕ)) (line : List ℕ) (others : List (List ℕ)) → goes_on before line ≡ false → bad_line before (line ∷ others) ≡ Some (length before + 1)
bad_here before line others h = ap (λ t. cond t (bad_line (before ++ line ∷ []) others) (Some (length before + 1))) h

pub bad_later : (before : List (List ℕ)) (line : List ℕ) (others : List (List ℕ)) → goes_on before line ≡ true → bad_line before (line ∷ others) ≡ bad_line (before ++ line ∷ []) others
bad_later before line others h = ap (λ t. cond t (bad_line (before ++ line ∷ []) others) (Some (length before + 1))) h

-- so many lines of the text are read, and the plan has them
pub record IsRead (text rest : List ℕ) (number : ℕ) (plan : Plan) : Type 0 where
  pub done : List (List ℕ)
  pub say : Say done plan
  pub parts : lines text ≡ done ++ lines rest
  pub counted : number ≡ length done
  pub bad : bad_line [] (lines text) ≡ bad_line done (lines rest)
  pub fits : number + length rest ≤ length text

pub read_none : (text : List ℕ) (plan : Plan) → plan.parts ≡ [] → plan.weights ≡ [] → plan.bounds ≡ [] → IsRead text text 0 plan
read_none text plan parts weights bounds = record {
  done = [];
  say = record {
    one_each = ap length weights ∙ sym (ap length parts);
    said = sym (ap (map (λ l. Some l)) (ap (λ ps. lists_say ps plan.weights plan.bounds) parts ∙ ap (λ bs. bound_lines 0 bs) bounds));
  };
  parts = refl;
  counted = refl;
  bad = refl;
  fits = omega arith;
}

pub read_more : (text rest more line : List ℕ) (number : ℕ) (old new : Plan) → IsRead text rest number old → lines rest ≡ line ∷ lines more → length more < length rest →
    ((before : List (List ℕ)) → Say before old → goes_on before line ≡ true) → ((before : List (List ℕ)) → Say before old → Say (before ++ line ∷ []) new) →
    IsRead text more (number + 1) new
read_more text rest more line number old new r first less on takes =
    let fits = r.fits in
    let counted = r.counted in
    record {
      done = r.done ++ line ∷ [];
      say = takes r.done r.say;
      parts = r.parts ∙ ap (λ ls. r.done ++ ls) first ∙ sym (append_assoc r.done (line ∷ []) (lines more));
      counted = ap (λ n. n + 1) counted ∙ sym (length_push r.done line);
      bad = r.bad ∙ ap (bad_line r.done) first ∙ bad_later r.done line (lines more) (on r.done r.say);
      fits = omega arith;
    }

pub read_bad : (text rest more line : List ℕ) (number : ℕ) (plan : Plan) → IsRead text rest number plan → lines rest ≡ line ∷ lines more →
    ((before : List (List ℕ)) → Say before plan → goes_on before line ≡ false) → bad_line [] (lines text) ≡ Some (number + 1)
read_bad text rest more line number plan r first off =
    r.bad ∙ ap (bad_line r.done) first ∙ bad_here r.done line (lines more) (off r.done r.say) ∙ ap (λ n. Some (n + 1)) (sym r.counted)

pub read_all : (text rest : List ℕ) (number : ℕ) (plan : Plan) → IsRead text rest number plan → (length rest == 0) ≡ true → ReadsAs text plan
read_all text rest number plan r none =
    subst (λ (ls : List (List ℕ)). Say ls plan) (sym (r.parts ∙ ap (λ b. r.done ++ lines b) (nothing rest none) ∙ append-nil r.done)) r.say
