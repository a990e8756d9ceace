-- The text of a plan as it is written, line by line and field by field.
use Rattle.std.proofs.Common.{Fits as InWidth, w32, ◌≡◌, ℕ, ◌+◌, ◌^◌, ◌<◌, ◌≤◌, List, [], ◌∷◌, ◌++◌, length, take, map, get_or, Result, Ok, Err, OnOk, refl, sym, ap, ◌∙◌, subst, arith, append_assoc, append-nil}
use Rattle.std.specs.Prelude.{codes}
use Rattle.std.specs.List.{All, flat_map, join_with_byte, zip}
use Rattle.std.specs.Fmt.{decimal}
use Rattle.std.proofs.lemmas.List.{map-append, flat_map_more, length-take-le, take_more, take_all}
use Rattle.std.proofs.lemmas.List.Elements.{All-nil, All-push, All-from_get_or}
use Rattle.std.proofs.Math.Facts.{Fits-lt-pow}
use Rattle.nx_pyx.specs.Field.{greatest_position}
use Rattle.nx_pyx.specs.Path.{path_text}
use Rattle.nx_parts.specs.declared.interval.Interval.{Interval}
use Rattle.nx_parts.specs.declared.interval.Interval.TheVariants.{Root, Run}
use Rattle.nx_parts.specs.declared.bounds.Bound.{Bound}
use Rattle.nx_parts.specs.declared.plan.Plan.{Plan}
use Rattle.nx_bounds.specs.declared.text.PlanLine.{PlanLine}
use Rattle.nx_bounds.specs.declared.text.PlanLine.TheVariants.{Part, Claim}
use Rattle.nx_bounds.specs.PlanText.{part_line, bound_lines, lines_of, interval_fields, line_text, Fits, IsWritable, ReadsAs}
use Rattle.nx_bounds.proofs.PlanLines.{zip_push, bounds_push}
use Rattle.nx_bounds.proofs.PlanTexts.{ended, reads_back}

-- what holds wherever the call succeeds
pub on_ok : {T E P : Type 0} (result : Result T E) → P → OnOk result P
on_ok (Ok value) h = h
on_ok (Err error) h = tt

abbrev Fits32 : ℕ → Type 0
Fits32 n = InWidth w32 n

-- the positions of a path in memory fit their fields
pub positions_fit : (positions : List ℕ) → ((i : ℕ) → Fits32 (get_or positions i 0)) → All (λ p. p ≤ greatest_position) positions
positions_fit positions h = All-from_get_or (λ p. p ≤ greatest_position) positions 0 (λ i inside. let fits : get_or positions i 0 < 2 ^ 32 = Fits-lt-pow (h i) in omega (arith, fits))

joined_more : (field : List ℕ) (fields : List (List ℕ)) (next : List ℕ) → join_with_byte 32 (field ∷ fields) ++ 32 ∷ next ≡ join_with_byte 32 (field ∷ fields ++ next ∷ [])
joined_more field [] next = refl
joined_more field (second ∷ fields) next =
    append_assoc field (32 ∷ join_with_byte 32 (second ∷ fields)) (32 ∷ next)
    ∙ ap (λ r. field ++ 32 ∷ r) (joined_more second fields next)

-- one field more behind a space
pub field_pushed : (old : List ℕ) (field : List ℕ) (fields : List (List ℕ)) (next text more : List ℕ) → text ≡ old ++ join_with_byte 32 (field ∷ fields) →
    more ≡ text ++ (32 ∷ []) ++ next → more ≡ old ++ join_with_byte 32 (field ∷ fields ++ next ∷ [])
field_pushed old field fields next text more is pushed =
    let joined = join_with_byte 32 (field ∷ fields) in
    pushed
    ∙ ap (λ t. t ++ (32 ∷ []) ++ next) is
    ∙ append_assoc (old ++ joined) (32 ∷ []) next
    ∙ append_assoc old joined (32 ∷ next)
    ∙ ap (λ r. old ++ r) (joined_more field fields next)

-- a word and the first field
pub word_pushed : (old word next more : List ℕ) → more ≡ old ++ (word ++ 32 ∷ []) ++ next → more ≡ old ++ join_with_byte 32 (word ∷ next ∷ [])
word_pushed old word next more pushed =
    pushed ∙ append_assoc old (word ++ 32 ∷ []) next ∙ ap (λ r. old ++ r) (append_assoc word (32 ∷ []) next)

-- the fields of an interval, and its weight
pub weight_pushed : (interval : Interval) (old text more : List ℕ) (weight : ℕ) → text ≡ old ++ join_with_byte 32 (interval_fields interval) →
    more ≡ text ++ (32 ∷ []) ++ decimal weight → more ≡ old ++ line_text (Part interval weight)
weight_pushed Root old text more weight is pushed = field_pushed old (codes "root") [] (decimal weight) text more is pushed
weight_pushed (Run parent first last) old text more weight is pushed =
    field_pushed old (codes "run") (path_text parent ∷ decimal first ∷ decimal last ∷ []) (decimal weight) text more is pushed

-- these lines are written, and each has a text of its own
pub record IsWritten (text : List ℕ) (said : List PlanLine) : Type 0 where
  pub is : text ≡ flat_map ended said
  pub fits : All Fits said

pub written_none : (text : List ℕ) → text ≡ [] → IsWritten text []
written_none text h = record { is = h; fits = All-nil Fits }

written_more : (text more : List ℕ) (said : List PlanLine) (line : PlanLine) → IsWritten text said → more ≡ text ++ line_text line ++ 10 ∷ [] → Fits line → IsWritten more (said ++ line ∷ [])
written_more text more said line w pushed fits = record {
  is = pushed
      ∙ append_assoc text (line_text line) (10 ∷ [])
      ∙ ap (λ t. t ++ ended line) w.is
      ∙ flat_map_more ended [] said line;
  fits = All-push Fits said line w.fits fits;
}

-- the lines of so many intervals
abbrev pub parts_said : ℕ → Plan → List PlanLine
parts_said n plan = map part_line (zip (take n plan.parts) (take n plan.weights))

pub part_written : (plan : Plan) (n : ℕ) (text more : List ℕ) (interval d : Interval) (weight : ℕ) → IsWritten text (parts_said n plan) →
    n < length plan.parts → n < length plan.weights → interval ≡ get_or plan.parts n d → weight ≡ get_or plan.weights n 0 →
    more ≡ text ++ line_text (Part interval weight) ++ 10 ∷ [] → Fits (Part interval weight) → IsWritten more (parts_said (n + 1) plan)
part_written plan n text more interval d weight w inside within is_interval is_weight pushed fits =
    let parts = take n plan.parts in
    let weights = take n plan.weights in
    let same : length weights ≡ length parts = length-take-le n plan.weights (omega arith) ∙ sym (length-take-le n plan.parts (omega arith)) in
    let said : parts_said (n + 1) plan ≡ parts_said n plan ++ Part interval weight ∷ [] =
    ap (λ ps. map part_line (zip ps (take (n + 1) plan.weights))) (take_more plan.parts n d inside ∙ ap (λ p. parts ++ p ∷ []) (sym is_interval))
    ∙ ap (λ ws. map part_line (zip (parts ++ interval ∷ []) ws)) (take_more plan.weights n 0 within ∙ ap (λ v. weights ++ v ∷ []) (sym is_weight))
    ∙ ap (map part_line) (zip_push parts weights interval weight same)
    ∙ map-append part_line (zip parts weights) ((interval, weight) ∷ []) in
    subst (IsWritten more) (sym said) (written_more text more (parts_said n plan) (Part interval weight) w pushed fits)

-- the lines of all intervals, and of so many bounds
abbrev pub bounds_said : ℕ → Plan → List PlanLine
bounds_said n plan = map part_line (zip plan.parts plan.weights) ++ bound_lines 0 (take n plan.bounds)

pub parts_written : (plan : Plan) (n : ℕ) (text : List ℕ) → IsWritten text (parts_said n plan) → length plan.parts ≤ n → length plan.weights ≤ n → IsWritten text (bounds_said 0 plan)
parts_written plan n text w parts weights =
    subst (IsWritten text)
    (ap (λ ps. map part_line (zip ps (take n plan.weights))) (take_all n plan.parts parts)
    ∙ ap (λ ws. map part_line (zip plan.parts ws)) (take_all n plan.weights weights)
    ∙ sym (append-nil (map part_line (zip plan.parts plan.weights)))) w

pub bound_written : (plan : Plan) (n : ℕ) (text more : List ℕ) (bound d : Bound) → IsWritten text (bounds_said n plan) → n < length plan.bounds → bound ≡ get_or plan.bounds n d →
    more ≡ text ++ line_text (Claim n bound) ++ 10 ∷ [] → Fits (Claim n bound) → IsWritten more (bounds_said (n + 1) plan)
bound_written plan n text more bound d w inside is pushed fits =
    let parts = map part_line (zip plan.parts plan.weights) in
    let bounds = take n plan.bounds in
    let number : 0 + length bounds ≡ n = (let e = length-take-le n plan.bounds (omega arith) in omega (arith, e)) in
    let said : bounds_said (n + 1) plan ≡ bounds_said n plan ++ Claim n bound ∷ [] =
    ap (λ bs. parts ++ bound_lines 0 bs) (take_more plan.bounds n d inside ∙ ap (λ b. bounds ++ b ∷ []) (sym is))
    ∙ ap (λ ls. parts ++ ls) (bounds_push 0 bounds bound)
    ∙ ap (λ (k : ℕ). parts ++ (bound_lines 0 bounds ++ Claim k bound ∷ [])) number
    ∙ sym (append_assoc parts (bound_lines 0 bounds) (Claim n bound ∷ [])) in
    subst (IsWritten more) (sym said) (written_more text more (bounds_said n plan) (Claim n bound) w pushed fits)

pub all_written : (plan : Plan) (n : ℕ) (text : List ℕ) → IsWritten text (bounds_said n plan) → length plan.bounds ≤ n → IsWritten text (lines_of plan)
all_written plan n text w all = subst (IsWritten text) (ap (λ bs. map part_line (zip plan.parts plan.weights) ++ bound_lines 0 bs) (take_all n plan.bounds all)) w

pub written_reads : (plan : Plan) (text : List ℕ) → IsWritable plan → IsWritten text (lines_of plan) → ReadsAs text plan
written_reads plan text can w = subst (λ (t : List ℕ). ReadsAs t plan) (sym w.is) (reads_back plan (record { one_each = can.one_each; fits = w.fits }))
