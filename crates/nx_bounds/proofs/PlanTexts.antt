-- The text of a plan reads as that plan.
use Rattle.std.proofs.Common.{◌≡◌, ℕ, ◌≤◌, Bool, true, false, ◌==◌, cond, nat_le, List, [], ◌∷◌, ◌++◌, length, map, Option, None, Some, refl, sym, ap, ◌∙◌, subst, arith, append-nil}
use Rattle.std.specs.Prelude.{codes}
use Rattle.std.specs.List.{All, list_all, flat_map, slice_split, join_with_byte}
use Rattle.std.specs.Option.{option_map}
use Rattle.std.specs.Fmt.{decimal}
use Rattle.std.proofs.lemmas.Bool.{and_parts, and_from, or_from}
use Rattle.std.proofs.lemmas.Bool.Decides.{nat_tests}
use Rattle.std.proofs.lemmas.List.Elements.{All-nil, All-cons, All-head, All-tail}
use Rattle.std.proofs.lemmas.List.Folds.{list_all-append}
use Rattle.std.proofs.lemmas.List.Splits.{slice_split_at, slice_split_none, join_with_byte-slice_split}
use Rattle.nx_pyx.specs.Event.{is_space}
use Rattle.nx_pyx.specs.Lines.{without_cr, lines, has_lf}
use Rattle.nx_pyx.specs.Field.{is_digit, is_position, value_of, greatest_position, positions_of, is_slash}
use Rattle.nx_pyx.specs.Path.{path_text, step_text}
use Rattle.nx_pyx.proofs.FieldLemmas.{steps_path, root_path}
use Rattle.nx_pyx.proofs.PathLemmas.{path-text}
use Rattle.nx_parts.specs.declared.interval.Interval.TheVariants.{Root, Run}
use Rattle.nx_parts.specs.declared.plan.Plan.{Plan}
use Rattle.nx_bounds.specs.declared.text.PlanLine.{PlanLine}
use Rattle.nx_bounds.specs.declared.text.PlanLine.TheVariants.{Part, Claim}
use Rattle.nx_bounds.specs.declared.text.read.Three.{Three}
use Rattle.nx_bounds.specs.PlanText.{fields, three_numbers, line_by, plan_line, lines_of, ReadsAs, line_fields, line_text, plan_text, Fits, HasText}
use Rattle.nx_bounds.proofs.PlanFields.{digits-position}
use Rattle.nx_bounds.proofs.PlanLines.{lines-before}

-- the decimal of a number is one field, which says the number
abbrev IsDecimal : List ℕ → ℕ → Type 0
IsDecimal digits n = (is_position digits ≡ true) × (value_of digits ≡ n)

only_part : (parts : List (List ℕ)) (n : ℕ) (digits : List ℕ) → list_all is_position parts ≡ true → map value_of parts ≡ n ∷ [] → join_with_byte 47 parts ≡ digits → IsDecimal digits n
only_part [] n digits all values joined = cc
only_part (part ∷ []) n digits all values joined =
    subst (λ (ds : List ℕ). IsDecimal ds n) joined ((and_parts (is_position part) true all).0, (let e : value_of part ≡ n = cc in e))
only_part (part ∷ other ∷ parts) n digits all values joined = cc

is_decimal : (n : ℕ) → n ≤ greatest_position → IsDecimal (decimal n) n
is_decimal n h =
    let digits = decimal n ++ [] in
    let p = path-text (n ∷ []) (All-cons (λ p. p ≤ greatest_position) n [] h (All-nil (λ p. p ≤ greatest_position))) in
    let P : Bool → Type 0 = λ t. (length digits == 0) ≡ t → IsDecimal digits n in
    let cases : (t : Bool) → P t = λ t. elim t as P [
      | true ↦ λ none. let e : [] ≡ n ∷ [] = (root_path (47 ∷ digits) digits refl none).1 ∙ p.1 in cc
      | false ↦ λ some.
          let s = steps_path (47 ∷ digits) digits refl some in
          only_part (slice_split is_slash digits) n digits (sym s.0 ∙ p.0) (sym s.1 ∙ p.1) (join_with_byte-slice_split 47 digits)
    ] in
    subst (λ (ds : List ℕ). IsDecimal ds n) (append-nil (decimal n)) (cases (length digits == 0) refl)

-- a byte that is no space and ends no line
abbrev is_ink : ℕ → Bool
is_ink b = nat_le 33 b

abbrev are_ink : List ℕ → Bool
are_ink bytes = list_all is_ink bytes

-- such a byte, or a space
abbrev is_plain : ℕ → Bool
is_plain b = nat_le 32 b

digit_ink : (b : ℕ) → is_digit b ≡ true → is_ink b ≡ true
digit_ink b h = grind (arith, nat_tests)

ink_plain : (b : ℕ) → is_ink b ≡ true → is_plain b ≡ true
ink_plain b h = grind (arith, nat_tests)

ink_space : (b : ℕ) → is_ink b ≡ true → is_space b ≡ false
ink_space b h = grind (arith, nat_tests)

plain_lf : (b : ℕ) → is_plain b ≡ true → (b == 10) ≡ false
plain_lf b h = grind (arith, nat_tests)

plain_cr : (b : ℕ) → is_plain b ≡ true → (b == 13) ≡ false
plain_cr b h = grind (arith, nat_tests)

digits_ink : (digits : List ℕ) → list_all is_digit digits ≡ true → are_ink digits ≡ true
digits_ink [] h = refl
digits_ink (d ∷ digits) h =
    let p = and_parts (is_digit d) (list_all is_digit digits) h in and_from _ _ (digit_ink d p.0) (digits_ink digits p.1)

decimal_ink : (n : ℕ) → n ≤ greatest_position → are_ink (decimal n) ≡ true
decimal_ink n h = digits_ink (decimal n) (digits-position (decimal n) (is_decimal n h).0)

steps_ink : (positions : List ℕ) → All (λ p. p ≤ greatest_position) positions → are_ink (flat_map step_text positions) ≡ true
steps_ink [] h = refl
steps_ink (p ∷ positions) h =
    list_all-append is_ink (step_text p) (flat_map step_text positions)
    ∙ and_from _ _ (decimal_ink p (All-head (λ p. p ≤ greatest_position) p positions h)) (steps_ink positions (All-tail (λ p. p ≤ greatest_position) p positions h))

path_ink : (positions : List ℕ) → All (λ p. p ≤ greatest_position) positions → are_ink (path_text positions) ≡ true
path_ink [] h = refl
path_ink (p ∷ positions) h = steps_ink (p ∷ positions) h

no_space : (bytes : List ℕ) → are_ink bytes ≡ true → All (λ b. is_space b ≡ false) bytes
no_space [] h = All-nil (λ b. is_space b ≡ false)
no_space (b ∷ bytes) h =
    let p = and_parts (is_ink b) (are_ink bytes) h in
    All-cons (λ b. is_space b ≡ false) b bytes (ink_space b p.0) (no_space bytes p.1)

-- fields that spaces separate are cut apart again
cut_apart : (field : List ℕ) (others : List (List ℕ)) → list_all are_ink (field ∷ others) ≡ true → fields (join_with_byte 32 (field ∷ others)) ≡ field ∷ others
cut_apart field [] h = slice_split_none is_space field (no_space field (and_parts (are_ink field) true h).0)
cut_apart field (next ∷ others) h =
    let p = and_parts (are_ink field) (list_all are_ink (next ∷ others)) h in
    slice_split_at is_space field 32 (join_with_byte 32 (next ∷ others)) (no_space field p.0) refl
    ∙ ap (λ fs. field ∷ fs) (cut_apart next others p.1)

three_of : (a b c : ℕ) → a ≤ greatest_position → b ≤ greatest_position → c ≤ greatest_position →
    three_numbers (decimal a ∷ decimal b ∷ decimal c ∷ []) ≡ Some (let n : Three = record { first = a; second = b; third = c } in n)
three_of a b c ha hb hc =
    let da = is_decimal a ha in
    let db = is_decimal b hb in
    let dc = is_decimal c hc in
    let three : ℕ → ℕ → ℕ → Option Three = λ x y z. Some (record { first = x; second = y; third = z }) in
    ap (λ t. cond t (three (value_of (decimal a)) (value_of (decimal b)) (value_of (decimal c))) None) (and_from _ _ (and_from _ _ da.0 db.0) dc.0)
    ∙ ap (λ x. three x (value_of (decimal b)) (value_of (decimal c))) da.1
    ∙ ap (λ y. three a y (value_of (decimal c))) db.1
    ∙ ap (three a b) dc.1

three_ink : (a b c : ℕ) → a ≤ greatest_position → b ≤ greatest_position → c ≤ greatest_position → list_all are_ink (decimal a ∷ decimal b ∷ decimal c ∷ []) ≡ true
three_ink a b c ha hb hc = and_from _ _ (decimal_ink a ha) (and_from _ _ (decimal_ink b hb) (and_from _ _ (decimal_ink c hc) refl))

fields_ink : (said : PlanLine) → Fits said → list_all are_ink (line_fields said) ≡ true
fields_ink (Part Root weight) (_, hw) = and_from _ _ (decimal_ink weight hw) refl
fields_ink (Part (Run parent first last) weight) ((hp, hf, hl), hw) = and_from _ _ (path_ink parent hp) (three_ink first last weight hf hl hw)
fields_ink (Claim node bound) (hn, ht, hl, hy) = and_from _ _ (decimal_ink node hn) (three_ink bound.least bound.lean bound.nearly ht hl hy)

says : (said : PlanLine) → Fits said → plan_line (line_text said) ≡ Some said
says (Part Root weight) (h, hw) =
    let d = is_decimal weight hw in
    ap line_by (cut_apart (codes "root") (decimal weight ∷ []) (fields_ink (Part Root weight) (h, hw)))
    ∙ ap (λ t. cond t (Some (Part Root (value_of (decimal weight)))) None) d.0
    ∙ ap (λ w. Some (Part Root w)) d.1
says (Part (Run parent first last) weight) ((hp, hf, hl), hw) =
    let p = path-text parent hp in
    let numbers = decimal first ∷ decimal last ∷ decimal weight ∷ [] in
    let run : List ℕ → Three → PlanLine = λ path n. Part (Run path n.first n.second) n.third in
    ap line_by (cut_apart (codes "run") (path_text parent ∷ numbers) (fields_ink (Part (Run parent first last) weight) ((hp, hf, hl), hw)))
    ∙ ap (λ t. cond t (option_map (run (positions_of (path_text parent))) (three_numbers numbers)) None) p.0
    ∙ ap (λ path. option_map (run path) (three_numbers numbers)) p.1
    ∙ ap (option_map (run parent)) (three_of first last weight hf hl hw)
says (Claim node bound) (hn, ht, hl, hy) =
    let d = is_decimal node hn in
    let numbers = decimal bound.least ∷ decimal bound.lean ∷ decimal bound.nearly ∷ [] in
    let claim : ℕ → Three → PlanLine = λ node n. Claim node (record { least = n.first; lean = n.second; nearly = n.third }) in
    ap line_by (cut_apart (codes "bound") (decimal node ∷ numbers) (fields_ink (Claim node bound) (hn, ht, hl, hy)))
    ∙ ap (λ t. cond t (option_map (claim (value_of (decimal node))) (three_numbers numbers)) None) d.0
    ∙ ap (λ n. option_map (claim n) (three_numbers numbers)) d.1
    ∙ ap (option_map (claim node)) (three_of bound.least bound.lean bound.nearly ht hl hy)

-- the bytes of a line
inks_plain : (bytes : List ℕ) → are_ink bytes ≡ true → list_all is_plain bytes ≡ true
inks_plain [] h = refl
inks_plain (b ∷ bytes) h = let p = and_parts (is_ink b) (are_ink bytes) h in and_from _ _ (ink_plain b p.0) (inks_plain bytes p.1)

joined_plain : (parts : List (List ℕ)) → list_all are_ink parts ≡ true → list_all is_plain (join_with_byte 32 parts) ≡ true
joined_plain [] h = refl
joined_plain (part ∷ []) h = inks_plain part (and_parts (are_ink part) true h).0
joined_plain (part ∷ next ∷ parts) h =
    let p = and_parts (are_ink part) (list_all are_ink (next ∷ parts)) h in
    list_all-append is_plain part (32 ∷ join_with_byte 32 (next ∷ parts)) ∙ and_from _ _ (inks_plain part p.0) (joined_plain (next ∷ parts) p.1)

plain_no_lf : (bytes : List ℕ) → list_all is_plain bytes ≡ true → has_lf bytes ≡ false
plain_no_lf [] h = refl
plain_no_lf (b ∷ bytes) h = let p = and_parts (is_plain b) (list_all is_plain bytes) h in or_from _ _ (plain_lf b p.0) (plain_no_lf bytes p.1)

plain_no_cr : (bytes : List ℕ) → list_all is_plain bytes ≡ true → without_cr bytes ≡ bytes
plain_no_cr [] h = refl
plain_no_cr (b ∷ []) h = ap (λ t. cond t [] (b ∷ [])) (plain_cr b (and_parts (is_plain b) true h).0)
plain_no_cr (b ∷ c ∷ bytes) h = ap (λ r. b ∷ r) (plain_no_cr (c ∷ bytes) (and_parts (is_plain b) (list_all is_plain (c ∷ bytes)) h).1)

-- the lines of a text are those that it was written from
abbrev pub ended : PlanLine → List ℕ
ended said = line_text said ++ 10 ∷ []

lines_back : (said : List PlanLine) → All Fits said → lines (flat_map ended said) ≡ map line_text said
lines_back [] h = refl
lines_back (line ∷ said) h =
    let plain = joined_plain (line_fields line) (fields_ink line (All-head Fits line said h)) in
    lines-before (line_text line) (flat_map ended said) (plain_no_lf (line_text line) plain)
    ∙ ap (λ (l : List ℕ). l ∷ lines (flat_map ended said)) (plain_no_cr (line_text line) plain)
    ∙ ap (λ (ls : List (List ℕ)). line_text line ∷ ls) (lines_back said (All-tail Fits line said h))

all_says : (said : List PlanLine) → All Fits said → map plan_line (map line_text said) ≡ map (λ l. Some l) said
all_says [] h = refl
all_says (line ∷ said) h =
    ap (λ (o : Option PlanLine). o ∷ map plan_line (map line_text said)) (says line (All-head Fits line said h))
    ∙ ap (λ (os : List (Option PlanLine)). Some line ∷ os) (all_says said (All-tail Fits line said h))

pub reads_back : (plan : Plan) → HasText plan → ReadsAs (plan_text plan) plan
reads_back plan h = record {
  one_each = h.one_each;
  said = ap (map plan_line) (lines_back (lines_of plan) h.fits) ∙ all_says (lines_of plan) h.fits;
}
