-- The fields of a line of a plan, as they are read one behind the other.
use Rattle.std.proofs.Common.{◌≡◌, ℕ, ◌≤◌, Bool, true, false, ◌&&◌, ◌||◌, ◌==◌, not, cond, nat_le, List, [], ◌∷◌, length, Option, None, Some, is_some, Bor, refl, sym, ap, ◌∙◌, arith}
use Rattle.std.specs.List.{list_all, list_any, onto_first, after_first}
use Rattle.std.specs.Prelude.{codes}
use Rattle.std.specs.Option.{option_map, MatchOption}
use Rattle.std.specs.Str.{bytes_eq}
use Rattle.std.proofs.lemmas.Bool.{or_parts, or_from, and_parts, and_from, and_right, ltb-true, leb-true}
use Rattle.std.proofs.lemmas.Bool.Decides.{nat_tests}
use Rattle.std.proofs.lemmas.Option.{cond_some, MatchOption-at_some, MatchOption-at_none}
use Rattle.std.proofs.lemmas.List.Splits.{slice_split_first, slice_split-cons_no}
use Rattle.nx_pyx.specs.Event.{is_space}
use Rattle.nx_tree.specs.Document.{is_empty}
use Rattle.nx_pyx.specs.Field.{field, behind_space, begins_with, is_digit, is_number, is_position, value_of, greatest_position, is_path, positions_of}
use Rattle.nx_pyx.proofs.FieldLemmas.{any_first}
use Rattle.nx_parts.specs.declared.interval.Interval.TheVariants.{Root, Run}
use Rattle.nx_bounds.specs.declared.text.PlanLine.{PlanLine}
use Rattle.nx_bounds.specs.declared.text.PlanLine.TheVariants.{Part, Claim}
use Rattle.nx_bounds.specs.declared.text.read.Three.{Three}
use Rattle.nx_bounds.specs.PlanText.{fields, three_numbers, root_line, run_line, bound_line, line_by, plan_line}

cond_none : {A : Type 0} (b : Bool) (x : A) → cond b (Some x) None ≡ None → b ≡ false
cond_none true x h = cc
cond_none false x h = refl

cond_same : {A : Type 0} (b : Bool) (x y : A) → x ≡ y → cond b x y ≡ y
cond_same true x y h = h
cond_same false x y h = refl

-- bytes without a space are one field
one_field : (bytes : List ℕ) → list_any is_space bytes ≡ false → fields bytes ≡ bytes ∷ []
one_field [] h = refl
one_field (b ∷ bytes) h =
    let p = or_parts (is_space b) (list_any is_space bytes) h in
    slice_split-cons_no is_space b bytes p.0 ∙ ap (onto_first b) (one_field bytes p.1)

-- nothing stands behind the only field
pub fields-None : (bytes : List ℕ) → behind_space bytes ≡ None → fields bytes ≡ bytes ∷ []
fields-None bytes h = one_field bytes (cond_none (list_any is_space bytes) (after_first is_space bytes) h)

-- the first field, and those behind it
pub fields-Some : (bytes rest : List ℕ) → behind_space bytes ≡ Some rest → fields bytes ≡ field bytes ∷ fields rest
fields-Some bytes rest h =
    let p = cond_some (list_any is_space bytes) (after_first is_space bytes) rest h in
    slice_split_first is_space bytes 0 (ltb-true _ _ (sym (any_first is_space bytes) ∙ p.0)) ∙ ap (λ r. field bytes ∷ fields r) p.1

-- there is always a first field
some_field : (bytes : List ℕ) → (first : List ℕ) × (others : List (List ℕ)) × (fields bytes ≡ first ∷ others)
some_field bytes =
    let P : Option (List ℕ) → Type 0 = λ o. behind_space bytes ≡ o → (first : List ℕ) × (others : List (List ℕ)) × (fields bytes ≡ first ∷ others) in
    let cases : (o : Option (List ℕ)) → P o = λ o. elim o as P [
      | None ↦ λ is. (bytes, [], fields-None bytes is)
      | Some rest ↦ λ is. (field bytes, fields rest, fields-Some bytes rest is)
    ] in
    cases (behind_space bytes) refl

no_space_digit : (b : ℕ) → is_digit b ≡ true → is_space b ≡ false
no_space_digit b h = grind (arith, nat_tests)

no_space_digits : (digits : List ℕ) → list_all is_digit digits ≡ true → list_any is_space digits ≡ false
no_space_digits [] h = refl
no_space_digits (d ∷ digits) h =
    let p = and_parts (is_digit d) (list_all is_digit digits) h in
    or_from _ _ (no_space_digit d p.0) (no_space_digits digits p.1)

-- a number is digits
pub digits-position : (digits : List ℕ) → is_position digits ≡ true → list_all is_digit digits ≡ true
digits-position digits h =
    let number = and_parts (not (is_empty digits) && (not (begins_with 48 digits) || length digits == 1)) (is_number digits) h in
    (and_parts (list_all is_digit digits) (nat_le (value_of digits) greatest_position) number.1).0

-- and not too great
pub number-position : (digits : List ℕ) → is_position digits ≡ true → value_of digits ≤ greatest_position
number-position digits h =
    let number = and_parts (not (is_empty digits) && (not (begins_with 48 digits) || length digits == 1)) (is_number digits) h in
    leb-true _ _ (and_parts (list_all is_digit digits) (nat_le (value_of digits) greatest_position) number.1).1

-- a number is the only field
pub last_number : (digits : List ℕ) → is_position digits ≡ true → fields digits ≡ digits ∷ []
last_number digits h = one_field digits (no_space_digits digits (digits-position digits h))

-- the fields of other bytes: one that is no number, or two at least
pub data NoNumber (bytes : List ℕ) : Type 0 where
  One : fields bytes ≡ bytes ∷ [] → NoNumber bytes
  More : (first second : List ℕ) (others : List (List ℕ)) → fields bytes ≡ first ∷ second ∷ others → NoNumber bytes

no_number : (bytes : List ℕ) → NoNumber bytes
no_number bytes =
    let P : Option (List ℕ) → Type 0 = λ o. behind_space bytes ≡ o → NoNumber bytes in
    let cases : (o : Option (List ℕ)) → P o = λ o. elim o as P [
      | None ↦ λ is. One (fields-None bytes is)
      | Some rest ↦ λ is.
          let (first, others, e) = some_field rest in
          More (field bytes) first others (fields-Some bytes rest is ∙ ap (λ fs. field bytes ∷ fs) e)
    ] in
    cases (behind_space bytes) refl

-- the fields of bytes that don't begin with a number and a space: one alone, or a first that is no number
data NoNumberBefore (bytes : List ℕ) : Type 0 where
  Alone : fields bytes ≡ bytes ∷ [] → NoNumberBefore bytes
  Other : (others : List (List ℕ)) → fields bytes ≡ field bytes ∷ others → is_position (field bytes) ≡ false → NoNumberBefore bytes

no_number_before : (bytes : List ℕ) → (is_some (behind_space bytes) && is_position (field bytes)) ≡ false → NoNumberBefore bytes
no_number_before bytes h =
    let P : Option (List ℕ) → Type 0 = λ o. behind_space bytes ≡ o → NoNumberBefore bytes in
    let cases : (o : Option (List ℕ)) → P o = λ o. elim o as P [
      | None ↦ λ is. Alone (fields-None bytes is)
      | Some rest ↦ λ is. Other (fields rest) (fields-Some bytes rest is) (sym (ap (λ o. is_some o && is_position (field bytes)) is) ∙ h)
    ] in
    cases (behind_space bytes) refl

abbrev three : List ℕ → List ℕ → List ℕ → Three
three first second third = record { first = value_of first; second = value_of second; third = value_of third }

three_first : (first : List ℕ) (others : List (List ℕ)) → is_position first ≡ false → three_numbers (first ∷ others) ≡ None
three_first first [] h = refl
three_first first (second ∷ []) h = refl
three_first first (second ∷ third ∷ []) h = ap (λ t. cond ((t && is_position second) && is_position third) (Some (three first second third)) None) h
three_first first (second ∷ third ∷ more ∷ others) h = refl

three_second : (first second : List ℕ) (others : List (List ℕ)) → is_position second ≡ false → three_numbers (first ∷ second ∷ others) ≡ None
three_second first second [] h = refl
three_second first second (third ∷ []) h = ap (λ t. cond (t && is_position third) (Some (three first second third)) None) (and_right (is_position first) _ h)
three_second first second (third ∷ more ∷ others) h = refl

-- bytes that aren't three numbers
pub three-not_first : (bytes : List ℕ) → (is_some (behind_space bytes) && is_position (field bytes)) ≡ false → three_numbers (fields bytes) ≡ None
three-not_first bytes h =
    elim (no_number_before bytes h) [
      | Alone e ↦ ap three_numbers e
      | Other others e no_first ↦ ap three_numbers e ∙ three_first (field bytes) others no_first
    ]

pub three-not_second : (bytes rest : List ℕ) → behind_space bytes ≡ Some rest → (is_some (behind_space rest) && is_position (field rest)) ≡ false → three_numbers (fields bytes) ≡ None
three-not_second bytes rest more h =
    ap three_numbers (fields-Some bytes rest more)
    ∙ elim (no_number_before rest h) [
      | Alone e ↦ ap (λ fs. three_numbers (field bytes ∷ fs)) e
      | Other others e no_second ↦ ap (λ fs. three_numbers (field bytes ∷ fs)) e ∙ three_second (field bytes) (field rest) others no_second
    ]

pub three-not_third : (bytes rest last : List ℕ) → behind_space bytes ≡ Some rest → behind_space rest ≡ Some last → is_position last ≡ false → three_numbers (fields bytes) ≡ None
three-not_third bytes rest last more most h =
    ap three_numbers (fields-Some bytes rest more)
    ∙ ap (λ fs. three_numbers (field bytes ∷ fs)) (fields-Some rest last most)
    ∙ elim (no_number last) [
      | One e ↦ ap (λ fs. three_numbers (field bytes ∷ field rest ∷ fs)) e
          ∙ ap (λ t. cond t (Some (three (field bytes) (field rest) last)) None) (and_right (is_position (field bytes) && is_position (field rest)) _ h)
      | More first second others e ↦ ap (λ fs. three_numbers (field bytes ∷ field rest ∷ fs)) e
    ]

-- bytes that are
pub three-all : (bytes rest last : List ℕ) → behind_space bytes ≡ Some rest → behind_space rest ≡ Some last → is_position (field bytes) ≡ true → is_position (field rest) ≡ true → is_position last ≡ true →
    three_numbers (fields bytes) ≡ Some (three (field bytes) (field rest) last)
three-all bytes rest last more most first second third =
    ap three_numbers (fields-Some bytes rest more)
    ∙ ap (λ fs. three_numbers (field bytes ∷ fs)) (fields-Some rest last most)
    ∙ ap (λ fs. three_numbers (field bytes ∷ field rest ∷ fs)) (last_number last third)
    ∙ ap (λ t. cond t (Some (three (field bytes) (field rest) last)) None) (and_from _ _ (and_from _ _ first second) third)

abbrev claim : List ℕ → Three → PlanLine
claim node n = Claim (value_of node) (record { least = n.first; lean = n.second; nearly = n.third })

-- the fields of a bound
pub bound-not_node : (bytes : List ℕ) → (is_some (behind_space bytes) && is_position (field bytes)) ≡ false → bound_line (fields bytes) ≡ None
bound-not_node bytes h =
    elim (no_number_before bytes h) [
      | Alone e ↦ ap bound_line e ∙ cond_same (is_position bytes) None None refl
      | Other others e no_node ↦ ap bound_line e ∙ ap (λ t. cond t (option_map (claim (field bytes)) (three_numbers others)) None) no_node
    ]

pub bound-not_three : (bytes rest : List ℕ) → behind_space bytes ≡ Some rest → three_numbers (fields rest) ≡ None → bound_line (fields bytes) ≡ None
bound-not_three bytes rest more h =
    ap bound_line (fields-Some bytes rest more)
    ∙ cond_same (is_position (field bytes)) (option_map (claim (field bytes)) (three_numbers (fields rest))) None (ap (option_map (claim (field bytes))) h)

pub bound-all : (bytes rest : List ℕ) (n : Three) → behind_space bytes ≡ Some rest → is_position (field bytes) ≡ true → three_numbers (fields rest) ≡ Some n →
    bound_line (fields bytes) ≡ Some (claim (field bytes) n)
bound-all bytes rest n more node h =
    ap bound_line (fields-Some bytes rest more)
    ∙ ap (λ t. cond t (option_map (claim (field bytes)) (three_numbers (fields rest))) None) node
    ∙ ap (option_map (claim (field bytes))) h

abbrev part : List ℕ → Three → PlanLine
part path n = Part (Run (positions_of path) n.first n.second) n.third

-- the fields of an interval
pub run-alone : (bytes : List ℕ) → behind_space bytes ≡ None → run_line (fields bytes) ≡ None
run-alone bytes h = ap run_line (fields-None bytes h) ∙ cond_same (is_path bytes) None None refl

pub run-not_three : (bytes rest : List ℕ) → behind_space bytes ≡ Some rest → three_numbers (fields rest) ≡ None → run_line (fields bytes) ≡ None
run-not_three bytes rest more h =
    ap run_line (fields-Some bytes rest more)
    ∙ cond_same (is_path (field bytes)) (option_map (part (field bytes)) (three_numbers (fields rest))) None (ap (option_map (part (field bytes))) h)

pub run-not_path : (bytes rest : List ℕ) → behind_space bytes ≡ Some rest → is_path (field bytes) ≡ false → run_line (fields bytes) ≡ None
run-not_path bytes rest more h =
    ap run_line (fields-Some bytes rest more)
    ∙ ap (λ t. cond t (option_map (part (field bytes)) (three_numbers (fields rest))) None) h

pub run-all : (bytes rest : List ℕ) (n : Three) → behind_space bytes ≡ Some rest → is_path (field bytes) ≡ true → three_numbers (fields rest) ≡ Some n →
    run_line (fields bytes) ≡ Some (part (field bytes) n)
run-all bytes rest n more path h =
    ap run_line (fields-Some bytes rest more)
    ∙ ap (λ t. cond t (option_map (part (field bytes)) (three_numbers (fields rest))) None) path
    ∙ ap (option_map (part (field bytes))) h

pub root-not : (bytes : List ℕ) → is_position bytes ≡ false → root_line (fields bytes) ≡ None
root-not bytes h =
    elim (no_number bytes) [
      | One e ↦ ap root_line e ∙ ap (λ t. cond t (Some (Part Root (value_of bytes))) None) h
      | More first second others e ↦ ap root_line e
    ]

pub root-is : (bytes : List ℕ) → is_position bytes ≡ true → root_line (fields bytes) ≡ Some (Part Root (value_of bytes))
root-is bytes h = ap root_line (last_number bytes h) ∙ ap (λ t. cond t (Some (Part Root (value_of bytes))) None) h

-- a word alone is no line
pub word_alone : (line : List ℕ) → behind_space line ≡ None → plan_line line ≡ None
word_alone line h =
    ap line_by (fields-None line h) ∙ (let e : line_by (line ∷ []) ≡ None = grind arith in e)

-- a word and the fields behind it
pub word_before : (line others : List ℕ) → behind_space line ≡ Some others → plan_line line ≡ line_by (field line ∷ fields others)
word_before line others h = ap line_by (fields-Some line others h)

-- what stands for a line whose word isn't the first, or none of the first two
abbrev after_run : List ℕ → List ℕ → Option PlanLine
after_run word others = cond (bytes_eq word (codes "bound")) (bound_line (fields others)) None

abbrev after_root : List ℕ → List ℕ → Option PlanLine
after_root word others = cond (bytes_eq word (codes "run")) (run_line (fields others)) (after_run word others)

-- what each word makes of the fields behind it
pub root_word : (line others : List ℕ) → behind_space line ≡ Some others → bytes_eq (field line) (codes "root") ≡ true → plan_line line ≡ root_line (fields others)
root_word line others more root =
    word_before line others more ∙ ap (λ t. cond t (root_line (fields others)) (after_root (field line) others)) root

pub run_word : (line others : List ℕ) → behind_space line ≡ Some others → bytes_eq (field line) (codes "root") ≡ false → bytes_eq (field line) (codes "run") ≡ true →
    plan_line line ≡ run_line (fields others)
run_word line others more root run =
    word_before line others more
    ∙ ap (λ t. cond t (root_line (fields others)) (after_root (field line) others)) root
    ∙ ap (λ t. cond t (run_line (fields others)) (after_run (field line) others)) run

pub bound_word : (line others : List ℕ) → behind_space line ≡ Some others → bytes_eq (field line) (codes "root") ≡ false → bytes_eq (field line) (codes "run") ≡ false →
    bytes_eq (field line) (codes "bound") ≡ true → plan_line line ≡ bound_line (fields others)
bound_word line others more root run bound =
    word_before line others more
    ∙ ap (λ t. cond t (root_line (fields others)) (after_root (field line) others)) root
    ∙ ap (λ t. cond t (run_line (fields others)) (after_run (field line) others)) run
    ∙ ap (λ t. cond t (bound_line (fields others)) None) bound

pub other_word : (line others : List ℕ) → behind_space line ≡ Some others → bytes_eq (field line) (codes "root") ≡ false → bytes_eq (field line) (codes "run") ≡ false →
    bytes_eq (field line) (codes "bound") ≡ false → plan_line line ≡ None
other_word line others more root run bound =
    word_before line others more
    ∙ ap (λ t. cond t (root_line (fields others)) (after_root (field line) others)) root
    ∙ ap (λ t. cond t (run_line (fields others)) (after_run (field line) others)) run
    ∙ ap (λ t. cond t (bound_line (fields others)) None) bound

-- what calls have told
pub tested : (word text first known : List ℕ) (b : Bool) → b ≡ bytes_eq word text → word ≡ first → text ≡ known → bytes_eq first known ≡ b
tested word text first known b test is reads = ap (bytes_eq first) (sym reads) ∙ ap (λ w. bytes_eq w text) (sym is) ∙ sym test

pub behind_some : (bytes : List ℕ) (found : Option (Bor (List ℕ))) (rest : Bor (List ℕ)) → found ≡ Some rest →
    MatchOption found (behind_space bytes ≡ None) (λ r. behind_space bytes ≡ Some r.now) → behind_space bytes ≡ Some rest.now
behind_some bytes found rest is h = MatchOption-at_some (behind_space bytes ≡ None) (λ (r : Bor (List ℕ)). behind_space bytes ≡ Some r.now) rest is h

pub behind_none : (bytes : List ℕ) (found : Option (Bor (List ℕ))) → found ≡ None →
    MatchOption found (behind_space bytes ≡ None) (λ r. behind_space bytes ≡ Some r.now) → behind_space bytes ≡ None
behind_none bytes found is h = MatchOption-at_none (behind_space bytes ≡ None) (λ (r : Bor (List ℕ)). behind_space bytes ≡ Some r.now) is h

pub path_some : (text : List ℕ) (found : Option (List ℕ)) (path : List ℕ) → found ≡ Some path →
    MatchOption found (is_path text ≡ false) (λ p. (is_path text ≡ true) × (p ≡ positions_of text)) → (is_path text ≡ true) × (path ≡ positions_of text)
path_some text found path is h = MatchOption-at_some (is_path text ≡ false) (λ (p : List ℕ). (is_path text ≡ true) × (p ≡ positions_of text)) path is h

pub path_none : (text : List ℕ) (found : Option (List ℕ)) → found ≡ None →
    MatchOption found (is_path text ≡ false) (λ p. (is_path text ≡ true) × (p ≡ positions_of text)) → is_path text ≡ false
path_none text found is h = MatchOption-at_none (is_path text ≡ false) (λ (p : List ℕ). (is_path text ≡ true) × (p ≡ positions_of text)) is h
