-- A line of a plan has one text.
use Rattle.std.proofs.Common.{◌≡◌, ℕ, true, false, ◌&&◌, ◌==◌, cond, List, [], ◌∷◌, length, drop, map, Option, None, Some, refl, sym, ap, ◌∙◌, subst, arith, append-nil}
use Rattle.std.specs.Prelude.{codes}
use Rattle.std.specs.List.{All, list_all, join_with_byte}
use Rattle.std.specs.Option.{option_map}
use Rattle.std.specs.Fmt.{decimal}
use Rattle.std.specs.Str.{bytes_eq}
use Rattle.std.proofs.lemmas.Bool.{and_parts, and_from, cond_both, false≢true}
use Rattle.std.proofs.lemmas.Bool.Decides.{nat_tests}
use Rattle.std.proofs.lemmas.List.Elements.{All-nil, All-cons}
use Rattle.std.proofs.lemmas.List.Splits.{slice_split_none, join_with_byte-slice_split}
use Rattle.std.proofs.lemmas.Slice.Eq.{bytes_eq-Decides}
use Rattle.nx_pyx.specs.Field.{is_digit, is_position, value_of, is_path, positions_of, is_slash}
use Rattle.nx_pyx.specs.Path.{path_text}
use Rattle.nx_pyx.proofs.FieldLemmas.{steps_path}
use Rattle.nx_pyx.proofs.PathLemmas.{path_text-positions_of}
use Rattle.nx_parts.specs.declared.interval.Interval.TheVariants.{Root, Run}
use Rattle.nx_bounds.specs.declared.text.PlanLine.{PlanLine}
use Rattle.nx_bounds.specs.declared.text.PlanLine.TheVariants.{Part, Claim}
use Rattle.nx_bounds.specs.declared.text.read.Three.{Three}
use Rattle.nx_bounds.specs.PlanText.{fields, three_numbers, root_line, run_line, bound_line, line_by, plan_line, line_fields, line_text}
use Rattle.nx_bounds.proofs.PlanFields.{digits-position}

no_slash_digit : (b : ℕ) → is_digit b ≡ true → is_slash b ≡ false
no_slash_digit b h = grind (arith, nat_tests)

no_slash : (digits : List ℕ) → list_all is_digit digits ≡ true → All (λ b. is_slash b ≡ false) digits
no_slash [] h = All-nil (λ b. is_slash b ≡ false)
no_slash (b ∷ digits) h =
    let p = and_parts (is_digit b) (list_all is_digit digits) h in
    All-cons (λ b. is_slash b ≡ false) b digits (no_slash_digit b p.0) (no_slash digits p.1)

some_digit : (digits : List ℕ) → is_position digits ≡ true → (length digits == 0) ≡ false
some_digit [] h = absurd (false≢true h)
some_digit (d ∷ digits) h = grind (arith, nat_tests)

-- the digits of a number are its decimal
decimal_back : (digits : List ℕ) → is_position digits ≡ true → decimal (value_of digits) ≡ digits
decimal_back digits h =
    let split = slice_split_none is_slash digits (no_slash digits (digits-position digits h)) in
    let s = steps_path (47 ∷ digits) digits refl (some_digit digits h) in
    let is : is_path (47 ∷ digits) ≡ true = s.0 ∙ ap (list_all is_position) split ∙ and_from (is_position digits) true h refl in
    let positions : positions_of (47 ∷ digits) ≡ value_of digits ∷ [] = s.1 ∙ ap (map value_of) split in
    let text : path_text (value_of digits ∷ []) ≡ 47 ∷ digits = ap path_text (sym positions) ∙ (path_text-positions_of (47 ∷ digits) is).1 in
    sym (append-nil (decimal (value_of digits))) ∙ ap (λ (bytes : List ℕ). drop 1 bytes) text

-- these are the fields of what they say
abbrev AreFields : List (List ℕ) → Option PlanLine → Type 0
AreFields parts None = Unit {0}
AreFields parts (Some line) = line_fields line ≡ parts

abbrev AreThree : List (List ℕ) → Option Three → Type 0
AreThree parts None = Unit {0}
AreThree parts (Some n) = decimal n.first ∷ decimal n.second ∷ decimal n.third ∷ [] ≡ parts

three_back : (numbers : List (List ℕ)) → AreThree numbers (three_numbers numbers)
three_back [] = tt
three_back (first ∷ []) = tt
three_back (first ∷ second ∷ []) = tt
three_back (first ∷ second ∷ third ∷ []) =
    let test = (is_position first && is_position second) && is_position third in
    cond_both test (Some (record { first = value_of first; second = value_of second; third = value_of third })) None (AreThree (first ∷ second ∷ third ∷ []))
    (λ are.
    let p = and_parts (is_position first && is_position second) (is_position third) are in
    let q = and_parts (is_position first) (is_position second) p.0 in
    ap (λ (f : List ℕ). f ∷ decimal (value_of second) ∷ decimal (value_of third) ∷ []) (decimal_back first q.0)
    ∙ ap (λ (s : List ℕ). first ∷ s ∷ decimal (value_of third) ∷ []) (decimal_back second q.1)
    ∙ ap (λ (t : List ℕ). first ∷ second ∷ t ∷ []) (decimal_back third p.1))
    (λ _. tt)
three_back (first ∷ second ∷ third ∷ more ∷ others) = tt

root_back : (others : List (List ℕ)) → AreFields (codes "root" ∷ others) (root_line others)
root_back [] = tt
root_back (weight ∷ []) =
    cond_both (is_position weight) (Some (Part Root (value_of weight))) None (AreFields (codes "root" ∷ weight ∷ []))
    (λ is. ap (λ (w : List ℕ). codes "root" ∷ w ∷ []) (decimal_back weight is)) (λ _. tt)
root_back (weight ∷ more ∷ others) = tt

abbrev part : List ℕ → Three → PlanLine
part path n = Part (Run (positions_of path) n.first n.second) n.third

part_back : (path : List ℕ) (numbers : List (List ℕ)) (found : Option Three) → is_path path ≡ true → AreThree numbers found →
    AreFields (codes "run" ∷ path ∷ numbers) (option_map (part path) found)
part_back path numbers None is h = tt
part_back path numbers (Some n) is h =
    ap (λ (p : List ℕ). codes "run" ∷ p ∷ decimal n.first ∷ decimal n.second ∷ decimal n.third ∷ []) (path_text-positions_of path is).1
    ∙ ap (λ (ns : List (List ℕ)). codes "run" ∷ path ∷ ns) h

run_back : (others : List (List ℕ)) → AreFields (codes "run" ∷ others) (run_line others)
run_back [] = tt
run_back (path ∷ numbers) =
    cond_both (is_path path) (option_map (part path) (three_numbers numbers)) None (AreFields (codes "run" ∷ path ∷ numbers))
    (λ is. part_back path numbers (three_numbers numbers) is (three_back numbers)) (λ _. tt)

abbrev claim : List ℕ → Three → PlanLine
claim node n = Claim (value_of node) (record { least = n.first; lean = n.second; nearly = n.third })

claim_back : (node : List ℕ) (numbers : List (List ℕ)) (found : Option Three) → is_position node ≡ true → AreThree numbers found →
    AreFields (codes "bound" ∷ node ∷ numbers) (option_map (claim node) found)
claim_back node numbers None is h = tt
claim_back node numbers (Some n) is h =
    ap (λ (d : List ℕ). codes "bound" ∷ d ∷ decimal n.first ∷ decimal n.second ∷ decimal n.third ∷ []) (decimal_back node is)
    ∙ ap (λ (ns : List (List ℕ)). codes "bound" ∷ node ∷ ns) h

bound_back : (others : List (List ℕ)) → AreFields (codes "bound" ∷ others) (bound_line others)
bound_back [] = tt
bound_back (node ∷ numbers) =
    cond_both (is_position node) (option_map (claim node) (three_numbers numbers)) None (AreFields (codes "bound" ∷ node ∷ numbers))
    (λ is. claim_back node numbers (three_numbers numbers) is (three_back numbers)) (λ _. tt)

-- the word is this one
with_word : (word known : List ℕ) (others : List (List ℕ)) (found : Option PlanLine) → bytes_eq word known ≡ true → AreFields (known ∷ others) found → AreFields (word ∷ others) found
with_word word known others found is h = subst (λ (w : List ℕ). AreFields (w ∷ others) found) (sym ((bytes_eq-Decides word known).0 is)) h

line_back : (parts : List (List ℕ)) → AreFields parts (line_by parts)
line_back [] = tt
line_back (word ∷ others) =
    let after_run = cond (bytes_eq word (codes "bound")) (bound_line others) None in
    let after_root = cond (bytes_eq word (codes "run")) (run_line others) after_run in
    cond_both (bytes_eq word (codes "root")) (root_line others) after_root (AreFields (word ∷ others))
    (λ is. with_word word (codes "root") others (root_line others) is (root_back others))
    (λ _. cond_both (bytes_eq word (codes "run")) (run_line others) after_run (AreFields (word ∷ others))
    (λ is. with_word word (codes "run") others (run_line others) is (run_back others))
    (λ _. cond_both (bytes_eq word (codes "bound")) (bound_line others) None (AreFields (word ∷ others))
    (λ is. with_word word (codes "bound") others (bound_line others) is (bound_back others)) (λ _. tt)))

pub one_text : (line : List ℕ) (said : PlanLine) → plan_line line ≡ Some said → line_text said ≡ line
one_text line said is =
    let back : line_fields said ≡ fields line = subst (AreFields (fields line)) is (line_back (fields line)) in
    ap (join_with_byte 32) back ∙ join_with_byte-slice_split 32 line
