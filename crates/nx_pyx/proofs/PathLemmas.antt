-- Paths and their texts.
use Rattle.std.proofs.Common.{zero, suc, ◌≡◌, ℕ, ◌+◌, ◌-◌, ◌/◌, ◌%◌, ◌^◌, ◌<◌, ◌≤◌, Bool, true, false, ◌&&◌, ◌||◌, not, ◌==◌, nat_le, List, [], ◌∷◌, ◌++◌, length, get_or, take, drop, map, refl, sym, ap, ◌∙◌, subst, arith, append_assoc, append-nil}
use Rattle.std.specs.List.{All, list_all, fold, flat_map, slice_split, join_with_byte}
use Rattle.std.specs.Fmt.{decimal}
use Rattle.std.specs.Str.{bytes_eq}
use Rattle.std.proofs.lemmas.Bool.{and_parts, and_from, false≢true, eqb-true, leb-true}
use Rattle.std.proofs.lemmas.Bool.Decides.{nat_tests}
use Rattle.std.proofs.lemmas.Fmt.{decimal_digit, decimal_step, decimal_by_steps}
use Rattle.std.proofs.Math.Seq.{drop-cons}
use Rattle.std.proofs.lemmas.List.{take-append-drop}
use Rattle.std.proofs.lemmas.List.Concat.{flat_map-append}
use Rattle.std.proofs.lemmas.List.Elements.{All-nil, All-cons, All-head, All-tail}
use Rattle.std.proofs.lemmas.List.Folds.{list_all-append}
use Rattle.std.proofs.lemmas.List.Sums.{fold_push}
use Rattle.std.proofs.lemmas.List.Splits.{slice_split_at, slice_split_none, length-slice_split, join_with_byte-slice_split}
use Rattle.nx_pyx.specs.Field.{begins_with, greatest_position, is_digit, is_number, is_path, is_position, is_slash, positions_of, value_of}
use Rattle.nx_pyx.specs.Path.{path_text, step_text}
use Rattle.nx_pyx.proofs.PrefixLemmas.{prefix-all, prefix-first, prefix-of, prefix-rest}
use Rattle.nx_pyx.proofs.FieldLemmas.{more, grows, steps_path}

-- these digits are the decimal of this number
pub record Spells (n : ℕ) (digits : List ℕ) : Type 0 where
  pub first : ℕ
  pub others : List ℕ
  pub parts : digits ≡ first ∷ others
  pub all : list_all is_digit digits ≡ true
  pub value : value_of digits ≡ n
  pub leading : 1 ≤ n → 49 ≤ first
  pub short : n < 10 → others ≡ []

glyph : (n : ℕ) → n < 10 → is_digit (48 + n) ≡ true
glyph n h = grind (arith, nat_tests)

spells_digit : (n : ℕ) → n < 10 → Spells n ((48 + n) ∷ [])
spells_digit n h = record {
  first = 48 + n;
  others = [];
  parts = refl;
  all = and_from _ _ (glyph n h) refl;
  value = omega arith;
  leading = λ some. omega arith;
  short = λ few. refl;
}

spells_more : (n : ℕ) (digits : List ℕ) → 10 ≤ n → Spells (n / 10) digits → Spells n (digits ++ ((48 + n % 10) ∷ []))
spells_more n digits h s =
    let last = 48 + n % 10 in
    let small : n % 10 < 10 = omega arith in
    record {
      first = s.first;
      others = s.others ++ last ∷ [];
      parts = ap (λ ds. ds ++ last ∷ []) s.parts;
      all = list_all-append is_digit digits (last ∷ []) ∙ and_from _ _ s.all (and_from _ _ (glyph (n % 10) small) refl);
      value = fold_push more 0 digits last ∙ ap (λ v. more v last) s.value ∙ (let e : more (n / 10) last ≡ n = omega arith in e);
      leading = λ some. s.leading (omega arith);
      short = λ few. absurd (omega arith);
    }

spells : (n : ℕ) → n < 2 ^ 64 → Spells n (decimal n)
spells n h = decimal_by_steps Spells spells_digit spells_more n h

-- a first digit other than 0, or no other digit
no_zero : (first : ℕ) (others : List ℕ) → 49 ≤ first → (not (begins_with 48 (first ∷ others)) || length (first ∷ others) == 1) ≡ true
no_zero first others h = grind (arith, nat_tests)

or_true : (b : Bool) → (b || true) ≡ true
or_true true = refl
or_true false = refl

no_others : (first : ℕ) (others : List ℕ) → others ≡ [] → (not (begins_with 48 (first ∷ others)) || length (first ∷ others) == 1) ≡ true
no_others first others h = ap (λ os. not (begins_with 48 (first ∷ os)) || length (first ∷ os) == 1) h ∙ or_true (not (first == 48))

no_leading_zero : (n : ℕ) (digits : List ℕ) (s : Spells n digits) → (not (begins_with 48 (s.first ∷ s.others)) || length (s.first ∷ s.others) == 1) ≡ true
no_leading_zero zero digits s = no_others s.first s.others (s.short (omega arith))
no_leading_zero (suc n) digits s = no_zero s.first s.others (s.leading (omega arith))

fits_value : (n : ℕ) (digits : List ℕ) → value_of digits ≡ n → n ≤ greatest_position → nat_le (value_of digits) greatest_position ≡ true
fits_value n digits e h = grind (arith, nat_tests)

is_position-spelled : (n : ℕ) (digits : List ℕ) → Spells n digits → n ≤ greatest_position → is_position digits ≡ true
is_position-spelled n digits s fits =
    let P : List ℕ → Type 0 = λ ds. is_number ds ≡ true → is_position ds ≡ true in
    subst P (sym s.parts) (λ number. and_from _ _ (no_leading_zero n digits s) number) (and_from _ _ s.all (fits_value n digits s.value fits))

-- the decimals of positions are cut apart at their slashes
no_slash_digit : (b : ℕ) → is_digit b ≡ true → is_slash b ≡ false
no_slash_digit b h = grind (arith, nat_tests)

no_slash : (digits : List ℕ) → list_all is_digit digits ≡ true → All (λ b. is_slash b ≡ false) digits
no_slash [] h = All-nil (λ b. is_slash b ≡ false)
no_slash (b ∷ bs) h =
    let p = and_parts (is_digit b) (list_all is_digit bs) h in
    All-cons (λ b. is_slash b ≡ false) b bs (no_slash_digit b p.0) (no_slash bs p.1)

abbrev Fit : List ℕ → Type 0
Fit ps = All (λ p. p ≤ greatest_position) ps

fit_head : (p : ℕ) (ps : List ℕ) → Fit (p ∷ ps) → p ≤ greatest_position
fit_head p ps h = All-head (λ p. p ≤ greatest_position) p ps h

fit_tail : (p : ℕ) (ps : List ℕ) → Fit (p ∷ ps) → Fit ps
fit_tail p ps h = All-tail (λ p. p ≤ greatest_position) p ps h

spelled : (p : ℕ) → p ≤ greatest_position → Spells p (decimal p)
spelled p h = spells p (omega arith)

split_texts : (p : ℕ) (ps : List ℕ) → Fit (p ∷ ps) → slice_split is_slash (decimal p ++ flat_map step_text ps) ≡ map decimal (p ∷ ps)
split_texts p [] h =
    ap (slice_split is_slash) (append-nil (decimal p)) ∙ slice_split_none is_slash (decimal p) (no_slash (decimal p) (spelled p (fit_head p [] h)).all)
split_texts p (q ∷ ps) h =
    slice_split_at is_slash (decimal p) 47 (decimal q ++ flat_map step_text ps) (no_slash (decimal p) (spelled p (fit_head p (q ∷ ps) h)).all) refl
    ∙ ap (λ r. decimal p ∷ r) (split_texts q ps (fit_tail p (q ∷ ps) h))

all_positions : (ps : List ℕ) → Fit ps → list_all is_position (map decimal ps) ≡ true
all_positions [] h = refl
all_positions (p ∷ ps) h =
    let fits = fit_head p ps h in
    and_from _ _ (is_position-spelled p (decimal p) (spelled p fits) fits) (all_positions ps (fit_tail p ps h))

values : (ps : List ℕ) → Fit ps → map value_of (map decimal ps) ≡ ps
values [] h = refl
values (p ∷ ps) h =
    ap (λ v. v ∷ map value_of (map decimal ps)) (spelled p (fit_head p ps h)).value ∙ ap (λ vs. p ∷ vs) (values ps (fit_tail p ps h))

not_nothing : (n : ℕ) (digits more : List ℕ) → Spells n digits → (length (digits ++ more) == 0) ≡ false
not_nothing n digits more s = ap (λ ds. length (ds ++ more) == 0) s.parts ∙ (let e : (length (s.first ∷ (s.others ++ more)) == 0) ≡ false = grind (arith, nat_tests) in e)

-- the text of positions reads as these positions
pub path-text : (ps : List ℕ) → Fit ps → (is_path (path_text ps) ≡ true) × (positions_of (path_text ps) ≡ ps)
path-text [] h = (refl, refl)
path-text (p ∷ ps) h =
    let rest = decimal p ++ flat_map step_text ps in
    let cut = split_texts p ps h in
    let e = steps_path (47 ∷ rest) rest refl (not_nothing p (decimal p) (flat_map step_text ps) (spelled p (fit_head p ps h))) in
    (e.0 ∙ ap (list_all is_position) cut ∙ all_positions (p ∷ ps) h, e.1 ∙ ap (map value_of) cut ∙ values (p ∷ ps) h)

digit_within : (d : ℕ) → is_digit d ≡ true → (48 ≤ d) × (d ≤ 57)
digit_within d h = (grind (arith, nat_tests), grind (arith, nat_tests))

-- decimal digits without a leading zero are the decimal of their number
decimal_onto : (rest : List ℕ) (n : ℕ) (prefix : List ℕ) → 1 ≤ n → list_all is_digit rest ≡ true → fold more n rest < 2 ^ 64 → decimal n ≡ prefix →
    decimal (fold more n rest) ≡ prefix ++ rest
decimal_onto [] n prefix some all fits e = e ∙ sym (append-nil prefix)
decimal_onto (d ∷ rest) n prefix some all fits e =
    let p = and_parts (is_digit d) (list_all is_digit rest) all in
    let within : (48 ≤ d) × (d ≤ 57) = digit_within d p.0 in
    let m = more n d in
    let least : m ≤ fold more m rest = grows m rest in
    let tens : m / 10 ≡ n = omega arith in
    let ones : 48 + m % 10 ≡ d = omega arith in
    let step : decimal m ≡ prefix ++ d ∷ [] =
    decimal_step m (omega arith) (omega arith) ∙ ap (λ k. decimal k ++ ((48 + m % 10) ∷ [])) tens ∙ ap (λ (k : ℕ). decimal n ++ (k ∷ [])) ones
    ∙ ap (λ ds. ds ++ d ∷ []) e in
    decimal_onto rest m (prefix ++ d ∷ []) (omega arith) p.1 fits step ∙ append_assoc prefix (d ∷ []) rest

decimal_one : (d : ℕ) → is_digit d ≡ true → decimal (more 0 d) ≡ d ∷ []
decimal_one d h =
    let within : (48 ≤ d) × (d ≤ 57) = digit_within d h in
    let n : more 0 d ≡ d - 48 = omega arith in
    let back : 48 + (d - 48) ≡ d = omega arith in
    ap decimal n ∙ decimal_digit (d - 48) (omega arith) ∙ ap (λ (k : ℕ). k ∷ []) back

no_zero_first : (d e : ℕ) (rest : List ℕ) → is_digit d ≡ true → (not (begins_with 48 (d ∷ e ∷ rest)) || length (d ∷ e ∷ rest) == 1) ≡ true → 1 ≤ more 0 d
no_zero_first d e rest h lead = grind (arith, nat_tests)

decimal_of : (d : ℕ) (rest : List ℕ) → (not (begins_with 48 (d ∷ rest)) || length (d ∷ rest) == 1) ≡ true → list_all is_digit (d ∷ rest) ≡ true →
    value_of (d ∷ rest) ≤ greatest_position → decimal (value_of (d ∷ rest)) ≡ d ∷ rest
decimal_of d [] lead all fits = decimal_one d (and_parts (is_digit d) true all).0
decimal_of d (e ∷ rest) lead all fits =
    let p = and_parts (is_digit d) (list_all is_digit (e ∷ rest)) all in
    decimal_onto (e ∷ rest) (more 0 d) (d ∷ []) (no_zero_first d e rest p.0 lead) p.1 (omega arith) (decimal_one d p.0)

decimal-value : (digits : List ℕ) → is_position digits ≡ true → (decimal (value_of digits) ≡ digits) × (value_of digits ≤ greatest_position)
decimal-value [] h = absurd (false≢true h)
decimal-value (d ∷ rest) h =
    let p = and_parts (not (begins_with 48 (d ∷ rest)) || length (d ∷ rest) == 1) (is_number (d ∷ rest)) h in
    let q = and_parts (list_all is_digit (d ∷ rest)) (nat_le (value_of (d ∷ rest)) greatest_position) p.1 in
    let fits : value_of (d ∷ rest) ≤ greatest_position = leb-true _ _ q.1 in
    (decimal_of d rest p.0 q.0 fits, fits)

-- what is read as a path is the text of its positions
texts_of : (parts : List (List ℕ)) → list_all is_position parts ≡ true → flat_map step_text (map value_of parts) ≡ flat_map (λ digits. 47 ∷ digits) parts
texts_of [] h = refl
texts_of (part ∷ parts) h =
    let p = and_parts (is_position part) (list_all is_position parts) h in
    ap (λ (digits : List ℕ). (47 ∷ digits) ++ flat_map step_text (map value_of parts)) (decimal-value part p.0).0
    ∙ ap (λ r. (47 ∷ part) ++ r) (texts_of parts p.1)

joined : (part : List ℕ) (parts : List (List ℕ)) → flat_map (λ digits. 47 ∷ digits) (part ∷ parts) ≡ 47 ∷ join_with_byte 47 (part ∷ parts)
joined part [] = append-nil (47 ∷ part)
joined part (next ∷ parts) = ap (λ r. (47 ∷ part) ++ r) (joined next parts)

text_of_parts : (parts : List (List ℕ)) → 0 < length parts → list_all is_position parts ≡ true → path_text (map value_of parts) ≡ 47 ∷ join_with_byte 47 parts
text_of_parts [] some h = absurd (omega arith)
text_of_parts (part ∷ parts) some h = texts_of (part ∷ parts) h ∙ joined part parts

fit_values : (parts : List (List ℕ)) → list_all is_position parts ≡ true → Fit (map value_of parts)
fit_values [] h = All-nil (λ p. p ≤ greatest_position)
fit_values (part ∷ parts) h =
    let p = and_parts (is_position part) (list_all is_position parts) h in
    All-cons (λ p. p ≤ greatest_position) (value_of part) (map value_of parts) (decimal-value part p.0).1 (fit_values parts p.1)

no_slash_first : (b : ℕ) (rest : List ℕ) → (b == 47) ≡ false → is_path (b ∷ rest) ≡ false
no_slash_first b rest h = ap (λ t. (t && bytes_eq rest []) || (t && list_all is_position (slice_split is_slash rest))) h

slash_first : (b : ℕ) (rest : List ℕ) → is_path (b ∷ rest) ≡ true → b ≡ 47
slash_first b rest h =
    let P : Bool → Type 0 = λ t. (b == 47) ≡ t → b ≡ 47 in
    let cases : (t : Bool) → P t = λ t. elim t as P [
      | true ↦ λ is. eqb-true b 47 is
      | false ↦ λ is. absurd (false≢true (sym (no_slash_first b rest is) ∙ h))
    ] in
    cases (b == 47) refl

behind_slash : (rest : List ℕ) → is_path (47 ∷ rest) ≡ true → Fit (positions_of (47 ∷ rest)) × (path_text (positions_of (47 ∷ rest)) ≡ 47 ∷ rest)
behind_slash [] h = (All-nil (λ p. p ≤ greatest_position), refl)
behind_slash (x ∷ xs) h =
    let parts = slice_split is_slash (x ∷ xs) in
    let all : list_all is_position parts ≡ true = h in
    let some : 0 < length parts = omega (arith, length-slice_split is_slash (x ∷ xs)) in
    (fit_values parts all, text_of_parts parts some all ∙ ap (λ (bs : List ℕ). 47 ∷ bs) (join_with_byte-slice_split 47 (x ∷ xs)))

pub path_text-positions_of : (text : List ℕ) → is_path text ≡ true → Fit (positions_of text) × (path_text (positions_of text) ≡ text)
path_text-positions_of [] h = absurd (false≢true h)
path_text-positions_of (b ∷ rest) h =
    let P : ℕ → Type 0 = λ c. is_path (c ∷ rest) ≡ true → Fit (positions_of (c ∷ rest)) × (path_text (positions_of (c ∷ rest)) ≡ c ∷ rest) in
    subst P (sym (slash_first b rest h)) (behind_slash rest) h

-- a prefix of one step stands behind the steps before it
pub prefix-step : (old block new positions : List ℕ) (i : ℕ) {text : List ℕ} → i < length positions → block ≡ old ++ flat_map step_text (take i positions) → text ≡ step_text (get_or positions i 0)
    → (n : ℕ) × (new ≡ block ++ take n text) → (n : ℕ) × (new ≡ old ++ take n (path_text positions))
prefix-step old block new [] i within e step h = absurd (omega arith)
prefix-step old block new (p ∷ ps) i {text} within e step h =
    let positions : List ℕ = p ∷ ps in
    let whole : flat_map step_text (take i positions) ++ (text ++ flat_map step_text (drop (suc i) positions)) ≡ flat_map step_text positions =
    ap (λ t. flat_map step_text (take i positions) ++ (t ++ flat_map step_text (drop (suc i) positions))) step
    ∙ sym (flat_map-append step_text (take i positions) (get_or positions i 0 ∷ drop (suc i) positions))
    ∙ ap (λ l. flat_map step_text (take i positions ++ l)) (sym (drop-cons positions i 0 within))
    ∙ ap (flat_map step_text) (take-append-drop i positions) in
    prefix-of old new _ (path_text positions) whole (prefix-rest old block new (flat_map step_text (take i positions)) _ e (prefix-first block new text (flat_map step_text (drop (suc i) positions)) h))

-- and steps are a prefix of all of them
pub prefix-steps : (old block positions : List ℕ) (i : ℕ) → block ≡ old ++ flat_map step_text (take i positions) → (n : ℕ) × (block ≡ old ++ take n (path_text positions))
prefix-steps old block [] zero e = (0, e)
prefix-steps old block [] (suc i) e = (0, e)
prefix-steps old block (p ∷ ps) i e =
    let positions : List ℕ = p ∷ ps in
    let whole : flat_map step_text (take i positions) ++ flat_map step_text (drop i positions) ≡ flat_map step_text positions =
    sym (flat_map-append step_text (take i positions) (drop i positions)) ∙ ap (flat_map step_text) (take-append-drop i positions) in
    prefix-of old block _ (path_text positions) whole (prefix-first old block (flat_map step_text (take i positions)) (flat_map step_text (drop i positions)) (prefix-all old block _ e))
