-- Fields, and the numbers of a path.
use Rattle.std.proofs.Common.{◌≡◌, ℕ, ◌+◌, ◌-◌, ◌*◌, ◌<◌, ◌≤◌, Bool, true, false, ◌&&◌, cond, nat_lt, nat_le, List, [], ◌∷◌, ◌++◌, length, take, drop, get_or, map, ◌==◌, None, Some, refl, sym, ap, ◌∙◌, subst, arith}
use Rattle.std.specs.List.{list_all, list_any, fold, position, position_or_len}
use Rattle.std.proofs.lemmas.Bool.{eqb-true, and_left, and_right}
use Rattle.std.proofs.lemmas.Bool.Decides.{nat_tests}
use Rattle.std.proofs.lemmas.List.{take-append-drop, take_all, take_more, map-append}
use Rattle.std.proofs.lemmas.List.Folds.{list_all_more, list_all_at}
use Rattle.std.proofs.lemmas.List.Sums.{fold-append, fold_more}
use Rattle.nx_pyx.specs.Event.{is_space}
use Rattle.nx_pyx.specs.Field.{behind_space, is_digit, is_number, is_position, steps, is_path, positions_of, value_of, greatest_position}

-- an element passes where the first that does stands before the end
pub any_first : {X : Type 0} (p : X → Bool) (xs : List X) → list_any p xs ≡ nat_lt (position_or_len p xs) (length xs)
any_first p [] = refl
any_first p (x ∷ xs) = grind (arith, nat_tests, any_first p xs)

cut_at : (found : Bool) (q end : ℕ) (bs : List ℕ) → cond found (Some q) None ≡ Some end → cond found (Some (drop (q + 1) bs)) None ≡ Some (drop (end + 1) bs)
cut_at true q end bs h = let e : q ≡ end = cc in ap (λ n. Some (drop (n + 1) bs)) e
cut_at false q end bs h = cc

uncut : (found : Bool) (q : ℕ) (bs : List ℕ) → cond found (Some q) None ≡ None → cond found (Some (drop (q + 1) bs)) None ≡ None
uncut true q bs h = cc
uncut false q bs h = refl

-- what stands behind the first space
pub behind_space-Some : (bs : List ℕ) (end : ℕ) → position is_space bs ≡ Some end → behind_space bs ≡ Some (drop (end + 1) bs)
behind_space-Some bs end h =
    let q = position_or_len is_space bs in
    ap (λ t. cond t (Some (drop (q + 1) bs)) None) (any_first is_space bs) ∙ cut_at (nat_lt q (length bs)) q end bs h

pub behind_space-None : (bs : List ℕ) → position is_space bs ≡ None → behind_space bs ≡ None
behind_space-None bs h =
    let q = position_or_len is_space bs in
    ap (λ t. cond t (Some (drop (q + 1) bs)) None) (any_first is_space bs) ∙ uncut (nat_lt q (length bs)) q bs h

-- the number with one digit more
abbrev pub more : ℕ → ℕ → ℕ
more n digit = 10 * n + (digit - 48)

-- digits behind a number make it no smaller
pub grows : (n : ℕ) (digits : List ℕ) → n ≤ fold more n digits
grows n [] = omega arith
grows n (digit ∷ digits) = let h : more n digit ≤ fold more (more n digit) digits = grows (more n digit) digits in omega arith

prefix_least : (digits : List ℕ) (i : ℕ) → value_of (take i digits) ≤ value_of digits
prefix_least digits i =
    let whole : value_of digits ≡ fold more (value_of (take i digits)) (drop i digits) =
    ap value_of (sym (take-append-drop i digits)) ∙ fold-append more 0 (take i digits) (drop i digits) in
    let least = grows (value_of (take i digits)) (drop i digits) in
    omega arith

-- so many of the bytes are digits, and stand for this number
pub record IsRead (digits : List ℕ) (i n : ℕ) : Type 0 where
  pub all : list_all is_digit (take i digits) ≡ true
  pub fits : n ≤ greatest_position
  pub value : n ≡ value_of (take i digits)

too_much : (digits : List ℕ) (n : ℕ) → n ≤ value_of digits → nat_le n greatest_position ≡ false → is_number digits ≡ false
too_much digits n least h = and_right _ _ (let e : nat_le (value_of digits) greatest_position ≡ false = grind (arith, nat_tests) in e)

-- where the next byte is no digit, or makes the number too great
pub is_number-stopped : (digits : List ℕ) (i n digit d : ℕ) → IsRead digits i n → i < length digits → digit ≡ get_or digits i d →
    (is_digit digit && nat_le (more n digit) greatest_position) ≡ false → is_number digits ≡ false
is_number-stopped digits i n digit d r lt at h =
    let P : Bool → Type 0 = λ t. is_digit digit ≡ t → (t && nat_le (more n digit) greatest_position) ≡ false → is_number digits ≡ false in
    let prefix : value_of (take (i + 1) digits) ≡ more n digit = fold_more more 0 digits i d lt ∙ ap (λ v. more v (get_or digits i d)) (sym r.value) ∙ ap (more n) (sym at) in
    let least = prefix_least digits (i + 1) in
    let cases : (t : Bool) → P t = λ t. elim t as P [
      | true ↦ λ is is_great. too_much digits (more n digit) (omega arith) is_great
      | false ↦ λ is _. and_left _ _ (list_all_at is_digit digits i d lt (ap is_digit (sym at) ∙ is))
    ] in
    cases (is_digit digit) refl h

-- where all are read
pub is_number-read : (digits : List ℕ) (i n : ℕ) → IsRead digits i n → length digits ≤ i →
    (is_number digits ≡ true) × (n ≡ value_of digits)
is_number-read digits i n r end =
    let whole = take_all i digits end in
    let is : n ≡ value_of digits = r.value ∙ ap value_of whole in
    let all : list_all is_digit digits ≡ true = ap (list_all is_digit) (sym whole) ∙ r.all in
    let fits = r.fits in
    let least : nat_le (value_of digits) greatest_position ≡ true = grind (arith, nat_tests) in
    (ap (λ t. t && nat_le (value_of digits) greatest_position) all ∙ least, is)

-- the steps of a path so far are positions, and the path has them
pub record IsWalked (parts : List (List ℕ)) (i : ℕ) (path : List ℕ) : Type 0 where
  pub all : list_all is_position (take i parts) ≡ true
  pub value : path ≡ map value_of (take i parts)

-- one position more
pub walked_more : (parts : List (List ℕ)) (i n : ℕ) (path path' part d : List ℕ) → IsWalked parts i path → i < length parts → part ≡ get_or parts i d →
    is_position part ≡ true → n ≡ value_of part → path' ≡ path ++ n ∷ [] → IsWalked parts (i + 1) path'
walked_more parts i n path path' part d w lt at is value pushed = record {
  all = list_all_more is_position parts i d lt ∙ ap (λ t. t && is_position (get_or parts i d)) w.all ∙ ap is_position (sym at) ∙ is;
  value = pushed
      ∙ ap (λ p. p ++ n ∷ []) w.value
      ∙ ap (λ m. map value_of (take i parts) ++ m ∷ []) (value ∙ ap value_of at)
      ∙ sym (ap (map value_of) (take_more parts i d lt) ∙ map-append value_of (take i parts) (get_or parts i d ∷ []));
}

-- a text that begins with a slash, and has more behind it
pub steps_path : (text rest : List ℕ) → text ≡ 47 ∷ rest → (length rest == 0) ≡ false →
    (is_path text ≡ list_all is_position (steps text)) × (positions_of text ≡ map value_of (steps text))
steps_path text [] e some = cc
steps_path text (x ∷ xs) e some =
    let P : List ℕ → Type 0 = λ t. (is_path t ≡ list_all is_position (steps t)) × (positions_of t ≡ map value_of (steps t)) in
    subst P (sym e) (refl, refl)

-- a slash alone
pub root_path : (text rest : List ℕ) → text ≡ 47 ∷ rest → (length rest == 0) ≡ true → (is_path text ≡ true) × ([] ≡ positions_of text)
root_path text [] e none = (ap is_path e, ap positions_of (sym e))
root_path text (x ∷ xs) e none = absurd (omega (arith, eqb-true (length (x ∷ xs)) 0 none))

-- where each step has been read, or one is no position
pub walked_all : (text rest path : List ℕ) (i : ℕ) → text ≡ 47 ∷ rest → (length rest == 0) ≡ false → i ≡ length (steps text) →
    IsWalked (steps text) i path → (is_path text ≡ true) × (path ≡ positions_of text)
walked_all text rest path i e some end w =
    let p = steps_path text rest e some in
    let whole : take i (steps text) ≡ steps text = take_all i (steps text) (omega arith) in
    (p.0 ∙ ap (list_all is_position) (sym whole) ∙ w.all, w.value ∙ ap (map value_of) whole ∙ sym p.1)

pub walked_wrong : (text rest part d : List ℕ) (i : ℕ) → text ≡ 47 ∷ rest → (length rest == 0) ≡ false → i < length (steps text) →
    part ≡ get_or (steps text) i d → is_position part ≡ false → is_path text ≡ false
walked_wrong text rest part d i e some lt at wrong =
    (steps_path text rest e some).0 ∙ list_all_at is_position (steps text) i d lt (ap is_position (sym at) ∙ wrong)
