-- Labels that get numbers.
use Rattle.std.proofs.Common.{◌≡◌, ◌<◌, ◌≤◌, ℕ, zero, suc, ◌-◌, ◌==◌, Bool, true, false, true≢false, List, [], ◌∷◌, ◌++◌, Vec, Global, length, get_or, Option, Some, None, slice_set, refl, sym, ap, ◌∙◌, subst, length-append, arith, inl, inr}
use Rattle.std.specs.Prelude.{if◌then◌else◌}
use Rattle.std.specs.Str.{bytes_eq}
use Rattle.std.specs.Option.{option_map_or}
use Rattle.std.specs.Vec.{with_item}
use Rattle.std.proofs.lemmas.Bool.{cases_lt}
use Rattle.std.proofs.lemmas.Bool.Decides.{nat_tests}
use Rattle.std.proofs.lemmas.List.{get_or_append_left, get_or-append_right, get_or-set_same, length-set}
use Rattle.std.proofs.lemmas.Slice.Eq.{bytes_eq-Decides}
use Rattle.nx_names.specs.declared.serials.Serials.{Serials}
use Rattle.nx_names.specs.declared.hints.Hints.{Hints}
use Rattle.nx_names.specs.declared.hints.Hint.{Hint}
use Rattle.nx_names.specs.Serials.{LabelNumbers, numbered_list, label_number, serials_at}
use Rattle.nx_names.specs.Opening.{AddsOpen}
use Rattle.nx_names.specs.Numbering.{AddsAt, AreRight, IsNumbering, NumbersLabel}

one_number : (n m : ℕ) → Some n ≡ Some m → n ≡ m
one_number n m e = cc

-- behind the last list there is none
pub list_past : (lists : List (Vec ℕ Global)) (n : ℕ) → length lists ≤ n → numbered_list lists n ≡ []
list_past [] n past = refl
list_past (x ∷ lists) zero past = absurd (omega arith)
list_past (x ∷ lists) (suc n) past = list_past lists n (omega arith)

-- one list more
pub list_before : (lists : List (Vec ℕ Global)) (last : Vec ℕ Global) (n : ℕ) → n < length lists → numbered_list (lists ++ last ∷ []) n ≡ numbered_list lists n
list_before [] last n low = absurd (omega arith)
list_before (x ∷ lists) last zero low = refl
list_before (x ∷ lists) last (suc n) low = list_before lists last n (omega arith)

pub list_last : (lists : List (Vec ℕ Global)) (last : Vec ℕ Global) (n : ℕ) → n ≡ length lists → numbered_list (lists ++ last ∷ []) n ≡ last.items
list_last [] last zero is = refl
list_last [] last (suc n) is = absurd (omega arith)
list_last (x ∷ lists) last zero is = absurd (omega arith)
list_last (x ∷ lists) last (suc n) is = list_last lists last n (omega arith)

-- one list written anew
list_set : (lists : List (Vec ℕ Global)) (n : ℕ) (list : Vec ℕ Global) → n < length lists → numbered_list (slice_set lists n list) n ≡ list.items
list_set [] n list low = absurd (omega arith)
list_set (x ∷ lists) zero list low = refl
list_set (x ∷ lists) (suc n) list low = list_set lists n list (omega arith)

list_set_apart : (lists : List (Vec ℕ Global)) (n m : ℕ) (list : Vec ℕ Global) → (m ≡ n → ⊥) → numbered_list (slice_set lists n list) m ≡ numbered_list lists m
list_set_apart [] n m list apart = refl
list_set_apart (x ∷ lists) zero zero list apart = absurd (apart refl)
list_set_apart (x ∷ lists) zero (suc m) list apart = refl
list_set_apart (x ∷ lists) (suc n) zero list apart = refl
list_set_apart (x ∷ lists) (suc n) (suc m) list apart = list_set_apart lists n m list (λ e. apart (ap suc e))

list_or : (lists : List (Vec ℕ Global)) (n : ℕ) (d : Vec ℕ Global) → n < length lists → numbered_list lists n ≡ (get_or lists n d).items
list_or [] n d low = absurd (omega arith)
list_or (x ∷ lists) zero d low = refl
list_or (x ∷ lists) (suc n) d low = list_or lists n d (omega arith)

pub adds_to : (old : Serials) (number : ℕ) (around : List ℕ) (was list : Vec ℕ Global) → number < length old.lists.items → get_or old.lists.items number was ≡ was → AddsOpen was.items around list.items
    → AddsAt old number around (record { numbers = old.numbers; lists = with_item old.lists number list })
adds_to old number around was list inside is opens =
    let many = length-set old.lists.items number list in
    let before : numbered_list old.lists.items number ≡ was.items = list_or old.lists.items number was inside ∙ ap (λ v. v.items) is in
    record {
      numbers = refl;
      room = λ low. omega (arith, inside);
      keeps = omega arith;
      adds = λ low. subst (λ (xs : List ℕ). AddsOpen xs around (numbered_list (slice_set old.lists.items number list) number)) (sym before) (subst (AddsOpen was.items around) (sym (list_set old.lists.items number list inside)) opens);
      others = λ n apart low. list_set_apart old.lists.items number n list apart;
    }

pub adds_first : (old new : Serials) (number : ℕ) (around : List ℕ) (list : Vec ℕ Global) → length old.lists.items ≤ number → new.numbers ≡ old.numbers → new.lists.items ≡ old.lists.items ++ list ∷ [] → list.items ≡ around
    → AddsAt old number around new
adds_first old new number around list past numbers lists all =
    let many = ap length lists ∙ length-append old.lists.items (list ∷ []) in
    record {
      numbers = numbers;
      room = λ low. omega (arith, many, past);
      keeps = omega (arith, many);
      adds = λ low.
          let end : numbered_list new.lists.items number ≡ around = ap (λ ls. numbered_list ls number) lists ∙ list_last old.lists.items list number (omega (arith, past)) ∙ all in
          subst (λ (xs : List ℕ). AddsOpen xs around (numbered_list new.lists.items number)) (sym (list_past old.lists.items number past)) (subst (AddsOpen [] around) (sym end) (λ rises ascend before. (rises, λ serial. refl)));
      others = λ n apart low. ap (λ ls. numbered_list ls n) lists ∙ list_before old.lists.items list n low;
    }

-- a hint more that has no label
pub right_more : (numbers : LabelNumbers) (old new : Hints) (hint : Hint) → new.hints.items ≡ old.hints.items ++ hint ∷ [] → hint.label.items ≡ [] → AreRight numbers old → AreRight numbers new
right_more numbers old new hint is blank right k d low some = elim (cases_lt k (length old.hints.items)) [
  | inl inside ↦
      let e = ap (λ hs. get_or hs k d) is ∙ get_or_append_left old.hints.items (hint ∷ []) d k inside in
      ap (λ (h : Hint). label_number numbers h.label.items) e ∙ right k d inside (subst (λ (h : Hint). 1 ≤ length h.label.items) e some) ∙ sym (ap (λ (h : Hint). Some h.number) e)
  | inr outside ↦
      let many = ap length is ∙ length-append old.hints.items (hint ∷ []) in
      let z : k - length old.hints.items ≡ 0 = omega (arith, low) in
      let e : get_or new.hints.items k d ≡ hint = ap (λ hs. get_or hs k d) is ∙ get_or-append_right old.hints.items (hint ∷ []) (length old.hints.items) k d refl outside ∙ ap (λ (m : ℕ). get_or (hint ∷ []) m d) z in
      let none : 1 ≤ length hint.label.items = subst (λ (h : Hint). 1 ≤ length h.label.items) e some in
      let zero_length = ap length blank in absurd (omega arith)
]

-- ... and one in the place of another
pub right_set : (numbers : LabelNumbers) (old new : Hints) (place : ℕ) (hint : Hint) → new.hints.items ≡ slice_set old.hints.items place hint → place < length old.hints.items → label_number numbers hint.label.items ≡ Some hint.number
    → AreRight numbers old → AreRight numbers new
right_set numbers old new place hint is room own right k d low some = by_case (k == place) refl
  where
    set_apart : (xs : List Hint) (i j : ℕ) (x d : Hint) → (j ≡ i → ⊥) → get_or (slice_set xs i x) j d ≡ get_or xs j d
    set_apart [] i j x d apart = refl
    set_apart (y ∷ xs) zero zero x d apart = absurd (apart refl)
    set_apart (y ∷ xs) zero (suc j) x d apart = refl
    set_apart (y ∷ xs) (suc i) zero x d apart = refl
    set_apart (y ∷ xs) (suc i) (suc j) x d apart = set_apart xs i j x d (λ e. apart (ap suc e))

    by_case : (b : Bool) → (k == place) ≡ b → label_number numbers (get_or new.hints.items k d).label.items ≡ Some (get_or new.hints.items k d).number
    by_case true same =
        let at : k ≡ place = grind (arith, nat_tests) in
        let e : get_or new.hints.items k d ≡ hint = ap (λ hs. get_or hs k d) is ∙ ap (λ (m : ℕ). get_or (slice_set old.hints.items place hint) m d) at ∙ get_or-set_same old.hints.items place hint d room in
        ap (λ (h : Hint). label_number numbers h.label.items) e ∙ own ∙ sym (ap (λ (h : Hint). Some h.number) e)
    by_case false other =
        let apart : k ≡ place → ⊥ = λ same. absurd (grind (arith, nat_tests)) in
        let many = ap length is ∙ length-set old.hints.items place hint in
        let e : get_or new.hints.items k d ≡ get_or old.hints.items k d = ap (λ hs. get_or hs k d) is ∙ set_apart old.hints.items place k hint d apart in
        ap (λ (h : Hint). label_number numbers h.label.items) e ∙ right k d (omega (arith, low)) (subst (λ (h : Hint). 1 ≤ length h.label.items) e some) ∙ sym (ap (λ (h : Hint). Some h.number) e)

-- hints stay right where a label gets its number
pub right_after : (old new : Serials) (hints : Hints) (name : List ℕ) (number : ℕ) → NumbersLabel old name new number → AreRight old.numbers hints → AreRight new.numbers hints
right_after old new hints name number labels right k d low some = by_case (bytes_eq label name) refl
  where
    label : List ℕ
    label = (get_or hints.hints.items k d).label.items

    by_case : (b : Bool) → bytes_eq label name ≡ b → label_number new.numbers label ≡ Some (get_or hints.hints.items k d).number
    by_case true same =
        let is : label ≡ name = (bytes_eq-Decides label name).0 same in
        let before = right k d low some in
        elim labels.origin [
          | inl known ↦ ap (label_number new.numbers) is ∙ labels.has ∙ sym known ∙ ap (label_number old.numbers) (sym is) ∙ before
          | inr fresh ↦ let none : None ≡ Some (get_or hints.hints.items k d).number = sym fresh.0 ∙ ap (label_number old.numbers) (sym is) ∙ before in absurd (cc)
        ]
    by_case false other = labels.others label other ∙ right k d low some

-- a label got its number, and its list those around a walk
module _ (old mid new : Serials) (name around : List ℕ) (number : ℕ) (numbered : IsNumbering old) (labels : NumbersLabel old name mid number) (adds : AddsAt mid number around new) where
  same_lists : length mid.lists.items ≡ length old.lists.items
  same_lists = ap (λ v. length v.items) labels.lists

  low : number ≤ length mid.lists.items
  low = elim labels.origin [
    | inl known ↦ let below = numbered.below name number known in omega (arith, same_lists)
    | inr fresh ↦ let is = fresh.1 in omega (arith, same_lists)
  ]

  number_now : (asked : List ℕ) → label_number new.numbers asked ≡ label_number mid.numbers asked
  number_now asked = ap (λ (m : LabelNumbers). label_number m asked) adds.numbers

  same_name : (asked : List ℕ) → asked ≡ name → bytes_eq asked name ≡ true
  same_name asked is = (bytes_eq-Decides asked name).1 is

  -- no other label has the number
  other_number : (asked : List ℕ) (n : ℕ) → bytes_eq asked name ≡ false → label_number old.numbers asked ≡ Some n → n ≡ number → ⊥
  other_number asked n other is same = elim labels.origin [
    | inl known ↦ true≢false (sym (same_name asked (numbered.apart asked name number (is ∙ ap (λ (m : ℕ). Some m) same) known)) ∙ other)
    | inr fresh ↦ let below = numbered.below asked n is in let end = fresh.1 in absurd (omega arith)
  ]

  pub serials_now : (asked : List ℕ) → serials_at new asked ≡ (if bytes_eq asked name then numbered_list new.lists.items number else serials_at old asked)
  serials_now asked = by_case (bytes_eq asked name) refl
    where
      same_list : (n : ℕ) → (n ≡ number → ⊥) → n < length old.lists.items → numbered_list new.lists.items n ≡ numbered_list old.lists.items n
      same_list n apart low = adds.others n apart (omega (arith, same_lists)) ∙ ap (λ v. numbered_list v.items n) labels.lists

      by_number : (o : Option ℕ) → label_number old.numbers asked ≡ o → bytes_eq asked name ≡ false → option_map_or (numbered_list new.lists.items) o [] ≡ option_map_or (numbered_list old.lists.items) o []
      by_number None is other = refl
      by_number (Some n) is other = same_list n (other_number asked n other is) (numbered.below asked n is)

      by_case : (b : Bool) → bytes_eq asked name ≡ b → serials_at new asked ≡ (if b then numbered_list new.lists.items number else serials_at old asked)
      by_case true same =
          ap (λ (o : Option ℕ). option_map_or (numbered_list new.lists.items) o []) (number_now asked ∙ ap (label_number mid.numbers) ((bytes_eq-Decides asked name).0 same) ∙ labels.has)
      by_case false other =
          ap (λ (o : Option ℕ). option_map_or (numbered_list new.lists.items) o []) (number_now asked ∙ labels.others asked other) ∙ by_number (label_number old.numbers asked) refl other

  pub list_opens : AddsOpen (serials_at old name) around (numbered_list new.lists.items number)
  list_opens = subst (λ (xs : List ℕ). AddsOpen xs around (numbered_list new.lists.items number)) before (adds.adds low)
    where
      before : numbered_list mid.lists.items number ≡ serials_at old name
      before = ap (λ v. numbered_list v.items number) labels.lists ∙ elim labels.origin [
        | inl known ↦ sym (ap (λ (o : Option ℕ). option_map_or (numbered_list old.lists.items) o []) known)
        | inr fresh ↦ list_past old.lists.items number (let is = fresh.1 in omega arith) ∙ sym (ap (λ (o : Option ℕ). option_map_or (numbered_list old.lists.items) o []) fresh.0)
      ]

  pub still_numbered : IsNumbering new
  still_numbered = record {
    below = λ asked n is. below_case asked n is (bytes_eq asked name) refl;
    apart = λ asked other n is also. apart_case asked other n is also (bytes_eq asked name) refl (bytes_eq other name) refl;
  }
    where
      own : (asked : List ℕ) (n : ℕ) → bytes_eq asked name ≡ true → label_number new.numbers asked ≡ Some n → n ≡ number
      own asked n same is = one_number n number (sym is ∙ number_now asked ∙ ap (label_number mid.numbers) ((bytes_eq-Decides asked name).0 same) ∙ labels.has)

      before : (asked : List ℕ) (n : ℕ) → bytes_eq asked name ≡ false → label_number new.numbers asked ≡ Some n → label_number old.numbers asked ≡ Some n
      before asked n other is = sym (number_now asked ∙ labels.others asked other) ∙ is

      below_case : (asked : List ℕ) (n : ℕ) → label_number new.numbers asked ≡ Some n → (b : Bool) → bytes_eq asked name ≡ b → n < length new.lists.items
      below_case asked n is true same = let e = own asked n same is in let room = adds.room low in omega arith
      below_case asked n is false other = let below = numbered.below asked n (before asked n other is) in let keeps = adds.keeps in omega (arith, same_lists)

      apart_case : (asked other : List ℕ) (n : ℕ) → label_number new.numbers asked ≡ Some n → label_number new.numbers other ≡ Some n → (b : Bool) → bytes_eq asked name ≡ b → (c : Bool) → bytes_eq other name ≡ c → asked ≡ other
      apart_case asked other n is also true same true too = (bytes_eq-Decides asked name).0 same ∙ sym ((bytes_eq-Decides other name).0 too)
      apart_case asked other n is also true same false apart = absurd (other_number other n apart (before other n apart also) (own asked n same is))
      apart_case asked other n is also false apart true too = absurd (other_number asked n apart (before asked n apart is) (own other n too also))
      apart_case asked other n is also false apart false far = numbered.apart asked other n (before asked n apart is) (before other n far also)
