-- The places that a walk has come to, and one place more.
use Rattle.std.proofs.Common.{◌≡◌, ◌==◌, ◌<◌, ℕ, Bool, true, false, not, cond, Some, List, [], ◌∷◌, ◌++◌, Vec, Global, Contains, refl, sym, ap, ◌∙◌, subst, arith, inl, inr, true≢false}
use Rattle.std.specs.Bool.{MatchBool}
use Rattle.std.specs.Ordering.{is_eq, nat_cmp}
use Rattle.std.specs.Option.{option_map_or}
use Rattle.std.specs.BTreeMap.{get}
use Rattle.std.proofs.lemmas.List.Elements.{Contains-push, Contains-push_cases, Contains-append_left, Contains-append_right, Contains-append_cases}
use Rattle.nx_layouts.specs.Layout.{RecordPlace, ArePlacedOnce}
use Rattle.nx_layouts.proofs.PlaceLemmas.{one_place}
use Rattle.nx_nav.specs.Visited.{HasVisited, SetsFlag, flags_of, is_set}
use Rattle.nx_nav.specs.declared.visited.Visited.{Visited}

equal_numbers : (x y : ℕ) → is_eq (nat_cmp x y) ≡ true → x ≡ y
equal_numbers x y e = grind arith

equals_itself : (x : ℕ) → is_eq (nat_cmp x x) ≡ true
equals_itself x = grind arith

equal_slots : (x y : ℕ) → (x == y) ≡ true → x ≡ y
equal_slots x y e = grind arith

slot_itself : (x : ℕ) → (x == x) ≡ true
slot_itself x = grind arith

-- whether a place is this one
abbrev is_place : RecordPlace → RecordPlace → Bool
is_place place other = cond (is_eq (nat_cmp place.page other.page)) (place.slot == other.slot) false

one_record : (a b : RecordPlace) → is_place a b ≡ true → a ≡ b
one_record a b e = by_case (is_eq (nat_cmp a.page b.page)) refl e
  where
    by_case : (p : Bool) → is_eq (nat_cmp a.page b.page) ≡ p → cond p (a.slot == b.slot) false ≡ true → a ≡ b
    by_case true pages slots = ap (λ (p : ℕ). record { page = p; slot = a.slot }) (equal_numbers a.page b.page pages) ∙ ap (λ (s : ℕ). record { page = b.page; slot = s }) (equal_slots a.slot b.slot slots)
    by_case false pages slots = elim (true≢false (sym slots)) [ ]

place_itself : (a : RecordPlace) → is_place a a ≡ true
place_itself a = ap (λ (p : Bool). cond p (a.slot == a.slot) false) (equals_itself a.page) ∙ slot_itself a.slot

module _ (old new : Visited) (place : RecordPlace) (places : List RecordPlace) (was : HasVisited old places) (flags : Vec Bool Global) (updated : (page : ℕ) → get nat_cmp new.pages page ≡ cond (is_eq (nat_cmp place.page page)) (Some flags) (get nat_cmp old.pages page)) where
  -- the flags of a page are those that were written, or as they were
  flags_at : (page : ℕ) → flags_of new page ≡ cond (is_eq (nat_cmp place.page page)) flags.items (flags_of old page)
  flags_at page = ap (λ o. option_map_or (λ (fs : Vec Bool Global). fs.items) o []) (updated page) ∙ by_case (is_eq (nat_cmp place.page page))
    where
      by_case : (b : Bool) → option_map_or (λ (fs : Vec Bool Global). fs.items) (cond b (Some flags) (get nat_cmp old.pages page)) [] ≡ cond b flags.items (flags_of old page)
      by_case true = refl
      by_case false = refl

  -- the place's own flag is set, and each other one is as it was
  flag_at : {added : Bool} → SetsFlag place.slot added (flags_of old place.page) flags.items → (other : RecordPlace) → is_set (flags_of new other.page) other.slot ≡ cond (is_place place other) true (is_set (flags_of old other.page) other.slot)
  flag_at sets other = ap (λ (fs : List Bool). is_set fs other.slot) (flags_at other.page) ∙ by_case (is_eq (nat_cmp place.page other.page)) refl
    where
      by_case : (b : Bool) → is_eq (nat_cmp place.page other.page) ≡ b → is_set (cond b flags.items (flags_of old other.page)) other.slot ≡ cond (cond b (place.slot == other.slot) false) true (is_set (flags_of old other.page) other.slot)
      by_case true same = sets.flags other.slot ∙ ap (λ (page : ℕ). cond (place.slot == other.slot) true (is_set (flags_of old page) other.slot)) (equal_numbers place.page other.page same)
      by_case false differs = refl

  -- a place that wasn't visited comes behind those that were
  visited_first : SetsFlag place.slot true (flags_of old place.page) flags.items → HasVisited new (places ++ place ∷ [])
  visited_first sets = record { same = λ other. (there other, back other) }
    where
      there : (other : RecordPlace) → is_set (flags_of new other.page) other.slot ≡ true → Contains (places ++ place ∷ []) other
      there other e = by_case (is_place place other) refl (sym (flag_at sets other) ∙ e)
        where
          by_case : (b : Bool) → is_place place other ≡ b → cond b true (is_set (flags_of old other.page) other.slot) ≡ true → Contains (places ++ place ∷ []) other
          by_case true same e = subst (Contains (places ++ place ∷ [])) (one_record place other same) (Contains-push places place)
          by_case false differs e = Contains-append_left places (place ∷ []) other ((was.same other).0 e)

      back : (other : RecordPlace) → Contains (places ++ place ∷ []) other → is_set (flags_of new other.page) other.slot ≡ true
      back other among =
          flag_at sets other ∙ elim (Contains-push_cases places place other among) [
            | inl before ↦ or_true (is_place place other) ((was.same other).1 before)
            | inr is ↦ ap (λ (b : Bool). cond b true (is_set (flags_of old other.page) other.slot)) (ap (is_place place) (sym is) ∙ place_itself place)
          ]
        where
          or_true : (b : Bool) {c : Bool} → c ≡ true → cond b true c ≡ true
          or_true true e = refl
          or_true false e = e

  -- whether it is new says which
  pub visited_or_new : (added : Bool) → SetsFlag place.slot added (flags_of old place.page) flags.items → MatchBool added (HasVisited new (places ++ place ∷ [])) (Contains places place)
  visited_or_new true sets = visited_first sets
  visited_or_new false sets = (was.same place).0 (was_true (is_set (flags_of old place.page) place.slot) sets.told)
    where
      was_true : (b : Bool) → false ≡ not b → b ≡ true
      was_true true e = refl
      was_true false e = e

-- which of two facts there is
pub was_new : {added : Bool} (New Old : Type 0) → added ≡ true → MatchBool added New Old → New
was_new {added} New Old is told = subst (λ (b : Bool). MatchBool b New Old) is told

pub was_old : {added : Bool} (New Old : Type 0) → added ≡ false → MatchBool added New Old → Old
was_old {added} New Old is told = subst (λ (b : Bool). MatchBool b New Old) is told

-- a place that comes behind itself comes twice
pub comes_twice : (before rest : List RecordPlace) (place : RecordPlace) → Contains before place → ArePlacedOnce (before ++ place ∷ rest) → ⊥
comes_twice [] rest place there once = let low : there.0 < 0 = there.1 in omega (arith, low)
comes_twice (first ∷ before) rest place there once =
    elim (Contains-append_cases (first ∷ []) before place there) [
      | inl here ↦ once.0 (Contains-append_right before (place ∷ rest) first (subst (λ (p : RecordPlace). Contains (place ∷ rest) p) (one_place first place here) (Contains-append_left (place ∷ []) rest place (Contains-push [] place))))
      | inr later ↦ comes_twice before rest place later once.1
    ]
