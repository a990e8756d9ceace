-- What is among lists, one after the other, as places of records are.
use Rattle.std.proofs.Common.{◌≡◌, ℕ, ◌<◌, List, [], ◌∷◌, ◌++◌, inl, inr, sym, ap, ◌∙◌, subst, arith}
use Rattle.std.specs.Prelude.{◌⊎◌, Contains}
use Rattle.std.proofs.lemmas.Bool.Decides.{eqb_tells}
use Rattle.std.proofs.lemmas.List.Elements.{Contains-append_left, Contains-append_right, Contains-append_cases, Contains-push, Contains-push_cases}
use Rattle.nx_layouts.specs.Layout.{RecordPlace, AreOnce}

pub place_is : (a b : RecordPlace) → a.page ≡ b.page → a.slot ≡ b.slot → a ≡ b
place_is a b e f =
    ap (λ (p : ℕ). let r : RecordPlace = record { page = p; slot = a.slot } in r) e
    ∙ ap (λ (s : ℕ). let r : RecordPlace = record { page = b.page; slot = s } in r) f

pub same_place : (a b : RecordPlace) → (a ≡ b) ⊎ (a ≡ b → ⊥)
same_place a b =
    elim (eqb_tells a.page b.page) [
      | inl h ↦ elim (eqb_tells a.slot b.slot) [ inl k ↦ inl (place_is a b h.1 k.1) | inr k ↦ inr (λ e. k.1 (ap (λ (r : RecordPlace). r.slot) e)) ]
      | inr h ↦ inr (λ e. h.1 (ap (λ (r : RecordPlace). r.page) e))
    ]

pub no_place : {T : Type 0} (x : T) → Contains [] x → ⊥
no_place x h = let low : h.0 < 0 = h.1 in omega (arith, low)

pub one_place : {T : Type 0} (x y : T) → Contains (x ∷ []) y → y ≡ x
one_place x y h = elim (Contains-push_cases [] x y h) [ inl none ↦ absurd (no_place y none) | inr same ↦ sym same ]

pub first_among : {T : Type 0} (x : T) (rest : List T) → Contains (x ∷ rest) x
first_among x rest = Contains-append_left (x ∷ []) rest x (Contains-push [] x)

pub later_among : {T : Type 0} (first : T) (rest : List T) (x : T) → Contains rest x → Contains (first ∷ rest) x
later_among first rest x h = Contains-append_right (first ∷ []) rest x h

pub is_among : (places : List RecordPlace) (place : RecordPlace) → Contains places place ⊎ (Contains places place → ⊥)
is_among [] place = inr (no_place place)
is_among (first ∷ rest) place =
    elim (same_place place first) [
      | inl e ↦ inl (subst (λ (p : RecordPlace). Contains (first ∷ rest) p) (sym e) (first_among first rest))
      | inr apart ↦ elim (is_among rest place) [
        | inl h ↦ inl (later_among first rest place h)
        | inr none ↦ inr (λ h. elim (Contains-append_cases (first ∷ []) rest place h) [ inl one ↦ apart (one_place first place one) | inr more ↦ none more ])
      ]
    ]

-- nothing is among both
abbrev pub AreDisjoint : {T : Type 0} → List T → List T → Type 0
AreDisjoint {T} a b = (x : T) → Contains a x → Contains b x → ⊥

pub once-left : {T : Type 0} (a b : List T) → AreOnce (a ++ b) → AreOnce a
once-left [] b h = tt
once-left (x ∷ a) b h = (λ among. h.0 (Contains-append_left a b x among), once-left a b h.1)

pub once-right : {T : Type 0} (a b : List T) → AreOnce (a ++ b) → AreOnce b
once-right [] b h = h
once-right (x ∷ a) b h = once-right a b h.1

pub once-disjoint : {T : Type 0} (a b : List T) → AreOnce (a ++ b) → AreDisjoint a b
once-disjoint [] b h place one other = no_place place one
once-disjoint (x ∷ a) b h place one other =
    elim (Contains-append_cases (x ∷ []) a place one) [
      | inl here ↦ h.0 (Contains-append_right a b x (subst (λ p. Contains b p) (one_place x place here) other))
      | inr later ↦ once-disjoint a b h.1 place later other
    ]

pub once-append : {T : Type 0} (a b : List T) → AreOnce a → AreOnce b → AreDisjoint a b → AreOnce (a ++ b)
once-append [] b h k apart = k
once-append (x ∷ a) b h k apart = (fresh, once-append a b h.1 k (λ place one other. apart place (later_among x a place one) other))
  where
    fresh : Contains (a ++ b) x → ⊥
    fresh among = elim (Contains-append_cases a b x among) [ inl one ↦ h.0 one | inr other ↦ apart x (first_among x a) other ]

pub between_cases : {T : Type 0} (a new b : List T) (place : T) → Contains (a ++ b) place → Contains (a ++ (new ++ b)) place
between_cases a new b place h =
    elim (Contains-append_cases a b place h) [
      | inl one ↦ Contains-append_left a (new ++ b) place one
      | inr other ↦ Contains-append_right a (new ++ b) place (Contains-append_right new b place other)
    ]

pub among_between : {T : Type 0} (a new b : List T) (place : T) → Contains new place → Contains (a ++ (new ++ b)) place
among_between a new b place h = Contains-append_right a (new ++ b) place (Contains-append_left new b place h)

-- what is among them is between the others, or is one of these
pub out_of_between : {T : Type 0} (a new b : List T) (place : T) → Contains (a ++ (new ++ b)) place → Contains new place ⊎ Contains (a ++ b) place
out_of_between a new b place h =
    elim (Contains-append_cases a (new ++ b) place h) [
      | inl one ↦ inr (Contains-append_left a b place one)
      | inr deeper ↦ elim (Contains-append_cases new b place deeper) [ inl came ↦ inl came | inr other ↦ inr (Contains-append_right a b place other) ]
    ]

-- elements put between others
pub once-between : {T : Type 0} (a new b : List T) → AreOnce (a ++ b) → AreOnce new → AreDisjoint new (a ++ b) → AreOnce (a ++ (new ++ b))
once-between a new b h k apart =
    once-append a (new ++ b) (once-left a b h) (once-append new b k (once-right a b h) (λ place one other. apart place one (Contains-append_right a b place other)))
    (λ place one other. elim (Contains-append_cases new b place other) [
      | inl came ↦ apart place came (Contains-append_left a b place one)
      | inr behind ↦ once-disjoint a b h place one behind
    ])

-- elements taken from between others
pub once-around : {T : Type 0} (a old b : List T) → AreOnce (a ++ (old ++ b)) → AreOnce (a ++ b)
once-around a old b h =
    once-append a b (once-left a (old ++ b) h) (once-right old b (once-right a (old ++ b) h)) (λ place one other. once-disjoint a (old ++ b) h place one (Contains-append_right old b place other))

-- those that stood between others aren't among these
pub once-apart : {T : Type 0} (a old b : List T) → AreOnce (a ++ (old ++ b)) → AreDisjoint old (a ++ b)
once-apart a old b h place gone among =
    elim (Contains-append_cases a b place among) [
      | inl one ↦ once-disjoint a (old ++ b) h place one (Contains-append_left old b place gone)
      | inr other ↦ once-disjoint old b (once-right a (old ++ b) h) place gone other
    ]
