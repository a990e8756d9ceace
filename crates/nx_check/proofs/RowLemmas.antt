-- Rows of heads: behind each other, one more, and what may stand in a row.
use Rattle.std.proofs.Common.{◌≡◌, ◌⊎◌, ◌↔◌, ℕ, ◌+◌, Bool, true, false, not, ◌||◌, List, [], ◌∷◌, ◌++◌, refl, sym, ap, ◌∙◌, subst, arith, inl, inr}
use Rattle.std.specs.Prelude.{Contains, if◌then◌else◌}
use Rattle.std.specs.Bool.{MatchBool, Decides}
use Rattle.std.specs.Str.{bytes_eq}
use Rattle.std.proofs.lemmas.Bool.{false≢true}
use Rattle.std.proofs.lemmas.Bool.Decides.{Decides-or, Decides-like}
use Rattle.std.proofs.lemmas.Slice.Eq.{bytes_eq-Decides}
use Rattle.nx_lists.proofs.ListLemmas.{contains_here, contains_there, contains_parts}
use Rattle.nx_tree.specs.declared.node.Kind.TheVariants.{Element}
use Rattle.nx_tree.specs.Document.{is_attribute, AreDistinct}
use Rattle.nx_pyx.specs.Fault.{is_among}
use Rattle.nx_check.specs.Heads.{Head, names_among, has_attribute, has_other, HaveAttributesFirst, AreTopHeads, elements_among, MayHaveHeads}

-- Names:

pub among : (q : List ℕ) (xs : List (List ℕ)) → Decides (is_among q xs) (Contains xs q)
among q [] = (λ e. absurd (false≢true e), λ h. absurd (let low = h.1 in omega arith))
among q (x ∷ xs) =
    Decides-like (bytes_eq q x || is_among q xs) (λ either. elim either [ inl same ↦ contains_here x xs q (sym same) | inr later ↦ contains_there x xs q later ])
    (λ h. elim (contains_parts x xs q h) [ inl same ↦ inl (sym same) | inr later ↦ inr later ])
    (Decides-or (bytes_eq q x) (is_among q xs) (bytes_eq-Decides q x) (among q xs))

pub not_among : (q : List ℕ) (xs : List (List ℕ)) → is_among q xs ≡ false → Contains xs q → ⊥
not_among q xs e h = false≢true (sym e ∙ (among q xs).1 h)

or_assoc : (a b c : Bool) → ((a || b) || c) ≡ (a || (b || c))
or_assoc true b c = refl
or_assoc false b c = refl

or_swap : (a b c : Bool) → (a || (b || c)) ≡ (b || (a || c))
or_swap true true c = refl
or_swap true false c = refl
or_swap false b c = refl

pub neither : (a b : Bool) → (a || b) ≡ false → (a ≡ false) × (b ≡ false)
neither true b e = absurd (cc)
neither false b e = (refl, e)

pub among-middle : (q y : List ℕ) (xs ys : List (List ℕ)) → is_among q (xs ++ y ∷ ys) ≡ (bytes_eq q y || is_among q (xs ++ ys))
among-middle q y [] ys = refl
among-middle q y (x ∷ xs) ys = ap (λ b. bytes_eq q x || b) (among-middle q y xs ys) ∙ or_swap (bytes_eq q x) (bytes_eq q y) (is_among q (xs ++ ys))

contains_middle : (q y : List ℕ) (xs ys : List (List ℕ)) → Contains (xs ++ y ∷ ys) q → (q ≡ y) ⊎ Contains (xs ++ ys) q
contains_middle q y [] ys h = elim (contains_parts y ys q h) [ inl same ↦ inl (sym same) | inr later ↦ inr later ]
contains_middle q y (x ∷ xs) ys h =
    elim (contains_parts x (xs ++ y ∷ ys) q h) [
      | inl same ↦ inr (contains_here x (xs ++ ys) q same)
      | inr later ↦ elim (contains_middle q y xs ys later) [ inl same ↦ inl same | inr rest ↦ inr (contains_there x (xs ++ ys) q rest) ]
    ]

contains_more : (q y : List ℕ) (xs ys : List (List ℕ)) → Contains (xs ++ ys) q → Contains (xs ++ y ∷ ys) q
contains_more q y [] ys h = contains_there y ys q h
contains_more q y (x ∷ xs) ys h =
    elim (contains_parts x (xs ++ ys) q h) [
      | inl same ↦ contains_here x (xs ++ y ∷ ys) q same
      | inr later ↦ contains_there x (xs ++ y ∷ ys) q (contains_more q y xs ys later)
    ]

contains_it : (y : List ℕ) (xs ys : List (List ℕ)) → Contains (xs ++ y ∷ ys) y
contains_it y [] ys = contains_here y ys y refl
contains_it y (x ∷ xs) ys = contains_there x (xs ++ y ∷ ys) y (contains_it y xs ys)

-- one name more is new
pub distinct_more : (y : List ℕ) (xs ys : List (List ℕ)) → AreDistinct (xs ++ ys) → (Contains (xs ++ ys) y → ⊥) → AreDistinct (xs ++ y ∷ ys)
distinct_more y [] ys h new = (new, h)
distinct_more y (x ∷ xs) ys h new = (
  λ there. elim (contains_middle x y xs ys there) [ inl same ↦ new (contains_here x (xs ++ ys) y same) | inr rest ↦ h.0 rest ],
  distinct_more y xs ys h.1 (λ there. new (contains_there x (xs ++ ys) y there)),
)

pub distinct_less : (y : List ℕ) (xs ys : List (List ℕ)) → AreDistinct (xs ++ y ∷ ys) → AreDistinct (xs ++ ys) × (Contains (xs ++ ys) y → ⊥)
distinct_less y [] ys h = (h.1, h.0)
distinct_less y (x ∷ xs) ys h =
    let less = distinct_less y xs ys h.1 in (
      (λ there. h.0 (contains_more x y xs ys there), less.0),
      λ there. elim (contains_parts x (xs ++ ys) y there) [
        | inl same ↦ h.0 (subst (λ (q : List ℕ). Contains (xs ++ y ∷ ys) q) (sym same) (contains_it y xs ys))
        | inr later ↦ less.1 later
      ],
    )

-- Behind each other:

pub names-append : (xs ys : List Head) → names_among (xs ++ ys) ≡ names_among xs ++ names_among ys
names-append [] ys = refl
names-append (h ∷ hs) ys = by (is_attribute h.kind) (names-append hs ys) where
  by : (b : Bool) → names_among (hs ++ ys) ≡ names_among hs ++ names_among ys → (if b then h.name ∷ names_among (hs ++ ys) else names_among (hs ++ ys)) ≡ (if b then h.name ∷ names_among hs else names_among hs) ++ names_among ys
  by true e = ap (λ (l : List (List ℕ)). h.name ∷ l) e
  by false e = e

pub attribute-append : (xs ys : List Head) → has_attribute (xs ++ ys) ≡ (has_attribute xs || has_attribute ys)
attribute-append [] ys = refl
attribute-append (h ∷ hs) ys = ap (λ b. is_attribute h.kind || b) (attribute-append hs ys) ∙ sym (or_assoc (is_attribute h.kind) (has_attribute hs) (has_attribute ys))

pub other-append : (xs ys : List Head) → has_other (xs ++ ys) ≡ (has_other xs || has_other ys)
other-append [] ys = refl
other-append (h ∷ hs) ys = ap (λ b. not (is_attribute h.kind) || b) (other-append hs ys) ∙ sym (or_assoc (not (is_attribute h.kind)) (has_other hs) (has_other ys))

pub elements-append : (xs ys : List Head) → elements_among (xs ++ ys) ≡ elements_among xs + elements_among ys
elements-append [] ys = omega arith
elements-append (h ∷ hs) ys = let e = elements-append hs ys in omega (arith, e)

pub top-parts : (xs ys : List Head) → AreTopHeads (xs ++ ys) → AreTopHeads xs × AreTopHeads ys
top-parts [] ys h = (tt, h)
top-parts (x ∷ xs) ys h = let r = top-parts xs ys h.1 in ((h.0, r.0), r.1)

pub top-join : (xs ys : List Head) → AreTopHeads xs → AreTopHeads ys → AreTopHeads (xs ++ ys)
top-join [] ys h k = k
top-join (x ∷ xs) ys h k = (h.0, top-join xs ys h.1 k)

pub none_first : (hs : List Head) → has_attribute hs ≡ false → HaveAttributesFirst hs
none_first [] e = tt
none_first (h ∷ hs) e = let both = neither (is_attribute h.kind) (has_attribute hs) e in subst (λ (b : Bool). MatchBool b (HaveAttributesFirst hs) (has_attribute hs ≡ false)) (sym both.0) both.1

pub record FirstParts (xs ys : List Head) : Type 0 where
  pub left : HaveAttributesFirst xs
  pub right : HaveAttributesFirst ys
  pub apart : has_other xs ≡ true → has_attribute ys ≡ false

pub first-parts : (xs ys : List Head) → HaveAttributesFirst (xs ++ ys) → FirstParts xs ys
first-parts [] ys h = record { left = tt; right = h; apart = λ e. absurd (false≢true e) }
first-parts (x ∷ xs) ys h = let r = by (is_attribute x.kind) h (first-parts xs ys) in record { left = r.0; right = r.1; apart = r.2 } where
  by : (b : Bool) → MatchBool b (HaveAttributesFirst (xs ++ ys)) (has_attribute (xs ++ ys) ≡ false) → (HaveAttributesFirst (xs ++ ys) → FirstParts xs ys)
      → (MatchBool b (HaveAttributesFirst xs) (has_attribute xs ≡ false)) × HaveAttributesFirst ys × ((not b || has_other xs) ≡ true → has_attribute ys ≡ false)
  by true h go = let r = go h in (r.left, r.right, r.apart)
  by false h go = let both = neither (has_attribute xs) (has_attribute ys) (sym (attribute-append xs ys) ∙ h) in (both.0, none_first ys both.1, λ _. both.1)

pub first-join : (xs ys : List Head) → HaveAttributesFirst xs → HaveAttributesFirst ys → (has_other xs ≡ true → has_attribute ys ≡ false) → HaveAttributesFirst (xs ++ ys)
first-join [] ys h k apart = k
first-join (x ∷ xs) ys h k apart = by (is_attribute x.kind) h apart (λ h. first-join xs ys h k) where
  by : (b : Bool) → MatchBool b (HaveAttributesFirst xs) (has_attribute xs ≡ false) → ((not b || has_other xs) ≡ true → has_attribute ys ≡ false) → (HaveAttributesFirst xs → (has_other xs ≡ true → has_attribute ys ≡ false) → HaveAttributesFirst (xs ++ ys))
      → MatchBool b (HaveAttributesFirst (xs ++ ys)) (has_attribute (xs ++ ys) ≡ false)
  by true h apart go = go h apart
  by false h apart go = attribute-append xs ys ∙ ap (λ b. b || has_attribute ys) h ∙ apart refl

-- What may follow others below an element, whether something else than an attribute is among them:

pub record MayFollow (begun : Bool) (hs : List Head) : Type 0 where
  pub apart : begun ≡ true → has_attribute hs ≡ false
  pub first : HaveAttributesFirst hs
  pub distinct : AreDistinct (names_among hs)

pub follow_all : (hs : List Head) → MayHaveHeads Element hs ↔ MayFollow false hs
follow_all hs = (λ h. record { apart = λ e. absurd (false≢true e); first = h.0; distinct = h.1 }, λ h. (h.first, h.distinct))

-- one that is no attribute
pub follow_other : (begun : Bool) (h : Head) (hs : List Head) → is_attribute h.kind ≡ false → MayFollow begun (h ∷ hs) ↔ MayFollow true hs
follow_other begun h hs is = (
  λ m.
      let none : has_attribute hs ≡ false = subst (λ (b : Bool). MatchBool b (HaveAttributesFirst hs) (has_attribute hs ≡ false)) is m.first in
      record { apart = λ _. none; first = none_first hs none; distinct = subst (λ (b : Bool). AreDistinct (if b then h.name ∷ names_among hs else names_among hs)) is m.distinct },
  λ m.
      let none : has_attribute hs ≡ false = m.apart refl in
      record {
        apart = λ _. ap (λ (b : Bool). b || has_attribute hs) is ∙ none;
        first = subst (λ (b : Bool). MatchBool b (HaveAttributesFirst hs) (has_attribute hs ≡ false)) (sym is) none;
        distinct = subst (λ (b : Bool). AreDistinct (if b then h.name ∷ names_among hs else names_among hs)) (sym is) m.distinct;
      },
)

-- an attribute of a new name
pub follow_attribute : (h : Head) (hs : List Head) → is_attribute h.kind ≡ true → is_among h.name (names_among hs) ≡ false → MayFollow false (h ∷ hs) ↔ MayFollow false hs
follow_attribute h hs is new = (
  λ m. record {
    apart = λ e. absurd (false≢true e);
    first = subst (λ (b : Bool). MatchBool b (HaveAttributesFirst hs) (has_attribute hs ≡ false)) is m.first;
    distinct = (let d : AreDistinct (h.name ∷ names_among hs) = subst (λ (b : Bool). AreDistinct (if b then h.name ∷ names_among hs else names_among hs)) is m.distinct in d.1);
  },
  λ m. record {
    apart = λ e. absurd (false≢true e);
    first = subst (λ (b : Bool). MatchBool b (HaveAttributesFirst hs) (has_attribute hs ≡ false)) (sym is) m.first;
    distinct = subst (λ (b : Bool). AreDistinct (if b then h.name ∷ names_among hs else names_among hs)) (sym is) (not_among h.name (names_among hs) new, m.distinct);
  },
)

pub not_behind : (h : Head) (hs : List Head) → is_attribute h.kind ≡ true → MayFollow true (h ∷ hs) → ⊥
not_behind h hs is m = false≢true (sym (m.apart refl) ∙ ap (λ (b : Bool). b || has_attribute hs) is)

pub not_twice : (begun : Bool) (h : Head) (hs : List Head) → is_attribute h.kind ≡ true → is_among h.name (names_among hs) ≡ true → MayFollow begun (h ∷ hs) → ⊥
not_twice begun h hs is again m =
    let d : AreDistinct (h.name ∷ names_among hs) = subst (λ (b : Bool). AreDistinct (if b then h.name ∷ names_among hs else names_among hs)) is m.distinct in
    d.0 ((among h.name (names_among hs)).0 again)
