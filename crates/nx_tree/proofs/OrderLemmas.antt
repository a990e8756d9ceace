-- The attributes of an element stand first and differ, also after an edit.
use Rattle.std.proofs.Common.{◌≡◌, ℕ, zero, suc, ◌<◌, Bool, true, false, not, List, [], ◌∷◌, take, drop, refl, sym, ap, ◌∙◌, subst, ◌⊎◌, inl, inr, ⊎_elim, arith}
use Rattle.std.specs.Prelude.{if◌then◌else◌, Contains}
use Rattle.std.specs.Bool.{MatchBool}
use Rattle.std.specs.List.{list_any}
use Rattle.std.specs.Str.{bytes_eq}
use Rattle.std.proofs.lemmas.Bool.{or_parts, both_ways}
use Rattle.std.proofs.lemmas.Slice.Eq.{bytes_eq-Decides}
use Rattle.nx_lists.proofs.ListLemmas.{contains_here, contains_there, contains_parts}
use Rattle.nx_lists.proofs.CaseLemmas.{match_true, match_false}
use Rattle.nx_tree.specs.declared.node.Kind.{Kind}
use Rattle.nx_tree.specs.Forest.{OrderedTree, Forest, Empty, Plant, trees_of}
use Rattle.nx_tree.specs.Document.{is_attribute, attribute_names, HasNoAttribute, AttributesComeFirst, AreDistinct}
use Rattle.nx_tree.specs.Edit.{changed_at, planted_at, removed_at, is_unordered}

-- the two have the same kind and name
pub record SameFace (old new : OrderedTree) : Type 0 where
  pub kind : new.node.kind ≡ old.node.kind
  pub name : new.node.name ≡ old.node.name

by_both : (b : Bool) {P Q R S : Type 0} → (P → R) → (Q → S) → MatchBool b P Q → MatchBool b R S
by_both true f g p = f p
by_both false f g q = g q

-- no attribute at all is a right order
pub none_first : (f : Forest) → HasNoAttribute f → AttributesComeFirst f
none_first Empty h = tt
none_first (Plant n b s) h = match_false (AttributesComeFirst s) _ (is_attribute n.kind) h.0 h.1

-- a test that finds no attribute
pub none_any : (f : Forest) → list_any (λ (t : OrderedTree). is_attribute t.node.kind) (trees_of f) ≡ false → HasNoAttribute f
none_any Empty h = tt
none_any (Plant n b s) h = let p = or_parts (is_attribute n.kind) _ h in (p.0, none_any s p.1)

none_planted : (f : Forest) (i : ℕ) (t : OrderedTree) → is_attribute t.node.kind ≡ false → HasNoAttribute f → HasNoAttribute (planted_at i t f)
none_planted f zero t e h = (e, h)
none_planted Empty (suc i) t e h = tt
none_planted (Plant n b s) (suc i) t e h = (h.0, none_planted s i t e h.1)

attribute_planted : (f : Forest) (i : ℕ) (t : OrderedTree) → is_attribute t.node.kind ≡ true → list_any (λ (x : OrderedTree). not (is_attribute x.node.kind)) (take i (trees_of f)) ≡ false → AttributesComeFirst f → AttributesComeFirst (planted_at i t f)
attribute_planted f zero t e none h = match_true _ (HasNoAttribute f) (is_attribute t.node.kind) e h
attribute_planted Empty (suc i) t e none h = tt
attribute_planted (Plant n b s) (suc i) t e none h =
    let p = or_parts (not (is_attribute n.kind)) _ none in
    go (is_attribute n.kind) p.0 (attribute_planted s i t e p.1) h
  where
    go : (is : Bool) → not is ≡ false → (AttributesComeFirst s → AttributesComeFirst (planted_at i t s)) → MatchBool is (AttributesComeFirst s) (HasNoAttribute s) → MatchBool is (AttributesComeFirst (planted_at i t s)) (HasNoAttribute (planted_at i t s))
    go true is step h = step h
    go false is step h = absurd (cc)

other_planted : (f : Forest) (i : ℕ) (t : OrderedTree) → is_attribute t.node.kind ≡ false → list_any (λ (x : OrderedTree). is_attribute x.node.kind) (drop i (trees_of f)) ≡ false → AttributesComeFirst f → AttributesComeFirst (planted_at i t f)
other_planted f zero t e none h = match_false (AttributesComeFirst f) _ (is_attribute t.node.kind) e (none_any f none)
other_planted Empty (suc i) t e none h = tt
other_planted (Plant n b s) (suc i) t e none h = by_both (is_attribute n.kind) (other_planted s i t e none) (none_planted s i t e) h

-- a tree that the order allows at its position
pub first_planted : (f : Forest) (i : ℕ) (t : OrderedTree) → is_unordered t.node.kind i (trees_of f) ≡ false → AttributesComeFirst f → AttributesComeFirst (planted_at i t f)
first_planted f i t allowed h = go (is_attribute t.node.kind) refl allowed
  where
    go : (is : Bool) → is_attribute t.node.kind ≡ is → (if is then list_any (λ (x : OrderedTree). not (is_attribute x.node.kind)) (take i (trees_of f)) else list_any (λ (x : OrderedTree). is_attribute x.node.kind) (drop i (trees_of f))) ≡ false → AttributesComeFirst (planted_at i t f)
    go true e allowed = attribute_planted f i t e allowed h
    go false e allowed = other_planted f i t e allowed h

none_removed : (f : Forest) (i : ℕ) → HasNoAttribute f → HasNoAttribute (removed_at i f)
none_removed Empty i h = tt
none_removed (Plant n b s) zero h = h.1
none_removed (Plant n b s) (suc i) h = (h.0, none_removed s i h.1)

pub first_removed : (f : Forest) (i : ℕ) → AttributesComeFirst f → AttributesComeFirst (removed_at i f)
first_removed Empty i h = tt
first_removed (Plant n b s) zero h = rest (is_attribute n.kind) h
  where
    rest : (is : Bool) → MatchBool is (AttributesComeFirst s) (HasNoAttribute s) → AttributesComeFirst s
    rest true h = h
    rest false h = none_first s h
first_removed (Plant n b s) (suc i) h = by_both (is_attribute n.kind) (first_removed s i) (none_removed s i) h

none_changed : (f : Forest) (i : ℕ) (change : OrderedTree → OrderedTree) → ((t : OrderedTree) → SameFace t (change t)) → HasNoAttribute f → HasNoAttribute (changed_at i change f)
none_changed Empty i change same h = tt
none_changed (Plant n b s) zero change same h = (ap is_attribute (same (record { node = n; below = b })).kind ∙ h.0, h.1)
none_changed (Plant n b s) (suc i) change same h = (h.0, none_changed s i change same h.1)

pub first_changed : (f : Forest) (i : ℕ) (change : OrderedTree → OrderedTree) → ((t : OrderedTree) → SameFace t (change t)) → AttributesComeFirst f → AttributesComeFirst (changed_at i change f)
first_changed Empty i change same h = tt
first_changed (Plant n b s) zero change same h =
    subst (λ (k : Kind). MatchBool (is_attribute k) (AttributesComeFirst s) (HasNoAttribute s)) (sym (same (record { node = n; below = b })).kind) h
first_changed (Plant n b s) (suc i) change same h = by_both (is_attribute n.kind) (first_changed s i change same) (none_changed s i change same) h

-- the names stay where each tree keeps its kind and its name
pub names_changed : (f : Forest) (i : ℕ) (change : OrderedTree → OrderedTree) → ((t : OrderedTree) → SameFace t (change t)) → attribute_names (changed_at i change f) ≡ attribute_names f
names_changed Empty i change same = refl
names_changed (Plant n b s) zero change same =
    let face = same (record { node = n; below = b }) in
    ap (λ (k : Kind). if is_attribute k then (change (record { node = n; below = b })).node.name ∷ attribute_names s else attribute_names s) face.kind
    ∙ ap (λ (name : List ℕ). if is_attribute n.kind then name ∷ attribute_names s else attribute_names s) face.name
names_changed (Plant n b s) (suc i) change same = ap (λ (names : List (List ℕ)). if is_attribute n.kind then n.name ∷ names else names) (names_changed s i change same)

-- a name after a removal was there before
contains_removed : (f : Forest) (i : ℕ) (name : List ℕ) → Contains (attribute_names (removed_at i f)) name → Contains (attribute_names f) name
contains_removed Empty i name h = h
contains_removed (Plant n b s) zero name h = go (is_attribute n.kind)
  where
    go : (is : Bool) → Contains (if is then n.name ∷ attribute_names s else attribute_names s) name
    go true = contains_there n.name (attribute_names s) name h
    go false = h
contains_removed (Plant n b s) (suc i) name h = go (is_attribute n.kind) (contains_removed s i name) h
  where
    go : (is : Bool) → (Contains (attribute_names (removed_at i s)) name → Contains (attribute_names s) name) → Contains (if is then n.name ∷ attribute_names (removed_at i s) else attribute_names (removed_at i s)) name → Contains (if is then n.name ∷ attribute_names s else attribute_names s) name
    go true step h =
        ⊎_elim
        (contains_here n.name (attribute_names s) name)
        (λ (c : Contains (attribute_names (removed_at i s)) name). contains_there n.name (attribute_names s) name (step c))
        (contains_parts n.name (attribute_names (removed_at i s)) name h)
    go false step h = step h

pub distinct_removed : (f : Forest) (i : ℕ) → AreDistinct (attribute_names f) → AreDistinct (attribute_names (removed_at i f))
distinct_removed Empty i h = h
distinct_removed (Plant n b s) zero h = go (is_attribute n.kind) h
  where
    go : (is : Bool) → AreDistinct (if is then n.name ∷ attribute_names s else attribute_names s) → AreDistinct (attribute_names s)
    go true h = h.1
    go false h = h
distinct_removed (Plant n b s) (suc i) h = go (is_attribute n.kind) (distinct_removed s i) h
  where
    go : (is : Bool) → (AreDistinct (attribute_names s) → AreDistinct (attribute_names (removed_at i s))) → AreDistinct (if is then n.name ∷ attribute_names s else attribute_names s) → AreDistinct (if is then n.name ∷ attribute_names (removed_at i s) else attribute_names (removed_at i s))
    go true step h = (λ c. h.0 (contains_removed s i n.name c), step h.1)
    go false step h = step h

-- a name after a planting is that of the new tree, if it is an attribute, or was there before
contains_planted : (f : Forest) (i : ℕ) (t : OrderedTree) (name : List ℕ) → Contains (attribute_names (planted_at i t f)) name → ((is_attribute t.node.kind ≡ true) × (t.node.name ≡ name)) ⊎ Contains (attribute_names f) name
contains_planted f zero t name h = go (is_attribute t.node.kind) refl h
  where
    go : (is : Bool) → is_attribute t.node.kind ≡ is → Contains (if is then t.node.name ∷ attribute_names f else attribute_names f) name → ((is_attribute t.node.kind ≡ true) × (t.node.name ≡ name)) ⊎ Contains (attribute_names f) name
    go true e h = ⊎_elim (λ (same : t.node.name ≡ name). inl (e, same)) (λ (c : Contains (attribute_names f) name). inr c) (contains_parts t.node.name (attribute_names f) name h)
    go false e h = inr h
contains_planted Empty (suc i) t name h = inr h
contains_planted (Plant n b s) (suc i) t name h = go (is_attribute n.kind) (contains_planted s i t name) h
  where
    go : (is : Bool) → (Contains (attribute_names (planted_at i t s)) name → ((is_attribute t.node.kind ≡ true) × (t.node.name ≡ name)) ⊎ Contains (attribute_names s) name)
        → Contains (if is then n.name ∷ attribute_names (planted_at i t s) else attribute_names (planted_at i t s)) name
        → ((is_attribute t.node.kind ≡ true) × (t.node.name ≡ name)) ⊎ Contains (if is then n.name ∷ attribute_names s else attribute_names s) name
    go true step h =
        ⊎_elim
        (λ (e : n.name ≡ name). inr (contains_here n.name (attribute_names s) name e))
        (λ (c : Contains (attribute_names (planted_at i t s)) name).
        ⊎_elim
        (λ (e : (is_attribute t.node.kind ≡ true) × (t.node.name ≡ name)). inl e)
        (λ (d : Contains (attribute_names s) name). inr (contains_there n.name (attribute_names s) name d))
        (step c))
        (contains_parts n.name (attribute_names (planted_at i t s)) name h)
    go false step h = step h

-- a name that isn't found isn't there
fresh : (name : List ℕ) (names : List (List ℕ)) → list_any (bytes_eq name) names ≡ false → ¬ Contains names name
fresh name [] e h = absurd (let lt : h.0 < 0 = h.1 in omega arith)
fresh name (first ∷ names) e h =
    let p = or_parts (bytes_eq name first) _ e in
    ⊎_elim
    (λ (same : first ≡ name). both_ways (bytes_eq name first) p.0 ((bytes_eq-Decides name first).1 (sym same)))
    (fresh name names p.1)
    (contains_parts first names name h)

-- an attribute of a name that isn't there, or a node of another kind
pub distinct_planted : (f : Forest) (i : ℕ) (t : OrderedTree) → (is_attribute t.node.kind ≡ true → list_any (bytes_eq t.node.name) (attribute_names f) ≡ false) → AreDistinct (attribute_names f) → AreDistinct (attribute_names (planted_at i t f))
distinct_planted f zero t new h = go (is_attribute t.node.kind) refl
  where
    go : (is : Bool) → is_attribute t.node.kind ≡ is → AreDistinct (if is then t.node.name ∷ attribute_names f else attribute_names f)
    go true e = (fresh t.node.name (attribute_names f) (new e), h)
    go false e = h
distinct_planted Empty (suc i) t new h = tt
distinct_planted (Plant n b s) (suc i) t new h = go (is_attribute n.kind) (distinct_planted s i t) new h
  where
    go : (is : Bool) → ((is_attribute t.node.kind ≡ true → list_any (bytes_eq t.node.name) (attribute_names s) ≡ false) → AreDistinct (attribute_names s) → AreDistinct (attribute_names (planted_at i t s)))
        → (is_attribute t.node.kind ≡ true → list_any (bytes_eq t.node.name) (if is then n.name ∷ attribute_names s else attribute_names s) ≡ false) → AreDistinct (if is then n.name ∷ attribute_names s else attribute_names s)
        → AreDistinct (if is then n.name ∷ attribute_names (planted_at i t s) else attribute_names (planted_at i t s))
    go true step new h = (
      λ c.
          ⊎_elim
          (λ (e : (is_attribute t.node.kind ≡ true) × (t.node.name ≡ n.name)).
          both_ways (bytes_eq t.node.name n.name) (or_parts (bytes_eq t.node.name n.name) _ (new e.0)).0 ((bytes_eq-Decides t.node.name n.name).1 e.1))
          h.0
          (contains_planted s i t n.name c),
      step (λ e. (or_parts (bytes_eq t.node.name n.name) _ (new e)).1) h.1,
    )
    go false step new h = step new h
