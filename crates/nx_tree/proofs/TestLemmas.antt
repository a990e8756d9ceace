-- What the tests of an edit find, in the words of its refusals.
use Rattle.std.proofs.Common.{◌≡◌, ℕ, zero, suc, max, ◌+◌, ◌-◌, ◌<◌, ◌≤◌, Bool, true, false, not, ◌||◌, List, [], ◌∷◌, length, take, drop, get_or, Option, None, Some, refl, sym, ap, ◌∙◌, subst, arith}
use Rattle.std.specs.Prelude.{if◌then◌else◌, slice_get, option_and_then}
use Rattle.std.specs.Bool.{MatchBool}
use Rattle.std.specs.List.{list_any}
use Rattle.std.specs.Option.{option_map_or}
use Rattle.std.specs.Str.{bytes_eq}
use Rattle.std.specs.Ordering.{ord_max, nat_cmp}
use Rattle.std.proofs.lemmas.Bool.Decides.{nat_tests}
use Rattle.std.proofs.Math.Seq.{drop-cons}
use Rattle.std.proofs.lemmas.Bool.{MatchBool-at_false}
use Rattle.nx_tree.specs.declared.node.Kind.{Kind}
use Rattle.nx_tree.specs.Forest.{OrderedTree, Forest, Empty, Plant, forest_of, trees_of}
use Rattle.nx_tree.specs.Document.{is_element, is_attribute, attribute_names, HasNoAttribute, AttributesComeFirst, depth}
use Rattle.nx_tree.specs.Edit.{child, at, is_unordered, is_root_element}
use Rattle.std.proofs.lemmas.Option.{slice_get_read}
use Rattle.nx_tree.proofs.ForestLemmas.{no_names}
use Rattle.nx_tree.proofs.PlaceLemmas.{child-forest_of}
use Rattle.nx_tree.proofs.SoundLemmas.{depth_child}
use Rattle.nx_tree.proofs.OrderLemmas.{none_first}

-- there is an attribute at the index
abbrev attribute_at : List OrderedTree → ℕ → Bool
attribute_at ts i = option_map_or (λ (t : OrderedTree). is_attribute t.node.kind) (slice_get ts i) false

none_at : (ts : List OrderedTree) (i : ℕ) → HasNoAttribute (forest_of ts) → attribute_at ts i ≡ false
none_at [] i h = refl
none_at (t ∷ ts) zero h = h.0
none_at (t ∷ ts) (suc i) h = none_at ts i h.1

none_behind : (ts : List OrderedTree) → HasNoAttribute (forest_of ts) → list_any (λ (t : OrderedTree). is_attribute t.node.kind) ts ≡ false
none_behind [] h = refl
none_behind (t ∷ ts) h = rw h.0 (none_behind ts h.1)

rest_ordered : (is : Bool) (f : Forest) → MatchBool is (AttributesComeFirst f) (HasNoAttribute f) → AttributesComeFirst f
rest_ordered true f h = h
rest_ordered false f h = none_first f h

-- an attribute may come where the one before is an attribute
all_before : (ts : List OrderedTree) (i : ℕ) → i < length ts → AttributesComeFirst (forest_of ts) → not (attribute_at ts i) ≡ list_any (λ (t : OrderedTree). not (is_attribute t.node.kind)) (take (suc i) ts)
all_before [] i within h = absurd (omega arith)
all_before (t ∷ ts) zero within h = go (is_attribute t.node.kind)
  where
    go : (b : Bool) → not b ≡ (not b || false)
    go true = refl
    go false = refl
all_before (t ∷ ts) (suc i) within h = go (is_attribute t.node.kind) (all_before ts i (omega arith)) h
  where
    go : (b : Bool) → (AttributesComeFirst (forest_of ts) → not (attribute_at ts i) ≡ list_any (λ (x : OrderedTree). not (is_attribute x.node.kind)) (take (suc i) ts)) → MatchBool b (AttributesComeFirst (forest_of ts)) (HasNoAttribute (forest_of ts))
        → not (attribute_at ts i) ≡ (not b || list_any (λ (x : OrderedTree). not (is_attribute x.node.kind)) (take (suc i) ts))
    go true step h = step h
    go false step h = ap not (none_at ts i h)

-- another node may come where no attribute is next
none_next : (ts : List OrderedTree) (i : ℕ) → AttributesComeFirst (forest_of ts) → attribute_at ts i ≡ list_any (λ (t : OrderedTree). is_attribute t.node.kind) (drop i ts)
none_next [] zero h = refl
none_next [] (suc i) h = refl
none_next (t ∷ ts) zero h = go (is_attribute t.node.kind) h
  where
    go : (b : Bool) → MatchBool b (AttributesComeFirst (forest_of ts)) (HasNoAttribute (forest_of ts)) → b ≡ (b || list_any (λ (x : OrderedTree). is_attribute x.node.kind) ts)
    go true h = refl
    go false h = sym (none_behind ts h)
none_next (t ∷ ts) (suc i) h = none_next ts i (rest_ordered (is_attribute t.node.kind) (forest_of ts) h)

pub unordered_attribute : (kind : Kind) (i : ℕ) (ts : List OrderedTree) → is_attribute kind ≡ true → 0 < i → i ≤ length ts → AttributesComeFirst (forest_of ts) → not (attribute_at ts (i - 1)) ≡ is_unordered kind i ts
unordered_attribute kind zero ts e low within h = absurd (omega arith)
unordered_attribute kind (suc i) ts e low within h =
    let p : suc i - 1 ≡ i = omega arith in
    rw (e, p) (all_before ts i (omega arith) h)

pub unordered_other : (kind : Kind) (i : ℕ) (ts : List OrderedTree) → is_attribute kind ≡ false → AttributesComeFirst (forest_of ts) → attribute_at ts i ≡ is_unordered kind i ts
unordered_other kind i ts e h = rw e (none_next ts i h)

pub child-trees_of : (f : Forest) (i : ℕ) → child f i ≡ slice_get (trees_of f) i
child-trees_of Empty i = refl
child-trees_of (Plant n b s) zero = refl
child-trees_of (Plant n b s) (suc i) = child-trees_of s i

same_option : (o : Option OrderedTree) → o ≡ option_and_then (λ (t : OrderedTree). Some t) o
same_option None = refl
same_option (Some t) = refl

-- an element at a path of one position
pub root_at : (path : List ℕ) (tree : OrderedTree) (ts : List OrderedTree) → 1 ≤ length path → length path < 2 → ts ≡ trees_of tree.below
    → option_map_or (λ (t : OrderedTree). is_element t.node.kind) (slice_get ts (get_or path 0 0)) false ≡ is_root_element path tree
root_at [] tree ts low high e = absurd (omega arith)
root_at (p ∷ []) tree ts low high e =
    ap (λ (o : Option OrderedTree). option_map_or (λ (t : OrderedTree). is_element t.node.kind) o false) (ap (λ (xs : List OrderedTree). slice_get xs p) e ∙ sym (child-trees_of tree.below p) ∙ same_option (child tree.below p))
root_at (p ∷ q ∷ path) tree ts low high e = absurd (omega arith)

-- the name is an attribute's among the trees just where it is one's among those from an index on
pub record IsAmongRest (name : List ℕ) (ts : List OrderedTree) (i : ℕ) : Type 0 where
  pub ordered : AttributesComeFirst (forest_of (drop i ts))
  pub same : list_any (bytes_eq name) (attribute_names (forest_of ts)) ≡ list_any (bytes_eq name) (attribute_names (forest_of (drop i ts)))

pub among_first : (name : List ℕ) (ts : List OrderedTree) → AttributesComeFirst (forest_of ts) → IsAmongRest name ts 0
among_first name ts h = record { ordered = h; same = refl }

none_after : (t : OrderedTree) (ts : List OrderedTree) → is_attribute t.node.kind ≡ false → AttributesComeFirst (forest_of (t ∷ ts)) → HasNoAttribute (forest_of ts)
none_after t ts is h = MatchBool-at_false (AttributesComeFirst (forest_of ts)) (HasNoAttribute (forest_of ts)) is h

found_first : (name : List ℕ) (t : OrderedTree) (ts rest : List OrderedTree) → ts ≡ t ∷ rest → is_attribute t.node.kind ≡ true
    → list_any (bytes_eq name) (attribute_names (forest_of ts)) ≡ (bytes_eq name t.node.name || list_any (bytes_eq name) (attribute_names (forest_of rest)))
found_first name t ts rest e is =
    ap (λ (xs : List OrderedTree). list_any (bytes_eq name) (attribute_names (forest_of xs))) e
    ∙ ap (λ (b : Bool). list_any (bytes_eq name) (if b then t.node.name ∷ attribute_names (forest_of rest) else attribute_names (forest_of rest))) is

-- one tree more is looked at: it is no attribute, has the name, or another one
pub among_none : (name : List ℕ) (ts : List OrderedTree) (i : ℕ) (t : OrderedTree) → IsAmongRest name ts i → drop i ts ≡ t ∷ drop (i + 1) ts → is_attribute t.node.kind ≡ false → false ≡ list_any (bytes_eq name) (attribute_names (forest_of ts))
among_none name ts i t h e is =
    let rest : HasNoAttribute (forest_of (drop (i + 1) ts)) = none_after t (drop (i + 1) ts) is (subst (λ (xs : List OrderedTree). AttributesComeFirst (forest_of xs)) e h.ordered) in
    sym
    (h.same
    ∙ ap (λ (xs : List OrderedTree). list_any (bytes_eq name) (attribute_names (forest_of xs))) e
    ∙ ap (λ (b : Bool). list_any (bytes_eq name) (if b then t.node.name ∷ attribute_names (forest_of (drop (i + 1) ts)) else attribute_names (forest_of (drop (i + 1) ts)))) is
    ∙ ap (list_any (bytes_eq name)) (no_names (forest_of (drop (i + 1) ts)) rest))

pub among_this : (name : List ℕ) (ts : List OrderedTree) (i : ℕ) (t : OrderedTree) → IsAmongRest name ts i → drop i ts ≡ t ∷ drop (i + 1) ts → is_attribute t.node.kind ≡ true → bytes_eq name t.node.name ≡ true → true ≡ list_any (bytes_eq name) (attribute_names (forest_of ts))
among_this name ts i t h e is here =
    sym (h.same ∙ found_first name t (drop i ts) (drop (i + 1) ts) e is ∙ ap (λ (b : Bool). b || list_any (bytes_eq name) (attribute_names (forest_of (drop (i + 1) ts)))) here)

pub among_more : (name : List ℕ) (ts : List OrderedTree) (i : ℕ) (t : OrderedTree) → IsAmongRest name ts i → drop i ts ≡ t ∷ drop (i + 1) ts → is_attribute t.node.kind ≡ true → bytes_eq name t.node.name ≡ false → IsAmongRest name ts (i + 1)
among_more name ts i t h e is other = record {
  ordered = rest_ordered (is_attribute t.node.kind) (forest_of (drop (i + 1) ts)) (subst (λ (xs : List OrderedTree). AttributesComeFirst (forest_of xs)) e h.ordered);
  same = h.same ∙ found_first name t (drop i ts) (drop (i + 1) ts) e is ∙ ap (λ (b : Bool). b || list_any (bytes_eq name) (attribute_names (forest_of (drop (i + 1) ts)))) other;
}

pub among_last : (name : List ℕ) (ts : List OrderedTree) (i : ℕ) → IsAmongRest name ts i → drop i ts ≡ [] → false ≡ list_any (bytes_eq name) (attribute_names (forest_of ts))
among_last name ts i h e = sym (h.same ∙ ap (λ (xs : List OrderedTree). list_any (bytes_eq name) (attribute_names (forest_of xs))) e)

-- what a loop looks at is the first of what is left
pub next_left : (ts : List OrderedTree) (i : ℕ) (t : OrderedTree) → i < length ts → t ≡ get_or ts i t → drop i ts ≡ t ∷ drop (i + 1) ts
next_left ts i t within is = drop-cons ts i t within ∙ ap (λ (x : OrderedTree). x ∷ drop (suc i) ts) (sym is) ∙ ap (λ (j : ℕ). t ∷ drop j ts) (let q : suc i ≡ i + 1 = omega arith in q)

-- a path followed step by step:

at-drop : (found : OrderedTree) (path : List ℕ) (i : ℕ) (ts : List OrderedTree) → i < length path → ts ≡ trees_of found.below
    → at found (drop i path) ≡ option_and_then (λ (t : OrderedTree). at t (drop (suc i) path)) (slice_get ts (get_or path i 0))
at-drop found path i ts within e =
    ap (at found) (drop-cons path i 0 within)
    ∙ ap (option_and_then (λ (t : OrderedTree). at t (drop (suc i) path))) (child-trees_of found.below (get_or path i 0) ∙ ap (λ (xs : List OrderedTree). slice_get xs (get_or path i 0)) (sym e))

-- the next position leads to a child, or nowhere
pub at-next : (found t : OrderedTree) (path : List ℕ) (i : ℕ) (ts : List OrderedTree) → i < length path → ts ≡ trees_of found.below → slice_get ts (get_or path i 0) ≡ Some t → at t (drop (i + 1) path) ≡ at found (drop i path)
at-next found t path i ts within e g =
    ap (λ (j : ℕ). at t (drop j path)) (let q : i + 1 ≡ suc i = omega arith in q)
    ∙ sym (at-drop found path i ts within e ∙ ap (option_and_then (λ (x : OrderedTree). at x (drop (suc i) path))) g)

pub at-nowhere : (found : OrderedTree) (path : List ℕ) (i : ℕ) (ts : List OrderedTree) → i < length path → ts ≡ trees_of found.below → slice_get ts (get_or path i 0) ≡ None → at found (drop i path) ≡ None
at-nowhere found path i ts within e g = at-drop found path i ts within e ∙ ap (option_and_then (λ (x : OrderedTree). at x (drop (suc i) path))) g

-- the greatest depth:

pub depth_start : (f : Forest) (ts : List OrderedTree) → forest_of ts ≡ f → max 0 (depth (forest_of (drop 0 ts))) ≡ depth f
depth_start f ts e = let d = ap depth e in omega arith

pub deeper : (n i : ℕ) (f : Forest) (ts : List OrderedTree) (t : OrderedTree) → max n (depth (forest_of (drop i ts))) ≡ depth f → drop i ts ≡ t ∷ drop (i + 1) ts
    → (1 + depth t.below ≤ depth f) × (max (max n (1 + depth t.below)) (depth (forest_of (drop (i + 1) ts))) ≡ depth f)
deeper n i f ts t h e = let d = ap (λ (xs : List OrderedTree). depth (forest_of xs)) e in (omega arith, omega arith)

pub deepest_at_end : (n i : ℕ) (f : Forest) (ts : List OrderedTree) → max n (depth (forest_of (drop i ts))) ≡ depth f → drop i ts ≡ [] → n ≡ depth f
deepest_at_end n i f ts h e = let d = ap (λ (xs : List OrderedTree). depth (forest_of xs)) e in omega arith

greater : (a b : ℕ) → ord_max nat_cmp a b ≡ max a b
greater a b = grind (arith, nat_tests)

pub depth_more : (n m d i : ℕ) (f : Forest) (ts : List OrderedTree) (t : OrderedTree) → max n (depth (forest_of (drop i ts))) ≡ depth f → drop i ts ≡ t ∷ drop (i + 1) ts → d ≡ depth t.below → m ≡ ord_max nat_cmp n (1 + d)
    → max m (depth (forest_of (drop (i + 1) ts))) ≡ depth f
depth_more n m d i f ts t h e k g =
    let l = (deeper n i f ts t h e).1 in
    ap (λ (x : ℕ). max x (depth (forest_of (drop (i + 1) ts)))) (g ∙ greater n (1 + d) ∙ ap (λ (x : ℕ). max n (1 + x)) k) ∙ l

-- a tree of the list is less deep than the forest
pub depth_item : (f : Forest) (ts : List OrderedTree) (i : ℕ) (t : OrderedTree) → forest_of ts ≡ f → i < length ts → t ≡ get_or ts i t → 1 + depth t.below ≤ depth f
depth_item f ts i t e within is =
    let d = depth_child (forest_of ts) i t (child-forest_of ts i ∙ slice_get_read ts (length ts) i t refl within is) in
    let h = ap depth e in
    omega arith
