-- What is left of a document where trees go is one so far.
use Rattle.std.proofs.Common.{◌≡◌, ◌⊎◌, ℕ, ◌≤◌, Bool, true, false, List, [], ◌∷◌, refl, sym, subst, arith, inl, inr}
use Rattle.std.specs.Prelude.{if◌then◌else◌, Contains}
use Rattle.std.specs.Bool.{MatchBool}
use Rattle.std.proofs.lemmas.List.Elements.{Contains-append_left, Contains-append_right, Contains-append_cases}
use Rattle.nx_tree.specs.declared.node.Kind.{Kind}
use Rattle.nx_tree.specs.declared.node.Kind.TheVariants.{Doc, Element, Attribute, Text, Instruction}
use Rattle.nx_tree.specs.Forest.{Forest, Empty, Plant}
use Rattle.nx_tree.specs.Document.{is_attribute, attribute_names, HasNoAttribute, AttributesComeFirst, AreDistinct, MayHave, IsForest, IsTop, element_count, depth, deepest}
use Rattle.nx_cuts.specs.Cut.{joined}
use Rattle.nx_rules.specs.Walked.{IsSoFar}

-- The first forest is the second without some of its trees, at any depth.
abbrev pub Within : Forest → Forest → Type 0
Within f Empty = f ≡ Empty
Within f (Plant node below beside) = ((d : Forest) × (s : Forest) × (f ≡ Plant node d s) × Within d below × Within s beside) ⊎ Within f beside

pub within_empty : (g : Forest) → Within Empty g
within_empty Empty = refl
within_empty (Plant node below beside) = inr (within_empty beside)

pub within_self : (g : Forest) → Within g g
within_self Empty = refl
within_self (Plant node below beside) = inl (below, beside, refl, within_self below, within_self beside)

pub within_joined : (f g h k : Forest) → Within f g → Within h k → Within (joined f h) (joined g k)
within_joined f Empty h k a b = subst (λ x. Within (joined x h) k) (sym a) b
within_joined f (Plant node below beside) h k (inl a) b =
    subst (λ x. Within (joined x h) (Plant node below (joined beside k))) (sym a.2) (inl (a.0, joined a.1 h, refl, a.3, within_joined a.1 beside h k a.4 b))
within_joined f (Plant node below beside) h k (inr a) b = inr (within_joined f beside h k a b)

within_top : (f g : Forest) → Within f g → IsTop g → IsTop f
within_top f Empty a top = subst (λ x. IsTop x) (sym a) tt
within_top f (Plant node below beside) (inl a) top = subst (λ x. IsTop x) (sym a.2) (top.0, within_top a.1 beside a.4 top.1)
within_top f (Plant node below beside) (inr a) top = within_top f beside a top.1

within_elements : (f g : Forest) → Within f g → element_count f ≤ element_count g
within_elements f Empty a = subst (λ x. element_count x ≤ 0) (sym a) (omega arith)
within_elements f (Plant node below beside) (inl a) =
    let rest : element_count a.1 ≤ element_count beside = within_elements a.1 beside a.4 in
    subst (λ x. element_count x ≤ element_count (Plant node below beside)) (sym a.2) (omega (arith, rest))
within_elements f (Plant node below beside) (inr a) = let rest : element_count f ≤ element_count beside = within_elements f beside a in omega (arith, rest)

within_depth : (f g : Forest) → Within f g → depth f ≤ depth g
within_depth f Empty a = subst (λ x. depth x ≤ 0) (sym a) (omega arith)
within_depth f (Plant node below beside) (inl a) =
    let under : depth a.0 ≤ depth below = within_depth a.0 below a.3 in
    let rest : depth a.1 ≤ depth beside = within_depth a.1 beside a.4 in
    subst (λ x. depth x ≤ depth (Plant node below beside)) (sym a.2) (omega (arith, under, rest))
within_depth f (Plant node below beside) (inr a) = let rest : depth f ≤ depth beside = within_depth f beside a in omega (arith, rest)

-- attributes
abbrev names_with : Bool → List ℕ → List (List ℕ) → List (List ℕ)
names_with b name names = if b then name ∷ names else names

within_no_attribute : (f g : Forest) → Within f g → HasNoAttribute g → HasNoAttribute f
within_no_attribute f Empty a none = subst (λ x. HasNoAttribute x) (sym a) tt
within_no_attribute f (Plant node below beside) (inl a) none = subst (λ x. HasNoAttribute x) (sym a.2) (none.0, within_no_attribute a.1 beside a.4 none.1)
within_no_attribute f (Plant node below beside) (inr a) none = within_no_attribute f beside a none.1

none_come_first : (f : Forest) → HasNoAttribute f → AttributesComeFirst f
none_come_first Empty none = tt
none_come_first (Plant node below beside) none = subst (λ b. MatchBool b (AttributesComeFirst beside) (HasNoAttribute beside)) (sym none.0) none.1

first_here : (b : Bool) (s beside : Forest) → (AttributesComeFirst beside → AttributesComeFirst s) → Within s beside → MatchBool b (AttributesComeFirst beside) (HasNoAttribute beside) → MatchBool b (AttributesComeFirst s) (HasNoAttribute s)
first_here true s beside rest w first = rest first
first_here false s beside rest w first = within_no_attribute s beside w first

first_past : (b : Bool) (f beside : Forest) → (AttributesComeFirst beside → AttributesComeFirst f) → Within f beside → MatchBool b (AttributesComeFirst beside) (HasNoAttribute beside) → AttributesComeFirst f
first_past true f beside rest w first = rest first
first_past false f beside rest w first = none_come_first f (within_no_attribute f beside w first)

within_first : (f g : Forest) → Within f g → AttributesComeFirst g → AttributesComeFirst f
within_first f Empty a first = subst (λ x. AttributesComeFirst x) (sym a) tt
within_first f (Plant node below beside) (inl a) first =
    subst (λ x. AttributesComeFirst x) (sym a.2) (first_here (is_attribute node.kind) a.1 beside (λ h. within_first a.1 beside a.4 h) a.4 first)
within_first f (Plant node below beside) (inr a) first = first_past (is_attribute node.kind) f beside (λ h. within_first f beside a h) a first

-- one list of names has all of the other
abbrev Among : List (List ℕ) → List (List ℕ) → Type 0
Among xs ys = (x : List ℕ) → Contains xs x → Contains ys x

among_more : (name : List ℕ) (xs ys : List (List ℕ)) → Among xs ys → Among (name ∷ xs) (name ∷ ys)
among_more name xs ys all x h =
    elim (Contains-append_cases (name ∷ []) xs x h) [
      | inl first ↦ Contains-append_left (name ∷ []) ys x first
      | inr rest ↦ Contains-append_right (name ∷ []) ys x (all x rest)
    ]

names_here : (b : Bool) (name : List ℕ) (xs ys : List (List ℕ)) → Among xs ys → Among (names_with b name xs) (names_with b name ys)
names_here true name xs ys all = among_more name xs ys all
names_here false name xs ys all = all

names_past : (b : Bool) (name : List ℕ) (xs ys : List (List ℕ)) → Among xs ys → Among xs (names_with b name ys)
names_past true name xs ys all = λ x h. Contains-append_right (name ∷ []) ys x (all x h)
names_past false name xs ys all = all

within_names : (f g : Forest) → Within f g → Among (attribute_names f) (attribute_names g)
within_names f Empty a = subst (λ x. Among (attribute_names x) []) (sym a) (λ x h. h)
within_names f (Plant node below beside) (inl a) =
    subst (λ x. Among (attribute_names x) (attribute_names (Plant node below beside))) (sym a.2) (names_here (is_attribute node.kind) node.name (attribute_names a.1) (attribute_names beside) (within_names a.1 beside a.4))
within_names f (Plant node below beside) (inr a) = names_past (is_attribute node.kind) node.name (attribute_names f) (attribute_names beside) (within_names f beside a)

distinct_here : (b : Bool) (name : List ℕ) (xs ys : List (List ℕ)) → Among xs ys → (AreDistinct ys → AreDistinct xs) → AreDistinct (names_with b name ys) → AreDistinct (names_with b name xs)
distinct_here true name xs ys all rest apart = (λ h. apart.0 (all name h), rest apart.1)
distinct_here false name xs ys all rest apart = rest apart

distinct_past : (b : Bool) (name : List ℕ) (ys : List (List ℕ)) → AreDistinct (names_with b name ys) → AreDistinct ys
distinct_past true name ys apart = apart.1
distinct_past false name ys apart = apart

within_distinct : (f g : Forest) → Within f g → AreDistinct (attribute_names g) → AreDistinct (attribute_names f)
within_distinct f Empty a apart = subst (λ x. AreDistinct (attribute_names x)) (sym a) tt
within_distinct f (Plant node below beside) (inl a) apart =
    subst (λ x. AreDistinct (attribute_names x)) (sym a.2)
    (distinct_here (is_attribute node.kind) node.name (attribute_names a.1) (attribute_names beside) (within_names a.1 beside a.4) (λ h. within_distinct a.1 beside a.4 h) apart)
within_distinct f (Plant node below beside) (inr a) apart = within_distinct f beside a (distinct_past (is_attribute node.kind) node.name (attribute_names beside) apart)

within_none : (f g : Forest) → Within f g → g ≡ Empty → f ≡ Empty
within_none f g a none = subst (λ (x : Forest). Within f x) none a

within_may : (kind : Kind) (f g : Forest) → Within f g → MayHave kind g → MayHave kind f
within_may Doc f g a may = within_none f g a may
within_may Element f g a may = (within_first f g a may.0, within_distinct f g a may.1)
within_may Attribute f g a may = within_none f g a may
within_may Text f g a may = within_none f g a may
within_may Instruction f g a may = within_none f g a may

within_forest : (f g : Forest) → Within f g → IsForest g → IsForest f
within_forest f Empty a all = subst (λ x. IsForest x) (sym a) tt
within_forest f (Plant node below beside) (inl a) all =
    subst (λ x. IsForest x) (sym a.2) (all.0, within_may node.kind a.0 below a.3 all.1, within_forest a.0 below a.3 all.2, within_forest a.1 beside a.4 all.3)
within_forest f (Plant node below beside) (inr a) all = within_forest f beside a all.3

-- what is left of a document so far is one
pub within_so_far : (f g : Forest) → Within f g → IsSoFar g → IsSoFar f
within_so_far f Empty a is = subst (λ x. IsSoFar x) (sym a) tt
within_so_far f (Plant node below beside) (inl a) is =
    let few : element_count below ≤ 1 = is.5 in
    let fewer : element_count a.0 ≤ element_count below = within_elements a.0 below a.3 in
    let low : depth below ≤ deepest = is.7 in
    let lower : depth a.0 ≤ depth below = within_depth a.0 below a.3 in
    subst (λ x. IsSoFar x) (sym a.2)
    (is.0, is.1, is.2, within_none a.1 beside a.4 is.3, within_top a.0 below a.3 is.4, omega (arith, few, fewer), within_forest a.0 below a.3 is.6, omega (arith, low, lower))
within_so_far f (Plant node below beside) (inr a) is = subst (λ x. IsSoFar x) (sym (within_none f beside a is.3)) tt
