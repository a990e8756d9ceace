-- Parts weigh the same in any order of the intervals.
use Rattle.std.proofs.Common.{◌≡◌, ℕ, ◌+◌, ◌<◌, ◌==◌, if◌then◌else◌, Bool, false, List, [], ◌∷◌, length, Option, None, Some, refl, sym, ap, subst, ◌∙◌, arith, IsPermutation, AllPairs, get_or, inl, inr}
use Rattle.std.specs.List.{filter_map, last_or, cons_option, sum_by}
use Rattle.std.specs.Option.{option_map_or}
use Rattle.std.proofs.lemmas.Bool.Decides.{nat_tests}
use Rattle.std.proofs.lemmas.List.Quantifiers.{position-Some}
use Rattle.std.proofs.lemmas.List.Sums.{sum_by-cons}
use Rattle.std.proofs.lemmas.List.Sorted.{Contains-permutation, IsPermutation-sym}
use Rattle.std.proofs.lemmas.Option.{slice_get-get_or, get_or_from_slice_get}
use Rattle.nx_tree.specs.declared.node.Node.{Node}
use Rattle.nx_tree.specs.Forest.{OrderedTree}
use Rattle.nx_weights.specs.Weight.{weight, listed}
use Rattle.nx_parts.specs.declared.interval.Interval.{Interval}
use Rattle.nx_parts.specs.declared.interval.Interval.TheVariants.{Root}
use Rattle.nx_parts.specs.Partitioning.{has_member, ShareMember, holder, prefixes, owner, owns, owned_weight, root_weight}
use Rattle.nx_parts.proofs.HolderLemmas.{position-None}
use Rattle.nx_cuts.proofs.FeasibleLemmas.{le_or, no_truth}

-- no two of them share a member, and each has one
pub record AreDistinct (xs : List Interval) : Type 0 where
  pub apart : AllPairs (λ a b. ¬ ShareMember a b) xs
  pub some : (i : ℕ) → i < length xs → ShareMember (get_or xs i Root) (get_or xs i Root)

turned : (a b : Interval) → ShareMember a b → ShareMember b a
turned a b s = (s.0, s.2, s.1)

same_index : (xs : List Interval) → AreDistinct xs → (i j : ℕ) → i < length xs → j < length xs → ShareMember (get_or xs i Root) (get_or xs j Root) → i ≡ j
same_index xs d i j hi hj s =
    elim (le_or i j) [
      | inl l ↦ absurd (d.apart i j Root l hj s)
      | inr l ↦ elim (le_or j i) [
        | inl m ↦ absurd (d.apart j i Root m hi (turned (get_or xs i Root) (get_or xs j Root) s))
        | inr m ↦ omega arith
      ]
    ]

-- two places of two lists have the same interval
abbrev pub Matches : List Interval → List Interval → Option ℕ → Option ℕ → Type 0
Matches qs ps None None = Unit {0}
Matches qs ps None (Some b) = ⊥
Matches qs ps (Some a) None = ⊥
Matches qs ps (Some a) (Some b) = (a < length qs) × (b < length ps) × (get_or qs a Root ≡ get_or ps b Root)

-- where the other list has it
other_place : (qs ps : List Interval) → IsPermutation qs ps → (a : ℕ) → a < length qs → (b : ℕ) × (b < length ps) × (get_or qs a Root ≡ get_or ps b Root)
other_place qs ps p a h =
    let x = get_or qs a Root in
    let c = Contains-permutation qs ps x p (a, h, sym (get_or_from_slice_get qs a (get_or qs a x) Root (slice_get-get_or qs a x h))) in
    (c.0, c.1, sym (get_or_from_slice_get ps c.0 (get_or ps c.0 x) Root (slice_get-get_or ps c.0 x c.1) ∙ c.2))

holders : (qs ps : List Interval) → AreDistinct ps → IsPermutation qs ps → (q : List ℕ) (o r : Option ℕ) → holder qs q ≡ o → holder ps q ≡ r → Matches qs ps o r
holders qs ps d p q None None e f = tt
holders qs ps d p q None (Some b) e f =
    let y = position-Some (λ i. has_member i q) ps b Root f in
    let o = other_place ps qs (IsPermutation-sym qs ps p) b y.0 in
    let z = position-None (λ i. has_member i q) qs o.0 (get_or qs o.0 Root) e (slice_get-get_or qs o.0 Root o.1) in
    no_truth (sym z ∙ ap (λ i. has_member i q) (sym o.2) ∙ y.1)
holders qs ps d p q (Some a) None e f =
    let x = position-Some (λ i. has_member i q) qs a Root e in
    let o = other_place qs ps p a x.0 in
    let z = position-None (λ i. has_member i q) ps o.0 (get_or ps o.0 Root) f (slice_get-get_or ps o.0 Root o.1) in
    no_truth (sym z ∙ ap (λ i. has_member i q) (sym o.2) ∙ x.1)
holders qs ps d p q (Some a) (Some b) e f =
    let x = position-Some (λ i. has_member i q) qs a Root e in
    let y = position-Some (λ i. has_member i q) ps b Root f in
    let o = other_place qs ps p a x.0 in
    let s : o.0 ≡ b = same_index ps d o.0 b o.1 y.0 (q, ap (λ i. has_member i q) (sym o.2) ∙ x.1, y.1) in
    (x.0, y.0, o.2 ∙ ap (λ i. get_or ps i Root) s)

-- the same of a later one, or else of the one before
later : (qs ps : List Interval) (o r x y : Option ℕ) (xs ys : List ℕ) → Matches qs ps o r → Matches qs ps x y → ((u v : Option ℕ) → Matches qs ps u v → Matches qs ps (last_or u xs) (last_or v ys)) → Matches qs ps (last_or o (cons_option x xs)) (last_or r (cons_option y ys))
later qs ps o r None None xs ys m n h = h o r m
later qs ps o r None (Some b) xs ys m n h = absurd n
later qs ps o r (Some a) None xs ys m n h = absurd n
later qs ps o r (Some a) (Some b) xs ys m n h = h (Some a) (Some b) n

owners : (qs ps : List Interval) → AreDistinct ps → IsPermutation qs ps → (fs : List (List ℕ)) (o r : Option ℕ) → Matches qs ps o r → Matches qs ps (last_or o (filter_map (holder qs) fs)) (last_or r (filter_map (holder ps) fs))
owners qs ps d p [] o r m = m
owners qs ps d p (f ∷ fs) o r m = later qs ps o r (holder qs f) (holder ps f) (filter_map (holder qs) fs) (filter_map (holder ps) fs) m (holders qs ps d p f (holder qs f) (holder ps f) refl refl) (λ u v w. owners qs ps d p fs u v w)

eq_same : (a b c d : ℕ) → (a ≡ b → c ≡ d) → (c ≡ d → a ≡ b) → (a == b) ≡ (c == d)
eq_same a b c d f g = grind (arith, nat_tests)

owned_alike : (qs ps : List Interval) → AreDistinct qs → AreDistinct ps → (a b : ℕ) → Matches qs ps (Some a) (Some b) → (o r : Option ℕ) → Matches qs ps o r → option_map_or (λ i. i == a) o false ≡ option_map_or (λ i. i == b) r false
owned_alike qs ps dq dp a b m None None n = refl
owned_alike qs ps dq dp a b m None (Some y) n = absurd n
owned_alike qs ps dq dp a b m (Some x) None n = absurd n
owned_alike qs ps dq dp a b m (Some x) (Some y) n =
    eq_same x a y b
    (λ e. same_index ps dp y b n.1 m.1 (subst (λ z. ShareMember (get_or ps y Root) z) (sym n.2 ∙ ap (λ i. get_or qs i Root) e ∙ m.2) (dp.some y n.1)))
    (λ e. same_index qs dq x a n.0 m.0 (subst (λ z. ShareMember (get_or qs x Root) z) (n.2 ∙ ap (λ i. get_or ps i Root) e ∙ sym m.2) (dq.some x n.0)))

sums : (f g : List ℕ × Node → Bool) (xs : List (List ℕ × Node)) → ((x : List ℕ × Node) → f x ≡ g x) → sum_by (λ x. if f x then weight x.1 else 0) xs ≡ sum_by (λ x. if g x then weight x.1 else 0) xs
sums f g [] e = refl
sums f g (x ∷ xs) e =
    let a : (if f x then weight x.1 else 0) ≡ (if g x then weight x.1 else 0) = ap (λ (b : Bool). if b then weight x.1 else 0) (e x) in
    let b' = sums f g xs e in
    sum_by-cons (λ (y : List ℕ × Node). if f y then weight y.1 else 0) x xs
    ∙ (ap (λ n. n + sum_by (λ (y : List ℕ × Node). if f y then weight y.1 else 0) xs) a ∙ ap (λ n. (if g x then weight x.1 else 0) + n) b')
    ∙ sym (sum_by-cons (λ (y : List ℕ × Node). if g y then weight y.1 else 0) x xs)

-- the part of an interval weighs the same in both lists
pub same_weight : (tree : OrderedTree) (qs ps : List Interval) → AreDistinct qs → AreDistinct ps → IsPermutation qs ps → (a : ℕ) → a < length qs
    → (b : ℕ) × (b < length ps) × (owned_weight tree qs a ≡ owned_weight tree ps b)
same_weight tree qs ps dq dp p a h =
    let o = other_place qs ps p a h in
    (o.0, o.1, sums (λ x. owns qs a x.0) (λ x. owns ps o.0 x.0) (listed tree) (λ x. owned_alike qs ps dq dp a o.0 (h, o.1, o.2) (owner qs x.0) (owner ps x.0) (owners qs ps dp p (prefixes x.0) None None tt)))

same_if : (tree : OrderedTree) (qs ps : List Interval) → AreDistinct qs → AreDistinct ps → IsPermutation qs ps → (o r : Option ℕ) → Matches qs ps o r
    → option_map_or (owned_weight tree qs) o 0 ≡ option_map_or (owned_weight tree ps) r 0
same_if tree qs ps dq dp p None None m = refl
same_if tree qs ps dq dp p None (Some b) m = absurd m
same_if tree qs ps dq dp p (Some a) None m = absurd m
same_if tree qs ps dq dp p (Some a) (Some b) m =
    sums (λ x. owns qs a x.0) (λ x. owns ps b x.0) (listed tree) (λ x. owned_alike qs ps dq dp a b m (owner qs x.0) (owner ps x.0) (owners qs ps dp p (prefixes x.0) None None tt))

-- the root's part weighs the same in both lists
pub same_root : (tree : OrderedTree) (qs ps : List Interval) → AreDistinct qs → AreDistinct ps → IsPermutation qs ps → root_weight tree qs ≡ root_weight tree ps
same_root tree qs ps dq dp p = same_if tree qs ps dq dp p (holder qs []) (holder ps []) (holders qs ps dp p [] (holder qs []) (holder ps []) refl refl)
