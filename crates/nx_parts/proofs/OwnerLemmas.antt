-- The owner of a longer path, and what an interval owns as a walk over the tree.
use Rattle.std.proofs.Common.{◌≡◌, ℕ, ◌+◌, if◌then◌else◌, List, [], ◌∷◌, ◌++◌, map, Option, None, Some, refl, ap, ◌∙◌, arith}
use Rattle.std.specs.List.{cons_option, filter_map, last_or, sum_by}
use Rattle.std.specs.Option.{option_or}
use Rattle.std.proofs.lemmas.List.{map-append}
use Rattle.std.proofs.lemmas.List.Elements.{filter_map-append}
use Rattle.std.proofs.lemmas.List.Sums.{sum_by-cons, sum_by-append}
use Rattle.nx_tree.specs.declared.node.Node.{Node}
use Rattle.nx_tree.specs.Forest.{OrderedTree, Forest, Empty, Plant}
use Rattle.nx_weights.specs.Weight.{weight, listed_in}
use Rattle.nx_parts.specs.declared.interval.Interval.{Interval}
use Rattle.nx_parts.specs.Partitioning.{holder, prefixes, owner, owns, owned_weight}
use Rattle.nx_parts.proofs.Owned.{is_place, owned}

prefixes-longer : (path : List ℕ) (position : ℕ) → prefixes (path ++ position ∷ []) ≡ prefixes path ++ (path ++ position ∷ []) ∷ []
prefixes-longer [] position = refl
prefixes-longer (step ∷ path) position =
    ap (λ fs. [] ∷ map (λ prefix. step ∷ prefix) fs) (prefixes-longer path position)
    ∙ ap (λ fs. [] ∷ fs) (map-append (λ prefix. step ∷ prefix) (prefixes path) ((path ++ position ∷ []) ∷ []))

last_or_one : (o q : Option ℕ) → last_or o (cons_option q []) ≡ option_or q o
last_or_one o None = refl
last_or_one o (Some x) = refl

last_or-push : (o q : Option ℕ) (xs : List ℕ) → last_or o (xs ++ cons_option q []) ≡ option_or q (last_or o xs)
last_or-push o q [] = last_or_one o q
last_or-push o q (x ∷ xs) = last_or-push (Some x) q xs

-- the owner of a child is the interval that has it as a member, or else its parent's
pub owner-longer : (parts : List Interval) (path : List ℕ) (position : ℕ) → owner parts (path ++ position ∷ []) ≡ option_or (holder parts (path ++ position ∷ [])) (owner parts path)
owner-longer parts path position =
    ap (λ fs. last_or None (filter_map (holder parts) fs)) (prefixes-longer path position)
    ∙ ap (last_or None) (filter_map-append (holder parts) (prefixes path) ((path ++ position ∷ []) ∷ []))
    ∙ last_or-push None (holder parts (path ++ position ∷ [])) (filter_map (holder parts) (prefixes path))

option_or-None : (o : Option ℕ) → option_or o None ≡ o
option_or-None None = refl
option_or-None (Some x) = refl

pub owner-root : (parts : List Interval) → owner parts [] ≡ holder parts []
owner-root parts = last_or_one None (holder parts []) ∙ option_or-None (holder parts [])

-- what the interval at this place of the list gets of a node with its path
abbrev pub owned_of : List Interval → ℕ → List ℕ × Node → ℕ
owned_of parts index placed = if owns parts index placed.0 then weight placed.1 else 0

-- the sum over the listed nodes is the walk
pub sum_is_owned : (parts : List Interval) (index : ℕ) (path : List ℕ) (position : ℕ) (forest : Forest) → sum_by (λ placed. if owns parts index placed.0 then weight placed.1 else 0) (listed_in path position forest) ≡ owned parts index (owner parts path) path position forest
sum_is_owned parts index path position Empty = refl
sum_is_owned parts index path position (Plant node below beside) =
    let here = path ++ position ∷ [] in
    let e = owner-longer parts path position in
    let a : owned_of parts index (here, node) ≡ (if is_place index (option_or (holder parts here) (owner parts path)) then weight node else 0) =
    ap (λ (o : Option ℕ). if is_place index o then weight node else 0) e in
    let b : sum_by (owned_of parts index) (listed_in here 0 below) ≡ owned parts index (option_or (holder parts here) (owner parts path)) here 0 below =
    sum_is_owned parts index here 0 below ∙ ap (λ (o : Option ℕ). owned parts index o here 0 below) e in
    let c : sum_by (owned_of parts index) (listed_in path (position + 1) beside) ≡ owned parts index (owner parts path) path (position + 1) beside =
    sum_is_owned parts index path (position + 1) beside in
    let d : sum_by (owned_of parts index) (listed_in here 0 below ++ listed_in path (position + 1) beside) ≡ sum_by (owned_of parts index) (listed_in here 0 below) + sum_by (owned_of parts index) (listed_in path (position + 1) beside) =
    sum_by-append (owned_of parts index) (listed_in here 0 below) (listed_in path (position + 1) beside) in
    let f : sum_by (owned_of parts index) ((here, node) ∷ listed_in here 0 below ++ listed_in path (position + 1) beside) ≡ owned_of parts index (here, node) + sum_by (owned_of parts index) (listed_in here 0 below ++ listed_in path (position + 1) beside) =
    sum_by-cons (owned_of parts index) (here, node) (listed_in here 0 below ++ listed_in path (position + 1) beside) in
    omega (arith, a, b, c, d, f)

-- what a part weighs: the root if the interval has it as a member, and what it owns below
pub owned_weight-walk : (tree : OrderedTree) (parts : List Interval) (index : ℕ) → owned_weight tree parts index ≡ (if is_place index (holder parts []) then weight tree.node else 0) + owned parts index (holder parts []) [] 0 tree.below
owned_weight-walk tree parts index =
    let e = owner-root parts in
    let a : owned_of parts index ([], tree.node) ≡ (if is_place index (holder parts []) then weight tree.node else 0) =
    ap (λ (o : Option ℕ). if is_place index o then weight tree.node else 0) e in
    let b : sum_by (owned_of parts index) (listed_in [] 0 tree.below) ≡ owned parts index (holder parts []) [] 0 tree.below =
    sum_is_owned parts index [] 0 tree.below ∙ ap (λ (o : Option ℕ). owned parts index o [] 0 tree.below) e in
    let f : sum_by (owned_of parts index) (([], tree.node) ∷ listed_in [] 0 tree.below) ≡ owned_of parts index ([], tree.node) + sum_by (owned_of parts index) (listed_in [] 0 tree.below) =
    sum_by-cons (owned_of parts index) ([], tree.node) (listed_in [] 0 tree.below) in
    omega (arith, a, b, f)
