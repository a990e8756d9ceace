-- The trees of a forest changed, planted and removed at a position, as a list and as a forest.
use Rattle.std.proofs.Common.{◌≡◌, ℕ, zero, suc, ◌+◌, ◌<◌, ◌≤◌, List, [], ◌∷◌, length, Some, refl, ap, arith, slice_set, get_or}
use Rattle.std.proofs.lemmas.Option.{slice_get_read}
use Rattle.std.specs.List.{slice_get, insert, remove}
use Rattle.nx_tree.specs.Forest.{OrderedTree, Forest, Empty, Plant, forest_of, trees_of, nodes}
use Rattle.nx_tree.specs.Edit.{child, changed_at, planted_at, removed_at}

pub child-forest_of : (ts : List OrderedTree) (i : ℕ) → child (forest_of ts) i ≡ slice_get ts i
child-forest_of [] i = refl
child-forest_of (t ∷ ts) zero = refl
child-forest_of (t ∷ ts) (suc i) = child-forest_of ts i

-- the tree at a position changed, in the list and in the forest
pub forest_of-set : (ts : List OrderedTree) (i : ℕ) (t : OrderedTree) (change : OrderedTree → OrderedTree) → slice_get ts i ≡ Some t → forest_of (slice_set ts i (change t)) ≡ changed_at i change (forest_of ts)
forest_of-set [] i t change e = cc
forest_of-set (x ∷ ts) zero t change e = let same : x ≡ t = cc in rw same refl
forest_of-set (x ∷ ts) (suc i) t change e = ap (λ r. Plant x.node x.below r) (forest_of-set ts i t change e)

pub forest_of-insert : (ts : List OrderedTree) (i : ℕ) (t : OrderedTree) → i ≤ length ts → forest_of (insert ts i t) ≡ planted_at i t (forest_of ts)
forest_of-insert ts zero t h = refl
forest_of-insert [] (suc i) t h = absurd (omega arith)
forest_of-insert (x ∷ ts) (suc i) t h = ap (λ r. Plant x.node x.below r) (forest_of-insert ts i t (omega arith))

pub forest_of-remove : (ts : List OrderedTree) (i : ℕ) → forest_of (remove ts i) ≡ removed_at i (forest_of ts)
forest_of-remove [] zero = refl
forest_of-remove [] (suc i) = refl
forest_of-remove (x ∷ ts) zero = refl
forest_of-remove (x ∷ ts) (suc i) = ap (λ r. Plant x.node x.below r) (forest_of-remove ts i)

pub nodes-changed_at : (f : Forest) (i : ℕ) (t : OrderedTree) (change : OrderedTree → OrderedTree) → child f i ≡ Some t → nodes (changed_at i change f) + nodes t.below ≡ nodes f + nodes (change t).below
nodes-changed_at Empty i t change e = cc
nodes-changed_at (Plant node below beside) zero t change e =
    let same : record { node = node; below = below } ≡ t = cc in
    let b = ap (λ (x : OrderedTree). nodes x.below) same in
    let c = ap (λ (x : OrderedTree). nodes (change x).below) same in
    omega arith
nodes-changed_at (Plant node below beside) (suc i) t change e = omega (arith, nodes-changed_at beside i t change e)

pub nodes-planted_at : (f : Forest) (i : ℕ) (t : OrderedTree) → i ≤ length (trees_of f) → nodes (planted_at i t f) ≡ nodes f + 1 + nodes t.below
nodes-planted_at f zero t h = omega arith
nodes-planted_at Empty (suc i) t h = absurd (omega arith)
nodes-planted_at (Plant node below beside) (suc i) t h = omega (arith, nodes-planted_at beside i t (omega arith))

pub nodes-removed_at : (f : Forest) (i : ℕ) (t : OrderedTree) → child f i ≡ Some t → nodes (removed_at i f) + 1 + nodes t.below ≡ nodes f
nodes-removed_at Empty i t e = cc
nodes-removed_at (Plant node below beside) zero t e =
    let same : record { node = node; below = below } ≡ t = cc in
    let b = ap (λ (x : OrderedTree). nodes x.below) same in
    omega arith
nodes-removed_at (Plant node below beside) (suc i) t e = omega (arith, nodes-removed_at beside i t e)

-- a change that keeps the number of nodes of each tree
pub nodes-changed_same : (f : Forest) (i : ℕ) (change : OrderedTree → OrderedTree) → ((t : OrderedTree) → nodes (change t).below ≡ nodes t.below) → nodes (changed_at i change f) ≡ nodes f
nodes-changed_same Empty i change h = refl
nodes-changed_same (Plant node below beside) zero change h = omega (arith, h (record { node = node; below = below }))
nodes-changed_same (Plant node below beside) (suc i) change h = omega (arith, nodes-changed_same beside i change h)

-- a child has fewer nodes below it than the forest has
pub nodes-child : (f : Forest) (i : ℕ) (t : OrderedTree) → child f i ≡ Some t → nodes t.below < nodes f
nodes-child f i t e = omega (arith, nodes-removed_at f i t e)

-- what a list lends at an index is its element there
pub got : (ts : List OrderedTree) (i : ℕ) (t : OrderedTree) → (i < length ts) × ((d : OrderedTree) → t ≡ get_or ts i d) → slice_get ts i ≡ Some t
got ts i t h = slice_get_read ts (length ts) i t refl h.0 (h.1 t)

-- the same tree in its place leaves the list
pub set_same : (ts : List OrderedTree) (i : ℕ) (t : OrderedTree) → slice_get ts i ≡ Some t → slice_set ts i t ≡ ts
set_same [] i t e = cc
set_same (x ∷ ts) zero t e = let same : x ≡ t = cc in rw same refl
set_same (x ∷ ts) (suc i) t e = ap (λ r. x ∷ r) (set_same ts i t e)
