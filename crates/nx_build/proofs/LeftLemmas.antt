-- Trees that are left of others.
use Rattle.std.proofs.Common.{◌≡◌, ℕ, zero, suc, ◌+◌, ◌-◌, ◌≤◌, ◌<◌, List, [], ◌∷◌, length, take, drop, length-drop, refl, sym, ap, ◌∙◌, subst, arith}
use Rattle.std.proofs.lemmas.List.{drop-drop}
use Rattle.nx_tree.specs.Forest.{OrderedTree, forest_of, nodes}
use Rattle.nx_tree.specs.Document.{depth}
use Rattle.nx_weights.specs.Weight.{IsShort, AreShort}

nodes-drop : (n : ℕ) (ts : List OrderedTree) → nodes (forest_of (drop n ts)) ≤ nodes (forest_of ts)
nodes-drop zero ts = omega arith
nodes-drop (suc n) [] = omega arith
nodes-drop (suc n) (t ∷ ts) = omega (arith, nodes-drop n ts)

depth-drop : (n : ℕ) (ts : List OrderedTree) → depth (forest_of (drop n ts)) ≤ depth (forest_of ts)
depth-drop zero ts = omega arith
depth-drop (suc n) [] = omega arith
depth-drop (suc n) (t ∷ ts) = omega (arith, depth-drop n ts)

nodes-take : (n : ℕ) (ts : List OrderedTree) → nodes (forest_of (take n ts)) ≤ nodes (forest_of ts)
nodes-take zero ts = omega arith
nodes-take (suc n) [] = omega arith
nodes-take (suc n) (t ∷ ts) = omega (arith, nodes-take n ts)

short-drop : (n : ℕ) (ts : List OrderedTree) → AreShort (forest_of ts) → AreShort (forest_of (drop n ts))
short-drop zero ts short = short
short-drop (suc n) [] short = short
short-drop (suc n) (t ∷ ts) short = short-drop n ts short.2

-- the first trees have few nodes where all have
pub first_few : (n : ℕ) (trees : List OrderedTree) → nodes (forest_of trees) ≤ 524288 → nodes (forest_of (take n trees)) ≤ 524288
first_few n trees few = omega (arith, few, nodes-take n trees)

-- the trees that are left from a position on
module _ (trees left : List OrderedTree) (position : ℕ) (are : left ≡ drop position trees) where
  left_nodes : nodes (forest_of left) ≡ nodes (forest_of (drop position trees))
  left_nodes = ap (λ (l : List OrderedTree). nodes (forest_of l)) are

  left_depth : depth (forest_of left) ≡ depth (forest_of (drop position trees))
  left_depth = ap (λ (l : List OrderedTree). depth (forest_of l)) are

  left_length : length left ≡ length trees - position
  left_length = ap length are ∙ length-drop position trees

  pub many_left : position < length trees → length trees ≡ position + length left
  many_left low = omega (arith, low, left_length)

  pub few_left : nodes (forest_of trees) ≤ 524288 → nodes (forest_of left) ≤ 524288
  few_left few = omega (arith, few, left_nodes, nodes-drop position trees)

  pub short_left : AreShort (forest_of trees) → AreShort (forest_of left)
  short_left short = subst (λ (l : List OrderedTree). AreShort (forest_of l)) (sym are) (short-drop position trees short)

  pub depth_left : depth (forest_of left) ≤ depth (forest_of trees)
  depth_left = omega (arith, left_depth, depth-drop position trees)

  pub none_left : length trees ≤ position → left ≡ []
  none_left most = no_tree left (omega (arith, most, left_length))
    where
      no_tree : (ts : List OrderedTree) → length ts ≤ 0 → ts ≡ []
      no_tree [] none = refl
      no_tree (t ∷ ts) none = absurd (omega (arith, none))

  -- behind the first of them
  module _ (t : OrderedTree) (others : List OrderedTree) (next : left ≡ t ∷ others) where
    pub next_left : others ≡ drop (position + 1) trees
    next_left = ap (drop 1) (sym next) ∙ ap (drop 1) are ∙ drop-drop 1 position trees

    -- counted from the first of the trees
    pub member_left : (place first : ℕ) → first ≤ place → position ≡ place - first → others ≡ drop (place + 1 - first) trees
    member_left place first low is = next_left ∙ ap (λ (n : ℕ). drop n trees) (let e : position + 1 ≡ place + 1 - first = omega (arith, low, is) in e)

    pub next_few : nodes (forest_of trees) ≤ 524288 → nodes t.below ≤ 524288
    next_few few =
        let first : nodes (forest_of left) ≡ 1 + nodes t.below + nodes (forest_of others) = ap (λ (l : List OrderedTree). nodes (forest_of l)) next in
        omega (arith, few, first, left_nodes, nodes-drop position trees)

    pub next_short : AreShort (forest_of trees) → IsShort t.node × AreShort t.below
    next_short short = let all = subst (λ (l : List OrderedTree). AreShort (forest_of l)) next (short_left short) in (all.0, all.1)

    pub next_depth : 1 + depth t.below ≤ depth (forest_of trees)
    next_depth =
        let first = ap (λ (l : List OrderedTree). depth (forest_of l)) next in
        omega (arith, first, left_depth, depth-drop position trees)

  -- behind the first ones, up to an end
  pub behind_left : (others : List OrderedTree) (end : ℕ) → position ≤ end → others ≡ drop (end - position) left → others ≡ drop end trees
  behind_left others end le behind =
      behind ∙ ap (drop (end - position)) are ∙ drop-drop (end - position) position trees ∙ ap (λ (n : ℕ). drop n trees) (let e : position + (end - position) ≡ end = omega (arith, le) in e)

-- the first of the trees up to an end
pub take_next : (left others : List OrderedTree) (t : OrderedTree) (position end : ℕ) → position < end → left ≡ t ∷ others → take (end - position) left ≡ t ∷ take (end - (position + 1)) others
take_next left others t position end low next =
    ap (take (end - position)) next ∙ ap (λ (n : ℕ). take n (t ∷ others)) (let e : end - position ≡ suc (end - (position + 1)) = omega (arith, low) in e)

pub take_none : (left : List OrderedTree) (position end : ℕ) → end ≤ position → take (end - position) left ≡ []
take_none left position end most = ap (λ (n : ℕ). take n left) (let e : end - position ≡ 0 = omega (arith, most) in e)
