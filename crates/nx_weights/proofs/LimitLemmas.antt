-- Documents and the trees in them are within the limits.
use Rattle.std.proofs.Common.{◌≡◌, ℕ, zero, suc, ◌<◌, ◌≤◌, List, [], ◌∷◌, length, Option, None, Some, refl, sym, ap, ◌∙◌, subst, arith, get_or}
use Rattle.std.specs.Option.{option_and_then}
use Rattle.std.proofs.lemmas.Option.{slice_get_read}
use Rattle.nx_tree.specs.Forest.{OrderedTree, Forest, Empty, Plant, forest_of, nodes}
use Rattle.nx_tree.specs.Document.{IsDocument, IsForest}
use Rattle.nx_tree.specs.Edit.{child, at}
use Rattle.nx_tree.proofs.PlaceLemmas.{child-forest_of, nodes-child}
use Rattle.nx_tree.proofs.SoundLemmas.{depth_child}
use Rattle.nx_weights.specs.Weight.{IsShort, AreShort, IsWithinLimits}

pub forest_short : (f : Forest) → IsForest f → AreShort f
forest_short Empty h = tt
forest_short (Plant node below beside) h = (h.0.short, forest_short below h.2, forest_short beside h.3)

pub document_within : (t : OrderedTree) → IsDocument t → IsWithinLimits t
document_within t h = record {
  short = let n = ap length h.unnamed in let c = ap length h.bare in omega arith;
  all_short = forest_short t.below h.forest;
  few = h.small;
  shallow = h.shallow;
}

child_short : (f : Forest) (i : ℕ) (t : OrderedTree) → child f i ≡ Some t → AreShort f → IsShort t.node × AreShort t.below
child_short Empty i t e h = absurd (cc)
child_short (Plant n b s) zero t e h =
    let same : record { node = n; below = b } ≡ t = cc in
    subst (λ (x : OrderedTree). IsShort x.node × AreShort x.below) same (h.0, h.1)
child_short (Plant n b s) (suc i) t e h = child_short s i t e h.2

pub child_within : (tree : OrderedTree) (i : ℕ) (t : OrderedTree) → child tree.below i ≡ Some t → IsWithinLimits tree → IsWithinLimits t
child_within tree i t e h =
    let short = child_short tree.below i t e h.all_short in
    let n = nodes-child tree.below i t e in
    let d = depth_child tree.below i t e in
    record { short = short.0; all_short = short.1; few = omega arith; shallow = omega arith }

at_step : (path : List ℕ) (c : Option OrderedTree) (t : OrderedTree) → option_and_then (λ (x : OrderedTree). at x path) c ≡ Some t → (x : OrderedTree) × (c ≡ Some x) × (at x path ≡ Some t)
at_step path None t e = absurd (cc)
at_step path (Some x) t e = (x, refl, e)

-- so is the tree at the end of a path
pub at_within : (path : List ℕ) (tree t : OrderedTree) → at tree path ≡ Some t → IsWithinLimits tree → IsWithinLimits t
at_within [] tree t e h = let same : tree ≡ t = cc in subst IsWithinLimits same h
at_within (i ∷ path) tree t e h =
    let next = at_step path (child tree.below i) t e in
    at_within path next.0 t next.2 (child_within tree i next.0 next.1 h)

-- the tree at an index of the children
pub item_within : (tree : OrderedTree) (ts : List OrderedTree) (i : ℕ) (t : OrderedTree) → forest_of ts ≡ tree.below → i < length ts → t ≡ get_or ts i t → IsWithinLimits tree → IsWithinLimits t
item_within tree ts i t e within is h =
    child_within tree i t (ap (λ (f : Forest). child f i) (sym e) ∙ child-forest_of ts i ∙ slice_get_read ts (length ts) i t refl within is) h

-- fewer children than nodes
pub length_nodes : (ts : List OrderedTree) → length ts ≤ nodes (forest_of ts)
length_nodes [] = omega arith
length_nodes (t ∷ ts) = omega (arith, length_nodes ts)

-- a position among the children is small
pub position_most : (tree : OrderedTree) (ts : List OrderedTree) (i : ℕ) → forest_of ts ≡ tree.below → i < length ts → IsWithinLimits tree → i < 524288
position_most tree ts i e within h = let n = ap nodes e in let few = h.few in omega (arith, length_nodes ts)
