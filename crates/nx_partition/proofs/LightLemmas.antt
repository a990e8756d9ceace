-- Where a node of a child is too heavy, one of the tree is.
use Rattle.std.proofs.Common.{◌≡◌, ℕ, zero, suc, ◌<◌, List, [], ◌∷◌, length, take, drop, Some, refl, sym, ◌∙◌, subst, get_or}
use Rattle.std.specs.Prelude.{Result, Ok, Err, IfErr}
use Rattle.std.proofs.lemmas.Option.{slice_get_read}
use Rattle.nx_tree.specs.Forest.{OrderedTree, Forest, Empty, Plant, forest_of}
use Rattle.nx_tree.specs.Edit.{child}
use Rattle.nx_tree.proofs.PlaceLemmas.{child-forest_of}
use Rattle.nx_weights.specs.Weight.{AreAtMost, IsAtMost}
use Rattle.nx_partition.specs.declared.error.BoundError.{BoundError}
use Rattle.nx_partition.specs.declared.error.BoundError.TheVariants as bound
use Rattle.nx_partition.specs.Bounding.{IsBoundRefused, AreBoundsRefused}

light_child : (k : ℕ) (f : Forest) (i : ℕ) (t : OrderedTree) → child f i ≡ Some t → AreAtMost k f → IsAtMost k t
light_child k Empty i t e light = absurd (cc)
light_child k (Plant n b s) zero t e light =
    let same : record { node = n; below = b } ≡ t = cc in
    subst (IsAtMost k) same (light.0, light.1)
light_child k (Plant n b s) (suc i) t e light = light_child k s i t e light.2

-- why the tree at an index is refused is why all are
pub item_refused : (k : ℕ) (ts : List OrderedTree) (i : ℕ) (t : OrderedTree) (error : BoundError)
    → i < length ts → t ≡ get_or ts i t → IsBoundRefused k t error → AreBoundsRefused k (forest_of ts) error
item_refused k ts i t bound.TooHeavy within is refused = λ light.
    refused (light_child k (forest_of ts) i t (child-forest_of ts i ∙ slice_get_read ts (length ts) i t refl within is) light)
item_refused k ts i t bound.Memory within is refused = tt

-- why its children are refused is why the tree is
pub children_refused : (k : ℕ) (tree : OrderedTree) (ts : List OrderedTree) (error : BoundError)
    → forest_of ts ≡ tree.below → AreBoundsRefused k (forest_of ts) error → IsBoundRefused k tree error
children_refused k tree ts bound.TooHeavy e refused = λ light. refused (subst (AreAtMost k) (sym e) light.1)
children_refused k tree ts bound.Memory e refused = tt

pub child_refused : (k : ℕ) (tree : OrderedTree) (ts : List OrderedTree) (i : ℕ) (t : OrderedTree) (error : BoundError)
    → forest_of ts ≡ tree.below → i < length ts → t ≡ get_or ts i t → IsBoundRefused k t error → IsBoundRefused k tree error
child_refused k tree ts i t error e within is refused = children_refused k tree ts error e (item_refused k ts i t error within is refused)

light_take : (k n : ℕ) (ts : List OrderedTree) → AreAtMost k (forest_of ts) → AreAtMost k (forest_of (take n ts))
light_take k zero ts light = tt
light_take k (suc n) [] light = tt
light_take k (suc n) (t ∷ ts) light = (light.0, light.1, light_take k n ts light.2)

light_drop : (k n : ℕ) (ts : List OrderedTree) → AreAtMost k (forest_of ts) → AreAtMost k (forest_of (drop n ts))
light_drop k zero ts light = light
light_drop k (suc n) [] light = tt
light_drop k (suc n) (t ∷ ts) light = light_drop k n ts light.2

-- why some first trees are refused is why all are, and why those behind them are
pub front_refused : (k n : ℕ) (ts : List OrderedTree) (error : BoundError) → AreBoundsRefused k (forest_of (take n ts)) error → AreBoundsRefused k (forest_of ts) error
front_refused k n ts bound.TooHeavy refused = λ light. refused (light_take k n ts light)
front_refused k n ts bound.Memory refused = tt

pub back_refused : (k n : ℕ) (ts : List OrderedTree) (error : BoundError) → AreBoundsRefused k (forest_of (drop n ts)) error → AreBoundsRefused k (forest_of ts) error
back_refused k n ts bound.TooHeavy refused = λ light. refused (light_drop k n ts light)
back_refused k n ts bound.Memory refused = tt

-- the same of a result, where the row stands for these trees
pub front_refused_by : {T : Type 0} (k n : ℕ) (ts row : List OrderedTree) (r : Result T BoundError) → row ≡ take n ts
    → IfErr r (λ e. AreBoundsRefused k (forest_of row) e) → IfErr r (λ e. AreBoundsRefused k (forest_of ts) e)
front_refused_by k n ts row (Ok x) same refused = tt
front_refused_by k n ts row (Err e) same refused = front_refused k n ts e (subst (λ (row : List OrderedTree). AreBoundsRefused k (forest_of row) e) same refused)

pub back_refused_by : {T : Type 0} (k n : ℕ) (ts row : List OrderedTree) (r : Result T BoundError) → row ≡ drop n ts
    → IfErr r (λ e. AreBoundsRefused k (forest_of row) e) → IfErr r (λ e. AreBoundsRefused k (forest_of ts) e)
back_refused_by k n ts row (Ok x) same refused = tt
back_refused_by k n ts row (Err e) same refused = back_refused k n ts e (subst (λ (row : List OrderedTree). AreBoundsRefused k (forest_of row) e) same refused)

-- an error that is handed on is the same one
pub refusal_passed : {T : Type 0} (P : BoundError → Type 0) (r : Result T BoundError) (error : BoundError)
    → ((y : BoundError) × (r ≡ Err y) × (y ≡ error)) → P error → IfErr r P
refusal_passed P r error passed refused = subst (λ (x : Result _ BoundError). IfErr x P) (sym passed.1) (subst P (sym passed.2) refused)
