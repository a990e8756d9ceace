-- A plan of which nothing but want of memory can be said is sound.
use Rattle.std.proofs.Common.{◌≡◌, ◌≢◌, ℕ, zero, suc, ◌+◌, ◌<◌, ◌≤◌, Bool, true, false, List, [], ◌∷◌, length, get_or, Some, refl, ⊎_elim, ◌⊎◌, inl, inr, arith}
use Rattle.std.specs.Prelude.{slice_get, IsTrue, Contains, All, AllPairs}
use Rattle.std.specs.List.{AllByRecursion}
use Rattle.std.proofs.lemmas.Bool.{cases_lt, cases_order}
use Rattle.std.proofs.lemmas.Option.{slice_get-get_or}
use Rattle.nx_tree.specs.Forest.{OrderedTree, nodes}
use Rattle.nx_parts.specs.declared.bounds.Bound.{Bound}
use Rattle.nx_parts.specs.declared.interval.Interval.{Interval}
use Rattle.nx_parts.specs.declared.interval.Interval.TheVariants.{Root, Run}
use Rattle.nx_parts.specs.declared.plan.Plan.{Plan}
use Rattle.nx_parts.specs.declared.error.PartsError.{PartsError}
use Rattle.nx_parts.specs.declared.error.PartsError.TheVariants as parts_error
use Rattle.nx_parts.specs.Partitioning.{is_in_tree, ShareMember, IsPartitioning, IsFeasible, owned_weight}
use Rattle.nx_parts.specs.Refusal.{IsFirst, IsOutOfTree, Overlaps, IsHeavy, IsNotFeasible}
use Rattle.nx_choices.specs.declared.child.Field.{Field}
use Rattle.nx_choices.specs.declared.child.Field.TheVariants.{Least, Lean, Nearly}
use Rattle.nx_bounds.specs.declared.error.BoundsError.{BoundsError}
use Rattle.nx_bounds.specs.declared.error.BoundsError.TheVariants.{Parts, WrongWeight, Length, Unsupported, Count, Memory}
use Rattle.nx_choices.specs.Choice.{Cell, IsAdmitted}
use Rattle.nx_choices.specs.Claim.{Claimed, claim, value, SpeaksOf, IsFieldSupported, IsSupported, IsExceeded, AreSupportedBefore}
use Rattle.nx_bounds.specs.Claim.{claimed, AreSupported}
use Rattle.nx_bounds.specs.Refusal.{IsUnsupported, IsNotCertified, IsWrong, root_least}
use Rattle.nx_bounds.specs.Verdict.{HasVerdict}

-- Where there is no first number with a property, there is none.
none_below : (P : ℕ → Type 0) → ((i : ℕ) → IsFirst P i → ⊥) → (n i : ℕ) → i < n → P i → ⊥
none_below P none zero i lt p = absurd (omega arith)
none_below P none (suc n) i lt p = none i (record { holds = p; before = λ j less q. none_below P none n j (omega arith) q })

none_at_all : (P : ℕ → Type 0) → ((i : ℕ) → IsFirst P i → ⊥) → (i : ℕ) → ¬ P i
none_at_all P none i p = none_below P none (suc i) i (omega arith) p

-- nothing but want of memory can be said
abbrev Unrefused : ℕ → OrderedTree → Plan → Type 0
Unrefused k tree plan = (error : BoundsError) → IsNotCertified k tree plan error → error ≡ Memory

abbrev PartsUnrefused : ℕ → OrderedTree → List Interval → Type 0
PartsUnrefused k tree parts = (error : PartsError) → error ≢ parts_error.Memory → IsNotFeasible k tree parts error → ⊥

parts_unrefused : (k : ℕ) (tree : OrderedTree) (plan : Plan) → Unrefused k tree plan → PartsUnrefused k tree plan.parts
parts_unrefused k tree plan u error n h = absurd (let e : Parts error ≡ Memory = u (Parts error) (n, h) in cc)

true_unless : (b : Bool) → (¬ IsTrue b → ⊥) → IsTrue b
true_unless true h = refl
true_unless false h = absurd (h (λ t. let e : false ≡ true = t in cc))

inside : (tree : OrderedTree) (parts : List Interval) → ((i : ℕ) → ¬ IsOutOfTree tree parts i) → All (λ (interval : Interval). IsTrue (is_in_tree tree interval)) parts
inside tree parts n = λ i d within. true_unless (is_in_tree tree (get_or parts i d)) (λ out. n i (get_or parts i d, slice_get-get_or parts i d within, out))

apart : (parts : List Interval) → ((i : ℕ) → ¬ Overlaps parts i) → AllPairs (λ (a b : Interval). ¬ ShareMember a b) parts
apart parts n = λ i j d lt within s.
    n j (get_or parts j d, i, get_or parts i d, slice_get-get_or parts j d within, lt, slice_get-get_or parts i d (omega arith), (s.0, s.2, s.1))

root_behind : (p : List ℕ) (f l : ℕ) (parts : List Interval) (i : ℕ) → i < suc (length parts) → get_or (Run p f l ∷ parts) i Root ≡ Root → Contains parts Root
root_behind p f l parts zero lt e = absurd (let same : Run p f l ≡ Root = e in cc)
root_behind p f l parts (suc i) lt e = (i, omega arith, e)

root_cases : (parts : List Interval) → Contains parts Root ⊎ (¬ Contains parts Root)
root_cases [] = inr (λ c. absurd (let lt : c.0 < 0 = c.1 in omega arith))
root_cases (Root ∷ parts) = inl (zero, omega arith, refl)
root_cases (Run p f l ∷ parts) =
    ⊎_elim (λ (c : Contains parts Root). inl (suc c.0, (let lt : c.0 < length parts = c.1 in omega arith), c.2))
    (λ (n : ¬ Contains parts Root). inr (λ c. n (root_behind p f l parts c.0 c.1 c.2)))
    (root_cases parts)

rooted : (parts : List Interval) → ((¬ Contains parts Root) → ⊥) → Contains parts Root
rooted parts h = ⊎_elim (λ (c : Contains parts Root). c) (λ (n : ¬ Contains parts Root). absurd (h n)) (root_cases parts)

le_unless : (a b : ℕ) → (b < a → ⊥) → a ≤ b
le_unless a b h = ⊎_elim (λ (lt : b < a). absurd (h lt)) (λ (le : a ≤ b). le) (cases_lt b a)

eq_unless : (a b : ℕ) → (a ≢ b → ⊥) → a ≡ b
eq_unless a b h =
    ⊎_elim (λ (e : a ≡ b). e) (λ (o : (a < b) ⊎ (b < a)). absurd (h (λ e. ⊎_elim (λ (lt : a < b). omega (arith, e)) (λ (gt : b < a). omega (arith, e)) o))) (cases_order a b)

-- The intervals are a feasible partitioning.
feasible : (k : ℕ) (tree : OrderedTree) (parts : List Interval) → PartsUnrefused k tree parts → IsFeasible k tree parts
feasible k tree parts u =
    let outside : (i : ℕ) → ¬ IsOutOfTree tree parts i = none_at_all (IsOutOfTree tree parts) (λ i f. u (parts_error.OutOfTree i) (λ e. cc) f) in
    let overlap : (i : ℕ) → ¬ Overlaps parts i = none_at_all (Overlaps parts) (λ i f. u (parts_error.Overlap i) (λ e. cc) (outside, f)) in
    let root : Contains parts Root = rooted parts (λ n. u parts_error.NoRoot (λ e. cc) (outside, overlap, n)) in
    let partitioning : IsPartitioning tree parts = record { inside = inside tree parts outside; disjoint = apart parts overlap; rooted = root } in
    let heavy : (i : ℕ) → ¬ IsHeavy k tree parts i =
    none_at_all (IsHeavy k tree parts) (λ i f. u (parts_error.Heavy i (owned_weight tree parts i)) (λ e. cc) (partitioning, f, refl)) in
    record {
      partitioning = partitioning;
      light = λ i within. le_unless (owned_weight tree parts i) k (λ more. heavy i (within, more));
    }

-- The least that a choice gives of which the number speaks isn't less than the number, where it could be told.
no_less : (k : ℕ) (field : Field) (node : Claimed) → ((found : ℕ) → IsExceeded k field node found → ⊥) → (n : ℕ) (cells : List Cell) → value field node.own cells < n
    → IsAdmitted k node.own node.children cells → SpeaksOf field node.bound cells → value field node.own cells < claim field node.bound → ⊥
no_less k field node none zero cells lt a s m = absurd (omega arith)
no_less k field node none (suc n) cells lt a s m =
    none (value field node.own cells) (record {
      cells = cells;
      admitted = a;
      speaks = s;
      given = refl;
      least = λ others b t. le_unless (value field node.own cells) (value field node.own others) (λ less. no_less k field node none n others (omega arith) b t (omega arith));
      more = m;
    })

field_supported : (k : ℕ) (field : Field) (node : Claimed) → ((found : ℕ) → IsExceeded k field node found → ⊥) → IsFieldSupported k field node
field_supported k field node none = λ cells a s.
    le_unless (claim field node.bound) (value field node.own cells) (λ m. no_less k field node none (suc (value field node.own cells)) cells (omega arith) a s m)

node_supported : (k : ℕ) (node : Claimed) → ((field : Field) (found : ℕ) → AreSupportedBefore k field node → IsExceeded k field node found → ⊥) → IsSupported k node
node_supported k node none =
    let least : IsFieldSupported k Least node = field_supported k Least node (λ found x. none Least found tt x) in
    let lean : IsFieldSupported k Lean node = field_supported k Lean node (λ found x. none Lean found least x) in
    let nearly : IsFieldSupported k Nearly node = field_supported k Nearly node (λ found x. none Nearly found (least, lean) x) in
    record { least = least; lean = lean; nearly = nearly }

-- no number of a bound can be told
abbrev BoundsUnrefused : ℕ → OrderedTree → List Bound → Type 0
BoundsUnrefused k tree bounds = (place : ℕ) (field : Field) (number found : ℕ) → IsUnsupported k tree bounds place field number found → ⊥

supported_below : (k : ℕ) (tree : OrderedTree) (bounds : List Bound) → length bounds ≡ 1 + nodes tree.below → BoundsUnrefused k tree bounds
    → (n place : ℕ) (node : Claimed) → place < n → slice_get (claimed k tree bounds) place ≡ Some node → IsSupported k node
supported_below k tree bounds one u zero place node lt there = absurd (omega arith)
supported_below k tree bounds one u (suc n) place node lt there =
    node_supported k node (λ field found before x. u place field (claim field node.bound) found (record {
      one_each = one;
      node = node;
      there = there;
      before = λ earlier other less at. supported_below k tree bounds one u n earlier other (omega arith) at;
      fields_before = before;
      is_claimed = refl;
      exceeded = x;
    }))

all_from : (k : ℕ) (claims : List Claimed) → ((place : ℕ) (node : Claimed) → slice_get claims place ≡ Some node → IsSupported k node) → AllByRecursion (IsSupported k) claims
all_from k [] h = tt
all_from k (c ∷ claims) h = (h zero c refl, all_from k claims (λ place node e. h (suc place) node e))

supported : (k : ℕ) (tree : OrderedTree) (bounds : List Bound) → length bounds ≡ 1 + nodes tree.below → BoundsUnrefused k tree bounds → AreSupported k tree bounds
supported k tree bounds one u = record {
  one_each = one;
  each = all_from k (claimed k tree bounds) (λ place node e. supported_below k tree bounds one u (suc place) place node (omega arith) e);
}

-- A plan of which nothing but want of memory can be said is sound.
pub every : HasVerdict
every k tree plan u =
    let feasible : IsFeasible k tree plan.parts = feasible k tree plan.parts (parts_unrefused k tree plan u) in
    let wrong : (i : ℕ) → ¬ IsWrong tree plan i =
    none_at_all (IsWrong tree plan) (λ i f.
    let e : WrongWeight i (get_or plan.weights i 0) (owned_weight tree plan.parts i) ≡ Memory =
    u (WrongWeight i (get_or plan.weights i 0) (owned_weight tree plan.parts i)) (feasible, f, refl, refl) in
    cc) in
    let one : length plan.bounds ≡ 1 + nodes tree.below =
    eq_unless (length plan.bounds) (1 + nodes tree.below) (λ other.
    let e : Length (length plan.bounds) (1 + nodes tree.below) ≡ Memory = u (Length (length plan.bounds) (1 + nodes tree.below)) (feasible, wrong, (other, refl, refl)) in
    cc) in
    let supported : AreSupported k tree plan.bounds =
    supported k tree plan.bounds one (λ place field number found x.
    let e : Unsupported place field number found ≡ Memory = u (Unsupported place field number found) (feasible, wrong, x) in
    cc) in
    record {
      feasible = feasible;
      weights = λ i within. eq_unless (get_or plan.weights i 0) (owned_weight tree plan.parts i) (λ other. wrong i (within, other));
      supported = supported;
      enough = le_unless (length plan.parts) (root_least plan.bounds) (λ more.
          let e : Count (length plan.parts) (root_least plan.bounds) ≡ Memory = u (Count (length plan.parts) (root_least plan.bounds)) (feasible, wrong, supported, more, refl, refl) in
          cc);
    }
