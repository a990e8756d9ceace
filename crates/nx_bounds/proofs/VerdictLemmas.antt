-- The verdicts on a plan exclude one another.
use Rattle.std.proofs.Common.{◌≡◌, ◌≢◌, ℕ, zero, suc, ◌+◌, ◌<◌, ◌≤◌, List, [], ◌∷◌, length, get_or, Some, refl, sym, ap, ◌∙◌, subst, ⊎_elim, ◌⊎◌, arith}
use Rattle.std.specs.Prelude.{slice_get, IsTrue}
use Rattle.std.specs.List.{AllByRecursion}
use Rattle.std.proofs.lemmas.Bool.{cases_order}
use Rattle.std.proofs.lemmas.Option.{slice_get_within, get_or_from_slice_get}
use Rattle.nx_tree.specs.Forest.{OrderedTree, nodes}
use Rattle.nx_parts.specs.declared.interval.Interval.{Interval}
use Rattle.nx_parts.specs.declared.interval.Interval.TheVariants.{Root}
use Rattle.nx_parts.specs.declared.bounds.Bound.{Bound}
use Rattle.nx_parts.specs.declared.plan.Plan.{Plan}
use Rattle.nx_parts.specs.declared.error.PartsError.{PartsError}
use Rattle.nx_parts.specs.declared.error.PartsError.TheVariants as parts_error
use Rattle.nx_parts.specs.Partitioning.{is_in_tree, ShareMember, IsPartitioning, IsFeasible, owned_weight}
use Rattle.nx_parts.specs.Refusal.{IsFirst, IsOutOfTree, Overlaps, IsHeavy, IsNotFeasible}
use Rattle.nx_choices.specs.declared.child.Field.{Field}
use Rattle.nx_choices.specs.declared.child.Field.TheVariants.{Least, Lean, Nearly}
use Rattle.nx_bounds.specs.declared.error.BoundsError.TheVariants.{Parts, WrongWeight, Length, Unsupported, Count, BadPlanLine, Memory}
use Rattle.nx_choices.specs.Claim.{Claimed, claim, value, IsFieldSupported, IsSupported, IsExceeded, AreSupportedBefore}
use Rattle.nx_bounds.specs.Claim.{claimed, AreSupported}
use Rattle.nx_bounds.specs.Refusal.{IsUnsupported, IsNotSupported, IsWrong, root_least}
use Rattle.nx_bounds.specs.Verdict.{IsSparedRefusals, HasOneRefusal}

-- There is one first number.
first_one : (P : ℕ → Type 0) (a b : ℕ) → IsFirst P a → IsFirst P b → a ≡ b
first_one P a b f g =
    ⊎_elim (λ (e : a ≡ b). e)
    (λ (o : (a < b) ⊎ (b < a)). ⊎_elim (λ (lt : a < b). absurd (g.before a lt f.holds)) (λ (gt : b < a). absurd (f.before b gt g.holds)) o)
    (cases_order a b)

-- A partitioning has no refusal.
no_outside : (tree : OrderedTree) (parts : List Interval) (index : ℕ) → IsPartitioning tree parts → IsOutOfTree tree parts index → ⊥
no_outside tree parts index p out =
    let within = slice_get_within parts index out.0 out.1 in
    let e = get_or_from_slice_get parts index out.0 Root out.1 in
    out.2 (subst (λ (i : Interval). IsTrue (is_in_tree tree i)) e (p.inside index Root within))

no_overlap : (tree : OrderedTree) (parts : List Interval) (index : ℕ) → IsPartitioning tree parts → Overlaps parts index → ⊥
no_overlap tree parts index p o =
    let interval : Interval = o.0 in
    let earlier : ℕ = o.1 in
    let other : Interval = o.2 in
    let within = slice_get_within parts index interval o.3 in
    let e : get_or parts index Root ≡ interval = get_or_from_slice_get parts index interval Root o.3 in
    let d : get_or parts earlier Root ≡ other = get_or_from_slice_get parts earlier other Root o.5 in
    let apart : ¬ ShareMember other interval =
    subst (λ (i : Interval). ¬ ShareMember other i) e (subst (λ (i : Interval). ¬ ShareMember i (get_or parts index Root)) d (p.disjoint earlier index Root o.4 within)) in
    apart (o.6.0, o.6.2, o.6.1)

no_heavy : (k : ℕ) (tree : OrderedTree) (parts : List Interval) (index : ℕ) → IsFeasible k tree parts → IsHeavy k tree parts index → ⊥
no_heavy k tree parts index f h = let l : owned_weight tree parts index ≤ k = f.light index h.0 in let more : k < owned_weight tree parts index = h.1 in omega arith

feasible_spared : (k : ℕ) (tree : OrderedTree) (parts : List Interval) (error : PartsError) → IsFeasible k tree parts → error ≢ parts_error.Memory → IsNotFeasible k tree parts error → ⊥
feasible_spared k tree parts (parts_error.OutOfTree index) f n h = no_outside tree parts index f.partitioning h.holds
feasible_spared k tree parts (parts_error.Overlap index) f n h = no_overlap tree parts index f.partitioning h.1.holds
feasible_spared k tree parts parts_error.NoRoot f n h = h.2 f.partitioning.rooted
feasible_spared k tree parts (parts_error.Heavy index slots) f n h = no_heavy k tree parts index f h.1.holds
feasible_spared k tree parts parts_error.Memory f n h = n refl

-- A list of intervals has one refusal.
parts_one : (k : ℕ) (tree : OrderedTree) (parts : List Interval) (a b : PartsError) → a ≢ parts_error.Memory → b ≢ parts_error.Memory → IsNotFeasible k tree parts a → IsNotFeasible k tree parts b → a ≡ b
parts_one k tree parts parts_error.Memory b n m g h = absurd (n refl)
parts_one k tree parts (parts_error.OutOfTree i) (parts_error.OutOfTree j) n m g h = ap parts_error.OutOfTree (first_one (IsOutOfTree tree parts) i j g h)
parts_one k tree parts (parts_error.OutOfTree i) (parts_error.Overlap j) n m g h = absurd (h.0 i g.holds)
parts_one k tree parts (parts_error.OutOfTree i) parts_error.NoRoot n m g h = absurd (h.0 i g.holds)
parts_one k tree parts (parts_error.OutOfTree i) (parts_error.Heavy j slots) n m g h = absurd (no_outside tree parts i h.0 g.holds)
parts_one k tree parts (parts_error.OutOfTree i) parts_error.Memory n m g h = absurd (m refl)
parts_one k tree parts (parts_error.Overlap i) (parts_error.OutOfTree j) n m g h = absurd (g.0 j h.holds)
parts_one k tree parts (parts_error.Overlap i) (parts_error.Overlap j) n m g h = ap parts_error.Overlap (first_one (Overlaps parts) i j g.1 h.1)
parts_one k tree parts (parts_error.Overlap i) parts_error.NoRoot n m g h = absurd (h.1 i g.1.holds)
parts_one k tree parts (parts_error.Overlap i) (parts_error.Heavy j slots) n m g h = absurd (no_overlap tree parts i h.0 g.1.holds)
parts_one k tree parts (parts_error.Overlap i) parts_error.Memory n m g h = absurd (m refl)
parts_one k tree parts parts_error.NoRoot (parts_error.OutOfTree j) n m g h = absurd (g.0 j h.holds)
parts_one k tree parts parts_error.NoRoot (parts_error.Overlap j) n m g h = absurd (g.1 j h.1.holds)
parts_one k tree parts parts_error.NoRoot parts_error.NoRoot n m g h = refl
parts_one k tree parts parts_error.NoRoot (parts_error.Heavy j slots) n m g h = absurd (g.2 h.0.rooted)
parts_one k tree parts parts_error.NoRoot parts_error.Memory n m g h = absurd (m refl)
parts_one k tree parts (parts_error.Heavy i slots) (parts_error.OutOfTree j) n m g h = absurd (no_outside tree parts j g.0 h.holds)
parts_one k tree parts (parts_error.Heavy i slots) (parts_error.Overlap j) n m g h = absurd (no_overlap tree parts j g.0 h.1.holds)
parts_one k tree parts (parts_error.Heavy i slots) parts_error.NoRoot n m g h = absurd (h.2 g.0.rooted)
parts_one k tree parts (parts_error.Heavy i slots) (parts_error.Heavy j others) n m g h =
    let e : i ≡ j = first_one (IsHeavy k tree parts) i j g.1 h.1 in
    let s : slots ≡ others = g.2 ∙ ap (owned_weight tree parts) e ∙ sym h.2 in
    ap (λ (index : ℕ). parts_error.Heavy index slots) e ∙ ap (parts_error.Heavy j) s
parts_one k tree parts (parts_error.Heavy i slots) parts_error.Memory n m g h = absurd (m refl)

-- A number that is exceeded isn't supported.
exceeded_not : (k : ℕ) (field : Field) (node : Claimed) (found : ℕ) → IsExceeded k field node found → IsFieldSupported k field node → ⊥
exceeded_not k field node found x s =
    let l : claim field node.bound ≤ value field node.own x.cells = s x.cells x.admitted x.speaks in
    let g : value field node.own x.cells ≡ found = x.given in
    let m : found < claim field node.bound = x.more in
    omega arith

field_of : (k : ℕ) (field : Field) (node : Claimed) → IsSupported k node → IsFieldSupported k field node
field_of k Least node s = s.least
field_of k Lean node s = s.lean
field_of k Nearly node s = s.nearly

found_one : (k : ℕ) (field : Field) (node : Claimed) (a b : ℕ) → IsExceeded k field node a → IsExceeded k field node b → a ≡ b
found_one k field node a b x y =
    let l : a ≤ value field node.own y.cells = x.least y.cells y.admitted y.speaks in
    let m : b ≤ value field node.own x.cells = y.least x.cells x.admitted x.speaks in
    let g : value field node.own x.cells ≡ a = x.given in
    let h : value field node.own y.cells ≡ b = y.given in
    omega arith

fields_one : (k : ℕ) (f g : Field) (node : Claimed) (a b : ℕ) → AreSupportedBefore k f node → AreSupportedBefore k g node → IsExceeded k f node a → IsExceeded k g node b → f ≡ g
fields_one k Least Least node a b p q x y = refl
fields_one k Least Lean node a b p q x y = absurd (exceeded_not k Least node a x q)
fields_one k Least Nearly node a b p q x y = absurd (exceeded_not k Least node a x q.0)
fields_one k Lean Least node a b p q x y = absurd (exceeded_not k Least node b y p)
fields_one k Lean Lean node a b p q x y = refl
fields_one k Lean Nearly node a b p q x y = absurd (exceeded_not k Lean node a x q.1)
fields_one k Nearly Least node a b p q x y = absurd (exceeded_not k Least node b y p.0)
fields_one k Nearly Lean node a b p q x y = absurd (exceeded_not k Lean node b y p.1)
fields_one k Nearly Nearly node a b p q x y = refl

-- Bounds have one refusal.
place_one : (k : ℕ) (tree : OrderedTree) (bounds : List Bound) (p q : ℕ) (f g : Field) (m n a b : ℕ) → IsUnsupported k tree bounds p f m a → IsUnsupported k tree bounds q g n b → p ≡ q
place_one k tree bounds p q f g m n a b x y =
    ⊎_elim (λ (e : p ≡ q). e)
    (λ (o : (p < q) ⊎ (q < p)). ⊎_elim
    (λ (lt : p < q). absurd (exceeded_not k f x.node a x.exceeded (field_of k f x.node (y.before p x.node lt x.there))))
    (λ (gt : q < p). absurd (exceeded_not k g y.node b y.exceeded (field_of k g y.node (x.before q y.node gt y.there)))) o)
    (cases_order p q)

some_one : (a b : Claimed) → Some a ≡ Some b → a ≡ b
some_one a b e = cc

numbers_one : (k : ℕ) (f g : Field) (node : Claimed) (m n a b : ℕ) → f ≡ g → m ≡ claim f node.bound → n ≡ claim g node.bound → IsExceeded k f node a → IsExceeded k g node b → (m ≡ n) × (a ≡ b)
numbers_one k f g node m n a b e x y p q = (
  x ∙ ap (λ (h : Field). claim h node.bound) e ∙ sym y,
  found_one k g node a b (subst (λ (h : Field). IsExceeded k h node a) e p) q,
)

same_unsupported : (p q : ℕ) (f g : Field) (m n a b : ℕ) → p ≡ q → f ≡ g → m ≡ n → a ≡ b → Unsupported p f m a ≡ Unsupported q g n b
same_unsupported p q f g m n a b d e h i =
    ap (λ (x : ℕ). Unsupported x f m a) d ∙ ap (λ (x : Field). Unsupported q x m a) e ∙ ap (λ (x : ℕ). Unsupported q g x a) h ∙ ap (λ (x : ℕ). Unsupported q g n x) i

unsupported_one : (k : ℕ) (tree : OrderedTree) (bounds : List Bound) (p q : ℕ) (f g : Field) (m n a b : ℕ) → IsUnsupported k tree bounds p f m a → IsUnsupported k tree bounds q g n b
    → Unsupported p f m a ≡ Unsupported q g n b
unsupported_one k tree bounds p q f g m n a b x y =
    let place : p ≡ q = place_one k tree bounds p q f g m n a b x y in
    let node : y.node ≡ x.node = some_one y.node x.node (sym y.there ∙ ap (slice_get (claimed k tree bounds)) (sym place) ∙ x.there) in
    let before = subst (λ (c : Claimed). AreSupportedBefore k g c) node y.fields_before in
    let exceeded = subst (λ (c : Claimed). IsExceeded k g c b) node y.exceeded in
    let field : f ≡ g = fields_one k f g x.node a b x.fields_before before x.exceeded exceeded in
    let numbers = numbers_one k f g x.node m n a b field x.is_claimed (y.is_claimed ∙ ap (λ (c : Claimed). claim g c.bound) node) x.exceeded exceeded in
    same_unsupported p q f g m n a b place field numbers.0 numbers.1

-- each of the list
all_at : (k : ℕ) (claims : List Claimed) (index : ℕ) (node : Claimed) → AllByRecursion (IsSupported k) claims → slice_get claims index ≡ Some node → IsSupported k node
all_at k [] index node h e = absurd (cc)
all_at k (c ∷ claims) zero node h e = let same : c ≡ node = cc in subst (IsSupported k) same h.0
all_at k (c ∷ claims) (suc index) node h e = all_at k claims index node h.1 e

-- Supported bounds have no refusal.
pub supported_spared : (k : ℕ) (tree : OrderedTree) (bounds : List Bound) (p : ℕ) (f : Field) (m a : ℕ) → AreSupported k tree bounds → IsUnsupported k tree bounds p f m a → ⊥
supported_spared k tree bounds p f m a s x = exceeded_not k f x.node a x.exceeded (field_of k f x.node (all_at k (claimed k tree bounds) p x.node s.each x.there))

pub length_spared : (k : ℕ) (tree : OrderedTree) (bounds : List Bound) (a b : ℕ) → length bounds ≡ 1 + nodes tree.below → IsNotSupported k tree bounds (Length a b) → ⊥
length_spared k tree bounds a b e h = h.0 e

wrong_spared : (tree : OrderedTree) (plan : Plan) (index : ℕ) → ((i : ℕ) → i < length plan.parts → get_or plan.weights i 0 ≡ owned_weight tree plan.parts i) → IsWrong tree plan index → ⊥
wrong_spared tree plan index h w = w.1 (h index w.0)

-- A sound plan has no refusal but want of memory.
pub spared : IsSparedRefusals
spared k tree plan (Parts error) c h = absurd (feasible_spared k tree plan.parts error c.feasible h.0 h.1)
spared k tree plan (WrongWeight index number found) c h = absurd (wrong_spared tree plan index c.weights h.1.holds)
spared k tree plan (Length a b) c h = absurd (length_spared k tree plan.bounds a b c.supported.one_each h.2)
spared k tree plan (Unsupported p f m a) c h = absurd (supported_spared k tree plan.bounds p f m a c.supported h.2)
spared k tree plan (Count a b) c h = absurd (let few : length plan.parts ≤ root_least plan.bounds = c.enough in let more : root_least plan.bounds < length plan.parts = h.3 in omega arith)
spared k tree plan (BadPlanLine line) c h = absurd h
spared k tree plan Memory c h = refl

wrong_one : (tree : OrderedTree) (plan : Plan) (i j m n a b : ℕ) → IsFirst (IsWrong tree plan) i → IsFirst (IsWrong tree plan) j → m ≡ get_or plan.weights i 0 → n ≡ get_or plan.weights j 0
    → a ≡ owned_weight tree plan.parts i → b ≡ owned_weight tree plan.parts j → WrongWeight i m a ≡ WrongWeight j n b
wrong_one tree plan i j m n a b f g is also found too =
    let e : i ≡ j = first_one (IsWrong tree plan) i j f g in
    let c : m ≡ n = is ∙ ap (λ (x : ℕ). get_or plan.weights x 0) e ∙ sym also in
    let d : a ≡ b = found ∙ ap (owned_weight tree plan.parts) e ∙ sym too in
    ap (λ (x : ℕ). WrongWeight x m a) e ∙ ap (λ (x : ℕ). WrongWeight j x a) c ∙ ap (λ (x : ℕ). WrongWeight j n x) d

length_one : (a b c d x y : ℕ) → a ≡ x → b ≡ y → c ≡ x → d ≡ y → Length a b ≡ Length c d
length_one a b c d x y p q r s = ap (λ (z : ℕ). Length z b) (p ∙ sym r) ∙ ap (λ (z : ℕ). Length c z) (q ∙ sym s)

count_one : (a b c d x y : ℕ) → a ≡ x → b ≡ y → c ≡ x → d ≡ y → Count a b ≡ Count c d
count_one a b c d x y p q r s = ap (λ (z : ℕ). Count z b) (p ∙ sym r) ∙ ap (λ (z : ℕ). Count c z) (q ∙ sym s)

-- A plan has one refusal beside want of memory.
pub one_refusal : HasOneRefusal
one_refusal k tree plan Memory second g h n m = absurd (n refl)
one_refusal k tree plan (BadPlanLine line) second g h n m = absurd g
one_refusal k tree plan (Parts a) (Parts b) g h n m = ap Parts (parts_one k tree plan.parts a b g.0 h.0 g.1 h.1)
one_refusal k tree plan (Parts a) (WrongWeight j y b) g h n m = absurd (feasible_spared k tree plan.parts a h.0 g.0 g.1)
one_refusal k tree plan (Parts a) (Length c d) g h n m = absurd (feasible_spared k tree plan.parts a h.0 g.0 g.1)
one_refusal k tree plan (Parts a) (Unsupported q f y b) g h n m = absurd (feasible_spared k tree plan.parts a h.0 g.0 g.1)
one_refusal k tree plan (Parts a) (Count c d) g h n m = absurd (feasible_spared k tree plan.parts a h.0 g.0 g.1)
one_refusal k tree plan (Parts a) (BadPlanLine line) g h n m = absurd h
one_refusal k tree plan (Parts a) Memory g h n m = absurd (m refl)
one_refusal k tree plan (WrongWeight i x a) (Parts b) g h n m = absurd (feasible_spared k tree plan.parts b g.0 h.0 h.1)
one_refusal k tree plan (WrongWeight i x a) (WrongWeight j y b) g h n m = wrong_one tree plan i j x y a b g.1 h.1 g.2 h.2 g.3 h.3
one_refusal k tree plan (WrongWeight i x a) (Length c d) g h n m = absurd (h.1 i g.1.holds)
one_refusal k tree plan (WrongWeight i x a) (Unsupported q f y b) g h n m = absurd (h.1 i g.1.holds)
one_refusal k tree plan (WrongWeight i x a) (Count c d) g h n m = absurd (h.1 i g.1.holds)
one_refusal k tree plan (WrongWeight i x a) (BadPlanLine line) g h n m = absurd h
one_refusal k tree plan (WrongWeight i x a) Memory g h n m = absurd (m refl)
one_refusal k tree plan (Length a b) (Parts c) g h n m = absurd (feasible_spared k tree plan.parts c g.0 h.0 h.1)
one_refusal k tree plan (Length a b) (WrongWeight j y c) g h n m = absurd (g.1 j h.1.holds)
one_refusal k tree plan (Length a b) (Length c d) g h n m = length_one a b c d (length plan.bounds) (1 + nodes tree.below) g.2.1 g.2.2 h.2.1 h.2.2
one_refusal k tree plan (Length a b) (Unsupported q f y c) g h n m = absurd (g.2.0 h.2.one_each)
one_refusal k tree plan (Length a b) (Count c d) g h n m = absurd (g.2.0 h.2.one_each)
one_refusal k tree plan (Length a b) (BadPlanLine line) g h n m = absurd h
one_refusal k tree plan (Length a b) Memory g h n m = absurd (m refl)
one_refusal k tree plan (Unsupported p e x a) (Parts c) g h n m = absurd (feasible_spared k tree plan.parts c g.0 h.0 h.1)
one_refusal k tree plan (Unsupported p e x a) (WrongWeight j y b) g h n m = absurd (g.1 j h.1.holds)
one_refusal k tree plan (Unsupported p e x a) (Length c d) g h n m = absurd (h.2.0 g.2.one_each)
one_refusal k tree plan (Unsupported p e x a) (Unsupported q f y b) g h n m = unsupported_one k tree plan.bounds p q e f x y a b g.2 h.2
one_refusal k tree plan (Unsupported p e x a) (Count c d) g h n m = absurd (supported_spared k tree plan.bounds p e x a h.2 g.2)
one_refusal k tree plan (Unsupported p e x a) (BadPlanLine line) g h n m = absurd h
one_refusal k tree plan (Unsupported p e x a) Memory g h n m = absurd (m refl)
one_refusal k tree plan (Count a b) (Parts c) g h n m = absurd (feasible_spared k tree plan.parts c g.0 h.0 h.1)
one_refusal k tree plan (Count a b) (WrongWeight j y c) g h n m = absurd (g.1 j h.1.holds)
one_refusal k tree plan (Count a b) (Length c d) g h n m = absurd (h.2.0 g.2.one_each)
one_refusal k tree plan (Count a b) (Unsupported q f y c) g h n m = absurd (supported_spared k tree plan.bounds q f y c g.2 h.2)
one_refusal k tree plan (Count a b) (Count c d) g h n m = count_one a b c d (length plan.parts) (root_least plan.bounds) g.4 g.5 h.4 h.5
one_refusal k tree plan (Count a b) (BadPlanLine line) g h n m = absurd h
one_refusal k tree plan (Count a b) Memory g h n m = absurd (m refl)
