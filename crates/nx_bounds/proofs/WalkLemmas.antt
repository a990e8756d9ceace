-- A walk over the nodes of a tree, and what is claimed of them in document order.
use Rattle.std.proofs.Common.{◌≡◌, ℕ, zero, suc, ◌+◌, ◌-◌, ◌<◌, ◌≤◌, Option, List, [], ◌∷◌, ◌++◌, length, drop, Some, refl, sym, ap, ◌∙◌, subst, arith, append_assoc, append-nil, length-append, length-drop}
use Rattle.std.specs.List.{AllByRecursion, slice_get}
use Rattle.std.proofs.lemmas.List.{drop-drop}
use Rattle.nx_tree.specs.Forest.{OrderedTree, Forest, Empty, Plant, forest_of, nodes}
use Rattle.nx_weights.specs.Weight.{weight}
use Rattle.nx_parts.specs.declared.bounds.Bound.{Bound}
use Rattle.nx_choices.specs.declared.child.Field.{Field}
use Rattle.nx_bounds.specs.declared.error.BoundsError.{BoundsError}
use Rattle.nx_bounds.specs.declared.error.BoundsError.TheVariants.{Parts, WrongWeight, Length, Unsupported, Count, BadPlanLine, Memory}
use Rattle.nx_choices.specs.declared.child.Child.{Child}
use Rattle.nx_choices.specs.Claim.{Claimed, IsSupported, FindsExceeded}
use Rattle.nx_minima.specs.Seen.{as_child}
use Rattle.nx_bounds.specs.Claim.{claimed_child, claimed_children, claimed_in, claimed, AreSupported}
use Rattle.nx_choices.specs.Choice.{AreWeighed}
use Rattle.nx_bounds.specs.Refusal.{IsNotSupported}
use Rattle.nx_bounds.specs.Walk.{claim_at, IsFirstUnsupported, NodeFails, WalkFails}

length-claimed_in : (k : ℕ) (f : Forest) (bounds : List Bound) → nodes f ≤ length bounds → length (claimed_in k f bounds) ≡ nodes f
length-claimed_in k Empty bounds h = refl
length-claimed_in k (Plant node below beside) [] h = absurd (omega arith)
length-claimed_in k (Plant node below beside) (bound ∷ bounds) h =
    let rest : length (drop (nodes below) bounds) ≡ length bounds - nodes below = length-drop (nodes below) bounds in
    let first : length (claimed_in k below bounds) ≡ nodes below = length-claimed_in k below bounds (omega arith) in
    let second : length (claimed_in k beside (drop (nodes below) bounds)) ≡ nodes beside = length-claimed_in k beside (drop (nodes below) bounds) (omega arith) in
    let both : length (claimed_in k below bounds ++ claimed_in k beside (drop (nodes below) bounds)) ≡ length (claimed_in k below bounds) + length (claimed_in k beside (drop (nodes below) bounds)) =
    length-append (claimed_in k below bounds) (claimed_in k beside (drop (nodes below) bounds)) in
    omega arith

length-claimed : (k : ℕ) (t : OrderedTree) (bounds : List Bound) → 1 + nodes t.below ≤ length bounds → length (claimed k t bounds) ≡ 1 + nodes t.below
length-claimed k t bounds h =
    let n : length (claimed_in k (Plant t.node t.below Empty) bounds) ≡ 1 + nodes t.below + 0 = length-claimed_in k (Plant t.node t.below Empty) bounds (omega arith) in
    omega arith

-- the first tree of a forest, and the others
claimed_in-first : (k : ℕ) (t : OrderedTree) (rest : Forest) (bounds : List Bound) → 1 ≤ length bounds →
    claimed_in k (Plant t.node t.below rest) bounds ≡ claimed k t bounds ++ claimed_in k rest (drop (1 + nodes t.below) bounds)
claimed_in-first k t rest [] h = absurd (omega arith)
claimed_in-first k t rest (bound ∷ bounds) h =
    let n : suc (nodes t.below) ≡ 1 + nodes t.below = omega arith in
    ap (λ (cs : List Claimed). (claim_at k t bounds bound ∷ cs) ++ claimed_in k rest (drop (nodes t.below) bounds)) (sym (append-nil (claimed_in k t.below bounds)))
    ∙ ap (λ (j : ℕ). claimed k t (bound ∷ bounds) ++ claimed_in k rest (drop j (bound ∷ bounds))) n

all-append : {X : Type 0} (P : X → Type 0) (xs ys : List X) → AllByRecursion P xs → AllByRecursion P ys → AllByRecursion P (xs ++ ys)
all-append P [] ys h g = g
all-append P (x ∷ xs) ys h g = (h.0, all-append P xs ys h.1 g)

-- The claims before a place are supported, and the trees from an index on are left.
pub record Walked (k : ℕ) (tree : OrderedTree) (bounds : List Bound) (place : ℕ) (ts : List OrderedTree) (i next : ℕ) : Type 0 where
  pub done : List Claimed
  pub parts : claimed k tree (drop place bounds) ≡ done ++ claimed_in k (forest_of (drop i ts)) (drop next bounds)
  pub all : AllByRecursion (IsSupported k) done
  pub count : place + length done ≡ next
  pub left : next + nodes (forest_of (drop i ts)) ≡ place + 1 + nodes tree.below

-- where a list goes on at an index
drop-at : (bounds : List Bound) (i : ℕ) (b : Bound) → slice_get bounds i ≡ Some b → drop i bounds ≡ b ∷ drop (i + 1) bounds
drop-at [] i b e = absurd (cc)
drop-at (x ∷ bounds) zero b e = let same : x ≡ b = cc in ap (λ (y : Bound). y ∷ bounds) same
drop-at (x ∷ bounds) (suc i) b e =
    let n : suc (i + 1) ≡ suc i + 1 = omega arith in
    drop-at bounds i b e ∙ ap (λ (j : ℕ). b ∷ drop j (x ∷ bounds)) n

claimed-first : (k : ℕ) (tree : OrderedTree) (bounds : List Bound) (place : ℕ) (b : Bound) → slice_get bounds place ≡ Some b →
    claimed k tree (drop place bounds) ≡ claim_at k tree (drop (place + 1) bounds) b ∷ claimed_in k tree.below (drop (place + 1) bounds)
claimed-first k tree bounds place b e =
    ap (claimed k tree) (drop-at bounds place b e)
    ∙ append-nil (claim_at k tree (drop (place + 1) bounds) b ∷ claimed_in k tree.below (drop (place + 1) bounds))

pub walk_start : (k : ℕ) (tree : OrderedTree) (bounds : List Bound) (place : ℕ) (ts : List OrderedTree) (b : Bound) → slice_get bounds place ≡ Some b → forest_of ts ≡ tree.below
    → IsSupported k (claim_at k tree (drop (place + 1) bounds) b) → Walked k tree bounds place ts 0 (place + 1)
walk_start k tree bounds place ts b e f h =
    record {
      done = claim_at k tree (drop (place + 1) bounds) b ∷ [];
      parts = claimed-first k tree bounds place b e
          ∙ ap (λ (g : Forest). claim_at k tree (drop (place + 1) bounds) b ∷ claimed_in k g (drop (place + 1) bounds)) (sym f);
      all = (h, tt);
      count = refl;
      left = ap (λ (g : Forest). place + 1 + nodes g) f;
    }

-- the next tree lies in the bounds
pub walk_within : (k : ℕ) (tree : OrderedTree) (bounds : List Bound) (place : ℕ) (ts : List OrderedTree) (i next : ℕ) (t : OrderedTree) → Walked k tree bounds place ts i next
    → drop i ts ≡ t ∷ drop (i + 1) ts → place + 1 + nodes tree.below ≤ length bounds → next + 1 + nodes t.below ≤ length bounds
walk_within k tree bounds place ts i next t w e h =
    let n : nodes (forest_of (drop i ts)) ≡ 1 + nodes t.below + nodes (forest_of (drop (i + 1) ts)) = ap (λ (xs : List OrderedTree). nodes (forest_of xs)) e in
    let l : next + nodes (forest_of (drop i ts)) ≡ place + 1 + nodes tree.below = w.left in
    omega arith

walk_parts : (k : ℕ) (tree : OrderedTree) (bounds : List Bound) (place : ℕ) (ts : List OrderedTree) (i next : ℕ) (t : OrderedTree) (w : Walked k tree bounds place ts i next)
    → drop i ts ≡ t ∷ drop (i + 1) ts → next < length bounds
    → claimed k tree (drop place bounds) ≡ w.done ++ (claimed k t (drop next bounds) ++ claimed_in k (forest_of (drop (i + 1) ts)) (drop (next + (1 + nodes t.below)) bounds))
walk_parts k tree bounds place ts i next t w e h =
    let some : 1 ≤ length (drop next bounds) = (let n : length (drop next bounds) ≡ length bounds - next = length-drop next bounds in omega arith) in
    w.parts
    ∙ ap (λ (xs : List OrderedTree). w.done ++ claimed_in k (forest_of xs) (drop next bounds)) e
    ∙ ap (λ (cs : List Claimed). w.done ++ cs) (claimed_in-first k t (forest_of (drop (i + 1) ts)) (drop next bounds) some)
    ∙ ap (λ (bs : List Bound). w.done ++ (claimed k t (drop next bounds) ++ claimed_in k (forest_of (drop (i + 1) ts)) bs)) (drop-drop (1 + nodes t.below) next bounds)

pub walk_more : (k : ℕ) (tree : OrderedTree) (bounds : List Bound) (place : ℕ) (ts : List OrderedTree) (i next n : ℕ) (t : OrderedTree) → Walked k tree bounds place ts i next
    → drop i ts ≡ t ∷ drop (i + 1) ts → place + 1 + nodes tree.below ≤ length bounds → n ≡ 1 + nodes t.below → AllByRecursion (IsSupported k) (claimed k t (drop next bounds))
    → Walked k tree bounds place ts (i + 1) (next + n)
walk_more k tree bounds place ts i next n t w e h is all =
    let within : next + 1 + nodes t.below ≤ length bounds = walk_within k tree bounds place ts i next t w e h in
    let rest : length (drop next bounds) ≡ length bounds - next = length-drop next bounds in
    let size : length (claimed k t (drop next bounds)) ≡ 1 + nodes t.below = length-claimed k t (drop next bounds) (omega arith) in
    let sum : length (w.done ++ claimed k t (drop next bounds)) ≡ length w.done + length (claimed k t (drop next bounds)) = length-append w.done (claimed k t (drop next bounds)) in
    let before : place + length w.done ≡ next = w.count in
    let below : nodes (forest_of (drop i ts)) ≡ 1 + nodes t.below + nodes (forest_of (drop (i + 1) ts)) = ap (λ (xs : List OrderedTree). nodes (forest_of xs)) e in
    let l : next + nodes (forest_of (drop i ts)) ≡ place + 1 + nodes tree.below = w.left in
    record {
      done = w.done ++ claimed k t (drop next bounds);
      parts = walk_parts k tree bounds place ts i next t w e (omega arith)
          ∙ sym (append_assoc w.done (claimed k t (drop next bounds)) (claimed_in k (forest_of (drop (i + 1) ts)) (drop (next + (1 + nodes t.below)) bounds)))
          ∙ ap (λ (m : ℕ). (w.done ++ claimed k t (drop next bounds)) ++ claimed_in k (forest_of (drop (i + 1) ts)) (drop (next + m) bounds)) (sym is);
      all = all-append (IsSupported k) w.done (claimed k t (drop next bounds)) w.all all;
      count = omega arith;
      left = omega arith;
    }

pub walk_end : (k : ℕ) (tree : OrderedTree) (bounds : List Bound) (place : ℕ) (ts : List OrderedTree) (i next : ℕ) → Walked k tree bounds place ts i next → drop i ts ≡ []
    → AllByRecursion (IsSupported k) (claimed k tree (drop place bounds))
walk_end k tree bounds place ts i next w e =
    let same : claimed k tree (drop place bounds) ≡ w.done =
    w.parts ∙ ap (λ (xs : List OrderedTree). w.done ++ claimed_in k (forest_of xs) (drop next bounds)) e ∙ append-nil w.done in
    subst (AllByRecursion (IsSupported k)) (sym same) w.all

-- The first claim that isn't supported, in a longer list.

first_cons : (k : ℕ) (c : Claimed) (rest : List Claimed) (index : ℕ) (field : Field) (number found : ℕ) → IsSupported k c → IsFirstUnsupported k rest index field number found
    → IsFirstUnsupported k (c ∷ rest) (suc index) field number found
first_cons k c rest index field number found h f = record { node = f.node; there = f.there; before = earlier_too; exceeded = f.exceeded }
  where
    earlier_too : (earlier : ℕ) (other : Claimed) → earlier < suc index → slice_get (c ∷ rest) earlier ≡ Some other → IsSupported k other
    earlier_too zero other lt e = let same : c ≡ other = cc in subst (IsSupported k) same h
    earlier_too (suc earlier) other lt e = f.before earlier other (omega arith) e

first_behind : (k : ℕ) (done rest : List Claimed) (index : ℕ) (field : Field) (number found : ℕ) → AllByRecursion (IsSupported k) done → IsFirstUnsupported k rest index field number found
    → IsFirstUnsupported k (done ++ rest) (length done + index) field number found
first_behind k [] rest index field number found h f =
    let n : index ≡ 0 + index = omega arith in
    subst (λ (j : ℕ). IsFirstUnsupported k rest j field number found) n f
first_behind k (c ∷ done) rest index field number found h f =
    let n : suc (length done + index) ≡ suc (length done) + index = omega arith in
    subst (λ (j : ℕ). IsFirstUnsupported k (c ∷ done ++ rest) j field number found) n
    (first_cons k c (done ++ rest) (length done + index) field number found h.0 (first_behind k done rest index field number found h.1 f))

get_prefix : (xs ys : List Claimed) (i : ℕ) (x : Claimed) → slice_get xs i ≡ Some x → slice_get (xs ++ ys) i ≡ Some x
get_prefix [] ys i x e = absurd (cc)
get_prefix (y ∷ xs) ys zero x e = e
get_prefix (y ∷ xs) ys (suc i) x e = get_prefix xs ys i x e

get_within : (xs ys : List Claimed) (i j : ℕ) (x y : Claimed) → slice_get xs j ≡ Some y → i < j → slice_get (xs ++ ys) i ≡ Some x → slice_get xs i ≡ Some x
get_within [] ys i j x y e lt g = absurd (cc)
get_within (z ∷ xs) ys zero j x y e lt g = g
get_within (z ∷ xs) ys (suc i) zero x y e lt g = absurd (omega arith)
get_within (z ∷ xs) ys (suc i) (suc j) x y e lt g = get_within xs ys i j x y e (omega arith) g

first_before : (k : ℕ) (claims rest : List Claimed) (index : ℕ) (field : Field) (number found : ℕ) → IsFirstUnsupported k claims index field number found
    → IsFirstUnsupported k (claims ++ rest) index field number found
first_before k claims rest index field number found f = record {
  node = f.node;
  there = get_prefix claims rest index f.node f.there;
  before = λ earlier other lt e. f.before earlier other lt (get_within claims rest earlier index other f.node f.there lt e);
  exceeded = f.exceeded;
}

-- The first node fails.
fails_first : (k : ℕ) (c : Claimed) (rest : List Claimed) (place : ℕ) (error : BoundsError) → NodeFails k c place error → WalkFails k (c ∷ rest) place error
fails_first k c rest place (Unsupported at field number found) h = (
  0,
  (let n : at ≡ place + 0 = (let e : at ≡ place = h.0 in omega arith) in n),
  record { node = c; there = refl; before = λ earlier other lt e. absurd (omega arith); exceeded = h.1 },
)
fails_first k c rest place Memory h = tt
fails_first k c rest place (Parts error) h = absurd h
fails_first k c rest place (WrongWeight index number found) h = absurd h
fails_first k c rest place (Length a b) h = absurd h
fails_first k c rest place (Count a b) h = absurd h
fails_first k c rest place (BadPlanLine line) h = absurd h

pub walk_fails : (k : ℕ) (tree : OrderedTree) (bounds : List Bound) (place : ℕ) (b : Bound) (error : BoundsError) → slice_get bounds place ≡ Some b
    → NodeFails k (claim_at k tree (drop (place + 1) bounds) b) place error → WalkFails k (claimed k tree (drop place bounds)) place error
walk_fails k tree bounds place b error e h =
    subst (λ (cs : List Claimed). WalkFails k cs place error) (sym (claimed-first k tree bounds place b e))
    (fails_first k (claim_at k tree (drop (place + 1) bounds) b) (claimed_in k tree.below (drop (place + 1) bounds)) place error h)

fails_behind : (k : ℕ) (done claims rest : List Claimed) (place next : ℕ) (error : BoundsError) → AllByRecursion (IsSupported k) done → place + length done ≡ next
    → WalkFails k claims next error → WalkFails k (done ++ (claims ++ rest)) place error
fails_behind k done claims rest place next (Unsupported at field number found) all count h = (
  length done + h.0,
  (let e : at ≡ next + h.0 = h.1 in let n : at ≡ place + (length done + h.0) = omega arith in n),
  first_behind k done (claims ++ rest) h.0 field number found all (first_before k claims rest h.0 field number found h.2),
)
fails_behind k done claims rest place next Memory all count h = tt
fails_behind k done claims rest place next (Parts error) all count h = absurd h
fails_behind k done claims rest place next (WrongWeight index number found) all count h = absurd h
fails_behind k done claims rest place next (Length a b) all count h = absurd h
fails_behind k done claims rest place next (Count a b) all count h = absurd h
fails_behind k done claims rest place next (BadPlanLine line) all count h = absurd h

-- A node of the next tree fails.
pub walk_fails_more : (k : ℕ) (tree : OrderedTree) (bounds : List Bound) (place : ℕ) (ts : List OrderedTree) (i next : ℕ) (t : OrderedTree) (error : BoundsError)
    → Walked k tree bounds place ts i next → drop i ts ≡ t ∷ drop (i + 1) ts → place + 1 + nodes tree.below ≤ length bounds
    → WalkFails k (claimed k t (drop next bounds)) next error → WalkFails k (claimed k tree (drop place bounds)) place error
walk_fails_more k tree bounds place ts i next t error w e within h =
    let inside : next + 1 + nodes t.below ≤ length bounds = walk_within k tree bounds place ts i next t w e within in
    subst (λ (cs : List Claimed). WalkFails k cs place error) (sym (walk_parts k tree bounds place ts i next t w e (omega arith)))
    (fails_behind k w.done (claimed k t (drop next bounds)) (claimed_in k (forest_of (drop (i + 1) ts)) (drop (next + (1 + nodes t.below)) bounds)) place next error w.all w.count h)

-- The list of what is claimed of the children, as it grows.
pub record Listed (k : ℕ) (tree : OrderedTree) (bounds : List Bound) (place : ℕ) (ts : List OrderedTree) (i next : ℕ) (list : List Child) : Type 0 where
  pub parts : claimed_children k tree.below (drop (place + 1) bounds) ≡ list ++ claimed_children k (forest_of (drop i ts)) (drop next bounds)
  pub left : next + nodes (forest_of (drop i ts)) ≡ place + 1 + nodes tree.below

pub list_start : (k : ℕ) (tree : OrderedTree) (bounds : List Bound) (place : ℕ) (ts : List OrderedTree) (list : List Child) → list ≡ [] → forest_of ts ≡ tree.below
    → Listed k tree bounds place ts 0 (place + 1) list
list_start k tree bounds place ts list e f = record {
  parts = ap (λ (g : Forest). claimed_children k g (drop (place + 1) bounds)) (sym f) ∙ ap (λ (cs : List Child). cs ++ claimed_children k (forest_of ts) (drop (place + 1) bounds)) (sym e);
  left = ap (λ (g : Forest). place + 1 + nodes g) f;
}

pub list_within : (k : ℕ) (tree : OrderedTree) (bounds : List Bound) (place : ℕ) (ts : List OrderedTree) (i next : ℕ) (list : List Child) (t : OrderedTree)
    → Listed k tree bounds place ts i next list → drop i ts ≡ t ∷ drop (i + 1) ts → place + 1 + nodes tree.below ≤ length bounds → next + 1 + nodes t.below ≤ length bounds
list_within k tree bounds place ts i next list t w e h =
    let n : nodes (forest_of (drop i ts)) ≡ 1 + nodes t.below + nodes (forest_of (drop (i + 1) ts)) = ap (λ (xs : List OrderedTree). nodes (forest_of xs)) e in
    let l : next + nodes (forest_of (drop i ts)) ≡ place + 1 + nodes tree.below = w.left in
    omega arith

pub list_more : (k : ℕ) (tree : OrderedTree) (bounds : List Bound) (place : ℕ) (ts : List OrderedTree) (i next n : ℕ) (list new : List Child) (t : OrderedTree) (b : Bound)
    → Listed k tree bounds place ts i next list → drop i ts ≡ t ∷ drop (i + 1) ts → slice_get bounds next ≡ Some b → n ≡ 1 + nodes t.below → new ≡ list ++ claimed_child k t.node b ∷ []
    → Listed k tree bounds place ts (i + 1) (next + n) new
list_more k tree bounds place ts i next n list new t b w e at is more =
    let below : nodes (forest_of (drop i ts)) ≡ 1 + nodes t.below + nodes (forest_of (drop (i + 1) ts)) = ap (λ (xs : List OrderedTree). nodes (forest_of xs)) e in
    let l : next + nodes (forest_of (drop i ts)) ≡ place + 1 + nodes tree.below = w.left in
    let m : next + 1 + nodes t.below ≡ next + n = omega arith in
    record {
      parts = w.parts
          ∙ ap (λ (xs : List OrderedTree). list ++ claimed_children k (forest_of xs) (drop next bounds)) e
          ∙ ap (λ (bs : List Bound). list ++ claimed_children k (Plant t.node t.below (forest_of (drop (i + 1) ts))) bs) (drop-at bounds next b at)
          ∙ ap (λ (bs : List Bound). list ++ (claimed_child k t.node b ∷ claimed_children k (forest_of (drop (i + 1) ts)) bs)) (drop-drop (nodes t.below) (next + 1) bounds)
          ∙ ap (λ (j : ℕ). list ++ (claimed_child k t.node b ∷ claimed_children k (forest_of (drop (i + 1) ts)) (drop j bounds))) m
          ∙ sym (append_assoc list (claimed_child k t.node b ∷ []) (claimed_children k (forest_of (drop (i + 1) ts)) (drop (next + n) bounds)))
          ∙ ap (λ (cs : List Child). cs ++ claimed_children k (forest_of (drop (i + 1) ts)) (drop (next + n) bounds)) (sym more);
      left = omega arith;
    }

pub list_end : (k : ℕ) (tree : OrderedTree) (bounds : List Bound) (place : ℕ) (ts : List OrderedTree) (i next : ℕ) (list : List Child) → Listed k tree bounds place ts i next list
    → drop i ts ≡ [] → list ≡ claimed_children k tree.below (drop (place + 1) bounds)
list_end k tree bounds place ts i next list w e =
    sym (w.parts ∙ ap (λ (xs : List OrderedTree). list ++ claimed_children k (forest_of xs) (drop next bounds)) e ∙ append-nil list)

-- each child weighs at least 1 and at most k as it is seen
pub children_weighed : (k : ℕ) (f : Forest) (bounds : List Bound) → 1 ≤ k → AreWeighed k (claimed_children k f bounds)
children_weighed k Empty bounds h = tt
children_weighed k (Plant node below beside) [] h = tt
children_weighed k (Plant node below beside) (bound ∷ bounds) h = (
  record { lean_some = omega arith; lean_most = omega arith; nearly_some = omega arith; nearly_most = omega arith },
  children_weighed k beside (drop (nodes below) bounds) h,
)

pub length-children : (k : ℕ) (f : Forest) (bounds : List Bound) → length (claimed_children k f bounds) ≤ nodes f
length-children k Empty bounds = omega arith
length-children k (Plant node below beside) [] = omega arith
length-children k (Plant node below beside) (bound ∷ bounds) = omega (arith, length-children k beside (drop (nodes below) bounds))

-- the bound at a place within the list
pub some_bound : (bounds : List Bound) (i : ℕ) → i < length bounds → (b : Bound) × (slice_get bounds i ≡ Some b)
some_bound [] i h = absurd (omega arith)
some_bound (b ∷ bounds) zero h = (b, refl)
some_bound (b ∷ bounds) (suc i) h = some_bound bounds i (omega arith)

-- what a walk over the whole tree says of its bounds
walk_refuses : (k : ℕ) (tree : OrderedTree) (bounds : List Bound) (error : BoundsError) → length bounds ≡ 1 + nodes tree.below → WalkFails k (claimed k tree bounds) 0 error
    → IsNotSupported k tree bounds error
walk_refuses k tree bounds (Unsupported at field number found) size h =
    let n : h.0 ≡ at = (let e : at ≡ 0 + h.0 = h.1 in omega arith) in
    let f = subst (λ (j : ℕ). IsFirstUnsupported k (claimed k tree bounds) j field number found) n h.2 in
    record { one_each = size; node = f.node; there = f.there; before = f.before; fields_before = f.exceeded.fields_before; is_claimed = f.exceeded.is_claimed; exceeded = f.exceeded.exceeded }
walk_refuses k tree bounds Memory size h = tt
walk_refuses k tree bounds (Parts error) size h = absurd h
walk_refuses k tree bounds (WrongWeight index number found) size h = absurd h
walk_refuses k tree bounds (Length a b) size h = absurd h
walk_refuses k tree bounds (Count a b) size h = absurd h
walk_refuses k tree bounds (BadPlanLine line) size h = absurd h

-- what is found of a node is found of its claim
pub found_same : (k own : ℕ) (tree : OrderedTree) (bounds : List Bound) (list : List Child) (got : Child) (b : Bound) (found : Option (Field × ℕ)) → own ≡ weight tree.node
    → list ≡ claimed_children k tree.below bounds → got ≡ as_child b → FindsExceeded k (record { own = own; children = list; bound = got }) found → FindsExceeded k (claim_at k tree bounds b) found
found_same k own tree bounds list got b found is same at h =
    let e : record { own = own; children = list; bound = got } ≡ claim_at k tree bounds b =
    ap (λ (w : ℕ). record { own = w; children = list; bound = got }) is
    ∙ ap (λ (l : List Child). record { own = weight tree.node; children = l; bound = got }) same
    ∙ ap (λ (x : Child). record { own = weight tree.node; children = claimed_children k tree.below bounds; bound = x }) at in
    subst (λ (c : Claimed). FindsExceeded k c found) e h

pub walk_supports : (k : ℕ) (tree : OrderedTree) (slice bounds : List Bound) → slice ≡ bounds → length slice ≡ 1 + nodes tree.below → AllByRecursion (IsSupported k) (claimed k tree slice)
    → AreSupported k tree bounds
walk_supports k tree slice bounds same size all = subst (AreSupported k tree) same (record { one_each = size; each = all })

pub walk_refuses_in : (k : ℕ) (tree : OrderedTree) (slice bounds : List Bound) → slice ≡ bounds → length slice ≡ 1 + nodes tree.below
    → (error : BoundsError) → WalkFails k (claimed k tree slice) 0 error → IsNotSupported k tree bounds error
walk_refuses_in k tree slice bounds same size error h = subst (λ (bs : List Bound). IsNotSupported k tree bs error) same (walk_refuses k tree slice error size h)
