-- What the parts of drawn intervals weigh.
use Rattle.std.proofs.Common.{◌≡◌, ℕ, ◌+◌, ◌<◌, ◌≤◌, ◌==◌, max, if◌then◌else◌, Bool, true, false, IsTrue, List, [], ◌∷◌, ◌++◌, Option, None, Some, refl, sym, ap, ◌∙◌, arith, append-nil, ◌⊎◌, inl, inr}
use Rattle.std.specs.List.{AllByRecursion, sum_by}
use Rattle.std.specs.Option.{option_or}
use Rattle.std.proofs.lemmas.Bool.Decides.{nat_tests}
use Rattle.std.proofs.lemmas.Bool.{cases_lt}
use Rattle.std.proofs.lemmas.List.Sums.{sum_by-cons, sum_by-append}
use Rattle.nx_parts.specs.declared.interval.Interval.{Interval}
use Rattle.nx_parts.specs.Partitioning.{has_member, ShareMember, holder, owner, owns}
use Rattle.nx_parts.proofs.Owned.{is_place}
use Rattle.nx_parts.proofs.OwnerLemmas.{owner-longer, owner-root}
use Rattle.nx_cuts.proofs.PairLemmas.{PairsBy}
use Rattle.nx_division.specs.declared.cut.Cut.TheVariants.{Stays, Begins, GoesOn}
use Rattle.nx_sketch.specs.Sketch.{Placed, placed, placed_in}
use Rattle.nx_sketch.specs.Plan.{placed_part_weight}
use Rattle.nx_division.specs.Drawn.{Drawn, Bare, Grown, bare, staying_weight, goes, drawn_intervals, interval_count, heaviest, Rises, IsSoundDrawing, opened}
use Rattle.nx_division.proofs.LookLemmas.{AreFound, found, sorted, apart}
use Rattle.nx_division.proofs.NumberLemmas.{IsNumbered, numbered, all_unheld, unheld, none_some}

-- what the interval at this place gets of a node
abbrev pub owned_of : List Interval → ℕ → Placed → ℕ
owned_of parts index node = if owns parts index node.path then node.weight else 0

-- what it owns below the node at a path, where `above` owns that node
abbrev pub owned : List Interval → ℕ → Option ℕ → List ℕ → Drawn → ℕ
owned parts index above path Bare = 0
owned parts index above path (Grown p w e cut b s) =
    (if is_place index (option_or (holder parts (path ++ p ∷ [])) above) then w else 0)
    + owned parts index (option_or (holder parts (path ++ p ∷ [])) above) (path ++ p ∷ []) b
    + owned parts index above path s

-- the sum over the nodes is the walk
pub sum_is_owned : (parts : List Interval) (index : ℕ) (path : List ℕ) (d : Drawn) → sum_by (λ node. if owns parts index node.path then node.weight else 0) (placed_in path (bare d)) ≡ owned parts index (owner parts path) path d
sum_is_owned parts index path Bare = refl
sum_is_owned parts index path (Grown p w entry cut b s) =
    let here = path ++ p ∷ [] in
    let e = owner-longer parts path p in
    let node : Placed = record { path = here; weight = w; entry = entry } in
    let a : owned_of parts index node ≡ (if is_place index (option_or (holder parts here) (owner parts path)) then w else 0) =
    ap (λ (o : Option ℕ). if is_place index o then w else 0) e in
    let x : sum_by (owned_of parts index) (placed_in here (bare b)) ≡ owned parts index (option_or (holder parts here) (owner parts path)) here b =
    sum_is_owned parts index here b ∙ ap (λ (o : Option ℕ). owned parts index o here b) e in
    let y : sum_by (owned_of parts index) (placed_in path (bare s)) ≡ owned parts index (owner parts path) path s = sum_is_owned parts index path s in
    let d : sum_by (owned_of parts index) (placed_in here (bare b) ++ placed_in path (bare s)) ≡ sum_by (owned_of parts index) (placed_in here (bare b)) + sum_by (owned_of parts index) (placed_in path (bare s)) =
    sum_by-append (owned_of parts index) (placed_in here (bare b)) (placed_in path (bare s)) in
    let f : sum_by (owned_of parts index) (node ∷ placed_in here (bare b) ++ placed_in path (bare s)) ≡ owned_of parts index node + sum_by (owned_of parts index) (placed_in here (bare b) ++ placed_in path (bare s)) =
    sum_by-cons (owned_of parts index) node (placed_in here (bare b) ++ placed_in path (bare s)) in
    omega (arith, a, x, y, d, f)

-- what the interval with that number has, counted from a number on
abbrev pub weight_at : ℕ → ℕ → Drawn → ℕ
weight_at index base Bare = 0
weight_at index base (Grown p w e Stays b s) = weight_at index base b + weight_at index (base + interval_count b) s
weight_at index base (Grown p w e Begins b s) = (if base == index then w + staying_weight b + goes s else 0) + weight_at index (base + 1) b + weight_at index (base + 1 + interval_count b) s
weight_at index base (Grown p w e GoesOn b s) = weight_at index base b + weight_at index (base + interval_count b) s

pub goes_none : (d : Drawn) → IsSoundDrawing None d → goes d ≡ 0
goes_none Bare h = refl
goes_none (Grown p w e Stays b s) h = refl
goes_none (Grown p w e Begins b s) h = refl
goes_none (Grown p w e GoesOn b s) h = absurd (none_some h.1)

if_sum : (t : Bool) (x y z : ℕ) → (if t then x + y + z else 0) ≡ (if t then x else 0) + (if t then y else 0) + (if t then z else 0)
if_sum true x y z = refl
if_sum false x y z = omega arith

if_zero : (t : Bool) (x : ℕ) → x ≡ 0 → (if t then x else 0) ≡ 0
if_zero true x e = e
if_zero false x e = refl

-- what an interval owns: what stays at the top, where that is its own, what goes on with it, and its part
pub owned-drawn : (parts : List Interval) (index run base : ℕ) (above before : Option ℕ) (path : List ℕ) (d : Drawn) → IsSoundDrawing before d → IsNumbered (holder parts) run base path d
    → owned parts index above path d ≡ (if is_place index above then staying_weight d else 0) + (if run == index then goes d else 0) + weight_at index base d
owned-drawn parts index run base above before path Bare h n = omega (arith, if_zero (is_place index above) 0 refl, if_zero (run == index) 0 refl)
owned-drawn parts index run base above before path (Grown p w e Stays b s) h n =
    let here = path ++ p ∷ [] in
    let own : option_or (holder parts here) above ≡ above = ap (λ (o : Option ℕ). option_or o above) n.0 in
    let x : (if is_place index (option_or (holder parts here) above) then w else 0) ≡ (if is_place index above then w else 0) = ap (λ (o : Option ℕ). if is_place index o then w else 0) own in
    let y : owned parts index (option_or (holder parts here) above) here b ≡ (if is_place index above then staying_weight b else 0) + (if 0 == index then goes b else 0) + weight_at index base b =
    ap (λ (o : Option ℕ). owned parts index o here b) own ∙ owned-drawn parts index 0 base above None here b h.1 n.1 in
    let z = owned-drawn parts index 0 (base + interval_count b) above None path s h.2 n.2 in
    omega (arith, x, y, z, if_sum (is_place index above) w (staying_weight b) (staying_weight s), if_zero (0 == index) (goes b) (goes_none b h.1), if_zero (0 == index) (goes s) (goes_none s h.2), if_zero (run == index) 0 refl)
owned-drawn parts index run base above before path (Grown p w e Begins b s) h n =
    let here = path ++ p ∷ [] in
    let own : option_or (holder parts here) above ≡ Some base = ap (λ (o : Option ℕ). option_or o above) n.0 in
    let x : (if is_place index (option_or (holder parts here) above) then w else 0) ≡ (if base == index then w else 0) = ap (λ (o : Option ℕ). if is_place index o then w else 0) own in
    let y : owned parts index (option_or (holder parts here) above) here b ≡ (if base == index then staying_weight b else 0) + (if 0 == index then goes b else 0) + weight_at index (base + 1) b =
    ap (λ (o : Option ℕ). owned parts index o here b) own ∙ owned-drawn parts index 0 (base + 1) (Some base) None here b h.0 n.1 in
    let z = owned-drawn parts index base (base + 1 + interval_count b) above (opened e p) path s h.1 n.2 in
    omega (arith, x, y, z, if_sum (base == index) w (staying_weight b) (goes s), if_zero (0 == index) (goes b) (goes_none b h.0), if_zero (run == index) 0 refl)
owned-drawn parts index run base above before path (Grown p w e GoesOn b s) h n =
    let here = path ++ p ∷ [] in
    let own : option_or (holder parts here) above ≡ Some run = ap (λ (o : Option ℕ). option_or o above) n.0 in
    let x : (if is_place index (option_or (holder parts here) above) then w else 0) ≡ (if run == index then w else 0) = ap (λ (o : Option ℕ). if is_place index o then w else 0) own in
    let y : owned parts index (option_or (holder parts here) above) here b ≡ (if run == index then staying_weight b else 0) + (if 0 == index then goes b else 0) + weight_at index base b =
    ap (λ (o : Option ℕ). owned parts index o here b) own ∙ owned-drawn parts index 0 base (Some run) None here b h.4 n.1 in
    let z = owned-drawn parts index run (base + interval_count b) above (Some p) path s h.5 n.2 in
    omega (arith, x, y, z, if_sum (run == index) w (staying_weight b) (goes s), if_zero (0 == index) (goes b) (goes_none b h.4))

-- the nodes of a whole part are held by the intervals that are drawn
pub record IsWhole (d : Drawn) : Type 0 where
  pub rises : Rises 0 d
  pub sound : IsSoundDrawing None d

pub whole_found : (d : Drawn) → IsWhole d → AreFound 0 0 [] d (drawn_intervals [] d)
whole_found d h = found 0 0 None [] d h.rises h.sound

pub whole_apart : (d : Drawn) → IsWhole d → PairsBy (λ a b. ¬ ShareMember a b) (drawn_intervals [] d)
whole_apart d h = apart 0 [] d (drawn_intervals [] d) (whole_found d h) (sorted 0 [] d h.rises)

pub whole_numbered : (d : Drawn) → IsWhole d → IsNumbered (holder (drawn_intervals [] d)) 0 0 [] d
whole_numbered d h =
    numbered (drawn_intervals [] d) (whole_apart d h) 0 None 0 [] d h.rises h.sound (all_unheld d (drawn_intervals [] d) (whole_found d h)) (λ last same. absurd (none_some same)) 0 [] [] refl (sym (append-nil (drawn_intervals [] d)))

no_helper : (d : Drawn) (xs : List Interval) → AreFound 0 0 [] d xs → AllByRecursion (λ x. IsTrue (has_member x []) → ⊥) xs
no_helper d [] a = tt
no_helper d (x ∷ xs) a = ((λ t. let g = a.0 [] t in let e = g.leads in no_cons e), no_helper d xs a.1)
  where
    no_cons : {p : ℕ} {q : List ℕ} → [] ≡ p ∷ q → ⊥
    no_cons e = cc

pub whole_top : (d : Drawn) → IsWhole d → owner (drawn_intervals [] d) [] ≡ None
whole_top d h = owner-root (drawn_intervals [] d) ∙ unheld [] (drawn_intervals [] d) (no_helper d (drawn_intervals [] d) (whole_found d h))

-- a part weighs what is drawn
pub whole_weight : (d : Drawn) → IsWhole d → (index : ℕ) → placed_part_weight (placed (bare d)) (drawn_intervals [] d) index ≡ weight_at index 0 d
whole_weight d h index =
    let parts = drawn_intervals [] d in
    let a = sum_is_owned parts index [] d in
    let b : owned parts index (owner parts []) [] d ≡ owned parts index None [] d = ap (λ (o : Option ℕ). owned parts index o [] d) (whole_top d h) in
    let c = owned-drawn parts index 0 0 None None [] d h.sound (whole_numbered d h) in
    let z = if_zero (0 == index) (goes d) (goes_none d h.sound) in
    omega (arith, a, b, c, z)

pub other_if : (m n x : ℕ) → (m ≡ n → ⊥) → (if m == n then x else 0) ≡ 0
other_if m n x h = grind (arith, nat_tests)

pub weight-below : (index base : ℕ) (d : Drawn) → index < base → weight_at index base d ≡ 0
weight-below index base Bare h = refl
weight-below index base (Grown p w e Stays b s) h = omega (arith, weight-below index base b h, weight-below index (base + interval_count b) s (omega arith))
weight-below index base (Grown p w e Begins b s) h = omega (arith, other_if base index (w + staying_weight b + goes s) (λ e. omega arith), weight-below index (base + 1) b (omega arith), weight-below index (base + 1 + interval_count b) s (omega arith))
weight-below index base (Grown p w e GoesOn b s) h = omega (arith, weight-below index base b h, weight-below index (base + interval_count b) s (omega arith))

pub weight-above : (index base : ℕ) (d : Drawn) → base + interval_count d ≤ index → weight_at index base d ≡ 0
weight-above index base Bare h = refl
weight-above index base (Grown p w e Stays b s) h = omega (arith, weight-above index base b (omega arith), weight-above index (base + interval_count b) s (omega arith))
weight-above index base (Grown p w e Begins b s) h = omega (arith, other_if base index (w + staying_weight b + goes s) (λ e. omega arith), weight-above index (base + 1) b (omega arith), weight-above index (base + 1 + interval_count b) s (omega arith))
weight-above index base (Grown p w e GoesOn b s) h = omega (arith, weight-above index base b (omega arith), weight-above index (base + interval_count b) s (omega arith))

if_most : (t : Bool) (x : ℕ) → (if t then x else 0) ≤ x
if_most true x = omega arith
if_most false x = omega arith

-- of two neighbouring stretches of numbers one has the interval
two_most : (index base : ℕ) (b s : Drawn) → weight_at index base b ≤ heaviest b → weight_at index (base + interval_count b) s ≤ heaviest s → weight_at index base b + weight_at index (base + interval_count b) s ≤ max (heaviest b) (heaviest s)
two_most index base b s x y = elim (cases_lt index (base + interval_count b)) [
  | inl lt ↦ omega (arith, weight-below index (base + interval_count b) s lt)
  | inr ge ↦ omega (arith, weight-above index base b ge)
]

pub weight-most : (index base : ℕ) (d : Drawn) → weight_at index base d ≤ heaviest d
weight-most index base Bare = omega arith
weight-most index base (Grown p w e Stays b s) = two_most index base b s (weight-most index base b) (weight-most index (base + interval_count b) s)
weight-most index base (Grown p w e Begins b s) = elim (cases_lt base index) [
  | inl lt ↦
      let x = other_if base index (w + staying_weight b + goes s) (λ e. omega arith) in
      let y = two_most index (base + 1) b s (weight-most index (base + 1) b) (weight-most index (base + 1 + interval_count b) s) in omega (arith, x, y)
  | inr ge ↦
      let x = if_most (base == index) (w + staying_weight b + goes s) in
      let y = weight-below index (base + 1) b (omega arith) in
      let z = weight-below index (base + 1 + interval_count b) s (omega arith) in omega (arith, x, y, z)
]
weight-most index base (Grown p w e GoesOn b s) = two_most index base b s (weight-most index base b) (weight-most index (base + interval_count b) s)

above_max : (k x y : ℕ) → k < max x y → (k < x) ⊎ (k < y)
above_max k x y h = elim (cases_lt k x) [ inl lt ↦ inl lt | inr ge ↦ inr (omega arith) ]

-- an interval that is heavier than k
abbrev pub IsHeavyFrom : ℕ → ℕ → Drawn → Type 0
IsHeavyFrom k base d = (index : ℕ) × (index < base + interval_count d) × (k < weight_at index base d)

pub same_if : (n x : ℕ) → (if n == n then x else 0) ≡ x
same_if n x = grind (arith, nat_tests)

pub weight-heaviest : (k base : ℕ) (d : Drawn) → k < heaviest d → IsHeavyFrom k base d
weight-heaviest k base Bare h = absurd (omega arith)
weight-heaviest k base (Grown p w e Stays b s) h = elim (above_max k (heaviest b) (heaviest s) h) [
  | inl x ↦ let f = weight-heaviest k base b x in let l = f.1 in let m = f.2 in (f.0, omega arith, omega arith)
  | inr y ↦ let f = weight-heaviest k (base + interval_count b) s y in let l = f.1 in let m = f.2 in (f.0, omega arith, omega arith)
]
weight-heaviest k base (Grown p w e Begins b s) h = elim (above_max k (w + staying_weight b + goes s) (max (heaviest b) (heaviest s)) h) [
  | inl x ↦ (base, omega arith, omega (arith, same_if base (w + staying_weight b + goes s)))
  | inr r ↦ elim (above_max k (heaviest b) (heaviest s) r) [
    | inl x ↦ let f = weight-heaviest k (base + 1) b x in let l = f.1 in let m = f.2 in (f.0, omega arith, omega arith)
    | inr y ↦ let f = weight-heaviest k (base + 1 + interval_count b) s y in let l = f.1 in let m = f.2 in (f.0, omega arith, omega arith)
  ]
]
weight-heaviest k base (Grown p w e GoesOn b s) h = elim (above_max k (heaviest b) (heaviest s) h) [
  | inl x ↦ let f = weight-heaviest k base b x in let l = f.1 in let m = f.2 in (f.0, omega arith, omega arith)
  | inr y ↦ let f = weight-heaviest k (base + interval_count b) s y in let l = f.1 in let m = f.2 in (f.0, omega arith, omega arith)
]
