-- The intervals of a division of a part: none of their parts is too heavy, and the nodes that none of them owns fit into the room above.
use Rattle.std.proofs.Common.{◌≡◌, ℕ, suc, ◌+◌, ◌-◌, ◌<◌, ◌≤◌, ◌==◌, ◌||◌, if◌then◌else◌, Bool, true, false, IsTrue, List, [], ◌∷◌, ◌++◌, length, Option, None, Some, refl, sym, ap, subst, ◌∙◌, arith, get_or, append_assoc, length-append, inl, inr}
use Rattle.std.specs.Prelude.{Contains}
use Rattle.std.specs.List.{All, AllPairs, AllByRecursion}
use Rattle.std.specs.Option.{is_some}
use Rattle.std.proofs.lemmas.Bool.Decides.{nat_tests}
use Rattle.std.proofs.lemmas.List.{get_or_append_left, get_or-append_right}
use Rattle.std.proofs.lemmas.List.Elements.{recursion_from_All}
use Rattle.std.proofs.lemmas.List.Folds.{list_any-append}
use Rattle.nx_parts.specs.declared.interval.Interval.{Interval}
use Rattle.nx_parts.specs.declared.interval.Interval.TheVariants.{Root, Run}
use Rattle.nx_parts.specs.Partitioning.{has_member, ShareMember, holder, owner}
use Rattle.nx_parts.proofs.Owned.{is_place}
use Rattle.nx_parts.proofs.OwnerLemmas.{owner-root}
use Rattle.nx_cuts.proofs.FeasibleLemmas.{le_or}
use Rattle.nx_sketch.specs.Sketch.{Sketch, Empty, Plant, Placed, placed, placed_in}
use Rattle.nx_sketch.specs.Plan.{IsInside, IsFeasiblePlan, placed_part_weight}
use Rattle.nx_sketch.specs.Separator.{point}
use Rattle.nx_sketch.specs.Split.{IsSplit, IsRaised, IsDivision}
use Rattle.nx_drawn.proofs.OwnLemmas.{or_above, own_sketch, own_sketch-same, asked_of, sketch_sum, any_holds, told, any_holder, asked-told}

-- intervals of nodes of a part that share none, and whose parts weigh no more than k
pub record AreLightRuns (k : ℕ) (s : Sketch) (parts : List Interval) : Type 0 where
  pub inside : All (IsInside (placed s)) parts
  pub disjoint : AllPairs (λ a b. ¬ ShareMember a b) parts
  pub light : (index : ℕ) → index < length parts → placed_part_weight (placed s) parts index ≤ k

-- a list without one of its elements
module _ {X : Type 0} (xs ys : List X) (x : X) where
  before_same : (i : ℕ) (d : X) → i < length xs → get_or (xs ++ ys) i d ≡ get_or (xs ++ x ∷ ys) i d
  before_same i d lt = get_or_append_left xs ys d i lt ∙ sym (get_or_append_left xs (x ∷ ys) d i lt)

  behind_same : (i : ℕ) (d : X) → length xs ≤ i → get_or (xs ++ ys) i d ≡ get_or (xs ++ x ∷ ys) (i + 1) d
  behind_same i d le =
      let n : i + 1 - length xs ≡ suc (i - length xs) = omega arith in
      get_or-append_right xs ys (length xs) i d refl le
      ∙ sym (get_or-append_right xs (x ∷ ys) (length xs) (i + 1) d refl (omega arith) ∙ ap (λ m. get_or (x ∷ ys) m d) n)

  pub all_others : (P : X → Type 0) → All P (xs ++ x ∷ ys) → All P (xs ++ ys)
  all_others P a = λ i d lt. elim (le_or i (length xs)) [
    | inl less ↦ subst P (sym (before_same i d less)) (a i d (omega (arith, lt, length-append xs ys, length-append xs (x ∷ ys))))
    | inr more ↦ subst P (sym (behind_same i d more)) (a (i + 1) d (omega (arith, lt, length-append xs ys, length-append xs (x ∷ ys))))
  ]

  pub pairs_others : (R : X → X → Type 0) → AllPairs R (xs ++ x ∷ ys) → AllPairs R (xs ++ ys)
  pairs_others R a = λ i j d low high.
      let most : j + 1 < length (xs ++ x ∷ ys) = omega (arith, high, length-append xs ys, length-append xs (x ∷ ys)) in
      elim (le_or j (length xs)) [
        | inl less ↦ subst (λ y. R y (get_or (xs ++ ys) j d)) (sym (before_same i d (omega arith))) (subst (R (get_or (xs ++ x ∷ ys) i d)) (sym (before_same j d less)) (a i j d low (omega arith)))
        | inr more ↦ elim (le_or i (length xs)) [
          | inl less ↦ subst (λ y. R y (get_or (xs ++ ys) j d)) (sym (before_same i d less)) (subst (R (get_or (xs ++ x ∷ ys) i d)) (sym (behind_same j d more)) (a i (j + 1) d (omega arith) most))
          | inr also ↦ subst (λ y. R y (get_or (xs ++ ys) j d)) (sym (behind_same i d also)) (subst (R (get_or (xs ++ x ∷ ys) (i + 1) d)) (sym (behind_same j d more)) (a (i + 1) (j + 1) d (omega arith) most))
        ]
      ]

-- what a sketch owns by one answer and by another, which differ at its roots alone
abbrev pub AtRoots : (ℕ → Type 0) → Sketch → Type 0
AtRoots P Empty = Unit {0}
AtRoots P (Plant p w e b s) = P p × AtRoots P s

at_all : (P : ℕ → Type 0) → ((p : ℕ) → P p) → (s : Sketch) → AtRoots P s
at_all P f Empty = tt
at_all P f (Plant p w e b s) = (f p, at_all P f s)

own_sketch-below : (ask other : List ℕ → Option Bool) (mine : Bool) (path : List ℕ) (s : Sketch) → ((step : ℕ) (rest : List ℕ) → ask (path ++ step ∷ rest) ≡ other (path ++ step ∷ rest)) → own_sketch ask mine path s ≡ own_sketch other mine path s
own_sketch-below ask other mine path Empty same = refl
own_sketch-below ask other mine path (Plant p w e b s) same =
    let q = path ++ p ∷ [] in
    let o : or_above (ask q) mine ≡ or_above (other q) mine = ap (λ (x : Option Bool). or_above x mine) (same p []) in
    let a : (if or_above (ask q) mine then w else 0) ≡ (if or_above (other q) mine then w else 0) = ap (λ (t : Bool). if t then w else 0) o in
    let y : own_sketch ask (or_above (ask q) mine) q b ≡ own_sketch other (or_above (other q) mine) q b =
    own_sketch-below ask other (or_above (ask q) mine) q b (λ step rest. let l = append_assoc path (p ∷ []) (step ∷ rest) in ap ask l ∙ same p (step ∷ rest) ∙ sym (ap other l)) ∙ ap (λ (t : Bool). own_sketch other t q b) o in
    let z = own_sketch-below ask other mine path s same in
    omega (arith, a, y, z)

pub own_sketch-top : (ask other : List ℕ → Option Bool) (m n : Bool) (s : Sketch) → AtRoots (λ p. or_above (ask (p ∷ [])) m ≡ or_above (other (p ∷ [])) n) s
    → ((p next : ℕ) (rest : List ℕ) → ask (p ∷ next ∷ rest) ≡ other (p ∷ next ∷ rest)) → own_sketch ask m [] s ≡ own_sketch other n [] s
own_sketch-top ask other m n Empty top deep = refl
own_sketch-top ask other m n (Plant p w e b s) top deep =
    let a : (if or_above (ask (p ∷ [])) m then w else 0) ≡ (if or_above (other (p ∷ [])) n then w else 0) = ap (λ (t : Bool). if t then w else 0) top.0 in
    let y : own_sketch ask (or_above (ask (p ∷ [])) m) (p ∷ []) b ≡ own_sketch other (or_above (other (p ∷ [])) n) (p ∷ []) b =
    own_sketch-below ask other (or_above (ask (p ∷ [])) m) (p ∷ []) b (deep p) ∙ ap (λ (t : Bool). own_sketch other t (p ∷ []) b) top.0 in
    let z = own_sketch-top ask other m n s top.1 deep in
    omega (arith, a, y, z)

-- no interval of a part's nodes has the helper
helper_free : (nodes : List Placed) (parts : List Interval) → AllByRecursion (IsInside nodes) parts → any_holds parts [] ≡ false
helper_free nodes [] a = refl
helper_free nodes (Root ∷ parts) a = absurd a.0
helper_free nodes (Run [] f l ∷ parts) a = helper_free nodes parts a.1
helper_free nodes (Run (step ∷ parent) f l ∷ parts) a = helper_free nodes parts a.1

pub top_unowned : (s : Sketch) (parts : List Interval) → All (IsInside (placed s)) parts → owner parts [] ≡ None
top_unowned s parts inside =
    owner-root parts
    ∙ (elim (holder parts []) as (λ o. is_some o ≡ false → o ≡ None) [ None ↦ λ e. refl | Some i ↦ λ e. cc ])
    (any_holder [] parts ∙ helper_free (placed s) parts (recursion_from_All (IsInside (placed s)) parts inside))

-- what an interval owns, by its members and those of the others
pub runs_own : (s : Sketch) (parts : List Interval) → All (IsInside (placed s)) parts → AllPairs (λ a b. ¬ ShareMember a b) parts → (i : ℕ) → i < length parts
    → placed_part_weight (placed s) parts i ≡ own_sketch (λ q. told (has_member (get_or parts i Root) q) (any_holds parts q)) false [] s
runs_own s parts inside disjoint i lt =
    sketch_sum parts i [] s ∙ ap (λ (o : Option ℕ). own_sketch (asked_of parts i) (is_place i o) [] s) (top_unowned s parts inside) ∙ own_sketch-same false [] s (asked-told parts i disjoint lt)

either_swap : (a b c : Bool) → a || (b || c) ≡ b || (a || c)
either_swap true true c = refl
either_swap true false c = refl
either_swap false b c = refl

-- the intervals of a plan without that of a root
module _ (before behind : List Interval) (root : ℕ) where
  abbrev whole : List Interval
  whole = before ++ Run [] root root ∷ behind

  abbrev others : List Interval
  others = before ++ behind

  pub whole_holds : (q : List ℕ) → any_holds whole q ≡ has_member (Run [] root root) q || any_holds others q
  whole_holds q =
      list_any-append (λ (y : Interval). has_member y q) before (Run [] root root ∷ behind) ∙ either_swap (any_holds before q) (has_member (Run [] root root) q) (any_holds behind q)
      ∙ ap (λ t. has_member (Run [] root root) q || t) (sym (list_any-append (λ (y : Interval). has_member y q) before behind))

  -- below the roots they have the same nodes
  pub deep_holds : (p next : ℕ) (rest : List ℕ) → any_holds others (p ∷ next ∷ rest) ≡ any_holds whole (p ∷ next ∷ rest)
  deep_holds p next rest = sym (whole_holds (p ∷ next ∷ rest))

  module _ (k : ℕ) (s : Sketch) (plan : IsFeasiblePlan k (placed s) whole) where
    others_inside : All (IsInside (placed s)) others
    others_inside = all_others before behind (Run [] root root) (IsInside (placed s)) plan.plan.inside

    others_disjoint : AllPairs (λ a b. ¬ ShareMember a b) others
    others_disjoint = pairs_others before behind (Run [] root root) (λ a b. ¬ ShareMember a b) plan.plan.disjoint

    same_weight : (i j : ℕ) → i < length others → j < length whole → get_or others i Root ≡ get_or whole j Root → placed_part_weight (placed s) others i ≡ placed_part_weight (placed s) whole j
    same_weight i j lt more same =
        runs_own s others others_inside others_disjoint i lt
        ∙ own_sketch-top (λ q. told (has_member (get_or others i Root) q) (any_holds others q)) (λ q. told (has_member (get_or others i Root) q) (any_holds whole q)) false false s (at_all _ (λ p. claim_same (has_member (get_or others i Root) (p ∷ [])) (any_holds others (p ∷ [])) (any_holds whole (p ∷ []))) s) (λ p next rest. ap (told (has_member (get_or others i Root) (p ∷ next ∷ rest))) (deep_holds p next rest))
        ∙ ap (λ (y : Interval). own_sketch (λ q. told (has_member y q) (any_holds whole q)) false [] s) same
        ∙ sym (runs_own s whole plan.plan.inside plan.plan.disjoint j more)
      where
        claim_same : (m a b : Bool) → or_above (told m a) false ≡ or_above (told m b) false
        claim_same true a b = refl
        claim_same false true true = refl
        claim_same false true false = refl
        claim_same false false true = refl
        claim_same false false false = refl

    pub others_light : AreLightRuns k s others
    others_light = record {
      inside = others_inside;
      disjoint = others_disjoint;
      light = λ i lt.
          let long = length-append before behind in
          let more = length-append before (Run [] root root ∷ behind) in
          elim (le_or i (length before)) [
            | inl less ↦
                let w = same_weight i i lt (omega arith) (before_same before behind (Run [] root root) i Root less) in
                let l = plan.light i (omega arith) in omega arith
            | inr far ↦
                let w = same_weight i (i + 1) lt (omega arith) (behind_same before behind (Run [] root root) i Root far) in
                let l = plan.light (i + 1) (omega arith) in omega arith
          ];
    }

pub split_feasible : (k : ℕ) (nodes : List Placed) (target tolerance : ℕ) (parts : List Interval) → IsSplit k nodes target tolerance parts → IsFeasiblePlan k nodes parts
split_feasible k nodes target tolerance parts s = elim s.divides [ inl x ↦ x.feasible | inr x ↦ x.feasible ]

-- the intervals of a division
pub division_light : (k room target tolerance : ℕ) (s : Sketch) (parts : List Interval) (raised : Option ℕ) → IsDivision k (placed s) room target tolerance parts raised → AreLightRuns k s parts
division_light k room target tolerance s parts None d =
    let f = split_feasible k (placed s) target tolerance parts d.0 in record { inside = f.plan.inside; disjoint = f.plan.disjoint; light = f.light }
division_light k room target tolerance s parts (Some root) d = subst (AreLightRuns k s) (sym d.others) (others_light d.before d.behind root k s d.split.feasible)
