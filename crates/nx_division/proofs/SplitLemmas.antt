-- What is drawn is a division.
use Rattle.std.proofs.Common.{◌≡◌, ℕ, ◌+◌, ◌<◌, ◌≤◌, Bool, true, false, ◌&&◌, IsTrue, List, [], ◌∷◌, ◌++◌, length, Option, None, Some, refl, sym, ap, subst, ◌∙◌, arith, inl, inr}
use Rattle.std.specs.Prelude.{Contains}
use Rattle.std.specs.List.{AllPairs}
use Rattle.std.proofs.lemmas.List.Elements.{All-contains, Contains-append_right}
use Rattle.nx_lists.proofs.ListLemmas.{contains_here}
use Rattle.nx_matrix.specs.declared.rule.Entry.{Entry}
use Rattle.nx_matrix.specs.declared.rule.Entry.TheVariants.{Standalone, Cluster, Free}
use Rattle.nx_sketch.specs.declared.spot.Spot.{Spot}
use Rattle.nx_sketch.specs.Sketch.{Sketch, Empty, Plant, placed, spots_of, AreSpotsAtMost, AreRising, AreUnclustered, IsFlat, IsSketch}
use Rattle.nx_parts.specs.declared.interval.Interval.{Interval}
use Rattle.nx_parts.specs.declared.interval.Interval.TheVariants.{Run}
use Rattle.nx_parts.specs.Partitioning.{ShareMember}
use Rattle.nx_cuts.proofs.PairLemmas.{PairsBy}
use Rattle.nx_cuts.proofs.FeasibleLemmas.{reaches_child}
use Rattle.nx_sketch.specs.Plan.{is_cluster, HasNodeAt, IsInside, IsFeasiblePlan, KeepsClusters, AreNeighboursFull, placed_part_weight}
use Rattle.nx_sketch.specs.Separator.{IsSeparatorPlan, point}
use Rattle.nx_sketch.specs.Split.{IsSplit, IsSeparatorSplit, IsRaised, IsDivision}
use Rattle.nx_sketch.proofs.OrderLemmas.{one_plan}
use Rattle.nx_division.specs.declared.cut.Cut.{Cut}
use Rattle.nx_division.specs.declared.cut.Cut.TheVariants.{Stays, Begins, GoesOn}
use Rattle.nx_division.specs.Drawn.{Drawn, Bare, Grown, bare, drawn, heaviest, drawn_intervals, staying_weight, NoneStays}
use Rattle.nx_division.specs.Settled.{core, AreTopsLight, CanBeDrawn, IsFinalDrawing}
use Rattle.nx_division.specs.Divided.{IsSplittable, separator_plan, IsOther, IsDrawnDivision}
use Rattle.nx_division.specs.Raised.{raised_plan, raised_root}
use Rattle.nx_division.proofs.SpotLemmas.{bare-drawn}
use Rattle.nx_division.proofs.CoreLemmas.{if_false}
use Rattle.nx_division.proofs.NumberLemmas.{held, some_same, none_some}
use Rattle.nx_division.proofs.WeightLemmas.{IsWhole, weight_at, whole_apart, whole_weight}
use Rattle.nx_division.proofs.PlanLemmas.{drawn_feasible, drawn_heavy, drawn_keeps, drawn_order}
use Rattle.nx_division.proofs.NeighbourLemmas.{drawn_full}
use Rattle.nx_division.proofs.SeparatedLemmas.{bare-separated, rises_bare, members-separated}
use Rattle.nx_division.proofs.PlannedLemmas.{planned, separator_whole, top_row}
use Rattle.nx_division.proofs.RaisedLemmas.{raised_none, raises, root_found}
use Rattle.nx_division.proofs.ComponentLemmas.{light_tops}

-- where nothing has to stay with another, no node is too heavy with what has to stay with it
core_free : (s : Sketch) → core false s ≡ 0
core_free Empty = refl
core_free (Plant p w e b s) = omega (arith, core_free s)

free_tops : (k : ℕ) (s : Sketch) → AreSpotsAtMost k s → AreTopsLight k false s
free_tops k Empty h = tt
free_tops k (Plant p w e b s) h = ((λ goes. omega (arith, h.1, core_free b)), free_tops k b h.2, free_tops k s h.3)

tops_of : (k : ℕ) (keep : Bool) (s : Sketch) → AreSpotsAtMost k s → (IsTrue keep → AreTopsLight k true s) → AreTopsLight k keep s
tops_of k true s h f = f refl
tops_of k false s h f = free_tops k s h

-- what was found of what has to stay together
pub record Tells (k : ℕ) (keep : Bool) (spots : List Spot) : Type 0 where
  pub yes : IsTrue keep → (s : Sketch) → spots ≡ spots_of s → AreTopsLight k true s
  pub no_tops : ¬ IsTrue keep → (s : Sketch) → spots ≡ spots_of s → ¬ AreTopsLight k true s

pub ready_of : (k : ℕ) (keep : Bool) (spots : List Spot) → IsSplittable k spots → Tells k keep spots → CanBeDrawn k keep spots
ready_of k keep spots h tells = record {
  sketch = h.sketch;
  is = h.is;
  tops = tops_of k keep h.sketch h.light (λ t. tells.yes t h.sketch h.is);
  small = h.small;
}

pub flat_of : (k : ℕ) (spots : List Spot) → IsSplittable k spots → IsFlat spots
flat_of k spots h = record { sketch = h.sketch; is = h.is; small = h.small }

not_cluster : (e : Entry) → (e ≡ Cluster → ⊥) → is_cluster e ≡ false
not_cluster Standalone n = refl
not_cluster Cluster n = absurd (n refl)
not_cluster Free n = refl

and_false : (a b : Bool) → b ≡ false → a && b ≡ false
and_false true b e = e
and_false false b e = refl

-- nothing has to stay with the helper
root_core : (keep : Bool) (s : Sketch) → AreUnclustered s → core keep s ≡ 0
root_core keep Empty u = refl
root_core keep (Plant p w e b s) u = omega (arith, root_core keep s u.1, if_false (keep && is_cluster e) (w + core keep b) 0 (and_false keep (is_cluster e) (not_cluster e u.0)))

members_of : (k : ℕ) (d : Drawn) → AreSpotsAtMost k (bare d) → staying_weight d ≡ 0 → NoneStays d
members_of k Bare h e = tt
members_of k (Grown p w e Stays b s) h z = let w1 = h.0 in omega arith
members_of k (Grown p w e Begins b s) h z = members_of k s h.3 z
members_of k (Grown p w e GoesOn b s) h z = members_of k s h.3 z

keep_known : (k : ℕ) (keep : Bool) (spots : List Spot) (s : Sketch) → spots ≡ spots_of s → Tells k keep spots → AreTopsLight k true s → IsTrue keep
keep_known k true spots s is tells tops = refl
keep_known k false spots s is tells tops = absurd (tells.no_tops (λ t. false_true t) s is tops)
  where
    false_true : IsTrue false → ⊥
    false_true t = cc

-- the plan that was settled is the other one, where the separator's is too heavy
pub settled_divides : (k t tol : ℕ) (keep : Bool) (spots : List Spot) (cuts : List Cut) (rest : ℕ) (s : Sketch) → spots ≡ spots_of s → IsSketch s → AreSpotsAtMost k s → Tells k keep spots → k < heaviest (separator_plan s t tol)
    → ((s : Sketch) → spots ≡ spots_of s → AreTopsLight k keep s → IsFinalDrawing k keep None 0 s (drawn s cuts) rest) → IsOther k t tol s (drawn s cuts)
settled_divides k t tol keep spots cuts rest s is sketch light tells heavy settles =
    let settled = settles s is (tops_of k keep s light (λ t. tells.yes t s is)) in
    let none : staying_weight (drawn s cuts) ≡ 0 = omega (arith, settled.stayed, root_core keep s sketch.unclustered) in
    record {
      heavy = heavy;
      sound = settled.sound;
      members = members_of k (drawn s cuts) (subst (AreSpotsAtMost k) (sym (bare-drawn s cuts)) light) none;
      light = settled.light;
      full = settled.full;
      kept = λ tops. settled.kept (keep_known k keep spots s is tells tops);
    }

-- an interval has one place in the list
one_place : (parts f b g c : List Interval) (root : ℕ) → PairsBy (λ x y. ¬ ShareMember x y) parts → parts ≡ f ++ Run [] root root ∷ b → parts ≡ g ++ Run [] root root ∷ c → length f ≡ length g
one_place parts f b g c root apart is also =
    let m = reaches_child [] root root root (omega arith) (omega arith) in
    some_same (sym (held (root ∷ []) parts f (Run [] root root) b is apart m) ∙ held (root ∷ []) parts g (Run [] root root) c also apart m)

module _ (k target tol : ℕ) (s : Sketch) (sketch : IsSketch s) where
  abbrev plan : Drawn
  plan = separator_plan s (point (placed s) target) tol

  same_plan : bare plan ≡ s
  same_plan = bare-separated (point (placed s) target) tol 0 true true None s

  abbrev runs : List Interval
  runs = drawn_intervals [] plan

  separator_split : heaviest plan ≤ k → IsSeparatorSplit k (placed s) (point (placed s) target) tol runs
  separator_split light = record {
    separator = planned s (point (placed s) target) tol sketch;
    feasible = subst (λ x. IsFeasiblePlan k (placed x) runs) same_plan (drawn_feasible k plan (separator_whole s (point (placed s) target) tol sketch) (members-separated (point (placed s) target) tol 0 None s sketch.unclustered) light);
  }

  too_heavy : k < heaviest plan → ¬ IsFeasiblePlan k (placed s) runs
  too_heavy heavy f = drawn_heavy k plan (separator_whole s (point (placed s) target) tol sketch) heavy (subst (λ x. IsFeasiblePlan k (placed x) runs) (sym same_plan) f)

  run_weight : (index : ℕ) → placed_part_weight (placed s) runs index ≡ weight_at index 0 plan
  run_weight index = subst (λ x. placed_part_weight (placed x) runs index ≡ weight_at index 0 plan) same_plan (whole_weight plan (separator_whole s (point (placed s) target) tol sketch) index)

  -- what is raised is raised of the separator's plan
  raised_of : (room : ℕ) (others : List Interval) (root : ℕ) → IsRaised k (placed s) room (point (placed s) target) tol others root → raised_root room (point (placed s) target) tol 0 plan ≡ Some root
  raised_of room others root h =
      let t = point (placed s) target in
      let x = Run [] root root in
      let same : runs ≡ h.before ++ x ∷ h.behind = one_plan (placed s) t tol runs (h.before ++ x ∷ h.behind) (planned s t tol sketch) h.split.separator in
      let inside = All-contains (IsInside (placed s)) (h.before ++ x ∷ h.behind) x h.split.feasible.plan.inside (Contains-append_right h.before (x ∷ h.behind) x (contains_here x h.behind x refl)) in
      let at : HasNodeAt (placed s) (root ∷ []) = inside.1 root (omega arith) (omega arith) in
      root_found (placed s) t tol room 0 0 0 None s (top_row s t tol sketch) root (omega arith) at h.marked h.unbound
      (λ front back is.
      let place = one_place runs front back h.before h.behind root (whole_apart plan (separator_whole s t tol sketch)) is same in
      let w : weight_at (0 + length front) 0 plan ≡ placed_part_weight (placed s) (h.before ++ x ∷ h.behind) (length h.before) =
      sym (run_weight (0 + length front)) ∙ (λ i. placed_part_weight (placed s) (same i) ((let e : 0 + length front ≡ length h.before = omega arith in e) i)) in
      let le = h.light in omega arith)

  raised_division : (room : ℕ) (raised : Option ℕ) → heaviest plan ≤ k → raised ≡ raised_root room (point (placed s) target) tol 0 plan
      → IsDivision k (placed s) room target tol (drawn_intervals [] (raised_plan room (point (placed s) target) tol 0 plan)) raised
  raised_division room None light is =
      let t = point (placed s) target in
      let stays : raised_plan room t tol 0 plan ≡ plan = raised_none room t tol 0 plan (sym is) in
      subst (λ d. IsDivision k (placed s) room target tol (drawn_intervals [] d) None) (sym stays)
      (record { order = drawn_order plan (separator_whole s t tol sketch); divides = inl (separator_split light) }, λ others root h. none_some (is ∙ raised_of room others root h))
  raised_division room (Some root) light is =
      let t = point (placed s) target in
      let r = raises (placed s) t tol room 0 0 0 None s (top_row s t tol sketch) root (sym is) in
      let x = Run [] root root in
      let w : placed_part_weight (placed s) (r.front ++ x ∷ r.back) (length r.front) ≡ weight_at (0 + length r.front) 0 plan =
      (λ i. placed_part_weight (placed s) (sym r.plan_is i) ((let e : length r.front ≡ 0 + length r.front = omega arith in e) i)) ∙ run_weight (0 + length r.front) in
      let le = r.light in
      record {
        before = r.front;
        behind = r.back;
        split = subst (IsSeparatorSplit k (placed s) t tol) r.plan_is (separator_split light);
        marked = r.marked;
        unbound = r.unbound;
        light = omega arith;
        others = r.rest_is;
      }

  other_division : (room : ℕ) (d : Drawn) → bare d ≡ s → IsOther k (point (placed s) target) tol s d → IsDivision k (placed s) room target tol (drawn_intervals [] d) None
  other_division room d same other =
      let t = point (placed s) target in
      let whole : IsWhole d = record { rises = rises_bare 0 d (subst (AreRising 0) (sym same) sketch.rising); sound = other.sound } in (
        record {
          order = drawn_order d whole;
          divides = inr (record {
            separator = runs;
            planned = planned s t tol sketch;
            heavy = too_heavy other.heavy;
            feasible = subst (λ x. IsFeasiblePlan k (placed x) (drawn_intervals [] d)) same (drawn_feasible k d whole other.members other.light);
            full = subst (λ x. AreNeighboursFull k (placed x) (drawn_intervals [] d)) same (drawn_full k d whole other.full);
            clusters = λ light. subst (λ x. KeepsClusters (placed x) (drawn_intervals [] d)) same (drawn_keeps d whole (other.kept (light_tops k s light)));
          });
        },
        λ others root h.
            too_heavy other.heavy
            (subst (IsFeasiblePlan k (placed s)) (one_plan (placed s) t tol (h.before ++ Run [] root root ∷ h.behind) runs h.split.separator (planned s t tol sketch)) h.split.feasible),
      )

  -- what is drawn of a sketch is its division
  pub drawn_division : (room : ℕ) (d : Drawn) (raised : Option ℕ) → bare d ≡ s → IsDrawnDivision k room (point (placed s) target) tol s d raised → IsDivision k (placed s) room target tol (drawn_intervals [] d) raised
  drawn_division room d raised same (inl sep) =
      subst (λ x. IsDivision k (placed s) room target tol (drawn_intervals [] x) raised) (sym sep.0) (raised_division room raised sep.2 sep.1)
  drawn_division room d raised same (inr other) =
      subst (IsDivision k (placed s) room target tol (drawn_intervals [] d)) (sym other.1) (other_division room d same other.0)
