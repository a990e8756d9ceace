-- A division, drawn into the layout of the part that it divides.
use Rattle.std.proofs.Common.{◌≡◌, ℕ, zero, suc, ◌+◌, ◌-◌, ◌≤◌, nat_le, Bool, true, false, ◌&&◌, IsTrue, List, [], ◌∷◌, ◌++◌, Option, None, Some, refl, sym, ap, subst, ◌∙◌, arith, IsPermutation, AllPairs, inl, inr}
use Rattle.std.specs.Prelude.{Contains, ◌||◌}
use Rattle.std.specs.List.{AllByRecursion}
use Rattle.std.specs.Option.{is_some}
use Rattle.std.proofs.lemmas.Bool.{cases_Bool}
use Rattle.std.proofs.lemmas.Bool.Decides.{nat_tests}
use Rattle.std.proofs.lemmas.List.Folds.{list_any-append}
use Rattle.std.proofs.lemmas.List.Sorted.{IsPermutation-refl, IsPermutation-trans, IsPermutation-cons, IsPermutation-sym, All-permutation, list_any-IsPermutation}
use Rattle.std.proofs.lemmas.List.Elements.{All-from_recursion, recursion_from_All}
use Rattle.nx_tree.specs.declared.node.Node.{Node}
use Rattle.nx_tree.specs.declared.node.Kind.TheVariants.{Text}
use Rattle.nx_tree.specs.Forest.{Forest, OrderedTree}
use Rattle.nx_tree.specs.Edit.{at}
use Rattle.nx_weights.specs.Weight.{total}
use Rattle.nx_parts.specs.declared.interval.Interval.{Interval}
use Rattle.nx_parts.specs.declared.interval.Interval.TheVariants.{Root, Run}
use Rattle.nx_parts.specs.Partitioning.{has_member, ShareMember, holder}
use Rattle.nx_matrix.specs.declared.rule.Rule.{Rule}
use Rattle.nx_cuts.specs.Cut.{CutForest, CutTree, Bare, Grown, Kept, forest, width, intervals, cuts, AreParts, tree_of}
use Rattle.nx_cuts.proofs.Draw.{drawn, IsFreeAt}
use Rattle.nx_cuts.proofs.PartitionLemmas.{Pairs}
use Rattle.nx_cuts.proofs.FreeLemmas.{IsApart, free_at}
use Rattle.nx_cuts.proofs.DeepLemmas.{drawn_adds}
use Rattle.nx_cuts.proofs.FeasibleLemmas.{IsDrawn, Members, no_truth}
use Rattle.nx_layouts.specs.Layout.{Layout, without_places, laid_forest}
use Rattle.nx_sketch.specs.Sketch.{Sketch, Placed, placed}
use Rattle.nx_sketch.specs.Plan.{IsInside, HasNodeAt}
use Rattle.nx_sketch.specs.Split.{IsDivision}
use Rattle.nx_split.specs.Piece.{asked_of_root}
use Rattle.nx_drawn.specs.Splits.{part_nodes, part_sketch, Divides}
use Rattle.nx_drafts.specs.Draft.{Draft, Ends, Grows, Stands, Comes, drawn_forest, layout_before, AreHeldBut}
use Rattle.nx_drafts.specs.Laws.{DivisionIsDrafted}
use Rattle.nx_layouts.proofs.DrawnLemmas.{drawn_wide}
use Rattle.nx_drawn.proofs.OwnLemmas.{any_holds, any_holder, either_false}
use Rattle.nx_drawn.proofs.DivisionLemmas.{division_light, split_feasible, whole_holds}
use Rattle.nx_drawn.proofs.DividedLemmas.{IsClear, heavier_parts, nodes_clear, members_clear, drawn_agrees, divided_parts}
use Rattle.nx_cuts.proofs.FoldLemmas.{drawn_keeps}
use Rattle.nx_drafts.proofs.OpenLemmas.{OpenRow, OpenAt, LeadsTo, leads, open_behind, top_placed, placed_open}
use Rattle.nx_drafts.proofs.DraftEdit.{gathered_at}
use Rattle.nx_drafts.proofs.GatherLemmas.{width-layout_before, forest-layout_before, gathered_follows}

-- a draft of this layout with just these intervals to come
pub record IsGathered (k : ℕ) (members : Layout) (xs : List Interval) : Type 0 where
  pub draft : Draft (Unit {0})
  pub stands : layout_before draft ≡ members
  pub drawn_are : IsPermutation (intervals [] 0 (drawn_forest draft)) (xs ++ intervals [] 0 (without_places members))
  pub form : AreParts k (drawn_forest draft)

-- as it stands
abbrev pub unchanged_draft : Layout → Draft (Unit {0})
unchanged_draft Bare = Ends
unchanged_draft (Grown n b s) = Grows n (unchanged_draft b) (unchanged_draft s)
unchanged_draft (Kept r m s) = Stands r m (unchanged_draft s)

layout_before-draft : (a : Layout) → layout_before (unchanged_draft a) ≡ a
layout_before-draft Bare = refl
layout_before-draft (Grown n b s) = ap (λ (l : Layout). Grown n l (layout_before (unchanged_draft s))) (layout_before-draft b) ∙ ap (Grown n b) (layout_before-draft s)
layout_before-draft (Kept r m s) = ap (Kept r m) (layout_before-draft s)

drawn_forest-draft : (a : Layout) → drawn_forest (unchanged_draft a) ≡ without_places a
drawn_forest-draft Bare = refl
drawn_forest-draft (Grown n b s) = ap (λ (l : CutForest). Grown n.node l (drawn_forest (unchanged_draft s))) (drawn_forest-draft b) ∙ ap (Grown n.node (without_places b)) (drawn_forest-draft s)
drawn_forest-draft (Kept r m s) = ap (Kept tt (without_places m)) (drawn_forest-draft s)

-- an interval that has no node of the others is apart from them
pub apart_from : (x : Interval) (ys : List Interval) → ((q : List ℕ) → IsTrue (has_member x q) → any_holds ys q ≡ false) → IsApart x ys
apart_from x [] f = tt
apart_from x (y ∷ ys) f = (
  λ s. no_truth (sym (either_false (has_member y s.0) (any_holds ys s.0) (f s.0 s.1)).0 ∙ s.2),
  apart_from x ys (λ q t. (either_false (has_member y q) (any_holds ys q) (f q t)).1),
)

pub both_apart : (x : Interval) (xs ys : List Interval) → IsApart x xs → IsApart x ys → IsApart x (xs ++ ys)
both_apart x [] ys a b = b
both_apart x (z ∷ xs) ys a b = (a.0, both_apart x xs ys a.1 b)

pub pairs_of : (xs : List Interval) → AllPairs (λ a b. ¬ ShareMember a b) xs → Pairs xs
pairs_of [] a = tt
pairs_of (x ∷ xs) a = (recursion_from_All (λ y. ¬ ShareMember x y) xs (λ k d h. a 0 (suc k) d (omega arith) (omega arith)), pairs_of xs (λ i j d low high. a (suc i) (suc j) d (omega arith) (omega arith)))

-- where the path is clear of other intervals, none of them has the node at its end
not_held : (ys : List Interval) (q : List ℕ) → IsClear (holder ys) [] q → any_holds ys q ≡ false
not_held ys q c = sym (any_holder q ys) ∙ ap (λ (o : Option ℕ). is_some o) (ap (holder ys) c.leads ∙ c.clear c.rest [] (sym (nothing c.rest)))
  where
    nothing : (l : List ℕ) → l ++ [] ≡ l
    nothing [] = refl
    nothing (x ∷ l) = ap (λ (r : List ℕ). x ∷ r) (nothing l)

helper : Node
helper = record { kind = Text; name = []; content = [] }

module _ (rules : List Rule) (above : Option Node) (k : ℕ) (members : Layout) (small : total (forest (without_places members)) ≤ k) where
  abbrev olds : List Interval
  olds = intervals [] 0 (without_places members)

  abbrev nodes : List Placed
  nodes = part_nodes rules above (without_places members)

  one_more : (parent : List ℕ) (a l : ℕ) (xs : List Interval) → IsInside nodes (Run parent a l) → IsApart (Run parent a l) xs → IsApart (Run parent a l) olds → IsGathered k members xs → IsGathered k members (Run parent a l ∷ xs)
  one_more parent a l xs inside apart clear d =
      let le : a ≤ l = inside.0 in
      let way : LeadsTo helper parent l members = leads helper parent l members (placed_open rules (asked_of_root rules above) members (parent ++ l ∷ []) (inside.1 l le (omega arith))) in
      let count = l + 1 - a in
      let t : CutTree = record { node = helper; below = drawn_forest d.draft } in
      let wide = way.wide in
      let same : forest (drawn_forest d.draft) ≡ laid_forest members = sym (forest-layout_before d.draft) ∙ ap laid_forest d.stands in
      let at_is : at (tree_of t) parent ≡ Some way.tree = ap (λ (f : Forest). let z : OrderedTree = record { node = helper; below = f } in at z parent) same ∙ way.at_is in
      let away : IsApart (Run parent a l) (intervals [] 0 (drawn_forest d.draft)) =
      recursion_from_All (λ x. ¬ ShareMember (Run parent a l) x) (intervals [] 0 (drawn_forest d.draft)) (All-permutation (λ x. ¬ ShareMember (Run parent a l) x) (xs ++ olds) (intervals [] 0 (drawn_forest d.draft))
      (IsPermutation-sym (intervals [] 0 (drawn_forest d.draft)) (xs ++ olds) d.drawn_are) (All-from_recursion (λ x. ¬ ShareMember (Run parent a l) x) (xs ++ olds) (both_apart (Run parent a l) xs olds apart clear))) in
      let free : IsFreeAt parent a count (drawn_forest d.draft) = free_at k parent way.tree a count a l refl (omega arith) (omega arith) (omega arith) [] t d.form at_is away in
      let light : total (forest (drawn_forest d.draft)) ≤ k = let e = ap total same in omega (arith, e, small) in
      let kept = drawn_keeps k parent a count (omega arith) t free light d.form in
      let new = drawn_adds parent a count [] t free in
      let r = gathered_follows parent a count helper d.draft (subst (OpenAt parent) (sym d.stands) way.is_open) free in
      let is : (drawn parent a count t).below ≡ drawn_forest (gathered_at parent a count d.draft) = ap (λ (u : CutTree). u.below) r.0 in
      let end : a + count - 1 ≡ l = omega arith in
      record {
        draft = gathered_at parent a count d.draft;
        stands = r.1 ∙ d.stands;
        drawn_are = subst (λ (c : CutForest). IsPermutation (intervals [] 0 c) (Run parent a l ∷ xs ++ olds)) is
            (IsPermutation-trans (intervals [] 0 (drawn parent a count t).below) (Run parent a (a + count - 1) ∷ intervals [] 0 (drawn_forest d.draft)) (Run parent a l ∷ xs ++ olds) new
            (subst (λ i. IsPermutation (Run parent a (a + count - 1) ∷ intervals [] 0 (drawn_forest d.draft)) (Run parent a i ∷ xs ++ olds)) end
            (IsPermutation-cons (Run parent a (a + count - 1)) (intervals [] 0 (drawn_forest d.draft)) (xs ++ olds) d.drawn_are)));
        form = subst (AreParts k) is kept.1.parts;
      }

  all_gathered : (parts : List Interval) → AllByRecursion (IsInside nodes) parts → Pairs parts → AllByRecursion (λ x. IsApart x olds) parts → AreParts k (without_places members) → IsGathered k members parts
  all_gathered [] inside p away form = record {
    draft = unchanged_draft members;
    stands = layout_before-draft members;
    drawn_are = subst (λ (c : CutForest). IsPermutation (intervals [] 0 c) olds) (sym (drawn_forest-draft members)) (IsPermutation-refl olds);
    form = subst (AreParts k) (sym (drawn_forest-draft members)) form;
  }
  all_gathered (Root ∷ parts) inside p away form = absurd inside.0
  all_gathered (Run parent a l ∷ parts) inside p away form = one_more parent a l parts inside.0 p.0 away.0 (all_gathered parts inside.1 p.1 away.1 form)

-- parts whose nodes are clear of the intervals below are apart from them
pub all_apart : (ys parts : List Interval) → Members (IsClear (holder ys) []) parts → AllByRecursion (λ x. IsApart x ys) parts
all_apart ys [] m = tt
all_apart ys (x ∷ parts) m = (apart_from x ys (λ q t. not_held ys q (m.0 q t)), all_apart ys parts m.1)

-- where each root but one is held, all but that are members of intervals
all_held : (h : List ℕ → Option ℕ) (raised : Option ℕ) (base position : ℕ) (c : Draft (Unit {0})) → IsDrawn h None base [] position (drawn_forest c)
    → ((step : ℕ) → OpenRow step (λ b. Unit {0}) (layout_before c) → h ((position + step) ∷ []) ≡ None → raised ≡ Some (position + step)) → AreHeldBut raised position c
all_held h raised base position Ends d f = tt
all_held h raised base position (Grows n b s) d f =
    let here : position + 0 ≡ position = omega arith in (
      f 0 tt (ap (λ (i : ℕ). h (i ∷ [])) here ∙ d.0) ∙ ap Some here,
      all_held h raised (base + cuts (drawn_forest b)) (position + 1) s d.2
          (λ step o none. let same : position + suc step ≡ position + 1 + step = omega arith in f (suc step) o (ap (λ (i : ℕ). h (i ∷ [])) same ∙ none) ∙ ap Some same),
    )
all_held h raised base position (Stands r m s) d f =
    let w = drawn_wide m in
    subst (λ (i : ℕ). AreHeldBut raised i s) (let e : position + width (without_places m) ≡ position + width m = omega (arith, w) in e)
    (all_held h raised (base + 1 + cuts (without_places m)) (position + width (without_places m)) s d.1
    (λ step o none.
    let same : position + (width m + step) ≡ position + width (without_places m) + step = omega (arith, w) in
    f (width m + step) (omega arith, subst (λ (i : ℕ). OpenRow i (λ b. Unit {0}) (layout_before s)) (let e : step ≡ width m + step - width m = omega arith in e) o)
    (ap (λ (i : ℕ). h (i ∷ [])) same ∙ none)
    ∙ ap Some same))
all_held h raised base position (Comes u m s) d f =
    let w = width-layout_before m in
    all_held h raised (base + 1 + cuts (drawn_forest m)) (position + width (drawn_forest m)) s d.1
    (λ step o none.
    let same : position + (width (layout_before m) + step) ≡ position + width (drawn_forest m) + step = omega (arith, w) in
    f (width (layout_before m) + step) (open_behind (λ b. Unit {0}) step (layout_before m) (layout_before s) o) (ap (λ (i : ℕ). h (i ∷ [])) same ∙ none) ∙ ap Some same)

held_any : (parts : List Interval) (x : Interval) (q : List ℕ) → Contains parts x → IsTrue (has_member x q) → any_holds parts q ≡ false → ⊥
held_any [] x q c t none = let lt = c.1 in absurd (omega arith)
held_any (y ∷ parts) x q (zero, lt, e) t none = no_truth (sym (either_false (has_member y q) (any_holds parts q) none).0 ∙ ap (λ (z : Interval). has_member z q) e ∙ t)
held_any (y ∷ parts) x q (suc i, lt, e) t none = held_any parts x q (i, omega arith, e) t (either_false (has_member y q) (any_holds parts q) none).1

-- the one root that no interval of a division has is the one that is raised
unheld_root : (k room target tolerance : ℕ) (s : Sketch) (parts : List Interval) (raised : Option ℕ) → IsDivision k (placed s) room target tolerance parts raised → (p : ℕ) → HasNodeAt (placed s) (p ∷ []) → any_holds parts (p ∷ []) ≡ false → raised ≡ Some p
unheld_root k room target tolerance s parts None d p at none =
    let held = (split_feasible k (placed s) target tolerance parts d.0).plan.rooted p at in
    absurd (held_any parts held.0 (p ∷ []) held.1 held.2 none)
unheld_root k room target tolerance s parts (Some root) d p at none =
    let held = d.split.feasible.plan.rooted p at in
    let others : any_holds (d.before ++ d.behind) (p ∷ []) ≡ false = ap (λ (xs : List Interval). any_holds xs (p ∷ [])) (sym d.others) ∙ none in
    elim (cases_Bool (has_member (Run [] root root) (p ∷ []))) [
      | inl mine ↦ ap Some (only_root root p mine)
      | inr not ↦ absurd (held_any (d.before ++ Run [] root root ∷ d.behind) held.0 (p ∷ []) held.1 held.2 (whole_holds d.before d.behind root (p ∷ []) ∙ (λ i. not i || others i)))
    ]
  where
    both_true : (a b : Bool) → a && b ≡ true → (a ≡ true) × (b ≡ true)
    both_true true true e = (refl, refl)
    both_true true false e = cc
    both_true false b e = cc

    only_root : (root p : ℕ) → nat_le root p && nat_le p root ≡ true → root ≡ p
    only_root root p e = let f = both_true (nat_le root p) (nat_le p root) e in let x = f.0 in let y = f.1 in grind (arith, nat_tests)

pub division_is_drafted : DivisionIsDrafted
division_is_drafted settings rules room above k members parts raised most light division =
    let old = without_places members in
    let olds = intervals [] 0 old in
    let nodes = part_nodes rules above old in
    let sketch = part_sketch rules (asked_of_root rules above) 0 old in
    let runs = division_light settings.k room settings.target settings.tolerance sketch parts raised division in
    let form : AreParts k old = light in
    let big = k + total (forest old) in
    let inside = recursion_from_All (IsInside nodes) parts runs.inside in
    let clear : Members (IsClear (holder olds) []) parts =
    members_clear (holder olds) nodes parts (nodes_clear rules (holder olds) None (asked_of_root rules above) 0 [] 0 old refl (drawn_agrees k old form)) inside in
    let d : IsGathered big members parts = all_gathered rules above big members (omega arith) parts inside (pairs_of parts runs.disjoint) (all_apart olds parts clear) (heavier_parts k big old (omega arith) form) in
    let divides : Divides settings rules room above old (drawn_forest d.draft) = record {
      parts = parts;
      raised = raised;
      division = division;
      same = sym (forest-layout_before d.draft) ∙ ap laid_forest d.stands;
      drawn = d.drawn_are;
      limit = big;
      formed = d.form;
    } in
    let all = intervals [] 0 (drawn_forest d.draft) in
    record {
      draft = d.draft;
      stands = d.stands;
      drawn = d.drawn_are;
      light = divided_parts settings rules above old (drawn_forest d.draft) k form room divides most;
      held = all_held (holder all) raised 0 0 d.draft (drawn_agrees big (drawn_forest d.draft) d.form)
          (λ step o none.
          let top = top_placed rules (asked_of_root rules above) [] 0 step members (subst (OpenRow step (λ b. Unit {0})) d.stands o) in
          let some : any_holds all ((0 + step) ∷ []) ≡ false = sym (any_holder ((0 + step) ∷ []) all) ∙ ap (λ (o : Option ℕ). is_some o) none in
          let list : any_holds parts ((0 + step) ∷ []) || any_holds olds ((0 + step) ∷ []) ≡ false =
          sym (list_any-append (λ (x : Interval). has_member x ((0 + step) ∷ [])) parts olds) ∙ sym (list_any-IsPermutation (λ (x : Interval). has_member x ((0 + step) ∷ [])) all (parts ++ olds) d.drawn_are) ∙ some in
          unheld_root settings.k room settings.target settings.tolerance sketch parts raised division (0 + step) top (either_false (any_holds parts ((0 + step) ∷ [])) (any_holds olds ((0 + step) ∷ [])) list).0);
    }
