-- The marks of a split agree with its draft.
use Rattle.std.proofs.Common.{◌≡◌, ℕ, zero, suc, ◌+◌, ◌-◌, ◌<◌, ◌≤◌, Bool, true, false, if◌then◌else◌, List, [], ◌∷◌, ◌++◌, length, get_or, Option, None, Some, refl, sym, ap, subst, ◌∙◌, arith, append_assoc, AllPairs}
use Rattle.std.specs.List.{AllByRecursion, position_from}
use Rattle.std.proofs.lemmas.Iterator.Adapters.{position_from-zero}
use Rattle.std.proofs.lemmas.List.Elements.{recursion_from_All}
use Rattle.nx_tree.specs.declared.node.Node.{Node}
use Rattle.nx_tree.specs.declared.node.Kind.TheVariants.{Text}
use Rattle.nx_parts.specs.declared.interval.Interval.{Interval}
use Rattle.nx_parts.specs.declared.interval.Interval.TheVariants.{Root, Run}
use Rattle.nx_parts.specs.Partitioning.{has_member, ShareMember, holder}
use Rattle.nx_matrix.specs.declared.rule.Rule.{Rule}
use Rattle.nx_cuts.specs.Cut.{CutForest, Bare, Grown, Kept, width, intervals, cuts, AreParts}
use Rattle.nx_cuts.proofs.FeasibleLemmas.{IsDrawn, Members, reaches_child}
use Rattle.nx_cuts.proofs.FreeLemmas.{IsApart}
use Rattle.nx_cuts.proofs.PairLemmas.{PairsBy, all_pairs}
use Rattle.nx_cuts.proofs.WeightLemmas.{AreDistinct}
use Rattle.nx_layouts.specs.Layout.{Layout, without_places, AreLaidParts}
use Rattle.nx_layouts.specs.Replace.{joined_layout}
use Rattle.nx_sketch.specs.Sketch.{Placed}
use Rattle.nx_sketch.specs.Plan.{IsInside}
use Rattle.nx_split.specs.Piece.{asked_of_root}
use Rattle.nx_build.specs.Marked as cut
use Rattle.nx_build.proofs.HolderLemmas.{drawn_agrees, first_held}
use Rattle.nx_build.proofs.MarkedLemmas as mark
use Rattle.nx_drawn.specs.Splits.{part_nodes, part_sketch}
use Rattle.nx_drafts.specs.Draft.{Draft, Ends, Grows, Stands, Comes, drawn_forest, layout_before}
use Rattle.nx_drafts.specs.Laws.{IsDrafted}
use Rattle.nx_layouts.proofs.DrawnLemmas.{drawn_wide}
use Rattle.nx_drawn.proofs.DividedLemmas as divided
use Rattle.nx_drawn.proofs.DivisionLemmas.{AreLightRuns}
use Rattle.nx_drawn.proofs.DividedLemmas.{IsClear, nodes_clear, members_clear, drawn_apart, away, no_holder}
use Rattle.nx_drafts.proofs.DraftLemmas.{all_apart, both_apart}
use Rattle.nx_drafts.proofs.GatherLemmas.{width-layout_before}
use Rattle.nx_divide.specs.Marked.{BeginsApart, IsHeldAs}
use Rattle.nx_divide.proofs.MarkedLemmas.{agrees_same}

found_first : (f : Interval → Bool) (base i : ℕ) (xs ys : List Interval) → position_from f base xs ≡ Some i → position_from f base (xs ++ ys) ≡ Some i
found_first f base i [] ys e = cc
found_first f base i (x ∷ xs) ys e = (elim (f x) as (λ t. (if t then Some base else position_from f (base + 1) xs) ≡ Some i → (if t then Some base else position_from f (base + 1) (xs ++ ys)) ≡ Some i) [ true ↦ λ h. h | false ↦ λ h. found_first f (base + 1) i xs ys h ]) e

none_behind : (f : Interval → Bool) (base : ℕ) (xs ys : List Interval) → ((other : ℕ) → position_from f other ys ≡ None) → position_from f base (xs ++ ys) ≡ position_from f base xs
none_behind f base [] ys none = none base
none_behind f base (x ∷ xs) ys none = ap (λ (o : Option ℕ). if f x then Some base else o) (none_behind f (base + 1) xs ys none)

none_from : (f : Interval → Bool) (base other : ℕ) (ys : List Interval) → position_from f base ys ≡ None → position_from f other ys ≡ None
none_from f base other [] e = refl
none_from f base other (y ∷ ys) e = (elim (f y) as (λ t. (if t then Some base else position_from f (base + 1) ys) ≡ None → (if t then Some other else position_from f (other + 1) ys) ≡ None) [ true ↦ λ h. cc | false ↦ λ h. none_from f (base + 1) (other + 1) ys h ]) e

module _ (parts olds : List Interval) where
  held_first : (q : List ℕ) (i : ℕ) → holder parts q ≡ Some i → holder (parts ++ olds) q ≡ Some i
  held_first q i e =
      position_from-zero (λ x. has_member x q) (parts ++ olds) ∙ found_first (λ x. has_member x q) 0 i parts olds (sym (position_from-zero (λ x. has_member x q) parts) ∙ e)

  held_same : (q : List ℕ) → holder olds q ≡ None → holder (parts ++ olds) q ≡ holder parts q
  held_same q none =
      position_from-zero (λ x. has_member x q) (parts ++ olds)
      ∙ none_behind (λ x. has_member x q) 0 parts olds (λ other. none_from (λ x. has_member x q) 0 other olds (sym (position_from-zero (λ x. has_member x q) olds) ∙ none))
      ∙ sym (position_from-zero (λ x. has_member x q) parts)

drawn_parted : (h : List ℕ → Option ℕ) (here : Option ℕ) (base : ℕ) (path : List ℕ) (position : ℕ) (a b : Layout) → IsDrawn h here base path position (without_places (joined_layout a b))
    → IsDrawn h here base path position (without_places a) × IsDrawn h here (base + cuts (without_places a)) path (position + width (without_places a)) (without_places b)
drawn_parted h here base path position Bare b d =
    (tt, subst (λ (i : ℕ). IsDrawn h here i path (position + 0) (without_places b)) (let e : base ≡ base + 0 = omega arith in e) (subst (λ (i : ℕ). IsDrawn h here base path i (without_places b)) (let e : position ≡ position + 0 = omega arith in e) d))
drawn_parted h here base path position (Grown n c s) b d =
    let r = drawn_parted h here (base + cuts (without_places c)) path (position + 1) s b d.2 in (
      (d.0, d.1, r.0),
      subst (λ (i : ℕ). IsDrawn h here i path (position + (1 + width (without_places s))) (without_places b)) (let e : base + cuts (without_places c) + cuts (without_places s) ≡ base + (cuts (without_places c) + cuts (without_places s)) = omega arith in e)
          (subst (λ (i : ℕ). IsDrawn h here (base + cuts (without_places c) + cuts (without_places s)) path i (without_places b)) (let e : position + 1 + width (without_places s) ≡ position + (1 + width (without_places s)) = omega arith in e) r.1),
    )
drawn_parted h here base path position (Kept p m s) b d =
    let bm = without_places m in
    let bs = without_places s in
    let r = drawn_parted h here (base + 1 + cuts bm) path (position + width bm) s b d.1 in (
      (d.0, r.0),
      subst (λ (i : ℕ). IsDrawn h here i path (position + (width bm + width bs)) (without_places b)) (let e : base + 1 + cuts bm + cuts bs ≡ base + (1 + cuts bm + cuts bs) = omega arith in e)
          (subst (λ (i : ℕ). IsDrawn h here (base + 1 + cuts bm + cuts bs) path i (without_places b)) (let e : position + width bm + width bs ≡ position + (width bm + width bs) = omega arith in e) r.1),
    )

other_draft : (index : ℕ) (g h : List ℕ → Option ℕ) (position : ℕ) (c : Draft (Unit {0})) → ((q : List ℕ) → h q ≡ Some index → g q ≡ Some index) → cut.BeginsOther index g position (drawn_forest c) → BeginsApart index h position c
other_draft index g h position Ends f o = tt
other_draft index g h position (Grows n b s) f o = λ held. o (f (position ∷ []) held)
other_draft index g h position (Stands r m s) f o = λ held. o (f (position ∷ []) held)
other_draft index g h position (Comes u m s) f o = λ held. o (f (position ∷ []) held)

module _ (rules : List Rule) (parts olds : List Interval) (clear : Members (IsClear (holder olds) []) parts) (k : ℕ) where
  draft_agrees : (own : Option ℕ) (base : ℕ) (path : List ℕ) (position : ℕ) (c : Draft (Unit {0})) → AreParts k (drawn_forest c) → cut.AgreesWithHolder own (λ q. holder (parts ++ olds) (path ++ q)) position (drawn_forest c)
      → IsDrawn (holder olds) None base path position (without_places (layout_before c)) → IsHeldAs own (λ q. holder parts (path ++ q)) position c
  draft_agrees own base path position Ends p a d = tt
  draft_agrees own base path position (Grows n b s) p a d = (
    sym (held_same parts olds (path ++ position ∷ []) d.0) ∙ a.0,
    agrees_same None (λ q. holder parts ((path ++ position ∷ []) ++ q)) (λ q. holder parts (path ++ position ∷ q)) 0 b (λ i q. ap (holder parts) (append_assoc path (position ∷ []) (i ∷ q)))
        (draft_agrees None base (path ++ position ∷ []) 0 b p.0
        (mark.agrees_same None (λ q. holder (parts ++ olds) (path ++ position ∷ q)) (λ q. holder (parts ++ olds) ((path ++ position ∷ []) ++ q)) 0 (drawn_forest b) (λ i q. ap (holder (parts ++ olds)) (sym (append_assoc path (position ∷ []) (i ∷ q)))) a.1) d.1),
    draft_agrees own (base + cuts (without_places (layout_before b))) path (position + 1) s p.1 a.2 d.2,
  )
  draft_agrees own base path position (Stands r m s) p a d =
      let first : holder olds (path ++ position ∷ []) ≡ Some base = first_held (holder olds) (Some base) (base + 1) path position (without_places m) p.1 p.0 d.0 in (
        no_holder parts (path ++ position ∷ []) (away rules parts olds clear path position [] base first),
        subst (λ (i : ℕ). IsHeldAs own (λ q. holder parts (path ++ q)) (position + i) s) (drawn_wide m) (draft_agrees own (base + 1 + cuts (without_places m)) path (position + width (without_places m)) s p.4 a.3 d.1),
      )
  draft_agrees own base path position (Comes u m s) p a d =
      let both = drawn_parted (holder olds) None base path position (layout_before m) (layout_before s) d in
      let w : width (without_places (layout_before m)) ≡ width (drawn_forest m) = drawn_wide (layout_before m) ∙ width-layout_before m in (
        a.0,
        other_draft a.0 (λ q. holder (parts ++ olds) (path ++ q)) (λ q. holder parts (path ++ q)) (position + width (drawn_forest m)) s (λ q held. held_first parts olds (path ++ q) a.0 held) a.1,
        draft_agrees (Some a.0) base path position m p.3 a.2 both.0,
        draft_agrees own (base + cuts (without_places (layout_before m))) path (position + width (drawn_forest m)) s p.4 a.3 (subst (λ (i : ℕ). IsDrawn (holder olds) None (base + cuts (without_places (layout_before m))) path (position + i) (without_places (layout_before s))) w both.1),
      )

-- each interval has a member
both_shared : (P : Interval → Type 0) (xs ys : List Interval) → AllByRecursion P xs → AllByRecursion P ys → AllByRecursion P (xs ++ ys)
both_shared P [] ys a b = b
both_shared P (x ∷ xs) ys a b = (a.0, both_shared P xs ys a.1 b)

drawn_some : (k : ℕ) (path : List ℕ) (position : ℕ) (c : CutForest) → AreParts k c → AllByRecursion (λ x. ShareMember x x) (intervals path position c)
drawn_some k path position Bare h = tt
drawn_some k path position (Grown n b s) h = both_shared (λ x. ShareMember x x) (intervals (path ++ position ∷ []) 0 b) (intervals path (position + 1) s) (drawn_some k (path ++ position ∷ []) 0 b h.0) (drawn_some k path (position + 1) s h.1)
drawn_some k path position (Kept u m s) h =
    let some = h.0 in
    let r = reaches_child path position (position + width m - 1) position (omega arith) (omega arith) in (
      (path ++ position ∷ [], r, r),
      both_shared (λ x. ShareMember x x) (intervals path position m) (intervals path (position + width m) s) (drawn_some k path position m h.3) (drawn_some k path (position + width m) s h.4),
    )

inside_some : (nodes : List Placed) (xs : List Interval) → AllByRecursion (IsInside nodes) xs → AllByRecursion (λ x. ShareMember x x) xs
inside_some nodes [] a = tt
inside_some nodes (Root ∷ xs) a = absurd a.0
inside_some nodes (Run parent first last ∷ xs) a =
    let le : first ≤ last = (a.0).0 in
    let r = reaches_child parent first last first (omega arith) le in
    ((parent ++ first ∷ [], r, r), inside_some nodes xs a.1)

at_index : (P : Interval → Type 0) (xs : List Interval) → AllByRecursion P xs → (i : ℕ) (d : Interval) → i < length xs → P (get_or xs i d)
at_index P [] a i d lt = absurd (omega arith)
at_index P (x ∷ xs) a zero d lt = a.0
at_index P (x ∷ xs) a (suc i) d lt = at_index P xs a.1 i d (omega arith)

pairs_by : (xs : List Interval) → AllPairs (λ a b. ¬ ShareMember a b) xs → PairsBy (λ a b. ¬ ShareMember a b) xs
pairs_by [] a = tt
pairs_by (x ∷ xs) a = (recursion_from_All (λ y. ¬ ShareMember x y) xs (λ k d h. a 0 (suc k) d (omega arith) (omega arith)), pairs_by xs (λ i j d low high. a (suc i) (suc j) d (omega arith) (omega arith)))

pairs_both : (xs ys : List Interval) → PairsBy (λ a b. ¬ ShareMember a b) xs → AllByRecursion (λ x. IsApart x ys) xs → PairsBy (λ a b. ¬ ShareMember a b) ys → PairsBy (λ a b. ¬ ShareMember a b) (xs ++ ys)
pairs_both [] ys p a q = q
pairs_both (x ∷ xs) ys p a q = (both_apart x xs ys p.0 a.0, pairs_both xs ys p.1 a.1 q)

helper : Node
helper = record { kind = Text; name = []; content = [] }

-- the marks of a plan, and its draft
pub plan_agrees : (rules : List Rule) (above : Option Node) (limit : ℕ) (members : Layout) (parts : List Interval) → AreLaidParts limit members → (k : ℕ) → AreLightRuns k (part_sketch rules (asked_of_root rules above) 0 (without_places members)) parts → (raised : Option ℕ) (made : IsDrafted limit members parts raised)
    → IsHeldAs None (holder parts) 0 made.draft
plan_agrees rules above limit members parts light k plan raised made =
    let old = without_places members in
    let olds = intervals [] 0 old in
    let nodes = part_nodes rules above old in
    let qs = intervals [] 0 (drawn_forest made.draft) in
    let form : AreParts limit old = light in
    let inside = recursion_from_All (IsInside nodes) parts plan.inside in
    let clear : Members (IsClear (holder olds) []) parts = members_clear (holder olds) nodes parts (nodes_clear rules (holder olds) None (asked_of_root rules above) 0 [] 0 old refl (divided.drawn_agrees limit old form)) inside in
    let dq : AreDistinct qs = record { apart = drawn_apart limit helper (drawn_forest made.draft) made.light; some = λ i lt. at_index (λ x. ShareMember x x) qs (drawn_some limit [] 0 (drawn_forest made.draft) made.light) i Root lt } in
    let dp : AreDistinct (parts ++ olds) = record {
      apart = all_pairs (λ a b. ¬ ShareMember a b) (parts ++ olds) (pairs_both parts olds (pairs_by parts plan.disjoint) (all_apart olds parts clear) (pairs_by olds (drawn_apart limit helper old form)));
      some = λ i lt. at_index (λ x. ShareMember x x) (parts ++ olds) (both_shared (λ x. ShareMember x x) parts olds (inside_some nodes parts inside) (drawn_some limit [] 0 old form)) i Root lt;
    } in
    draft_agrees rules parts olds clear limit None 0 [] 0 made.draft made.light
    (drawn_agrees qs (parts ++ olds) dq dp made.drawn limit None None 0 [] 0 (drawn_forest made.draft) made.light tt tt (divided.drawn_agrees limit (drawn_forest made.draft) made.light))
    (subst (λ (l : Layout). IsDrawn (holder olds) None 0 [] 0 (without_places l)) (sym made.stands) (divided.drawn_agrees limit old form))
