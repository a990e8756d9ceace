-- What joins the part above fits into its room, so that nothing above is split.
use Rattle.std.proofs.Common.{◌≡◌, ℕ, zero, suc, ◌+◌, ◌-◌, ◌<◌, ◌≤◌, ◌==◌, ◌||◌, nat_lt, if◌then◌else◌, Bool, true, false, IsTrue, List, [], ◌∷◌, ◌++◌, length, Option, None, Some, refl, sym, ap, subst, ◌∙◌, arith, get_or, length-append, inl, inr}
use Rattle.std.specs.Prelude.{Contains}
use Rattle.std.specs.Bool.{MatchBool}
use Rattle.std.specs.List.{All, AllPairs, AllByRecursion}
use Rattle.std.specs.Option.{is_some, option_map}
use Rattle.std.proofs.lemmas.Bool.{cases_Bool}
use Rattle.std.proofs.lemmas.Bool.Decides.{nat_tests}
use Rattle.std.proofs.lemmas.List.{get_or_append_left, get_or-append_right}
use Rattle.std.proofs.lemmas.List.Elements.{recursion_from_All, Contains-append_right}
use Rattle.std.proofs.lemmas.List.Folds.{list_any-append}
use Rattle.std.proofs.lemmas.List.Quantifiers.{position-Some}
use Rattle.std.proofs.lemmas.List.Sorted.{list_any-IsPermutation}
use Rattle.nx_lists.proofs.ListLemmas.{contains_here, contains_there, contains_parts}
use Rattle.nx_tree.specs.declared.node.Node.{Node}
use Rattle.nx_tree.specs.Forest.{Forest}
use Rattle.nx_parts.specs.declared.interval.Interval.{Interval}
use Rattle.nx_parts.specs.declared.interval.Interval.TheVariants.{Root, Run}
use Rattle.nx_parts.specs.Partitioning.{has_member, ShareMember, holder}
use Rattle.nx_parts.proofs.Owned.{is_place, owned}
use Rattle.nx_cuts.specs.Cut.{CutForest, Bare, Grown, Kept, forest, intervals, cuts, part_weight, AreParts}
use Rattle.nx_cuts.specs.Rows.{joined_row}
use Rattle.nx_cuts.proofs.FeasibleLemmas.{owned-drawn, weight_at, weight-above, length-intervals}
use Rattle.nx_cuts.proofs.RowLemmas.{weight-joined_row}
use Rattle.nx_matrix.specs.declared.rule.Rule.{Rule}
use Rattle.nx_holdings.specs.declared.header.Settings.{Settings}
use Rattle.nx_sketch.specs.Sketch.{Sketch, Empty, Plant, Placed, placed, placed_in}
use Rattle.nx_sketch.specs.Plan.{IsHeld, IsFeasiblePlan, IsPlanOfPart, placed_part_weight}
use Rattle.nx_sketch.specs.Split.{IsDivision}
use Rattle.nx_split.specs.Piece.{asked_of_root}
use Rattle.nx_drawn.specs.Growth.{MayBeHeavy, IsHeavyOnce}
use Rattle.nx_drawn.specs.Splits.{part_sketch, part_nodes, Divides, SplitsRow}
use Rattle.nx_drawn.specs.Laws.{NothingAboveIsSplit, RaisedHasRoom}
use Rattle.nx_drawn.proofs.OwnLemmas.{or_above, own, own_sketch, own-same, asked_of, owned-own, any_holds, told, any_holder}
use Rattle.nx_drawn.proofs.DivisionLemmas.{AtRoots, own_sketch-top, runs_own, split_feasible, whole_holds, deep_holds}
use Rattle.nx_drawn.proofs.DividedLemmas.{drawn_agrees, both, split_clear, walk_parts}
use Rattle.nx_drawn.proofs.SplitLemmas.{light_row}

-- an interval without members
abbrev nobody : Interval
nobody = Run [] 1 0

has_nobody : (q : List ℕ) → has_member nobody q ≡ false
has_nobody [] = refl
has_nobody (zero ∷ []) = refl
has_nobody (suc p ∷ []) = grind (arith, nat_tests)
has_nobody (p ∷ next ∷ q) = refl

-- what no interval owns, where a node above these would have it
abbrev unowned : List Interval → Sketch → ℕ
unowned parts s = own_sketch (λ q. told (has_member nobody q) (any_holds parts q)) true [] s

any_of : (parts : List Interval) (x : Interval) (q : List ℕ) → Contains parts x → IsTrue (has_member x q) → any_holds parts q ≡ true
any_of [] x q c t = absurd (let lt = c.1 in omega arith)
any_of (y ∷ parts) x q c t = elim (contains_parts y parts x c) [
  | inl same ↦ holds_here (has_member y q) (any_holds parts q) (ap (λ z. has_member z q) same ∙ t)
  | inr later ↦ holds_later (has_member y q) (any_holds parts q) (any_of parts x q later t)
]
  where
    holds_here : (a b : Bool) → a ≡ true → a || b ≡ true
    holds_here true b e = refl
    holds_here false b e = cc

    holds_later : (a b : Bool) → b ≡ true → a || b ≡ true
    holds_later true b e = refl
    holds_later false b e = e

-- each root is a member of an interval of a plan
roots_held : (all : List Placed) (parts : List Interval) → IsPlanOfPart all parts → (s : Sketch) → ((node : Placed) → Contains (placed s) node → Contains all node) → AtRoots (λ p. any_holds parts (p ∷ []) ≡ true) s
roots_held all parts plan Empty among = tt
roots_held all parts plan (Plant p w e b s) among =
    let node : Placed = record { path = p ∷ []; weight = w; entry = e } in
    let rest = placed_in (p ∷ []) b ++ placed_in [] s in
    let held = plan.rooted p (node, among node (contains_here node rest node refl), refl) in (
      any_of parts held.0 (p ∷ []) held.1 held.2,
      roots_held all parts plan s (λ x c. among x (contains_there node rest x (Contains-append_right (placed_in (p ∷ []) b) (placed_in [] s) x c))),
    )

with_roots : (P Q : ℕ → Type 0) (s : Sketch) → ((p : ℕ) → P p → Q p) → AtRoots P s → AtRoots Q s
with_roots P Q Empty f a = tt
with_roots P Q (Plant p w e b s) f a = (f p a.0, with_roots P Q s f a.1)

own_none : (ask : List ℕ → Option Bool) → ((q : List ℕ) → or_above (ask q) false ≡ false) → (path : List ℕ) (s : Sketch) → own_sketch ask false path s ≡ 0
own_none ask never path Empty = refl
own_none ask never path (Plant p w e b s) =
    let q = path ++ p ∷ [] in
    let a : (if or_above (ask q) false then w else 0) ≡ 0 = ap (λ (t : Bool). if t then w else 0) (never q) in
    let y : own_sketch ask (or_above (ask q) false) q b ≡ 0 = ap (λ (t : Bool). own_sketch ask t q b) (never q) ∙ own_none ask never q b in
    omega (arith, a, y, own_none ask never path s)

-- a plan owns all
plan_owns : (s : Sketch) (parts : List Interval) → IsPlanOfPart (placed s) parts → unowned parts s ≡ 0
plan_owns s parts plan =
    own_sketch-top (λ q. told (has_member nobody q) (any_holds parts q)) (λ q. told (has_member nobody q) (any_holds parts q)) true false s
    (with_roots _ _ s (λ p held. ap (λ t. or_above (told (has_member nobody (p ∷ [])) t) true) held ∙ known (has_member nobody (p ∷ [])) ∙ sym (ap (λ t. or_above (told (has_member nobody (p ∷ [])) t) false) held)) (roots_held (placed s) parts plan s (λ x c. c)))
    (λ p next rest. refl)
    ∙ own_none (λ q. told (has_member nobody q) (any_holds parts q)) (λ q. ap (λ t. or_above (told t (any_holds parts q)) false) (has_nobody q) ∙ other (any_holds parts q)) [] s
  where
    known : (m : Bool) → or_above (told m true) true ≡ or_above (told m true) false
    known true = refl
    known false = refl

    other : (some : Bool) → or_above (told false some) false ≡ false
    other true = refl
    other false = refl

apart_holds : (x : Interval) (q : List ℕ) (parts : List Interval) → AllByRecursion (λ y. ShareMember x y → ⊥) parts → has_member x q ≡ true → any_holds parts q ≡ false
apart_holds x q [] a t = refl
apart_holds x q (y ∷ parts) a t = neither (has_member y q) (any_holds parts q) (λ u. a.0 (q, t, u)) (apart_holds x q parts a.1 t)
  where
    neither : (m n : Bool) → (m ≡ true → ⊥) → n ≡ false → m || n ≡ false
    neither true n f e = absurd (f refl)
    neither false n f e = e

-- without the interval of a root its part is owned by none
module _ (before behind : List Interval) (root : ℕ) (s : Sketch) (k : ℕ) (plan : IsFeasiblePlan k (placed s) (before ++ Run [] root root ∷ behind)) where
  abbrev raised_run : Interval
  raised_run = Run [] root root

  at_root : (d : Interval) → get_or (before ++ raised_run ∷ behind) (length before) d ≡ raised_run
  at_root d = get_or-append_right before (raised_run ∷ behind) (length before) (length before) d refl (omega arith) ∙ ap (λ n. get_or (raised_run ∷ behind) n d) (let z : length before - length before ≡ 0 = omega arith in z)

  long : length (before ++ raised_run ∷ behind) ≡ length before + suc (length behind)
  long = length-append before (raised_run ∷ behind)

  apart_before : All (λ y. ShareMember raised_run y → ⊥) before
  apart_before i d lt share =
      plan.plan.disjoint i (length before) d lt (omega (arith, long))
      (share.0, ap (λ y. has_member y share.0) (get_or_append_left before (raised_run ∷ behind) d i lt) ∙ share.2, ap (λ y. has_member y share.0) (at_root d) ∙ share.1)

  apart_behind : All (λ y. ShareMember raised_run y → ⊥) behind
  apart_behind i d lt share =
      let place : get_or (before ++ raised_run ∷ behind) (length before + suc i) d ≡ get_or behind i d =
      get_or-append_right before (raised_run ∷ behind) (length before) (length before + suc i) d refl (omega arith)
      ∙ ap (λ n. get_or (raised_run ∷ behind) n d) (let z : length before + suc i - length before ≡ suc i = omega arith in z) in
      plan.plan.disjoint (length before) (length before + suc i) d (omega arith) (omega (arith, long))
      (share.0, ap (λ y. has_member y share.0) (at_root d) ∙ share.1, ap (λ y. has_member y share.0) place ∙ share.2)

  none_with : (q : List ℕ) → has_member raised_run q ≡ true → any_holds (before ++ behind) q ≡ false
  none_with q t =
      list_any-append (λ (y : Interval). has_member y q) before behind
      ∙ neither (any_holds before q) (any_holds behind q) (apart_holds raised_run q before (recursion_from_All _ before apart_before) t) (apart_holds raised_run q behind (recursion_from_All _ behind apart_behind) t)
    where
      neither : (m n : Bool) → m ≡ false → n ≡ false → m || n ≡ false
      neither true n f e = cc
      neither false n f e = e

  top_same : (p : ℕ) → any_holds (before ++ raised_run ∷ behind) (p ∷ []) ≡ true
      → or_above (told (has_member nobody (p ∷ [])) (any_holds (before ++ behind) (p ∷ []))) true ≡ or_above (told (has_member raised_run (p ∷ [])) (any_holds (before ++ raised_run ∷ behind) (p ∷ []))) false
  top_same p held = elim (cases_Bool (has_member raised_run (p ∷ []))) [
    | inl mine ↦
        (λ i. or_above (told (has_nobody (p ∷ []) i) (none_with (p ∷ []) mine i)) true)
        ∙ sym (ap (λ t. or_above (told t (any_holds (before ++ raised_run ∷ behind) (p ∷ []))) false) mine)
    | inr none ↦
        let also : any_holds (before ++ behind) (p ∷ []) ≡ true = sym (ap (λ t. t || any_holds (before ++ behind) (p ∷ [])) none) ∙ sym (whole_holds before behind root (p ∷ [])) ∙ held in
        (λ i. or_above (told (has_nobody (p ∷ []) i) (also i)) true) ∙ sym (λ i. or_above (told (none i) (held i)) false)
  ]

  raised_owned : unowned (before ++ behind) s ≡ placed_part_weight (placed s) (before ++ raised_run ∷ behind) (length before)
  raised_owned =
      own_sketch-top (λ q. told (has_member nobody q) (any_holds (before ++ behind) q)) (λ q. told (has_member raised_run q) (any_holds (before ++ raised_run ∷ behind) q)) true false s (with_roots _ _ s top_same (roots_held (placed s) (before ++ raised_run ∷ behind) plan.plan s (λ x c. c))) (λ p next rest. (λ i. told (has_nobody (p ∷ next ∷ rest) i) (deep_holds before behind root p next rest i)))
      ∙ ap (λ (y : Interval). own_sketch (λ q. told (has_member y q) (any_holds (before ++ raised_run ∷ behind) q)) false [] s) (sym (at_root Root))
      ∙ sym (runs_own s (before ++ raised_run ∷ behind) plan.plan.inside plan.plan.disjoint (length before) (omega (arith, long)))

division_unowned : (k room target tolerance : ℕ) (s : Sketch) (parts : List Interval) (raised : Option ℕ) → IsDivision k (placed s) room target tolerance parts raised → unowned parts s ≤ room
division_unowned k room target tolerance s parts None d = omega (arith, plan_owns s parts (split_feasible k (placed s) target tolerance parts d.0).plan)
division_unowned k room target tolerance s parts (Some root) d =
    let w = raised_owned d.before d.behind root s k d.split.feasible in
    let l = d.light in
    let e : unowned parts s ≡ unowned (d.before ++ d.behind) s = ap (λ ps. unowned ps s) d.others in
    omega arith

-- an interval that isn't of the list has what is left at the top
fresh_asked : (parts : List Interval) (q : List ℕ) → asked_of parts (length parts) q ≡ told (has_member nobody q) (any_holds parts q)
fresh_asked parts q =
    (elim (holder parts q) as (λ o. holder parts q ≡ o → option_map (λ place. place == length parts) o ≡ told (has_member nobody q) (any_holds parts q)) [
      | None ↦ λ e. sym ((λ i. told (has_nobody q i) ((sym (any_holder q parts) ∙ ap is_some e) i)))
      | Some a ↦ λ e.
          let p = position-Some (λ x. has_member x q) parts a Root e in
          let lt = p.0 in
          let f : (a == length parts) ≡ false = grind (arith, nat_tests) in
          ap Some f ∙ sym ((λ i. told (has_nobody q i) ((sym (any_holder q parts) ∙ ap is_some e) i)))
    ]) refl

module _ (settings : Settings) (rules : List Rule) (above : Option Node) (m now : CutForest) (limit : ℕ) (h : AreParts limit m) (room : ℕ) (d : Divides settings rules room above m now) where
  -- what a divided part leaves with the node above
  left_above : part_weight now ≡ unowned d.parts (part_sketch rules (asked_of_root rules above) 0 m)
  left_above =
      let all = intervals [] 0 now in
      let below = intervals [] 0 m in
      let e = length all in
      let clear = split_clear settings rules above m now limit h room d in
      let mine : is_place e (Some e) ≡ true = grind (arith, nat_tests) in
      let a : owned all e (Some e) [] 0 (forest now) ≡ (if is_place e (Some e) then part_weight now else 0) + weight_at e 0 now = owned-drawn all e None (Some e) 0 [] 0 now (drawn_agrees d.limit now d.formed) in
      let b : (if is_place e (Some e) then part_weight now else 0) ≡ part_weight now = ap (λ (t : Bool). if t then part_weight now else 0) mine in
      let z : weight_at e 0 now ≡ 0 = weight-above e 0 now (omega (arith, length-intervals [] 0 now)) in
      let o : owned all e (Some e) [] 0 (forest now) ≡ own (asked_of all e) true [] 0 (forest now) = owned-own all e (Some e) [] 0 (forest now) ∙ ap (λ (t : Bool). own (asked_of all e) t [] 0 (forest now)) mine in
      let s : own (asked_of all e) true [] 0 (forest now) ≡ own (both rules d.parts below clear nobody) true [] 0 (forest now) = own-same true [] 0 (forest now) (λ q. fresh_asked all q
      ∙ ap (told (has_member nobody q)) (list_any-IsPermutation (λ (y : Interval). has_member y q) all (d.parts ++ below) d.drawn ∙ list_any-append (λ (y : Interval). has_member y q) d.parts below)) in
      let f : own (both rules d.parts below clear nobody) true [] 0 (forest now) ≡ own (both rules d.parts below clear nobody) true [] 0 (forest m) = ap (own (both rules d.parts below clear nobody) true [] 0) d.same in
      let w = walk_parts rules d.parts below clear nobody (λ q none. has_nobody q) limit (asked_of_root rules above) 0 true [] 0 m h (drawn_agrees limit m h) in
      omega (arith, a, b, z, o, s, f, w)

pub raised_has_room : RaisedHasRoom
raised_has_room settings rules room above m now limit h d =
    omega (arith, left_above settings rules above m now limit h room d, division_unowned settings.k room settings.target settings.tolerance (part_sketch rules (asked_of_root rules above) 0 m) d.parts d.raised d.division)

module _ (settings : Settings) (rules : List Rule) (limit wide : ℕ) where
  -- a divided interval leaves what has room, and another one nothing
  interval_leaves : (room : ℕ) (above : Option Node) (m now : CutForest) (t : Bool) → AreParts settings.k m → MatchBool t (Divides settings rules room above m now) (now ≡ Kept tt m Bare) → part_weight now ≤ room
  interval_leaves room above m now true a h = raised_has_room settings rules room above m now settings.k a h
  interval_leaves room above m now false a h = let e : part_weight now ≡ 0 = ap part_weight h in omega arith

  light_leaves : (room : ℕ) (above : Option Node) (m now : CutForest) (t : Bool) → nat_lt settings.k (part_weight m) ≡ t → part_weight m ≤ settings.k → MatchBool t (Divides settings rules room above m now) (now ≡ Kept tt m Bare) → part_weight now ≡ 0
  light_leaves room above m now true e le h = absurd (let l : settings.k < part_weight m = grind (arith, nat_tests) in omega arith)
  light_leaves room above m now false e le h = ap part_weight h

  joined_leaves : (row r s : CutForest) → row ≡ joined_row r s → part_weight row ≡ part_weight r + part_weight s
  joined_leaves row r s e = ap part_weight e ∙ weight-joined_row r s

  -- a row in which one part below at most is too heavy gets what has room at most
  row_leaves : (room : ℕ) (above : Option Node) (old new : CutForest) → IsHeavyOnce settings.k limit wide old → SplitsRow settings rules room above old new → part_weight new ≤ part_weight old + room
  row_leaves room above Bare new a h = let e : part_weight new ≡ 0 = ap part_weight h in omega arith
  row_leaves room above (Grown node below beside) new (inl a) h =
      let e : part_weight new ≡ part_weight (Grown node h.0 h.1) = ap part_weight h.4 in
      let x = row_leaves room (Some node) below h.0 a.0 h.2 in
      let y : part_weight h.1 ≡ part_weight beside = ap part_weight (light_row settings rules room above beside h.1 a.1 h.3) in
      omega arith
  row_leaves room above (Grown node below beside) new (inr a) h =
      let e : part_weight new ≡ part_weight (Grown node h.0 h.1) = ap part_weight h.4 in
      let x : part_weight h.0 ≡ part_weight below = ap part_weight (light_row settings rules room (Some node) below h.0 a.0 h.2) in
      let y = row_leaves room above beside h.1 a.1 h.3 in
      omega arith
  row_leaves room above (Kept mark members beside) new (inl a) h =
      let e = joined_leaves new h.1 h.2 h.6 in
      let same = light_row settings rules (settings.k - part_weight members) above members h.0 a.0.parts h.3 in
      let x = interval_leaves room above h.0 h.1 (nat_lt settings.k (part_weight h.0)) (subst (AreParts settings.k) (sym same) a.0.parts) h.4 in
      let y : part_weight h.2 ≡ part_weight beside = ap part_weight (light_row settings rules room above beside h.2 a.1 h.5) in
      omega arith
  row_leaves room above (Kept mark members beside) new (inr (some, free, light, inl a)) h =
      let e = joined_leaves new h.1 h.2 h.6 in
      let m = row_leaves (settings.k - part_weight members) above members h.0 a.0 h.3 in
      let x = light_leaves room above h.0 h.1 (nat_lt settings.k (part_weight h.0)) refl (omega arith) h.4 in
      let y : part_weight h.2 ≡ part_weight beside = ap part_weight (light_row settings rules room above beside h.2 a.1 h.5) in
      omega arith
  row_leaves room above (Kept mark members beside) new (inr (some, free, light, inr a)) h =
      let e = joined_leaves new h.1 h.2 h.6 in
      let m : part_weight h.0 ≡ part_weight members = ap part_weight (light_row settings rules (settings.k - part_weight members) above members h.0 a.0 h.3) in
      let x = light_leaves room above h.0 h.1 (nat_lt settings.k (part_weight h.0)) refl (omega arith) h.4 in
      let y = row_leaves room above beside h.2 a.1 h.5 in
      omega arith

pub nothing_above : NothingAboveIsSplit
nothing_above settings rules above limit wide members now once light h = omega (arith, row_leaves settings rules limit wide (settings.k - part_weight members) above members now once h)
