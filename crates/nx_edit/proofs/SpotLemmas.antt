-- A position that falls into an interval below a tree of a row: what comes of the row where others stand in the interval's place.
use Rattle.std.proofs.Common.{◌≡◌, ℕ, zero, suc, ◌+◌, ◌-◌, ◌<◌, ◌≤◌, nat_lt, if◌then◌else◌, true, false, List, [], ◌∷◌, ◌++◌, length, drop, Option, None, Some, inl, inr, refl, sym, ap, ap₂, ◌∙◌, subst, arith, append-nil, length-append}
use Rattle.std.specs.Prelude.{◌≢◌}
use Rattle.std.specs.List.{slice_get}
use Rattle.std.proofs.lemmas.List.{drop_at}
use Rattle.nx_piece.specs.declared.piece.Proxy.{Proxy}
use Rattle.nx_piece.specs.Gapped.{GappedTree, proxies_in}
use Rattle.nx_piece.specs.Locate.{PieceChild, Own, Kept as Away, Inside, Outside, children_of, reached, reached_in}
use Rattle.nx_piece_edits.specs.Taking.{led}
use Rattle.nx_piece_edits.proofs.LeftLemmas.{less_is, not_less, tree_reached, first_reached}
use Rattle.nx_matrix.specs.declared.rule.Entry.{Entry}
use Rattle.nx_matrix.specs.declared.rule.Entry.TheVariants.{Standalone, Cluster, Free}
use Rattle.nx_cuts.specs.Cut.{CutForest, Bare, Grown, Kept, width}
use Rattle.nx_cuts.specs.Rows.{first, behind}
use Rattle.nx_cuts.proofs.FeasibleLemmas.{le_or}
use Rattle.nx_layouts.specs.Layout.{RecordPlace, LaidNode, Layout, in_record, laid_weight, piece_body, piece_of, proxies_of, proxy_of, without_places}
use Rattle.nx_layouts.specs.Replace.{joined_layout, replaced_at}
use Rattle.nx_layouts.specs.Cutting.{StaysIn, LeadsInto}
use Rattle.nx_layouts.specs.Planting.{FallsBetween, put_between, with_node, changed_below}
use Rattle.nx_layouts.proofs.ChangeLemmas.{below_at}
use Rattle.nx_layouts.proofs.DrawnLemmas.{drawn_wide}
use Rattle.nx_layouts.proofs.PathLemmas.{StandBehind, all_behind, below_behind, beside_behind, behind_one, child_here, child_later, led_behind, path_leads_on}
use Rattle.nx_drawn.specs.Edits.{placed_among, planted_row}
use Rattle.nx_drawn.specs.Growth.{PartIsAtMost}

-- Where the path leads with one position more:

-- from the tree that it led to
reached_further : (all : List Proxy) (used : ℕ) (path : List ℕ) (from : Option PieceChild) (tree : GappedTree) (start position : ℕ) → reached all used path from ≡ Inside tree start
    → reached all used (path ++ position ∷ []) from ≡ reached all (used + (length path + 1)) [] (slice_get (children_of all start tree.below) position)
reached_further all used [] None tree start position e = absurd (cc)
reached_further all used [] (Some (Own t f)) tree start position e =
    ap₂ (λ (u : GappedTree) (i : ℕ). reached all (used + 1) [] (slice_get (children_of all i u.below) position)) (ap (tree_reached t) e) (ap first_reached e)
    ∙ ap (λ (n : ℕ). reached all n [] (slice_get (children_of all start tree.below) position)) (let q : used + 1 ≡ used + (0 + 1) = omega arith in q)
reached_further all used [] (Some (Away i m)) tree start position e = absurd (cc)
reached_further all used (q ∷ path) None tree start position e = absurd (cc)
reached_further all used (q ∷ path) (Some (Own t f)) tree start position e =
    reached_further all (used + 1) path (slice_get (children_of all f t.below) q) tree start position e
    ∙ ap (λ (n : ℕ). reached all n [] (slice_get (children_of all start tree.below) position)) (let r : used + 1 + (length path + 1) ≡ used + (length (q ∷ path) + 1) = omega arith in r)
reached_further all used (q ∷ path) (Some (Away i m)) tree start position e = absurd (cc)

-- The position falls into the interval of the proxy at an index, which has these members.
pub record IsInside (members : Layout) (member : ℕ) (path : List ℕ) (position index before : ℕ) : Type 0 where
  pub inside : Layout
  pub into : LeadsInto index before [] inside member (path ++ position ∷ []) members

pub is_inside : (members : Layout) (member : ℕ) (path : List ℕ) (position index before : ℕ) (tree : GappedTree) (start : ℕ) → reached_in (piece_of members) member path ≡ Inside tree start
    → slice_get (children_of (proxies_of members) start tree.below) position ≡ Some (Away index before) → IsInside members member path position index before
is_inside members member path position index before tree start leads there =
    let used : ℕ = length path + 1 in
    let way : List ℕ = path ++ position ∷ [] in
    let all : List Proxy = proxies_of members in
    let e : reached_in (piece_of members) member way ≡ Outside index before used =
    reached_further all 0 path (slice_get (children_of all 0 (piece_body members)) member) tree start position leads
    ∙ ap (reached all (0 + used) []) there ∙ ap (λ (n : ℕ). Outside index before n) (let q : 0 + used ≡ used = omega arith in q) in
    let on = path_leads_on members member way index before used e in
    let end : drop used way ≡ [] =
    ap (drop used) (sym (append-nil way)) ∙ drop_at way [] used (length-append path (position ∷ []) ∙ (let q : length path + length (position ∷ []) ≡ used = omega arith in q)) in
    record { inside = on.inside; into = subst (λ (rest : List ℕ). LeadsInto index before rest on.inside member way members) end on.into }

-- Where all positions of a path lead to trees of a row, it leads to a tree of its piece:

stays_led : (all : List Proxy) (start used position : ℕ) (path : List ℕ) (row : Layout) → StandBehind all start row → StaysIn position path row
    → (tree : GappedTree) × (at : ℕ) × (led all start (piece_body row) used position path ≡ Inside tree at)
stays_led all start used position path Bare h stays = absurd stays
stays_led all start used zero [] (Grown n b s) h stays = (record { node = in_record n; below = piece_body b }, start, refl)
stays_led all start used zero (q ∷ path) (Grown n b s) h stays = stays_led all start (used + 1) q path b (below_behind b s h.back h.front h.is h.long) stays
stays_led all start used (suc position) path (Grown n b s) h stays = stays_led all (start + proxies_in (piece_body b)) used position path s (beside_behind b s h.back h.front h.is h.long) stays
stays_led all start used position path (Kept p m s) h stays =
    let r = stays_led all (start + 1) used (position - width m) path s (behind_one (proxy_of p (width m)) s h.back h.front h.is h.long) stays.1 in
    (r.0, r.1, led_behind used position path p m s h stays.0 ∙ r.2)

pub tree_there : (members : Layout) (member : ℕ) (path : List ℕ) → StaysIn member path members → (tree : GappedTree) × (at : ℕ) × (reached_in (piece_of members) member path ≡ Inside tree at)
tree_there members member path stays = stays_led (proxies_of members) 0 0 member path members (all_behind members) stays

-- A position between trees of a row is no position inside an interval among the children:

pub falls_within : (position : ℕ) (row : Layout) → FallsBetween position row → position ≤ width row
falls_within zero row f = omega arith
falls_within (suc position) Bare f = absurd f
falls_within (suc position) (Grown n b s) f = let e = falls_within position s f in omega (arith, e)
falls_within (suc position) (Kept p m s) f = let e = falls_within (suc position - width m) s f.1 in let most = f.0 in omega (arith, e, most)

abbrev member_in : Option PieceChild → ℕ
member_in None = 0
member_in (Some (Own tree start)) = 0
member_in (Some (Away index member)) = member

pub falls_apart : (all : List Proxy) (start position : ℕ) (row : Layout) (index member : ℕ) → StandBehind all start row → FallsBetween position row → slice_get (children_of all start (piece_body row)) position ≡ Some (Away index member) → member ≡ 0
falls_apart all start position Bare index member h f e = absurd (cc)
falls_apart all start zero (Grown n b s) index member h f e = absurd (cc)
falls_apart all start (suc position) (Grown n b s) index member h f e =
    falls_apart all (start + proxies_in (piece_body b)) position s index member (beside_behind b s h.back h.front h.is h.long) f e
falls_apart all start zero (Kept p m s) index member h f e = elim (le_or 0 (width m)) [
  | inl less ↦ sym (ap member_in (sym (child_here p m s 0 h less) ∙ e))
  | inr none ↦
      let back : 0 - width m ≡ 0 = omega arith in
      falls_apart all (start + 1) zero s index member (behind_one (proxy_of p (width m)) s h.back h.front h.is h.long) tt
      (ap (λ (i : ℕ). slice_get (children_of all (start + 1) (piece_body s)) i) (sym back) ∙ sym (child_later p m s 0 h none) ∙ e)
]
falls_apart all start (suc position) (Kept p m s) index member h f e =
    falls_apart all (start + 1) (suc position - width m) s index member (behind_one (proxy_of p (width m)) s h.back h.front h.is h.long) f.1 (sym (child_later p m s (suc position) h f.0) ∙ e)

-- Rows in which the children of a tree are changed:

pub stays_changed : (change : Layout → Layout) (position : ℕ) (path : List ℕ) (row : Layout) → StaysIn position path row → StaysIn position path (changed_below change position path row)
stays_changed change position path Bare h = h
stays_changed change zero [] (Grown n b s) h = tt
stays_changed change zero (q ∷ path) (Grown n b s) h = stays_changed change q path b h
stays_changed change (suc position) path (Grown n b s) h = stays_changed change position path s h
stays_changed change position path (Kept p m s) h = (h.0, stays_changed change (position - width m) path s h.1)

pub below_changed : (change : Layout → Layout) (position : ℕ) (path : List ℕ) (row : Layout) → StaysIn position path row → below_at position path (changed_below change position path row) ≡ change (below_at position path row)
below_changed change position path Bare h = absurd h
below_changed change zero [] (Grown n b s) h = refl
below_changed change zero (q ∷ path) (Grown n b s) h = below_changed change q path b h
below_changed change (suc position) path (Grown n b s) h = below_changed change position path s h
below_changed change position path (Kept p m s) h = below_changed change (position - width m) path s h.1

pub changed_twice : (one two : Layout → Layout) (position : ℕ) (path : List ℕ) (row : Layout) → changed_below two position path (changed_below one position path row) ≡ changed_below (λ b. two (one b)) position path row
changed_twice one two position path Bare = refl
changed_twice one two zero [] (Grown n b s) = refl
changed_twice one two zero (q ∷ path) (Grown n b s) = ap (λ (c : Layout). Grown n c s) (changed_twice one two q path b)
changed_twice one two (suc position) path (Grown n b s) = ap (λ (c : Layout). Grown n b c) (changed_twice one two position path s)
changed_twice one two position path (Kept p m s) = ap (λ (c : Layout). Kept p m c) (changed_twice one two (position - width m) path s)

pub changed_same : (one two : Layout → Layout) (position : ℕ) (path : List ℕ) (row : Layout) → StaysIn position path row → one (below_at position path row) ≡ two (below_at position path row)
    → changed_below one position path row ≡ changed_below two position path row
changed_same one two position path Bare h e = absurd h
changed_same one two zero [] (Grown n b s) h e = ap (λ (c : Layout). Grown n c s) e
changed_same one two zero (q ∷ path) (Grown n b s) h e = ap (λ (c : Layout). Grown n c s) (changed_same one two q path b h e)
changed_same one two (suc position) path (Grown n b s) h e = ap (λ (c : Layout). Grown n b c) (changed_same one two position path s h e)
changed_same one two position path (Kept p m s) h e = ap (λ (c : Layout). Kept p m c) (changed_same one two (position - width m) path s h.1 e)

-- The interval is one of the tree's children, and what comes in its place does so among them.
pub record IsSpot (position : ℕ) (path : List ℕ) (at before index : ℕ) (inside row : Layout) : Type 0 where
  pub nth : ℕ
  pub within : LeadsInto nth before [] inside at [] (below_at position path row)
  pub same : (new : Layout) → replaced_at index new row ≡ changed_below (λ b. replaced_at nth new b) position path row

pub spot : (position : ℕ) (path : List ℕ) (at before index : ℕ) (inside row : Layout) → StaysIn position path row → LeadsInto index before [] inside position (path ++ at ∷ []) row → IsSpot position path at before index inside row
spot position path at before index inside Bare h into = absurd h
spot zero [] at before index inside (Grown n b s) h into = record {
  nth = index;
  within = into.1;
  same = λ new. less_is index (length (proxies_of b)) (Grown n (replaced_at index new b) s) (Grown n b (replaced_at (index - length (proxies_of b)) new s)) into.0;
}
spot zero (q ∷ path) at before index inside (Grown n b s) h into =
    let r = spot q path at before index inside b h into.1 in
    record {
      nth = r.nth;
      within = r.within;
      same = λ new.
          less_is index (length (proxies_of b)) (Grown n (replaced_at index new b) s) (Grown n b (replaced_at (index - length (proxies_of b)) new s)) into.0
          ∙ ap (λ (c : Layout). Grown n c s) (r.same new);
    }
spot (suc position) path at before index inside (Grown n b s) h into =
    let r = spot position path at before (index - length (proxies_of b)) inside s h into.1 in
    record {
      nth = r.nth;
      within = r.within;
      same = λ new.
          not_less index (length (proxies_of b)) (Grown n (replaced_at index new b) s) (Grown n b (replaced_at (index - length (proxies_of b)) new s)) into.0
          ∙ ap (λ (c : Layout). Grown n b c) (r.same new);
    }
spot position path at before zero inside (Kept p m s) h into = let less = into.0 in let most = h.0 in absurd (omega (arith, less, most))
spot position path at before (suc index) inside (Kept p m s) h into =
    let r = spot (position - width m) path at before index inside s h.1 into.1 in
    record { nth = r.nth; within = r.within; same = λ new. ap (λ (c : Layout). Kept p m c) (r.same new) }

-- What comes in the place of an interval among the children:

-- the members in front and those behind them as two intervals, and the node between them: outside of intervals, or as one of its own
abbrev pub parted : (own front back : RecordPlace) → Entry → LaidNode → (ahead after : Layout) → Layout
parted own front back Standalone node ahead after = Kept front ahead (Kept own (Grown node Bare Bare) (Kept back after Bare))
parted own front back Cluster node ahead after = Kept front ahead (Grown node Bare (Kept back after Bare))
parted own front back Free node ahead after = Kept front ahead (Grown node Bare (Kept back after Bare))

abbrev pub in_two : (front back : RecordPlace) → (ahead after : Layout) → Layout
in_two front back ahead after = Kept front ahead (Kept back after Bare)

at_zero : (nth before : ℕ) (inside row : Layout) → LeadsInto nth before [] inside zero [] row → before ≡ 0
at_zero nth before inside Bare h = absurd h
at_zero nth before inside (Grown n b s) h = absurd h
at_zero zero before inside (Kept p m s) h = h.1
at_zero (suc nth) before inside (Kept p m s) h = at_zero nth before inside s (subst (λ (q : ℕ). LeadsInto nth before [] inside q [] s) (let e : 0 - width m ≡ 0 = omega arith in e) h.1)

placed_joined : (own front back : RecordPlace) (entry : Entry) (node : LaidNode) (ahead after s : Layout) (x : ℕ) (m : CutForest) → without_places ahead ≡ first x m → without_places after ≡ behind x m → entry ≢ Free
    → without_places (joined_layout (parted own front back entry node ahead after) s) ≡ placed_among tt tt tt entry node.node x m (without_places s)
placed_joined own front back Standalone node ahead after s x m one two not = ap₂ (λ (c d : CutForest). Kept tt c (Kept tt (Grown node.node Bare Bare) (Kept tt d (without_places s)))) one two
placed_joined own front back Cluster node ahead after s x m one two not = ap₂ (λ (c d : CutForest). Kept tt c (Grown node.node Bare (Kept tt d (without_places s)))) one two
placed_joined own front back Free node ahead after s x m one two not = absurd (not refl)

module _ (own front back : RecordPlace) (entry : Entry) (node : LaidNode) (before : ℕ) (inside ahead after : Layout) (some : 1 ≤ before) (one : without_places ahead ≡ first before (without_places inside)) (two : without_places after ≡ behind before (without_places inside)) where
  abbrev divided : Layout
  divided = parted own front back entry node ahead after

  -- it is the document's change
  pub parted_planted : entry ≢ Free → (nth position : ℕ) (row : Layout) → LeadsInto nth before [] inside position [] row → without_places (replaced_at nth divided row) ≡ planted_row tt tt entry node.node position (without_places row)
  parted_planted not nth position Bare h = absurd h
  parted_planted not nth zero (Grown n b s) h = absurd h
  parted_planted not nth (suc position) (Grown n b s) h =
      ap (λ (l : Layout). without_places l) (not_less nth (length (proxies_of b)) (Grown n (replaced_at nth divided b) s) (Grown n b (replaced_at (nth - length (proxies_of b)) divided s)) h.0)
      ∙ ap (λ (c : CutForest). Grown n.node (without_places b) c) (parted_planted not (nth - length (proxies_of b)) position s h.1)
  parted_planted not nth zero (Kept p m s) h = let none = at_zero nth before inside (Kept p m s) h in absurd (omega (arith, none, some))
  parted_planted not zero (suc position) (Kept p m s) h =
      let bare : CutForest = without_places m in
      let rest : CutForest = without_places s in
      placed_joined own front back entry node ahead after s (suc position) bare (one ∙ ap₂ (λ (x : ℕ) (l : Layout). first x (without_places l)) h.1 h.3) (two ∙ ap₂ (λ (x : ℕ) (l : Layout). behind x (without_places l)) h.1 h.3) not
      ∙ sym (less_is (suc position) (width bare) (placed_among tt tt tt entry node.node (suc position) bare rest) (Kept tt bare (planted_row tt tt entry node.node (suc position - width bare) rest))
      (subst (λ (w : ℕ). suc position < w) (sym (drawn_wide m)) h.0))
  parted_planted not (suc nth) (suc position) (Kept p m s) h =
      let bare : CutForest = without_places m in
      let rest : CutForest = without_places s in
      ap (λ (c : CutForest). Kept tt bare c) (parted_planted not nth (suc position - width m) s h.1)
      ∙ ap (λ (w : ℕ). Kept tt bare (planted_row tt tt entry node.node (suc position - w) rest)) (sym (drawn_wide m))
      ∙ sym (not_less (suc position) (width bare) (placed_among tt tt tt entry node.node (suc position) bare rest) (Kept tt bare (planted_row tt tt entry node.node (suc position - width bare) rest))
      (subst (λ (w : ℕ). w ≤ suc position) (sym (drawn_wide m)) h.0))

module _ (front back : RecordPlace) (node : LaidNode) (before : ℕ) (inside ahead after : Layout) (some : 1 ≤ before) (wide : width ahead ≡ before) where
  abbrev two : Layout
  two = in_two front back ahead after

  abbrev between : Layout
  between = Kept front ahead (Grown node Bare (Kept back after Bare))

  beside : (nth : ℕ) (n : LaidNode) (b s x : Layout) → length (proxies_of b) ≤ nth → replaced_at nth x (Grown n b s) ≡ Grown n b (replaced_at (nth - length (proxies_of b)) x s)
  beside nth n b s x most = not_less nth (length (proxies_of b)) (Grown n (replaced_at nth x b) s) (Grown n b (replaced_at (nth - length (proxies_of b)) x s)) most

  -- the position falls between the two
  pub falls_there : (nth position : ℕ) (row : Layout) → LeadsInto nth before [] inside position [] row → FallsBetween position (replaced_at nth two row)
  falls_there nth position Bare h = absurd h
  falls_there nth zero (Grown n b s) h = absurd h
  falls_there nth (suc position) (Grown n b s) h = subst (FallsBetween (suc position)) (sym (beside nth n b s two h.0)) (falls_there (nth - length (proxies_of b)) position s h.1)
  falls_there nth zero (Kept p m s) h = let none = at_zero nth before inside (Kept p m s) h in absurd (omega (arith, none, some))
  falls_there zero (suc position) (Kept p m s) h =
      let is : before ≡ suc position = h.1 in
      (omega (arith, is, wide), subst (λ (x : ℕ). FallsBetween x (Kept back after s)) (let e : 0 ≡ suc position - width ahead = omega (arith, is, wide) in e) tt)
  falls_there (suc nth) (suc position) (Kept p m s) h = (h.0, falls_there nth (suc position - width m) s h.1)

  -- and the node goes there
  pub node_there : (nth position : ℕ) (row : Layout) → LeadsInto nth before [] inside position [] row → with_node node position (replaced_at nth two row) ≡ replaced_at nth between row
  node_there nth position Bare h = absurd h
  node_there nth zero (Grown n b s) h = absurd h
  node_there nth (suc position) (Grown n b s) h =
      ap (with_node node (suc position)) (beside nth n b s two h.0) ∙ ap (λ (c : Layout). Grown n b c) (node_there (nth - length (proxies_of b)) position s h.1) ∙ sym (beside nth n b s between h.0)
  node_there nth zero (Kept p m s) h = let none = at_zero nth before inside (Kept p m s) h in absurd (omega (arith, none, some))
  node_there zero (suc position) (Kept p m s) h =
      let is : before ≡ suc position = h.1 in
      ap (λ (x : ℕ). Kept front ahead (put_between (λ r. Grown node Bare r) x (Kept back after s))) (let e : suc position - width ahead ≡ 0 = omega (arith, is, wide) in e)
  node_there (suc nth) (suc position) (Kept p m s) h = ap (λ (c : Layout). Kept p m c) (node_there nth (suc position - width m) s h.1)

-- What the part weighs then:

weight_joined : (a b : Layout) → laid_weight (joined_layout a b) ≡ laid_weight a + laid_weight b
weight_joined Bare b = omega arith
weight_joined (Grown n d s) b = let e = weight_joined s b in omega (arith, e)
weight_joined (Kept p m s) b = weight_joined s b

pub weight_replaced : (index member : ℕ) (rest : List ℕ) (inside new : Layout) (position : ℕ) (path : List ℕ) (row : Layout) → LeadsInto index member rest inside position path row → laid_weight (replaced_at index new row) ≡ laid_weight row + laid_weight new
weight_replaced index member rest inside new position path Bare h = absurd h
weight_replaced index member rest inside new zero [] (Grown n b s) h = absurd h
weight_replaced index member rest inside new zero (q ∷ path) (Grown n b s) h =
    let row_is = ap (λ (l : Layout). laid_weight l) (less_is index (length (proxies_of b)) (Grown n (replaced_at index new b) s) (Grown n b (replaced_at (index - length (proxies_of b)) new s)) h.0) in
    let e = weight_replaced index member rest inside new q path b h.1 in
    omega (arith, row_is, e)
weight_replaced index member rest inside new (suc position) path (Grown n b s) h =
    let row_is = ap (λ (l : Layout). laid_weight l) (not_less index (length (proxies_of b)) (Grown n (replaced_at index new b) s) (Grown n b (replaced_at (index - length (proxies_of b)) new s)) h.0) in
    let e = weight_replaced (index - length (proxies_of b)) member rest inside new position path s h.1 in
    omega (arith, row_is, e)
weight_replaced zero member rest inside new position path (Kept p m s) h = let e = weight_joined new s in omega (arith, e)
weight_replaced (suc index) member rest inside new position path (Kept p m s) h = weight_replaced index member rest inside new (position - width m) path s h.1

most_joined : (k : ℕ) (a b : Layout) → PartIsAtMost k (without_places a) → PartIsAtMost k (without_places b) → PartIsAtMost k (without_places (joined_layout a b))
most_joined k Bare b h g = g
most_joined k (Grown n d s) b h g = (h.0, h.1, most_joined k s b h.2 g)
most_joined k (Kept p m s) b h g = most_joined k s b h g

pub most_replaced : (k index : ℕ) (new row : Layout) → PartIsAtMost k (without_places new) → PartIsAtMost k (without_places row) → PartIsAtMost k (without_places (replaced_at index new row))
most_replaced k index new Bare h g = tt
most_replaced k index new (Grown n b s) h g =
    elim (nat_lt index (length (proxies_of b))) as (λ t. PartIsAtMost k (without_places (if t then Grown n (replaced_at index new b) s else Grown n b (replaced_at (index - length (proxies_of b)) new s)))) [
      | true ↦ (g.0, most_replaced k index new b h g.1, g.2)
      | false ↦ (g.0, g.1, most_replaced k (index - length (proxies_of b)) new s h g.2)
    ]
most_replaced k zero new (Kept p m s) h g = most_joined k new s h g
most_replaced k (suc index) new (Kept p m s) h g = most_replaced k index new s h g
