-- A tree taken out of what one record has.
use Rattle.std.proofs.Common.{◌≡◌, ℕ, zero, suc, ◌-◌, ◌<◌, ◌≤◌, nat_lt, if◌then◌else◌, Bool, true, false, List, [], ◌∷◌, ◌++◌, length, refl, sym, ap, ◌∙◌, subst, arith, append_assoc}
use Rattle.std.proofs.lemmas.Bool.Decides.{nat_tests}
use Rattle.nx_tree.specs.declared.node.Node.{Node}
use Rattle.nx_cuts.specs.Cut.{CutForest, CutTree, Bare, Grown, Kept, width, AreFree}
use Rattle.nx_layouts.specs.Layout.{RecordPlace, LaidNode, Layout, proxies_of, places_of, nodes_in, without_places}
use Rattle.nx_layouts.specs.Replace.{replaced_at}
use Rattle.nx_layouts.proofs.DrawnLemmas.{drawn_wide, rows_are_drawn_alike}
use Rattle.nx_layouts.proofs.ReplaceLemmas.{nodes-joined_layout}
use Rattle.nx_layouts.proofs.WithoutLemmas.{shift_in}
use Rattle.nx_cuts.specs.Rows.{joined_row, changed_row}
use Rattle.nx_drawn.specs.Edits.{kept, removed_row, deleted}
use Rattle.nx_edit.specs.Rows.{deleted_row, left_of}
use Rattle.nx_layouts.specs.Cutting.{layout_without, kept_layout, StaysIn, LeadsInto}
use Rattle.nx_edit.specs.Cutting.{RowIsCut, RestStays, NodesStay, IntervalIsCut, IntervalLeft, IntervalInside, NodesInside}
use Rattle.nx_edit.specs.Editing.{places_off, nodes_off}

pub less_is : (a b : ℕ) → a < b → nat_lt a b ≡ true
less_is a b less = grind (arith, nat_tests)

pub not_less : (a b : ℕ) → b ≤ a → nat_lt a b ≡ false
not_less a b most = grind (arith, nat_tests)

pub if_less : (a b : ℕ) (x y : CutForest) → a < b → (if nat_lt a b then x else y) ≡ x
if_less a b x y less = subst (λ (t : Bool). (if t then x else y) ≡ x) (sym (less_is a b less)) refl

pub if_not_less : (a b : ℕ) (x y : CutForest) → b ≤ a → (if nat_lt a b then x else y) ≡ y
if_not_less a b x y most = subst (λ (t : Bool). (if t then x else y) ≡ y) (sym (not_less a b most)) refl

if_less_layout : (a b : ℕ) (x y : Layout) → a < b → (if nat_lt a b then x else y) ≡ x
if_less_layout a b x y less = subst (λ (t : Bool). (if t then x else y) ≡ x) (sym (less_is a b less)) refl

if_not_less_layout : (a b : ℕ) (x y : Layout) → b ≤ a → (if nat_lt a b then x else y) ≡ y
if_not_less_layout a b x y most = subst (λ (t : Bool). (if t then x else y) ≡ y) (sym (not_less a b most)) refl

-- a tree with something taken away below it
deleted_below : (next : ℕ) (path : List ℕ) (node : Node) (below : CutForest) → deleted (next ∷ path) (record { node = node; below = below }) ≡ record { node = node; below = deleted_row (next ∷ path) below }
deleted_below next [] node below = refl
deleted_below next (q ∷ path) node below = refl

tree_in : CutForest → CutTree → CutForest
tree_in beside t = Grown t.node t.below beside

-- Rows one step further:

row_below : (next : ℕ) (path : List ℕ) (node : Node) (below beside : CutForest) → deleted_row (0 ∷ next ∷ path) (Grown node below beside) ≡ Grown node (deleted_row (next ∷ path) below) beside
row_below next path node below beside = ap (λ (t : CutTree). Grown t.node t.below beside) (deleted_below next path node below)

row_beside : (position : ℕ) (path : List ℕ) (node : Node) (below beside : CutForest) → deleted_row (suc position ∷ path) (Grown node below beside) ≡ Grown node below (deleted_row (position ∷ path) beside)
row_beside position [] node below beside = refl
row_beside position (q ∷ path) node below beside = refl

row_behind : (position : ℕ) (path : List ℕ) (members beside : CutForest) → width members ≤ position → deleted_row (position ∷ path) (Kept tt members beside) ≡ Kept tt members (deleted_row ((position - width members) ∷ path) beside)
row_behind position [] members beside most = if_not_less position (width members) (kept tt (removed_row position members) beside) (Kept tt members (removed_row (position - width members) beside)) most
row_behind position (q ∷ path) members beside most =
    if_not_less position (width members) (Kept tt (changed_row position (deleted (q ∷ path)) members) beside) (Kept tt members (changed_row (position - width members) (deleted (q ∷ path)) beside)) most

kept_joined : (c beside : CutForest) → kept tt c beside ≡ joined_row (kept tt c Bare) beside
kept_joined Bare beside = refl
kept_joined (Grown n b s) beside = refl
kept_joined (Kept m c s) beside = refl

row_inside : (position : ℕ) (path : List ℕ) (members beside : CutForest) → position < width members → deleted_row (position ∷ path) (Kept tt members beside) ≡ joined_row (deleted_row (position ∷ path) (Kept tt members Bare)) beside
row_inside position [] members beside less =
    if_less position (width members) (kept tt (removed_row position members) beside) (Kept tt members (removed_row (position - width members) beside)) less
    ∙ kept_joined (removed_row position members) beside
    ∙ ap (λ (c : CutForest). joined_row c beside) (sym (if_less position (width members) (kept tt (removed_row position members) Bare) (Kept tt members (removed_row (position - width members) Bare)) less))
row_inside position (q ∷ path) members beside less =
    if_less position (width members) (Kept tt (changed_row position (deleted (q ∷ path)) members) beside) (Kept tt members (changed_row (position - width members) (deleted (q ∷ path)) beside)) less
    ∙ ap (λ (c : CutForest). joined_row c beside)
    (sym (if_less position (width members) (Kept tt (changed_row position (deleted (q ∷ path)) members) Bare) (Kept tt members (changed_row (position - width members) (deleted (q ∷ path)) Bare)) less))

pub row_is_cut : RowIsCut
row_is_cut position path Bare h = absurd h
row_is_cut zero [] (Grown n b s) h = refl
row_is_cut zero (q ∷ path) (Grown n b s) h = ap (λ (c : CutForest). Grown n.node c (without_places s)) (row_is_cut q path b h) ∙ sym (row_below q path n.node (without_places b) (without_places s))
row_is_cut (suc position) path (Grown n b s) h = ap (λ (c : CutForest). Grown n.node (without_places b) c) (row_is_cut position path s h) ∙ sym (row_beside position path n.node (without_places b) (without_places s))
row_is_cut position path (Kept p m s) h =
    ap (λ (c : CutForest). Kept tt (without_places m) c)
    (row_is_cut (position - width m) path s h.1 ∙ ap (λ (w : ℕ). deleted_row ((position - w) ∷ path) (without_places s)) (sym (drawn_wide m)))
    ∙ sym (row_behind position path (without_places m) (without_places s) (subst (λ (w : ℕ). w ≤ position) (sym (drawn_wide m)) h.0))

pub interval_is_cut : IntervalIsCut
interval_is_cut index member rest members left position path Bare h e = absurd h
interval_is_cut index member rest members left zero [] (Grown n b s) h e = absurd h
interval_is_cut index member rest members left zero (q ∷ path) (Grown n b s) h e =
    ap (λ (l : Layout). without_places l) (if_less_layout index (length (proxies_of b)) (Grown n (replaced_at index left b) s) (Grown n b (replaced_at (index - length (proxies_of b)) left s)) h.0)
    ∙ ap (λ (c : CutForest). Grown n.node c (without_places s)) (interval_is_cut index member rest members left q path b h.1 e)
    ∙ sym (row_below q path n.node (without_places b) (without_places s))
interval_is_cut index member rest members left (suc position) path (Grown n b s) h e =
    ap (λ (l : Layout). without_places l) (if_not_less_layout index (length (proxies_of b)) (Grown n (replaced_at index left b) s) (Grown n b (replaced_at (index - length (proxies_of b)) left s)) h.0)
    ∙ ap (λ (c : CutForest). Grown n.node (without_places b) c) (interval_is_cut (index - length (proxies_of b)) member rest members left position path s h.1 e)
    ∙ sym (row_beside position path n.node (without_places b) (without_places s))
interval_is_cut zero member rest members left position path (Kept p m s) h e =
    (rows_are_drawn_alike left).joined s
    ∙ ap (λ (c : CutForest). joined_row c (without_places s)) (e ∙ here h.1 h.2 h.3)
    ∙ sym (row_inside position path (without_places m) (without_places s) (subst (λ (w : ℕ). position < w) (sym (drawn_wide m)) h.0))
  where
    here : member ≡ position → rest ≡ path → members ≡ m → left_of member rest members ≡ left_of position path m
    here a b c = cc
interval_is_cut (suc index) member rest members left position path (Kept p m s) h e =
    ap (λ (c : CutForest). Kept tt (without_places m) c)
    (interval_is_cut index member rest members left (position - width m) path s h.1 e ∙ ap (λ (w : ℕ). deleted_row ((position - w) ∷ path) (without_places s)) (sym (drawn_wide m)))
    ∙ sym (row_behind position path (without_places m) (without_places s) (subst (λ (w : ℕ). w ≤ position) (sym (drawn_wide m)) h.0))

none_off : (a : Layout) → places_off false [] a ≡ []
none_off Bare = refl
none_off (Grown n b s) = refl
none_off (Kept p m s) = refl

-- the records that stay are those of what is left
pub rest_stays : RestStays
rest_stays position path Bare h = absurd h
rest_stays zero [] (Grown n b s) h = ap (λ (ps : List RecordPlace). ps ++ places_of s) (none_off b)
rest_stays zero (q ∷ path) (Grown n b s) h = ap (λ (ps : List RecordPlace). ps ++ places_of s) (rest_stays q path b h)
rest_stays (suc position) path (Grown n b s) h = ap (λ (ps : List RecordPlace). places_of b ++ ps) (rest_stays position path s h)
rest_stays position path (Kept p m s) h =
    subst (λ (t : Bool). (if t then places_off false (position ∷ path) m ++ places_of s else p ∷ places_of m ++ places_off false ((position - width m) ∷ path) s) ≡ p ∷ places_of m ++ places_of (layout_without (position - width m) path s)) (sym (not_less position (width m) h.0))
    (ap (λ (ps : List RecordPlace). p ∷ places_of m ++ ps) (rest_stays (position - width m) path s h.1))

none_off_nodes : (a : Layout) → nodes_off false [] a ≡ []
none_off_nodes Bare = refl
none_off_nodes (Grown n b s) = refl
none_off_nodes (Kept p m s) = refl

-- ... and so are the nodes
pub nodes_stay : NodesStay
nodes_stay position path Bare h = absurd h
nodes_stay zero [] (Grown n b s) h = ap (λ (ns : List LaidNode). ns ++ nodes_in s) (none_off_nodes b)
nodes_stay zero (q ∷ path) (Grown n b s) h = ap (λ (ns : List LaidNode). n ∷ ns ++ nodes_in s) (nodes_stay q path b h)
nodes_stay (suc position) path (Grown n b s) h = ap (λ (ns : List LaidNode). n ∷ nodes_in b ++ ns) (nodes_stay position path s h)
nodes_stay position path (Kept p m s) h =
    subst (λ (t : Bool). (if t then nodes_off false (position ∷ path) m ++ nodes_in s else nodes_in m ++ nodes_off false ((position - width m) ∷ path) s) ≡ nodes_in m ++ nodes_in (layout_without (position - width m) path s)) (sym (not_less position (width m) h.0))
    (ap (λ (ns : List LaidNode). nodes_in m ++ ns) (nodes_stay (position - width m) path s h.1))

pub member_there : (position : ℕ) (path : List ℕ) (row : Layout) → StaysIn position path row → position < width row
member_there position path Bare h = absurd h
member_there zero path (Grown n b s) h = omega arith
member_there (suc position) path (Grown n b s) h = let e = member_there position path s h in omega (arith, e)
member_there position path (Kept p m s) h = let e = member_there (position - width m) path s h.1 in let f = h.0 in omega (arith, e, f)

some_left : (position next : ℕ) (path : List ℕ) (place : RecordPlace) (row : Layout) → StaysIn position (next ∷ path) row → without_places (kept_layout place (layout_without position (next ∷ path) row)) ≡ Kept tt (without_places (layout_without position (next ∷ path) row)) Bare
some_left position next path place Bare h = absurd h
some_left zero next path place (Grown n b s) h = refl
some_left (suc position) next path place (Grown n b s) h = refl
some_left position next path place (Kept p m s) h = refl

kept_without : (place : RecordPlace) (a : Layout) → without_places (kept_layout place a) ≡ kept tt (without_places a) Bare
kept_without place Bare = refl
kept_without place (Grown n b s) = refl
kept_without place (Kept p m s) = refl

-- an interval that lost a tree of its own record
pub interval_left : IntervalLeft
interval_left position [] place members h =
    kept_without place (layout_without position [] members) ∙ ap (λ (c : CutForest). kept tt c Bare) (row_is_cut position [] members h)
    ∙ sym (if_less position (width (without_places members)) (kept tt (removed_row position (without_places members)) Bare) (Kept tt (without_places members) (removed_row (position - width (without_places members)) Bare))
    (subst (λ (w : ℕ). position < w) (sym (drawn_wide members)) (member_there position [] members h)))
interval_left position (q ∷ path) place members h =
    some_left position q path place members h ∙ ap (λ (c : CutForest). Kept tt c Bare) (row_is_cut position (q ∷ path) members h)
    ∙ sym (if_less position (width (without_places members)) (Kept tt (changed_row position (deleted (q ∷ path)) (without_places members)) Bare) (Kept tt (without_places members) (changed_row (position - width (without_places members)) (deleted (q ∷ path)) Bare))
    (subst (λ (w : ℕ). position < w) (sym (drawn_wide members)) (member_there position (q ∷ path) members h)))

-- Intervals that the path leads into:

pub into_there : (index member : ℕ) (rest : List ℕ) (inside : Layout) (position : ℕ) (path : List ℕ) (row : Layout) → LeadsInto index member rest inside position path row → position < width row
into_there index member rest inside position path Bare h = absurd h
into_there index member rest inside zero path (Grown n b s) h = omega arith
into_there index member rest inside (suc position) path (Grown n b s) h = let e = into_there (index - length (proxies_of b)) member rest inside position path s h.1 in omega (arith, e)
into_there zero member rest inside position path (Kept p m s) h = let e = h.0 in omega (arith, e)
into_there (suc index) member rest inside position path (Kept p m s) h = let e = into_there index member rest inside (position - width m) path s h.1 in let f = h.0 in omega (arith, e, f)

-- a free row is no interval, so the path into one goes on
into_deeper : (index member : ℕ) (rest : List ℕ) (inside : Layout) (position : ℕ) (row : Layout) → AreFree row → LeadsInto index member rest inside position [] row → ⊥
into_deeper index member rest inside position Bare f h = absurd h
into_deeper index member rest inside zero (Grown n b s) f h = absurd h
into_deeper index member rest inside (suc position) (Grown n b s) f h = into_deeper (index - length (proxies_of b)) member rest inside position s f h.1
into_deeper index member rest inside position (Kept p m s) f h = absurd f

pub interval_inside : IntervalInside
interval_inside index member rest inside left position [] place members free h e = absurd (into_deeper index member rest inside position members free h)
interval_inside index member rest inside left position (q ∷ path) place members free h e =
    ap (λ (c : CutForest). Kept tt c Bare) (interval_is_cut index member rest inside left position (q ∷ path) members h e)
    ∙ sym (if_less position (width (without_places members)) (Kept tt (changed_row position (deleted (q ∷ path)) (without_places members)) Bare) (Kept tt (without_places members) (changed_row (position - width (without_places members)) (deleted (q ∷ path)) Bare))
    (subst (λ (w : ℕ). position < w) (sym (drawn_wide members)) (into_there index member rest inside position (q ∷ path) members h)))

-- The nodes around an interval that the path leads into:

if_less_nodes : (a b : ℕ) (x y : List LaidNode) → a < b → (if nat_lt a b then x else y) ≡ x
if_less_nodes a b x y less = subst (λ (t : Bool). (if t then x else y) ≡ x) (sym (less_is a b less)) refl

if_not_less_nodes : (a b : ℕ) (x y : List LaidNode) → b ≤ a → (if nat_lt a b then x else y) ≡ y
if_not_less_nodes a b x y most = subst (λ (t : Bool). (if t then x else y) ≡ y) (sym (not_less a b most)) refl

pub nodes_inside : NodesInside
nodes_inside stays index member rest inside position path Bare h = absurd h
nodes_inside stays index member rest inside zero [] (Grown n b s) h = absurd h
nodes_inside stays index member rest inside zero (q ∷ path) (Grown n b s) h =
    let r = nodes_inside stays index member rest inside q path b h.1 in
    record {
      before = n ∷ r.before;
      behind = r.behind ++ nodes_in s;
      off = ap (λ (ns : List LaidNode). n ∷ ns ++ nodes_in s) r.off ∙ ap (λ (ns : List LaidNode). n ∷ ns) (shift_in r.before (nodes_off stays (member ∷ rest) inside) r.behind (nodes_in s));
      were = ap (λ (ns : List LaidNode). n ∷ ns ++ nodes_in s) r.were ∙ ap (λ (ns : List LaidNode). n ∷ ns) (shift_in r.before (nodes_in inside) r.behind (nodes_in s));
      are = λ left.
          ap (λ (l : Layout). nodes_in l) (if_less_layout index (length (proxies_of b)) (Grown n (replaced_at index left b) s) (Grown n b (replaced_at (index - length (proxies_of b)) left s)) h.0)
          ∙ ap (λ (ns : List LaidNode). n ∷ ns ++ nodes_in s) (r.are left)
          ∙ ap (λ (ns : List LaidNode). n ∷ ns) (shift_in r.before (nodes_in left) r.behind (nodes_in s));
    }
nodes_inside stays index member rest inside (suc position) path (Grown n b s) h =
    let r = nodes_inside stays (index - length (proxies_of b)) member rest inside position path s h.1 in
    record {
      before = n ∷ nodes_in b ++ r.before;
      behind = r.behind;
      off = ap (λ (ns : List LaidNode). n ∷ nodes_in b ++ ns) r.off ∙ ap (λ (ns : List LaidNode). n ∷ ns) (sym (append_assoc (nodes_in b) r.before (nodes_off stays (member ∷ rest) inside ++ r.behind)));
      were = ap (λ (ns : List LaidNode). n ∷ nodes_in b ++ ns) r.were ∙ ap (λ (ns : List LaidNode). n ∷ ns) (sym (append_assoc (nodes_in b) r.before (nodes_in inside ++ r.behind)));
      are = λ left.
          ap (λ (l : Layout). nodes_in l) (if_not_less_layout index (length (proxies_of b)) (Grown n (replaced_at index left b) s) (Grown n b (replaced_at (index - length (proxies_of b)) left s)) h.0)
          ∙ ap (λ (ns : List LaidNode). n ∷ nodes_in b ++ ns) (r.are left)
          ∙ ap (λ (ns : List LaidNode). n ∷ ns) (sym (append_assoc (nodes_in b) r.before (nodes_in left ++ r.behind)));
    }
nodes_inside stays zero member rest inside position path (Kept p m s) h = record {
  before = [];
  behind = nodes_in s;
  off =
      if_less_nodes position (width m) (nodes_off stays (position ∷ path) m ++ nodes_in s) (nodes_in m ++ nodes_off stays ((position - width m) ∷ path) s) h.0
      ∙ ap (λ (ns : List LaidNode). ns ++ nodes_in s) (sym (here h.1 h.2 h.3));
  were = ap (λ (l : Layout). nodes_in l ++ nodes_in s) (sym h.3);
  are = λ left. nodes-joined_layout left s;
}
  where
    here : member ≡ position → rest ≡ path → inside ≡ m → nodes_off stays (member ∷ rest) inside ≡ nodes_off stays (position ∷ path) m
    here a b c = cc
nodes_inside stays (suc index) member rest inside position path (Kept p m s) h =
    let r = nodes_inside stays index member rest inside (position - width m) path s h.1 in
    record {
      before = nodes_in m ++ r.before;
      behind = r.behind;
      off =
          if_not_less_nodes position (width m) (nodes_off stays (position ∷ path) m ++ nodes_in s) (nodes_in m ++ nodes_off stays ((position - width m) ∷ path) s) h.0
          ∙ ap (λ (ns : List LaidNode). nodes_in m ++ ns) r.off
          ∙ sym (append_assoc (nodes_in m) r.before (nodes_off stays (member ∷ rest) inside ++ r.behind));
      were = ap (λ (ns : List LaidNode). nodes_in m ++ ns) r.were ∙ sym (append_assoc (nodes_in m) r.before (nodes_in inside ++ r.behind));
      are = λ left. ap (λ (ns : List LaidNode). nodes_in m ++ ns) (r.are left) ∙ sym (append_assoc (nodes_in m) r.before (nodes_in left ++ r.behind));
    }
