-- Where a path leads in a piece it leads in each layout that the piece is of.
use Rattle.std.proofs.Common.{◌≡◌, ℕ, zero, suc, ◌+◌, ◌-◌, ◌<◌, ◌≤◌, List, [], ◌∷◌, ◌++◌, length, take, drop, None, Some, refl, sym, ap, ap₂, ◌∙◌, subst, arith, inl, inr, append_assoc, append-nil, length-append}
use Rattle.std.specs.List.{slice_get}
use Rattle.std.specs.Prelude.{option_and_then}
use Rattle.std.proofs.lemmas.List.{take_at, drop_at}
use Rattle.nx_tree.specs.Forest.{Forest, Empty, Plant}
use Rattle.nx_tree.specs.Edit.{child, at}
use Rattle.nx_piece.specs.declared.piece.Proxy.{Proxy}
use Rattle.nx_piece.specs.Gapped.{Gapped, GappedTree, End, Grow, Gap, proxies_in}
use Rattle.nx_piece.specs.Locate.{PieceChild, Kept as Away, Reached, Inside, Outside, Missing, roots_from, kept_from, children_of, reached, reached_in}
use Rattle.nx_piece_edits.specs.Cutting.{without_tree}
use Rattle.nx_piece_edits.specs.Taking.{led}
use Rattle.nx_piece.proofs.LocateLemmas.{get_in_front, get_behind, roots_length, root_there}
use Rattle.nx_piece_edits.proofs.TakeLemmas.{led_nowhere}
use Rattle.nx_piece_edits.proofs.LeftLemmas.{tree_reached, first_reached}
use Rattle.nx_cuts.specs.Cut.{Bare, Grown, Kept, joined, width}
use Rattle.nx_cuts.proofs.FeasibleLemmas.{trees, trees-joined, le_or}
use Rattle.nx_layouts.specs.Layout.{RecordPlace, Layout, in_record, laid_forest, gap_more, piece_body, piece_of, proxy_of, proxies_of}
use Rattle.nx_layouts.specs.Cutting.{layout_at, StaysIn, LeadsInto, member_tree, PathStays, PathLeadsOn, PathIsMissing}
use Rattle.nx_layouts.proofs.LayoutLemmas.{proxies_counted}
use Rattle.nx_layouts.proofs.WithoutLemmas.{stays_parts, body_without}

-- The children of a row:

pub trees-forest : (l : Layout) → trees (laid_forest l) ≡ width l
trees-forest Bare = refl
trees-forest (Grown n b s) = omega (arith, trees-forest s)
trees-forest (Kept p m s) = omega (arith, trees-joined (laid_forest m) (laid_forest s), trees-forest m, trees-forest s)

-- the trees of two forests beside each other
pub child_in_front : (f g : Forest) (p : ℕ) → p < trees f → child (joined f g) p ≡ child f p
child_in_front Empty g p h = absurd (omega arith)
child_in_front (Plant n b s) g zero h = refl
child_in_front (Plant n b s) g (suc p) h = child_in_front s g p (omega arith)

pub child_behind : (f g : Forest) (p : ℕ) → child (joined f g) (trees f + p) ≡ child g p
child_behind Empty g p = ap (child g) (let e : 0 + p ≡ p = omega arith in e)
child_behind (Plant n b s) g p = ap (child (Plant n b (joined s g))) (let e : 1 + trees s + p ≡ suc (trees s + p) = omega arith in e) ∙ child_behind s g p

-- what a list goes on with behind a first part
pub drop_front : {A : Type 0} (front : List A) (x : A) (rest all : List A) (n : ℕ) → all ≡ front ++ x ∷ rest → length front ≡ n → drop n all ≡ x ∷ drop (n + 1) all
drop_front front x rest all n e l = subst (λ (i : ℕ). drop i all ≡ x ∷ drop (i + 1) all) l (subst (λ ys. drop (length front) ys ≡ x ∷ drop (length front + 1) ys) (sym e) (there front x rest))
  where
    there : {A : Type 0} (front : List A) (x : A) (rest : List A) → drop (length front) (front ++ x ∷ rest) ≡ x ∷ drop (length front + 1) (front ++ x ∷ rest)
    there [] x rest = refl
    there (y ∷ front) x rest = there front x rest ∙ ap (λ (i : ℕ). x ∷ drop i (y ∷ front ++ x ∷ rest)) (let q : suc (length front + 1) ≡ length (y ∷ front) + 1 = omega arith in q)

-- one proxy more in the gap in front stands for the roots of its record in front
pub children-gap_more : (all : List Proxy) (first : ℕ) (proxy : Proxy) (g : Gapped) → drop first all ≡ proxy ∷ drop (first + 1) all → children_of all first (gap_more g) ≡ roots_from first 0 proxy.roots ++ children_of all (first + 1) g
children-gap_more all first proxy End d = ap (λ ps. kept_from first (take 1 ps) ++ []) d ∙ append-nil (roots_from first 0 proxy.roots ++ [])
children-gap_more all first proxy (Grow n b s) d =
    let rest = children_of all (first + 1) (Grow n b s) in
    ap (λ ps. kept_from first (take 1 ps) ++ rest) d ∙ ap (λ xs. xs ++ rest) (append-nil (roots_from first 0 proxy.roots))
children-gap_more all first proxy (Gap c s) d =
    let more : c + 1 ≡ suc c = omega arith in
    let behind : first + (c + 1) ≡ first + 1 + c = omega arith in
    ap (λ (i : ℕ). kept_from first (take (c + 1) (drop first all)) ++ children_of all i s) behind
    ∙ ap (λ (i : ℕ). kept_from first (take i (drop first all)) ++ children_of all (first + 1 + c) s) more
    ∙ ap (λ ps. kept_from first (take (suc c) ps) ++ children_of all (first + 1 + c) s) d
    ∙ append_assoc (roots_from first 0 proxy.roots) (kept_from (first + 1) (take c (drop (first + 1) all))) (children_of all (first + 1 + c) s)

-- The proxies of a row stand behind others:

pub record StandBehind (all : List Proxy) (first : ℕ) (row : Layout) : Type 0 where
  pub front : List Proxy
  pub back : List Proxy
  pub is : all ≡ front ++ (proxies_of row ++ back)
  pub long : length front ≡ first

pub all_behind : (row : Layout) → StandBehind (proxies_of row) 0 row
all_behind row = record { front = []; back = []; is = sym (append-nil (proxies_of row)); long = refl }

pub below_behind : {all : List Proxy} {first : ℕ} (b s : Layout) (back front : List Proxy) → all ≡ front ++ ((proxies_of b ++ proxies_of s) ++ back) → length front ≡ first → StandBehind all first b
below_behind b s back front e l = record { front = front; back = proxies_of s ++ back; is = e ∙ ap (λ xs. front ++ xs) (append_assoc (proxies_of b) (proxies_of s) back); long = l }

pub beside_behind : {all : List Proxy} {first : ℕ} (b s : Layout) (back front : List Proxy) → all ≡ front ++ ((proxies_of b ++ proxies_of s) ++ back) → length front ≡ first → StandBehind all (first + proxies_in (piece_body b)) s
beside_behind b s back front e l = record {
  front = front ++ proxies_of b;
  back = back;
  is = e ∙ ap (λ xs. front ++ xs) (append_assoc (proxies_of b) (proxies_of s) back) ∙ sym (append_assoc front (proxies_of b) (proxies_of s ++ back));
  long = omega (arith, length-append front (proxies_of b), proxies_counted b, l);
}

pub behind_one : {all : List Proxy} {first : ℕ} (proxy : Proxy) (s : Layout) (back front : List Proxy) → all ≡ front ++ (proxy ∷ proxies_of s ++ back) → length front ≡ first → StandBehind all (first + 1) s
behind_one proxy s back front e l = record {
  front = front ++ proxy ∷ [];
  back = back;
  is = e ∙ sym (append_assoc front (proxy ∷ []) (proxies_of s ++ back));
  long = omega (arith, length-append front (proxy ∷ []), l);
}

-- the children of an interval and of what stands beside it
pub children_kept : {all : List Proxy} {first : ℕ} (p : RecordPlace) (m s : Layout) → StandBehind all first (Kept p m s) → children_of all first (piece_body (Kept p m s)) ≡ roots_from first 0 (width m) ++ children_of all (first + 1) (piece_body s)
children_kept {all} {first} p m s h =
    children-gap_more all first (proxy_of p (width m)) (piece_body s) (drop_front h.front (proxy_of p (width m)) (proxies_of s ++ h.back) all first h.is h.long)

-- the child at a position among the members of the first interval, and behind them
pub child_here : {all : List Proxy} {first : ℕ} (p : RecordPlace) (m s : Layout) (position : ℕ) → StandBehind all first (Kept p m s) → position < width m
    → slice_get (children_of all first (piece_body (Kept p m s))) position ≡ Some (Away first position)
child_here {all} {first} p m s position h less =
    let there : slice_get (roots_from first 0 (width m)) position ≡ Some (Away first position) =
    root_there first 0 (width m) position less ∙ ap (λ (n : ℕ). Some (Away first n)) (let q : 0 + position ≡ position = omega arith in q) in
    ap (λ xs. slice_get xs position) (children_kept p m s h)
    ∙ get_in_front (roots_from first 0 (width m)) (children_of all (first + 1) (piece_body s)) position (Away first position) there

pub child_later : {all : List Proxy} {first : ℕ} (p : RecordPlace) (m s : Layout) (position : ℕ) → StandBehind all first (Kept p m s) → width m ≤ position
    → slice_get (children_of all first (piece_body (Kept p m s))) position ≡ slice_get (children_of all (first + 1) (piece_body s)) (position - width m)
child_later {all} {first} p m s position h most =
    let roots : List PieceChild = roots_from first 0 (width m) in
    let rest : List PieceChild = children_of all (first + 1) (piece_body s) in
    let long : length roots ≡ width m = roots_length first 0 (width m) in
    let place : position ≡ length roots + (position - width m) = omega (arith, long, most) in
    ap (λ xs. slice_get xs position) (children_kept p m s h)
    ∙ ap (λ (i : ℕ). slice_get (roots ++ rest) i) place
    ∙ get_behind roots rest (position - width m)

-- where the path leads from the members, and from behind them
led_member : {all : List Proxy} {first : ℕ} (used position : ℕ) (path : List ℕ) (p : RecordPlace) (m s : Layout) → StandBehind all first (Kept p m s) → position < width m
    → led all first (piece_body (Kept p m s)) used position path ≡ reached all used path (Some (Away first position))
led_member {all} {first} used position path p m s h less = ap (reached all used path) (child_here p m s position h less)

pub led_behind : {all : List Proxy} {first : ℕ} (used position : ℕ) (path : List ℕ) (p : RecordPlace) (m s : Layout) → StandBehind all first (Kept p m s) → width m ≤ position
    → led all first (piece_body (Kept p m s)) used position path ≡ led all (first + 1) (piece_body s) used (position - width m) path
led_behind {all} {first} used position path p m s h most = ap (reached all used path) (child_later p m s position h most)

pub member_behind : (p : RecordPlace) (m s : Layout) (position : ℕ) (path : List ℕ) → width m ≤ position → member_tree (laid_forest (Kept p m s)) position path ≡ member_tree (laid_forest s) (position - width m) path
member_behind p m s position path most =
    let place : position ≡ trees (laid_forest m) + (position - width m) = omega (arith, trees-forest m, most) in
    ap (λ o. option_and_then (λ t. at t path) o) (ap (child (joined (laid_forest m) (laid_forest s))) place ∙ child_behind (laid_forest m) (laid_forest s) (position - width m))

led_away : (all : List Proxy) (used : ℕ) (path : List ℕ) (index member : ℕ) → reached all used path (Some (Away index member)) ≡ Outside index member used
led_away all used [] index member = refl
led_away all used (q ∷ path) index member = refl

led_none : (all : List Proxy) (used : ℕ) (path : List ℕ) → reached all used path None ≡ Missing
led_none all used [] = refl
led_none all used (q ∷ path) = refl

-- Trees of the piece:

pub record IsLedTo (first before position : ℕ) (path : List ℕ) (row : Layout) (t : GappedTree) : Type 0 where
  pub stays : StaysIn position path row
  pub first_is : before ≡ first + length ((stays_parts position path row stays).front)
  pub tree_is : piece_body (layout_at position path row) ≡ Grow t.node t.below End

led_to : (all : List Proxy) (first used before position : ℕ) (path : List ℕ) (row : Layout) (t : GappedTree) → StandBehind all first row → led all first (piece_body row) used position path ≡ Inside t before → IsLedTo first before position path row t
led_to all first used before position path Bare t h e = absurd (led_nowhere all used path t before e)
led_to all first used before zero [] (Grown n b s) t h e =
    let same = ap (tree_reached (record { node = in_record n; below = piece_body b })) e in
    record {
      stays = tt;
      first_is = let q = ap first_reached e in omega (arith, q);
      tree_is = ap (λ (u : GappedTree). Grow u.node u.below End) same;
    }
led_to all first used before zero (q ∷ path) (Grown n b s) t h e =
    let r = led_to all first (used + 1) before q path b t (below_behind b s h.back h.front h.is h.long) e in
    record { stays = r.stays; first_is = r.first_is; tree_is = r.tree_is }
led_to all first used before (suc position) path (Grown n b s) t h e =
    let r = led_to all (first + proxies_in (piece_body b)) used before position path s t (beside_behind b s h.back h.front h.is h.long) e in
    record {
      stays = r.stays;
      first_is = let f = r.first_is in let l = length-append (proxies_of b) ((stays_parts position path s r.stays).front) in omega (arith, f, l, proxies_counted b);
      tree_is = r.tree_is;
    }
led_to all first used before position path (Kept p m s) t h e = elim (le_or position (width m)) [
  | inl less ↦ absurd (no_tree (sym (led_away all used path first position) ∙ sym (led_member used position path p m s h less) ∙ e))
  | inr most ↦
      let r = led_to all (first + 1) used before (position - width m) path s t (behind_one (proxy_of p (width m)) s h.back h.front h.is h.long) (sym (led_behind used position path p m s h most) ∙ e) in
      record {
        stays = (most, r.stays);
        first_is = let f = r.first_is in omega (arith, f);
        tree_is = r.tree_is;
      }
]
  where
    no_tree : Outside first position used ≡ Inside t before → ⊥
    no_tree x = absurd (cc)

pub tree_led : (members : Layout) (member : ℕ) (path : List ℕ) (tree : GappedTree) (first : ℕ) → reached_in (piece_of members) member path ≡ Inside tree first → IsLedTo 0 first member path members tree
tree_led members member path tree first e = led_to (proxies_of members) 0 0 first member path members tree (all_behind members) e

pub path_stays : PathStays
path_stays members member path tree first e =
    let r = tree_led members member path tree first e in
    let parts = stays_parts member path members r.stays in
    let at : Layout = layout_at member path members in
    let long : length parts.front ≡ first = let f = r.first_is in omega (arith, f) in
    let count : length (proxies_of at) ≡ proxies_in tree.below = let a = proxies_counted at in let b = ap proxies_in r.tree_is in omega (arith, a, b) in
    let behind : drop first (proxies_of members) ≡ proxies_of at ++ parts.back = ap (λ (ps : List Proxy). drop first ps) parts.proxies_were ∙ drop_at parts.front (proxies_of at ++ parts.back) first long in
    let end : length (parts.front ++ proxies_of at) ≡ first + proxies_in tree.below = let l = length-append parts.front (proxies_of at) in omega (arith, l, long, count) in
    let rest : drop (first + proxies_in tree.below) (proxies_of members) ≡ parts.back =
    ap (λ (ps : List Proxy). drop (first + proxies_in tree.below) ps) (parts.proxies_were ∙ sym (append_assoc parts.front (proxies_of at) parts.back)) ∙ drop_at (parts.front ++ proxies_of at) parts.back (first + proxies_in tree.below) end in
    let front : take first (proxies_of members) ≡ parts.front = ap (λ (ps : List Proxy). take first ps) parts.proxies_were ∙ take_at parts.front (proxies_of at ++ parts.back) first long in
    record {
      stays = r.stays;
      parts = parts;
      first_is = long;
      tree_is = r.tree_is;
      body = ap (λ (ps : List Proxy). without_tree member path (piece_body members) ps) (sym (append-nil (proxies_of members))) ∙ sym (body_without member path members [] r.stays);
      taken = ap (λ (ps : List Proxy). take (proxies_in tree.below) ps) behind ∙ take_at (proxies_of at) parts.back (proxies_in tree.below) count;
      left = ap₂ (λ (xs ys : List Proxy). xs ++ ys) front rest ∙ sym parts.proxies_are;
    }

-- Intervals below:

into_index : (index member : ℕ) (rest : List ℕ) (inside : Layout) (position : ℕ) (path : List ℕ) (row : Layout) → LeadsInto index member rest inside position path row → index < length (proxies_of row)
into_index index member rest inside position path Bare h = absurd h
into_index index member rest inside zero [] (Grown n b s) h = absurd h
into_index index member rest inside zero (q ∷ path) (Grown n b s) h = let l = length-append (proxies_of b) (proxies_of s) in let f = h.0 in omega (arith, l, f)
into_index index member rest inside (suc position) path (Grown n b s) h =
    let l = length-append (proxies_of b) (proxies_of s) in
    let e = into_index (index - length (proxies_of b)) member rest inside position path s h.1 in
    let f = h.0 in omega (arith, l, e, f)
into_index zero member rest inside position path (Kept p m s) h = omega arith
into_index (suc index) member rest inside position path (Kept p m s) h = let e = into_index index member rest inside (position - width m) path s h.1 in omega (arith, e)

abbrev index_reached : Reached → ℕ
index_reached (Inside t first) = 0
index_reached (Outside index member used) = index
index_reached Missing = 0

abbrev member_reached : Reached → ℕ
member_reached (Inside t first) = 0
member_reached (Outside index member used) = member
member_reached Missing = 0

abbrev used_reached : Reached → ℕ
used_reached (Inside t first) = 0
used_reached (Outside index member used) = used
used_reached Missing = 0

record IsLedInto (first index member used end position : ℕ) (path : List ℕ) (row : Layout) : Type 0 where
  inside : Layout
  more : ℕ
  end_is : end ≡ used + more
  within : more ≤ length path
  behind : first ≤ index
  into : LeadsInto (index - first) member (drop more path) inside position path row
  same : member_tree (laid_forest row) position path ≡ member_tree (laid_forest inside) member (drop more path)

led_into : (all : List Proxy) (first index member used end position : ℕ) (path : List ℕ) (row : Layout) → StandBehind all first row → led all first (piece_body row) used position path ≡ Outside index member end
    → IsLedInto first index member used end position path row
led_into all first index member used end position path Bare h e = absurd (no_more (sym (led_none all used path) ∙ e))
  where
    no_more : Missing ≡ Outside index member end → ⊥
    no_more x = absurd (cc)
led_into all first index member used end zero [] (Grown n b s) h e = absurd (cc)
led_into all first index member used end zero (q ∷ path) (Grown n b s) h e =
    let r = led_into all first index member (used + 1) end q path b (below_behind b s h.back h.front h.is h.long) e in
    record {
      inside = r.inside;
      more = suc r.more;
      end_is = let f = r.end_is in omega (arith, f);
      within = let f = r.within in omega (arith, f);
      behind = r.behind;
      into = (into_index (index - first) member (drop r.more path) r.inside q path b r.into, r.into);
      same = r.same;
    }
led_into all first index member used end (suc position) path (Grown n b s) h e =
    let r = led_into all (first + proxies_in (piece_body b)) index member used end position path s (beside_behind b s h.back h.front h.is h.long) e in
    let c = proxies_counted b in
    let f = r.behind in
    let place : index - (first + proxies_in (piece_body b)) ≡ index - first - length (proxies_of b) = omega (arith, c, f) in
    record {
      inside = r.inside;
      more = r.more;
      end_is = r.end_is;
      within = r.within;
      behind = omega (arith, f);
      into = ((omega (arith, c, f)), subst (λ (i : ℕ). LeadsInto i member (drop r.more path) r.inside position path s) place r.into);
      same = r.same;
    }
led_into all first index member used end position path (Kept p m s) h e = elim (le_or position (width m)) [
  | inl less ↦
      let is : Outside first position used ≡ Outside index member end = sym (led_away all used path first position) ∙ sym (led_member used position path p m s h less) ∙ e in
      let i : first ≡ index = ap index_reached is in
      let j : position ≡ member = ap member_reached is in
      let l : used ≡ end = ap used_reached is in
      let none : zero ≡ index - first = omega (arith, i) in
      let within : position < trees (laid_forest m) = omega (arith, trees-forest m, less) in
      record {
        inside = m;
        more = 0;
        end_is = omega (arith, l);
        within = omega arith;
        behind = omega (arith, i);
        into = subst (λ (n : ℕ). LeadsInto n member path m position path (Kept p m s)) none (less, sym j, refl, refl);
        same = ap (λ o. option_and_then (λ t. at t path) o) (child_in_front (laid_forest m) (laid_forest s) position within) ∙ ap (λ (n : ℕ). member_tree (laid_forest m) n path) j;
      }
  | inr most ↦
      let r = led_into all (first + 1) index member used end (position - width m) path s (behind_one (proxy_of p (width m)) s h.back h.front h.is h.long) (sym (led_behind used position path p m s h most) ∙ e) in
      let f = r.behind in
      let place : suc (index - (first + 1)) ≡ index - first = omega (arith, f) in
      record {
        inside = r.inside;
        more = r.more;
        end_is = r.end_is;
        within = r.within;
        behind = omega (arith, f);
        into = subst (λ (n : ℕ). LeadsInto n member (drop r.more path) r.inside position path (Kept p m s)) place (most, r.into);
        same = member_behind p m s position path most ∙ r.same;
      }
]

pub path_leads_on : PathLeadsOn
path_leads_on members member path index inner used e =
    let r = led_into (proxies_of members) 0 index inner 0 used member path members (all_behind members) e in
    let f = r.end_is in
    let n : r.more ≡ used = omega (arith, f) in
    let place : index - 0 ≡ index = omega arith in
    record {
      inside = r.inside;
      into = subst (λ (i : ℕ). LeadsInto i inner (drop used path) r.inside member path members) place (subst (λ (k : ℕ). LeadsInto (index - 0) inner (drop k path) r.inside member path members) n r.into);
      within = subst (λ (k : ℕ). k ≤ length path) n r.within;
      same = r.same ∙ ap (λ (k : ℕ). member_tree (laid_forest r.inside) inner (drop k path)) n;
    }

-- Nothing:

led_missing : (all : List Proxy) (first used position : ℕ) (path : List ℕ) (row : Layout) → StandBehind all first row → led all first (piece_body row) used position path ≡ Missing → member_tree (laid_forest row) position path ≡ None
led_missing all first used position path Bare h e = refl
led_missing all first used zero [] (Grown n b s) h e = absurd (cc)
led_missing all first used zero (q ∷ path) (Grown n b s) h e = led_missing all first (used + 1) q path b (below_behind b s h.back h.front h.is h.long) e
led_missing all first used (suc position) path (Grown n b s) h e = led_missing all (first + proxies_in (piece_body b)) used position path s (beside_behind b s h.back h.front h.is h.long) e
led_missing all first used position path (Kept p m s) h e = elim (le_or position (width m)) [
  | inl less ↦ absurd (no_end (sym (led_away all used path first position) ∙ sym (led_member used position path p m s h less) ∙ e))
  | inr most ↦
      member_behind p m s position path most
      ∙ led_missing all (first + 1) used (position - width m) path s (behind_one (proxy_of p (width m)) s h.back h.front h.is h.long) (sym (led_behind used position path p m s h most) ∙ e)
]
  where
    no_end : Outside first position used ≡ Missing → ⊥
    no_end x = absurd (cc)

pub path_is_missing : PathIsMissing
path_is_missing members member path e = led_missing (proxies_of members) 0 0 member path members (all_behind members) e
