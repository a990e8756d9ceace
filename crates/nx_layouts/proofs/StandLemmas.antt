-- Where an interval stands that a path leads into.
use Rattle.std.proofs.Common.{◌≡◌, ℕ, zero, suc, ◌+◌, ◌-◌, ◌<◌, List, [], ◌∷◌, ◌++◌, length, refl, sym, ap, ◌∙◌, subst, arith, append_assoc, length-append}
use Rattle.nx_tree.specs.Forest.{nodes}
use Rattle.nx_piece.specs.declared.piece.Proxy.{Proxy}
use Rattle.nx_piece_edits.proofs.LeftLemmas.{less_is, not_less}
use Rattle.nx_cuts.specs.Cut.{Bare, Grown, Kept, width}
use Rattle.nx_layouts.specs.Layout.{RecordPlace, LaidNode, Layout, laid_forest, proxies_of, proxy_of, places_of, nodes_in}
use Rattle.nx_layouts.specs.Replace.{joined_layout, replaced_at, kept_at}
use Rattle.nx_layouts.specs.Cutting.{StandsIn, IntervalStandsIn}
use Rattle.nx_layouts.proofs.ReplaceLemmas.{forest-joined_layout, nodes-joined_layout}
use Rattle.nx_layouts.proofs.WithoutLemmas.{nodes_joined, shift_in}

places_joined : (a b : Layout) → places_of (joined_layout a b) ≡ places_of a ++ places_of b
places_joined Bare b = refl
places_joined (Grown n d s) b = ap (λ (ps : List RecordPlace). places_of d ++ ps) (places_joined s b) ∙ sym (append_assoc (places_of d) (places_of s) (places_of b))
places_joined (Kept p m s) b = ap (λ (ps : List RecordPlace). p ∷ (places_of m ++ ps)) (places_joined s b) ∙ ap (λ (ps : List RecordPlace). p ∷ ps) (sym (append_assoc (places_of m) (places_of s) (places_of b)))

-- the interval at the head of a row
here : (k position : ℕ) (p : RecordPlace) (m s : Layout) → position < width m → StandsIn k zero m (Kept p m s)
here k position p m s less = record {
  at = p;
  front = [];
  back = proxies_of s;
  proxies_are = refl;
  index_is = refl;
  kept = refl;
  before = [];
  behind = places_of s;
  places_were = refl;
  places_are = λ left. places_joined left s;
  nodes_before = [];
  nodes_behind = nodes_in s;
  nodes_were = refl;
  nodes_are = λ left. nodes-joined_layout left s;
  held = λ stock held. (held.0, held.1, tt);
  light = λ parts. (parts.0, parts.1, parts.2, parts.3, tt);
  counted = λ left.
      let e : nodes (laid_forest (joined_layout left s)) ≡ nodes (laid_forest left) + nodes (laid_forest s) = ap nodes (forest-joined_layout left s) ∙ nodes_joined (laid_forest left) (laid_forest s) in
      let f = nodes_joined (laid_forest m) (laid_forest s) in
      omega (arith, e, f);
}

pub interval_stands_in : IntervalStandsIn
interval_stands_in k index member rest inside position path Bare h = absurd h
interval_stands_in k index member rest inside zero [] (Grown n b s) h = absurd h
interval_stands_in k index member rest inside zero (q ∷ path) (Grown n b s) h =
    let r = interval_stands_in k index member rest inside q path b h.1 in
    let one : Proxy = proxy_of r.at (width inside) in
    let row_is : (left : Layout) → replaced_at index left (Grown n b s) ≡ Grown n (replaced_at index left b) s =
    λ left. less_is index (length (proxies_of b)) (Grown n (replaced_at index left b) s) (Grown n b (replaced_at (index - length (proxies_of b)) left s)) h.0 in
    record {
      at = r.at;
      front = r.front;
      back = r.back ++ proxies_of s;
      proxies_are = ap (λ (ps : List Proxy). ps ++ proxies_of s) r.proxies_are ∙ append_assoc r.front (one ∷ r.back) (proxies_of s);
      index_is = r.index_is;
      kept = less_is index (length (proxies_of b)) (kept_at index b) (kept_at (index - length (proxies_of b)) s) h.0 ∙ r.kept;
      before = r.before;
      behind = r.behind ++ places_of s;
      places_were = ap (λ (ps : List RecordPlace). ps ++ places_of s) r.places_were ∙ shift_in r.before (r.at ∷ places_of inside) r.behind (places_of s);
      places_are = λ left. ap places_of (row_is left) ∙ ap (λ (ps : List RecordPlace). ps ++ places_of s) (r.places_are left) ∙ shift_in r.before (places_of left) r.behind (places_of s);
      nodes_before = n ∷ r.nodes_before;
      nodes_behind = r.nodes_behind ++ nodes_in s;
      nodes_were = ap (λ (ns : List LaidNode). n ∷ (ns ++ nodes_in s)) r.nodes_were ∙ ap (λ (ns : List LaidNode). n ∷ ns) (shift_in r.nodes_before (nodes_in inside) r.nodes_behind (nodes_in s));
      nodes_are = λ left. ap nodes_in (row_is left) ∙ ap (λ (ns : List LaidNode). n ∷ (ns ++ nodes_in s)) (r.nodes_are left) ∙ ap (λ (ns : List LaidNode). n ∷ ns) (shift_in r.nodes_before (nodes_in left) r.nodes_behind (nodes_in s));
      held = λ stock held. r.held stock held.1;
      light = λ parts. r.light parts.0;
      counted = λ left. let e = r.counted left in let f = ap (λ (l : Layout). nodes (laid_forest l)) (row_is left) in omega (arith, e, f);
    }
interval_stands_in k index member rest inside (suc position) path (Grown n b s) h =
    let r = interval_stands_in k (index - length (proxies_of b)) member rest inside position path s h.1 in
    let one : Proxy = proxy_of r.at (width inside) in
    let row_is : (left : Layout) → replaced_at index left (Grown n b s) ≡ Grown n b (replaced_at (index - length (proxies_of b)) left s) =
    λ left. not_less index (length (proxies_of b)) (Grown n (replaced_at index left b) s) (Grown n b (replaced_at (index - length (proxies_of b)) left s)) h.0 in
    record {
      at = r.at;
      front = proxies_of b ++ r.front;
      back = r.back;
      proxies_are = ap (λ (ps : List Proxy). proxies_of b ++ ps) r.proxies_are ∙ sym (append_assoc (proxies_of b) r.front (one ∷ r.back));
      index_is = let l = length-append (proxies_of b) r.front in let i = r.index_is in let most = h.0 in omega (arith, l, i, most);
      kept = not_less index (length (proxies_of b)) (kept_at index b) (kept_at (index - length (proxies_of b)) s) h.0 ∙ r.kept;
      before = places_of b ++ r.before;
      behind = r.behind;
      places_were = ap (λ (ps : List RecordPlace). places_of b ++ ps) r.places_were ∙ sym (append_assoc (places_of b) r.before ((r.at ∷ places_of inside) ++ r.behind));
      places_are = λ left. ap places_of (row_is left) ∙ ap (λ (ps : List RecordPlace). places_of b ++ ps) (r.places_are left) ∙ sym (append_assoc (places_of b) r.before (places_of left ++ r.behind));
      nodes_before = n ∷ (nodes_in b ++ r.nodes_before);
      nodes_behind = r.nodes_behind;
      nodes_were = ap (λ (ns : List LaidNode). n ∷ (nodes_in b ++ ns)) r.nodes_were ∙ ap (λ (ns : List LaidNode). n ∷ ns) (sym (append_assoc (nodes_in b) r.nodes_before (nodes_in inside ++ r.nodes_behind)));
      nodes_are = λ left. ap nodes_in (row_is left) ∙ ap (λ (ns : List LaidNode). n ∷ (nodes_in b ++ ns)) (r.nodes_are left) ∙ ap (λ (ns : List LaidNode). n ∷ ns) (sym (append_assoc (nodes_in b) r.nodes_before (nodes_in left ++ r.nodes_behind)));
      held = λ stock held. r.held stock held.2;
      light = λ parts. r.light parts.1;
      counted = λ left. let e = r.counted left in let f = ap (λ (l : Layout). nodes (laid_forest l)) (row_is left) in omega (arith, e, f);
    }
interval_stands_in k zero member rest inside position path (Kept p m s) h = subst (λ (x : Layout). StandsIn k zero x (Kept p m s)) (sym h.3) (here k position p m s h.0)
interval_stands_in k (suc index) member rest inside position path (Kept p m s) h =
    let r = interval_stands_in k index member rest inside (position - width m) path s h.1 in
    record {
      at = r.at;
      front = proxy_of p (width m) ∷ r.front;
      back = r.back;
      proxies_are = ap (λ (ps : List Proxy). proxy_of p (width m) ∷ ps) r.proxies_are;
      index_is = let i = r.index_is in omega (arith, i);
      kept = r.kept;
      before = p ∷ (places_of m ++ r.before);
      behind = r.behind;
      places_were = ap (λ (ps : List RecordPlace). p ∷ (places_of m ++ ps)) r.places_were ∙ ap (λ (ps : List RecordPlace). p ∷ ps) (sym (append_assoc (places_of m) r.before ((r.at ∷ places_of inside) ++ r.behind)));
      places_are = λ left. ap (λ (ps : List RecordPlace). p ∷ (places_of m ++ ps)) (r.places_are left) ∙ ap (λ (ps : List RecordPlace). p ∷ ps) (sym (append_assoc (places_of m) r.before (places_of left ++ r.behind)));
      nodes_before = nodes_in m ++ r.nodes_before;
      nodes_behind = r.nodes_behind;
      nodes_were = ap (λ (ns : List LaidNode). nodes_in m ++ ns) r.nodes_were ∙ sym (append_assoc (nodes_in m) r.nodes_before (nodes_in inside ++ r.nodes_behind));
      nodes_are = λ left. ap (λ (ns : List LaidNode). nodes_in m ++ ns) (r.nodes_are left) ∙ sym (append_assoc (nodes_in m) r.nodes_before (nodes_in left ++ r.nodes_behind));
      held = λ stock held. r.held stock held.2;
      light = λ parts. r.light parts.4;
      counted = λ left.
          let e = r.counted left in
          let i = nodes_joined (laid_forest m) (laid_forest s) in
          let j = nodes_joined (laid_forest m) (laid_forest (replaced_at index left s)) in
          omega (arith, e, i, j);
    }
