-- The children of a node in a piece are those of the document: a tree of the piece, or a root of the record of a proxy.
use Rattle.std.proofs.Common.{◌≡◌, ℕ, zero, suc, ◌+◌, ◌-◌, ◌<◌, ◌≤◌, List, [], ◌∷◌, ◌++◌, Contains, length, take, drop, Option, None, Some, refl, sym, ap, ◌∙◌, subst, arith, inl, inr, append_assoc, length-append}
use Rattle.std.proofs.lemmas.List.{append-nil}
use Rattle.std.proofs.lemmas.List.Elements.{Contains-append_left, Contains-append_right}
use Rattle.std.specs.Option.{option_to_list}
use Rattle.std.specs.Prelude.{option_and_then}
use Rattle.std.specs.List.{slice_get}
use Rattle.nx_tree.specs.Forest.{Forest, Empty, Plant, OrderedTree, trees_of}
use Rattle.nx_tree.specs.Edit.{child, at}
use Rattle.nx_piece.specs.declared.piece.Proxy.{Proxy}
use Rattle.nx_piece.specs.declared.piece.Far.{Far}
use Rattle.nx_piece.specs.declared.piece.Piece.{Piece}
use Rattle.nx_piece.specs.Contents.{fars_in}
use Rattle.nx_piece.specs.PieceNode.{MayBeFar, item_slots}
use Rattle.nx_piece.specs.Gapped.{Gapped, GappedTree, End, Grow, Gap, gapped_size, proxies_in}
use Rattle.nx_piece.specs.Locate.{PieceChild, Own, Kept as Away, roots_from, kept_from, children_of, Reached, Inside, Outside, Missing, reached, reached_in}
use Rattle.nx_piece.specs.Valid.{AreTrees, AreFar, AreApart, IsValidPiece}
use Rattle.nx_piece.proofs.LocateLemmas.{get_in_front, get_behind, own_child}
use Rattle.nx_cuts.specs.Cut.{Bare, Grown, Kept, joined, width}
use Rattle.nx_cuts.proofs.FeasibleLemmas.{trees, trees-joined, le_or}
use Rattle.nx_layouts.specs.Layout.{RecordPlace, LaidNode, Layout, Stock, in_record, laid_forest, gap_more, piece_body, proxy_of, proxies_of, piece_of, IsReadIn, AreHeld, AreLaidParts}
use Rattle.nx_layouts.proofs.LayoutLemmas.{proxies_counted}
use Rattle.nx_nav.specs.Below.{drawn_roots, drawn_at, MayBeInPiece}

-- the tree where a path leads that begins at one of these trees
abbrev pub at_member : Forest → ℕ → List ℕ → Option OrderedTree
at_member trees position path = option_and_then (λ t. at t path) (child trees position)

pub trees-length : (f : Forest) → length (trees_of f) ≡ trees f
trees-length Empty = refl
trees-length (Plant n b s) = omega (arith, trees-length s)

pub trees-forest : (l : Layout) → trees (laid_forest l) ≡ width l
trees-forest Bare = refl
trees-forest (Grown n b s) = omega (arith, trees-forest s)
trees-forest (Kept p m s) = omega (arith, trees-joined (laid_forest m) (laid_forest s), trees-forest m, trees-forest s)

-- the trees of two forests beside each other
child_prefix : (f g : Forest) (p : ℕ) → p < trees f → child (joined f g) p ≡ child f p
child_prefix Empty g p h = absurd (omega arith)
child_prefix (Plant n b s) g zero h = refl
child_prefix (Plant n b s) g (suc p) h = child_prefix s g p (omega arith)

child_back : (f g : Forest) (p : ℕ) → child (joined f g) (trees f + p) ≡ child g p
child_back Empty g p = ap (child g) (let e : 0 + p ≡ p = omega arith in e)
child_back (Plant n b s) g p = ap (child (Plant n b (joined s g))) (let e : 1 + trees s + p ≡ suc (trees s + p) = omega arith in e) ∙ child_back s g p

-- the roots that a proxy stands for
roots_length : (index member count : ℕ) → length (roots_from index member count) ≡ count
roots_length index member zero = refl
roots_length index member (suc count) = let h = roots_length index (member + 1) count in omega arith

root_there : (index member count i : ℕ) → i < count → slice_get (roots_from index member count) i ≡ Some (Away index (member + i))
root_there index member zero i within = absurd (omega arith)
root_there index member (suc count) zero within = ap (λ (m : ℕ). Some (Away index m)) (let q : member ≡ member + 0 = omega arith in q)
root_there index member (suc count) (suc i) within =
    root_there index (member + 1) count i (omega arith) ∙ ap (λ (m : ℕ). Some (Away index m)) (let q : member + 1 + i ≡ member + suc i = omega arith in q)

-- what a list goes on with behind a first part
drop_front : {A : Type 0} (front : List A) (x : A) (rest all : List A) (n : ℕ) → all ≡ front ++ x ∷ rest → length front ≡ n → drop n all ≡ x ∷ drop (n + 1) all
drop_front front x rest all n e l = subst (λ (i : ℕ). drop i all ≡ x ∷ drop (i + 1) all) l (subst (λ ys. drop (length front) ys ≡ x ∷ drop (length front + 1) ys) (sym e) (there front x rest))
  where
    there : {A : Type 0} (front : List A) (x : A) (rest : List A) → drop (length front) (front ++ x ∷ rest) ≡ x ∷ drop (length front + 1) (front ++ x ∷ rest)
    there [] x rest = refl
    there (y ∷ front) x rest = there front x rest ∙ ap (λ (i : ℕ). x ∷ drop i (y ∷ front ++ x ∷ rest)) (let q : suc (length front + 1) ≡ length (y ∷ front) + 1 = omega arith in q)

-- one proxy more in the gap in front stands for the roots of its record in front
children-gap_more : (all : List Proxy) (first : ℕ) (proxy : Proxy) (g : Gapped) → drop first all ≡ proxy ∷ drop (first + 1) all → children_of all first (gap_more g) ≡ roots_from first 0 proxy.roots ++ children_of all (first + 1) g
children-gap_more all first proxy End d = ap (λ ps. kept_from first (take 1 ps) ++ []) d ∙ append-nil (roots_from first 0 proxy.roots ++ [])
children-gap_more all first proxy (Grow n b s) d =
    let rest = children_of all (first + 1) (Grow n b s) in
    ap (λ ps. kept_from first (take 1 ps) ++ rest) d ∙ ap (λ xs. xs ++ rest) (append-nil (roots_from first 0 proxy.roots))
children-gap_more all first proxy (Gap c s) d =
    let more : c + 1 ≡ suc c = omega arith in
    let behind : first + (c + 1) ≡ first + 1 + c = omega arith in
    ap (λ (i : ℕ). kept_from first (take (c + 1) (drop first all)) ++ children_of all i s) behind
    ∙ ap (λ (i : ℕ). kept_from first (take i (drop first all)) ++ children_of all (first + 1 + c) s) more
    ∙ ap (λ ps. kept_from first (take (suc c) ps) ++ children_of all (first + 1 + c) s) d
    ∙ append_assoc (roots_from first 0 proxy.roots) (kept_from (first + 1) (take c (drop (first + 1) all))) (children_of all (first + 1 + c) s)

at_front : {A : Type 0} (front : List A) (x : A) (rest all : List A) (n : ℕ) → all ≡ front ++ x ∷ rest → length front ≡ n → slice_get all n ≡ Some x
at_front front x rest all n e l =
    let place : n ≡ length front + 0 = omega arith in
    ap (λ ys. slice_get ys n) e ∙ ap (slice_get (front ++ x ∷ rest)) place ∙ get_behind front (x ∷ rest) 0

-- there is a child at each position below their number
pub child_there : (f : Forest) (p : ℕ) → p < trees f → at_member f p [] ≡ None → ⊥
child_there Empty p h e = omega (arith, h)
child_there (Plant n b s) zero h e = cc
child_there (Plant n b s) (suc p) h e = child_there s p (omega (arith, h)) e

pub at_here : (o : Option OrderedTree) → option_and_then (λ t. at t []) o ≡ o
at_here None = refl
at_here (Some t) = refl

-- the same with the intervals drawn in
abbrev pub drawn_member : Layout → ℕ → List ℕ → Option (LaidNode × Layout)
drawn_member trees position path = option_and_then (λ t. drawn_at t path) (slice_get (drawn_roots trees) position)

drawn_here : (o : Option (LaidNode × Layout)) → option_and_then (λ t. drawn_at t []) o ≡ o
drawn_here None = refl
drawn_here (Some t) = refl

-- as many trees are drawn as stand beside each other
drawn_width : (l : Layout) → length (drawn_roots l) ≡ width l
drawn_width Bare = refl
drawn_width (Grown n b s) = omega (arith, drawn_width s)
drawn_width (Kept p m s) = omega (arith, length-append (drawn_roots m) (drawn_roots s), drawn_width m, drawn_width s)

get_front : {A : Type 0} (front back : List A) (i : ℕ) → i < length front → slice_get (front ++ back) i ≡ slice_get front i
get_front [] back i within = absurd (omega (arith, within))
get_front (x ∷ front) back zero within = refl
get_front (x ∷ front) back (suc i) within = get_front front back i (omega (arith, within))

module _ (stock : Stock) (k : ℕ) (all : List Proxy) where
  -- A tree of the piece stands for a tree of the document, which is drawn so, what hangs below it in other records among it.
  pub record IsOwn (t : GappedTree) (first : ℕ) (o : Option OrderedTree) (drawn : Option (LaidNode × Layout)) : Type 0 where
    pub node : LaidNode
    pub below : Layout
    pub item : t.node ≡ in_record node
    pub shape : t.below ≡ piece_body below
    pub is : o ≡ Some (record { node = node.node; below = laid_forest below })
    pub drawn_is : drawn ≡ Some (node, below)
    pub read : IsReadIn stock.list_at node
    pub front : List Proxy
    pub back : List Proxy
    pub here : all ≡ front ++ (proxies_of below ++ back)
    pub first_is : length front ≡ first
    pub held : AreHeld stock below
    pub light : AreLaidParts k below

  -- A proxy stands for members of an interval, one of which is that tree.
  pub record IsAway (index member : ℕ) (path : List ℕ) (o : Option OrderedTree) (drawn : Option (LaidNode × Layout)) : Type 0 where
    pub place : RecordPlace
    pub members : Layout
    pub proxy : slice_get all index ≡ Some (proxy_of place (width members))
    pub within : member < width members
    pub is : o ≡ at_member (laid_forest members) member path
    pub drawn_is : drawn ≡ drawn_member members member path
    pub held : AreHeld stock (Kept place members Bare)
    pub light : AreLaidParts k (Kept place members Bare)

  -- what is found among the children of a node in a piece is what is found in the document
  abbrev pub IsChild : Option PieceChild → Option OrderedTree → (drawn : Option (LaidNode × Layout)) → Type 0
  IsChild None o drawn = o ≡ None
  IsChild (Some (Own t first)) o drawn = IsOwn t first o drawn
  IsChild (Some (Away index member)) o drawn = IsAway index member [] o drawn

  -- where a path leads in a piece it leads in the document, or on from one of the roots of another record
  abbrev pub IsEnd : ℕ → List ℕ → Reached → Option OrderedTree → (drawn : Option (LaidNode × Layout)) → Type 0
  IsEnd used path Missing o drawn = o ≡ None
  IsEnd used path (Inside t first) o drawn = IsOwn t first o drawn
  IsEnd used path (Outside index member end) o drawn = (n : ℕ) × (end ≡ used + n) × IsAway index member (drop n path) o drawn

  child_is : (l : Layout) (front back : List Proxy) (first : ℕ) → all ≡ front ++ (proxies_of l ++ back) → length front ≡ first → AreHeld stock l → AreLaidParts k l → (i : ℕ)
      → IsChild (slice_get (children_of all first (piece_body l)) i) (child (laid_forest l) i) (slice_get (drawn_roots l) i)
  child_is Bare front back first e f held light i = refl
  child_is (Grown n b s) front back first e f held light zero = record {
    node = n;
    below = b;
    item = refl;
    shape = refl;
    is = refl;
    drawn_is = refl;
    read = held.0;
    front = front;
    back = proxies_of s ++ back;
    here = e ∙ ap (λ xs. front ++ xs) (append_assoc (proxies_of b) (proxies_of s) back);
    first_is = f;
    held = held.1;
    light = light.0;
  }
  child_is (Grown n b s) front back first e f held light (suc i) =
      child_is s (front ++ proxies_of b) back (first + proxies_in (piece_body b))
      (e ∙ ap (λ xs. front ++ xs) (append_assoc (proxies_of b) (proxies_of s) back) ∙ sym (append_assoc front (proxies_of b) (proxies_of s ++ back)))
      (omega (arith, length-append front (proxies_of b), proxies_counted b)) held.2 light.1 i
  child_is (Kept p m s) front back first e f held light i =
      let proxy = proxy_of p (width m) in
      let d = drop_front front proxy (proxies_of s ++ back) all first e f in
      let more = children-gap_more all first proxy (piece_body s) d in
      let roots = roots_from first 0 (width m) in
      let rest = children_of all (first + 1) (piece_body s) in
      elim (le_or i (width m)) [
        | inl less ↦
            let there : slice_get roots i ≡ Some (Away first i) = root_there first 0 (width m) i less ∙ ap (λ (n : ℕ). Some (Away first n)) (let q : 0 + i ≡ i = omega arith in q) in
            let found : slice_get (children_of all first (piece_body (Kept p m s))) i ≡ Some (Away first i) = ap (λ xs. slice_get xs i) more ∙ get_in_front roots rest i (Away first i) there in
            let within : i < trees (laid_forest m) = omega (arith, trees-forest m) in
            let drawn : i < length (drawn_roots m) = omega (arith, less, drawn_width m) in
            subst (λ x. IsChild x (child (laid_forest (Kept p m s)) i) (slice_get (drawn_roots (Kept p m s)) i)) (sym found) (record {
              place = p;
              members = m;
              proxy = at_front front proxy (proxies_of s ++ back) all first e f;
              within = less;
              is = child_prefix (laid_forest m) (laid_forest s) i within ∙ sym (at_here (child (laid_forest m) i));
              drawn_is = get_front (drawn_roots m) (drawn_roots s) i drawn ∙ sym (drawn_here (slice_get (drawn_roots m) i));
              held = (held.0, held.1, tt);
              light = (light.0, light.1, light.2, light.3, tt);
            })
        | inr beyond ↦
            let long = roots_length first 0 (width m) in
            let j : i ≡ length roots + (i - width m) = omega arith in
            let h : i ≡ trees (laid_forest m) + (i - width m) = omega (arith, trees-forest m) in
            let found : slice_get (children_of all first (piece_body (Kept p m s))) i ≡ slice_get rest (i - width m) = ap (λ xs. slice_get xs i) more ∙ ap (slice_get (roots ++ rest)) j ∙ get_behind roots rest (i - width m) in
            let same : child (laid_forest (Kept p m s)) i ≡ child (laid_forest s) (i - width m) = ap (child (joined (laid_forest m) (laid_forest s))) h ∙ child_back (laid_forest m) (laid_forest s) (i - width m) in
            let d : i ≡ length (drawn_roots m) + (i - width m) = omega (arith, beyond, drawn_width m) in
            let drawn : slice_get (drawn_roots (Kept p m s)) i ≡ slice_get (drawn_roots s) (i - width m) = ap (slice_get (drawn_roots m ++ drawn_roots s)) d ∙ get_behind (drawn_roots m) (drawn_roots s) (i - width m) in
            subst (λ x. IsChild x (child (laid_forest (Kept p m s)) i) (slice_get (drawn_roots (Kept p m s)) i)) (sym found)
            (subst (λ o. IsChild (slice_get rest (i - width m)) o (slice_get (drawn_roots (Kept p m s)) i)) (sym same)
            (subst (λ t. IsChild (slice_get rest (i - width m)) (child (laid_forest s) (i - width m)) t) (sym drawn)
            (child_is s (front ++ proxy ∷ []) back (first + 1) (e ∙ sym (append_assoc front (proxy ∷ []) (proxies_of s ++ back))) (omega (arith, length-append front (proxy ∷ []))) held.2 light.4 (i - width m))))
      ]

  none_is_end : (used : ℕ) (path : List ℕ) (o : Option OrderedTree) (drawn : Option (LaidNode × Layout)) → o ≡ None → IsEnd used path (reached all used path None) (option_and_then (λ t. at t path) o) drawn
  none_is_end used [] o drawn e = ap (option_and_then (λ t. at t [])) e
  none_is_end used (position ∷ path) o drawn e = ap (option_and_then (λ t. at t (position ∷ path))) e

  away_is_end : (used index member : ℕ) (path : List ℕ) (o : Option OrderedTree) (drawn : Option (LaidNode × Layout)) → IsAway index member [] o drawn
      → IsEnd used path (reached all used path (Some (Away index member))) (option_and_then (λ t. at t path) o) (option_and_then (λ t. drawn_at t path) drawn)
  away_is_end used index member path o drawn h =
      elim path as (λ p. IsEnd used p (reached all used p (Some (Away index member))) (option_and_then (λ t. at t p) o) (option_and_then (λ t. drawn_at t p) drawn)) [
        | [] ↦ (0, none_more used, further [])
        | position ∷ rest ↦ (0, none_more used, further (position ∷ rest))
      ]
    where
      none_more : (n : ℕ) → n ≡ n + 0
      none_more n = omega arith

      further : (p : List ℕ) → IsAway index member p (option_and_then (λ t. at t p) o) (option_and_then (λ t. drawn_at t p) drawn)
      further p = record {
        place = h.place;
        members = h.members;
        proxy = h.proxy;
        within = h.within;
        is = ap (option_and_then (λ t. at t p)) (h.is ∙ at_here (child (laid_forest h.members) member));
        drawn_is = ap (option_and_then (λ t. drawn_at t p)) (h.drawn_is ∙ drawn_here (slice_get (drawn_roots h.members) member));
        held = h.held;
        light = h.light;
      }

  one_further : (used position : ℕ) (path : List ℕ) (end : Reached) (o : Option OrderedTree) (drawn : Option (LaidNode × Layout)) → IsEnd (used + 1) path end o drawn → IsEnd used (position ∷ path) end o drawn
  one_further used position path Missing o drawn h = h
  one_further used position path (Inside t first) o drawn h = h
  one_further used position path (Outside index member end) o drawn h = (suc h.0, (let e : end ≡ used + 1 + h.0 = h.1 in omega arith), h.2)

  -- where the path leads from a child on
  pub end_is : (used : ℕ) (path : List ℕ) (found : Option PieceChild) (o : Option OrderedTree) (drawn : Option (LaidNode × Layout)) → IsChild found o drawn
      → IsEnd used path (reached all used path found) (option_and_then (λ t. at t path) o) (option_and_then (λ t. drawn_at t path) drawn)
  end_is used path None o drawn h = none_is_end used path o (option_and_then (λ t. drawn_at t path) drawn) h
  end_is used path (Some (Away index member)) o drawn h = away_is_end used index member path o drawn h
  end_is used [] (Some (Own t first)) o drawn h =
      subst (λ x. IsOwn t first x (option_and_then (λ t. drawn_at t []) drawn)) (sym (at_here o)) (subst (λ x. IsOwn t first o x) (sym (drawn_here drawn)) h)
  end_is used (position ∷ path) (Some (Own t first)) o drawn h =
      let End : Gapped → Option OrderedTree → Option (LaidNode × Layout) → Type 0 = λ f x y. IsEnd used (position ∷ path) (reached all (used + 1) path (slice_get (children_of all first f) position)) x y in
      let there = slice_get (children_of all first (piece_body h.below)) position in
      let inner = end_is (used + 1) path there (child (laid_forest h.below) position) (slice_get (drawn_roots h.below) position) (child_is h.below h.front h.back first h.here h.first_is h.held h.light position) in
      let same : option_and_then (λ t. at t (position ∷ path)) o ≡ at_member (laid_forest h.below) position path = ap (option_and_then (λ t. at t (position ∷ path))) h.is in
      let same_drawn : option_and_then (λ t. drawn_at t (position ∷ path)) drawn ≡ drawn_member h.below position path = ap (option_and_then (λ t. drawn_at t (position ∷ path))) h.drawn_is in
      subst (λ f. End f (option_and_then (λ t. at t (position ∷ path)) o) (option_and_then (λ t. drawn_at t (position ∷ path)) drawn)) (sym h.shape)
      (subst (λ x. End (piece_body h.below) x (option_and_then (λ t. drawn_at t (position ∷ path)) drawn)) (sym same)
      (subst (λ x. End (piece_body h.below) (at_member (laid_forest h.below) position path) x) (sym same_drawn)
      (one_further used position path (reached all (used + 1) path there) (at_member (laid_forest h.below) position path) (drawn_member h.below position path) inner)))

  -- a node has as many children in the piece as in the document
  pub children_counted : (l : Layout) (front back : List Proxy) (first : ℕ) → all ≡ front ++ (proxies_of l ++ back) → length front ≡ first → length (children_of all first (piece_body l)) ≡ width l
  children_counted Bare front back first e f = refl
  children_counted (Grown n b s) front back first e f =
      let h = children_counted s (front ++ proxies_of b) back (first + proxies_in (piece_body b))
      (e ∙ ap (λ xs. front ++ xs) (append_assoc (proxies_of b) (proxies_of s) back) ∙ sym (append_assoc front (proxies_of b) (proxies_of s ++ back)))
      (omega (arith, length-append front (proxies_of b), proxies_counted b)) in
      omega (arith, h)
  children_counted (Kept p m s) front back first e f =
      let proxy = proxy_of p (width m) in
      let d = drop_front front proxy (proxies_of s ++ back) all first e f in
      let more = ap length (children-gap_more all first proxy (piece_body s) d) in
      let sum = length-append (roots_from first 0 (width m)) (children_of all (first + 1) (piece_body s)) in
      let long = roots_length first 0 (width m) in
      let h = children_counted s (front ++ proxy ∷ []) back (first + 1) (e ∙ sym (append_assoc front (proxy ∷ []) (proxies_of s ++ back))) (omega (arith, length-append front (proxy ∷ []))) in
      omega (arith, more, sum, long, h)

-- where a path leads that begins at a member of an interval
pub interval_end : (stock : Stock) (k : ℕ) (place : RecordPlace) (members : Layout) (member : ℕ) (path : List ℕ) → AreHeld stock (Kept place members Bare) → AreLaidParts k (Kept place members Bare)
    → IsEnd stock k (proxies_of members) 0 path (reached_in (piece_of members) member path) (at_member (laid_forest members) member path) (drawn_member members member path)
interval_end stock k place members member path held light =
    let all = proxies_of members in
    end_is stock k all 0 path (slice_get (children_of all 0 (piece_body members)) member) (child (laid_forest members) member) (slice_get (drawn_roots members) member)
    (child_is stock k all members [] [] 0 (sym (append-nil all)) refl held.1 light.3 member)

-- a path leads out of a piece after no more positions than it has
outside_within : (proxies : List Proxy) (used : ℕ) (path : List ℕ) (found : Option PieceChild) (index member end : ℕ) → reached proxies used path found ≡ Outside index member end → (used ≤ end) × (end ≤ used + length path)
outside_within proxies used [] None index member end e = absurd (cc)
outside_within proxies used (position ∷ path) None index member end e = absurd (cc)
outside_within proxies used [] (Some (Away i m)) index member end e = let same : used ≡ end = cc in (omega arith, omega arith)
outside_within proxies used (position ∷ path) (Some (Away i m)) index member end e = let same : used ≡ end = cc in (omega arith, omega arith)
outside_within proxies used [] (Some (Own t first)) index member end e = absurd (cc)
outside_within proxies used (position ∷ path) (Some (Own t first)) index member end e =
    let h = outside_within proxies (used + 1) path (slice_get (children_of proxies first t.below) position) index member end e in
    let low : used + 1 ≤ end = h.0 in let high : end ≤ used + 1 + length path = h.1 in
    (omega arith, omega arith)

-- the roots of a piece are trees
root_is_tree : (proxies : List Proxy) (first : ℕ) (f : Gapped) → AreTrees f → (i index member : ℕ) → slice_get (children_of proxies first f) i ≡ Some (Away index member) → ⊥
root_is_tree proxies first End trees i index member e = absurd (cc)
root_is_tree proxies first (Grow n b s) trees zero index member e = absurd (cc)
root_is_tree proxies first (Grow n b s) trees (suc i) index member e = root_is_tree proxies (first + proxies_in b) s trees i index member e
root_is_tree proxies first (Gap c s) trees i index member e = absurd trees

leads_further : (proxies : List Proxy) (path : List ℕ) (found : Option PieceChild) (index member end : ℕ) → ((i m : ℕ) → found ≡ Some (Away i m) → ⊥) → reached proxies 0 path found ≡ Outside index member end → (1 ≤ end) × (end ≤ length path)
leads_further proxies [] None index member end tree e = absurd (cc)
leads_further proxies (position ∷ path) None index member end tree e = absurd (cc)
leads_further proxies path (Some (Away i m)) index member end tree e = absurd (tree i m refl)
leads_further proxies [] (Some (Own t first)) index member end tree e = absurd (cc)
leads_further proxies (position ∷ path) (Some (Own t first)) index member end tree e =
    let h = outside_within proxies (0 + 1) path (slice_get (children_of proxies first t.below) position) index member end e in
    let low : 0 + 1 ≤ end = h.0 in let high : end ≤ 0 + 1 + length path = h.1 in
    (omega arith, omega arith)

-- so a path that leads into another record is shorter there
pub path_falls : (piece : Piece) (member : ℕ) (path : List ℕ) (index root end : ℕ) → IsValidPiece piece → reached_in piece member path ≡ Outside index root end → (1 ≤ end) × (end ≤ length path)
path_falls piece member path index root end valid e =
    leads_further piece.proxies path (slice_get (children_of piece.proxies 0 piece.body.roots) member) index root end (λ i m. root_is_tree piece.proxies 0 piece.body.roots valid.body.trees member i m) e

-- a tree of the piece among children stands behind those that proxies stand for
own_behind : (t : GappedTree) (k : ℕ) (more : List PieceChild) (kept : List Proxy) (index i : ℕ) → slice_get (kept_from index kept ++ more) i ≡ Some (Own t k) → (j : ℕ) × (slice_get more j ≡ Some (Own t k))
own_behind t k more [] index i e = (i, e)
own_behind t k more (p ∷ kept) index i e =
    let on = roots_kept index 0 p.roots (kept_from (index + 1) kept ++ more) i (ap (λ xs. slice_get xs i) (sym (append_assoc (roots_from index 0 p.roots) (kept_from (index + 1) kept) more)) ∙ e) in
    own_behind t k more kept (index + 1) on.0 on.1
  where
    roots_kept : (index member roots : ℕ) (rest : List PieceChild) (i : ℕ) → slice_get (roots_from index member roots ++ rest) i ≡ Some (Own t k) → (j : ℕ) × (slice_get rest j ≡ Some (Own t k))
    roots_kept index member zero rest i e = (i, e)
    roots_kept index member (suc roots) rest zero e = absurd (cc)
    roots_kept index member (suc roots) rest (suc i) e = roots_kept index (member + 1) roots rest i e

-- The far contents of a tree, its own and those below it.
abbrev pub fars_of : GappedTree → List Far
fars_of t = option_to_list t.node.far ++ fars_in t.below

-- those of a child are among those of the items that it stands in
own_fars : (proxies : List Proxy) (first : ℕ) (f : Gapped) (i : ℕ) (t : GappedTree) (k : ℕ) → slice_get (children_of proxies first f) i ≡ Some (Own t k) → (far : Far) → Contains (fars_of t) far → Contains (fars_in f) far
own_fars proxies first End i t k e far among = absurd (cc)
own_fars proxies first (Grow n b s) zero t k e far among =
    let same : record { node = n; below = b } ≡ t = cc in
    let own : Contains (option_to_list n.far ++ fars_in b) far = subst (λ (x : GappedTree). Contains (fars_of x) far) (sym same) among in
    subst (λ fs. Contains fs far) (append_assoc (option_to_list n.far) (fars_in b) (fars_in s)) (Contains-append_left (option_to_list n.far ++ fars_in b) (fars_in s) far own)
own_fars proxies first (Grow n b s) (suc i) t k e far among =
    Contains-append_right (option_to_list n.far) (fars_in b ++ fars_in s) far
    (Contains-append_right (fars_in b) (fars_in s) far (own_fars proxies (first + proxies_in b) s i t k e far among))
own_fars proxies first (Gap c s) i t k e far among =
    let on = own_behind t k (children_of proxies (first + c) s) (take c (drop first proxies)) first i e in
    own_fars proxies (first + c) s on.0 t k on.1 far among

-- a path that ends at a tree of the piece leads through trees whose far contents have its own among them
reached_fars : (proxies : List Proxy) (used : ℕ) (path : List ℕ) (o : Option PieceChild) (f : Gapped) (tree : GappedTree) (first : ℕ) → ((t : GappedTree) (k : ℕ) → o ≡ Some (Own t k) → (far : Far) → Contains (fars_of t) far → Contains (fars_in f) far)
    → reached proxies used path o ≡ Inside tree first → (far : Far) → Contains (fars_of tree) far → Contains (fars_in f) far
reached_fars proxies used [] None f tree first inner e far among = absurd (cc)
reached_fars proxies used (p ∷ path) None f tree first inner e far among = absurd (cc)
reached_fars proxies used [] (Some (Away i m)) f tree first inner e far among = absurd (cc)
reached_fars proxies used (p ∷ path) (Some (Away i m)) f tree first inner e far among = absurd (cc)
reached_fars proxies used [] (Some (Own t k)) f tree first inner e far among =
    let same : t ≡ tree = cc in
    inner t k refl far (subst (λ (x : GappedTree). Contains (fars_of x) far) (sym same) among)
reached_fars proxies used (p ∷ path) (Some (Own t k)) f tree first inner e far among =
    reached_fars proxies (used + 1) path (slice_get (children_of proxies k t.below) p) f tree first
    (λ c j is other own. inner t k refl other (Contains-append_right (option_to_list t.node.far) (fars_in t.below) other (own_fars proxies k t.below p c j is other own))) e far among

-- what a node where a path ends names is named by its piece
pub named_there : (piece : Piece) (member : ℕ) (path : List ℕ) (tree : GappedTree) (first : ℕ) (far : Far) → reached_in piece member path ≡ Inside tree first → tree.node.far ≡ Some far → Contains (fars_in piece.body.roots) far
named_there piece member path tree first far e named =
    reached_fars piece.proxies 0 path (slice_get (children_of piece.proxies 0 piece.body.roots) member) piece.body.roots tree first
    (λ t k is other own. own_fars piece.proxies 0 piece.body.roots member t k is other own) e far
    (Contains-append_left (option_to_list tree.node.far) (fars_in tree.below) far (subst (λ (o : Option Far). Contains (option_to_list o) far) (sym named) (0, omega arith, refl)))

-- A tree of items that may be stored is one that may be.
own_may : (proxies : List Proxy) (first : ℕ) (f : Gapped) → AreFar f → AreApart f → (i : ℕ) (t : GappedTree) (k : ℕ) → slice_get (children_of proxies first f) i ≡ Some (Own t k) → AreApart t.below × (MayBeFar t.node × AreFar t.below)
own_may proxies first End far apart i t k e = absurd (cc)
own_may proxies first (Grow n b s) far apart zero t k e =
    let same : record { node = n; below = b } ≡ t = cc in
    subst (λ (x : GappedTree). AreApart x.below × (MayBeFar x.node × AreFar x.below)) same (apart.0, (far.0, far.1))
own_may proxies first (Grow n b s) far apart (suc i) t k e = own_may proxies (first + proxies_in b) s far.2 apart.1 i t k e
own_may proxies first (Gap c s) far apart i t k e =
    let on = own_behind t k (children_of proxies (first + c) s) (take c (drop first proxies)) first i e in
    own_may proxies (first + c) s far apart.2 on.0 t k on.1

own_stands : (proxies : List Proxy) (first : ℕ) (f : Gapped) → AreFar f → AreApart f → gapped_size f ≤ 256 → (i : ℕ) (t : GappedTree) (k : ℕ) → slice_get (children_of proxies first f) i ≡ Some (Own t k) → MayBeInPiece t
own_stands proxies first f far apart small i t k e =
    let own : item_slots t.node + gapped_size t.below ≤ gapped_size f = (own_child proxies first f i t k e).0 in
    let may = own_may proxies first f far apart i t k e in
    (record { small = omega (arith, own, small); apart = may.0 }, may.1)

reached_stands : (proxies : List Proxy) (used : ℕ) (path : List ℕ) (o : Option PieceChild) (tree : GappedTree) (first : ℕ) → ((t : GappedTree) (k : ℕ) → o ≡ Some (Own t k) → MayBeInPiece t) → reached proxies used path o ≡ Inside tree first → MayBeInPiece tree
reached_stands proxies used [] None tree first own e = absurd (cc)
reached_stands proxies used (p ∷ path) None tree first own e = absurd (cc)
reached_stands proxies used [] (Some (Away i m)) tree first own e = absurd (cc)
reached_stands proxies used (p ∷ path) (Some (Away i m)) tree first own e = absurd (cc)
reached_stands proxies used [] (Some (Own t k)) tree first own e =
    let same : t ≡ tree = cc in
    subst (λ (x : GappedTree). MayBeInPiece x) same (own t k refl)
reached_stands proxies used (p ∷ path) (Some (Own t k)) tree first own e =
    let stands = own t k refl in
    let small : item_slots t.node + gapped_size t.below ≤ 256 = (stands.0).small in
    reached_stands proxies (used + 1) path (slice_get (children_of proxies k t.below) p) tree first
    (λ c j is. own_stands proxies k t.below (stands.1).1 (stands.0).apart (omega (arith, small)) p c j is) e

-- so is one that a path leads to
pub tree_stands : (piece : Piece) (member : ℕ) (path : List ℕ) (tree : GappedTree) (first : ℕ) → IsValidPiece piece → reached_in piece member path ≡ Inside tree first → MayBeInPiece tree
tree_stands piece member path tree first valid e =
    let small : gapped_size piece.body.roots ≤ 256 = (valid.body).small in
    reached_stands piece.proxies 0 path (slice_get (children_of piece.proxies 0 piece.body.roots) member) tree first
    (λ t k is. own_stands piece.proxies 0 piece.body.roots (valid.body).far (valid.body).apart small member t k is) e
