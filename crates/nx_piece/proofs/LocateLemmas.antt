-- Children that a walk looks for: those that are passed, and the one that is found.
use Rattle.std.proofs.Common.{◌≡◌, ℕ, zero, suc, ◌+◌, ◌-◌, ◌*◌, ◌<◌, ◌≤◌, List, [], ◌∷◌, ◌++◌, length, take, drop, Option, None, Some, ◌⊎◌, inl, inr, refl, sym, ap, ◌∙◌, arith}
use Rattle.std.specs.List.{slice_get, sum_by}
use Rattle.std.proofs.lemmas.List.{length-append, length-drop, drop_all}
use Rattle.std.proofs.lemmas.List.Sums.{sum_by-cons}
use Rattle.nx_piece.specs.declared.piece.Piece.{Piece}
use Rattle.nx_piece.specs.declared.piece.Proxy.{Proxy}
use Rattle.nx_piece.specs.PieceNode.{item_slots}
use Rattle.nx_piece.specs.Gapped.{Gapped, GappedTree, End, Grow, Gap, gapped_size, proxies_in}
use Rattle.nx_piece.specs.Valid.{AreTrees, HaveRoots, IsPiece}
use Rattle.nx_piece.specs.Locate.{PieceChild, Own, Kept, roots_from, kept_from, children_of, Inside, Outside, Missing, reached, reached_in, IsPartOf}

-- what stands in front of more stays, and what stands behind is found behind it
pub get_in_front : {A : Type 0} (front back : List A) (i : ℕ) (x : A) → slice_get front i ≡ Some x → slice_get (front ++ back) i ≡ Some x
get_in_front [] back i x e = absurd (cc)
get_in_front (y ∷ front) back zero x e = e
get_in_front (y ∷ front) back (suc i) x e = get_in_front front back i x e

pub get_behind : {A : Type 0} (front back : List A) (i : ℕ) → slice_get (front ++ back) (length front + i) ≡ slice_get back i
get_behind [] back i = ap (slice_get back) (let q : 0 + i ≡ i = omega arith in q)
get_behind (y ∷ front) back i =
    ap (slice_get (y ∷ front ++ back)) (let q : length (y ∷ front) + i ≡ suc (length front + i) = omega arith in q) ∙ get_behind front back i

pub roots_length : (index member count : ℕ) → length (roots_from index member count) ≡ count
roots_length index member zero = refl
roots_length index member (suc count) = let h = roots_length index (member + 1) count in omega arith

pub root_there : (index member count i : ℕ) → i < count → slice_get (roots_from index member count) i ≡ Some (Kept index (member + i))
root_there index member zero i within = absurd (omega arith)
root_there index member (suc count) zero within = ap (λ (m : ℕ). Some (Kept index m)) (let q : member ≡ member + 0 = omega arith in q)
root_there index member (suc count) (suc i) within =
    root_there index (member + 1) count i (omega arith) ∙ ap (λ (m : ℕ). Some (Kept index m)) (let q : member + 1 + i ≡ member + suc i = omega arith in q)

-- so many proxies of a row are passed, and the position among the roots of the others is left
pub record IsPassed (first position : ℕ) (all : List Proxy) (passed left : ℕ) : Type 0 where
  pub same : slice_get (kept_from first all) position ≡ slice_get (kept_from (first + passed) (drop passed all)) left
  pub sum : position + length (kept_from (first + passed) (drop passed all)) ≡ length (kept_from first all) + left

pub none_passed : (first position : ℕ) (all : List Proxy) → IsPassed first position all 0 position
none_passed first position all =
    let e : first + 0 ≡ first = omega arith in
    let k = ap (λ (n : ℕ). kept_from n all) e in
    record { same = ap (λ (c : List PieceChild). slice_get c position) (sym k); sum = let l = ap length k in omega arith }

pub is_member : {first position passed left : ℕ} {all : List Proxy} (proxy : Proxy) → IsPassed first position all passed left → drop passed all ≡ proxy ∷ drop (passed + 1) all → left < proxy.roots
    → slice_get (kept_from first all) position ≡ Some (Kept (first + passed) left)
is_member {first} {position} {passed} {left} {all} proxy h d within =
    h.same
    ∙ ap (λ (ps : List Proxy). slice_get (kept_from (first + passed) ps) left) d
    ∙ get_in_front (roots_from (first + passed) 0 proxy.roots) (kept_from (first + passed + 1) (drop (passed + 1) all)) left (Kept (first + passed) left)
    (root_there (first + passed) 0 proxy.roots left within ∙ ap (λ (m : ℕ). Some (Kept (first + passed) m)) (let q : 0 + left ≡ left = omega arith in q))

pub one_passed : {first position passed left : ℕ} {all : List Proxy} (proxy : Proxy) → IsPassed first position all passed left → drop passed all ≡ proxy ∷ drop (passed + 1) all → proxy.roots ≤ left
    → IsPassed first position all (passed + 1) (left - proxy.roots)
one_passed {first} {position} {passed} {left} {all} proxy h d beyond =
    let front = roots_from (first + passed) 0 proxy.roots in
    let back = kept_from (first + passed + 1) (drop (passed + 1) all) in
    let long = roots_length (first + passed) 0 proxy.roots in
    let next : first + passed + 1 ≡ first + (passed + 1) = omega arith in
    let same_back = ap (λ (n : ℕ). kept_from n (drop (passed + 1) all)) next in
    let place : left ≡ length front + (left - proxy.roots) = omega arith in
    record {
      same = h.same
          ∙ ap (λ (ps : List Proxy). slice_get (kept_from (first + passed) ps) left) d
          ∙ ap (slice_get (front ++ back)) place
          ∙ get_behind front back (left - proxy.roots)
          ∙ ap (λ (c : List PieceChild). slice_get c (left - proxy.roots)) same_back;
      sum = let a = h.sum in
          let b = ap (λ (ps : List Proxy). length (kept_from (first + passed) ps)) d in
          let c = length-append front back in
          let e = ap length same_back in
          omega arith;
    }

pub all_passed : {first position passed left : ℕ} {all : List Proxy} → IsPassed first position all passed left → length all ≤ passed → position ≡ length (kept_from first all) + left
all_passed {first} {position} {passed} {left} {all} h end =
    let a = h.sum in let b = ap (λ (ps : List Proxy). length (kept_from (first + passed) ps)) (drop_all passed all end) in omega arith

pub kept_length : (index : ℕ) (proxies : List Proxy) → length (kept_from index proxies) ≡ sum_by (λ p. p.roots) proxies
kept_length index [] = refl
kept_length index (proxy ∷ proxies) =
    let h = kept_length (index + 1) proxies in
    let a = length-append (roots_from index 0 proxy.roots) (kept_from (index + 1) proxies) in
    let b = roots_length index 0 proxy.roots in
    let c = sum_by-cons (λ (p : Proxy). p.roots) proxy proxies in
    omega arith

-- so many proxies and positions are passed, and the trees and gaps of the rest are left
pub record IsReached (proxies : List Proxy) (first position : ℕ) (all : Gapped) (before left : ℕ) (rest : Gapped) : Type 0 where
  pub same : slice_get (children_of proxies first all) position ≡ slice_get (children_of proxies before rest) left
  pub fits : before + proxies_in rest ≡ first + proxies_in all

pub none_reached : (proxies : List Proxy) (first position : ℕ) (all rest : Gapped) → rest ≡ all → IsReached proxies first position all first position rest
none_reached proxies first position all rest e =
    record { same = ap (λ (f : Gapped). slice_get (children_of proxies first f) position) (sym e); fits = ap (λ (f : Gapped). first + proxies_in f) e }

pub is_own : {proxies : List Proxy} {first position before : ℕ} {all rest beside : Gapped} (t : GappedTree) → IsReached proxies first position all before 0 rest → rest ≡ Grow t.node t.below beside
    → slice_get (children_of proxies first all) position ≡ Some (Own t before)
is_own {proxies} {first} {position} {before} {all} {rest} {beside} t h e =
    h.same ∙ ap (λ (f : Gapped). slice_get (children_of proxies before f) 0) e

pub tree_passed : {proxies : List Proxy} {first position before left : ℕ} {all rest beside : Gapped} (t : GappedTree) (count : ℕ) → IsReached proxies first position all before left rest → rest ≡ Grow t.node t.below beside
    → 1 ≤ left → count ≡ proxies_in t.below → IsReached proxies first position all (before + count) (left - 1) beside
tree_passed {proxies} {first} {position} {before} {left} {all} {rest} {beside} t count h e some is =
    let place : left ≡ suc (left - 1) = omega arith in
    record {
      same = h.same
          ∙ ap (λ (f : Gapped). slice_get (children_of proxies before f) left) e
          ∙ ap (λ (i : ℕ). slice_get (children_of proxies before (Grow t.node t.below beside)) i) place
          ∙ ap (λ (n : ℕ). slice_get (children_of proxies (before + n) beside) (left - 1)) (sym is);
      fits = let a = h.fits in let b = ap proxies_in e in omega arith;
    }

pub is_kept : {proxies : List Proxy} {first position before left c index member : ℕ} {all rest beside : Gapped} → IsReached proxies first position all before left rest → rest ≡ Gap c beside
    → slice_get (kept_from before (take c (drop before proxies))) left ≡ Some (Kept index member) → slice_get (children_of proxies first all) position ≡ Some (Kept index member)
is_kept {proxies} {first} {position} {before} {left} {c} {index} {member} {all} {rest} {beside} h e found =
    h.same
    ∙ ap (λ (f : Gapped). slice_get (children_of proxies before f) left) e
    ∙ get_in_front (kept_from before (take c (drop before proxies))) (children_of proxies (before + c) beside) left (Kept index member) found

pub gap_passed : {proxies : List Proxy} {first position before left c after : ℕ} {all rest beside : Gapped} → IsReached proxies first position all before left rest → rest ≡ Gap c beside
    → left ≡ length (kept_from before (take c (drop before proxies))) + after → IsReached proxies first position all (before + c) after beside
gap_passed {proxies} {first} {position} {before} {left} {c} {after} {all} {rest} {beside} h e is = record {
  same = h.same
      ∙ ap (λ (f : Gapped). slice_get (children_of proxies before f) left) e
      ∙ ap (slice_get (children_of proxies before (Gap c beside))) is
      ∙ get_behind (kept_from before (take c (drop before proxies))) (children_of proxies (before + c) beside) after;
  fits = let a = h.fits in let b = ap proxies_in e in omega arith;
}

pub all_reached : {proxies : List Proxy} {first position before left : ℕ} {all rest : Gapped} → IsReached proxies first position all before left rest → rest ≡ End → slice_get (children_of proxies first all) position ≡ None
all_reached {proxies} {first} {position} {before} {left} {all} {rest} h e = h.same ∙ ap (λ (f : Gapped). slice_get (children_of proxies before f) left) e

-- what is left stands behind so many of the proxies
pub fits_here : {proxies : List Proxy} {first position before left : ℕ} {all rest : Gapped} → IsReached proxies first position all before left rest → first + proxies_in all ≤ length proxies → before + proxies_in rest ≤ length proxies
fits_here h room = let a = h.fits in omega arith

-- an element of two lists behind each other is one of the first or of the second
get_parts : {A : Type 0} (front back : List A) (i : ℕ) (x : A) → slice_get (front ++ back) i ≡ Some x → (slice_get front i ≡ Some x) ⊎ ((j : ℕ) × (slice_get back j ≡ Some x))
get_parts [] back i x e = inr (i, e)
get_parts (y ∷ front) back zero x e = inl e
get_parts (y ∷ front) back (suc i) x e = get_parts front back i x e

some_same : {A : Type 0} {x y : A} → Some x ≡ Some y → x ≡ y
some_same e = cc

roots_no_tree : (index member count i : ℕ) (t : GappedTree) (k : ℕ) → slice_get (roots_from index member count) i ≡ Some (Own t k) → ⊥
roots_no_tree index member zero i t k e = absurd (cc)
roots_no_tree index member (suc count) zero t k e = absurd (cc)
roots_no_tree index member (suc count) (suc i) t k e = roots_no_tree index (member + 1) count i t k e

kept_no_tree : (index : ℕ) (proxies : List Proxy) (i : ℕ) (t : GappedTree) (k : ℕ) → slice_get (kept_from index proxies) i ≡ Some (Own t k) → ⊥
kept_no_tree index [] i t k e = absurd (cc)
kept_no_tree index (proxy ∷ proxies) i t k e = elim (get_parts (roots_from index 0 proxy.roots) (kept_from (index + 1) proxies) i (Own t k) e) [
  | inl h ↦ roots_no_tree index 0 proxy.roots i t k h
  | inr p ↦ kept_no_tree (index + 1) proxies p.0 t k p.1
]

-- a child that is a tree of the piece weighs no more than all, and its gaps lie within those of all
pub own_child : (proxies : List Proxy) (first : ℕ) (f : Gapped) (i : ℕ) (t : GappedTree) (k : ℕ) → slice_get (children_of proxies first f) i ≡ Some (Own t k)
    → (item_slots t.node + gapped_size t.below ≤ gapped_size f) × (k + proxies_in t.below ≤ first + proxies_in f)
own_child proxies first End i t k e = absurd (cc)
own_child proxies first (Grow n b s) zero t k e =
    let whole : Own (record { node = n; below = b }) first ≡ Own t k = some_same e in
    let tree : record { node = n; below = b } ≡ t = cc in
    let same_first : first ≡ k = cc in
    let w : item_slots n + gapped_size b ≡ item_slots t.node + gapped_size t.below = ap (λ (x : GappedTree). item_slots x.node + gapped_size x.below) tree in
    let p : proxies_in b ≡ proxies_in t.below = ap (λ (x : GappedTree). proxies_in x.below) tree in
    (omega arith, omega arith)
own_child proxies first (Grow n b s) (suc i) t k e =
    let h = own_child proxies (first + proxies_in b) s i t k e in
    let w : item_slots t.node + gapped_size t.below ≤ gapped_size s = h.0 in
    let p : k + proxies_in t.below ≤ first + proxies_in b + proxies_in s = h.1 in
    (omega arith, omega arith)
own_child proxies first (Gap c s) i t k e = elim (get_parts (kept_from first (take c (drop first proxies))) (children_of proxies (first + c) s) i (Own t k) e) [
  | inl h ↦ absurd (kept_no_tree first (take c (drop first proxies)) i t k h)
  | inr q ↦
      let h = own_child proxies (first + c) s q.0 t k q.1 in
      let w : item_slots t.node + gapped_size t.below ≤ gapped_size s = h.0 in
      let p : k + proxies_in t.below ≤ first + c + proxies_in s = h.1 in
      (omega arith, omega arith)
]

roots_index : (index member count i k m : ℕ) → slice_get (roots_from index member count) i ≡ Some (Kept k m) → index ≡ k
roots_index index member zero i k m e = absurd (cc)
roots_index index member (suc count) zero k m e = let whole : Kept index member ≡ Kept k m = some_same e in cc
roots_index index member (suc count) (suc i) k m e = roots_index index (member + 1) count i k m e

kept_index : (index : ℕ) (proxies : List Proxy) (i k m : ℕ) → slice_get (kept_from index proxies) i ≡ Some (Kept k m) → (index ≤ k) × (k < index + length proxies)
kept_index index [] i k m e = absurd (cc)
kept_index index (proxy ∷ proxies) i k m e = elim (get_parts (roots_from index 0 proxy.roots) (kept_from (index + 1) proxies) i (Kept k m) e) [
  | inl h ↦ let same = roots_index index 0 proxy.roots i k m h in (omega arith, omega arith)
  | inr p ↦
      let h = kept_index (index + 1) proxies p.0 k m p.1 in
      let low : index + 1 ≤ k = h.0 in
      let high : k < index + 1 + length proxies = h.1 in
      (omega arith, omega arith)
]

-- a child that a proxy stands for names one of the proxies
pub kept_child : (proxies : List Proxy) (first : ℕ) (f : Gapped) (i k m : ℕ) → slice_get (children_of proxies first f) i ≡ Some (Kept k m) → k < length proxies
kept_child proxies first End i k m e = absurd (cc)
kept_child proxies first (Grow n b s) zero k m e = absurd (cc)
kept_child proxies first (Grow n b s) (suc i) k m e = kept_child proxies (first + proxies_in b) s i k m e
kept_child proxies first (Gap c s) i k m e = elim (get_parts (kept_from first (take c (drop first proxies))) (children_of proxies (first + c) s) i (Kept k m) e) [
  | inl h ↦
      let r = kept_index first (take c (drop first proxies)) i k m h in
      let low : first ≤ k = r.0 in
      let high : k < first + length (take c (drop first proxies)) = r.1 in
      let few : length (take c (drop first proxies)) ≤ length (drop first proxies) = take_few c (drop first proxies) in
      let rest = length-drop first proxies in
      omega arith
  | inr q ↦ kept_child proxies (first + c) s q.0 k m q.1
]
  where
    take_few : (n : ℕ) (xs : List Proxy) → length (take n xs) ≤ length xs
    take_few zero xs = omega arith
    take_few (suc n) [] = omega arith
    take_few (suc n) (x ∷ xs) = omega (arith, take_few n xs)

-- among trees alone no child is one that a proxy stands for
pub trees_own : (proxies : List Proxy) (first : ℕ) (f : Gapped) (i k m : ℕ) → AreTrees f → slice_get (children_of proxies first f) i ≡ Some (Kept k m) → ⊥
trees_own proxies first End i k m h e = absurd (cc)
trees_own proxies first (Grow n b s) zero k m h e = absurd (cc)
trees_own proxies first (Grow n b s) (suc i) k m h e = trees_own proxies (first + proxies_in b) s i k m h e
trees_own proxies first (Gap c s) i k m h e = h

pub ranged_drop : (n : ℕ) (proxies : List Proxy) → HaveRoots proxies → HaveRoots (drop n proxies)
ranged_drop zero proxies h = h
ranged_drop (suc n) [] h = tt
ranged_drop (suc n) (p ∷ proxies) h = ranged_drop n proxies h.2

pub ranged_take : (n : ℕ) (proxies : List Proxy) → HaveRoots proxies → HaveRoots (take n proxies)
ranged_take zero proxies h = tt
ranged_take (suc n) [] h = tt
ranged_take (suc n) (p ∷ proxies) h = (h.0, h.1, ranged_take n proxies h.2)

-- no proxy has many roots
pub roots_most : (proxies : List Proxy) → HaveRoots proxies → sum_by (λ p. p.roots) proxies ≤ length proxies * 256
roots_most [] h = omega arith
roots_most (p ∷ proxies) h =
    let a : p.roots ≤ 256 = h.1 in
    let b = roots_most proxies h.2 in
    let c = sum_by-cons (λ (q : Proxy). q.roots) p proxies in
    omega arith

taken_most : (n : ℕ) (proxies : List Proxy) → HaveRoots proxies → sum_by (λ p. p.roots) (take n proxies) ≤ n * 256
taken_most n proxies h =
    let a = roots_most (take n proxies) (ranged_take n proxies h) in
    let b : length (take n proxies) ≤ n = few n proxies in
    omega arith
  where
    few : (n : ℕ) (xs : List Proxy) → length (take n xs) ≤ n
    few zero xs = omega arith
    few (suc n) [] = omega arith
    few (suc n) (x ∷ xs) = omega (arith, few n xs)

-- and so no node has many children
pub children_most : (proxies : List Proxy) (first : ℕ) (f : Gapped) → HaveRoots proxies → length (children_of proxies first f) ≤ gapped_size f + 256 * proxies_in f
children_most proxies first End h = omega arith
children_most proxies first (Grow n b s) h = let a = children_most proxies (first + proxies_in b) s h in omega arith
children_most proxies first (Gap c s) h =
    let a = children_most proxies (first + c) s h in
    let b = length-append (kept_from first (take c (drop first proxies))) (children_of proxies (first + c) s) in
    let k = kept_length first (take c (drop first proxies)) in
    let m = taken_most c (drop first proxies) (ranged_drop first proxies h) in
    omega arith

-- so many children are counted, and those of the rest are left
pub record IsCounted (proxies : List Proxy) (first : ℕ) (all : Gapped) (before count : ℕ) (rest : Gapped) : Type 0 where
  pub sum : count + length (children_of proxies before rest) ≡ length (children_of proxies first all)
  pub fits : before + proxies_in rest ≡ first + proxies_in all

pub none_counted : (proxies : List Proxy) (first : ℕ) (all rest : Gapped) → rest ≡ all → IsCounted proxies first all first 0 rest
none_counted proxies first all rest e =
    record { sum = let a = ap (λ (f : Gapped). length (children_of proxies first f)) e in omega arith; fits = ap (λ (f : Gapped). first + proxies_in f) e }

pub tree_counted : {proxies : List Proxy} {first before count : ℕ} {all rest beside : Gapped} (t : GappedTree) (n : ℕ) → IsCounted proxies first all before count rest → rest ≡ Grow t.node t.below beside → n ≡ proxies_in t.below
    → IsCounted proxies first all (before + n) (count + 1) beside
tree_counted {proxies} {first} {before} {count} {all} {rest} {beside} t n h e is = record {
  sum = let a = h.sum in
      let b = ap (λ (f : Gapped). length (children_of proxies before f)) e in
      let c = ap (λ (k : ℕ). length (children_of proxies (before + k) beside)) is in
      omega arith;
  fits = let a = h.fits in let b = ap proxies_in e in omega arith;
}

pub gap_counted : {proxies : List Proxy} {first before count c more : ℕ} {all rest beside : Gapped} → IsCounted proxies first all before count rest → rest ≡ Gap c beside → more ≡ sum_by (λ p. p.roots) (take c (drop before proxies))
    → IsCounted proxies first all (before + c) (count + more) beside
gap_counted {proxies} {first} {before} {count} {c} {more} {all} {rest} {beside} h e is = record {
  sum = let a = h.sum in
      let b = ap (λ (f : Gapped). length (children_of proxies before f)) e in
      let d = length-append (kept_from before (take c (drop before proxies))) (children_of proxies (before + c) beside) in
      let k = kept_length before (take c (drop before proxies)) in
      omega arith;
  fits = let a = h.fits in let b = ap proxies_in e in omega arith;
}

-- and there are not many of them
pub counted_few : {proxies : List Proxy} {first before count : ℕ} {all rest : Gapped} → IsCounted proxies first all before count rest → HaveRoots proxies → proxies_in all ≤ 524288 → gapped_size all ≤ 512
    → count + length (children_of proxies before rest) ≤ 134218240
counted_few {proxies} {first} {before} {count} {all} {rest} h ranged few small = let a = h.sum in let b = children_most proxies first all ranged in omega arith

pub all_counted : {proxies : List Proxy} {first before count : ℕ} {all rest : Gapped} → IsCounted proxies first all before count rest → rest ≡ End → count ≡ length (children_of proxies first all)
all_counted {proxies} {first} {before} {count} {all} {rest} h e =
    let a = h.sum in let b = ap (λ (f : Gapped). length (children_of proxies before f)) e in omega arith

-- the path leads on from this tree, after so many positions
pub record IsOnWay (piece : Piece) (member : ℕ) (path : List ℕ) (used : ℕ) (tree : GappedTree) (first : ℕ) : Type 0 where
  pub same : reached_in piece member path ≡ reached piece.proxies used (drop used path) (Some (Own tree first))
  pub part : IsPartOf piece tree first
  pub deep : used + item_slots tree.node + gapped_size tree.below ≤ 512

pub way_begins : (piece : Piece) (member : ℕ) (path : List ℕ) (tree : GappedTree) (first : ℕ) → IsPiece piece → slice_get (children_of piece.proxies 0 piece.body.roots) member ≡ Some (Own tree first) → IsOnWay piece member path 0 tree first
way_begins piece member path tree first valid e =
    let own = own_child piece.proxies 0 piece.body.roots member tree first e in
    let w : item_slots tree.node + gapped_size tree.below ≤ gapped_size piece.body.roots = own.0 in
    let p : first + proxies_in tree.below ≤ 0 + proxies_in piece.body.roots = own.1 in
    let l : gapped_size piece.body.roots ≤ 512 = valid.body.small in
    let c : proxies_in piece.body.roots ≡ length piece.proxies = valid.body.counted in
    record {
      same = ap (reached piece.proxies 0 path) e;
      part = record { fits = omega arith; small = omega arith };
      deep = omega arith;
    }

-- one position further
pub step : {piece : Piece} {member : ℕ} {path : List ℕ} {used : ℕ} {tree : GappedTree} {first : ℕ} (position : ℕ) → IsOnWay piece member path used tree first → drop used path ≡ position ∷ drop (used + 1) path
    → reached_in piece member path ≡ reached piece.proxies (used + 1) (drop (used + 1) path) (slice_get (children_of piece.proxies first tree.below) position)
step {piece} {member} {path} {used} {tree} {first} position h d = h.same ∙ ap (λ (ps : List ℕ). reached piece.proxies used ps (Some (Own tree first))) d

pub way_goes_on : {piece : Piece} {member : ℕ} {path : List ℕ} {used : ℕ} {tree : GappedTree} {first : ℕ} (position : ℕ) (child : GappedTree) (before : ℕ) → IsOnWay piece member path used tree first
    → drop used path ≡ position ∷ drop (used + 1) path → slice_get (children_of piece.proxies first tree.below) position ≡ Some (Own child before) → IsOnWay piece member path (used + 1) child before
way_goes_on {piece} {member} {path} {used} {tree} {first} position child before h d e =
    let own = own_child piece.proxies first tree.below position child before e in
    let w : item_slots child.node + gapped_size child.below ≤ gapped_size tree.below = own.0 in
    let p : before + proxies_in child.below ≤ first + proxies_in tree.below = own.1 in
    let f : first + proxies_in tree.below ≤ length piece.proxies = h.part.fits in
    let l : used + item_slots tree.node + gapped_size tree.below ≤ 512 = h.deep in
    record {
      same = step position h d ∙ ap (reached piece.proxies (used + 1) (drop (used + 1) path)) e;
      part = record { fits = omega arith; small = omega arith };
      deep = omega arith;
    }

missing : (proxies : List Proxy) (used : ℕ) (path : List ℕ) → reached proxies used path None ≡ Missing
missing proxies used [] = refl
missing proxies used (position ∷ path) = refl

outside : (proxies : List Proxy) (used : ℕ) (path : List ℕ) (index member : ℕ) → reached proxies used path (Some (Kept index member)) ≡ Outside index member used
outside proxies used [] index member = refl
outside proxies used (position ∷ path) index member = refl

-- where no child is there, and no root, the path leads nowhere
pub no_root : (piece : Piece) (member : ℕ) (path : List ℕ) → slice_get (children_of piece.proxies 0 piece.body.roots) member ≡ None → reached_in piece member path ≡ Missing
no_root piece member path e = ap (reached piece.proxies 0 path) e ∙ missing piece.proxies 0 path

pub no_child : {piece : Piece} {member : ℕ} {path : List ℕ} {used : ℕ} {tree : GappedTree} {first : ℕ} (position : ℕ) → IsOnWay piece member path used tree first → drop used path ≡ position ∷ drop (used + 1) path
    → slice_get (children_of piece.proxies first tree.below) position ≡ None → reached_in piece member path ≡ Missing
no_child {piece} {member} {path} {used} {tree} {first} position h d e =
    step position h d ∙ ap (reached piece.proxies (used + 1) (drop (used + 1) path)) e ∙ missing piece.proxies (used + 1) (drop (used + 1) path)

pub leads_out : {piece : Piece} {member : ℕ} {path : List ℕ} {used : ℕ} {tree : GappedTree} {first : ℕ} (position index root : ℕ) → IsOnWay piece member path used tree first → drop used path ≡ position ∷ drop (used + 1) path
    → slice_get (children_of piece.proxies first tree.below) position ≡ Some (Kept index root) → reached_in piece member path ≡ Outside index root (used + 1)
leads_out {piece} {member} {path} {used} {tree} {first} position index root h d e =
    step position h d ∙ ap (reached piece.proxies (used + 1) (drop (used + 1) path)) e ∙ outside piece.proxies (used + 1) (drop (used + 1) path) index root

pub way_ends : {piece : Piece} {member : ℕ} {path : List ℕ} {used : ℕ} {tree : GappedTree} {first : ℕ} → IsOnWay piece member path used tree first → length path ≤ used → reached_in piece member path ≡ Inside tree first
way_ends {piece} {member} {path} {used} {tree} {first} h end =
    h.same ∙ ap (λ (ps : List ℕ). reached piece.proxies used ps (Some (Own tree first))) (drop_all used path end)

-- what is found of the same children
pub same_children : {p q : List Proxy} {f g : Gapped} {found : Option PieceChild} (first position : ℕ) → p ≡ q → f ≡ g → slice_get (children_of p first f) position ≡ found → slice_get (children_of q first g) position ≡ found
same_children {p} {q} {f} {g} {found} first position e h is =
    ap (λ (ps : List Proxy). slice_get (children_of ps first g) position) (sym e) ∙ ap (λ (x : Gapped). slice_get (children_of p first x) position) (sym h) ∙ is
