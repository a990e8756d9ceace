-- The walk that adds up what each interval owns, tree by tree, and what it leaves.
use Rattle.std.proofs.Common.{◌≡◌, ℕ, zero, suc, ◌+◌, ◌<◌, ◌≤◌, ◌==◌, ◌^◌, Bool, if◌then◌else◌, List, [], ◌∷◌, ◌++◌, length, take, drop, get_or, replicate, Option, None, Some, unwrap_or, refl, sym, ap, ◌∙◌, subst, inl, inr, arith, slice_set}
use Rattle.std.proofs.lemmas.Bool.{cases_eq, eq-eqb, ne_eqb}
use Rattle.std.proofs.lemmas.List.FromFn.{fill_by_all}
use Rattle.std.proofs.lemmas.List.{append-nil, take_all, drop_all}
use Rattle.nx_tree.specs.Document.{IsDocument}
use Rattle.nx_tree.specs.Forest.{OrderedTree, Forest, Plant, forest_of}
use Rattle.nx_weights.specs.Weight.{weight, total, IsShort, AreShort}
use Rattle.nx_weights.proofs.LimitLemmas.{document_within}
use Rattle.nx_weights.proofs.SumLemmas.{tree_weight_most}
use Rattle.nx_parts.specs.declared.interval.Interval.{Interval}
use Rattle.nx_parts.specs.declared.marks.Mark.{Mark, out-Mark}
use Rattle.nx_parts.specs.Partitioning.{holder, owned_weight, part_weights}
use Rattle.nx_parts.specs.Marks.{marked, marked_in, holder_by_marks, owed}
use Rattle.nx_parts.proofs.Owned.{is_place, owned}
use Rattle.nx_parts.proofs.OwnerLemmas.{owned_weight-walk}
use Rattle.nx_parts.proofs.OwedLemmas.{at_most_one, owed-total, owed-same, owed-owned}

-- what the sums are before the trees from an index on, where they began as old
pub record OwedSoFar (marks : List Mark) (above i : ℕ) (old now : List ℕ) (ts : List OrderedTree) : Type 0 where
  pub len : length now ≡ length old
  pub short : AreShort (forest_of (drop i ts))
  pub room : (index : ℕ) → index < length old → get_or now index 0 + total (forest_of (drop i ts)) ≤ get_or old index 0 + total (forest_of ts)
  pub sums : (index : ℕ) → index < length old → get_or now index 0 + owed (holder_by_marks marks) index above i (forest_of (drop i ts)) ≡ get_or old index 0 + owed (holder_by_marks marks) index above 0 (forest_of ts)

pub owed-start : (marks : List Mark) (above : ℕ) (old : List ℕ) (ts : List OrderedTree) → AreShort (forest_of ts) → OwedSoFar marks above 0 old old ts
owed-start marks above old ts h = record { len = refl; short = h; room = λ index lt. omega arith; sums = λ index lt. refl }

pub get_set : (xs : List ℕ) (i k v : ℕ) → i < length xs → get_or (slice_set xs i v) k 0 ≡ (if i == k then v else get_or xs k 0)
get_set [] i k v h = absurd (omega arith)
get_set (x ∷ xs) zero zero v h = refl
get_set (x ∷ xs) zero (suc k) v h = sym (ap (λ (b : Bool). if b then v else get_or xs k 0) (ne_eqb 0 (suc k) (λ (e : 0 ≡ suc k). absurd (omega arith))))
get_set (x ∷ xs) (suc i) zero v h = sym (ap (λ (b : Bool). if b then v else x) (ne_eqb (suc i) 0 (λ (e : suc i ≡ 0). absurd (omega arith))))
get_set (x ∷ xs) (suc i) (suc k) v h = get_set xs i k v (omega arith) ∙ ap (λ (b : Bool). if b then v else get_or xs k 0) (same_test i k)
  where
    same_test : (i k : ℕ) → (i == k) ≡ (suc i == suc k)
    same_test i k = elim (cases_eq i k) [
      | inl e ↦ eq-eqb i k e ∙ sym (eq-eqb (suc i) (suc k) (ap suc e))
      | inr ne ↦ ne_eqb i k ne ∙ sym (ne_eqb (suc i) (suc k) (λ (e : suc i ≡ suc k). ne (omega arith)))
    ]

pub length_sums : (xs : List ℕ) (i v : ℕ) → length (slice_set xs i v) ≡ length xs
length_sums [] i v = refl
length_sums (x ∷ xs) zero v = refl
length_sums (x ∷ xs) (suc i) v = ap suc (length_sums xs i v)

-- a sum that a weight is added to
pub get_added : (xs : List ℕ) (i k w : ℕ) → i < length xs → get_or (slice_set xs i (get_or xs i 0 + w)) k 0 ≡ get_or xs k 0 + (if i == k then w else 0)
get_added xs i k w h = get_set xs i k (get_or xs i 0 + w) h ∙ elim (cases_eq i k) [
  | inl e ↦ ap (λ (b : Bool). if b then get_or xs i 0 + w else get_or xs k 0) (eq-eqb i k e)
      ∙ ap (λ (j : ℕ). get_or xs j 0 + w) e
      ∙ sym (ap (λ (b : Bool). get_or xs k 0 + (if b then w else 0)) (eq-eqb i k e))
  | inr ne ↦ ap (λ (b : Bool). if b then get_or xs i 0 + w else get_or xs k 0) (ne_eqb i k ne)
      ∙ (let z : get_or xs k 0 ≡ get_or xs k 0 + 0 = omega arith in z)
      ∙ sym (ap (λ (b : Bool). get_or xs k 0 + (if b then w else 0)) (ne_eqb i k ne))
]

-- the owner of a child is among the sums
pub owner_within : (o : Option ℕ) (above n owner : ℕ) → owner ≡ unwrap_or o above → above < n → ((place : ℕ) → o ≡ Some place → place < n) → owner < n
owner_within None above n owner is h f = omega arith
owner_within (Some x) above n owner is h f = let lt = f x refl in omega arith

module _ (marks : List Mark) (above i : ℕ) (old now : List ℕ) (ts : List OrderedTree) (t : OrderedTree) (s : OwedSoFar marks above i old now ts) (next : drop i ts ≡ t ∷ drop (i + 1) ts) where
  abbrev rest : Forest
  rest = forest_of (drop (i + 1) ts)

  split : forest_of (drop i ts) ≡ Plant t.node t.below rest
  split = ap forest_of next

  pub child_short : IsShort t.node × AreShort t.below × AreShort rest
  child_short = subst AreShort split s.short

  left : total (forest_of (drop i ts)) ≡ weight t.node + total t.below + total rest
  left = ap total split

  module _ (owner w : ℕ) (mid : List ℕ) (own : owner ≡ unwrap_or (marked_in marks i []) above) (is : w ≡ weight t.node) (within : owner < length now) (added : mid ≡ slice_set now owner (get_or now owner 0 + w)) where
    mid_at : (index : ℕ) → get_or mid index 0 ≡ get_or now index 0 + (if owner == index then w else 0)
    mid_at index = ap (λ (xs : List ℕ). get_or xs index 0) added ∙ get_added now owner index w within

    pub mid_length : length mid ≡ length old
    mid_length = ap length added ∙ length_sums now owner (get_or now owner 0 + w) ∙ s.len

    -- the sums have room for what is below the child
    pub mid_room : (most index : ℕ) → index < length old → get_or old index 0 + total (forest_of ts) < most → get_or mid index 0 + total t.below < most
    mid_room most index lt h =
        let m = mid_at index in
        let c = at_most_one (owner == index) w in
        let r = s.room index lt in
        let l = left in
        omega arith

    pub owed-more : (below : List Mark) (items : List OrderedTree) (after : List ℕ) → ((p : ℕ) (path : List ℕ) → marked_in below p path ≡ marked_in marks i (p ∷ path)) → forest_of items ≡ t.below → length after ≡ length mid
        → ((index : ℕ) → index < length mid → get_or after index 0 ≡ get_or mid index 0 + owed (holder_by_marks below) index owner 0 (forest_of items)) → OwedSoFar marks above (i + 1) old after ts
    owed-more below items after same is_below len h = record {
      len = len ∙ mid_length;
      short = child_short.2;
      room = λ index lt.
          let m = mid_at index in
          let c = at_most_one (owner == index) w in
          let r = s.room index lt in
          let l = left in
          let a = at_child index lt in
          let o = owed-total (λ path. holder_by_marks marks (i ∷ path)) index owner 0 t.below in
          omega arith;
      sums = λ index lt.
          let m = mid_at index in
          let a = at_child index lt in
          let q = s.sums index lt in
          let d = parted index in
          omega arith;
    }
      where
        at_child : (index : ℕ) → index < length old → get_or after index 0 ≡ get_or mid index 0 + owed (λ path. holder_by_marks marks (i ∷ path)) index owner 0 t.below
        at_child index lt =
            let n = mid_length in
            h index (omega arith)
            ∙ ap (λ (x : ℕ). get_or mid index 0 + x)
            (owed-same (holder_by_marks below) (λ path. holder_by_marks marks (i ∷ path)) index owner 0 (forest_of items) same
            ∙ ap (λ (f : Forest). owed (λ path. holder_by_marks marks (i ∷ path)) index owner 0 f) is_below)

        parted : (index : ℕ) → owed (holder_by_marks marks) index above i (forest_of (drop i ts)) ≡ (if owner == index then w else 0) + owed (λ path. holder_by_marks marks (i ∷ path)) index owner 0 t.below + owed (holder_by_marks marks) index above (i + 1) rest
        parted index =
            ap (owed (holder_by_marks marks) index above i) split
            ∙ ap (λ (o : ℕ). (if o == index then weight t.node else 0) + owed (λ path. holder_by_marks marks (i ∷ path)) index o 0 t.below + owed (holder_by_marks marks) index above (i + 1) rest) (sym own)
            ∙ ap (λ (x : ℕ). (if owner == index then x else 0) + owed (λ path. holder_by_marks marks (i ∷ path)) index owner 0 t.below + owed (holder_by_marks marks) index above (i + 1) rest) (sym is)

pub owed-end : (marks : List Mark) (above i : ℕ) (old now : List ℕ) (ts : List OrderedTree) → OwedSoFar marks above i old now ts → drop i ts ≡ [] → (index : ℕ) → index < length old → get_or now index 0 ≡ get_or old index 0 + owed (holder_by_marks marks) index above 0 (forest_of ts)
owed-end marks above i old now ts s e index lt =
    let q = s.sums index lt in
    let z : owed (holder_by_marks marks) index above i (forest_of (drop i ts)) ≡ 0 = ap (λ (xs : List OrderedTree). owed (holder_by_marks marks) index above i (forest_of xs)) e in
    omega arith

zeros_at : (n k : ℕ) → ◌≡◌ {A = ℕ} (get_or (replicate n 0) k 0) 0
zeros_at zero k = refl
zeros_at (suc n) zero = refl
zeros_at (suc n) (suc k) = zeros_at n k

-- the sums before the walk: the root's weight at its owner alone
pub root_sum : (zeros : List ℕ) (n owner w k : ℕ) → zeros ≡ replicate n 0 → owner < length zeros → get_or (slice_set zeros owner w) k 0 ≡ (if owner == k then w else 0)
root_sum zeros n owner w k e h =
    get_set zeros owner k w h
    ∙ ap (λ (x : ℕ). if owner == k then w else x) (ap (λ (xs : List ℕ). get_or xs k 0) e ∙ zeros_at n k)

-- there is room for the sums of a document
pub root_room : (tree : OrderedTree) (zeros begun : List ℕ) (ts : List OrderedTree) (n owner w index : ℕ) → IsDocument tree → zeros ≡ replicate n 0 → owner < length zeros → w ≡ weight tree.node → begun ≡ slice_set zeros owner w → forest_of ts ≡ tree.below → get_or begun index 0 + total (forest_of ts) < 2 ^ 64
root_room tree zeros begun ts n owner w index doc zs within is e below =
    let a = ap (λ (xs : List ℕ). get_or xs index 0) e ∙ root_sum zeros n owner w index zs within in
    let c = at_most_one (owner == index) w in
    let most = tree_weight_most tree (document_within tree doc) in
    let b = ap total below in
    omega arith

-- a list that is written over another of its length
written_over : (new old : List ℕ) (n : ℕ) → length new ≡ length old → n ≡ length old → take n (new ++ drop (length new) old) ≡ new
written_over new old n len is =
    ap (λ (xs : List ℕ). take n (new ++ xs)) (drop_all (length new) old (omega arith)) ∙ ap (take n) (append-nil new) ∙ take_all n new (omega arith)

pub whole_sums : (tree : OrderedTree) (zeros begun new : List ℕ) (marks : List Mark) (below : List Mark) (ts : List OrderedTree) (n len owner w index : ℕ) → zeros ≡ replicate n 0 → owner < length zeros → w ≡ weight tree.node → begun ≡ slice_set zeros owner w → forest_of ts ≡ tree.below → below ≡ marks
    → length new ≡ length begun → len ≡ length zeros → get_or new index 0 ≡ get_or begun index 0 + owed (holder_by_marks below) index owner 0 (forest_of ts)
    → get_or (take len (new ++ drop (length new) (slice_set zeros owner w))) index 0 ≡ (if owner == index then weight tree.node else 0) + owed (holder_by_marks marks) index owner 0 tree.below
whole_sums tree zeros begun new marks below ts n len owner w index zs within is e f m l k h =
    let count = length_sums zeros owner w in
    let same = ap length e in
    ap (λ (xs : List ℕ). get_or xs index 0) (written_over new (slice_set zeros owner w) len (omega arith) (omega arith))
    ∙ h
    ∙ ap (λ (x : ℕ). x + owed (holder_by_marks below) index owner 0 (forest_of ts)) (ap (λ (xs : List ℕ). get_or xs index 0) e ∙ root_sum zeros n owner w index zs within ∙ ap (λ (x : ℕ). if owner == index then x else 0) is)
    ∙ ap (λ (x : Forest). (if owner == index then weight tree.node else 0) + owed (holder_by_marks below) index owner 0 x) f
    ∙ ap (λ (xs : List Mark). (if owner == index then weight tree.node else 0) + owed (holder_by_marks xs) index owner 0 tree.below) m

-- what the sums are after the walk over the whole tree
pub weights_of : (tree : OrderedTree) (parts : List Interval) (root : Mark) (owner : ℕ) (sums : List ℕ) → ((path : List ℕ) → marked root path ≡ holder parts path) → (out-Mark root).holder ≡ Some owner → length sums ≡ length parts
    → ((index : ℕ) → index < length parts → get_or sums index 0 ≡ (if owner == index then weight tree.node else 0) + owed (holder_by_marks (out-Mark root).below.items) index owner 0 tree.below) → sums ≡ part_weights tree parts
weights_of tree parts root owner sums marks own len h = fill_by_all (owned_weight tree parts) sums (length parts) 0 len pointwise
  where
    held : holder parts [] ≡ Some owner
    held = sym (marks []) ∙ own

    pointwise : (k : ℕ) → k < length parts → get_or sums k 0 ≡ owned_weight tree parts k
    pointwise k lt =
        let a = h k lt in
        let o : owed (holder_by_marks (out-Mark root).below.items) k owner 0 tree.below ≡ owned parts k (Some owner) [] 0 tree.below = owed-owned parts (holder_by_marks (out-Mark root).below.items) k owner [] 0 tree.below (λ p rest. marks (p ∷ rest)) in
        let p = owned_weight-walk tree parts k in
        let q : (if is_place k (holder parts []) then weight tree.node else 0) ≡ (if owner == k then weight tree.node else 0) = ap (λ (x : Option ℕ). if is_place k x then weight tree.node else 0) held in
        let r : owned parts k (holder parts []) [] 0 tree.below ≡ owned parts k (Some owner) [] 0 tree.below = ap (λ (x : Option ℕ). owned parts k x [] 0 tree.below) held in
        omega (arith, a, o, p, q, r)
