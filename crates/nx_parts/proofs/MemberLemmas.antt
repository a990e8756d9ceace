-- The marks that stand for the first intervals of a list, and what they tell of it.
use Rattle.std.proofs.Common.{◌≡◌, ℕ, zero, suc, ◌+◌, ◌<◌, ◌≤◌, Bool, true, false, if◌then◌else◌, List, [], ◌∷◌, ◌++◌, length, take, get_or, Option, None, Some, Result, Ok, Err, refl, sym, ap, ◌∙◌, subst, inl, inr, arith}
use Rattle.std.specs.Prelude.{slice_get, IsTrue, Contains}
use Rattle.std.specs.List.{All}
use Rattle.std.specs.Option.{option_or, ok_or}
use Rattle.std.proofs.lemmas.Bool.{cases_lt, both_ways}
use Rattle.std.proofs.lemmas.Option.{slice_get-get_or, slice_get_within, get_or_from_slice_get}
use Rattle.std.proofs.lemmas.List.{take_more, take_all}
use Rattle.std.proofs.lemmas.List.Quantifiers.{position-Some}
use Rattle.nx_tree.specs.Forest.{OrderedTree}
use Rattle.nx_parts.specs.declared.interval.Interval.{Interval}
use Rattle.nx_parts.specs.declared.interval.Interval.TheVariants.{Root, Run}
use Rattle.nx_parts.specs.declared.marks.Mark.{Mark}
use Rattle.nx_parts.specs.declared.error.PartsError.{PartsError}
use Rattle.nx_parts.specs.declared.error.PartsError.TheVariants.{OutOfTree, Overlap, NoRoot, Heavy, Memory}
use Rattle.nx_parts.specs.Partitioning.{has_member, holder, is_in_tree, IsPartitioning}
use Rattle.nx_parts.specs.Refusal.{IsFirst, IsOutOfTree, Overlaps, IsNoPartitioning}
use Rattle.nx_parts.specs.Marks.{marked, HoldsMembers, IsClash, IsOverlap}
use Rattle.nx_parts.proofs.HolderLemmas.{position-push, position-None}

-- the marks of the first n intervals, none of which overlaps an earlier one
pub record MembersSoFar (n : ℕ) (parts : List Interval) (root : Mark) : Type 0 where
  pub holders : (path : List ℕ) → marked root path ≡ holder (take n parts) path
  pub apart : (index : ℕ) → index < n → ¬ Overlaps parts index

pub members-start : (parts : List Interval) (root : Mark) → ((path : List ℕ) → marked root path ≡ None) → MembersSoFar 0 parts root
members-start parts root e = record { holders = e; apart = λ index h. absurd (omega arith) }

get_taken : (xs : List Interval) (n k : ℕ) → k < n → slice_get (take n xs) k ≡ slice_get xs k
get_taken xs zero k h = absurd (omega arith)
get_taken [] (suc n) k h = refl
get_taken (x ∷ xs) (suc n) zero h = refl
get_taken (x ∷ xs) (suc n) (suc k) h = get_taken xs n k (omega arith)

taken_length : (xs : List Interval) (n : ℕ) → n ≤ length xs → length (take n xs) ≡ n
taken_length xs zero h = refl
taken_length [] (suc n) h = absurd (omega arith)
taken_length (x ∷ xs) (suc n) h = ap suc (taken_length xs n (omega arith))

chosen : (b : Bool) (n : ℕ) (o : Option ℕ) → (b ≡ true → o ≡ None) → (if b then Some n else o) ≡ option_or o (if b then Some n else None)
chosen true n o e = sym (ap (λ (x : Option ℕ). option_or x (Some n)) (e refl))
chosen false n None e = refl
chosen false n (Some x) e = refl

module _ (parts : List Interval) (n : ℕ) (interval : Interval) (root : Mark) (here : slice_get parts n ≡ Some interval) (s : MembersSoFar n parts root) where
  longer : (path : List ℕ) → holder (take (n + 1) parts) path ≡ option_or (holder (take n parts) path) (if has_member interval path then Some n else None)
  longer path =
      let within = slice_get_within parts n interval here in
      ap (λ (xs : List Interval). holder xs path) (take_more parts n interval within)
      ∙ ap (λ (x : Interval). holder (take n parts ++ x ∷ []) path) (get_or_from_slice_get parts n interval interval here)
      ∙ position-push (λ (x : Interval). has_member x path) (take n parts) interval
      ∙ ap (λ (k : ℕ). option_or (holder (take n parts) path) (if has_member interval path then Some k else None)) (taken_length parts n (omega arith))

  free_of_earlier : (path : List ℕ) (earlier : ℕ) (other : Interval) → marked root path ≡ None → earlier < n → slice_get parts earlier ≡ Some other → has_member other path ≡ false
  free_of_earlier path earlier other e lt g =
      position-None (λ (x : Interval). has_member x path) (take n parts) earlier other (sym (s.holders path) ∙ e) (get_taken parts n earlier lt ∙ g)

  module _ (new : Mark) (h : HoldsMembers (has_member interval) n root new) where
    apart_here : ¬ Overlaps parts n
    apart_here o =
        let same : o.0 ≡ interval = let e = sym o.3 ∙ here in cc in
        let member : has_member interval o.6.0 ≡ true = ap (λ (x : Interval). has_member x o.6.0) (sym same) ∙ o.6.1 in
        both_ways (has_member o.2 o.6.0) (free_of_earlier o.6.0 o.1 o.2 (h.free o.6.0 member) o.4 o.5) o.6.2

    pub members-more : MembersSoFar (n + 1) parts new
    members-more = record {
      holders = λ path. h.held path
          ∙ ap (λ (o : Option ℕ). if has_member interval path then Some n else o) (s.holders path)
          ∙ chosen (has_member interval path) n (holder (take n parts) path) (λ t. sym (s.holders path) ∙ h.free path t)
          ∙ sym (longer path);
      apart = λ index lt. elim (cases_lt index n) [
        | inl below ↦ s.apart index below
        | inr past ↦ let e : n ≡ index = omega arith in subst (λ (k : ℕ). ¬ Overlaps parts k) e apart_here
      ];
    }

  overlaps_here : (path : List ℕ) (taken : ℕ) → IsTrue (has_member interval path) → marked root path ≡ Some taken → Overlaps parts n
  overlaps_here path taken t e =
      let p = position-Some (λ (x : Interval). has_member x path) (take n parts) taken interval (sym (s.holders path) ∙ e) in
      let within = slice_get_within parts n interval here in
      let lt : taken < n = let len = taken_length parts n (omega arith) in let q = p.0 in omega arith in (
        interval,
        taken,
        get_or (take n parts) taken interval,
        here,
        lt,
        sym (get_taken parts n taken lt) ∙ slice_get-get_or (take n parts) taken interval p.0,
        (path, t, p.1),
      )

  pub members-clash : (error : PartsError) → IsClash (has_member interval) n root error → IsOverlap parts error
  members-clash (Overlap place) h =
      let first : IsFirst (Overlaps parts) n = record { holds = overlaps_here h.1.0 h.1.1 h.1.2 h.1.3; before = s.apart } in
      subst (λ (k : ℕ). IsFirst (Overlaps parts) k) (sym h.0) first
  members-clash Memory h = tt
  members-clash (OutOfTree place) h = h
  members-clash NoRoot h = h
  members-clash (Heavy place slots) h = h

pub holders-end : (parts : List Interval) (n : ℕ) (root : Mark) → MembersSoFar n parts root → length parts ≤ n → (path : List ℕ) → marked root path ≡ holder parts path
holders-end parts n root s h path = s.holders path ∙ ap (λ (xs : List Interval). holder xs path) (take_all n parts h)

pub apart-end : (parts : List Interval) (n : ℕ) (root : Mark) → MembersSoFar n parts root → length parts ≤ n → (index : ℕ) → ¬ Overlaps parts index
apart-end parts n root s h index o = let within = slice_get_within parts index o.0 o.3 in s.apart index (omega arith) o

-- a list of intervals in the tree:

pub none_outside : (tree : OrderedTree) (parts : List Interval) → All (λ interval. IsTrue (is_in_tree tree interval)) parts → (index : ℕ) → ¬ IsOutOfTree tree parts index
none_outside tree parts all index o =
    o.2 (subst (λ (x : Interval). IsTrue (is_in_tree tree x)) (get_or_from_slice_get parts index o.0 o.0 o.1) (all index o.0 (slice_get_within parts index o.0 o.1)))

pub first_outside : (tree : OrderedTree) (parts : List Interval) (index : ℕ) (interval : Interval) → slice_get parts index ≡ Some interval → is_in_tree tree interval ≡ false → ((j : ℕ) (d : Interval) → j < index → IsTrue (is_in_tree tree (get_or parts j d))) → IsFirst (IsOutOfTree tree parts) index
first_outside tree parts index interval g out inside = record {
  holds = (interval, g, λ t. both_ways (is_in_tree tree interval) out t);
  before = λ earlier lt o. o.2 (subst (λ (x : Interval). IsTrue (is_in_tree tree x)) (get_or_from_slice_get parts earlier o.0 o.0 o.1) (inside earlier o.0 lt));
}

pub overlap-refused : (tree : OrderedTree) (parts : List Interval) → All (λ interval. IsTrue (is_in_tree tree interval)) parts → (error : PartsError) → IsOverlap parts error → IsNoPartitioning tree parts error
overlap-refused tree parts all (Overlap index) h = (none_outside tree parts all, h)
overlap-refused tree parts all Memory h = tt
overlap-refused tree parts all (OutOfTree index) h = absurd h
overlap-refused tree parts all NoRoot h = absurd h
overlap-refused tree parts all (Heavy index slots) h = absurd h

root_alone : (x : Interval) → has_member x [] ≡ true → x ≡ Root
root_alone Root e = refl
root_alone (Run [] first last) e = absurd (cc)
root_alone (Run (step ∷ parent) first last) e = absurd (cc)

pub unrooted : (parts : List Interval) → holder parts [] ≡ None → ¬ Contains parts Root
unrooted parts none found =
    let e : has_member Root [] ≡ false = position-None (λ (x : Interval). has_member x []) parts found.0 Root none (slice_get-get_or parts found.0 Root found.1 ∙ ap (λ (x : Interval). Some x) found.2) in
    both_ways (has_member Root []) e refl

rooted : (parts : List Interval) (owner : ℕ) → holder parts [] ≡ Some owner → Contains parts Root
rooted parts owner e =
    let p = position-Some (λ (x : Interval). has_member x []) parts owner Root e in
    (owner, p.0, root_alone (get_or parts owner Root) p.1)

pub no_root : (tree : OrderedTree) (parts : List Interval) → All (λ interval. IsTrue (is_in_tree tree interval)) parts → ((index : ℕ) → ¬ Overlaps parts index) → holder parts [] ≡ None → IsNoPartitioning tree parts NoRoot
no_root tree parts all apart none = (none_outside tree parts all, apart, unrooted parts none)

pub partitions : (tree : OrderedTree) (parts : List Interval) (owner : ℕ) → All (λ interval. IsTrue (is_in_tree tree interval)) parts → ((index : ℕ) → ¬ Overlaps parts index) → holder parts [] ≡ Some owner → IsPartitioning tree parts
partitions tree parts owner all apart e = record {
  inside = all;
  disjoint = λ i j d below within share. apart j (
    get_or parts j d,
    i,
    get_or parts i d,
    slice_get-get_or parts j d within,
    below,
    slice_get-get_or parts i d (omega arith),
    (share.0, share.2, share.1),
  );
  rooted = rooted parts owner e;
}

-- the holder is one of the intervals
pub holder_within : (parts : List Interval) (path : List ℕ) (place : ℕ) → holder parts path ≡ Some place → place < length parts
holder_within parts path place e = (position-Some (λ (x : Interval). has_member x path) parts place Root e).0

pub no_holder : (o : Option ℕ) (e d : PartsError) → ◌≡◌ {A = Result ℕ PartsError} (Err e) (ok_or o d) → (o ≡ None) × (e ≡ d)
no_holder None e d h = (refl, cc)
no_holder (Some x) e d h = absurd (cc)

pub with_holder : (o : Option ℕ) (x : ℕ) (d : PartsError) → ◌≡◌ {A = Result ℕ PartsError} (Ok x) (ok_or o d) → o ≡ Some x
with_holder None x d h = absurd (cc)
with_holder (Some y) x d h = cc

-- the same list under another name
pub refused_same : (tree : OrderedTree) (parts others : List Interval) (error : PartsError) → parts ≡ others → IsNoPartitioning tree parts error → IsNoPartitioning tree others error
refused_same tree parts others error e h = subst (λ (x : List Interval). IsNoPartitioning tree x error) e h
