-- The records off a path.
use Rattle.std.proofs.Common.{◌≡◌, ℕ, zero, suc, ◌-◌, ◌<◌, ◌≤◌, nat_lt, if◌then◌else◌, Bool, true, false, List, [], ◌∷◌, ◌++◌, length, inl, inr, refl, sym, subst}
use Rattle.std.specs.Prelude.{Contains}
use Rattle.std.proofs.lemmas.List.Elements.{Contains-append_left, Contains-append_right, Contains-append_cases}
use Rattle.nx_cuts.specs.Cut.{Bare, Grown, Kept, width}
use Rattle.nx_layouts.specs.Layout.{RecordPlace, Layout, proxies_of, places_of}
use Rattle.nx_layouts.specs.Replace.{replaced_at}
use Rattle.nx_layouts.proofs.PlaceLemmas.{no_place, later_among}
use Rattle.nx_edit.specs.Editing.{places_off}
use Rattle.nx_edit.specs.Cutting.{OffInside}
use Rattle.nx_edit.proofs.CutLemmas.{less_is, not_less}

off_kept : (p : RecordPlace) (m s : Layout) (other : RecordPlace) (a b : List RecordPlace) (t : Bool) → (Contains a other → Contains (places_of m) other) → (Contains b other → Contains (places_of s) other)
    → Contains (if t then a ++ places_of s else p ∷ places_of m ++ b) other → Contains (p ∷ places_of m ++ places_of s) other
off_kept p m s other a b true first last h = later_among p (places_of m ++ places_of s) other (elim (Contains-append_cases a (places_of s) other h) [
  | inl one ↦ Contains-append_left (places_of m) (places_of s) other (first one)
  | inr rest ↦ Contains-append_right (places_of m) (places_of s) other rest
])
off_kept p m s other a b false first last h = elim (Contains-append_cases (p ∷ places_of m) b other h) [
  | inl one ↦ Contains-append_left (p ∷ places_of m) (places_of s) other one
  | inr rest ↦ Contains-append_right (p ∷ places_of m) (places_of s) other (last rest)
]

-- a place off a path is one of the row's
pub off_among : (stays : Bool) (path : List ℕ) (row : Layout) (other : RecordPlace) → Contains (places_off stays path row) other → Contains (places_of row) other
off_among stays path Bare other h = h
off_among true [] (Grown n b s) other h = h
off_among false [] (Grown n b s) other h = absurd (no_place other h)
off_among stays (zero ∷ path) (Grown n b s) other h = elim (Contains-append_cases (places_off stays path b) (places_of s) other h) [
  | inl one ↦ Contains-append_left (places_of b) (places_of s) other (off_among stays path b other one)
  | inr rest ↦ Contains-append_right (places_of b) (places_of s) other rest
]
off_among stays (suc position ∷ path) (Grown n b s) other h = elim (Contains-append_cases (places_of b) (places_off stays (position ∷ path) s) other h) [
  | inl one ↦ Contains-append_left (places_of b) (places_of s) other one
  | inr rest ↦ Contains-append_right (places_of b) (places_of s) other (off_among stays (position ∷ path) s other rest)
]
off_among true [] (Kept p m s) other h = h
off_among false [] (Kept p m s) other h = absurd (no_place other h)
off_among stays (position ∷ path) (Kept p m s) other h = off_kept p m s other (places_off stays (position ∷ path) m) (places_off stays ((position - width m) ∷ path) s) (nat_lt position (width m)) (off_among stays (position ∷ path) m other) (off_among stays ((position - width m) ∷ path) s other) h

chosen_below : (index k : ℕ) (x y : Layout) → index < k → (if nat_lt index k then x else y) ≡ x
chosen_below index k x y less = subst (λ (t : Bool). (if t then x else y) ≡ x) (sym (less_is index k less)) refl

chosen_beside : (index k : ℕ) (x y : Layout) → k ≤ index → (if nat_lt index k then x else y) ≡ y
chosen_beside index k x y most = subst (λ (t : Bool). (if t then x else y) ≡ y) (sym (not_less index k most)) refl

pub off_inside : OffInside
off_inside stays index member rest inside position path Bare h other among = absurd h
off_inside stays index member rest inside zero [] (Grown n b s) h other among = absurd h
off_inside stays index member rest inside zero (q ∷ path) (Grown n b s) h other among =
    let row_is : replaced_at index Bare (Grown n b s) ≡ Grown n (replaced_at index Bare b) s =
    chosen_below index (length (proxies_of b)) (Grown n (replaced_at index Bare b) s) (Grown n b (replaced_at (index - length (proxies_of b)) Bare s)) h.0 in
    elim (Contains-append_cases (places_off stays (q ∷ path) b) (places_of s) other among) [
      | inl below ↦ elim (off_inside stays index member rest inside q path b h.1 other below) [
        | inl inner ↦ inl inner
        | inr left ↦ inr (subst (λ (l : Layout). Contains (places_of l) other) (sym row_is) (Contains-append_left (places_of (replaced_at index Bare b)) (places_of s) other left))
      ]
      | inr beside ↦ inr (subst (λ (l : Layout). Contains (places_of l) other) (sym row_is) (Contains-append_right (places_of (replaced_at index Bare b)) (places_of s) other beside))
    ]
off_inside stays index member rest inside (suc position) path (Grown n b s) h other among =
    let later : Layout = replaced_at (index - length (proxies_of b)) Bare s in
    let row_is : replaced_at index Bare (Grown n b s) ≡ Grown n b later = chosen_beside index (length (proxies_of b)) (Grown n (replaced_at index Bare b) s) (Grown n b later) h.0 in
    elim (Contains-append_cases (places_of b) (places_off stays (position ∷ path) s) other among) [
      | inl below ↦ inr (subst (λ (l : Layout). Contains (places_of l) other) (sym row_is) (Contains-append_left (places_of b) (places_of later) other below))
      | inr beside ↦ elim (off_inside stays (index - length (proxies_of b)) member rest inside position path s h.1 other beside) [
        | inl inner ↦ inl inner
        | inr left ↦ inr (subst (λ (l : Layout). Contains (places_of l) other) (sym row_is) (Contains-append_right (places_of b) (places_of later) other left))
      ]
    ]
off_inside stays zero member rest inside position path (Kept p m s) h other among =
    let off : Contains (places_off stays (position ∷ path) m ++ places_of s) other =
    subst (λ (t : Bool). Contains (if t then places_off stays (position ∷ path) m ++ places_of s else p ∷ places_of m ++ places_off stays ((position - width m) ∷ path) s) other) (less_is position (width m) h.0) among in
    elim (Contains-append_cases (places_off stays (position ∷ path) m) (places_of s) other off) [
      | inl inner ↦ inl (subst (λ (ps : List RecordPlace). Contains ps other) (sym (here h.1 h.2 h.3)) inner)
      | inr beside ↦ inr beside
    ]
  where
    here : member ≡ position → rest ≡ path → inside ≡ m → places_off stays (member ∷ rest) inside ≡ places_off stays (position ∷ path) m
    here a b c = cc
off_inside stays (suc index) member rest inside position path (Kept p m s) h other among =
    let off : Contains ((p ∷ places_of m) ++ places_off stays ((position - width m) ∷ path) s) other =
    subst (λ (t : Bool). Contains (if t then places_off stays (position ∷ path) m ++ places_of s else p ∷ places_of m ++ places_off stays ((position - width m) ∷ path) s) other) (not_less position (width m) h.0) among in
    elim (Contains-append_cases (p ∷ places_of m) (places_off stays ((position - width m) ∷ path) s) other off) [
      | inl before ↦ inr (Contains-append_left (p ∷ places_of m) (places_of (replaced_at index Bare s)) other before)
      | inr beside ↦ elim (off_inside stays index member rest inside (position - width m) path s h.1 other beside) [
        | inl inner ↦ inl inner
        | inr left ↦ inr (Contains-append_right (p ∷ places_of m) (places_of (replaced_at index Bare s)) other left)
      ]
    ]
