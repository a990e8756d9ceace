-- Where an entry with a new name comes among others.
use Rattle.std.proofs.Common.{◌≡◌, ℕ, cond, List, [], ◌∷◌, ◌++◌, map, Option, None, Some, Ordering, Less, Equal, Greater, is_eq, refl, sym, ap, subst, ◌∙◌}
use Rattle.std.specs.Ordering.{eq_by_cmp}
use Rattle.std.specs.FinMap.{FinMap, find, put, entries, get, insert, remove, get-entries, entries-insert, get-insert, get-remove, same_map, slice_cmp-IsAntisymmetric, nat_cmp-IsAntisymmetric}
use Rattle.std.specs.FinMap.Entries.{by_order}
use Rattle.std.specs.Cmp.Lexicographic.{nat_list_cmp_total}
use Rattle.nx_pyx.specs.DocumentName.{name_order}

some_none : {X : Type 0} (x : X) → ◌≡◌ {A = Option X} (Some x) None → ⊥
some_none x is = absurd (cc)

module _ {K S : Type 0} (R : K → K → Ordering) (name : S → K) (k : K) where
  -- those that come before the name
  abbrev pub front : List S → List S
  front [] = []
  front (s ∷ rest) = by_order (R k (name s)) [] [] (s ∷ front rest)

  -- and those that come behind it
  abbrev pub behind : List S → List S
  behind [] = []
  behind (s ∷ rest) = by_order (R k (name s)) (s ∷ rest) (s ∷ rest) (behind rest)

  pub front-behind : (all : List S) → front all ++ behind all ≡ all
  front-behind [] = refl
  front-behind (s ∷ rest) = elim (R k (name s)) as (λ o. by_order o [] [] (s ∷ front rest) ++ by_order o (s ∷ rest) (s ∷ rest) (behind rest) ≡ s ∷ rest) [
    | Less ↦ refl
    | Equal ↦ refl
    | Greater ↦ ap (λ l. s ∷ l) (front-behind rest)
  ]

  pub put_between : {X : Type 0} (f : S → X) (v : X) (all : List S) → find R k (map (λ s. (name s, f s)) all) ≡ None
      → put R k v (map (λ s. (name s, f s)) all) ≡ map (λ s. (name s, f s)) (front all) ++ (k, v) ∷ map (λ s. (name s, f s)) (behind all)
  put_between f v [] none = refl
  put_between f v (s ∷ rest) none =
      elim (R k (name s)) as (λ o. cond (is_eq o) (Some (f s)) (find R k (map (λ s. (name s, f s)) rest)) ≡ None
      → by_order o ((k, v) ∷ (name s, f s) ∷ map (λ s. (name s, f s)) rest) ((name s, v) ∷ map (λ s. (name s, f s)) rest) ((name s, f s) ∷ put R k v (map (λ s. (name s, f s)) rest))
      ≡ map (λ s. (name s, f s)) (by_order o [] [] (s ∷ front rest)) ++ (k, v) ∷ map (λ s. (name s, f s)) (by_order o (s ∷ rest) (s ∷ rest) (behind rest))) [
        | Less ↦ λ n. refl
        | Equal ↦ λ n. absurd (some_none (f s) n)
        | Greater ↦ λ n. ap (λ l. (name s, f s) ∷ l) (put_between f v rest n)
      ] none

  pub none_either : {X Y : Type 0} (f : S → X) (g : S → Y) (all : List S) → find R k (map (λ s. (name s, f s)) all) ≡ None → find R k (map (λ s. (name s, g s)) all) ≡ None
  none_either f g [] none = refl
  none_either f g (s ∷ rest) none =
      elim (R k (name s)) as (λ o. cond (is_eq o) (Some (f s)) (find R k (map (λ s. (name s, f s)) rest)) ≡ None → cond (is_eq o) (Some (g s)) (find R k (map (λ s. (name s, g s)) rest)) ≡ None) [
        | Less ↦ λ n. none_either f g rest n
        | Equal ↦ λ n. absurd (some_none (f s) n)
        | Greater ↦ λ n. none_either f g rest n
      ] none

pub map-between : {S X : Type 0} (f : S → X) (before : List S) (s : S) (after : List S) → map f (before ++ s ∷ after) ≡ map f before ++ f s ∷ map f after
map-between f [] s after = refl
map-between f (b ∷ before) s after = ap (λ l. f b ∷ l) (map-between f before s after)

module _ {S X : Type 0} (name : S → List ℕ) (f : S → X) (m : FinMap name_order X) (all : List S) (are : entries m ≡ map (λ s. (name s, f s)) all) (k : List ℕ) where
  pub none_listed : get m k ≡ None → find name_order k (map (λ s. (name s, f s)) all) ≡ None
  none_listed none = ap (find name_order k) (sym are) ∙ sym (get-entries m k) ∙ none

  -- an element of that name comes between them
  pub inserted_between : (s : S) → name s ≡ k → find name_order k (map (λ s. (name s, f s)) all) ≡ None
      → entries (insert m k (f s)) ≡ map (λ s. (name s, f s)) (front name_order name k all ++ s ∷ behind name_order name k all)
  inserted_between s is none =
      entries-insert nat_list_cmp_total m k (f s) ∙ ap (put name_order k (f s)) are ∙ put_between name_order name k f (f s) all none
      ∙ ap (λ (n : List ℕ). map (λ s. (name s, f s)) (front name_order name k all) ++ (n, f s) ∷ map (λ s. (name s, f s)) (behind name_order name k all)) (sym is)
      ∙ sym (map-between (λ s. (name s, f s)) (front name_order name k all) s (behind name_order name k all))

-- an entry under a new name, taken out again
pub taken_back : {X : Type 0} (m : FinMap name_order X) (name : List ℕ) (v : X) → get m name ≡ None → remove (insert m name v) name ≡ m
taken_back {X = X} m name v none =
    same_map nat_list_cmp_total (slice_cmp-IsAntisymmetric nat_cmp-IsAntisymmetric) (remove (insert m name v) name) m
    (λ q. get-remove nat_list_cmp_total (insert m name v) name q ∙ ap (cond (eq_by_cmp name_order q name) None) (get-insert nat_list_cmp_total m name v q) ∙ left q)
  where
    left : (q : List ℕ) → cond (eq_by_cmp name_order q name) None (cond (eq_by_cmp name_order q name) (Some v) (get m q)) ≡ get m q
    left q = elim (name_order q name) as (λ o. name_order q name ≡ o → cond (is_eq o) None (cond (is_eq o) (Some v) (get m q)) ≡ get m q) [
      | Less ↦ λ e. refl
      | Equal ↦ λ e. sym (subst (λ x. get m x ≡ None) (sym (slice_cmp-IsAntisymmetric nat_cmp-IsAntisymmetric q name e)) none)
      | Greater ↦ λ e. refl
    ] refl
