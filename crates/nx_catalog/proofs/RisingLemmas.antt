-- Lists whose keys rise.
use Rattle.std.proofs.Common.{Ordering, ◌≡◌, suc, Bool, true, false, ◌&&◌, T, List, [], ◌∷◌, ◌++◌, refl, sym, subst, arith}
use Rattle.std.specs.List.{AllByRecursion, AllPairs}
use Rattle.std.specs.Ordering.{is_lt}
use Rattle.std.specs.Cmp.{IsTotalOrder}
use Rattle.std.specs.declared.cmp.Ordering.TheVariants.{Less, Equal, Greater}
use Rattle.std.specs.FinMap.{is_sorted}
use Rattle.std.specs.FinMap.Entries.{below_all}
use Rattle.std.proofs.lemmas.List.Elements.{recursion_from_All, All-from_recursion}
use Rattle.std.proofs.lemmas.List.Kept.{AllPairs-cons}

pub is_less : (o : Ordering) → is_lt o ≡ true → o ≡ Less
is_less Less e = refl
is_less Equal e = absurd (cc)
is_less Greater e = absurd (cc)

less : (o : Ordering) → T (is_lt o) → o ≡ Less
less Less e = refl
less Equal e = absurd e
less Greater e = absurd e

both : (a b : Bool) → T a → T b → T (a && b)
both true b p q = q
both false b p q = p

first : (a b : Bool) → T (a && b) → T a
first true b p = tt
first false b p = p

second : (a b : Bool) → T (a && b) → T b
second true b p = p
second false b p = absurd p

module _ {A K : Type 0} (R : K → K → Ordering) (key : A → K) where
  -- the keys rise, the first from behind this one
  abbrev pub Rises : K → List A → Type 0
  Rises last [] = Unit {0}
  Rises last (x ∷ xs) = (R last (key x) ≡ Less) × Rises (key x) xs

  pub pairs_rise : (last : K) (xs : List A) → AllByRecursion (λ x. R last (key x) ≡ Less) xs → AllPairs (λ a b. R (key a) (key b) ≡ Less) xs → Rises last xs
  pairs_rise last [] before pairs = tt
  pairs_rise last (x ∷ xs) before pairs = (
    before.0,
    pairs_rise (key x) xs
        (recursion_from_All (λ y. R (key x) (key y) ≡ Less) xs (λ k d lt. pairs 0 (suc k) d (omega arith) (omega arith)))
        (λ i j d lt within. pairs (suc i) (suc j) d (omega arith) (omega arith)),
  )

  module _ (o : IsTotalOrder R) where
    further : (k m : K) (xs : List A) → R k m ≡ Less → AllByRecursion (λ x. R m (key x) ≡ Less) xs → AllByRecursion (λ x. R k (key x) ≡ Less) xs
    further k m [] lt h = tt
    further k m (x ∷ xs) lt h = (o.trans k m (key x) lt h.0, further k m xs lt h.1)

    pub all_behind : (k : K) (xs : List A) → Rises k xs → AllByRecursion (λ x. R k (key x) ≡ Less) xs
    all_behind k [] h = tt
    all_behind k (x ∷ xs) h = (h.0, further k (key x) xs h.0 (all_behind (key x) xs h.1))

    pub rising_pairs : (last : K) (xs : List A) → Rises last xs → AllPairs (λ a b. R (key a) (key b) ≡ Less) xs
    rising_pairs last [] h = λ i j d lt within. absurd (omega arith)
    rising_pairs last (x ∷ xs) h =
        AllPairs-cons (λ a b. R (key a) (key b) ≡ Less) x xs (All-from_recursion (λ y. R (key x) (key y) ≡ Less) xs (all_behind (key x) xs h.1)) (rising_pairs (key x) xs h.1)

    before_next : (last next : K) (xs : List A) → R last next ≡ Less → AllByRecursion (λ x. R (key x) last ≡ Less) xs → AllByRecursion (λ x. R (key x) next ≡ Less) xs
    before_next last next [] lt h = tt
    before_next last next (x ∷ xs) lt h = (o.trans (key x) last next h.0 lt, before_next last next xs lt h.1)

    one_at_end : (xs : List A) (x : A) (next : K) → R (key x) next ≡ Less → AllByRecursion (λ y. R (key y) next ≡ Less) xs → AllByRecursion (λ y. R (key y) next ≡ Less) (xs ++ x ∷ [])
    one_at_end [] x next lt h = (lt, tt)
    one_at_end (y ∷ xs) x next lt h = (h.0, one_at_end xs x next lt h.1)

    -- each key comes before what comes behind this one
    abbrev pub EndAt : List A → K → Type 0
    EndAt xs last = (next : K) → R last next ≡ Less → AllByRecursion (λ x. R (key x) next ≡ Less) xs

    pub end_more : (xs : List A) (x : A) (last : K) → EndAt xs last → R last (key x) ≡ Less → EndAt (xs ++ x ∷ []) (key x)
    end_more xs x last end behind next lesser = one_at_end xs x next lesser (before_next (key x) next xs lesser (end (key x) behind))

module _ {K X : Type 0} (R : K → K → Ordering) where
  below : (k : K) (es : List (K × X)) → AllByRecursion (λ (e : K × X). R k e.0 ≡ Less) es → T (below_all R k es)
  below k [] h = tt
  below k (e ∷ es) h = both _ _ (subst (λ r. T (is_lt r)) (sym h.0) tt) (below k es h.1)

  -- entries whose keys rise are those of a map
  pub rising_sorted : IsTotalOrder R → (last : K) (es : List (K × X)) → Rises R (λ (e : K × X). e.0) last es → T (is_sorted R es)
  rising_sorted o last [] h = tt
  rising_sorted o last (e ∷ es) h = both _ _ (below e.0 es (all_behind R (λ (e : K × X). e.0) o e.0 es h.1)) (rising_sorted o e.0 es h.1)

  pub sorted_rises : (last : K) (es : List (K × X)) → T (below_all R last es) → T (is_sorted R es) → Rises R (λ (e : K × X). e.0) last es
  sorted_rises last [] b s = tt
  sorted_rises last (e ∷ es) b s = (less (R last e.0) (first _ _ b), sorted_rises e.0 es (first _ _ s) (second _ _ s))

  -- what every entry is behind
  pub below_each : (last : K) (es : List (K × X)) → AllByRecursion (λ (e : K × X). R last e.0 ≡ Less) es → T (below_all R last es)
  below_each = below
