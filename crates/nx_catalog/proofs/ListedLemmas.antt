-- Items read one after another, in the order of their keys.
use Rattle.std.proofs.Common.{Ordering, ◌≡◌, ℕ, zero, suc, ◌+◌, ◌-◌, ◌<◌, ◌≤◌, false, cond, List, [], ◌∷◌, ◌++◌, length, Option, Some, None, refl, sym, ap, subst, ◌∙◌, append_assoc, arith}
use Rattle.std.specs.Prelude.{flat_map}
use Rattle.std.specs.List.{AllByRecursion}
use Rattle.std.specs.Ordering.{is_lt}
use Rattle.std.specs.declared.cmp.Ordering.TheVariants.{Less}
use Rattle.std.proofs.lemmas.List.{append-nil}
use Rattle.nx_catalog.specs.Reading.{◌>>=◌, rising_at}
use Rattle.nx_catalog.proofs.FieldLemmas.{IsBytes, Takes, takes_then, bind_some, if_some, some_is}
use Rattle.nx_catalog.proofs.RisingLemmas.{Rises, is_less}

-- what was read before, and what is still read
abbrev pub with_front : {A : Type 0} → List A → Option (List A × List ℕ) → Option (List A × List ℕ)
with_front front read = read >>= λ x. Some (front ++ x.0, x.1)

module _ {A K : Type 0} (read : List ℕ → Option (A × List ℕ)) (R : K → K → Ordering) (key : A → K) where
  abbrev items_at : ℕ → K → List ℕ → Option (List A × List ℕ)
  items_at = rising_at read R key

  module _ (text : A → List ℕ) (P : A → Type 0) where
    -- what was taken: so many items, in order
    pub record TakesItems (count : ℕ) (last : K) (bytes : List ℕ) (items : List A) (rest : List ℕ) : Type 0 where
      pub takes : Takes bytes (flat_map text items) rest
      pub counted : length items ≡ count
      pub each : AllByRecursion P items
      pub rises : Rises R key last items

    pub items_take : ((bytes : List ℕ) (x : A × List ℕ) → IsBytes bytes → read bytes ≡ Some x → Takes bytes (text x.0) x.1 × P x.0)
        → (count : ℕ) (last : K) (bytes : List ℕ) (x : List A × List ℕ) → IsBytes bytes → items_at count last bytes ≡ Some x → TakesItems count last bytes x.0 x.1
    unfolding rising_at
    items_take one zero last bytes x fits e =
        subst (λ (y : List A × List ℕ). TakesItems 0 last bytes y.0 y.1) (some_is ([], bytes) x e) (record { takes = record { parts = refl; rest_fits = fits }; counted = refl; each = tt; rises = tt })
    items_take one (suc count) last bytes x fits e =
        let a = bind_some (read bytes) (λ first. cond (is_lt (R last (key first.0))) (items_at count (key first.0) first.1) None >>= λ others. Some (first.0 ∷ others.0, others.1)) x e in
        let b = bind_some (cond (is_lt (R last (key a.0.0))) (items_at count (key a.0.0) a.0.1) None) (λ others. Some (a.0.0 ∷ others.0, others.1)) x a.2 in
        let g = if_some (is_lt (R last (key a.0.0))) (items_at count (key a.0.0) a.0.1) b.0 b.1 in
        let first = one bytes a.0 fits a.1 in
        let others = items_take one count (key a.0.0) a.0.1 b.0 (first.0).rest_fits g.1 in
        subst (λ (y : List A × List ℕ). TakesItems (suc count) last bytes y.0 y.1) (some_is (a.0.0 ∷ b.0.0, b.0.1) x b.2) (record {
          takes = takes_then (text a.0.0) (flat_map text b.0.0) first.0 others.takes;
          counted = ap suc others.counted;
          each = (first.1, others.each);
          rises = (is_less (R last (key a.0.0)) g.0, others.rises);
        })

    pub items_again : ((item : A) (rest : List ℕ) → P item → read (text item ++ rest) ≡ Some (item, rest))
        → (items : List A) (last : K) (rest : List ℕ) → AllByRecursion P items → Rises R key last items → items_at (length items) last (flat_map text items ++ rest) ≡ Some (items, rest)
    unfolding rising_at
    items_again one [] last rest each rises = refl
    items_again one (item ∷ items) last rest each rises =
        ap (items_at (suc (length items)) last) (append_assoc (text item) (flat_map text items) rest)
        ∙ rw (one item (flat_map text items ++ rest) each.0, rises.0, items_again one items (key item) rest each.1 rises.1) refl

  regroup : (front : List A) (item : A) (more : Option (List A × List ℕ)) → with_front front (more >>= λ x. Some (item ∷ x.0, x.1)) ≡ with_front (front ++ item ∷ []) more
  regroup front item (Some x) = ap (λ (items : List A). Some (items, x.1)) (sym (append_assoc front (item ∷ []) x.0))
  regroup front item None = refl

  -- one item more
  pub goes_on : (front : List A) (count i : ℕ) (last : K) (bytes : List ℕ) (item : A) (after : List ℕ) (total : Option (List A × List ℕ)) → i < count → read bytes ≡ Some (item, after)
      → R last (key item) ≡ Less → with_front front (items_at (count - i) last bytes) ≡ total → with_front (front ++ item ∷ []) (items_at (count - (i + 1)) (key item) after) ≡ total
  unfolding rising_at
  goes_on front count i last bytes item after total lt found behind so_far =
      let k : count - i ≡ suc (count - (i + 1)) = omega arith in
      let one : with_front front (items_at (count - i) last bytes) ≡ with_front (front ++ item ∷ []) (items_at (count - (i + 1)) (key item) after) = rw (k, found, behind) (regroup front item (items_at (count - (i + 1)) (key item) after)) in
      sym one ∙ so_far

  -- no item comes
  pub none_comes : (front : List A) (count i : ℕ) (last : K) (bytes : List ℕ) (total : Option (List A × List ℕ)) → i < count → read bytes ≡ None
      → with_front front (items_at (count - i) last bytes) ≡ total → total ≡ None
  unfolding rising_at
  none_comes front count i last bytes total lt none so_far =
      let k : count - i ≡ suc (count - (i + 1)) = omega arith in
      let one : with_front front (items_at (count - i) last bytes) ≡ None = rw (k, none) refl in
      sym so_far ∙ one

  -- one comes that isn't behind the last one
  pub none_behind : (front : List A) (count i : ℕ) (last : K) (bytes : List ℕ) (item : A) (after : List ℕ) (total : Option (List A × List ℕ)) → i < count → read bytes ≡ Some (item, after)
      → is_lt (R last (key item)) ≡ false → with_front front (items_at (count - i) last bytes) ≡ total → total ≡ None
  unfolding rising_at
  none_behind front count i last bytes item after total lt found not_behind so_far =
      let k : count - i ≡ suc (count - (i + 1)) = omega arith in
      let one : with_front front (items_at (count - i) last bytes) ≡ None = rw (k, found, not_behind) refl in
      sym so_far ∙ one

  -- all have come
  pub all_come : (front : List A) (count i : ℕ) (last : K) (bytes : List ℕ) (total : Option (List A × List ℕ)) → count ≤ i → with_front front (items_at (count - i) last bytes) ≡ total → total ≡ Some (front, bytes)
  unfolding rising_at
  all_come front count i last bytes total le so_far =
      let k : count - i ≡ 0 = omega arith in
      let one : with_front front (items_at (count - i) last bytes) ≡ Some (front, bytes) = rw k (ap (λ (items : List A). Some (items, bytes)) (append-nil front)) in
      sym so_far ∙ one
