-- An entry among others in the order of their names, taken out or replaced.
use Rattle.std.proofs.Common.{◌≡◌, ℕ, cond, List, [], ◌∷◌, ◌++◌, map, None, Some, Ordering, Less, Equal, Greater, is_eq, refl, sym, ap, subst, ◌∙◌}
use Rattle.std.specs.Prelude.{◌&&◌, T, Bool, true, false}
use Rattle.std.specs.Ordering.{is_lt, eq_by_cmp, ordering_reverse}
use Rattle.std.specs.Cmp.{tied_itself}
use Rattle.std.specs.FinMap.{FinMap, find, put, is_sorted, entries, insert, remove, get-entries, entries-insert, get-remove, entries_sorted, same_map, from_sorted, get-from_sorted, entries-from_sorted, slice_cmp-IsAntisymmetric, nat_cmp-IsAntisymmetric}
use Rattle.std.specs.FinMap.Entries.{by_order, below_all}
use Rattle.std.specs.Cmp.Lexicographic.{nat_list_cmp_total}
use Rattle.std.proofs.lemmas.List.{map-append}
use Rattle.nx_pyx.specs.DocumentName.{name_order}
use Rattle.nx_store.proofs.NameLemmas.{map-between}

t_first : (a b : Bool) → T (a && b) → T a
t_first true b p = tt
t_first false b p = p

t_second : (a b : Bool) → T (a && b) → T b
t_second true b p = p
t_second false b p = absurd p

t_both : (a b : Bool) → T a → T b → T (a && b)
t_both true b p q = q
t_both false b p q = p

less_is : (o : Ordering) → T (is_lt o) → o ≡ Less
less_is Less p = refl
less_is Equal p = absurd p
less_is Greater p = absurd p

pub name_same : (x y : List ℕ) → name_order x y ≡ Equal → x ≡ y
name_same x y e = slice_cmp-IsAntisymmetric nat_cmp-IsAntisymmetric x y e

module _ {X : Type 0} where
  below_later : (x : List ℕ) (a : List (List ℕ × X)) (e : List ℕ × X) (b : List (List ℕ × X)) → T (below_all name_order x (a ++ e ∷ b)) → name_order x e.0 ≡ Less
  below_later x [] e b h = less_is (name_order x e.0) (t_first (is_lt (name_order x e.0)) (below_all name_order x b) h)
  below_later x (y ∷ a) e b h = below_later x a e b (t_second (is_lt (name_order x y.0)) (below_all name_order x (a ++ e ∷ b)) h)

  below_less : (x : List ℕ) (a : List (List ℕ × X)) (e : List ℕ × X) (b : List (List ℕ × X)) → T (below_all name_order x (a ++ e ∷ b)) → T (below_all name_order x (a ++ b))
  below_less x [] e b h = t_second (is_lt (name_order x e.0)) (below_all name_order x b) h
  below_less x (y ∷ a) e b h =
      t_both (is_lt (name_order x y.0)) (below_all name_order x (a ++ b)) (t_first (is_lt (name_order x y.0)) (below_all name_order x (a ++ e ∷ b)) h)
      (below_less x a e b (t_second (is_lt (name_order x y.0)) (below_all name_order x (a ++ e ∷ b)) h))

  sorted_less : (a : List (List ℕ × X)) (e : List ℕ × X) (b : List (List ℕ × X)) → T (is_sorted name_order (a ++ e ∷ b)) → T (is_sorted name_order (a ++ b))
  sorted_less [] e b h = t_second (below_all name_order e.0 b) (is_sorted name_order b) h
  sorted_less (y ∷ a) e b h =
      t_both (below_all name_order y.0 (a ++ b)) (is_sorted name_order (a ++ b)) (below_less y.0 a e b (t_first (below_all name_order y.0 (a ++ e ∷ b)) (is_sorted name_order (a ++ e ∷ b)) h))
      (sorted_less a e b (t_second (below_all name_order y.0 (a ++ e ∷ b)) (is_sorted name_order (a ++ e ∷ b)) h))

  put_there : (k : List ℕ) (v w : X) (a b : List (List ℕ × X)) → T (is_sorted name_order (a ++ (k, v) ∷ b)) → put name_order k w (a ++ (k, v) ∷ b) ≡ a ++ (k, w) ∷ b
  put_there k v w [] b h = ap (λ o. by_order o ((k, w) ∷ (k, v) ∷ b) ((k, w) ∷ b) ((k, v) ∷ put name_order k w b)) (tied_itself nat_list_cmp_total k)
  put_there k v w (e ∷ a) b h =
      let less = below_later e.0 a (k, v) b (t_first (below_all name_order e.0 (a ++ (k, v) ∷ b)) (is_sorted name_order (a ++ (k, v) ∷ b)) h) in
      let more : name_order k e.0 ≡ Greater = nat_list_cmp_total.antisymm k e.0 ∙ ap ordering_reverse less in
      ap (λ o. by_order o ((k, w) ∷ e ∷ (a ++ (k, v) ∷ b)) ((e.0, w) ∷ (a ++ (k, v) ∷ b)) (e ∷ put name_order k w (a ++ (k, v) ∷ b))) more
      ∙ ap (λ l. e ∷ l) (put_there k v w a b (t_second (below_all name_order e.0 (a ++ (k, v) ∷ b)) (is_sorted name_order (a ++ (k, v) ∷ b)) h))

  none_below : (q : List ℕ) (b : List (List ℕ × X)) → T (below_all name_order q b) → find name_order q b ≡ None
  none_below q [] h = refl
  none_below q (e ∷ b) h =
      ap (λ o. cond (is_eq o) (Some e.1) (find name_order q b)) (less_is (name_order q e.0) (t_first (is_lt (name_order q e.0)) (below_all name_order q b) h))
      ∙ none_below q b (t_second (is_lt (name_order q e.0)) (below_all name_order q b) h)

  taken_out : (k : List ℕ) (v : X) (a b : List (List ℕ × X)) → T (is_sorted name_order (a ++ (k, v) ∷ b)) → (q : List ℕ)
      → find name_order q (a ++ b) ≡ cond (eq_by_cmp name_order q k) None (find name_order q (a ++ (k, v) ∷ b))
  taken_out k v [] b h q =
      elim (name_order q k) as (λ o. name_order q k ≡ o → find name_order q b ≡ cond (is_eq o) None (cond (is_eq o) (Some v) (find name_order q b))) [
        | Less ↦ λ e. refl
        | Equal ↦ λ e. subst (λ n. find name_order n b ≡ None) (sym (name_same q k e)) (none_below k b (t_first (below_all name_order k b) (is_sorted name_order b) h))
        | Greater ↦ λ e. refl
      ] refl
  taken_out k v (e ∷ a) b h q =
      let rest = taken_out k v a b (t_second (below_all name_order e.0 (a ++ (k, v) ∷ b)) (is_sorted name_order (a ++ (k, v) ∷ b)) h) q in
      let less = below_later e.0 a (k, v) b (t_first (below_all name_order e.0 (a ++ (k, v) ∷ b)) (is_sorted name_order (a ++ (k, v) ∷ b)) h) in
      elim (name_order q e.0) as (λ o. name_order q e.0 ≡ o → cond (is_eq o) (Some e.1) (find name_order q (a ++ b)) ≡ cond (eq_by_cmp name_order q k) None (cond (is_eq o) (Some e.1) (find name_order q (a ++ (k, v) ∷ b)))) [
        | Less ↦ λ s. rest
        | Equal ↦ λ s. ap (λ o. cond (is_eq o) None (Some e.1)) (sym (subst (λ n. name_order n k ≡ Less) (sym (name_same q e.0 s)) less))
        | Greater ↦ λ s. rest
      ] refl

  -- the entries of a map without that of a name
  entries_without : (m : FinMap name_order X) (k : List ℕ) (v : X) (a b : List (List ℕ × X)) → entries m ≡ a ++ (k, v) ∷ b → entries (remove m k) ≡ a ++ b
  entries_without m k v a b are =
      let sorted : T (is_sorted name_order (a ++ (k, v) ∷ b)) = subst (λ es. T (is_sorted name_order es)) are (entries_sorted m) in
      let less = sorted_less a (k, v) b sorted in
      let same : remove m k ≡ from_sorted {R = name_order} (a ++ b) =
      same_map nat_list_cmp_total (slice_cmp-IsAntisymmetric nat_cmp-IsAntisymmetric) (remove m k) (from_sorted {R = name_order} (a ++ b)) (λ q.
      get-remove nat_list_cmp_total m k q ∙ ap (λ o. cond (eq_by_cmp name_order q k) None o) (get-entries m q ∙ ap (find name_order q) are) ∙ sym (taken_out k v a b sorted q) ∙ sym (get-from_sorted name_order (a ++ b) q less)) in
      ap (λ (n : FinMap name_order X). entries n) same ∙ entries-from_sorted name_order (a ++ b) less

  -- ... and with another one of that name
  entries_with : (m : FinMap name_order X) (k : List ℕ) (v w : X) (a b : List (List ℕ × X)) → entries m ≡ a ++ (k, v) ∷ b → entries (insert m k w) ≡ a ++ (k, w) ∷ b
  entries_with m k v w a b are =
      entries-insert nat_list_cmp_total m k w ∙ ap (put name_order k w) are ∙ put_there k v w a b (subst (λ es. T (is_sorted name_order es)) are (entries_sorted m))

-- those of elements without the one of that name
pub removed_between : {S X : Type 0} (name : S → List ℕ) (f : S → X) (m : FinMap name_order X) (before : List S) (s : S) (after : List S) → entries m ≡ map (λ s. (name s, f s)) (before ++ s ∷ after)
    → entries (remove m (name s)) ≡ map (λ s. (name s, f s)) (before ++ after)
removed_between name f m before s after are =
    entries_without m (name s) (f s) (map (λ s. (name s, f s)) before) (map (λ s. (name s, f s)) after) (are ∙ map-between (λ s. (name s, f s)) before s after)
    ∙ sym (map-append (λ s. (name s, f s)) before after)

-- ... and with another one in its place
pub replaced_between : {S X : Type 0} (name : S → List ℕ) (f : S → X) (m : FinMap name_order X) (before : List S) (s t : S) (after : List S) → name t ≡ name s → entries m ≡ map (λ s. (name s, f s)) (before ++ s ∷ after)
    → entries (insert m (name t) (f t)) ≡ map (λ s. (name s, f s)) (before ++ t ∷ after)
replaced_between name f m before s t after same are =
    entries_with m (name t) (f s) (f t) (map (λ s. (name s, f s)) before) (map (λ s. (name s, f s)) after)
    (are ∙ map-between (λ s. (name s, f s)) before s after ∙ ap (λ n. map (λ s. (name s, f s)) before ++ (n, f s) ∷ map (λ s. (name s, f s)) after) (sym same))
    ∙ sym (map-between (λ s. (name s, f s)) before t after)
