-- A tree of vectors, against the finite map by names that it stands for.
use Rattle.std.proofs.Common.{◌≡◌, ℕ, Bool, true, false, cond, T, List, [], ◌∷◌, refl, sym, ap, subst, ◌∙◌, Option, None, Some, ◌&&◌, ⊎_elim}
use Rattle.std.specs.Global.{Vec}
use Rattle.std.specs.Ordering.{is_eq, is_lt, eq_by_cmp}
use Rattle.std.specs.declared.cmp.Ordering.TheVariants.{Less}
use Rattle.std.specs.Cmp.{eq_by_cmp_equiv}
use Rattle.std.specs.Cmp.Lexicographic.{nat_list_cmp_total}
use Rattle.std.specs.List.{AllByRecursion}
use Rattle.std.specs.List.Sorted.{IsStrictlySortedBy}
use Rattle.std.specs.Map.{lookup, keys_of, KeepsOthers}
use Rattle.std.specs.BTreeMap.{BTreeMap, UpdatesBy, get_by, IsOrdered}
use Rattle.std.specs.FinMap.{FinMap, get, insert, remove, entries, empty, find, is_sorted, from_sorted, entries-from_sorted, get-from_sorted, get-empty, get-insert, get-remove, same_map, slice_cmp-IsAntisymmetric, nat_cmp-IsAntisymmetric}
use Rattle.std.specs.FinMap.Entries.{below_all}
use Rattle.std.proofs.lemmas.Bool.{cases_Bool, cond-true, cond-false}
use Rattle.std.proofs.lemmas.Map.Keys.{sorted_head, sorted_tail}
use Rattle.std.proofs.lemmas.Map.Lookups.{exact_bytes}
use Rattle.std.proofs.lemmas.Map.Views.{tells_apart}
use Rattle.nx_pyx.specs.DocumentName.{name_order, vector_order, by_bytes}
use Rattle.nx_catalog.specs.NameMap.{map_in}

both : (a b : Bool) → T a → T b → T (a && b)
both true b p q = q
both false b p q = p

pub same_name : (x y : List ℕ) → eq_by_cmp name_order x y ≡ true → x ≡ y
same_name = tells_apart exact_bytes

apart : (name q k : List ℕ) → eq_by_cmp name_order q name ≡ false → eq_by_cmp name_order name k ≡ true → eq_by_cmp name_order q k ≡ false
apart name q k differs is = subst (λ x. eq_by_cmp name_order q x ≡ false) (same_name name k is) differs

module _ {X : Type 0} where
  below_from_all : (name : Vec ℕ) (es : List (Vec ℕ × X)) → AllByRecursion (λ y. vector_order name y ≡ Less) (keys_of es) → T (below_all name_order name.items (by_bytes es))
  below_from_all name [] h = tt
  below_from_all name (e ∷ es) h = both _ _ (subst (λ r. T (is_lt r)) (sym h.0) tt) (below_from_all name es h.1)

  -- entries in the order of their vectors are so by their bytes
  pub in_order : (es : List (Vec ℕ × X)) → IsStrictlySortedBy vector_order (keys_of es) → T (is_sorted name_order (by_bytes es))
  in_order [] h = tt
  in_order (e ∷ es) h = both _ _ (below_from_all e.0 es (sorted_head vector_order _ _ h)) (in_order es (sorted_tail vector_order _ _ h))

  find_by_bytes : (name : List ℕ) (es : List (Vec ℕ × X)) → find name_order name (by_bytes es) ≡ lookup (λ k. is_eq (name_order name k.items)) es
  find_by_bytes name [] = refl
  find_by_bytes name (e ∷ es) = ap (cond (eq_by_cmp name_order name e.0.items) (Some e.1)) (find_by_bytes name es)

  -- what the tree has under a name
  abbrev pub value_of : List ℕ → BTreeMap (Vec ℕ) X → Option X
  value_of name m = get_by (λ k. name_order name k.items) m

  pub get-map_in : (m : BTreeMap (Vec ℕ) X) (name : List ℕ) → IsOrdered vector_order m → get (map_in m) name ≡ value_of name m
  get-map_in m name o = get-from_sorted name_order _ name (in_order m.entries o) ∙ find_by_bytes name m.entries

  pub entries-map_in : (m : BTreeMap (Vec ℕ) X) → IsOrdered vector_order m → entries (map_in m) ≡ by_bytes m.entries
  entries-map_in m o = entries-from_sorted name_order _ (in_order m.entries o)

  -- what a change at one name leaves at each name
  pub updates : (name : List ℕ) (m n : BTreeMap (Vec ℕ) X) (w : Option X) → UpdatesBy vector_order (λ k. name_order name k.items) m n w →
      (q : List ℕ) → value_of q n ≡ cond (eq_by_cmp name_order q name) w (value_of q m)
  unfolding KeepsOthers
  updates name m n w h q = ⊎_elim
      (λ y. ap (λ x. value_of x n) (same_name q name y) ∙ h.1 ∙ sym (cond-true _ w (value_of q m) y))
      (λ f. h.3 (λ k. eq_by_cmp name_order q k.items) (λ x y. (eq_by_cmp_equiv nat_list_cmp_total).congr q x.items y.items) (λ k. apart name q k.items f) ∙ sym (cond-false _ w (value_of q m) f))
      (cases_Bool (eq_by_cmp name_order q name))

  pub one_map : (m n : FinMap name_order X) → ((q : List ℕ) → get m q ≡ get n q) → m ≡ n
  one_map = same_map nat_list_cmp_total (slice_cmp-IsAntisymmetric nat_cmp-IsAntisymmetric)

  pub map_in-empty : (m : BTreeMap (Vec ℕ) X) → m.entries ≡ [] → map_in m ≡ empty
  map_in-empty m e = one_map _ _ (λ q. ap (λ es. get (from_sorted {R = name_order} (by_bytes es)) q) e ∙ get-from_sorted name_order [] q tt ∙ sym (get-empty name_order q))

  -- one name more, or another value under a name
  pub map_in-insert : (name : List ℕ) (m n : BTreeMap (Vec ℕ) X) (value : X) → IsOrdered vector_order m → IsOrdered vector_order n →
      UpdatesBy vector_order (λ k. name_order name k.items) m n (Some value) → map_in n ≡ insert (map_in m) name value
  map_in-insert name m n value o p h = one_map _ _ (λ q. get-map_in n q p ∙ updates name m n _ h q ∙ ap (cond (eq_by_cmp name_order q name) (Some value)) (sym (get-map_in m q o)) ∙ sym (get-insert nat_list_cmp_total _ name value q))

  -- what is under a name taken away, where there is something
  pub map_in-remove : (name : List ℕ) (m n : BTreeMap (Vec ℕ) X) → IsOrdered vector_order m → IsOrdered vector_order n →
      UpdatesBy vector_order (λ k. name_order name k.items) m n None → map_in n ≡ remove (map_in m) name
  map_in-remove name m n o p h = one_map _ _ (λ q. get-map_in n q p ∙ updates name m n _ h q ∙ ap (cond (eq_by_cmp name_order q name) None) (sym (get-map_in m q o)) ∙ sym (get-remove nat_list_cmp_total _ name q))
