-- A map of trees by vectors, against the finite map by bytes that it stands for.
use Rattle.std.proofs.Common.{Ordering, ◌≡◌, ℕ, Bool, true, false, cond, T, List, [], ◌∷◌, refl, sym, ap, subst, ◌∙◌, Option, None, Some, ◌&&◌, ⊎_elim}
use Rattle.std.specs.Prelude.{IfSome, MatchOption, is_some}
use Rattle.std.specs.Borrow.{Bor}
use Rattle.std.specs.Option.{option_copied}
use Rattle.std.specs.Global.{Vec}
use Rattle.std.specs.Ordering.{is_eq, is_lt, eq_by_cmp}
use Rattle.std.specs.declared.cmp.Ordering.TheVariants.{Less}
use Rattle.std.specs.Cmp.{eq_by_cmp_equiv}
use Rattle.std.specs.Cmp.Lexicographic.{nat_list_cmp_total}
use Rattle.std.specs.List.{AllByRecursion}
use Rattle.std.specs.List.Sorted.{IsStrictlySortedBy}
use Rattle.std.specs.Map.{lookup, keys_of, remove_entry, KeepsOthers}
use Rattle.std.specs.BTreeMap.{BTreeMap, UpdatesBy, WritesThrough, get_by, IsOrdered, insert_entry, is_at}
use Rattle.std.specs.FinMap.{get, contains_key, insert, remove, entries, empty, find, is_sorted, from_sorted, entries-from_sorted, get-from_sorted, get-empty, get-insert, get-remove, same_map, slice_cmp-IsAntisymmetric, nat_cmp-IsAntisymmetric}
use Rattle.std.specs.FinMap.Entries.{below_all}
use Rattle.std.proofs.lemmas.Bool.{cases_Bool, cond-true, cond-false}
use Rattle.std.proofs.lemmas.Map.Keys.{sorted_head, sorted_tail}
use Rattle.std.proofs.lemmas.Map.Lookups.{exact_bytes}
use Rattle.std.proofs.lemmas.Map.Views.{tells_apart, IfSome-lookup_from_All, All-values-insert_entry, All-map-remove_entry, All-values-set_value}
use Rattle.nx_tree.specs.Forest.{OrderedTree}
use Rattle.nx_tree.specs.Document.{IsDocument}
use Rattle.nx_pyx.specs.DocumentName.{name_order, vector_order, by_bytes}
use Rattle.nx_engine.specs.Documents.{Documents}
use Rattle.nx_engine.specs.Plain.{documents_in, AreDocuments}

both : (a b : Bool) → T a → T b → T (a && b)
both true b p q = q
both false b p q = p

below_from_all : (name : Vec ℕ) (es : List (Vec ℕ × OrderedTree)) → AllByRecursion (λ y. vector_order name y ≡ Less) (keys_of es) → T (below_all name_order name.items (by_bytes es))
below_from_all name [] h = tt
below_from_all name (e ∷ es) h = both _ _ (subst (λ r. T (is_lt r)) (sym h.0) tt) (below_from_all name es h.1)

-- entries in the order of their vectors are so by their bytes
in_order : (es : List (Vec ℕ × OrderedTree)) → IsStrictlySortedBy vector_order (keys_of es) → T (is_sorted name_order (by_bytes es))
in_order [] h = tt
in_order (e ∷ es) h = both _ _ (below_from_all e.0 es (sorted_head vector_order _ _ h)) (in_order es (sorted_tail vector_order _ _ h))

find_by_bytes : (name : List ℕ) (es : List (Vec ℕ × OrderedTree)) → find name_order name (by_bytes es) ≡ lookup (λ k. is_eq (name_order name k.items)) es
find_by_bytes name [] = refl
find_by_bytes name (e ∷ es) = ap (cond (eq_by_cmp name_order name e.0.items) (Some e.1)) (find_by_bytes name es)

-- the tree under a name
abbrev pub tree_of : List ℕ → BTreeMap (Vec ℕ) OrderedTree → Option OrderedTree
tree_of name trees = get_by (λ k. name_order name k.items) trees

get-documents_in : (m : BTreeMap (Vec ℕ) OrderedTree) (name : List ℕ) → IsOrdered vector_order m → get (documents_in m) name ≡ tree_of name m
get-documents_in m name o = get-from_sorted name_order _ name (in_order m.entries o) ∙ find_by_bytes name m.entries

pub entries-documents_in : (m : BTreeMap (Vec ℕ) OrderedTree) → IsOrdered vector_order m → entries (documents_in m) ≡ by_bytes m.entries
entries-documents_in m o = entries-from_sorted name_order _ (in_order m.entries o)

same_name : (x y : List ℕ) → eq_by_cmp name_order x y ≡ true → x ≡ y
same_name = tells_apart exact_bytes

apart : (name q k : List ℕ) → eq_by_cmp name_order q name ≡ false → eq_by_cmp name_order name k ≡ true → eq_by_cmp name_order q k ≡ false
apart name q k differs is = subst (λ x. eq_by_cmp name_order q x ≡ false) (same_name name k is) differs

-- what a change at one name leaves at each name
updates : (name : List ℕ) (m n : BTreeMap (Vec ℕ) OrderedTree) (w : Option OrderedTree) → UpdatesBy vector_order (λ k. name_order name k.items) m n w →
    (q : List ℕ) → tree_of q n ≡ cond (eq_by_cmp name_order q name) w (tree_of q m)
unfolding KeepsOthers
updates name m n w h q = ⊎_elim
    (λ y. ap (λ x. tree_of x n) (same_name q name y) ∙ h.1 ∙ sym (cond-true _ w (tree_of q m) y))
    (λ f. h.3 (λ k. eq_by_cmp name_order q k.items) (λ x y. (eq_by_cmp_equiv nat_list_cmp_total).congr q x.items y.items) (λ k. apart name q k.items f) ∙ sym (cond-false _ w (tree_of q m) f))
    (cases_Bool (eq_by_cmp name_order q name))

same_documents : (m n : Documents) → ((q : List ℕ) → get m q ≡ get n q) → m ≡ n
same_documents = same_map nat_list_cmp_total (slice_cmp-IsAntisymmetric nat_cmp-IsAntisymmetric)

-- one document more, or another one under a name
inserted : (name : List ℕ) (m n : BTreeMap (Vec ℕ) OrderedTree) (tree : OrderedTree) → IsOrdered vector_order m → IsOrdered vector_order n →
    UpdatesBy vector_order (λ k. name_order name k.items) m n (Some tree) → documents_in n ≡ insert (documents_in m) name tree
inserted name m n tree o p h = same_documents _ _ (λ q. get-documents_in n q p ∙ updates name m n _ h q ∙ ap (cond (eq_by_cmp name_order q name) (Some tree)) (sym (get-documents_in m q o)) ∙ sym (get-insert nat_list_cmp_total _ name tree q))

-- the document under a name taken away, where there is one
removed : (name : List ℕ) (m n : BTreeMap (Vec ℕ) OrderedTree) → IsOrdered vector_order m → IsOrdered vector_order n →
    UpdatesBy vector_order (λ k. name_order name k.items) m n None → documents_in n ≡ remove (documents_in m) name
removed name m n o p h = same_documents _ _ (λ q. get-documents_in n q p ∙ updates name m n _ h q ∙ ap (cond (eq_by_cmp name_order q name) None) (sym (get-documents_in m q o)) ∙ sym (get-remove nat_list_cmp_total _ name q))

-- a name that isn't there, taken away
pub remove_absent : (m : Documents) (name : List ℕ) → get m name ≡ None → remove m name ≡ m
remove_absent m name none = same_documents _ _ (λ q. get-remove nat_list_cmp_total m name q ∙ ⊎_elim
    (λ y. cond-true _ None (get m q) y ∙ sym none ∙ ap (get m) (sym (same_name q name y)))
    (λ f. cond-false _ None (get m q) f)
    (cases_Bool (eq_by_cmp name_order q name)))

-- the document under a name, put there again
pub insert_same : (m : Documents) (name : List ℕ) (tree : OrderedTree) → get m name ≡ Some tree → insert m name tree ≡ m
insert_same m name tree some = same_documents _ _ (λ q. get-insert nat_list_cmp_total m name tree q ∙ ⊎_elim
    (λ y. cond-true _ (Some tree) (get m q) y ∙ sym some ∙ ap (get m) (sym (same_name q name y)))
    (λ f. cond-false _ (Some tree) (get m q) f)
    (cases_Bool (eq_by_cmp name_order q name)))

-- a document put under another name, which is free, before its own is taken away or behind it
pub put_elsewhere : (m : Documents) (old new : List ℕ) (tree found : OrderedTree) → get m old ≡ Some found → contains_key m new ≡ false → remove (insert m new tree) old ≡ insert (remove m old) new tree
put_elsewhere m old new tree found there absent = same_documents _ _ (λ q.
    get-remove nat_list_cmp_total (insert m new tree) old q ∙ ap (cond (eq_by_cmp name_order q old) None) (get-insert nat_list_cmp_total m new tree q)
    ∙ swapped (eq_by_cmp name_order q old) (eq_by_cmp name_order q new) (get m q)
    (λ a b. let both : None ≡ Some found = sym (nothing (get m new) absent) ∙ ap (get m) (sym (same_name q new b) ∙ same_name q old a) ∙ there in absurd (cc))
    ∙ ap (cond (eq_by_cmp name_order q new) (Some tree)) (sym (get-remove nat_list_cmp_total m old q)) ∙ sym (get-insert nat_list_cmp_total (remove m old) new tree q))
  where
    swapped : (a b : Bool) (x : Option OrderedTree) → (a ≡ true → b ≡ true → ⊥) → cond a None (cond b (Some tree) x) ≡ cond b (Some tree) (cond a None x)
    swapped true true x apart = absurd (apart refl refl)
    swapped true false x apart = refl
    swapped false b x apart = refl

    nothing : (o : Option OrderedTree) → is_some o ≡ false → o ≡ None
    nothing None e = refl
    nothing (Some t) e = cc

pub empty_documents : (m : BTreeMap (Vec ℕ) OrderedTree) → m.entries ≡ [] → documents_in m ≡ empty
empty_documents m e = same_documents _ _ (λ q. ap (λ es. get (from_sorted {R = name_order} (by_bytes es)) q) e ∙ get-from_sorted name_order [] q tt ∙ sym (get-empty name_order q))

-- the map stands for these documents
pub record Shows (documents : Documents) (trees : BTreeMap (Vec ℕ) OrderedTree) : Type 0 where
  pub view : documents_in trees ≡ documents
  pub are : AreDocuments trees

-- what a look-up by the same bytes answers
pub get_shown : {documents : Documents} {trees : BTreeMap (Vec ℕ) OrderedTree} {name key : List ℕ} → Shows documents trees → key ≡ name → get documents name ≡ tree_of key trees
get_shown {documents} {trees} {name} {key} s e = ap (get documents) (sym e) ∙ ap (λ d. get d key) (sym s.view) ∙ get-documents_in trees key s.are.ordered

pub match_copied : {X : Type 0} (x : Option X) (r : Option (Bor X)) → x ≡ option_copied r → MatchOption r (x ≡ None) (λ t. x ≡ Some t.now)
match_copied x None e = e
match_copied x (Some t) e = e

-- a document that is found is one
pub found_document : (trees : BTreeMap (Vec ℕ) OrderedTree) (key : List ℕ) (tree : OrderedTree) → AreDocuments trees → tree_of key trees ≡ Some tree → IsDocument tree
found_document trees key tree a e = let h = IfSome-lookup_from_All IsDocument (λ k. is_eq (name_order key k.items)) trees.entries a.documents in subst (λ o. IfSome o IsDocument) e h

pub inserted_documents : (m n : BTreeMap (Vec ℕ) OrderedTree) (key : Vec ℕ) (tree : OrderedTree) → AreDocuments m → IsDocument tree → n.entries ≡ insert_entry vector_order m.entries key tree → IsOrdered vector_order n → AreDocuments n
inserted_documents m n key tree a d e o = record {
  ordered = o;
  documents = rw e (All-values-insert_entry vector_order key tree IsDocument m.entries a.documents d);
}

pub removed_documents : (m n : BTreeMap (Vec ℕ) OrderedTree) (test : Vec ℕ → Bool) → AreDocuments m → n.entries ≡ remove_entry test m.entries → IsOrdered vector_order n → AreDocuments n
removed_documents m n test a e o = record {
  ordered = o;
  documents = rw e (All-map-remove_entry test (λ x. x.1) IsDocument m.entries a.documents);
}

pub written_documents : (m n : BTreeMap (Vec ℕ) OrderedTree) (tree : OrderedTree) (test : Vec ℕ → Ordering) → AreDocuments m → IsDocument tree → WritesThrough vector_order test m tree n → AreDocuments n
written_documents m n tree test a d w = record {
  ordered = w.4;
  documents = rw w.0 (All-values-set_value (is_at test) IsDocument m.entries tree a.documents d);
}

-- a name's tree put in, or another one in its place
pub insert_shown : {documents : Documents} {m : BTreeMap (Vec ℕ) OrderedTree} (n : BTreeMap (Vec ℕ) OrderedTree) (name key : List ℕ) (tree : OrderedTree) → Shows documents m → key ≡ name →
    UpdatesBy vector_order (λ k. name_order key k.items) m n (Some tree) → IsOrdered vector_order n → documents_in n ≡ insert documents name tree
insert_shown {documents} {m} n name key tree s e h o = inserted key m n tree s.are.ordered o h ∙ ap (λ d. insert d key tree) s.view ∙ ap (λ x. insert documents x tree) e

pub remove_shown : {documents : Documents} {m : BTreeMap (Vec ℕ) OrderedTree} (n : BTreeMap (Vec ℕ) OrderedTree) (name key : List ℕ) → Shows documents m → key ≡ name →
    UpdatesBy vector_order (λ k. name_order key k.items) m n None → IsOrdered vector_order n → documents_in n ≡ remove documents name
remove_shown {documents} {m} n name key s e h o = removed key m n s.are.ordered o h ∙ ap (λ d. remove d key) s.view ∙ ap (remove documents) e
