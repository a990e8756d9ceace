-- The trees of a state, and sums over them.
use Rattle.std.proofs.Common.{Ordering, ◌≡◌, ℕ, ◌+◌, Bool, true, false, cond, T, List, [], ◌∷◌, map, refl, sym, ap, subst, ◌∙◌, arith, Option, None, Some, ◌&&◌, Less, Equal, Greater}
use Rattle.std.specs.Option.{option_map, is_some}
use Rattle.std.specs.List.{sum}
use Rattle.std.specs.Ordering.{is_lt, is_eq, eq_by_cmp}
use Rattle.std.specs.Cmp.{eq_by_cmp_equiv}
use Rattle.std.specs.Cmp.Lexicographic.{nat_list_cmp_total}
use Rattle.std.proofs.lemmas.List.Sums.{sum_by-cons}
use Rattle.std.specs.FinMap.{get, contains_key, insert, remove, entries, find, put, is_sorted, entries_sorted, entries-from_sorted, get-from_sorted, get-entries, get-insert, get-remove, get_tied, entries-insert, same_map, slice_cmp-IsAntisymmetric, nat_cmp-IsAntisymmetric}
use Rattle.std.specs.FinMap.Entries.{below_all, by_order}
use Rattle.nx_tree.specs.Forest.{OrderedTree}
use Rattle.nx_cuts.specs.Cut.{CutTree, tree_of}
use Rattle.nx_pyx.specs.DocumentName.{name_order}
use Rattle.nx_engine.specs.Documents.{Documents}
use Rattle.nx_state.specs.State.{State}
use Rattle.nx_steps.specs.Answers.{with_document}
use Rattle.nx_steps.specs.Step.{trees, sum_over}
use Rattle.nx_steps.specs.Laws.{sum_of}

-- a name and a document, without its intervals
abbrev pub bare : List ℕ × CutTree → List ℕ × OrderedTree
bare entry = (entry.0, tree_of entry.1)

below_bare : (name : List ℕ) (es : List (List ℕ × CutTree)) → below_all name_order name (map bare es) ≡ below_all name_order name es
below_bare name [] = refl
below_bare name (e ∷ es) = ap (λ b. is_lt (name_order name e.0) && b) (below_bare name es)

sorted_bare : (es : List (List ℕ × CutTree)) → is_sorted name_order (map bare es) ≡ is_sorted name_order es
sorted_bare [] = refl
sorted_bare (e ∷ es) = ap (λ b. b && is_sorted name_order (map bare es)) (below_bare e.0 es) ∙ ap (λ b. below_all name_order e.0 es && b) (sorted_bare es)

mapped_cond : (b : Bool) (x : CutTree) (o : Option CutTree) → option_map tree_of (cond b (Some x) o) ≡ cond b (Some (tree_of x)) (option_map tree_of o)
mapped_cond true x o = refl
mapped_cond false x o = refl

mapped_none : (b : Bool) (o : Option CutTree) → option_map tree_of (cond b None o) ≡ cond b None (option_map tree_of o)
mapped_none true o = refl
mapped_none false o = refl

find_bare : (name : List ℕ) (es : List (List ℕ × CutTree)) → find name_order name (map bare es) ≡ option_map tree_of (find name_order name es)
find_bare name [] = refl
find_bare name (e ∷ es) =
    ap (cond (eq_by_cmp name_order name e.0) (Some (tree_of e.1))) (find_bare name es) ∙ sym (mapped_cond (eq_by_cmp name_order name e.0) e.1 (find name_order name es))

rising : (state : State) → T (is_sorted name_order (map bare (entries state.documents)))
rising state = subst T (sym (sorted_bare (entries state.documents))) (entries_sorted state.documents)

pub entries-trees : (state : State) → entries (trees state) ≡ map bare (entries state.documents)
entries-trees state = entries-from_sorted name_order (map bare (entries state.documents)) (rising state)

pub get-trees : (state : State) (name : List ℕ) → get (trees state) name ≡ option_map tree_of (get state.documents name)
get-trees state name =
    get-from_sorted name_order (map bare (entries state.documents)) name (rising state) ∙ find_bare name (entries state.documents) ∙ ap (option_map tree_of) (sym (get-entries state.documents name))

mapped_some : (o : Option CutTree) → is_some (option_map tree_of o) ≡ is_some o
mapped_some None = refl
mapped_some (Some x) = refl

pub contains-trees : (state : State) (name : List ℕ) → contains_key (trees state) name ≡ contains_key state.documents name
contains-trees state name = ap is_some (get-trees state name) ∙ mapped_some (get state.documents name)

same_trees : (m n : Documents) → ((name : List ℕ) → get m name ≡ get n name) → m ≡ n
same_trees = same_map nat_list_cmp_total (slice_cmp-IsAntisymmetric nat_cmp-IsAntisymmetric)

-- one document more, or another one of that name
pub trees-with_document : (state : State) (name : List ℕ) (document : CutTree) → trees (with_document state name document) ≡ insert (trees state) name (tree_of document)
trees-with_document state name document =
    same_trees (trees (with_document state name document)) (insert (trees state) name (tree_of document)) (λ q.
    get-trees (with_document state name document) q ∙ ap (option_map tree_of) (get-insert nat_list_cmp_total state.documents name document q)
    ∙ mapped_cond (eq_by_cmp name_order q name) document (get state.documents q)
    ∙ ap (cond (eq_by_cmp name_order q name) (Some (tree_of document))) (sym (get-trees state q)) ∙ sym (get-insert nat_list_cmp_total (trees state) name (tree_of document) q))

-- one document fewer
pub trees-removed : (state : State) (name : List ℕ) → trees (record state { documents = remove state.documents name }) ≡ remove (trees state) name
trees-removed state name =
    same_trees (trees (record state { documents = remove state.documents name })) (remove (trees state) name) (λ q.
    get-trees (record state { documents = remove state.documents name }) q ∙ ap (option_map tree_of) (get-remove nat_list_cmp_total state.documents name q)
    ∙ mapped_none (eq_by_cmp name_order q name) (get state.documents q)
    ∙ ap (cond (eq_by_cmp name_order q name) None) (sym (get-trees state q)) ∙ sym (get-remove nat_list_cmp_total (trees state) name q))

put_again : {X : Type 0} (b : Bool) (x : X) (o : Option X) → cond b (Some x) (cond b None o) ≡ cond b (Some x) o
put_again true x o = refl
put_again false x o = refl

tied : (documents : Documents) (name q : List ℕ) (old : OrderedTree) → get documents name ≡ Some old → (o : Ordering) → name_order q name ≡ o → cond (is_eq o) (Some old) (get documents q) ≡ get documents q
tied documents name q old there Less e = refl
tied documents name q old there Equal e = sym there ∙ get_tied nat_list_cmp_total documents q name e
tied documents name q old there Greater e = refl

-- a document that was taken away is gone, and no other has come
removed_none : (documents : Documents) (name : List ℕ) → get (remove documents name) name ≡ None
removed_none documents name =
    get-remove nat_list_cmp_total documents name name ∙ ap (λ b. cond b None (get documents name)) ((eq_by_cmp_equiv nat_list_cmp_total).refl name)

pub removed_free : (documents : Documents) (name other : List ℕ) → get documents other ≡ None → get (remove documents name) other ≡ None
removed_free documents name other none = get-remove nat_list_cmp_total documents name other ∙ ap (cond (eq_by_cmp name_order other name) None) none ∙ nothing (eq_by_cmp name_order other name)
  where
    nothing : (b : Bool) → cond b None (let o : Option OrderedTree = None in o) ≡ None
    nothing true = refl
    nothing false = refl

-- A sum over trees:

module _ (count : OrderedTree → ℕ) where
  -- over these entries
  abbrev sum_in : List (List ℕ × OrderedTree) → ℕ
  sum_in es = sum (map count (map (λ (e : List ℕ × OrderedTree). e.1) es))

  sum_more : (e : List ℕ × OrderedTree) (es : List (List ℕ × OrderedTree)) → sum_in (e ∷ es) ≡ count e.1 + sum_in es
  sum_more e es = sum_by-cons (λ (n : ℕ). n) (count e.1) (map count (map (λ (x : List ℕ × OrderedTree). x.1) es))

  sum_bare : (es : List (List ℕ × CutTree)) → sum_in (map bare es) ≡ sum (map (λ (document : CutTree). count (tree_of document)) (map (λ (e : List ℕ × CutTree). e.1) es))
  sum_bare [] = refl
  sum_bare (e ∷ es) =
      sum_more (bare e) (map bare es) ∙ ap (λ n. count (tree_of e.1) + n) (sum_bare es)
      ∙ sym (sum_by-cons (λ (n : ℕ). n) (count (tree_of e.1)) (map (λ (document : CutTree). count (tree_of document)) (map (λ (x : List ℕ × CutTree). x.1) es)))

  pub sum-trees : (state : State) → sum_over count (trees state) ≡ sum_of count state
  sum-trees state = ap sum_in (entries-trees state) ∙ sum_bare (entries state.documents)

  sum_put : (name : List ℕ) (tree : OrderedTree) (es : List (List ℕ × OrderedTree)) → find name_order name es ≡ None → sum_in (put name_order name tree es) ≡ sum_in es + count tree
  sum_put name tree [] none = let m = sum_more (name, tree) [] in omega (arith, m)
  sum_put name tree (e ∷ es) none =
      (elim (name_order name e.0) as (λ o. cond (is_eq o) (Some e.1) (find name_order name es) ≡ None
      → sum_in (by_order o ((name, tree) ∷ e ∷ es) ((e.0, tree) ∷ es) (e ∷ put name_order name tree es)) ≡ sum_in (e ∷ es) + count tree) [
        | Less ↦ λ n. let m = sum_more (name, tree) (e ∷ es) in omega (arith, m)
        | Equal ↦ λ n. cc
        | Greater ↦ λ n. let m = sum_more e (put name_order name tree es) in let l = sum_more e es in let r = sum_put name tree es n in omega (arith, m, l, r)
      ]) none

  -- a document under a new name adds what it has
  pub sum-new : (documents : Documents) (name : List ℕ) (tree : OrderedTree) → get documents name ≡ None → sum_over count (insert documents name tree) ≡ sum_over count documents + count tree
  sum-new documents name tree none =
      ap sum_in (entries-insert nat_list_cmp_total documents name tree) ∙ sum_put name tree (entries documents) (sym (get-entries documents name) ∙ none)

  -- a document fewer takes away what it has
  pub sum-fewer : (documents : Documents) (name : List ℕ) (old : OrderedTree) → get documents name ≡ Some old → sum_over count documents ≡ sum_over count (remove documents name) + count old
  sum-fewer documents name old there =
      let rest = remove documents name in
      let back : insert rest name old ≡ documents =
      same_trees (insert rest name old) documents (λ q.
      get-insert nat_list_cmp_total rest name old q ∙ ap (cond (eq_by_cmp name_order q name) (Some old)) (get-remove nat_list_cmp_total documents name q)
      ∙ put_again (eq_by_cmp name_order q name) old (get documents q) ∙ tied documents name q old there (name_order q name) refl) in
      ap (λ (d : Documents). sum_over count d) (sym back) ∙ sum-new rest name old (removed_none documents name)

  -- a tree in place of another
  pub sum-other : (documents : Documents) (name : List ℕ) (old tree : OrderedTree) → get documents name ≡ Some old → sum_over count (insert documents name tree) + count old ≡ sum_over count documents + count tree
  sum-other documents name old tree there =
      let rest = remove documents name in
      let at_once : insert rest name tree ≡ insert documents name tree =
      same_trees (insert rest name tree) (insert documents name tree) (λ q.
      get-insert nat_list_cmp_total rest name tree q ∙ ap (cond (eq_by_cmp name_order q name) (Some tree)) (get-remove nat_list_cmp_total documents name q)
      ∙ put_again (eq_by_cmp name_order q name) tree (get documents q) ∙ sym (get-insert nat_list_cmp_total documents name tree q)) in
      let with_tree : sum_over count (insert documents name tree) ≡ sum_over count rest + count tree =
      ap (λ (d : Documents). sum_over count d) (sym at_once) ∙ sum-new rest name tree (removed_none documents name) in
      let with_old = sum-fewer documents name old there in
      omega (arith, with_tree, with_old)
