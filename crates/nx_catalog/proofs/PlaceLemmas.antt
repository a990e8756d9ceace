-- Where the entries of documents stand in the bytes of a catalog.
use Rattle.std.proofs.Common.{◌≡◌, ◌⊎◌, ℕ, ◌+◌, ◌*◌, ◌<◌, ◌≤◌, Bool, true, false, cond, List, [], ◌∷◌, ◌++◌, map, length, Option, Some, None, Ordering, Less, Equal, Greater, is_eq, refl, sym, ap, ap₂, subst, ◌∙◌, arith, length-append, inl, inr}
use Rattle.std.specs.Prelude.{◌&&◌, T, All, IfSome, flat_map, is_some}
use Rattle.std.specs.Global.{Vec}
use Rattle.std.specs.Map.{set_value, lookup}
use Rattle.std.specs.Iterator.{Yields}
use Rattle.std.specs.Map.Iter.{TakesFirst, deref_pair}
use Rattle.std.specs.BTreeMap.{BTreeMap, UpdatesBy, get_by}
use Rattle.std.specs.Ordering.{is_lt, eq_by_cmp, ordering_reverse}
use Rattle.std.specs.Cmp.{tied_itself}
use Rattle.std.specs.Cmp.Lexicographic.{nat_list_cmp_total}
use Rattle.std.specs.FinMap.{find, put, is_sorted, entries, insert, contains_key, get-entries, entries-insert, entries_sorted}
use Rattle.std.specs.FinMap.Entries.{by_order, below_all}
use Rattle.std.proofs.lemmas.Bool.{cases_Bool, cond-true, cond-false}
use Rattle.std.proofs.lemmas.List.{append_assoc, append-nil, map-append, length-map}
use Rattle.std.proofs.lemmas.Map.Iter.{rest_so_far, rest_more}
use Rattle.std.proofs.lemmas.Map.Views.{All-turn}
use Rattle.std.proofs.lemmas.List.Elements.{recursion_from_All}
use Rattle.nx_pyx.specs.DocumentName.{name_order, vector_order, by_bytes}
use Rattle.nx_piece.specs.Encoding.{four_bytes}
use Rattle.nx_hold.specs.declared.entry.DocEntry.{DocEntry}
use Rattle.nx_matrix.specs.declared.rule.Rule.{Rule}
use Rattle.nx_matrix.specs.Rules.{AreRules}
use Rattle.nx_holdings.specs.Holdings.{Held}
use Rattle.nx_records.specs.Changes.{SetsCatalog}
use Rattle.nx_records.specs.Within.{patched, PatchesCatalog}
use Rattle.nx_records.proofs.PatchedLemmas.{patched_between}
use Rattle.nx_catalog.specs.Catalog.{Entries, Contents, Document, CanBeKept, with_length, place_bytes, document_bytes, rule_bytes, listed_bytes, catalog_bytes}
use Rattle.nx_catalog.specs.Inside.{AreDocumentEntries, names_of, IsPlaceOf, HavePlaces, ArePlaces}
use Rattle.nx_catalog.specs.Saving.{SavesEntry}
use Rattle.nx_catalog.proofs.InsideLemmas.{Kept, each_kept, spelled}
use Rattle.nx_catalog.proofs.NameLemmas.{name_short}
use Rattle.nx_catalog.proofs.NameMap.{same_name, updates}
use Rattle.nx_catalog.proofs.LengthLemmas.{document_length, documents_most}
use Rattle.nx_catalog.proofs.WritingLemmas.{Entry, entries_bytes}

-- ---- lists

flat-append : {A : Type 0} (f : A → List ℕ) (xs ys : List A) → flat_map f (xs ++ ys) ≡ flat_map f xs ++ flat_map f ys
flat-append f [] ys = refl
flat-append f (x ∷ xs) ys = ap (λ (r : List ℕ). f x ++ r) (flat-append f xs ys) ∙ sym (append_assoc (f x) (flat_map f xs) (flat_map f ys))

-- ---- another entry under a name that is there

t_first : (a b : Bool) → T (a && b) → T a
t_first true b p = tt
t_first false b p = p

t_second : (a b : Bool) → T (a && b) → T b
t_second true b p = p
t_second false b p = absurd p

less_is : (o : Ordering) → T (is_lt o) → o ≡ Less
less_is Less p = refl
less_is Equal p = absurd p
less_is Greater p = absurd p

below_later : (x : List ℕ) (a : List Document) (e : Document) (b : List Document) → T (below_all name_order x (a ++ e ∷ b)) → name_order x e.0 ≡ Less
below_later x [] e b h = less_is (name_order x e.0) (t_first (is_lt (name_order x e.0)) (below_all name_order x b) h)
below_later x (y ∷ a) e b h = below_later x a e b (t_second (is_lt (name_order x y.0)) (below_all name_order x (a ++ e ∷ b)) h)

put_there : (k : List ℕ) (v w : DocEntry) (a b : List Document) → T (is_sorted name_order (a ++ (k, v) ∷ b)) → put name_order k w (a ++ (k, v) ∷ b) ≡ a ++ (k, w) ∷ b
put_there k v w [] b h = ap (λ o. by_order o ((k, w) ∷ (k, v) ∷ b) ((k, w) ∷ b) ((k, v) ∷ put name_order k w b)) (tied_itself nat_list_cmp_total k)
put_there k v w (e ∷ a) b h =
    let less = below_later e.0 a (k, v) b (t_first (below_all name_order e.0 (a ++ (k, v) ∷ b)) (is_sorted name_order (a ++ (k, v) ∷ b)) h) in
    let more : name_order k e.0 ≡ Greater = nat_list_cmp_total.antisymm k e.0 ∙ ap ordering_reverse less in
    ap (λ o. by_order o ((k, w) ∷ e ∷ (a ++ (k, v) ∷ b)) ((e.0, w) ∷ (a ++ (k, v) ∷ b)) (e ∷ put name_order k w (a ++ (k, v) ∷ b))) more
    ∙ ap (λ (l : List Document). e ∷ l) (put_there k v w a b (t_second (below_all name_order e.0 (a ++ (k, v) ∷ b)) (is_sorted name_order (a ++ (k, v) ∷ b)) h))

entries_with : (m : Entries) (k : List ℕ) (v w : DocEntry) (a b : List Document) → entries m ≡ a ++ (k, v) ∷ b → entries (insert m k w) ≡ a ++ (k, w) ∷ b
entries_with m k v w a b are =
    entries-insert nat_list_cmp_total m k w ∙ ap (put name_order k w) are ∙ put_there k v w a b (subst (λ es. T (is_sorted name_order es)) are (entries_sorted m))

-- ---- the bytes of a catalog around an entry

pub entry_length : (entry : DocEntry) → length (place_bytes entry) ≡ 10
entry_length entry = grind (arith, length-append)

module _ (documents : Entries) (rules : List Rule) (name : List ℕ) (at : ℕ) (place : IsPlaceOf (entries documents) name at) where
  -- what stands before it, and behind it
  abbrev front : List ℕ
  front = four_bytes (length (entries documents)) ++ (flat_map document_bytes place.before ++ with_length name)

  abbrev behind : List ℕ
  behind = flat_map document_bytes place.after ++ (four_bytes (length rules) ++ flat_map rule_bytes rules)

  front_length : length front ≡ at
  front_length =
      let whole = length-append (four_bytes (length (entries documents))) (flat_map document_bytes place.before ++ with_length name) in
      let both = length-append (flat_map document_bytes place.before) (with_length name) in
      let counted = name_length name in
      let number = number_length (length (entries documents)) in
      let here = place.here in
      omega (arith, whole, both, counted, number, here)
    where
      number_length : (n : ℕ) → length (four_bytes n) ≡ 4
      number_length n = grind (arith)

      name_length : (name : List ℕ) → length (with_length name) ≡ 2 + length name
      name_length name = grind (arith, length-append)

  around : (entry : DocEntry) (all : List Document) → length all ≡ length (entries documents) → all ≡ place.before ++ (name, entry) ∷ place.after → listed_bytes all rules ≡ front ++ (place_bytes entry ++ behind)
  around entry all count are =
      let b : List ℕ = flat_map document_bytes place.before in
      let n : List ℕ = with_length name in
      let e : List ℕ = place_bytes entry in
      let a : List ℕ = flat_map document_bytes place.after in
      let r : List ℕ = four_bytes (length rules) ++ flat_map rule_bytes rules in
      let f : List ℕ = four_bytes (length (entries documents)) in
      let flat : flat_map document_bytes all ≡ (b ++ n) ++ (e ++ a) =
      ap (λ (ds : List Document). flat_map document_bytes ds) are ∙ flat-append document_bytes place.before ((name, entry) ∷ place.after)
      ∙ ap (λ (x : List ℕ). b ++ x) (append_assoc n e a) ∙ sym (append_assoc b n (e ++ a)) in
      ap₂ (λ (c : ℕ) (x : List ℕ). four_bytes c ++ x ++ r) count flat
      ∙ ap (λ (x : List ℕ). x ++ r) (sym (append_assoc f (b ++ n) (e ++ a))) ∙ append_assoc (f ++ (b ++ n)) (e ++ a) r
      ∙ ap (λ (x : List ℕ). (f ++ (b ++ n)) ++ x) (append_assoc e a r)

  -- the old one and a new one
  pub entry_bytes_old : catalog_bytes (record { documents = documents; rules = rules }) ≡ front ++ (place_bytes place.entry ++ behind)
  entry_bytes_old = spelled (record { documents = documents; rules = rules }) ∙ around place.entry (entries documents) refl place.are

  pub entry_bytes_new : (entry : DocEntry) → catalog_bytes (record { documents = insert documents name entry; rules = rules }) ≡ front ++ (place_bytes entry ++ behind)
  entry_bytes_new entry =
      let are = entries_with documents name place.entry entry place.before place.after place.are in
      let new = ap (λ (ds : List Document). length ds) are ∙ length-append place.before ((name, entry) ∷ place.after) in
      let old = ap (λ (ds : List Document). length ds) place.are ∙ length-append place.before ((name, place.entry) ∷ place.after) in
      spelled (record { documents = insert documents name entry; rules = rules }) ∙ around entry (entries (insert documents name entry)) (omega (arith, new, old)) are

  pub entry_patched : (entry : DocEntry) → patched at (place_bytes entry) (catalog_bytes (record { documents = documents; rules = rules })) ≡ catalog_bytes (record { documents = insert documents name entry; rules = rules })
  entry_patched entry =
      ap₂ (λ (n : ℕ) (b : List ℕ). patched n (place_bytes entry) b) (sym front_length) entry_bytes_old
      ∙ patched_between front (place_bytes place.entry) (place_bytes entry) behind (entry_length entry ∙ sym (entry_length place.entry))
      ∙ sym (entry_bytes_new entry)

  -- what the records' catalog is then
  pub entry_saved : (entry : DocEntry) (was now : Held) → PatchesCatalog at (place_bytes entry) was now → SavesEntry (record { documents = documents; rules = rules }) (record { documents = insert documents name entry; rules = rules }) was now
  entry_saved entry was now patches = record {
    sets = subst (λ (b : List ℕ). SetsCatalog b was now) (sym (patches.sets).catalog) patches.sets;
    saves = λ is. (patches.sets).catalog ∙ ap (λ (b : List ℕ). patched at (place_bytes entry) b) is ∙ entry_patched entry;
  }

pub set_saved : (old new : Contents) (was now : Held) → SetsCatalog (catalog_bytes new) was now → SavesEntry old new was now
set_saved old new was now sets = record { sets = subst (λ (b : List ℕ). SetsCatalog b was now) (sym sets.catalog) sets; saves = λ is. sets.catalog }

-- ---- places stay where the names do

record IsMoved (name : List ℕ) (before fs : List Document) : Type 0 where
  front : List Document
  entry : DocEntry
  rest : List Document
  are : fs ≡ front ++ (name, entry) ∷ rest
  long : length (flat_map document_bytes front) ≡ length (flat_map document_bytes before)

abbrev first_name : List ℕ → List (List ℕ) → List ℕ
first_name none [] = none
first_name none (n ∷ ns) = n

abbrev rest_names : List (List ℕ) → List (List ℕ)
rest_names [] = []
rest_names (n ∷ ns) = ns

moved : (before : List Document) (name : List ℕ) (entry : DocEntry) (after fs : List Document) → names_of (before ++ (name, entry) ∷ after) ≡ names_of fs → IsMoved name before fs
moved [] name entry after [] same = absurd (let long = ap length same in omega (arith, long))
moved [] name entry after (f ∷ fs) same =
    record { front = []; entry = f.1; rest = fs; are = ap (λ (n : List ℕ). (n, f.1) ∷ fs) (sym (ap (λ (ns : List (List ℕ)). first_name name ns) same)); long = refl }
moved (d ∷ ds) name entry after [] same = absurd (let long = ap length same in omega (arith, long))
moved (d ∷ ds) name entry after (f ∷ fs) same =
    let one = moved ds name entry after fs (ap (λ (ns : List (List ℕ)). rest_names ns) same) in
    let first = ap (λ (ns : List (List ℕ)). length (first_name name ns)) same in
    let a = document_length d in
    let b = document_length f in
    let x = length-append (document_bytes d) (flat_map document_bytes ds) in
    let y = length-append (document_bytes f) (flat_map document_bytes one.front) in
    let more = one.long in
    record { front = f ∷ one.front; entry = one.entry; rest = one.rest; are = ap (λ (r : List Document). f ∷ r) one.are; long = omega (arith, first, a, b, x, y, more) }

pub place_moved : (es fs : List Document) (name : List ℕ) (at : ℕ) → names_of fs ≡ names_of es → IsPlaceOf es name at → IsPlaceOf fs name at
place_moved es fs name at same place =
    let one = moved place.before name place.entry place.after fs (ap (λ (ds : List Document). names_of ds) (sym place.are) ∙ sym same) in
    let here = place.here in
    let long = one.long in
    record { before = one.front; entry = one.entry; after = one.rest; are = one.are; here = omega (arith, here, long) }

pub names_set : (test : Vec ℕ → Bool) (entry : DocEntry) (es : List Kept) → names_of (by_bytes (set_value test es entry)) ≡ names_of (by_bytes es)
names_set test entry [] = refl
names_set test entry (e ∷ es) =
    elim (test e.0) as (λ b. names_of (by_bytes (cond b ((e.0, entry) ∷ es) (e ∷ set_value test es entry))) ≡ names_of (by_bytes (e ∷ es))) [
      | true ↦ refl
      | false ↦ ap (λ (ns : List (List ℕ)). e.0.items ∷ ns) (names_set test entry es)
    ]

-- no place is known
pub no_places : (places : BTreeMap (Vec ℕ) ℕ) → places.entries ≡ [] → (name : List ℕ) (at : ℕ) → get_by (λ k. name_order name k.items) places ≡ Some at → ⊥
no_places places none name at there = none_some (subst (λ (es : List (Vec ℕ × ℕ)). lookup (λ k. is_eq (name_order name k.items)) es ≡ Some at) none there)
  where
    none_some : {x : ℕ} → ◌≡◌ {A = Option ℕ} None (Some x) → ⊥
    none_some same = cc

-- what a look among the places tells of the catalog
pub place_shown : (contents : Contents) (documents : List Document) (rules : List Rule) (places : BTreeMap (Vec ℕ) ℕ) (name : List ℕ) → documents ≡ entries contents.documents → rules ≡ contents.rules → ArePlaces documents rules places → (found : Option ℕ)
    → found ≡ get_by (λ k. name_order name k.items) places → IfSome found (λ at. IsPlaceOf (entries contents.documents) name at × AreRules contents.rules)
place_shown contents documents rules places name shown ruled are None is = tt
place_shown contents documents rules places name shown ruled are (Some at) is =
    let one = are name at (sym is) in
    (subst (λ (ds : List Document). IsPlaceOf ds name at) shown one.0, subst (λ (rs : List Rule). AreRules rs) ruled one.1)

-- a name that has a place is there
found_there : (name : List ℕ) (entry : DocEntry) (before after : List Document) → is_some (find name_order name (before ++ (name, entry) ∷ after)) ≡ true
found_there name entry [] after = ap (λ (o : Ordering). is_some (cond (is_eq o) (Some entry) (find name_order name after))) (tied_itself nat_list_cmp_total name)
found_there name entry (d ∷ ds) after =
    elim (eq_by_cmp name_order name d.0) as (λ b. is_some (cond b (Some d.1) (find name_order name (ds ++ (name, entry) ∷ after))) ≡ true) [
      | true ↦ refl
      | false ↦ found_there name entry ds after
    ]

pub place_there : (documents : Entries) (name : List ℕ) (at : ℕ) → IsPlaceOf (entries documents) name at → contains_key documents name ≡ true
place_there documents name at place =
    ap is_some (get-entries documents name) ∙ ap (λ (ds : List Document). is_some (find name_order name ds)) place.are ∙ found_there name place.entry place.before place.after

-- ---- the walk

pub entries_more : (es : List Entry) (x : Entry) → entries_bytes (es ++ x ∷ []) ≡ entries_bytes es ++ document_bytes ((deref_pair x).0.items, (deref_pair x).1)
entries_more [] x = append-nil (document_bytes ((deref_pair x).0.items, (deref_pair x).1))
entries_more (e ∷ es) x =
    ap (λ (r : List ℕ). document_bytes ((deref_pair e).0.items, (deref_pair e).1) ++ r) (entries_more es x)
    ∙ sym (append_assoc (document_bytes ((deref_pair e).0.items, (deref_pair e).1)) (entries_bytes es) (document_bytes ((deref_pair x).0.items, (deref_pair x).1)))

-- the entry that comes next stands behind those that came
pub place_here : (all : List Kept) (yielded : List Entry) (x : Entry) (rest : List Kept) (end : ℕ) → all ≡ map deref_pair yielded ++ deref_pair x ∷ rest → end ≡ 4 + length (entries_bytes yielded)
    → IsPlaceOf (by_bytes all) (deref_pair x).0.items (end + 2 + length (deref_pair x).0.items)
place_here all yielded x rest end are so_far = record {
  before = by_bytes (map deref_pair yielded);
  entry = (deref_pair x).1;
  after = by_bytes rest;
  are = ap by_bytes are ∙ map-append (λ (e : Kept). (e.0.items, e.1)) (map deref_pair yielded) (deref_pair x ∷ rest);
  here = omega (arith, so_far);
}

-- one place more
pub places_more : (documents : List Document) (old new : BTreeMap (Vec ℕ) ℕ) (key : Vec ℕ) (name : List ℕ) (at : ℕ) → key.items ≡ name → UpdatesBy vector_order (λ k. name_order key.items k.items) old new (Some at) → IsPlaceOf documents name at
    → HavePlaces documents old → HavePlaces documents new
places_more documents old new key name at same update place have q n there =
    by_case (cases_Bool (eq_by_cmp name_order q key.items)) (sym (updates key.items old new (Some at) update q) ∙ there)
  where
    some_is : {x y : ℕ} → ◌≡◌ {A = Option ℕ} (Some x) (Some y) → x ≡ y
    some_is e = cc

    by_case : (eq_by_cmp name_order q key.items ≡ true) ⊎ (eq_by_cmp name_order q key.items ≡ false)
        → cond (eq_by_cmp name_order q key.items) (Some at) (get_by (λ k. name_order q k.items) old) ≡ Some n → IsPlaceOf documents q n
    by_case (inl is) e =
        let value : at ≡ n = some_is (sym (cond-true _ (Some at) (get_by (λ k. name_order q k.items) old) is) ∙ e) in
        subst (λ (m : ℕ). IsPlaceOf documents q m) value (subst (λ (m : List ℕ). IsPlaceOf documents m at) (sym (same_name q key.items is ∙ same)) place)
    by_case (inr apart) e = have q n (sym (cond-false _ (Some at) (get_by (λ k. name_order q k.items) old) apart) ∙ e)

-- a place is far below what a number holds
pub place_low : (all : List Document) (yielded : List Document) (rest : List Document) (end : ℕ) → All CanBeKept all → length all < 4294967296 → all ≡ yielded ++ rest → end ≡ 4 + length (flat_map document_bytes yielded) → end ≤ 4 + 267 * 4294967296
place_low all yielded rest end kept few are so_far =
    let whole = documents_most all (recursion_from_All CanBeKept all kept) in
    let both = ap (λ (ds : List Document). length (flat_map document_bytes ds)) are ∙ ap length (flat-append document_bytes yielded rest) in
    let parts = length-append (flat_map document_bytes yielded) (flat_map document_bytes rest) in
    omega (arith, whole, both, parts, few, so_far)

-- In the walk over the entries of a map one comes.
module _ (documents : BTreeMap (Vec ℕ) DocEntry) (s t u : List Kept) (yielded : List Entry) (r : Option Entry) (x : Entry) (start : s ≡ documents.entries) (so_far : Yields (TakesFirst deref_pair) s yielded t) (is : r ≡ Some x) (step : TakesFirst deref_pair t r u) where
  pub walk_parts : documents.entries ≡ map deref_pair yielded ++ deref_pair x ∷ u
  walk_parts = sym start ∙ rest_so_far deref_pair yielded s t so_far ∙ ap (λ (l : List Kept). map deref_pair yielded ++ l) (rest_more deref_pair t u r x is step)

  pub walk_low : AreDocumentEntries documents → (end : ℕ) → end ≡ 4 + length (entries_bytes yielded) → (end ≤ 4 + 267 * 4294967296) × (length (deref_pair x).0.items ≤ 255)
  walk_low are end place =
      let few = are.few in
      let same = length-map {B = Document} documents.entries (λ (e : Kept). (e.0.items, e.1)) in (
        place_low (by_bytes documents.entries) (by_bytes (map deref_pair yielded)) (by_bytes (deref_pair x ∷ u)) end are.kept (omega (arith, few, same))
            (ap by_bytes walk_parts ∙ map-append (λ (e : Kept). (e.0.items, e.1)) (map deref_pair yielded) (deref_pair x ∷ u)) place,
        name_short (deref_pair x).0.items (All-turn deref_pair (λ (e : Kept). CanBeKept (e.0.items, e.1)) documents.entries yielded s t u r x (each_kept documents.entries are.kept) start so_far is step).named,
      )
