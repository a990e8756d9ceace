-- The documents that a catalog keeps, through its calls.
use Rattle.std.proofs.Common.{◌≡◌, ℕ, ◌+◌, ◌<◌, ◌≤◌, Bool, true, false, cond, List, [], ◌∷◌, length, refl, sym, ap, ap₂, subst, ◌∙◌, arith, Option, None, Some, inl, inr}
use Rattle.std.specs.Prelude.{◌⊎◌, All, is_some, if◌then◌else◌, slice_get, option_map}
use Rattle.std.specs.Global.{Vec}
use Rattle.std.specs.List.{AllByRecursion}
use Rattle.std.specs.List.Sorted.{IsStrictlySortedBy}
use Rattle.nx_pyx.specs.DocumentName.{name_order, vector_order, by_bytes}
use Rattle.std.specs.declared.cmp.Ordering.TheVariants.{Less, Equal, Greater}
use Rattle.std.specs.Ordering.{match_ordering}
use Rattle.std.specs.Map.{remove_entry, set_value, keys_of}
use Rattle.std.specs.BTreeMap.{BTreeMap, IsOrdered, btree_map_len, insert_entry}
use Rattle.std.specs.FinMap.{entries, get, contains_key}
use Rattle.std.proofs.lemmas.List.{length-map}
use Rattle.std.proofs.lemmas.List.Elements.{recursion_from_All, All-from_recursion}
use Rattle.std.proofs.lemmas.Map.Views.{All-map-remove_entry}
use Rattle.std.proofs.lemmas.Option.{slice_get-map, slice_get_cases, none-some}
use Rattle.nx_matrix.specs.declared.rule.Rule.{Rule}
use Rattle.nx_hold.specs.declared.entry.DocEntry.{DocEntry}
use Rattle.nx_catalog.specs.NameMap.{map_in}
use Rattle.nx_matrix.specs.Rules.{AreRules}
use Rattle.nx_matrix.specs.RuleLabels.{HasLabels}
use Rattle.nx_catalog.specs.Catalog.{Contents, Document, CanBeKept, IsCatalog, catalog_bytes, listed_bytes}
use Rattle.nx_catalog.specs.Inside.{AreDocumentEntries}
use Rattle.nx_catalog.proofs.NameMap.{entries-map_in, get-map_in, value_of}

abbrev pub Kept : Type 0
Kept = Vec ℕ × DocEntry

-- the map stands for these documents
pub record Shows (contents : Contents) (documents : BTreeMap (Vec ℕ) DocEntry) (rules : List Rule) : Type 0 where
  pub view : ◌≡◌ {A = Contents} (record { documents = map_in documents; rules = rules }) contents
  pub are : AreDocumentEntries documents

module _ {contents : Contents} {documents : BTreeMap (Vec ℕ) DocEntry} {rules : List Rule} (s : Shows contents documents rules) where
  pub shown_map : map_in documents ≡ contents.documents
  shown_map = ap (λ (c : Contents). c.documents) s.view

  pub shown_rules : rules ≡ contents.rules
  shown_rules = ap (λ (c : Contents). c.rules) s.view

  -- its entries
  pub shown_entries : by_bytes documents.entries ≡ entries contents.documents
  shown_entries = sym (entries-map_in documents s.are.ordered) ∙ ap entries shown_map

  pub shown_length : btree_map_len documents ≡ length (entries contents.documents)
  shown_length = sym (length-map documents.entries (λ (e : Kept). (e.0.items, e.1))) ∙ ap length shown_entries

  pub shown_get : (name : List ℕ) → value_of name documents ≡ get contents.documents name
  shown_get name = sym (get-map_in documents name s.are.ordered) ∙ ap (λ d. get d name) shown_map

  -- the entry with an index
  pub shown_at : (index : ℕ) (name : Vec ℕ) (entry : DocEntry) → slice_get documents.entries index ≡ Some (name, entry) → slice_get (entries contents.documents) index ≡ Some (name.items, entry)
  shown_at index name entry e =
      ap (λ (es : List Document). slice_get es index) (sym shown_entries)
      ∙ slice_get-map (λ (e : Kept). (e.0.items, e.1)) documents.entries index
      ∙ ap (option_map (λ (e : Kept). (e.0.items, e.1))) e

  pub shown_none : (index : ℕ) → slice_get documents.entries index ≡ None → length (entries contents.documents) ≤ index
  shown_none index none =
      let size = shown_length in
      elim (slice_get_cases documents.entries index).1 [
        | inl found ↦ absurd (none-some found.0 (sym none ∙ found.2))
        | inr past ↦ let most = past.0 in omega (arith, most, size)
      ]

kept_put : (key : Vec ℕ) (entry : DocEntry) (es : List Kept) → CanBeKept (key.items, entry) → AllByRecursion CanBeKept (by_bytes es) → AllByRecursion CanBeKept (by_bytes (insert_entry vector_order es key entry))
kept_put key entry [] k h = (k, tt)
kept_put key entry (e ∷ es) k h =
    elim (vector_order key e.0) as (λ o. AllByRecursion CanBeKept (by_bytes (match_ordering o ((key, entry) ∷ e ∷ es) ((e.0, entry) ∷ es) (e ∷ insert_entry vector_order es key entry)))) [
      | Less ↦ (k, h)
      | Equal ↦ (record { named = (h.0).named; page = k.page; slot = k.slot; nodes = k.nodes }, h.1)
      | Greater ↦ (h.0, kept_put key entry es k h.1)
    ]

-- one more, or one in the place of another
pub put_documents : {m : BTreeMap (Vec ℕ) DocEntry} (n : BTreeMap (Vec ℕ) DocEntry) (key : Vec ℕ) (entry : DocEntry) → AreDocumentEntries m → CanBeKept (key.items, entry)
    → n.entries ≡ insert_entry vector_order m.entries key entry → IsOrdered vector_order n → btree_map_len n < 4294967296 → AreDocumentEntries n
put_documents {m} n key entry are kept is ordered few = record {
  ordered = ordered;
  few = few;
  kept = subst (λ es. All CanBeKept (by_bytes es)) (sym is) (All-from_recursion CanBeKept _ (kept_put key entry m.entries kept (recursion_from_All CanBeKept _ are.kept)));
}

abbrev name_or : Vec ℕ → List Document → List ℕ
name_or name [] = name.items
name_or name (d ∷ ds) = d.0

abbrev rest_of : List Document → List Document
rest_of [] = []
rest_of (d ∷ ds) = ds

below_names : (name : Vec ℕ) (other : Vec ℕ) (es fs : List Kept) → name.items ≡ other.items → by_bytes es ≡ by_bytes fs → AllByRecursion (λ y. vector_order name y ≡ Less) (keys_of es) → AllByRecursion (λ y. vector_order other y ≡ Less) (keys_of fs)
below_names name other [] [] same is h = tt
below_names name other [] (f ∷ fs) same is h = absurd (cc)
below_names name other (e ∷ es) [] same is h = absurd (cc)
below_names name other (e ∷ es) (f ∷ fs) same is h =
    let key : e.0.items ≡ f.0.items = ap (λ (l : List Document). name_or name l) is in
    (ap₂ (λ (a b : List ℕ). name_order a b) (sym same) (sym key) ∙ h.0, below_names name other es fs same (ap (λ (l : List Document). rest_of l) is) h.1)

-- entries with the same names are in order too
by_names : (es fs : List Kept) → by_bytes es ≡ by_bytes fs → IsStrictlySortedBy vector_order (keys_of es) → IsStrictlySortedBy vector_order (keys_of fs)
unfolding IsStrictlySortedBy
by_names [] [] is h = tt
by_names [] (f ∷ fs) is h = absurd (cc)
by_names (e ∷ es) [] is h = absurd (cc)
by_names (e ∷ es) (f ∷ fs) is h =
    (below_names e.0 f.0 es fs (ap (λ (l : List Document). name_or e.0 l) is) (ap (λ (l : List Document). rest_of l) is) h.0, by_names es fs (ap (λ (l : List Document). rest_of l) is) h.1)

kept_set : (test : Vec ℕ → Bool) (entry : DocEntry) (es : List Kept) → entry.root.page < 4294967296 → entry.root.slot < 65536 → entry.nodes < 4294967296 → AllByRecursion CanBeKept (by_bytes es) → AllByRecursion CanBeKept (by_bytes (set_value test es entry))
kept_set test entry [] page slot nodes h = tt
kept_set test entry (e ∷ es) page slot nodes h =
    elim (test e.0) as (λ b. AllByRecursion CanBeKept (by_bytes (cond b ((e.0, entry) ∷ es) (e ∷ set_value test es entry)))) [
      | true ↦ (record { named = (h.0).named; page = page; slot = slot; nodes = nodes }, h.1)
      | false ↦ (h.0, kept_set test entry es page slot nodes h.1)
    ]

-- another entry at a key
pub set_documents : {m : BTreeMap (Vec ℕ) DocEntry} (n : BTreeMap (Vec ℕ) DocEntry) (test : Vec ℕ → Bool) (entry : DocEntry) → AreDocumentEntries m → (entry.root.page < 4294967296) × (entry.root.slot < 65536) × (entry.nodes < 4294967296)
    → n.entries ≡ set_value test m.entries entry → IsOrdered vector_order n → btree_map_len n ≡ btree_map_len m → AreDocumentEntries n
set_documents {m} n test entry are fit is ordered same = record {
  ordered = ordered;
  few = let few = are.few in omega (arith, few, same);
  kept = subst (λ es. All CanBeKept (by_bytes es)) (sym is) (All-from_recursion CanBeKept _ (kept_set test entry m.entries fit.0 fit.1 fit.2 (recursion_from_All CanBeKept _ are.kept)));
}

-- the same entries
pub same_documents : {m : BTreeMap (Vec ℕ) DocEntry} (n : BTreeMap (Vec ℕ) DocEntry) → AreDocumentEntries m → by_bytes n.entries ≡ by_bytes m.entries → AreDocumentEntries n
same_documents {m} n are same = record {
  ordered = by_names m.entries n.entries (sym same) are.ordered;
  few =
      let few = are.few in
      let one = length-map {B = Document} m.entries (λ (e : Kept). (e.0.items, e.1)) in
      let other = length-map {B = Document} n.entries (λ (e : Kept). (e.0.items, e.1)) in
      let l : length (by_bytes n.entries) ≡ length (by_bytes m.entries) = ap (λ (es : List Document). length es) same in
      omega (arith, few, one, other, l);
  kept = subst (λ (es : List Document). All CanBeKept es) (sym same) are.kept;
}

pub less_documents : {m : BTreeMap (Vec ℕ) DocEntry} (n : BTreeMap (Vec ℕ) DocEntry) (test : Vec ℕ → Bool) → AreDocumentEntries m → n.entries ≡ remove_entry test m.entries → IsOrdered vector_order n
    → btree_map_len n ≤ btree_map_len m → AreDocumentEntries n
less_documents {m} n test are is ordered fewer = record {
  ordered = ordered;
  few = let few = are.few in omega (arith, few, fewer);
  kept = subst (λ es. All CanBeKept (by_bytes es)) (sym is) (All-map-remove_entry test (λ (e : Kept). (e.0.items, e.1)) CanBeKept m.entries are.kept);
}

-- where the name is there, or fewer than so many are, there is room for one
pub room_left : {contents : Contents} {documents : BTreeMap (Vec ℕ) DocEntry} {rules : List Rule} (s : Shows contents documents rules) (name : List ℕ) (key : List ℕ) (n : ℕ) (old : Option DocEntry)
    → (contains_key contents.documents name ≡ true) ⊎ (length (entries contents.documents) < 4294967295) → key ≡ name → old ≡ value_of key documents
    → n ≡ btree_map_len documents + (if is_some old then 0 else 1) → n < 4294967296
room_left {contents} {documents} s name key n old room same is more = elim room [
  | inl there ↦
      let found : is_some old ≡ true = ap is_some (is ∙ shown_get s key) ∙ ap (λ q. is_some (get contents.documents q)) same ∙ there in
      let none : n ≡ btree_map_len documents + 0 = more ∙ ap (λ b. btree_map_len documents + (if b then 0 else 1)) found in
      let few = (s.are).few in omega (arith, none, few)
  | inr fewer ↦
      let size = shown_length s in
      let most : n ≤ btree_map_len documents + 1 = by_found (is_some old) more in
      omega (arith, fewer, size, most)
]
  where
    by_found : (b : Bool) → n ≡ btree_map_len documents + (if b then 0 else 1) → n ≤ btree_map_len documents + 1
    by_found true e = omega arith
    by_found false e = omega arith

-- ... and so there is where one was taken away
pub room_again : (all left new : ℕ) (entry : DocEntry) (taken there : Option DocEntry) → taken ≡ Some entry → left + (if is_some taken then 1 else 0) ≡ all → new ≡ left + (if is_some there then 0 else 1) → all < 4294967296 → new < 4294967296
room_again all left new entry taken there is fewer more few =
    let one : left + 1 ≡ all = ap (λ (o : Option DocEntry). left + (if is_some o then 1 else 0)) (sym is) ∙ fewer in
    by_there there more one
  where
    by_there : (o : Option DocEntry) → new ≡ left + (if is_some o then 0 else 1) → left + 1 ≡ all → new < 4294967296
    by_there None e one = omega (arith, e, one, few)
    by_there (Some x) e one = omega (arith, e, one, few)

each : (es : List Kept) → AllByRecursion CanBeKept (by_bytes es) → AllByRecursion (λ (e : Kept). CanBeKept (e.0.items, e.1)) es
each [] h = tt
each (e ∷ es) h = (h.0, each es h.1)

-- each entry of the map
pub each_kept : (es : List Kept) → All CanBeKept (by_bytes es) → All (λ (e : Kept). CanBeKept (e.0.items, e.1)) es
each_kept es h = All-from_recursion _ es (each es (recursion_from_All CanBeKept _ h))

-- the bytes of a catalog are those of its documents and rules
pub spelled : (contents : Contents) → catalog_bytes contents ≡ listed_bytes (entries contents.documents) contents.rules
unfolding catalog_bytes
spelled contents = refl

-- a catalog whose rules have labels says what its bytes say
pub catalog_form : {contents : Contents} {documents : BTreeMap (Vec ℕ) DocEntry} {rules : List Rule} → Shows contents documents rules → AreRules rules
    → All HasLabels contents.rules → IsCatalog (catalog_bytes contents) contents
catalog_form {contents} {documents} s rules labels = record {
  few = let few = (s.are).few in let size = shown_length s in omega (arith, few, size);
  kept = subst (λ (es : List Document). All CanBeKept es) (shown_entries s) (s.are).kept;
  rules = subst AreRules (shown_rules s) rules;
  labels = labels;
  spelled = refl;
}
