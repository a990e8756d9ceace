-- How many bytes a catalog has.
use Rattle.std.proofs.Common.{◌≡◌, ℕ, ◌+◌, ◌*◌, ◌≤◌, true, false, cond, List, [], ◌∷◌, map, length, Option, Some, None, refl, sym, ap, subst, ◌∙◌, arith, length-append, inl, inr, ⊎_elim}
use Rattle.std.specs.Prelude.{◌⊎◌, flat_map, is_some}
use Rattle.std.specs.List.{AllByRecursion, sum_by}
use Rattle.std.specs.Option.{option_map_or}
use Rattle.std.specs.Ordering.{is_eq, eq_by_cmp}
use Rattle.std.specs.Cmp.{tied_itself}
use Rattle.std.specs.declared.cmp.Ordering.TheVariants.{Less, Equal, Greater}
use Rattle.std.specs.Cmp.Lexicographic.{nat_list_cmp_total}
use Rattle.std.specs.FinMap.{entries, keys, get, insert, remove, contains_key, put, entries-insert, len-entries, len-insert, get-insert, get-remove}
use Rattle.std.specs.FinMap.Entries.{by_order}
use Rattle.std.proofs.lemmas.Bool.{cases_Bool, cond-true, cond-false}
use Rattle.std.proofs.lemmas.List.Elements.{recursion_from_All}
use Rattle.std.proofs.lemmas.List.Sums.{sum_by-cons}
use Rattle.nx_pyx.specs.DocumentName.{name_order}
use Rattle.nx_hold.specs.declared.entry.DocEntry.{DocEntry}
use Rattle.nx_matrix.specs.declared.rule.Rule.{Rule}
use Rattle.nx_matrix.specs.Rules.{IsLabel, pair_of}
use Rattle.nx_matrix.proofs.OrderLemmas.{Pair}
use Rattle.nx_catalog.specs.Catalog.{Entries, Contents, Document, entries_renamed, document_bytes, rule_bytes, listed_bytes, catalog_bytes, CanBeKept, IsCatalog}
use Rattle.nx_catalog.specs.Laws.{catalog_size}
use Rattle.nx_catalog.proofs.InsideLemmas.{spelled}
use Rattle.nx_catalog.proofs.NameLemmas.{name_short}
use Rattle.nx_catalog.proofs.NameMap.{one_map, same_name}

-- 8 bytes for the two numbers, and those of documents and rules
pub listed_length : (documents : List Document) (rules : List Rule) → length (listed_bytes documents rules) ≡ 8 + length (flat_map document_bytes documents) + length (flat_map rule_bytes rules)
listed_length documents rules = grind (arith, length-append)

pub catalog_length : (contents : Contents) → length (catalog_bytes contents) ≡ 8 + length (flat_map document_bytes (entries contents.documents)) + length (flat_map rule_bytes contents.rules)
catalog_length contents = ap (λ (b : List ℕ). length b) (spelled contents) ∙ listed_length (entries contents.documents) contents.rules

-- ---- by names and labels

pub document_length : (d : Document) → length (document_bytes d) ≡ 12 + length d.0
document_length d = grind (arith, length-append)

rule_length : (r : Rule) → length (rule_bytes r) ≡ 5 + (length r.parent + length r.child)
rule_length r = grind (arith, length-append)

abbrev pub name_size : List ℕ → ℕ
name_size name = 12 + length name

abbrev pub pair_size : Pair → ℕ
pair_size pair = 5 + (length pair.0 + length pair.1)

documents_length : (documents : List Document) → length (flat_map document_bytes documents) ≡ sum_by name_size (map (λ d. d.0) documents)
documents_length [] = refl
documents_length (d ∷ documents) =
    length-append (document_bytes d) (flat_map document_bytes documents)
    ∙ (let one = document_length d in let more = documents_length documents in let all = sum_by-cons name_size d.0 (map (λ (x : Document). x.0) documents) in omega (arith, one, more, all))

rules_length : (rules : List Rule) → length (flat_map rule_bytes rules) ≡ sum_by pair_size (map pair_of rules)
rules_length [] = refl
rules_length (r ∷ rules) =
    length-append (rule_bytes r) (flat_map rule_bytes rules)
    ∙ (let one = rule_length r in let more = rules_length rules in let all = sum_by-cons pair_size (pair_of r) (map pair_of rules) in omega (arith, one, more, all))

pub by_names : (contents : Contents) → length (catalog_bytes contents) ≡ 8 + sum_by name_size (keys contents.documents) + sum_by pair_size (map pair_of contents.rules)
by_names contents =
    let size = catalog_length contents in
    let documents = documents_length (entries contents.documents) in
    let rules = rules_length contents.rules in
    omega (arith, size, documents, rules)

pub same_length : (one other : Contents) → keys one.documents ≡ keys other.documents → map pair_of one.rules ≡ map pair_of other.rules → length (catalog_bytes one) ≡ length (catalog_bytes other)
same_length one other names pairs =
    by_names one ∙ ap (λ (ks : List (List ℕ)). 8 + sum_by name_size ks + sum_by pair_size (map pair_of one.rules)) names
    ∙ ap (λ (ps : List Pair). 8 + sum_by name_size (keys other.documents) + sum_by pair_size ps) pairs ∙ sym (by_names other)

-- ---- at most so many

pub documents_most : (documents : List Document) → AllByRecursion CanBeKept documents → length (flat_map document_bytes documents) ≤ 267 * length documents
documents_most [] kept = omega arith
documents_most (d ∷ documents) kept =
    let one = document_length d in
    let short = name_short d.0 (kept.0).named in
    let more = documents_most documents kept.1 in
    omega (arith, one, short, more, length-append (document_bytes d) (flat_map document_bytes documents))

rules_most : (rules : List Rule) → AllByRecursion (λ r. IsLabel r.parent × IsLabel r.child) rules → length (flat_map rule_bytes rules) ≤ 2053 * length rules
rules_most [] labelled = omega arith
rules_most (r ∷ rules) labelled =
    let one = rule_length r in
    let parent = labelled.0.0.1 in
    let child = labelled.0.1.1 in
    let more = rules_most rules labelled.1 in
    omega (arith, one, parent, child, more, length-append (rule_bytes r) (flat_map rule_bytes rules))

pub most_bytes : (bytes : List ℕ) (contents : Contents) → IsCatalog bytes contents → length bytes ≤ 8 + 267 * length (entries contents.documents) + 2053 * length contents.rules
most_bytes bytes contents is =
    let size : length bytes ≡ length (catalog_bytes contents) = ap (λ (b : List ℕ). length b) is.spelled in
    let parts = catalog_length contents in
    let documents = documents_most (entries contents.documents) (recursion_from_All CanBeKept (entries contents.documents) is.kept) in
    let rules = rules_most contents.rules (recursion_from_All (λ r. IsLabel r.parent × IsLabel r.child) contents.rules (is.rules).labelled) in
    omega (arith, size, parts, documents, rules)

-- ---- a document more, and one less

abbrev names_size : List Document → ℕ
names_size documents = sum_by name_size (map (λ d. d.0) documents)

-- one entry more with its name, or none with none
abbrev OneMore : (name : List ℕ) → List Document → List Document → Type 0
OneMore name old new =
    ((length new ≡ length old) × (names_size new ≡ names_size old)) ⊎ ((length new ≡ length old + 1) × (names_size new ≡ names_size old + name_size name))

names_cons : (d : Document) (documents : List Document) → names_size (d ∷ documents) ≡ name_size d.0 + names_size documents
names_cons d documents = sum_by-cons name_size d.0 (map (λ (x : Document). x.0) documents)

put_more : (name : List ℕ) (entry : DocEntry) (es : List Document) → OneMore name es (put name_order name entry es)
put_more name entry [] = let all = names_cons (name, entry) [] in inr (omega arith, omega (arith, all))
put_more name entry (e ∷ es) =
    let old = names_cons e es in
    elim (name_order name e.0) as (λ o. OneMore name (e ∷ es) (by_order o ((name, entry) ∷ e ∷ es) ((e.0, entry) ∷ es) (e ∷ put name_order name entry es))) [
      | Less ↦ let all = names_cons (name, entry) (e ∷ es) in inr (omega arith, omega (arith, all))
      | Equal ↦ let all = names_cons (e.0, entry) es in inl (omega arith, omega (arith, old, all))
      | Greater ↦
          let all = names_cons e (put name_order name entry es) in
          elim (put_more name entry es) [
            | inl same ↦ let n = same.0 in let s = same.1 in inl (omega (arith, n), omega (arith, s, old, all))
            | inr more ↦ let n = more.0 in let s = more.1 in inr (omega (arith, n), omega (arith, s, old, all))
          ]
    ]

insert_more : (documents : Entries) (name : List ℕ) (entry : DocEntry) → OneMore name (entries documents) (entries (insert documents name entry))
insert_more documents name entry = subst (OneMore name (entries documents)) (sym (entries-insert nat_list_cmp_total documents name entry)) (put_more name entry (entries documents))

-- how many entries there are then
insert_size : (documents : Entries) (name : List ℕ) (entry : DocEntry) → length (entries (insert documents name entry)) ≡ cond (contains_key documents name) (length (entries documents)) (length (entries documents) + 1)
insert_size documents name entry =
    sym (len-entries (insert documents name entry)) ∙ len-insert nat_list_cmp_total documents name entry ∙ ap (λ (n : ℕ). cond (contains_key documents name) n (n + 1)) (len-entries documents)

pub length_there : (documents : Entries) (rules : List Rule) (name : List ℕ) (entry : DocEntry) → contains_key documents name ≡ true → catalog_size (insert documents name entry) rules ≡ catalog_size documents rules
length_there documents rules name entry there =
    let size : length (entries (insert documents name entry)) ≡ length (entries documents) = insert_size documents name entry ∙ cond-true _ _ _ there in
    let old = by_names (record { documents = documents; rules = rules }) in
    let new = by_names (record { documents = insert documents name entry; rules = rules }) in
    elim (insert_more documents name entry) [
      | inl same ↦ let s = same.1 in omega (arith, old, new, s)
      | inr more ↦ let n = more.0 in absurd (omega (arith, size, n))
    ]

pub length_new : (documents : Entries) (rules : List Rule) (name : List ℕ) (entry : DocEntry) → contains_key documents name ≡ false → catalog_size (insert documents name entry) rules ≡ catalog_size documents rules + (12 + length name)
length_new documents rules name entry absent =
    let size : length (entries (insert documents name entry)) ≡ length (entries documents) + 1 = insert_size documents name entry ∙ cond-false _ _ _ absent in
    let old = by_names (record { documents = documents; rules = rules }) in
    let new = by_names (record { documents = insert documents name entry; rules = rules }) in
    elim (insert_more documents name entry) [
      | inl same ↦ let n = same.0 in absurd (omega (arith, size, n))
      | inr more ↦ let s = more.1 in omega (arith, old, new, s)
    ]

itself : (name : List ℕ) → eq_by_cmp name_order name name ≡ true
itself name = ap is_eq (tied_itself nat_list_cmp_total name)

-- what is taken away and put back
put_back : (documents : Entries) (name : List ℕ) (entry : DocEntry) → get documents name ≡ Some entry → insert (remove documents name) name entry ≡ documents
put_back documents name entry there = one_map _ _ (λ q. get-insert nat_list_cmp_total (remove documents name) name entry q ∙ ⊎_elim
    (λ y. cond-true _ (Some entry) (get (remove documents name) q) y ∙ sym there ∙ ap (get documents) (sym (same_name q name y)))
    (λ f. cond-false _ (Some entry) (get (remove documents name) q) f ∙ get-remove nat_list_cmp_total documents name q ∙ cond-false _ None (get documents q) f)
    (cases_Bool (eq_by_cmp name_order q name)))

pub remove_absent : (documents : Entries) (name : List ℕ) → contains_key documents name ≡ false → remove documents name ≡ documents
remove_absent documents name absent = one_map _ _ (λ q. get-remove nat_list_cmp_total documents name q ∙ ⊎_elim
    (λ y. cond-true _ None (get documents q) y ∙ sym (none_in (get documents name) absent) ∙ ap (get documents) (sym (same_name q name y)))
    (λ f. cond-false _ None (get documents q) f)
    (cases_Bool (eq_by_cmp name_order q name)))
  where
    none_in : (o : Option DocEntry) → is_some o ≡ false → o ≡ None
    none_in None e = refl
    none_in (Some entry) e = absurd (cc)

taken_absent : (documents : Entries) (name : List ℕ) → contains_key (remove documents name) name ≡ false
taken_absent documents name = ap is_some (get-remove nat_list_cmp_total documents name name ∙ cond-true _ None (get documents name) (itself name))

pub length_less : (documents : Entries) (rules : List Rule) (name : List ℕ) → contains_key documents name ≡ true → catalog_size (remove documents name) rules + (12 + length name) ≡ catalog_size documents rules
length_less documents rules name there = by_entry (get documents name) refl there
  where
    by_entry : (o : Option DocEntry) → get documents name ≡ o → is_some o ≡ true → catalog_size (remove documents name) rules + (12 + length name) ≡ catalog_size documents rules
    by_entry None e some = absurd (cc)
    by_entry (Some entry) e some =
        sym (length_new (remove documents name) rules name entry (taken_absent documents name)) ∙ ap (λ (ds : Entries). catalog_size ds rules) (put_back documents name entry e)

-- ---- a document under another name

-- an entry that is there
pub renamed_there : (documents : Entries) (old_name new_name : List ℕ) (entry : DocEntry) → get documents old_name ≡ Some entry → entries_renamed documents old_name new_name ≡ insert (remove documents old_name) new_name entry
renamed_there documents old_name new_name entry there = ap (λ (o : Option DocEntry). option_map_or (λ (e : DocEntry). insert (remove documents old_name) new_name e) o documents) there

-- ... and one that isn't
pub renamed_absent : (documents : Entries) (old_name new_name : List ℕ) → get documents old_name ≡ None → remove documents old_name ≡ entries_renamed documents old_name new_name
renamed_absent documents old_name new_name none =
    remove_absent documents old_name (ap is_some none) ∙ sym (ap (λ (o : Option DocEntry). option_map_or (λ (e : DocEntry). insert (remove documents old_name) new_name e) o documents) none)

module _ (documents : Entries) (rules : List Rule) (old_name new_name : List ℕ) where
  new_absent : contains_key documents new_name ≡ false → contains_key (remove documents old_name) new_name ≡ false
  new_absent absent =
      ap is_some (get-remove nat_list_cmp_total documents old_name new_name)
      ∙ (elim (eq_by_cmp name_order new_name old_name) as (λ b. is_some (cond b None (get documents new_name)) ≡ false) [ true ↦ refl | false ↦ absent ])

  pub length_renamed : contains_key documents old_name ≡ true → contains_key documents new_name ≡ false →
      (catalog_size (entries_renamed documents old_name new_name) rules + length old_name ≡ catalog_size documents rules + length new_name) × (length (entries (entries_renamed documents old_name new_name)) ≡ length (entries documents))
  length_renamed there absent = by_entry (get documents old_name) refl there
    where
      left : Entries
      left = remove documents old_name

      by_entry : (o : Option DocEntry) → get documents old_name ≡ o → is_some o ≡ true → (catalog_size (entries_renamed documents old_name new_name) rules + length old_name ≡ catalog_size documents rules + length new_name)
          × (length (entries (entries_renamed documents old_name new_name)) ≡ length (entries documents))
      by_entry None e some = absurd (cc)
      by_entry (Some entry) e some =
          let renamed = renamed_there documents old_name new_name entry e in
          let size = ap (λ (ds : Entries). catalog_size ds rules) renamed in
          let more = length_new left rules new_name entry (new_absent absent) in
          let less = length_less documents rules old_name there in
          let number = ap (λ (ds : Entries). length (entries ds)) renamed ∙ insert_size left new_name entry ∙ cond-false _ _ _ (new_absent absent) in
          let before = sym (ap (λ (ds : Entries). length (entries ds)) (put_back documents old_name entry e)) ∙ insert_size left old_name entry ∙ cond-false _ _ _ (taken_absent documents old_name) in
          (omega (arith, size, more, less), number ∙ sym before)
