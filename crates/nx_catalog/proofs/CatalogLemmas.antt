-- Catalogs and their bytes, read whole.
use Rattle.std.proofs.Common.{◌≡◌, ◌≢◌, ℕ, ◌<◌, ◌≤◌, cond, ltb, List, [], ◌∷◌, ◌++◌, length, Some, None, sym, ap, subst, ◌∙◌, arith}
use Rattle.std.specs.Prelude.{All, flat_map}
use Rattle.std.specs.Global.{Vec}
use Rattle.std.specs.Int.{w32, to_be_bytes}
use Rattle.std.specs.List.{AllByRecursion}
use Rattle.std.specs.declared.cmp.Ordering.TheVariants.{Less}
use Rattle.std.specs.BTreeMap.{BTreeMap, IsOrdered}
use Rattle.std.proofs.Math.ListN.{replicate}
use Rattle.std.specs.FinMap.{empty, same_entries_map, len-entries, len-empty, entries, entries_sorted}
use Rattle.std.proofs.lemmas.Bool.{ltb-false, le-ltb}
use Rattle.std.proofs.lemmas.List.{append-nil, length-map, nil_from_length}
use Rattle.std.proofs.lemmas.List.Elements.{recursion_from_All, All-from_recursion}
use Rattle.nx_pyx.specs.DocumentName.{name_order, vector_order, by_bytes}
use Rattle.nx_matrix.specs.RuleLabels.{HasLabels}
use Rattle.nx_matrix.specs.declared.rule.Rule.{Rule}
use Rattle.nx_matrix.specs.declared.rule.Entry.TheVariants.{Free}
use Rattle.nx_matrix.specs.Rules.{AreRules, pair_cmp, pair_of, most_rules}
use Rattle.nx_hold.specs.declared.entry.DocEntry.{DocEntry}
use Rattle.nx_catalog.specs.NameMap.{map_in}
use Rattle.nx_catalog.specs.Inside.{AreDocumentEntries}
use Rattle.nx_catalog.specs.Catalog.{Contents, Document, Entries, document_bytes, rule_bytes, listed_bytes, CanBeKept, IsCatalog}
use Rattle.nx_piece.specs.Encoding.{four_bytes}
use Rattle.nx_catalog.specs.Reading.{leading_number, document_at, documents_at, all_documents_at, rule_at, rules_at, all_rules_at}
use Rattle.nx_catalog.proofs.NameMap.{entries-map_in}
use Rattle.nx_catalog.proofs.InsideLemmas.{Kept, spelled}
use Rattle.nx_catalog.proofs.NameLemmas.{name_first, pair_first, labelled}
use Rattle.nx_catalog.proofs.FieldLemmas.{IsBytes, Takes, takes_then, bind_some, unless_some, wide_four, number_takes, number_again, some_is}
use Rattle.nx_catalog.proofs.RisingLemmas.{Rises, pairs_rise, sorted_rises, below_each}
use Rattle.nx_catalog.proofs.ListedLemmas.{items_take, items_again}
use Rattle.nx_catalog.proofs.DocumentLemmas.{document_takes, document_again}
use Rattle.nx_catalog.proofs.RuleLemmas.{IsRule, rule_takes, rule_again, rising_rules}

abbrev pub name : Document → List ℕ
name d = d.0

-- documents read behind their number
pub record TakesDocuments (bytes : List ℕ) (documents : List Document) (rest : List ℕ) : Type 0 where
  pub takes : Takes bytes (four_bytes (length documents) ++ flat_map document_bytes documents) rest
  pub few : length documents < 4294967296
  pub kept : AllByRecursion CanBeKept documents

pub documents_take : (bytes : List ℕ) (x : List Document × List ℕ) → IsBytes bytes → all_documents_at bytes ≡ Some x → TakesDocuments bytes x.0 x.1
unfolding all_documents_at
documents_take bytes x fits e =
    let a = bind_some (leading_number w32 bytes) (λ count. documents_at count.0 [] count.1) x e in
    let number = number_takes w32 4294967296 wide_four bytes a.0 fits a.1 in
    let took = items_take document_at name_order name document_bytes CanBeKept document_takes a.0.0 [] a.0.1 x (number.0).rest_fits a.2 in
    let size = took.counted in
    let few = number.1 in
    record {
      takes = subst (λ (n : ℕ). Takes bytes (four_bytes n ++ flat_map document_bytes x.0) x.1) (sym size) (takes_then (to_be_bytes w32 a.0.0) (flat_map document_bytes x.0) number.0 took.takes);
      few = omega (arith, size, few);
      kept = took.each;
    }

pub documents_again : (documents : List Document) (rest : List ℕ) → length documents < 4294967296 → AllByRecursion CanBeKept documents → Rises name_order name [] documents
    → all_documents_at (four_bytes (length documents) ++ flat_map document_bytes documents ++ rest) ≡ Some (documents, rest)
unfolding all_documents_at
documents_again documents rest few kept rises =
    rw (number_again w32 4294967296 wide_four (length documents) (flat_map document_bytes documents ++ rest) few)
    (items_again document_at name_order name document_bytes CanBeKept document_again documents [] rest kept rises)

-- rules read behind their number
pub record TakesRules (bytes : List ℕ) (rules : List Rule) (rest : List ℕ) : Type 0 where
  pub takes : Takes bytes (four_bytes (length rules) ++ flat_map rule_bytes rules) rest
  pub are : AreRules rules
  pub each : AllByRecursion IsRule rules

pub rules_take : (bytes : List ℕ) (x : List Rule × List ℕ) → IsBytes bytes → all_rules_at bytes ≡ Some x → TakesRules bytes x.0 x.1
unfolding all_rules_at
rules_take bytes x fits e =
    let a = bind_some (leading_number w32 bytes) (λ count. cond (ltb most_rules count.0) None (rules_at count.0 ([], []) count.1)) x e in
    let g = unless_some (ltb most_rules a.0.0) (rules_at a.0.0 ([], []) a.0.1) x a.2 in
    let few = ltb-false most_rules a.0.0 g.0 in
    let number = number_takes w32 4294967296 wide_four bytes a.0 fits a.1 in
    let took = items_take rule_at pair_cmp pair_of rule_bytes IsRule rule_takes a.0.0 ([], []) a.0.1 x (number.0).rest_fits g.1 in
    let size = took.counted in
    record {
      takes = subst (λ (n : ℕ). Takes bytes (four_bytes n ++ flat_map rule_bytes x.0) x.1) (sym size) (takes_then (to_be_bytes w32 a.0.0) (flat_map rule_bytes x.0) number.0 took.takes);
      are = rising_rules ([], []) x.0 (omega (arith, size, few)) took.each took.rises;
      each = took.each;
    }

pub rules_again : (rules : List Rule) (rest : List ℕ) → length rules ≤ most_rules → AllByRecursion IsRule rules → Rises pair_cmp pair_of ([], []) rules
    → all_rules_at (four_bytes (length rules) ++ flat_map rule_bytes rules ++ rest) ≡ Some (rules, rest)
unfolding all_rules_at
rules_again rules rest few each rises =
    rw (number_again w32 4294967296 wide_four (length rules) (flat_map rule_bytes rules ++ rest) (omega (arith, few)), le-ltb most_rules (length rules) few)
    (items_again rule_at pair_cmp pair_of rule_bytes IsRule rule_again rules ([], []) rest each rises)

-- ---- what a catalog's bytes are read as

names_first : (documents : List Document) → AllByRecursion CanBeKept documents → AllByRecursion (λ (d : Document). name_order [] d.0 ≡ Less) documents
names_first [] h = tt
names_first (d ∷ documents) h = (name_first d.0 (h.0).named, names_first documents h.1)

pairs_first : (rules : List Rule) → AllByRecursion IsRule rules → AllByRecursion (λ r. pair_cmp ([], []) (pair_of r) ≡ Less) rules
pairs_first [] h = tt
pairs_first (r ∷ rules) h = (pair_first r.parent r.child (labelled r (h.0).labels).0, pairs_first rules h.1)

each_rule : (rules : List Rule) → AllByRecursion HasLabels rules → AllByRecursion (λ r. r.entry ≢ Free) rules → AllByRecursion IsRule rules
each_rule [] h k = tt
each_rule (r ∷ rules) h k = (record { labels = h.0; bound = k.0 }, each_rule rules h.1 k.1)

-- what stands behind the documents
abbrev pub behind : Contents → List ℕ
behind contents = four_bytes (length contents.rules) ++ flat_map rule_bytes contents.rules

pub catalog_documents : {bytes : List ℕ} {contents : Contents} → IsCatalog bytes contents → all_documents_at bytes ≡ Some (entries contents.documents, behind contents)
catalog_documents {bytes} {contents} is =
    let kept = recursion_from_All CanBeKept (entries contents.documents) is.kept in
    let rises = sorted_rises name_order [] (entries contents.documents) (below_each name_order [] (entries contents.documents) (names_first (entries contents.documents) kept)) (entries_sorted contents.documents) in
    ap all_documents_at (is.spelled ∙ spelled contents)
    ∙ documents_again (entries contents.documents) (behind contents) is.few kept rises

pub catalog_rules : {bytes : List ℕ} {contents : Contents} → IsCatalog bytes contents → all_rules_at (behind contents) ≡ Some (contents.rules, [])
catalog_rules {bytes} {contents} is =
    let rules = contents.rules in
    let each = each_rule rules (recursion_from_All HasLabels rules is.labels) (recursion_from_All (λ r. r.entry ≢ Free) rules (is.rules).bound) in
    ap all_rules_at (sym (append-nil (behind contents)))
    ∙ rules_again rules [] (is.rules).few each (pairs_rise pair_cmp pair_of ([], []) rules (pairs_first rules each) (is.rules).ordered)

no_some : {A : Type 0} (x : A) → Some x ≡ None → ⊥
no_some x e = cc

pair_parts : {A B : Type 0} (x y : A × B) → Some x ≡ Some y → (x.0 ≡ y.0) × (x.1 ≡ y.1)
pair_parts x y e = let same = some_is x y e in (ap (λ p. p.0) same, ap (λ p. p.1) same)

-- no documents are there
pub none_of_documents : {bytes : List ℕ} {contents : Contents} → all_documents_at bytes ≡ None → IsCatalog bytes contents → ⊥
none_of_documents none is = no_some _ (sym (catalog_documents is) ∙ none)

-- documents are there, and no rules behind them
pub none_of_rules : {bytes rest : List ℕ} {contents : Contents} (documents : List Document) → all_documents_at bytes ≡ Some (documents, rest) → all_rules_at rest ≡ None → IsCatalog bytes contents → ⊥
none_of_rules {bytes} {rest} {contents} documents found none is =
    let same = (pair_parts (entries contents.documents, behind contents) (documents, rest) (sym (catalog_documents is) ∙ found)).1 in
    no_some _ (sym (catalog_rules is) ∙ ap all_rules_at same ∙ none)

-- something stands behind the rules
pub more_behind : {bytes rest last : List ℕ} {contents : Contents} (documents : List Document) (rules : List Rule) → all_documents_at bytes ≡ Some (documents, rest) → all_rules_at rest ≡ Some (rules, last) → length last ≢ 0 → IsCatalog bytes contents → ⊥
more_behind {bytes} {rest} {last} {contents} documents rules found read more is =
    let same = (pair_parts (entries contents.documents, behind contents) (documents, rest) (sym (catalog_documents is) ∙ found)).1 in
    let none = (pair_parts (contents.rules, []) (rules, last) (sym (catalog_rules is) ∙ ap all_rules_at same ∙ read)).1 in
    more (ap (λ (l : List ℕ). length l) (sym none))

-- the documents that were read are kept
pub read_documents_are : (bytes : List ℕ) {rest : List ℕ} (m : BTreeMap (Vec ℕ) DocEntry) → IsBytes bytes → IsOrdered vector_order m → all_documents_at bytes ≡ Some (by_bytes m.entries, rest) → AreDocumentEntries m
read_documents_are bytes {rest} m fits ordered read =
    let took = documents_take bytes (by_bytes m.entries, rest) fits read in
    let few = took.few in
    let size = length-map {B = Document} m.entries (λ (e : Kept). (e.0.items, e.1)) in
    record { ordered = ordered; few = omega (arith, few, size); kept = All-from_recursion CanBeKept (by_bytes m.entries) took.kept }

labels_of : (rules : List Rule) → AllByRecursion IsRule rules → AllByRecursion HasLabels rules
labels_of [] h = tt
labels_of (r ∷ rules) h = ((h.0).labels, labels_of rules h.1)

-- what was read is what the bytes say
pub read_catalog_is : {bytes rest last : List ℕ} (m : BTreeMap (Vec ℕ) DocEntry) (rules : List Rule) → IsBytes bytes → IsOrdered vector_order m → all_documents_at bytes ≡ Some (by_bytes m.entries, rest) → all_rules_at rest ≡ Some (rules, last)
    → length last ≡ 0 → IsCatalog bytes (record { documents = map_in m; rules = rules })
read_catalog_is {bytes} {rest} {last} m rules fits ordered read more none =
    let contents : Contents = record { documents = map_in m; rules = rules } in
    let took = documents_take bytes (by_bytes m.entries, rest) fits read in
    let took_rules = rules_take rest (rules, last) (took.takes).rest_fits more in
    let shown : entries (map_in m) ≡ by_bytes m.entries = entries-map_in m ordered in
    let end : last ≡ [] = nil_from_length last none in
    let whole : bytes ≡ listed_bytes (by_bytes m.entries) rules =
    (took.takes).parts ∙ ap (λ (r : List ℕ). (four_bytes (length (by_bytes m.entries)) ++ flat_map document_bytes (by_bytes m.entries)) ++ r)
    ((took_rules.takes).parts ∙ ap (λ (r : List ℕ). (four_bytes (length rules) ++ flat_map rule_bytes rules) ++ r) end ∙ append-nil (four_bytes (length rules) ++ flat_map rule_bytes rules)) in
    record {
      few = subst (λ (ds : List Document). length ds < 4294967296) (sym shown) took.few;
      kept = subst (λ (ds : List Document). All CanBeKept ds) (sym shown) (All-from_recursion CanBeKept (by_bytes m.entries) took.kept);
      rules = took_rules.are;
      labels = All-from_recursion HasLabels rules (labels_of rules took_rules.each);
      spelled = whole ∙ ap (λ (ds : List Document). listed_bytes ds rules) (sym shown) ∙ sym (spelled contents);
    }

-- ---- laws

-- one catalog at most has these bytes
pub one_contents : (bytes : List ℕ) (one other : Contents) → IsCatalog bytes one → IsCatalog bytes other → one ≡ other
one_contents bytes one other is are =
    let parts = pair_parts (entries one.documents, behind one) (entries other.documents, behind other) (sym (catalog_documents is) ∙ catalog_documents are) in
    let documents = same_entries_map one.documents other.documents parts.0 in
    let rules = (pair_parts (one.rules, []) (other.rules, []) (sym (catalog_rules is) ∙ ap all_rules_at parts.1 ∙ catalog_rules are)).0 in
    ap (λ (d : Entries). record { documents = d; rules = one.rules }) documents ∙ ap (λ (r : List Rule). record { documents = other.documents; rules = r }) rules

-- nothing is said by eight bytes 0
pub first_is : IsCatalog (replicate 8 0) (record { documents = empty; rules = [] })
first_is =
    let first : Contents = record { documents = empty; rules = [] } in
    let none : entries first.documents ≡ [] = nil_from_length (entries first.documents) (sym (len-entries first.documents) ∙ len-empty name_order DocEntry) in
    record {
      few = subst (λ (ds : List Document). length ds < 4294967296) (sym none) (omega arith);
      kept = subst (λ (ds : List Document). All CanBeKept ds) (sym none) (All-from_recursion CanBeKept [] tt);
      rules = rising_rules ([], []) [] (omega arith) tt tt;
      labels = All-from_recursion HasLabels [] tt;
      spelled = ap (λ (ds : List Document). listed_bytes ds []) (sym none) ∙ sym (spelled first);
    }
