-- Rules read one after another, into a matrix.
use Rattle.std.proofs.Common.{Ordering, ◌≡◌, ◌≢◌, ℕ, suc, ◌+◌, ◌-◌, ◌<◌, ◌≤◌, Bool, true, false, cond, T, ◌&&◌, List, [], ◌∷◌, ◌++◌, map, length, drop, Option, Some, None, refl, sym, ap, subst, ◌∙◌, append_assoc, arith}
use Rattle.std.specs.Prelude.{AllPairs, ◌||◌}
use Rattle.std.specs.List.{AllByRecursion, insert, find as list_find, list_any}
use Rattle.std.specs.Option.{option_map_or, is_some}
use Rattle.std.specs.Cmp.{tied_itself}
use Rattle.std.proofs.lemmas.Slice.Eq.{bytes_eq-Decides}
use Rattle.std.specs.Str.{bytes_eq}
use Rattle.std.specs.Ordering.{is_lt, is_eq, eq_by_cmp}
use Rattle.std.specs.declared.cmp.Ordering.TheVariants.{Less, Equal, Greater}
use Rattle.std.specs.FinMap.{FinMap, find, is_sorted, from_sorted, get, insert as map_insert, remove, contains_key, len, get-from_sorted, entries-from_sorted, len-entries, get-insert, get-remove, len-insert, len-remove, same_map}
use Rattle.std.specs.FinMap.Entries.{same_entries, below_all}
use Rattle.std.proofs.lemmas.List.{take_all, drop_all, length-map}
use Rattle.std.proofs.lemmas.List.Elements.{recursion_from_All, All-from_recursion}
use Rattle.nx_matrix.specs.RuleLabels.{HasLabels, is_parent_label, is_child_label}
use Rattle.nx_matrix.specs.declared.rule.Entry.{Entry}
use Rattle.nx_matrix.specs.declared.rule.Entry.TheVariants.{Standalone, Cluster, Free}
use Rattle.nx_matrix.specs.declared.rule.Rule.{Rule}
use Rattle.nx_matrix.specs.Rules.{pair_cmp, pair_of, is_for, entry_of, has_rule, IsLabel, AreRules, SetsEntry, most_rules}
use Rattle.nx_matrix.proofs.OrderLemmas.{Pair, pair_total, pair_same, not_less}
use Rattle.nx_matrix.proofs.EntryLemmas.{entry_insert, is_for_pair}
use Rattle.nx_catalog.specs.Catalog.{with_length, entry_byte, rule_bytes}
use Rattle.nx_catalog.specs.Reading.{◌>>=◌, counted_at, entry_at, rule_at, rules_at}
use Rattle.nx_catalog.proofs.FieldLemmas.{IsBytes, Takes, takes_then, bind_some, if_some, some_is, counted_takes, counted_again, entry_takes, entry_again}
use Rattle.nx_catalog.proofs.NameLemmas.{both_true, labelled}
use Rattle.nx_catalog.proofs.RisingLemmas.{Rises, EndAt, end_more, rising_pairs}
use Rattle.nx_catalog.proofs.ListedLemmas.{with_front, goes_on, all_come, items_take}

-- a rule that a catalog may hold
pub record IsRule (rule : Rule) : Type 0 where
  pub labels : HasLabels rule
  pub bound : rule.entry ≢ Free

pub rule_takes : (bytes : List ℕ) (x : Rule × List ℕ) → IsBytes bytes → rule_at bytes ≡ Some x → Takes bytes (rule_bytes x.0) x.1 × IsRule x.0
unfolding rule_at
rule_takes bytes x fits e =
    let a = bind_some (counted_at bytes)
    (λ parent. counted_at parent.1 >>= λ child. entry_at child.1 >>= λ entry.
    cond (is_parent_label parent.0 && is_child_label child.0) (Some (record { parent = parent.0; child = child.0; entry = entry.0 }, entry.1)) None) x e in
    let b = bind_some (counted_at a.0.1)
    (λ child. entry_at child.1 >>= λ entry. cond (is_parent_label a.0.0 && is_child_label child.0) (Some (record { parent = a.0.0; child = child.0; entry = entry.0 }, entry.1)) None) x a.2 in
    let c = bind_some (entry_at b.0.1) (λ entry. cond (is_parent_label a.0.0 && is_child_label b.0.0) (Some (record { parent = a.0.0; child = b.0.0; entry = entry.0 }, entry.1)) None) x b.2 in
    let g = if_some (is_parent_label a.0.0 && is_child_label b.0.0) (Some (record { parent = a.0.0; child = b.0.0; entry = c.0.0 }, c.0.1)) x c.2 in
    let parent = counted_takes bytes a.0 fits a.1 in
    let child = counted_takes a.0.1 b.0 parent.rest_fits b.1 in
    let entry = entry_takes b.0.1 c.0 child.rest_fits c.1 in
    let labels = both_true (is_parent_label a.0.0) (is_child_label b.0.0) g.0 in
    subst (λ (y : Rule × List ℕ). Takes bytes (rule_bytes y.0) y.1 × IsRule y.0) (some_is _ x g.1)
    (takes_then (with_length a.0.0 ++ with_length b.0.0) (entry_byte c.0.0 ∷ []) (takes_then (with_length a.0.0) (with_length b.0.0) parent child) entry.0, record { labels = labels; bound = entry.1 })

-- what was read has labels, whatever the bytes are
pub rule_labels : (bytes : List ℕ) (x : Rule × List ℕ) → rule_at bytes ≡ Some x → IsLabel (x.0).parent × IsLabel (x.0).child
unfolding rule_at
rule_labels bytes x e =
    let a = bind_some (counted_at bytes)
    (λ parent. counted_at parent.1 >>= λ child. entry_at child.1 >>= λ entry.
    cond (is_parent_label parent.0 && is_child_label child.0) (Some (record { parent = parent.0; child = child.0; entry = entry.0 }, entry.1)) None) x e in
    let b = bind_some (counted_at a.0.1)
    (λ child. entry_at child.1 >>= λ entry. cond (is_parent_label a.0.0 && is_child_label child.0) (Some (record { parent = a.0.0; child = child.0; entry = entry.0 }, entry.1)) None) x a.2 in
    let c = bind_some (entry_at b.0.1) (λ entry. cond (is_parent_label a.0.0 && is_child_label b.0.0) (Some (record { parent = a.0.0; child = b.0.0; entry = entry.0 }, entry.1)) None) x b.2 in
    let g = if_some (is_parent_label a.0.0 && is_child_label b.0.0) (Some (record { parent = a.0.0; child = b.0.0; entry = c.0.0 }, c.0.1)) x c.2 in
    let labels = both_true (is_parent_label a.0.0) (is_child_label b.0.0) g.0 in
    subst (λ (y : Rule × List ℕ). IsLabel (y.0).parent × IsLabel (y.0).child) (some_is _ x g.1) (labelled (record { parent = a.0.0; child = b.0.0; entry = c.0.0 }) labels)

pub rule_again : (r : Rule) (rest : List ℕ) → IsRule r → rule_at (rule_bytes r ++ rest) ≡ Some (r, rest)
unfolding rule_at
rule_again r rest is =
    let short = labelled r is.labels in
    let few = short.0.1 in
    let less = short.1.1 in
    let parent : is_parent_label r.parent ≡ true = is.labels.0 in
    let child : is_child_label r.child ≡ true = is.labels.1 in
    ap rule_at (append_assoc (with_length r.parent ++ with_length r.child) (entry_byte r.entry ∷ []) rest ∙ append_assoc (with_length r.parent) (with_length r.child) (entry_byte r.entry ∷ rest))
    ∙ rw (counted_again r.parent (with_length r.child ++ entry_byte r.entry ∷ rest) (omega (arith, few)), counted_again r.child (entry_byte r.entry ∷ rest) (omega (arith, less)), entry_again r.entry rest is.bound, parent, child) refl

each_labelled : (rules : List Rule) → AllByRecursion IsRule rules → AllByRecursion (λ r. IsLabel r.parent × IsLabel r.child) rules
each_labelled [] h = tt
each_labelled (r ∷ rules) h = (labelled r (h.0).labels, each_labelled rules h.1)

each_bound : (rules : List Rule) → AllByRecursion IsRule rules → AllByRecursion (λ r. r.entry ≢ Free) rules
each_bound [] h = tt
each_bound (r ∷ rules) h = ((h.0).bound, each_bound rules h.1)

-- rules that rise are those of a matrix
pub rising_rules : (last : Pair) (rules : List Rule) → length rules ≤ most_rules → AllByRecursion IsRule rules → Rises pair_cmp pair_of last rules → AreRules rules
rising_rules last rules few each rises = record {
  few = few;
  labelled = All-from_recursion (λ r. IsLabel r.parent × IsLabel r.child) rules (each_labelled rules each);
  bound = All-from_recursion (λ r. r.entry ≢ Free) rules (each_bound rules each);
  ordered = rising_pairs pair_cmp pair_of pair_total last rules rises;
}

-- ---- two matrices that say the same of each pair are one

-- a rule as an entry of a map
abbrev pub entries_of : List Rule → List (Pair × Entry)
entries_of rules = map (λ r. (pair_of r, r.entry)) rules

rule_from : Pair × Entry → Rule
rule_from e = record { parent = e.0.0; child = e.0.1; entry = e.1 }

rules_back : (rules : List Rule) → map rule_from (entries_of rules) ≡ rules
unfolding rule_from
rules_back [] = refl
rules_back (r ∷ rules) = ap (λ (rs : List Rule). r ∷ rs) (rules_back rules)

-- the entry, where it isn't free
named : Entry → Option Entry
named Standalone = Some Standalone
named Cluster = Some Cluster
named Free = None

named_bound : (entry : Entry) → entry ≢ Free → named entry ≡ Some entry
unfolding named
named_bound Standalone bound = refl
named_bound Cluster bound = refl
named_bound Free bound = absurd (bound refl)

both_true_back : (a b : Bool) → a ≡ true → b ≡ true → a && b ≡ true
both_true_back true b p q = q
both_true_back false b p q = absurd (cc)

same_test : (a b : Bool) → (a ≡ true → b ≡ true) → (b ≡ true → a ≡ true) → a ≡ b
same_test true true f g = refl
same_test true false f g = sym (f refl)
same_test false true f g = g refl
same_test false false f g = refl

tied : (o : Ordering) → is_eq o ≡ true → o ≡ Equal
tied Less e = absurd (cc)
tied Equal e = refl
tied Greater e = absurd (cc)

pub is_for_itself : (p c : List ℕ) (r : Rule) → pair_of r ≡ (p, c) → is_for p c r ≡ true
is_for_itself p c r same =
    both_true_back _ _ ((bytes_eq-Decides r.parent p).1 (ap (λ (x : Pair). x.0) same)) ((bytes_eq-Decides r.child c).1 (ap (λ (x : Pair). x.1) same))

-- a pair ties with that of a rule exactly where the rule is for it
is_asked : (p c : List ℕ) (r : Rule) → eq_by_cmp pair_cmp (p, c) (pair_of r) ≡ is_for p c r
is_asked p c r = same_test _ _
    (λ e. let same = pair_same (p, c) (pair_of r) (tied (pair_cmp (p, c) (pair_of r)) e) in is_for_itself p c r (sym same))
    (λ e. let same = is_for_pair p c r e in subst (λ (q : Pair). is_eq (pair_cmp q (pair_of r)) ≡ true) same (ap is_eq (tied_itself pair_total (pair_of r))))

find_named : (p c : List ℕ) (rules : List Rule) → AllByRecursion (λ r. r.entry ≢ Free) rules → find pair_cmp (p, c) (entries_of rules) ≡ named (entry_of rules p c)
unfolding named
find_named p c [] bound = refl
find_named p c (r ∷ rules) bound =
    ap (λ (b : Bool). cond b (Some r.entry) (find pair_cmp (p, c) (entries_of rules))) (is_asked p c r)
    ∙ elim (is_for p c r) as (λ b. cond b (Some r.entry) (find pair_cmp (p, c) (entries_of rules)) ≡ named (option_map_or (λ rule. rule.entry) (cond b (Some r) (list_find (is_for p c) rules)) Free)) [
      | true ↦ sym (named_bound r.entry bound.0)
      | false ↦ find_named p c rules bound.1
    ]

both : (a b : Bool) → T a → T b → T (a && b)
both true b p q = q
both false b p q = p

below : (q : Pair) (rules : List Rule) → AllByRecursion (λ r. pair_cmp q (pair_of r) ≡ Less) rules → T (below_all pair_cmp q (entries_of rules))
below q [] h = tt
below q (r ∷ rules) h = both _ _ (subst (λ o. T (is_lt o)) (sym h.0) tt) (below q rules h.1)

entries_sorted : (rules : List Rule) → AllPairs (λ a b. pair_cmp (pair_of a) (pair_of b) ≡ Less) rules → T (is_sorted pair_cmp (entries_of rules))
entries_sorted [] ordered = tt
entries_sorted (r ∷ rules) ordered =
    both _ _ (below (pair_of r) rules (recursion_from_All (λ y. pair_cmp (pair_of r) (pair_of y) ≡ Less) rules (λ k d lt. ordered 0 (suc k) d (omega arith) (omega arith))))
    (entries_sorted rules (λ i j d lt within. ordered (suc i) (suc j) d (omega arith) (omega arith)))

pub one_matrix : (a b : List Rule) → AreRules a → AreRules b → ((p c : List ℕ) → entry_of a p c ≡ entry_of b p c) → a ≡ b
one_matrix a b are be same =
    let entries : entries_of a ≡ entries_of b = same_entries pair_cmp pair_total pair_same (entries_of a) (entries_of b) (entries_sorted a are.ordered) (entries_sorted b be.ordered)
    (λ q. find_named q.0 q.1 a (recursion_from_All (λ r. r.entry ≢ Free) a are.bound) ∙ ap named (same q.0 q.1) ∙ sym (find_named q.0 q.1 b (recursion_from_All (λ r. r.entry ≢ Free) b be.bound))) in
    sym (rules_back a) ∙ ap (map rule_from) entries ∙ rules_back b

-- ---- what was read of the rules, and is in the matrix

pub record HasReadRules (count i : ℕ) (last : Pair) (bytes : List ℕ) (matrix : List Rule) (total : Option (List Rule × List ℕ)) : Type 0 where
  pub are : AreRules matrix
  pub rules : List Rule
  pub same : (p c : List ℕ) → entry_of matrix p c ≡ entry_of rules p c
  pub end : EndAt pair_cmp pair_of pair_total rules last
  pub so_far : with_front rules (rules_at (count - i) last bytes) ≡ total

none_before : (q : Pair) (rules : List Rule) → AllByRecursion (λ r. pair_cmp (pair_of r) q ≡ Less) rules → AllByRecursion (λ r. pair_of r ≢ q) rules
none_before q [] h = tt
none_before q (r ∷ rules) h = (not_less (pair_of r) q h.0, none_before q rules h.1)

put_last : (rules : List Rule) (r : Rule) → insert rules (length rules) r ≡ rules ++ r ∷ []
put_last rules r = ap (λ (front : List Rule). front ++ r ∷ drop (length rules) rules) (take_all (length rules) rules (omega arith)) ∙ ap (λ (back : List Rule). rules ++ r ∷ back) (drop_all (length rules) rules (omega arith))

-- what the rules say with one more at their end
pub entry_last : (rules : List Rule) (r : Rule) → AllByRecursion (λ x. pair_cmp (pair_of x) (pair_of r) ≡ Less) rules
    → (p c : List ℕ) → entry_of (rules ++ r ∷ []) p c ≡ cond (bytes_eq r.parent p && bytes_eq r.child c) r.entry (entry_of rules p c)
entry_last rules r lesser p c =
    ap (λ (rs : List Rule). entry_of rs p c) (sym (put_last rules r))
    ∙ entry_insert (pair_of r) p c rules (length rules) r refl (omega arith) (All-from_recursion (λ x. pair_of x ≢ pair_of r) rules (none_before (pair_of r) rules lesser))

pub first_rules : (count : ℕ) (bytes : List ℕ) (matrix : List Rule) → matrix ≡ [] → HasReadRules count 0 ([], []) bytes matrix (rules_at count ([], []) bytes)
first_rules count bytes matrix is = record {
  are = subst AreRules (sym is) (rising_rules ([], []) [] (omega arith) tt tt);
  rules = [];
  same = λ p c. ap (λ (rs : List Rule). entry_of rs p c) is;
  end = λ next lesser. tt;
  so_far = ap (λ (n : ℕ). with_front [] (rules_at n ([], []) bytes)) (let same : count - 0 ≡ count = omega arith in same) ∙ nothing (rules_at count ([], []) bytes);
}
  where
    nothing : (read : Option (List Rule × List ℕ)) → with_front [] read ≡ read
    nothing (Some x) = refl
    nothing None = refl

pub read_rule_more : {count i : ℕ} {last : Pair} {bytes : List ℕ} {matrix : List Rule} {total : Option (List Rule × List ℕ)} (new : List Rule) (r : Rule) (after : List ℕ) → HasReadRules count i last bytes matrix total → AreRules new
    → i < count → rule_at bytes ≡ Some (r, after) → pair_cmp last (pair_of r) ≡ Less → SetsEntry matrix new r.parent r.child r.entry → HasReadRules count (i + 1) (pair_of r) after new total
read_rule_more {count} {i} {last} {bytes} {matrix} {total} new r after h are lt found behind sets = record {
  are = are;
  rules = h.rules ++ r ∷ [];
  same = λ p c. sets p c ∙ ap (λ (e : Entry). cond (bytes_eq r.parent p && bytes_eq r.child c) r.entry e) (h.same p c) ∙ sym (entry_last h.rules r (h.end (pair_of r) behind) p c);
  end = end_more pair_cmp pair_of pair_total h.rules r last h.end behind;
  so_far = goes_on rule_at pair_cmp pair_of h.rules count i last bytes r after total lt found behind h.so_far;
}

-- all rules were read, and they are those of the matrix
pub all_rules : {count i : ℕ} {last : Pair} {bytes : List ℕ} {matrix : List Rule} (front : List ℕ) → IsBytes front → count ≤ most_rules → count ≤ i → HasReadRules count i last bytes matrix (rules_at count ([], []) front)
    → rules_at count ([], []) front ≡ Some (matrix, bytes)
all_rules {count} {i} {last} {bytes} {matrix} front fits few over h =
    let all = all_come rule_at pair_cmp pair_of h.rules count i last bytes (rules_at count ([], []) front) over h.so_far in
    let took = items_take rule_at pair_cmp pair_of rule_bytes IsRule rule_takes count ([], []) front (h.rules, bytes) fits all in
    let size = took.counted in
    let rules = rising_rules ([], []) h.rules (omega (arith, size, few)) took.each took.rises in
    all ∙ ap (λ (rs : List Rule). Some (rs, bytes)) (sym (one_matrix matrix h.rules h.are rules h.same))

-- ---- one rule more at most

abbrev map_of : List Rule → FinMap pair_cmp Entry
map_of rules = from_sorted {R = pair_cmp} (entries_of rules)

get_named : (rules : List Rule) → AreRules rules → (q : Pair) → get (map_of rules) q ≡ named (entry_of rules q.0 q.1)
get_named rules are q = get-from_sorted pair_cmp (entries_of rules) q (entries_sorted rules are.ordered) ∙ find_named q.0 q.1 rules (recursion_from_All (λ r. r.entry ≢ Free) rules are.bound)

size_of : (rules : List Rule) → AreRules rules → len (map_of rules) ≡ length rules
size_of rules are = len-entries (map_of rules) ∙ ap length (entries-from_sorted pair_cmp (entries_of rules) (entries_sorted rules are.ordered)) ∙ length-map {B = Pair × Entry} rules (λ r. (pair_of r, r.entry))

-- the pair that is set is asked for exactly where pairs tie
asks : (parent child : List ℕ) (q : Pair) → bytes_eq parent q.0 && bytes_eq child q.1 ≡ eq_by_cmp pair_cmp q (parent, child)
asks parent child q = same_test _ _
    (λ e.
    let parts = both_true (bytes_eq parent q.0) (bytes_eq child q.1) e in
    let p = (bytes_eq-Decides parent q.0).0 parts.0 in
    let c = (bytes_eq-Decides child q.1).0 parts.1 in
    let here : (parent, child) ≡ q = λ i. (p i, c i) in
    subst (λ (x : Pair). is_eq (pair_cmp x (parent, child)) ≡ true) here (ap is_eq (tied_itself pair_total (parent, child))))
    (λ e.
    let same = pair_same q (parent, child) (tied (pair_cmp q (parent, child)) e) in
    both_true_back _ _ ((bytes_eq-Decides parent q.0).1 (sym (ap (λ (x : Pair). x.0) same))) ((bytes_eq-Decides child q.1).1 (sym (ap (λ (x : Pair). x.1) same))))

-- the entry of one pair, set in the map of the rules
set_in : FinMap pair_cmp Entry → Pair → Entry → FinMap pair_cmp Entry
set_in m q Free = remove m q
set_in m q Standalone = map_insert m q Standalone
set_in m q Cluster = map_insert m q Cluster

get_set : (m : FinMap pair_cmp Entry) (pair : Pair) (entry : Entry) (q : Pair) → get (set_in m pair entry) q ≡ cond (eq_by_cmp pair_cmp q pair) (named entry) (get m q)
unfolding set_in named
get_set m pair Free q = get-remove pair_total m pair q
get_set m pair Standalone q = get-insert pair_total m pair Standalone q
get_set m pair Cluster q = get-insert pair_total m pair Cluster q

at_most : (b : Bool) (n m : ℕ) → m ≡ cond b n (n + 1) → m ≤ n + 1
at_most true n m e = omega (arith, e)
at_most false n m e = omega (arith, e)

less_than : (b : Bool) (n m : ℕ) → m ≡ cond b (n - 1) n → m ≤ n + 1
less_than true n m e = omega (arith, e)
less_than false n m e = omega (arith, e)

set_size : (m : FinMap pair_cmp Entry) (pair : Pair) (entry : Entry) → len (set_in m pair entry) ≤ len m + 1
unfolding set_in
set_size m pair Free = less_than (contains_key m pair) (len m) _ (len-remove pair_total m pair)
set_size m pair Standalone = at_most (contains_key m pair) (len m) _ (len-insert pair_total m pair Standalone)
set_size m pair Cluster = at_most (contains_key m pair) (len m) _ (len-insert pair_total m pair Cluster)

named_if : (b : Bool) (x y : Entry) → named (cond b x y) ≡ cond b (named x) (named y)
named_if true x y = refl
named_if false x y = refl

set_map : (old new : List Rule) (parent child : List ℕ) (entry : Entry) → AreRules old → AreRules new → SetsEntry old new parent child entry → map_of new ≡ set_in (map_of old) (parent, child) entry
set_map old new parent child entry are be sets = same_map pair_total pair_same _ _ (λ q.
    get_named new be q ∙ ap named (sets q.0 q.1) ∙ named_if (bytes_eq parent q.0 && bytes_eq child q.1) entry (entry_of old q.0 q.1)
    ∙ ap (λ (b : Bool). cond b (named entry) (named (entry_of old q.0 q.1))) (asks parent child q)
    ∙ ap (λ (o : Option Entry). cond (eq_by_cmp pair_cmp q (parent, child)) (named entry) o) (sym (get_named old are q))
    ∙ sym (get_set (map_of old) (parent, child) entry q))

pub one_rule_more : (old new : List Rule) (parent child : List ℕ) (entry : Entry) → AreRules old → AreRules new → SetsEntry old new parent child entry → length new ≤ length old + 1
one_rule_more old new parent child entry are be sets =
    let same = set_map old new parent child entry are be sets in
    let n = size_of new be in
    let o = size_of old are in
    let s = set_size (map_of old) (parent, child) entry in
    let l = ap len same in
    omega (arith, n, o, s, l)

-- ---- and just one where the pair had none

none_in : (p c : List ℕ) (rules : List Rule) → list_any (is_for p c) rules ≡ false → find pair_cmp (p, c) (entries_of rules) ≡ None
none_in p c [] none = refl
none_in p c (r ∷ rules) none =
    let both = either_false (is_for p c r) (list_any (is_for p c) rules) none in
    ap (λ (b : Bool). cond b (Some r.entry) (find pair_cmp (p, c) (entries_of rules))) (is_asked p c r ∙ both.0) ∙ none_in p c rules both.1
  where
    either_false : (a b : Bool) → a || b ≡ false → (a ≡ false) × (b ≡ false)
    either_false true b e = absurd (cc)
    either_false false b e = (refl, e)

lacks_key : (rules : List Rule) (p c : List ℕ) → AreRules rules → has_rule rules p c ≡ false → contains_key (map_of rules) (p, c) ≡ false
lacks_key rules p c are none = ap is_some (get-from_sorted pair_cmp (entries_of rules) (p, c) (entries_sorted rules are.ordered) ∙ none_in p c rules none)

grows : (m : FinMap pair_cmp Entry) (pair : Pair) (entry : Entry) → entry ≢ Free → contains_key m pair ≡ false → len (set_in m pair entry) ≡ len m + 1
unfolding set_in
grows m pair Free bound none = absurd (bound refl)
grows m pair Standalone bound none = len-insert pair_total m pair Standalone ∙ ap (λ b. cond b (len m) (len m + 1)) none
grows m pair Cluster bound none = len-insert pair_total m pair Cluster ∙ ap (λ b. cond b (len m) (len m + 1)) none

pub new_rule_more : (old new : List Rule) (parent child : List ℕ) (entry : Entry) → AreRules old → AreRules new → SetsEntry old new parent child entry → entry ≢ Free → has_rule old parent child ≡ false → length new ≡ length old + 1
new_rule_more old new parent child entry are be sets bound none =
    let n = size_of new be in
    let o = size_of old are in
    let g = grows (map_of old) (parent, child) entry bound (lacks_key old parent child are none) in
    let l = ap len (set_map old new parent child entry are be sets) in
    omega (arith, n, o, g, l)
