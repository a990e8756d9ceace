-- Changes of a catalog: what is put back, and the rules that are made.
use Rattle.std.proofs.Common.{◌≡◌, ◌≢◌, ℕ, suc, ◌+◌, ◌<◌, ◌≤◌, Bool, true, false, cond, ◌&&◌, List, [], ◌∷◌, ◌++◌, length, take, drop, Some, None, Less, Equal, Greater, is_eq, refl, sym, ap, ap₂, subst, ◌∙◌, arith}
use Rattle.std.specs.Prelude.{All, AllPairs, IsTrue, if◌then◌else◌, get_or}
use Rattle.std.specs.List.{AllByRecursion, find as list_find, AllZip}
use Rattle.std.specs.Option.{option_map_or, is_some}
use Rattle.std.specs.Str.{bytes_eq}
use Rattle.std.specs.Global.{Vec}
use Rattle.std.specs.Ordering.{eq_by_cmp}
use Rattle.std.specs.Cmp.{tied_itself}
use Rattle.std.specs.Cmp.Lexicographic.{nat_list_cmp_total}
use Rattle.std.specs.FinMap.{FinMap, get, insert, remove, contains_key, get-insert, get-remove, same_map, slice_cmp-IsAntisymmetric, nat_cmp-IsAntisymmetric}
use Rattle.std.proofs.Math.Seq.{take-suc, drop-cons}
use Rattle.std.proofs.lemmas.Slice.Eq.{bytes_eq-Decides}
use Rattle.std.proofs.lemmas.List.{take-append-drop, take_all}
use Rattle.std.proofs.lemmas.List.Elements.{recursion_from_All, All-from_recursion}
use Rattle.nx_pyx.specs.DocumentName.{name_order, by_bytes}
use Rattle.nx_matrix.specs.RuleLabels.{HasLabels, is_parent_label, is_child_label}
use Rattle.nx_matrix.specs.declared.rule.Entry.{Entry}
use Rattle.nx_matrix.specs.declared.rule.Entry.TheVariants.{Free}
use Rattle.nx_matrix.specs.declared.rule.Rule.{Rule}
use Rattle.nx_matrix.specs.Rules.{pair_cmp, pair_of, is_for, entry_of, AreRules, SetsEntry}
use Rattle.nx_matrix.proofs.OrderLemmas.{Pair, not_less}
use Rattle.nx_matrix.proofs.EntryLemmas.{is_for_pair}
use Rattle.nx_hold.specs.declared.entry.DocEntry.{DocEntry}
use Rattle.nx_host.specs.declared.disk.Disk.{Ghosts}
use Rattle.nx_holdings.specs.Holdings.{Held}
use Rattle.nx_records.specs.declared.records.Records.{Records}
use Rattle.nx_records.specs.declared.error.StoreError.{StoreError}
use Rattle.nx_records.specs.declared.error.StoreError.TheVariants as store
use Rattle.nx_records.specs.Records.{has_ended}
use Rattle.nx_records.specs.Changes.{catalog_needs}
use Rattle.nx_records.specs.Refusals.{EndNow, IsFull, NotChanged, NotStored}
use Rattle.nx_catalog.specs.Catalog.{Contents, catalog_bytes}
use Rattle.nx_catalog.specs.declared.saving.RuleError.TheVariants as rules
use Rattle.nx_catalog.specs.Saving.{MakesRule, NotRuled}
use Rattle.nx_catalog.proofs.NameLemmas.{both_true}
use Rattle.nx_catalog.proofs.RuleLemmas.{is_for_itself, entry_last, one_matrix}

-- ---- names

module _ {X : Type 0} (m : FinMap name_order X) (name : List ℕ) (v : X) where
  pub there_then : contains_key (insert m name v) name ≡ true
  there_then = ap is_some (get-insert nat_list_cmp_total m name v name ∙ ap (λ o. cond (is_eq o) (Some v) (get m name)) (tied_itself nat_list_cmp_total name))

  -- an entry under a new name, taken out again
  pub taken_back : get m name ≡ None → remove (insert m name v) name ≡ m
  taken_back none =
      same_map nat_list_cmp_total (slice_cmp-IsAntisymmetric nat_cmp-IsAntisymmetric) (remove (insert m name v) name) m
      (λ q. get-remove nat_list_cmp_total (insert m name v) name q ∙ ap (cond (eq_by_cmp name_order q name) None) (get-insert nat_list_cmp_total m name v q) ∙ left q)
    where
      left : (q : List ℕ) → cond (eq_by_cmp name_order q name) None (cond (eq_by_cmp name_order q name) (Some v) (get m q)) ≡ get m q
      left q = elim (name_order q name) as (λ o. name_order q name ≡ o → cond (is_eq o) None (cond (is_eq o) (Some v) (get m q)) ≡ get m q) [
        | Less ↦ λ e. refl
        | Equal ↦ λ e. sym (subst (λ x. get m x ≡ None) (sym (slice_cmp-IsAntisymmetric nat_cmp-IsAntisymmetric q name e)) none)
        | Greater ↦ λ e. refl
      ] refl

  -- another entry under a name, replaced by the one before
  pub put_back : (w : X) → get m name ≡ Some w → insert (insert m name v) name w ≡ m
  put_back w some =
      same_map nat_list_cmp_total (slice_cmp-IsAntisymmetric nat_cmp-IsAntisymmetric) (insert (insert m name v) name w) m
      (λ q. get-insert nat_list_cmp_total (insert m name v) name w q ∙ ap (cond (eq_by_cmp name_order q name) (Some w)) (get-insert nat_list_cmp_total m name v q) ∙ left q)
    where
      left : (q : List ℕ) → cond (eq_by_cmp name_order q name) (Some w) (cond (eq_by_cmp name_order q name) (Some v) (get m q)) ≡ get m q
      left q = elim (name_order q name) as (λ o. name_order q name ≡ o → cond (is_eq o) (Some w) (cond (is_eq o) (Some v) (get m q)) ≡ get m q) [
        | Less ↦ λ e. refl
        | Equal ↦ λ e. sym (subst (λ x. get m x ≡ Some w) (sym (slice_cmp-IsAntisymmetric nat_cmp-IsAntisymmetric q name e)) some)
        | Greater ↦ λ e. refl
      ] refl

-- ---- entries

-- a copy of entries has the same names and places
pub same_entries : (C : Vec ℕ → Vec ℕ → Type 0) (D : DocEntry → DocEntry → Type 0) → ((v w : Vec ℕ) → C v w → w.items ≡ v.items) → ((d e : DocEntry) → D d e → e ≡ d) → (es fs : List (Vec ℕ × DocEntry))
    → AllZip (λ p q. C p.0 q.0 × D p.1 q.1) es fs → by_bytes fs ≡ by_bytes es
same_entries C D names places [] [] h = refl
same_entries C D names places [] (f ∷ fs) h = absurd h
same_entries C D names places (e ∷ es) [] h = absurd h
same_entries C D names places (e ∷ es) (f ∷ fs) h =
    ap₂ (λ (d : List ℕ × DocEntry) (ds : List (List ℕ × DocEntry)). d ∷ ds) (ap₂ (λ (n : List ℕ) (d : DocEntry). (n, d)) (names e.0 f.0 (h.0).0) (places e.1 f.1 (h.0).1)) (same_entries C D names places es fs h.1)

-- ---- labels

-- a rule behind a lesser one isn't for its pair
behind_not : (x r : Rule) → pair_cmp (pair_of x) (pair_of r) ≡ Less → is_for r.parent r.child x ≡ false
behind_not x r less = elim (is_for r.parent r.child x) as (λ b. is_for r.parent r.child x ≡ b → b ≡ false) [
  | true ↦ λ e. absurd (not_less (pair_of x) (pair_of r) less (is_for_pair r.parent r.child x e))
  | false ↦ λ e. refl
] refl

all_behind : (x : Rule) (whole rules : List Rule) → AllByRecursion (λ r. pair_cmp (pair_of x) (pair_of r) ≡ Less) rules → AllByRecursion (λ r. entry_of whole r.parent r.child ≡ r.entry) rules
    → AllByRecursion (λ r. entry_of (x ∷ whole) r.parent r.child ≡ r.entry) rules
all_behind x whole [] less said = tt
all_behind x whole (r ∷ rules) less said = (
  ap (λ (b : Bool). option_map_or (λ (rule : Rule). rule.entry) (cond b (Some x) (list_find (is_for r.parent r.child) whole)) Free) (behind_not x r less.0) ∙ said.0,
  all_behind x whole rules less.1 said.1,
)

-- each rule of a matrix is what its rules say of its pair
each_said : (rules : List Rule) → AllPairs (λ a b. pair_cmp (pair_of a) (pair_of b) ≡ Less) rules → AllByRecursion (λ r. entry_of rules r.parent r.child ≡ r.entry) rules
each_said [] ordered = tt
each_said (x ∷ rules) ordered = (
  ap (λ (b : Bool). option_map_or (λ (rule : Rule). rule.entry) (cond b (Some x) (list_find (is_for x.parent x.child) rules)) Free) (is_for_itself x.parent x.child x refl),
  all_behind x rules rules (recursion_from_All (λ y. pair_cmp (pair_of x) (pair_of y) ≡ Less) rules (λ k d lt. ordered 0 (suc k) d (omega arith) (omega arith)))
      (each_said rules (λ i j d lt within. ordered (suc i) (suc j) d (omega arith) (omega arith))),
)

-- where rules say something of a pair they have its labels
labels_found : (p c : List ℕ) (rules : List Rule) → AllByRecursion HasLabels rules → entry_of rules p c ≢ Free → IsTrue (is_parent_label p) × IsTrue (is_child_label c)
labels_found p c [] labels said = absurd (said refl)
labels_found p c (x ∷ rules) labels said =
    (elim (is_for p c x) as (λ b. is_for p c x ≡ b → option_map_or (λ (rule : Rule). rule.entry) (cond b (Some x) (list_find (is_for p c) rules)) Free ≢ Free → IsTrue (is_parent_label p) × IsTrue (is_child_label c)) [
      | true ↦ λ e some. subst (λ (q : Pair). IsTrue (is_parent_label q.0) × IsTrue (is_child_label q.1)) (is_for_pair p c x e) labels.0
      | false ↦ λ e some. labels_found p c rules labels.1 some
    ]) refl said

made_labels : (old new : List Rule) (rule : Rule) → AllByRecursion HasLabels old → HasLabels rule → SetsEntry old new rule.parent rule.child rule.entry → (rules : List Rule)
    → AllByRecursion (λ r. entry_of new r.parent r.child ≡ r.entry) rules → AllByRecursion (λ r. r.entry ≢ Free) rules → AllByRecursion HasLabels rules
made_labels old new rule labels has sets [] said bound = tt
made_labels old new rule labels has sets (r ∷ rules) said bound = (
  (elim (bytes_eq rule.parent r.parent && bytes_eq rule.child r.child) as (λ b. bytes_eq rule.parent r.parent && bytes_eq rule.child r.child ≡ b → entry_of new r.parent r.child ≡ (if b then rule.entry else entry_of old r.parent r.child) → HasLabels r) [
    | true ↦ λ e is.
        let parts = both_true (bytes_eq rule.parent r.parent) (bytes_eq rule.child r.child) e in
        (subst (λ (n : List ℕ). IsTrue (is_parent_label n)) ((bytes_eq-Decides rule.parent r.parent).0 parts.0) has.0, subst (λ (n : List ℕ). IsTrue (is_child_label n)) ((bytes_eq-Decides rule.child r.child).0 parts.1) has.1)
    | false ↦ λ e is. labels_found r.parent r.child old labels (λ free. bound.0 (sym said.0 ∙ is ∙ free))
  ]) refl (sets r.parent r.child),
  made_labels old new rule labels has sets rules said.1 bound.1,
)

-- with a rule made each rule has labels, where each had and this one has
pub makes_labels : (old new : List Rule) (rule : Rule) → All HasLabels old → HasLabels rule → MakesRule old rule new → All HasLabels new
makes_labels old new rule labels has makes =
    All-from_recursion HasLabels new
    (made_labels old new rule (recursion_from_All HasLabels old labels) has makes.sets new (each_said new (makes.are).ordered) (recursion_from_All (λ r. r.entry ≢ Free) new (makes.are).bound))

-- ---- rules copied one after another

middle_of : (P : Rule → Type 0) (a : List Rule) (r : Rule) (b : List Rule) → AllByRecursion P (a ++ r ∷ b) → P r
middle_of P [] r b h = h.0
middle_of P (x ∷ a) r b h = middle_of P a r b h.1

all_before : (a : List Rule) (r : Rule) (b : List Rule) → AllPairs (λ a b. pair_cmp (pair_of a) (pair_of b) ≡ Less) (a ++ r ∷ b) → AllByRecursion (λ x. pair_cmp (pair_of x) (pair_of r) ≡ Less) a
all_before [] r b ordered = tt
all_before (x ∷ a) r b ordered = (
  middle_of (λ y. pair_cmp (pair_of x) (pair_of y) ≡ Less) a r b (recursion_from_All (λ y. pair_cmp (pair_of x) (pair_of y) ≡ Less) (a ++ r ∷ b) (λ k d lt. ordered 0 (suc k) d (omega arith) (omega arith))),
  all_before a r b (λ i j d lt within. ordered (suc i) (suc j) d (omega arith) (omega arith)),
)

-- the first so many rules were copied
pub record IsCopied (rules : List Rule) (i : ℕ) (copy : List Rule) : Type 0 where
  pub are : AreRules copy
  pub same : (p c : List ℕ) → entry_of copy p c ≡ entry_of (take i rules) p c

pub copied_more : (rules : List Rule) (i : ℕ) (r : Rule) (copy new : List Rule) → AreRules rules → AreRules new → i < length rules → get_or rules i r ≡ r → IsCopied rules i copy → SetsEntry copy new r.parent r.child r.entry → IsCopied rules (i + 1) new
copied_more rules i r copy new are be lt is so sets =
    let behind : drop i rules ≡ r ∷ drop (suc i) rules = drop-cons rules i r lt ∙ ap (λ (x : Rule). x ∷ drop (suc i) rules) is in
    let whole : rules ≡ take i rules ++ r ∷ drop (suc i) rules = sym (take-append-drop i rules) ∙ ap (λ (rs : List Rule). take i rules ++ rs) behind in
    let lesser = all_before (take i rules) r (drop (suc i) rules) (subst (λ (rs : List Rule). AllPairs (λ a b. pair_cmp (pair_of a) (pair_of b) ≡ Less) rs) whole are.ordered) in
    let number : i + 1 ≡ suc i = omega arith in
    let next : take (i + 1) rules ≡ take i rules ++ r ∷ [] = ap (λ (n : ℕ). take n rules) number ∙ take-suc rules i r lt ∙ ap (λ (x : Rule). take i rules ++ x ∷ []) is in
    record {
      are = be;
      same = λ p c. sets p c ∙ ap (λ (e : Entry). cond (bytes_eq r.parent p && bytes_eq r.child c) r.entry e) (so.same p c) ∙ sym (entry_last (take i rules) r lesser p c) ∙ ap (λ (rs : List Rule). entry_of rs p c) (sym next);
    }

pub copied_all : (rules : List Rule) (i : ℕ) (copy : List Rule) → AreRules rules → length rules ≤ i → IsCopied rules i copy → copy ≡ rules
copied_all rules i copy are over so = one_matrix copy rules so.are are (λ p c. so.same p c ∙ ap (λ (rs : List Rule). entry_of rs p c) (take_all i rules over))

-- none was copied yet
pub copied_none : (rules copy : List Rule) → AreRules copy → copy ≡ [] → IsCopied rules 0 copy
copied_none rules copy are none = record { are = are; same = λ p c. ap (λ (rs : List Rule). entry_of rs p c) none }

-- ---- refusals

module _ {D : Type 0} (d : Ghosts D) {r0 r1 : Records} {x0 x1 : D} where
  -- no page was free where a store has some
  pub full_changed : {r2 : Records} (needs : Held → ℕ) (e : StoreError) → e ≡ store.Damaged 0 → IsFull d needs r0 r1 x0 x1 → (has_ended r1 ≡ false → EndNow r1 r2) → NotChanged d (λ was. was.free < needs was) 0 e r0 r2 x0 x1
  full_changed {r2} needs e is full ends =
      let now = ends (full.runs).after in
      subst (λ (x : StoreError). NotChanged d (λ was. was.free < needs was) 0 x r0 r2 x0 x1) (sym is) (record {
        page = refl;
        ends = record { before = (full.runs).before; after = now.after; length_stays = now.length_stays ∙ (full.runs).length_stays; settings_stay = now.settings_stay ∙ (full.runs).settings_stay };
        lacks = full.few;
      })

module _ {D : Type 0} (d : Ghosts D) (r0 r1 : Records) (x0 x1 : D) where
  -- a refusal to save what got shorter
  pub removed_refused : (r2 : Records) (needs : Held → ℕ) (e told : StoreError) → (e ≡ store.Full → (told ≡ store.Damaged 0) × (has_ended r1 ≡ false → EndNow r1 r2)) → ((e ≡ store.Full → ⊥) → (told ≡ e) × (r2 ≡ r1))
      → NotStored d needs (λ was. ⊥) 0 e r0 r1 x0 x1 → NotChanged d (λ was. was.free < needs was) 0 told r0 r2 x0 x1
  removed_refused r2 needs e told full other h = by_error e refl full other h
    where
      handed : (x : StoreError) → (told ≡ x) × (r2 ≡ r1) → NotChanged d (λ was. was.free < needs was) 0 x r0 r1 x0 x1 → NotChanged d (λ was. was.free < needs was) 0 told r0 r2 x0 x1
      handed x same h =
          subst (λ (t : StoreError). NotChanged d (λ was. was.free < needs was) 0 t r0 r2 x0 x1) (sym same.0) (subst (λ (r : Records). NotChanged d (λ was. was.free < needs was) 0 x r0 r x0 x1) (sym same.1) h)

      by_error : (x : StoreError) → e ≡ x → (x ≡ store.Full → (told ≡ store.Damaged 0) × (has_ended r1 ≡ false → EndNow r1 r2)) → ((x ≡ store.Full → ⊥) → (told ≡ x) × (r2 ≡ r1))
          → NotStored d needs (λ was. ⊥) 0 x r0 r1 x0 x1 → NotChanged d (λ was. was.free < needs was) 0 told r0 r2 x0 x1
      by_error store.Full is full other h = full_changed d {r0 = r0} {r1 = r1} {x0 = x0} {x1 = x1} needs told (full refl).0 h (full refl).1
      by_error store.Disk is full other h = handed store.Disk (other (λ s. cc)) h
      by_error (store.Damaged page) is full other h = handed (store.Damaged page) (other (λ s. cc)) (record { page = h.page; ends = h.ends; lacks = λ saved now stands. absurd (h.lacks saved now stands) })
      by_error store.Ended is full other h = handed store.Ended (other (λ s. cc)) h
      by_error store.Memory is full other h = handed store.Memory (other (λ s. cc)) h
      by_error store.Exists is full other h = absurd h
      by_error store.NotAStore is full other h = absurd h

  pub stored_ruled : (contents : Contents) (rule : Rule) (new : List Rule) (e : StoreError) → MakesRule contents.rules rule new → NotStored d (λ was. catalog_needs (catalog_bytes (record { documents = contents.documents; rules = new })) was) (λ was. ⊥) 0 e r0 r1 x0 x1
      → NotRuled d contents rule (rules.Store e) r0 r1 x0 x1
  stored_ruled contents rule new store.Full makes h = record { rules = new; makes = makes; full = h }
  stored_ruled contents rule new store.Disk makes h = h
  stored_ruled contents rule new (store.Damaged page) makes h = h
  stored_ruled contents rule new store.Ended makes h = h
  stored_ruled contents rule new store.Memory makes h = h
  stored_ruled contents rule new store.Exists makes h = absurd h
  stored_ruled contents rule new store.NotAStore makes h = absurd h
