-- The intervals of the separator's plan: where one begins, and that nodes in document order give all of them.
use Rattle.std.proofs.Common.{◌≡◌, ℕ, ◌+◌, ◌<◌, ◌≤◌, eqb, Bool, true, false, ◌&&◌, ◌||◌, not, if◌then◌else◌, List, [], ◌∷◌, ◌++◌, length, get_or, None, Some, refl, sym, ap, subst, ◌∙◌, arith, length-append, ◌⊎◌, inl, inr}
use Rattle.std.specs.Bool.{Decides, IsTrue}
use Rattle.std.specs.List.{AllPairs, Contains, find, list_any}
use Rattle.std.specs.Str.{bytes_eq}
use Rattle.std.proofs.lemmas.Bool.{and_parts, cases_Bool, cases_order, false≢true}
use Rattle.std.proofs.lemmas.Bool.Decides.{Decides-and, Decides-at, Decides-eqb, Decides-like, Decides-not, Decides-or}
use Rattle.std.proofs.lemmas.List.{get_or_default}
use Rattle.std.proofs.lemmas.List.Elements.{Contains-append_left, Contains-get_or, Contains-push, Contains-push_cases}
use Rattle.std.proofs.lemmas.List.Quantifiers.{all_pairs_push}
use Rattle.std.proofs.lemmas.Slice.Eq.{bytes_eq-Decides}
use Rattle.nx_lists.proofs.ListLemmas.{contains_here, contains_there, contains_parts}
use Rattle.nx_matrix.specs.declared.rule.Entry.{Entry}
use Rattle.nx_matrix.specs.declared.rule.Entry.TheVariants.{Standalone, Cluster, Free}
use Rattle.nx_parts.specs.declared.interval.Interval.{Interval}
use Rattle.nx_parts.specs.declared.interval.Interval.TheVariants.{Root, Run}
use Rattle.nx_parts.specs.Order.{AreInOrder, ComesBefore, first_member}
use Rattle.nx_sketch.specs.Sketch.{Placed}
use Rattle.nx_sketch.specs.Plan.{HasNodeAt}
use Rattle.nx_sketch.specs.Separator.{IsLoose, IsSeparatorPlan, IsSeparatorRun, IsSingle, is_before, is_left, is_marked}
use Rattle.nx_sketch.proofs.OrderLemmas.{comes_itself}
use Rattle.nx_division_tests.specs.Runs.{AddsRun, BeginsRow, IsNoStart, IsOnlyRun, IsRowEnd, IsStart}
use Rattle.nx_division_tests.specs.Tests.{is_loose, is_single, is_standalone, loose_test, same_bool, single_test}
use Rattle.nx_matrix.specs.Rules.{is_free}
use Rattle.nx_division_tests.proofs.TestLemmas.{any_decides}
use Rattle.nx_division_tests.proofs.PathLemmas.{before_decides, same_ends}
use Rattle.nx_division_tests.proofs.PlanLemmas.{standalone_decides}

free_decides : (e : Entry) → Decides (is_free e) (e ≡ Free)
free_decides Standalone = (λ h. absurd (false≢true h), λ e. cc)
free_decides Cluster = (λ h. absurd (false≢true h), λ e. cc)
free_decides Free = (λ _. refl, λ _. refl)

not_decides : (b : Bool) → Decides (not b) (b ≡ false)
not_decides true = (λ h. absurd (false≢true h), λ e. cc)
not_decides false = (λ _. refl, λ _. refl)

same_decides : (a b : Bool) → Decides (same_bool a b) (a ≡ b)
same_decides true true = (λ _. refl, λ _. refl)
same_decides true false = (λ h. absurd (false≢true h), λ e. cc)
same_decides false true = (λ h. absurd (false≢true h), λ e. cc)
same_decides false false = (λ _. refl, λ _. refl)

true_decides : (b : Bool) → Decides b (b ≡ true)
true_decides b = (λ h. h, λ h. h)

pub loose_decides : (nodes : List Placed) (t tolerance : ℕ) (left : Bool) (path : List ℕ) → Decides (loose_test nodes t tolerance left path) (IsLoose nodes t tolerance left path)
loose_decides nodes t tolerance left path =
    Decides-like (loose_test nodes t tolerance left path)
    (λ h. record {
      free = (h.0, h.1, h.2.0, h.2.1.0.0);
      unmarked = subst (λ q. is_marked nodes t tolerance q ≡ false) h.2.0 h.2.1.0.1;
      side = subst (λ q. is_left nodes t q ≡ left) h.2.0 h.2.1.1;
    })
    (λ l. let f = l.free in (f.0, f.1, (f.2, ((f.3, subst (λ q. is_marked nodes t tolerance q ≡ false) (sym f.2) l.unmarked), subst (λ q. is_left nodes t q ≡ left) (sym f.2) l.side))))
    (any_decides (λ (n : Placed). bytes_eq n.path path && is_loose nodes t tolerance left n)
    (λ (n : Placed). (n.path ≡ path) × (((n.entry ≡ Free) × (is_marked nodes t tolerance n.path ≡ false)) × (is_left nodes t n.path ≡ left)))
    (λ n.
    let m = is_marked nodes t tolerance n.path in let s = is_left nodes t n.path in
    Decides-and (bytes_eq n.path path) (is_loose nodes t tolerance left n) (bytes_eq-Decides n.path path)
    (Decides-and (is_free n.entry && not m) (same_bool s left) (Decides-and (is_free n.entry) (not m) (free_decides n.entry) (not_decides m)) (same_decides s left)))
    nodes)

-- the node that is looked for
found_none : (p : Placed → Bool) (xs : List Placed) → find p xs ≡ None → list_any p xs ≡ false
found_none p [] e = refl
found_none p (x ∷ xs) e = elim (cases_Bool (p x)) [
  | inl passes ↦ absurd (let f : Some x ≡ None = sym (ap (λ b. if b then Some x else find p xs) passes) ∙ e in cc)
  | inr fails ↦ ap (λ b. b || list_any p xs) fails ∙ found_none p xs (sym (ap (λ b. if b then Some x else find p xs) fails) ∙ e)
]

found_some : (p : Placed → Bool) (xs : List Placed) (y : Placed) → find p xs ≡ Some y → (p y ≡ true) × (list_any p xs ≡ true)
found_some p [] y e = absurd (cc)
found_some p (x ∷ xs) y e = elim (cases_Bool (p x)) [
  | inl passes ↦
      let f : Some x ≡ Some y = sym (ap (λ b. if b then Some x else find p xs) passes) ∙ e in
      let same : x ≡ y = cc in
      (subst (λ z. p z ≡ true) same passes, ap (λ b. b || list_any p xs) passes)
  | inr fails ↦
      let r = found_some p xs y (sym (ap (λ b. if b then Some x else find p xs) fails) ∙ e) in
      (r.0, ap (λ b. b || list_any p xs) fails ∙ r.1)
]

pub not_found : {nodes : List Placed} {t tolerance : ℕ} (left : Bool) (path : List ℕ) → find (λ (n : Placed). bytes_eq n.path path && is_loose nodes t tolerance left n) nodes ≡ None → ¬ IsLoose nodes t tolerance left path
not_found {nodes} {t} {tolerance} left path e loose =
    false≢true (sym (found_none (λ (n : Placed). bytes_eq n.path path && is_loose nodes t tolerance left n) nodes e) ∙ (loose_decides nodes t tolerance left path).1 loose)

pub is_found : {nodes : List Placed} {t tolerance : ℕ} (left : Bool) (path : List ℕ) (node : Placed) → find (λ (n : Placed). bytes_eq n.path path && is_loose nodes t tolerance left n) nodes ≡ Some node → (node.path ≡ path) × IsLoose nodes t tolerance left path
is_found {nodes} {t} {tolerance} left path node e =
    let f = found_some (λ (n : Placed). bytes_eq n.path path && is_loose nodes t tolerance left n) nodes node e in
    ((bytes_eq-Decides node.path path).0 (and_parts (bytes_eq node.path path) (is_loose nodes t tolerance left node) f.0).0, (loose_decides nodes t tolerance left path).0 f.1)

no_parent : (parent : List ℕ) (x : ℕ) → length (parent ++ x ∷ []) ≡ 1 → parent ≡ []
no_parent [] x e = refl
no_parent (a ∷ []) x e = absurd (omega arith)
no_parent (a ∷ b ∷ parent) x e = absurd (omega arith)

pub single_decides : (nodes : List Placed) (t tolerance : ℕ) (parent : List ℕ) (first : ℕ) → Decides (single_test nodes t tolerance (parent ++ first ∷ [])) (IsSingle nodes t tolerance parent first)
single_decides nodes t tolerance parent first =
    let path = parent ++ first ∷ [] in
    Decides-like (single_test nodes t tolerance path)
    (λ h. elim h.2.1 as (λ _. IsSingle nodes t tolerance parent first) [
      | inl s ↦ inl (h.0, h.1, h.2.0, s)
      | inr m ↦
          let none = no_parent parent first (sym (ap length h.2.0) ∙ m.0) in
          inr (none, subst (λ r. HasNodeAt nodes (r ++ first ∷ [])) none (h.0, h.1, h.2.0), subst (λ r. is_marked nodes t tolerance (r ++ first ∷ []) ≡ true) none (subst (λ q. is_marked nodes t tolerance q ≡ true) h.2.0 m.1))
    ])
    (λ s. elim s as (λ _. (n : Placed) × Contains nodes n × ((n.path ≡ path) × ((n.entry ≡ Standalone) ⊎ ((length n.path ≡ 1) × (is_marked nodes t tolerance n.path ≡ true))))) [
      | inl at ↦ (at.0, at.1, (at.2, inl at.3))
      | inr r ↦
          let at = r.1 in
          (at.0, at.1, (at.2 ∙ ap (λ q. q ++ first ∷ []) (sym r.0), inr (ap length at.2, subst (λ q. is_marked nodes t tolerance q ≡ true) (sym at.2) r.2)))
    ])
    (any_decides (λ (n : Placed). bytes_eq n.path path && is_single nodes t tolerance n)
    (λ (n : Placed). (n.path ≡ path) × ((n.entry ≡ Standalone) ⊎ ((length n.path ≡ 1) × (is_marked nodes t tolerance n.path ≡ true))))
    (λ n.
    let m = is_marked nodes t tolerance n.path in
    Decides-and (bytes_eq n.path path) (is_single nodes t tolerance n) (bytes_eq-Decides n.path path)
    (Decides-or (is_standalone n.entry) (eqb (length n.path) 1 && m) (standalone_decides n.entry) (Decides-and (eqb (length n.path) 1) m (Decides-eqb (length n.path) 1) (true_decides m))))
    nodes)

-- tests of a row's start
opened_decides : (parent : List ℕ) (m : Bool) → Decides (eqb (length parent) 0 || m) ((parent ≡ []) ⊎ (m ≡ true))
opened_decides parent m =
    Decides-or (eqb (length parent) 0) m (Decides-like (eqb (length parent) 0) (none parent) (λ e. ap length e) (Decides-eqb (length parent) 0)) (true_decides m)
  where
    none : (xs : List ℕ) → length xs ≡ 0 → xs ≡ []
    none [] e = refl
    none (x ∷ xs) e = absurd (omega arith)

pub opened_then : {m : Bool} (parent : List ℕ) → true ≡ eqb (length parent) 0 → Decides true ((parent ≡ []) ⊎ (m ≡ true))
opened_then {m} parent e = Decides-at true (eqb (length parent) 0 || m) (ap (λ b. b || m) e) (opened_decides parent m)

pub opened_else : {m : Bool} (parent : List ℕ) (r : Bool) → false ≡ eqb (length parent) 0 → r ≡ m → Decides r ((parent ≡ []) ⊎ (m ≡ true))
opened_else {m} parent r e h = Decides-at r (eqb (length parent) 0 || m) (h ∙ ap (λ b. b || m) e) (opened_decides parent m)

pub begun_decides : {P : ℕ → Type 0} (r : Bool) (first before : ℕ) → before + 1 ≡ first → Decides r (P before) → Decides (not r) ((position : ℕ) → position + 1 ≡ first → ¬ P position)
begun_decides {P} r first before e d =
    Decides-like (not r) (λ n position at loose. n (subst P (let same : position ≡ before = omega arith in same) loose)) (λ f. f before e) (Decides-not r d)

abbrev pub AreOrdered : List Placed → Type 0
AreOrdered nodes = AllPairs (λ (a b : Placed). IsTrue (is_before a.path b.path)) nodes

pub later_comes : (nodes : List Placed) → AreOrdered nodes → (i k : ℕ) (d : Placed) → i < k → k < length nodes → ComesBefore (get_or nodes i d).path (get_or nodes k d).path
later_comes nodes o i k d low high = (before_decides (get_or nodes i d).path (get_or nodes k d).path).0 (o i k d low high)

not_later : (nodes : List Placed) → AreOrdered nodes → (a b : Placed) (i k : ℕ) → i < k → k < length nodes → get_or nodes i a ≡ a → get_or nodes k b ≡ b → a.path ≡ b.path → ⊥
not_later nodes o a b i k low high x y same =
    let comes = later_comes nodes o i k a low high in
    let q : get_or nodes k a ≡ b = get_or_default nodes k a b high ∙ y in
    let back : ComesBefore a.path b.path = subst (λ (n : Placed). ComesBefore n.path b.path) x (subst (λ (n : Placed). ComesBefore (get_or nodes i a).path n.path) q comes) in
    comes_itself b.path (subst (λ p. ComesBefore p b.path) same back)

-- no two nodes have one path
pub one_node : (nodes : List Placed) → AreOrdered nodes → (a b : Placed) → Contains nodes a → Contains nodes b → a.path ≡ b.path → a ≡ b
one_node nodes o a b x y same =
    elim (cases_order x.0 y.0) [
      | inl at ↦ sym x.2 ∙ get_or_default nodes x.0 a b x.1 ∙ ap (λ i. get_or nodes i b) at ∙ y.2
      | inr other ↦ elim other [
        | inl less ↦ absurd (not_later nodes o a b x.0 y.0 less y.1 x.2 y.2 same)
        | inr more ↦ absurd (not_later nodes o b a y.0 x.0 more x.1 y.2 x.2 (sym same))
      ]
    ]

pub single_not_loose : {nodes : List Placed} {t tolerance : ℕ} → AreOrdered nodes → (left : Bool) (parent : List ℕ) (first : ℕ) → IsSingle nodes t tolerance parent first → IsLoose nodes t tolerance left (parent ++ first ∷ []) → ⊥
single_not_loose {nodes} {t} {tolerance} o left parent first (inl at) loose =
    let f = loose.free in
    let same = one_node nodes o at.0 f.0 at.1 f.1 (at.2 ∙ sym f.2) in
    let e : Standalone ≡ Free = sym at.3 ∙ ap (λ (n : Placed). n.entry) same ∙ f.3 in cc
single_not_loose {nodes} {t} {tolerance} o left parent first (inr at) loose =
    let marked : is_marked nodes t tolerance (parent ++ first ∷ []) ≡ true = subst (λ r. is_marked nodes t tolerance (r ++ first ∷ []) ≡ true) (sym at.0) at.2 in
    false≢true (sym loose.unmarked ∙ marked)

-- one that is alone is the only one that begins there
pub single_run : {nodes : List Placed} {t tolerance : ℕ} → AreOrdered nodes → (parent : List ℕ) (first : ℕ) → IsSingle nodes t tolerance parent first → IsOnlyRun nodes t tolerance parent first first
single_run {nodes} {t} {tolerance} o parent first single = record { run = inl (refl, single); only = others }
  where
    others : (other : ℕ) → IsSeparatorRun nodes t tolerance (Run parent first other) → other ≡ first
    others other (inl alone) = sym alone.0
    others other (inr row) = absurd (single_not_loose {nodes = nodes} {t = t} {tolerance = tolerance} o row.left parent first single (row.loose first (omega arith) row.some))

on_side : {nodes : List Placed} {t tolerance : ℕ} (left side : Bool) (path : List ℕ) → left ≡ is_left nodes t path → IsLoose nodes t tolerance side path → side ≡ left
on_side left side path e loose = sym loose.side ∙ sym e

-- where nothing begins
pub no_run : {nodes : List Placed} {t tolerance : ℕ} (left : Bool) (parent : List ℕ) (first : ℕ) → left ≡ is_left nodes t (parent ++ first ∷ []) → ¬ IsSingle nodes t tolerance parent first → ¬ BeginsRow nodes t tolerance left parent first → (last : ℕ) → ¬ IsSeparatorRun nodes t tolerance (Run parent first last)
no_run left parent first e n b last (inl alone) = n alone.1
no_run {nodes} {t} {tolerance} left parent first e n b last (inr row) =
    let loose = row.loose first (omega arith) row.some in
    let side = on_side {nodes = nodes} {t = t} {tolerance = tolerance} left row.left (parent ++ first ∷ []) e loose in
    b (row.opened, (subst (λ s. IsLoose nodes t tolerance s (parent ++ first ∷ [])) side loose, λ position at also. row.begins position at (subst (λ s. IsLoose nodes t tolerance s (parent ++ position ∷ [])) (sym side) also)))

-- a child that a row begins with
pub record IsRowStart (nodes : List Placed) (t tolerance : ℕ) (left : Bool) (parent : List ℕ) (first : ℕ) : Type 0 where
  pub side : left ≡ is_left nodes t (parent ++ first ∷ [])
  pub single : ¬ IsSingle nodes t tolerance parent first
  pub begins : BeginsRow nodes t tolerance left parent first

whole_row : {nodes : List Placed} {t tolerance : ℕ} (left : Bool) (parent : List ℕ) (first last position : ℕ) → IsRowStart nodes t tolerance left parent first → IsRowEnd nodes t tolerance left parent first last → (first ≤ position) × (position ≤ last) → IsLoose nodes t tolerance left (parent ++ position ∷ [])
whole_row {nodes} {t} {tolerance} left parent first last position b e within =
    elim (cases_order first position) [
      | inl at ↦ subst (λ p. IsLoose nodes t tolerance left (parent ++ p ∷ [])) at b.begins.1.0
      | inr other ↦ elim other [
        | inl less ↦ e.loose position less within.1
        | inr more ↦ absurd (let low = within.0 in omega arith)
      ]
    ]

pub row_run : {nodes : List Placed} {t tolerance : ℕ} (left : Bool) (parent : List ℕ) (first last : ℕ) → IsRowStart nodes t tolerance left parent first → IsRowEnd nodes t tolerance left parent first last → IsOnlyRun nodes t tolerance parent first last
row_run {nodes} {t} {tolerance} left parent first last b e =
    record {
      run = inr (record {
        opened = b.begins.0;
        some = e.least;
        left = left;
        loose = λ position low high. whole_row {nodes = nodes} {t = t} {tolerance = tolerance} left parent first last position b e (low, high);
        begins = b.begins.1.1;
        ends = e.end;
      });
      only = others;
    }
  where
    others : (other : ℕ) → IsSeparatorRun nodes t tolerance (Run parent first other) → other ≡ last
    others other (inl alone) = absurd (b.single alone.1)
    others other (inr row) =
        let side = on_side {nodes = nodes} {t = t} {tolerance = tolerance} left row.left (parent ++ first ∷ []) b.side (row.loose first (omega arith) row.some) in
        let some = row.some in
        elim (cases_order other last) [
          | inl same ↦ same
          | inr differ ↦ elim differ [
            | inl less ↦ absurd (row.ends (subst (λ s. IsLoose nodes t tolerance s (parent ++ (other + 1) ∷ [])) (sym side)
                (whole_row {nodes = nodes} {t = t} {tolerance = tolerance} left parent first last (other + 1) b e ((let x : first ≤ other + 1 = omega arith in x), (let y : other + 1 ≤ last = omega arith in y)))))
            | inr more ↦ absurd (e.end (subst (λ s. IsLoose nodes t tolerance s (parent ++ (last + 1) ∷ [])) side (row.loose (last + 1) (let low = e.least in omega arith) (omega arith))))
          ]
        ]

-- the row goes on by one
pub longer_row : {nodes : List Placed} {t tolerance : ℕ} (left : Bool) (parent : List ℕ) (from last : ℕ) → IsLoose nodes t tolerance left (parent ++ (from + 1) ∷ []) → IsRowEnd nodes t tolerance left parent (from + 1) last → IsRowEnd nodes t tolerance left parent from last
longer_row {nodes} {t} {tolerance} left parent from last loose e =
    record {
      least = (let low = e.least in omega arith);
      loose = λ position low high. elim (cases_order position (from + 1)) [
        | inl at ↦ subst (λ p. IsLoose nodes t tolerance left (parent ++ p ∷ [])) (sym at) loose
        | inr other ↦ elim other [
          | inl less ↦ absurd (omega arith)
          | inr more ↦ e.loose position more high
        ]
      ];
      end = e.end;
    }

pub last_of_row : {nodes : List Placed} {t tolerance : ℕ} (left : Bool) (parent : List ℕ) (from : ℕ) → ¬ IsLoose nodes t tolerance left (parent ++ (from + 1) ∷ []) → IsRowEnd nodes t tolerance left parent from from
last_of_row left parent from n = record { least = omega arith; loose = λ position low high. absurd (omega arith); end = n }

-- what begins with a child begins with its node
pub no_start : {nodes : List Placed} {t tolerance : ℕ} (path parent : List ℕ) (first : ℕ) → path ≡ parent ++ first ∷ [] → ((last : ℕ) → ¬ IsSeparatorRun nodes t tolerance (Run parent first last)) → IsNoStart nodes t tolerance path
no_start path parent first is none Root at run = run
no_start {nodes} {t} {tolerance} path parent first is none (Run q f l) at run =
    let e = same_ends q parent f first (at ∙ is) in
    none l (subst (λ (x : Interval). IsSeparatorRun nodes t tolerance x) (λ i. Run (e.0 i) (e.1 i) l) run)

pub no_start_at_helper : (nodes : List Placed) (t tolerance : ℕ) (path : List ℕ) → length path ≡ 0 → IsNoStart nodes t tolerance path
no_start_at_helper nodes t tolerance path none Root at run = run
no_start_at_helper nodes t tolerance path none (Run q f l) at run = absurd (omega (arith, ap length at, length-append q (f ∷ [])))

pub starts : {nodes : List Placed} {t tolerance : ℕ} (path parent : List ℕ) (first last : ℕ) → path ≡ parent ++ first ∷ [] → IsOnlyRun nodes t tolerance parent first last → IsStart nodes t tolerance path (Run parent first last)
starts {nodes} {t} {tolerance} path parent first last is only = record { first = sym is; run = only.run; only = others }
  where
    others : (other : Interval) → first_member other ≡ path → IsSeparatorRun nodes t tolerance other → other ≡ Run parent first last
    others Root at run = absurd run
    others (Run q f l) at run =
        let e = same_ends q parent f first (at ∙ is) in
        let x : Run q f l ≡ Run parent first l = (λ i. Run (e.0 i) (e.1 i) l) in
        x ∙ ap (Run parent first) (only.only l (subst (λ (y : Interval). IsSeparatorRun nodes t tolerance y) x run))

-- the plan's intervals that begin with the first nodes
pub record PlannedSoFar (nodes : List Placed) (t tolerance index : ℕ) (found : List Interval) : Type 0 where
  pub order : AreInOrder found
  pub only : (interval : Interval) → Contains found interval → IsSeparatorRun nodes t tolerance interval
  pub each : (interval : Interval) (k : ℕ) (d : Placed) → IsSeparatorRun nodes t tolerance interval → k < index → first_member interval ≡ (get_or nodes k d).path → Contains found interval
  pub front : (interval : Interval) (k : ℕ) (d : Placed) → Contains found interval → index ≤ k → k < length nodes → ComesBefore (first_member interval) (get_or nodes k d).path

pub planned_start : (nodes : List Placed) (t tolerance : ℕ) → PlannedSoFar nodes t tolerance 0 []
planned_start nodes t tolerance =
    record {
      order = λ i j d low high. absurd (omega arith);
      only = λ interval c. absurd (let h = c.1 in omega arith);
      each = λ interval k d run low at. absurd (omega arith);
      front = λ interval k d c low high. absurd (let h = c.1 in omega arith);
    }

planned_none : {nodes : List Placed} {t tolerance : ℕ} (index : ℕ) (node : Placed) (found : List Interval) → (index < length nodes) × (node ≡ get_or nodes index node) → IsNoStart nodes t tolerance node.path → PlannedSoFar nodes t tolerance index found → PlannedSoFar nodes t tolerance (index + 1) found
planned_none {nodes} {t} {tolerance} index node found here none s =
    record {
      order = s.order;
      only = s.only;
      each = λ interval k d run low at. elim (cases_order k index) [
        | inl same ↦ absurd (none interval (at ∙ ap (λ i. (get_or nodes i d).path) same ∙ ap (λ (n : Placed). n.path) (get_or_default nodes index d node here.0 ∙ sym here.1)) run)
        | inr other ↦ elim other [
          | inl less ↦ s.each interval k d run less at
          | inr more ↦ absurd (omega arith)
        ]
      ];
      front = λ interval k d c low high. s.front interval k d c (omega arith) high;
    }

planned_one : {nodes : List Placed} {t tolerance : ℕ} → AreOrdered nodes → (index : ℕ) (node : Placed) (found : List Interval) (interval : Interval) → (index < length nodes) × (node ≡ get_or nodes index node) → IsStart nodes t tolerance node.path interval → PlannedSoFar nodes t tolerance index found → PlannedSoFar nodes t tolerance (index + 1) (found ++ interval ∷ [])
planned_one {nodes} {t} {tolerance} o index node found interval here start s =
    let at_node = λ (d : Placed). ap (λ (n : Placed). n.path) (get_or_default nodes index d node here.0 ∙ sym here.1) in
    record {
      order = all_pairs_push (λ (a b : Interval). ComesBefore (first_member a) (first_member b)) found interval s.order
          (λ k d within. subst (λ p. ComesBefore (first_member (get_or found k d)) p) (at_node node ∙ sym start.first) (s.front (get_or found k d) index node (Contains-get_or found k d within) (omega arith) here.0));
      only = λ x c. elim (Contains-push_cases found interval x c) [
        | inl old ↦ s.only x old
        | inr same ↦ subst (IsSeparatorRun nodes t tolerance) same start.run
      ];
      each = λ x k d run low at. elim (cases_order k index) [
        | inl same ↦
            let is : x ≡ interval = start.only x (at ∙ ap (λ i. (get_or nodes i d).path) same ∙ at_node d) run in
            subst (Contains (found ++ interval ∷ [])) (sym is) (Contains-push found interval)
        | inr other ↦ elim other [
          | inl less ↦ Contains-append_left found (interval ∷ []) x (s.each x k d run less at)
          | inr more ↦ absurd (omega arith)
        ]
      ];
      front = λ x k d c low high. elim (Contains-push_cases found interval x c) [
        | inl old ↦ s.front x k d old (omega arith) high
        | inr same ↦
            let comes : ComesBefore (get_or nodes index d).path (get_or nodes k d).path = later_comes nodes o index k d (omega arith) high in
            subst (λ (y : Interval). ComesBefore (first_member y) (get_or nodes k d).path) same (subst (λ p. ComesBefore p (get_or nodes k d).path) (at_node d ∙ sym start.first) comes)
      ];
    }

pub planned_more : {nodes : List Placed} {t tolerance : ℕ} → AreOrdered nodes → (index : ℕ) (node : Placed) (old new : List Interval) → (index < length nodes) × (node ≡ get_or nodes index node) → AddsRun nodes t tolerance node.path old new → PlannedSoFar nodes t tolerance index old → PlannedSoFar nodes t tolerance (index + 1) new
planned_more {nodes} {t} {tolerance} o index node old new here (inl none) s = subst (PlannedSoFar nodes t tolerance (index + 1)) (sym none.1) (planned_none {nodes = nodes} {t = t} {tolerance = tolerance} index node old here none.0 s)
planned_more {nodes} {t} {tolerance} o index node old new here (inr one) s = subst (PlannedSoFar nodes t tolerance (index + 1)) (sym one.2) (planned_one {nodes = nodes} {t = t} {tolerance = tolerance} o index node old one.0 here one.1 s)

-- each of them begins with a node
first_placed : (nodes : List Placed) (t tolerance : ℕ) (interval : Interval) → IsSeparatorRun nodes t tolerance interval → HasNodeAt nodes (first_member interval)
first_placed nodes t tolerance Root run = absurd run
first_placed nodes t tolerance (Run parent first last) (inr row) = let f = (row.loose first (omega arith) row.some).free in (f.0, f.1, f.2)
first_placed nodes t tolerance (Run parent first last) (inl (same, inl at)) = (at.0, at.1, at.2)
first_placed nodes t tolerance (Run parent first last) (inl (same, inr root)) = subst (λ r. HasNodeAt nodes (r ++ first ∷ [])) (sym root.0) root.1

pub planned_end : (nodes : List Placed) (t tolerance index : ℕ) (found : List Interval) → length nodes ≤ index → PlannedSoFar nodes t tolerance index found → IsSeparatorPlan nodes t tolerance found
planned_end nodes t tolerance index found end s =
    record {
      order = s.order;
      runs = λ interval. (
        s.only interval,
        λ run.
            let at = first_placed nodes t tolerance interval run in
            s.each interval at.1.0 at.0 run (let h = at.1.1 in omega arith) (sym at.2 ∙ ap (λ (n : Placed). n.path) (sym at.1.2)),
      );
    }
