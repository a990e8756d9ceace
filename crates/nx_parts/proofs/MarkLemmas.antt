-- Marks that change at one child, at neighbouring children, and along a path.
use Rattle.std.proofs.Common.{◌≡◌, ℕ, zero, suc, ◌+◌, ◌<◌, ◌≤◌, ◌==◌, max, Bool, true, false, ◌&&◌, ◌||◌, nat_lt, if◌then◌else◌, List, [], ◌∷◌, ◌++◌, length, Option, None, Some, Result, Err, IfErr, refl, sym, ap, ◌∙◌, subst, inl, inr, arith, slice_set}
use Rattle.std.specs.Prelude.{nat_le, slice_get, IsTrue}
use Rattle.std.specs.Option.{option_and_then, is_some}
use Rattle.std.proofs.lemmas.Bool.{and_parts, and_from, and_left, and_right, cases_Bool, cases_eq, cases_lt, eq-eqb, ne_eqb, eqb-true, le-leb, lt-leb, lt-ltb, le-ltb}
use Rattle.std.proofs.lemmas.Bool.Decides.{nat_tests}
use Rattle.nx_lists.proofs.CaseLemmas.{some_value}
use Rattle.nx_tree.specs.Document.{is_empty}
use Rattle.nx_parts.specs.declared.marks.Mark.{Mark, out-Mark}
use Rattle.nx_parts.specs.declared.marks.Mark.TheOpen.{Mark-F}
use Rattle.nx_parts.specs.declared.marks.Mark.TheViews.{roll-Mark, out-roll-Mark}
use Rattle.nx_parts.specs.declared.error.PartsError.{PartsError}
use Rattle.nx_parts.specs.declared.error.PartsError.TheVariants.{OutOfTree, Overlap, NoRoot, Heavy, Memory}
use Rattle.nx_parts.specs.Partitioning.{is_child_path}
use Rattle.nx_parts.specs.Marks.{marked, marked_in, HoldsMembers, Clashes, IsClash}

pub marked_in-empty : (xs : List Mark) (m : Mark) (p : ℕ) (path : List ℕ) → ((q : List ℕ) → marked m q ≡ None) → marked_in (xs ++ m ∷ []) p path ≡ marked_in xs p path
marked_in-empty [] m zero path e = e path
marked_in-empty [] m (suc p) path e = refl
marked_in-empty (x ∷ xs) m zero path e = refl
marked_in-empty (x ∷ xs) m (suc p) path e = marked_in-empty xs m p path e

-- an error that a call passes on
pub err_passed : {T : Type 0} (r : Result T PartsError) (P : PartsError → Type 0) (e : PartsError) → (y : PartsError) × (r ≡ Err y) × (y ≡ e) → P e → IfErr r P
err_passed r P e p h = subst (λ x. IfErr x P) (sym p.1) (subst P (sym p.2) h)

-- a mark that holds nothing and has no children
pub empty_mark : (r : Mark-F Mark) → r.holder ≡ None → r.below.items ≡ [] → (path : List ℕ) → marked (roll-Mark r) path ≡ None
empty_mark r own none [] = ap (λ (f : Mark-F Mark). f.holder) (out-roll-Mark r) ∙ own
empty_mark r own none (p ∷ path) = ap (λ (f : Mark-F Mark). marked_in f.below.items p path) (out-roll-Mark r) ∙ ap (λ (xs : List Mark). marked_in xs p path) none

-- a mark that holds something
pub taken_root : (m : Mark) → true ≡ is_some (out-Mark m).holder → Clashes is_empty m
taken_root m e = let g = some_value (out-Mark m).holder (sym e) in ([], g.0, refl, g.1)

pub get_here : (xs : List Mark) (i : ℕ) (child : Mark) (path : List ℕ) → slice_get xs i ≡ Some child → marked_in xs i path ≡ marked child path
get_here xs i child path e = ap (option_and_then (λ (m : Mark). marked m path)) e

put_here : (xs : List Mark) (i : ℕ) (child after : Mark) (path : List ℕ) → slice_get xs i ≡ Some child → marked_in (slice_set xs i after) i path ≡ marked after path
put_here [] i child after path e = absurd (cc)
put_here (x ∷ xs) zero child after path e = refl
put_here (x ∷ xs) (suc i) child after path e = put_here xs i child after path e

put_other : (xs : List Mark) (i p : ℕ) (after : Mark) (path : List ℕ) → (i ≡ p → ⊥) → marked_in (slice_set xs i after) p path ≡ marked_in xs p path
put_other [] i p after path ne = refl
put_other (x ∷ xs) zero zero after path ne = absurd (ne refl)
put_other (x ∷ xs) zero (suc p) after path ne = refl
put_other (x ∷ xs) (suc i) zero after path ne = refl
put_other (x ∷ xs) (suc i) (suc p) after path ne = put_other xs i p after path (λ (e : i ≡ p). ne (ap suc e))

-- the mark has another child at a position
pub record NextMark (old new : Mark) (i : ℕ) (child after : Mark) : Type 0 where
  pub own : marked new [] ≡ marked old []
  pub item : slice_get (out-Mark old).below.items i ≡ Some child
  pub put : (out-Mark new).below.items ≡ slice_set (out-Mark old).below.items i after

pub next_rolled : (old : Mark) (r : Mark-F Mark) (i : ℕ) (child after : Mark) → r.holder ≡ (out-Mark old).holder → r.below.items ≡ slice_set (out-Mark old).below.items i after → slice_get (out-Mark old).below.items i ≡ Some child → NextMark old (roll-Mark r) i child after
next_rolled old r i child after own put item = record {
  own = ap (λ (f : Mark-F Mark). f.holder) (out-roll-Mark r) ∙ own;
  item = item;
  put = ap (λ (f : Mark-F Mark). f.below.items) (out-roll-Mark r) ∙ put;
}

-- the test behind a first step
abbrev pub at_step : ℕ → (List ℕ → Bool) → List ℕ → Bool
at_step i member [] = false
at_step i member (p ∷ path) = (i == p) && member path

module _ (old new : Mark) (i : ℕ) (child after : Mark) (n : NextMark old new i child after) (member : List ℕ → Bool) (index : ℕ) (h : HoldsMembers member index child after) where
  step_free : (path : List ℕ) → IsTrue (at_step i member path) → marked old path ≡ None
  step_free [] m = absurd (cc)
  step_free (p ∷ path) m =
      let parts = and_parts (i == p) (member path) m in
      let e : i ≡ p = eqb-true i p parts.0 in
      ap (λ (q : ℕ). marked old (q ∷ path)) (sym e) ∙ get_here (out-Mark old).below.items i child path n.item ∙ h.free path parts.1

  step_held : (path : List ℕ) → marked new path ≡ (if at_step i member path then Some index else marked old path)
  step_held [] = n.own
  step_held (p ∷ path) = elim (cases_eq i p) [
    | inl e ↦ ap (λ (q : ℕ). marked new (q ∷ path)) (sym e)
        ∙ (ap (λ (xs : List Mark). marked_in xs i path) n.put ∙ put_here (out-Mark old).below.items i child after path n.item)
        ∙ h.held path
        ∙ ap (λ (o : Option ℕ). if member path then Some index else o) (sym (get_here (out-Mark old).below.items i child path n.item) ∙ ap (λ (q : ℕ). marked old (q ∷ path)) e)
        ∙ ap (λ (b : Bool). if b && member path then Some index else marked old (p ∷ path)) (sym (eq-eqb i p e))
    | inr ne ↦ ap (λ (xs : List Mark). marked_in xs p path) n.put
        ∙ put_other (out-Mark old).below.items i p after path ne
        ∙ ap (λ (b : Bool). if b && member path then Some index else marked old (p ∷ path)) (sym (ne_eqb i p ne))
  ]

  -- what the child holds, the node holds behind the step to the child
  pub holds-step : HoldsMembers (at_step i member) index old new
  holds-step = record { free = step_free; held = step_held }

joined : (index : ℕ) (x y : Bool) (o p : Option ℕ) → o ≡ (if x then Some index else p) → (if y then Some index else o) ≡ (if x || y then Some index else p)
joined index true true o p e = refl
joined index true false o p e = e
joined index false true o p e = refl
joined index false false o p e = e

-- one after the other
pub holds-then : (m n : List ℕ → Bool) (index : ℕ) (a b c : Mark) → HoldsMembers m index a b → HoldsMembers n index b c → HoldsMembers (λ path. m path || n path) index a c
holds-then m n index a b c h k = record {
  free = λ path t. elim (cases_Bool (m path)) [
    | inl e ↦ h.free path e
    | inr e ↦ sym (h.held path ∙ ap (λ (x : Bool). if x then Some index else marked a path) e)
        ∙ k.free path (sym (ap (λ (x : Bool). x || n path) e) ∙ t)
  ];
  held = λ path. k.held path ∙ joined index (m path) (n path) (marked b path) (marked a path) (h.held path);
}

pub holds-same : (m n : List ℕ → Bool) (index : ℕ) (a b : Mark) → ((path : List ℕ) → m path ≡ n path) → HoldsMembers m index a b → HoldsMembers n index a b
holds-same m n index a b e h = record {
  free = λ path t. h.free path (e path ∙ t);
  held = λ path. h.held path ∙ ap (λ (x : Bool). if x then Some index else marked a path) (e path);
}

-- from a mark that says the same
pub holds-after : (m : List ℕ → Bool) (index : ℕ) (a b c : Mark) → ((path : List ℕ) → marked b path ≡ marked a path) → HoldsMembers m index b c → HoldsMembers m index a c
holds-after m index a b c s h = record {
  free = λ path t. sym (s path) ∙ h.free path t;
  held = λ path. h.held path ∙ ap (λ (o : Option ℕ). if m path then Some index else o) (s path);
}

pub clash-into : (m n : List ℕ → Bool) (index : ℕ) (a b : Mark) (error : PartsError) → ((path : List ℕ) (taken : ℕ) → IsTrue (m path) → marked a path ≡ Some taken → Clashes n b) → IsClash m index a error → IsClash n index b error
clash-into m n index a b (Overlap place) f h = (h.0, f h.1.0 h.1.1 h.1.2 h.1.3)
clash-into m n index a b Memory f h = tt
clash-into m n index a b (OutOfTree place) f h = h
clash-into m n index a b NoRoot f h = h
clash-into m n index a b (Heavy place slots) f h = h

-- along a path:

along : (step : ℕ) (rest : List ℕ) (first last : ℕ) (parent path : List ℕ) → parent ≡ step ∷ rest → at_step step (is_child_path rest first last) path ≡ is_child_path parent first last path
along step rest first last parent [] e = ap (λ (p : List ℕ). is_child_path p first last []) (sym e)
along step rest first last parent (p ∷ path) e = ap (λ (q : List ℕ). is_child_path q first last (p ∷ path)) (sym e)

-- the marks say the same of the nodes below, and so of all
pub same_marks : (a b : Mark) → marked b [] ≡ marked a [] → ((p : ℕ) (path : List ℕ) → marked_in (out-Mark b).below.items p path ≡ marked_in (out-Mark a).below.items p path) → (path : List ℕ) → marked b path ≡ marked a path
same_marks a b own s [] = own
same_marks a b own s (p ∷ path) = s p path

pub grown-same : (old : Mark) (r : Mark-F Mark) → r.holder ≡ (out-Mark old).holder → ((p : ℕ) (path : List ℕ) → marked_in r.below.items p path ≡ marked_in (out-Mark old).below.items p path) → (path : List ℕ) → marked (roll-Mark r) path ≡ marked old path
grown-same old r own s path =
    same_marks old (roll-Mark r) (ap (λ (f : Mark-F Mark). f.holder) (out-roll-Mark r) ∙ own)
    (λ p q. ap (λ (f : Mark-F Mark). marked_in f.below.items p q) (out-roll-Mark r) ∙ s p q) path

pub grown-room : (r : Mark-F Mark) (n : ℕ) → n ≤ length r.below.items → n ≤ length (out-Mark (roll-Mark r)).below.items
grown-room r n h = subst (λ (f : Mark-F Mark). n ≤ length f.below.items) (sym (out-roll-Mark r)) h

module _ (old grown : Mark) (same : (path : List ℕ) → marked grown path ≡ marked old path) (step : ℕ) (rest : List ℕ) (first last index : ℕ) (parent : List ℕ) (is : parent ≡ step ∷ rest) where
  pub run-holds : (new child after : Mark) → NextMark grown new step child after → HoldsMembers (is_child_path rest first last) index child after → HoldsMembers (is_child_path parent first last) index old new
  run-holds new child after n h =
      holds-same (at_step step (is_child_path rest first last)) (is_child_path parent first last) index old new (λ path. along step rest first last parent path is)
      (holds-after (at_step step (is_child_path rest first last)) index old grown new same (holds-step grown new step child after n (is_child_path rest first last) index h))

  pub run-clashes : (child : Mark) (error : PartsError) → slice_get (out-Mark grown).below.items step ≡ Some child → IsClash (is_child_path rest first last) index child error → IsClash (is_child_path parent first last) index old error
  run-clashes child error g h =
      clash-into (is_child_path rest first last) (is_child_path parent first last) index child old error
      (λ path taken t e. (
        step ∷ path,
        taken,
        sym (along step rest first last parent (step ∷ path) is) ∙ and_from (step == step) (is_child_path rest first last path) (eq-eqb step step refl) t,
        sym (same (step ∷ path)) ∙ get_here (out-Mark grown).below.items step child path g ∙ e,
      ))
      h

-- neighbouring children, from the first to below an end
abbrev pub is_run : ℕ → ℕ → List ℕ → Bool
is_run first end [] = false
is_run first end (p ∷ []) = nat_le first p && nat_lt p end
is_run first end (p ∷ q ∷ path) = false

none_between : (first p : ℕ) → (nat_le first p && nat_lt p first) ≡ false
none_between first p = grind (arith, nat_tests)

one_more : (first i p : ℕ) → first ≤ i → ((nat_le first p && nat_lt p i) || ((i == p) && true)) ≡ (nat_le first p && nat_lt p (i + 1))
one_more first i p h = grind (arith, nat_tests)

to_last : (first last i p : ℕ) → last + 1 ≤ i → i ≤ max first (last + 1) → (nat_le first p && nat_lt p i) ≡ (nat_le first p && nat_le p last)
to_last first last i p low high = elim (cases_lt p first) [
  | inl below ↦ and_left (nat_le first p) (nat_lt p i) (lt-leb first p below) ∙ sym (and_left (nat_le first p) (nat_le p last) (lt-leb first p below))
  | inr from ↦ ap (λ (b : Bool). nat_le first p && b) (elim (cases_lt p (last + 1)) [
    | inl within ↦ lt-ltb p i (omega arith) ∙ sym (le-leb p last (omega arith))
    | inr past ↦ le-ltb p i (omega arith) ∙ sym (lt-leb p last (omega arith))
  ])
]

no_run : (first : ℕ) (path : List ℕ) → is_run first first path ≡ false
no_run first [] = refl
no_run first (p ∷ []) = none_between first p
no_run first (p ∷ q ∷ path) = refl

run_more : (first i : ℕ) → first ≤ i → (path : List ℕ) → (is_run first i path || at_step i is_empty path) ≡ is_run first (i + 1) path
run_more first i h [] = refl
run_more first i h (p ∷ []) = one_more first i p h
run_more first i h (p ∷ q ∷ path) = and_right (i == p) false refl

run_all : (first last i : ℕ) → last + 1 ≤ i → i ≤ max first (last + 1) → (path : List ℕ) → is_run first i path ≡ is_child_path [] first last path
run_all first last i low high [] = refl
run_all first last i low high (p ∷ []) = to_last first last i p low high
run_all first last i low high (p ∷ q ∷ path) = refl

-- the children from the first up to an index are members now
pub record ChildrenSoFar (first i end index : ℕ) (old new : Mark) : Type 0 where
  pub from : first ≤ i
  pub until : i ≤ max first end
  pub room : end ≤ length (out-Mark new).below.items
  pub holds : HoldsMembers (is_run first i) index old new

children-start : (first end index : ℕ) (old new : Mark) → end ≤ length (out-Mark new).below.items → ((path : List ℕ) → marked new path ≡ marked old path) → ChildrenSoFar first first end index old new
children-start first end index old new room same = record {
  from = omega arith;
  until = omega arith;
  room = room;
  holds = record {
    free = λ path t. absurd (let e = sym (no_run first path) ∙ t in cc);
    held = λ path. same path ∙ sym (ap (λ (b : Bool). if b then Some index else marked old path) (no_run first path));
  };
}

pub children-begin : (first end index : ℕ) (old : Mark) (r : Mark-F Mark) → r.holder ≡ (out-Mark old).holder → ((p : ℕ) (path : List ℕ) → marked_in r.below.items p path ≡ marked_in (out-Mark old).below.items p path) → end ≤ length r.below.items → ChildrenSoFar first first end index old (roll-Mark r)
children-begin first end index old r own same room = children-start first end index old (roll-Mark r) (grown-room r end room) (grown-same old r own same)

length_set : (xs : List Mark) (i : ℕ) (m : Mark) → length (slice_set xs i m) ≡ length xs
length_set [] i m = refl
length_set (x ∷ xs) zero m = refl
length_set (x ∷ xs) (suc i) m = ap suc (length_set xs i m)

pub children-more : (first i end index : ℕ) (old mid new child after : Mark) → ChildrenSoFar first i end index old mid → i < end → NextMark mid new i child after → HoldsMembers is_empty index child after → ChildrenSoFar first (i + 1) end index old new
children-more first i end index old mid new child after s within n h = record {
  from = let from = s.from in omega arith;
  until = omega arith;
  room = let room = s.room in let len = ap length n.put ∙ length_set (out-Mark mid).below.items i after in omega arith;
  holds = holds-same (λ path. is_run first i path || at_step i is_empty path) (is_run first (i + 1)) index old new (run_more first i s.from)
      (holds-then (is_run first i) (at_step i is_empty) index old mid new s.holds (holds-step mid new i child after n is_empty index h));
}

pub children-end : (first last i end index : ℕ) (old new : Mark) → ChildrenSoFar first i end index old new → end ≡ last + 1 → end ≤ i → HoldsMembers (is_child_path [] first last) index old new
children-end first last i end index old new s is past =
    let until = s.until in
    holds-same (is_run first i) (is_child_path [] first last) index old new (run_all first last i (omega arith) (omega arith)) s.holds

pub children-clash : (first last i end index : ℕ) (old mid child : Mark) (error : PartsError) → ChildrenSoFar first i end index old mid → end ≡ last + 1 → i < end → slice_get (out-Mark mid).below.items i ≡ Some child → IsClash is_empty index child error → IsClash (is_child_path [] first last) index old error
children-clash first last i end index old mid child error s is within g h = clash-into is_empty (is_child_path [] first last) index child old error at_child h
  where
    at_child : (path : List ℕ) (taken : ℕ) → IsTrue (is_empty path) → marked child path ≡ Some taken → Clashes (is_child_path [] first last) old
    at_child [] taken t e = (
      i ∷ [],
      taken,
      and_from (nat_le first i) (nat_le i last) (le-leb first i s.from) (le-leb i last (omega arith)),
      sym (s.holds.held (i ∷ []) ∙ ap (λ (b : Bool). if b then Some index else marked old (i ∷ [])) (and_right (nat_le first i) (nat_lt i i) (le-ltb i i (omega arith))))
          ∙ get_here (out-Mark mid).below.items i child [] g ∙ e,
    )
    at_child (p ∷ path) taken t e = absurd (cc)
