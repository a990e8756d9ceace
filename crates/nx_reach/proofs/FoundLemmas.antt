-- There is exactly one list of the paths that steps match, in document order, and a walk finds it.
use Rattle.std.proofs.Common.{◌≡◌, ℕ, suc, ◌+◌, ◌≤◌, Bool, true, false, inl, inr, List, [], ◌∷◌, ◌++◌, length, reverse, Some, refl, sym, ap, ◌∙◌, subst, arith}
use mathlib.Core.List.{reverse_aux}
use Rattle.std.specs.Prelude.{if◌then◌else◌, ◌||◌, Contains}
use Rattle.std.proofs.lemmas.List.Elements.{Contains-append_left, Contains-append_right, Contains-append_cases}
use Rattle.std.specs.Str.{bytes_eq}
use Rattle.std.proofs.lemmas.List.{reverse-append}
use Rattle.nx_tree.specs.Forest.{OrderedTree, Forest, Empty, Plant, forest_of}
use Rattle.nx_matrix.specs.Label.{label}
use Rattle.nx_tree.specs.Edit.{at}
use Rattle.nx_parts.specs.Order.{ComesBefore}
use Rattle.nx_reach.specs.declared.step.Step.{Step}
use Rattle.nx_reach.specs.declared.step.Step.TheVariants.{Child, Below}
use Rattle.nx_reach.specs.Reach.{HasLabel, has_label, label_of, MatchesBack, Matches, Found, HasOneFound}
use Rattle.nx_reach.specs.Fit.{fits, turned, labels_on, found_in}
use Rattle.nx_reach.proofs.AlongLemmas.{match_fits, fits_match}
use Rattle.nx_reach.proofs.MemberLemmas.{IsReached, only_one, one_there, sound, complete}
use Rattle.nx_reach.proofs.OrderLemmas.{AreInDocumentOrder, order_pairs, pairs_order, order_append, one_ordered, found_ordered, one_order}

turned_is : (before steps : List Step) → turned before steps ≡ reverse_aux steps before
turned_is before [] = refl
turned_is before (step ∷ steps) = turned_is (step ∷ before) steps

-- a path that matches is one of a node
matched_at : (tree : OrderedTree) (path : List ℕ) (steps : List Step) → MatchesBack tree path steps → (u : OrderedTree) × (at tree path ≡ Some u)
matched_at tree path [] m = (tree, ap (at tree) m)
matched_at tree path (Child name ∷ before) m = (m.0.0, m.0.1)
matched_at tree path (Below name ∷ before) m = (m.0.0, m.0.1)

-- the root, where it matches, and what matches below it
abbrev pub all_found : OrderedTree → List Step → List (List ℕ)
all_found tree steps = (if fits (turned [] steps) [] then [] ∷ [] else []) ++ found_in steps [] [] 0 tree.below

found_match : (tree : OrderedTree) (steps : List Step) (path : List ℕ) → Contains (all_found tree steps) path → Matches tree path steps
found_match tree steps path h = elim (Contains-append_cases (if fits (turned [] steps) [] then [] ∷ [] else []) (found_in steps [] [] 0 tree.below) path h) [
  | inl x ↦
      let o : (fits (turned [] steps) [] ≡ true) × (path ≡ []) = only_one (fits (turned [] steps) []) [] path x in
      subst (λ (p : List ℕ). Matches tree p steps) (sym o.1) (subst (MatchesBack tree []) (turned_is [] steps) (fits_match tree (turned [] steps) [] tree refl o.0))
  | inr y ↦
      let r : IsReached steps [] [] 0 tree.below path = sound steps [] [] 0 tree.below path y in
      let n : 0 + r.0 ≡ r.0 = omega arith in
      let is : path ≡ r.0 ∷ r.1 = r.3 ∙ ap (λ (m : ℕ). m ∷ r.1) n in
      subst (λ (p : List ℕ). Matches tree p steps) (sym is) (subst (MatchesBack tree (r.0 ∷ r.1)) (turned_is [] steps) (fits_match tree (turned [] steps) (r.0 ∷ r.1) r.2 r.4 r.5))
]

match_found : (tree : OrderedTree) (steps : List Step) (path : List ℕ) → Matches tree path steps → Contains (all_found tree steps) path
match_found tree steps path m =
    let w : (u : OrderedTree) × (at tree path ≡ Some u) = matched_at tree path (reverse steps) m in
    go path w.0 w.1 (match_fits tree (turned [] steps) path w.0 w.1 (subst (MatchesBack tree path) (sym (turned_is [] steps)) m))
  where
    go : (path : List ℕ) (u : OrderedTree) → at tree path ≡ Some u → fits (turned [] steps) (labels_on [] tree path) ≡ true → Contains (all_found tree steps) path
    go [] u e f = Contains-append_left (if fits (turned [] steps) [] then [] ∷ [] else []) (found_in steps [] [] 0 tree.below) [] (one_there (fits (turned [] steps) []) [] [] f refl)
    go (j ∷ more) u e f = Contains-append_right (if fits (turned [] steps) [] then [] ∷ [] else []) (found_in steps [] [] 0 tree.below) (j ∷ more)
        (complete steps [] [] 0 tree.below (j ∷ more) j more u (let n : j ≡ 0 + j = omega arith in ap (λ (m : ℕ). m ∷ more) n) e f)

all_ordered : (tree : OrderedTree) (steps : List Step) → AreInDocumentOrder (all_found tree steps)
all_ordered tree steps = order_append (if fits (turned [] steps) [] then [] ∷ [] else []) (found_in steps [] [] 0 tree.below) (one_ordered (fits (turned [] steps) []) []) (found_ordered steps [] [] 0 tree.below)
    (λ x y in_x in_y.
    let o : x ≡ [] = (only_one (fits (turned [] steps) []) [] x in_x).1 in
    let r : IsReached steps [] [] 0 tree.below y = sound steps [] [] 0 tree.below y in_y in
    subst (λ (p : List ℕ). ComesBefore p y) (sym o) (subst (λ (p : List ℕ). ComesBefore [] p) (sym r.3) tt))

pub all_are_found : (tree : OrderedTree) (steps : List Step) → Found tree steps (all_found tree steps)
all_are_found tree steps = record { match = λ path. (found_match tree steps path, match_found tree steps path); order = order_pairs (all_found tree steps) (all_ordered tree steps) }

-- there is exactly one such list
pub one_list : (tree : OrderedTree) (steps : List Step) → HasOneFound tree steps
one_list tree steps = (
  all_found tree steps,
  all_are_found tree steps,
  λ others found.
      one_order others (all_found tree steps) (pairs_order others found.order) (all_ordered tree steps)
      (λ p h. match_found tree steps p ((found.match p).0 h)) (λ p h. (found.match p).1 (found_match tree steps p h)),
)

-- where there is a step the root doesn't match
no_root : (before steps : List Step) → 1 ≤ length before + length steps → fits (turned before steps) [] ≡ false
no_root [] [] some = absurd (omega arith)
no_root (step ∷ before) [] some = refl
no_root before (step ∷ steps) some = no_root (step ∷ before) steps (omega arith)

-- what a walk finds below the root
pub walk_finds : (tree : OrderedTree) (steps : List Step) → 1 ≤ length steps → Found tree steps (found_in steps [] [] 0 tree.below)
walk_finds tree steps some = subst (Found tree steps)
    (ap (λ (b : Bool). (if b then [] ∷ [] else []) ++ found_in steps [] [] 0 tree.below) (no_root [] steps (omega arith))) (all_are_found tree steps)

pub same_walk : (own steps : List Step) (path : List ℕ) (trees : List OrderedTree) (tree : OrderedTree) (before found : List (List ℕ)) →
    own ≡ steps → path ≡ [] → forest_of trees ≡ tree.below → before ≡ [] → found ≡ before ++ found_in own [] path 0 (forest_of trees) →
    found_in steps [] [] 0 tree.below ≡ found
same_walk own steps path trees tree before found s p t b f =
    sym (f ∙ ap (λ (xs : List (List ℕ)). xs ++ found_in own [] path 0 (forest_of trees)) b
    ∙ ap (λ (xs : List Step). found_in xs [] path 0 (forest_of trees)) s
    ∙ ap (λ (xs : List ℕ). found_in steps [] xs 0 (forest_of trees)) p
    ∙ ap (λ (x : Forest). found_in steps [] [] 0 x) t)

-- what matches has the last step's label
pub last_label : (tree : OrderedTree) (path : List ℕ) (before : List Step) (step : Step) → Matches tree path (before ++ step ∷ []) → HasLabel tree path (label_of step)
last_label tree path before step m = go step (subst (MatchesBack tree path) (reverse-append before (step ∷ [])) m)
  where
    go : (step : Step) → MatchesBack tree path (step ∷ reverse before) → HasLabel tree path (label_of step)
    go (Child name) h = h.0
    go (Below name) h = h.0

turned_last : (first before : List Step) (step : Step) → (more : List Step) × (turned first (before ++ step ∷ []) ≡ step ∷ more)
turned_last first [] step = (first, refl)
turned_last first (s ∷ before) step = turned_last (s ∷ first) before step

unfit : (name : List ℕ) (step : Step) (more : List Step) (labels : List (List ℕ)) → bytes_eq (label_of step) name ≡ false → fits (step ∷ more) (name ∷ labels) ≡ false
unfit name step more labels e = rw e

-- where no node has a label, none at the front has it, and none below and beside that
none_has : (a b c : Bool) → (a || (b || c)) ≡ false → (a ≡ false) × (b ≡ false) × (c ≡ false)
none_has true b c e = absurd (cc)
none_has false true c e = absurd (cc)
none_has false false c e = (refl, refl, e)

-- where no node has the last step's label a walk finds nothing
pub nothing_there : (before : List Step) (step : Step) (labels : List (List ℕ)) (path : List ℕ) (k : ℕ) (forest : Forest) → has_label (label_of step) forest ≡ false →
    found_in (before ++ step ∷ []) labels path k forest ≡ []
nothing_there before step labels path k Empty none = refl
nothing_there before step labels path k (Plant node below beside) none =
    let lacks : (bytes_eq (label_of step) (label node) ≡ false) × (has_label (label_of step) below ≡ false) × (has_label (label_of step) beside ≡ false) =
    none_has (bytes_eq (label_of step) (label node)) (has_label (label_of step) below) (has_label (label_of step) beside) none in
    let t : (more : List Step) × (turned [] (before ++ step ∷ []) ≡ step ∷ more) = turned_last [] before step in
    let f : fits (turned [] (before ++ step ∷ [])) (label node ∷ labels) ≡ false =
    ap (λ (xs : List Step). fits xs (label node ∷ labels)) t.1 ∙ unfit (label node) step t.0 labels lacks.0 in
    ap (λ (b : Bool). (if b then (path ++ k ∷ []) ∷ [] else []) ++ (found_in (before ++ step ∷ []) (label node ∷ labels) (path ++ k ∷ []) 0 below ++ found_in (before ++ step ∷ []) labels path (suc k) beside)) f
    ∙ ap (λ (xs : List (List ℕ)). xs ++ found_in (before ++ step ∷ []) labels path (suc k) beside) (nothing_there before step (label node ∷ labels) (path ++ k ∷ []) 0 below lacks.1)
    ∙ nothing_there before step labels path (suc k) beside lacks.2
