-- What is found of a document's layout that is shown, some intervals of it passed over.
use Rattle.std.proofs.Common.{◌≡◌, ◌≤◌, ℕ, suc, ◌+◌, ◌-◌, Bool, true, false, List, [], ◌∷◌, ◌++◌, length, take, refl, sym, ap, ◌∙◌, subst, append_assoc, length-append, arith}
use Rattle.std.specs.Prelude.{sum_by, if◌then◌else◌, slice_index}
use Rattle.std.proofs.lemmas.List.{append-nil}
use Rattle.std.proofs.lemmas.List.Sums.{sum_by-append}
use Rattle.nx_tree.specs.declared.node.Node.{Node}
use Rattle.nx_tree.specs.Forest.{Forest, Empty, Plant}
use Rattle.nx_tree.specs.Edit.{parent_path, last_position}
use Rattle.nx_matrix.specs.Label.{label}
use Rattle.nx_cuts.specs.Cut.{Bare, Grown, Kept, joined, width}
use Rattle.nx_cuts.proofs.FeasibleLemmas.{trees, trees-joined}
use Rattle.nx_layouts.specs.Layout.{RecordPlace, Layout, laid_forest, places_of}
use Rattle.nx_reach.specs.declared.step.Step.{Step}
use Rattle.nx_reach.specs.declared.finder.Finder.{Finder}
use Rattle.nx_reach.specs.Reach.{Found, has_label, label_of}
use Rattle.nx_reach.specs.Fit.{fits, turned, found_in}
use Rattle.nx_reach.specs.Seen.{Opened, Closed, Skipped, Progress, progress_after, progress_after_all, HasComeTo, Goes}
use Rattle.nx_reach.proofs.FoundLemmas.{nothing_there, walk_finds}
use Rattle.nx_reach.proofs.SeenLemmas.{moved_append}
use Rattle.nx_names.specs.Shown.{shown_wanted, SkipsOnly}
use Rattle.nx_names.specs.Labels.{HoldsLabels, entered_places}

trees-width : (cut : Layout) → trees (laid_forest cut) ≡ width cut
trees-width Bare = refl
trees-width (Grown node below beside) = omega (arith, trees-width beside)
trees-width (Kept mark members beside) = omega (arith, trees-joined (laid_forest members) (laid_forest beside), trees-width members, trees-width beside)

found_joined : (steps : List Step) (labels : List (List ℕ)) (path : List ℕ) (k : ℕ) (a b : Forest) →
    found_in steps labels path k (joined a b) ≡ found_in steps labels path k a ++ found_in steps labels path (k + trees a) b
found_joined steps labels path k Empty b = let n : k ≡ k + 0 = omega arith in ap (λ (m : ℕ). found_in steps labels path m b) n
found_joined steps labels path k (Plant node below beside) b =
    let here : List (List ℕ) = if fits (turned [] steps) (label node ∷ labels) then (path ++ k ∷ []) ∷ [] else [] in
    let under : List (List ℕ) = found_in steps (label node ∷ labels) (path ++ k ∷ []) 0 below in
    let n : suc k + trees beside ≡ k + (1 + trees beside) = omega arith in
    ap (λ (xs : List (List ℕ)). here ++ (under ++ xs)) (found_joined steps labels path (suc k) beside b ∙ ap (λ (m : ℕ). found_in steps labels path (suc k) beside ++ found_in steps labels path m b) n)
    ∙ ap (λ (xs : List (List ℕ)). here ++ xs) (sym (append_assoc under (found_in steps labels path (suc k) beside) (found_in steps labels path (k + (1 + trees beside)) b)))
    ∙ sym (append_assoc here (under ++ found_in steps labels path (suc k) beside) (found_in steps labels path (k + (1 + trees beside)) b))

parent_again : (path : List ℕ) (k : ℕ) → parent_path (path ++ k ∷ []) ≡ path
parent_again path k = let n : length (path ++ k ∷ []) - 1 ≡ length path = omega (arith, length-append path (k ∷ [])) in ap (λ (m : ℕ). take m (path ++ k ∷ [])) n ∙ front path
  where
    front : (path : List ℕ) → take (length path) (path ++ k ∷ []) ≡ path
    front [] = refl
    front (x ∷ path) = ap (λ (xs : List ℕ). x ∷ xs) (front path)

last_again : (path : List ℕ) (k : ℕ) → last_position (path ++ k ∷ []) ≡ k
last_again path k = let n : length (path ++ k ∷ []) - 1 ≡ length path = omega (arith, length-append path (k ∷ [])) in ap (λ (m : ℕ). slice_index (path ++ k ∷ []) m) n ∙ last path
  where
    last : (path : List ℕ) → slice_index (path ++ k ∷ []) (length path) ≡ k
    last [] = refl
    last (x ∷ path) = last path

same_place : (labels : List (List ℕ)) (path path' : List ℕ) (n n' : ℕ) (f f' : List (List ℕ)) → path ≡ path' → n ≡ n' → f ≡ f' →
    let a : Progress = record { labels = labels; path = path; next = n; found = f } in
    let b : Progress = record { labels = labels; path = path'; next = n'; found = f' } in a ≡ b
same_place labels path path' n n' f f' p e g = cc

-- Where trees are shown, but for intervals without a node of the last step's label, the place moves on over all of them, and what is found is what a walk of all finds.
pub shown_finds : (before : List Step) (step : Step) (wanted : RecordPlace → Bool) (cut : Layout) (place : Progress) → SkipsOnly (label_of step) wanted cut →
    progress_after_all (before ++ step ∷ []) place (shown_wanted wanted cut)
    ≡ record { labels = place.labels; path = place.path; next = place.next + width cut; found = place.found ++ found_in (before ++ step ∷ []) place.labels place.path place.next (laid_forest cut) }
shown_finds before step wanted Bare place skips = same_place place.labels place.path place.path place.next (place.next + 0) place.found (place.found ++ []) refl (omega arith) (sym (append-nil place.found))
shown_finds before step wanted (Grown node below beside) place skips =
    let S : List Step = before ++ step ∷ [] in
    let l : List ℕ = label node.node in
    let here : List (List ℕ) = if fits (turned [] S) (l ∷ place.labels) then (place.path ++ place.next ∷ []) ∷ [] else [] in
    let under : List (List ℕ) = found_in S (l ∷ place.labels) (place.path ++ place.next ∷ []) 0 (laid_forest below) in
    let rest : List (List ℕ) = found_in S place.labels place.path (suc place.next) (laid_forest beside) in
    let p1 : Progress = progress_after S place (Opened l) in
    let p3 : Progress = record { labels = place.labels; path = place.path; next = suc place.next; found = (place.found ++ here) ++ under } in
    let n : last_position (place.path ++ place.next ∷ []) + 1 ≡ suc place.next = omega (arith, last_again place.path place.next) in
    moved_append S p1 (shown_wanted wanted below) (Closed ∷ shown_wanted wanted beside)
    ∙ ap (λ (p : Progress). progress_after_all S (progress_after S p Closed) (shown_wanted wanted beside)) (shown_finds before step wanted below p1 skips.0)
    ∙ ap (λ (p : Progress). progress_after_all S p (shown_wanted wanted beside))
    (same_place place.labels (parent_path (place.path ++ place.next ∷ [])) place.path (last_position (place.path ++ place.next ∷ []) + 1) (suc place.next) ((place.found ++ here) ++ under) ((place.found ++ here) ++ under)
    (parent_again place.path place.next) n refl)
    ∙ shown_finds before step wanted beside p3 skips.1
    ∙ same_place place.labels place.path place.path (suc place.next + width beside) (place.next + (1 + width beside)) (((place.found ++ here) ++ under) ++ rest) (place.found ++ (here ++ (under ++ rest)))
    refl (omega arith) (append_assoc (place.found ++ here) under rest ∙ append_assoc place.found here (under ++ rest))
shown_finds before step wanted (Kept mark members beside) place skips = go (wanted mark) skips.0 skips.1 (shown_finds before step wanted members place) (λ p. shown_finds before step wanted beside p skips.2)
  where
    go : (b : Bool) → (b ≡ true → SkipsOnly (label_of step) wanted members) → (b ≡ false → has_label (label_of step) (laid_forest members) ≡ false) →
        (SkipsOnly (label_of step) wanted members → progress_after_all (before ++ step ∷ []) place (shown_wanted wanted members)
        ≡ record { labels = place.labels; path = place.path; next = place.next + width members; found = place.found ++ found_in (before ++ step ∷ []) place.labels place.path place.next (laid_forest members) }) →
        ((p : Progress) → progress_after_all (before ++ step ∷ []) p (shown_wanted wanted beside)
        ≡ record { labels = p.labels; path = p.path; next = p.next + width beside; found = p.found ++ found_in (before ++ step ∷ []) p.labels p.path p.next (laid_forest beside) }) →
        progress_after_all (before ++ step ∷ []) place ((if b then shown_wanted wanted members else Skipped (width members) ∷ []) ++ shown_wanted wanted beside)
        ≡ record {
          labels = place.labels;
          path = place.path;
          next = place.next + (width members + width beside);
          found = place.found ++ found_in (before ++ step ∷ []) place.labels place.path place.next (joined (laid_forest members) (laid_forest beside));
        }
    go true inside outside first second =
        let S : List Step = before ++ step ∷ [] in
        let fm : List (List ℕ) = found_in S place.labels place.path place.next (laid_forest members) in
        let fb : List (List ℕ) = found_in S place.labels place.path (place.next + width members) (laid_forest beside) in
        let j : found_in S place.labels place.path place.next (joined (laid_forest members) (laid_forest beside)) ≡ fm ++ fb =
        found_joined S place.labels place.path place.next (laid_forest members) (laid_forest beside)
        ∙ ap (λ (m : ℕ). fm ++ found_in S place.labels place.path (place.next + m) (laid_forest beside)) (trees-width members) in
        moved_append S place (shown_wanted wanted members) (shown_wanted wanted beside)
        ∙ ap (λ (p : Progress). progress_after_all S p (shown_wanted wanted beside)) (first (inside refl))
        ∙ second (record { labels = place.labels; path = place.path; next = place.next + width members; found = place.found ++ fm })
        ∙ same_place place.labels place.path place.path ((place.next + width members) + width beside) (place.next + (width members + width beside)) ((place.found ++ fm) ++ fb)
        (place.found ++ found_in S place.labels place.path place.next (joined (laid_forest members) (laid_forest beside))) refl (omega arith)
        (append_assoc place.found fm fb ∙ ap (λ (xs : List (List ℕ)). place.found ++ xs) (sym j))
    go false inside outside first second =
        let S : List Step = before ++ step ∷ [] in
        let fm : List (List ℕ) = found_in S place.labels place.path place.next (laid_forest members) in
        let fb : List (List ℕ) = found_in S place.labels place.path (place.next + width members) (laid_forest beside) in
        let none : fm ≡ [] = nothing_there before step place.labels place.path place.next (laid_forest members) (outside refl) in
        let j : found_in S place.labels place.path place.next (joined (laid_forest members) (laid_forest beside)) ≡ fb =
        found_joined S place.labels place.path place.next (laid_forest members) (laid_forest beside)
        ∙ ap (λ (m : ℕ). fm ++ found_in S place.labels place.path (place.next + m) (laid_forest beside)) (trees-width members)
        ∙ ap (λ (xs : List (List ℕ)). xs ++ fb) none in
        second (record { labels = place.labels; path = place.path; next = place.next + width members; found = place.found })
        ∙ same_place place.labels place.path place.path ((place.next + width members) + width beside) (place.next + (width members + width beside)) (place.found ++ fb)
        (place.found ++ found_in S place.labels place.path place.next (joined (laid_forest members) (laid_forest beside))) refl (omega arith)
        (ap (λ (xs : List (List ℕ)). place.found ++ xs) (sym j))

-- A finder at the root to which all below the root was shown, but for such intervals, has found what the steps match.
pub finder_finds : (node : Node) (before : List Step) (step : Step) (wanted : RecordPlace → Bool) (cut : Layout) (old new : Finder) → old.state.steps.now ≡ before ++ step ∷ [] →
    HasComeTo old (record { labels = []; path = []; next = 0; found = [] }) → Goes old (shown_wanted wanted cut) new → SkipsOnly (label_of step) wanted cut →
    Found (record { node = node; below = laid_forest cut }) (before ++ step ∷ []) new.found
finder_finds node before step wanted cut old new steps is goes skips =
    let start : Progress = record { labels = []; path = []; next = 0; found = [] } in
    let end : HasComeTo new (progress_after_all old.state.steps.now start (shown_wanted wanted cut)) = goes.moves start is in
    let f : new.found ≡ found_in (before ++ step ∷ []) [] [] 0 (laid_forest cut) =
    end.found ∙ ap (λ (s : List Step). (progress_after_all s start (shown_wanted wanted cut)).found) steps ∙ ap (λ (p : Progress). p.found) (shown_finds before step wanted cut start skips) in
    subst (Found (record { node = node; below = laid_forest cut }) (before ++ step ∷ [])) (sym f)
    (walk_finds (record { node = node; below = laid_forest cut }) (before ++ step ∷ []) (omega (arith, length-append before (step ∷ []))))

-- by such a map nothing is passed over that has the label
pub holds_skips : (holds : RecordPlace → List ℕ → Bool) (cut : Layout) (name : List ℕ) → HoldsLabels holds cut → SkipsOnly name (λ mark. holds mark name) cut
holds_skips holds Bare name h = tt
holds_skips holds (Grown node below beside) name h = (holds_skips holds below name h.0, holds_skips holds beside name h.1)
holds_skips holds (Kept mark members beside) name h =
    ((λ _. holds_skips holds members name h.1), (λ e. sym (h.0 name) ∙ e), holds_skips holds beside name h.2)

-- what a walk comes to weighs no more, by any measure, than what is wanted
pub enters_few : (f : RecordPlace → ℕ) (wanted : RecordPlace → Bool) (cut : Layout) → sum_by f (entered_places wanted cut) ≤ sum_by (λ mark. if wanted mark then f mark else 0) (places_of cut)
enters_few f wanted Bare = omega arith
enters_few f wanted (Grown node below beside) =
    omega (arith, sum_by-append f (entered_places wanted below) (entered_places wanted beside), sum_by-append (λ x. if wanted x then f x else 0) (places_of below) (places_of beside), enters_few f wanted below, enters_few f wanted beside)
enters_few f wanted (Kept mark members beside) =
    let g : sum_by f ((if wanted mark then mark ∷ entered_places wanted members else []) ++ entered_places wanted beside) ≤ (if wanted mark then f mark else 0) + sum_by (λ x. if wanted x then f x else 0) (places_of members ++ places_of beside) =
    go (wanted mark) (enters_few f wanted members) (enters_few f wanted beside) (sum_by-append (λ x. if wanted x then f x else 0) (places_of members) (places_of beside)) in
    let first : sum_by (λ x. if wanted x then f x else 0) (mark ∷ (places_of members ++ places_of beside)) ≡ (0 + (if wanted mark then f mark else 0)) + sum_by (λ x. if wanted x then f x else 0) (places_of members ++ places_of beside) =
    sum_by-append (λ x. if wanted x then f x else 0) (mark ∷ []) (places_of members ++ places_of beside) in
    omega arith
  where
    go : (b : Bool) → sum_by f (entered_places wanted members) ≤ sum_by (λ x. if wanted x then f x else 0) (places_of members) → sum_by f (entered_places wanted beside) ≤ sum_by (λ x. if wanted x then f x else 0) (places_of beside) →
        sum_by (λ x. if wanted x then f x else 0) (places_of members ++ places_of beside) ≡ sum_by (λ x. if wanted x then f x else 0) (places_of members) + sum_by (λ x. if wanted x then f x else 0) (places_of beside) →
        sum_by f ((if b then mark ∷ entered_places wanted members else []) ++ entered_places wanted beside) ≤ (if b then f mark else 0) + sum_by (λ x. if wanted x then f x else 0) (places_of members ++ places_of beside)
    go true m s a =
        let one : sum_by f (mark ∷ (entered_places wanted members ++ entered_places wanted beside)) ≡ (0 + f mark) + sum_by f (entered_places wanted members ++ entered_places wanted beside) =
        sum_by-append f (mark ∷ []) (entered_places wanted members ++ entered_places wanted beside) in
        omega (arith, sum_by-append f (entered_places wanted members) (entered_places wanted beside))
    go false m s a = omega arith
