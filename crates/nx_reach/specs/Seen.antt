-- What is shown of a document, one thing after another, and what is found of it.
use Rattle.std.specs.Prelude.{◌≡◌, ℕ, ◌+◌, if◌then◌else◌, List, [], ◌∷◌, ◌++◌, length, drop}
use Rattle.nx_tree.specs.Edit.{parent_path, last_position}
use Rattle.nx_reach.specs.declared.step.Step.{Step}
use Rattle.nx_reach.specs.declared.finder.Finder.{Finder}
use Rattle.nx_reach.specs.Fit.{fits, turned}
use Rattle.nx_reach.specs.Stand.{IsStateAt}

-- one thing that is shown: a node of this label begins, the node ends that began last, or so many children beside each other are passed over
pub data Seen : Type 0 where
  Opened : (name : List ℕ) → Seen
  Closed : Seen
  Skipped : (count : ℕ) → Seen

-- a place in a document: the path and the labels along it, the last one first, the position of the next child, and what was found so far
pub record Progress : Type 0 where
  pub labels : List (List ℕ)
  pub path : List ℕ
  pub next : ℕ
  pub found : List (List ℕ)

-- how the place goes on
abbrev pub progress_after : List Step → Progress → Seen → Progress
progress_after steps place (Opened name) = record {
  labels = name ∷ place.labels;
  path = place.path ++ place.next ∷ [];
  next = 0;
  found = place.found ++ (if fits (turned [] steps) (name ∷ place.labels) then (place.path ++ place.next ∷ []) ∷ [] else []);
}
progress_after steps place Closed = record { labels = drop 1 place.labels; path = parent_path place.path; next = last_position place.path + 1; found = place.found }
progress_after steps place (Skipped count) = record { labels = place.labels; path = place.path; next = place.next + count; found = place.found }

abbrev pub progress_after_all : List Step → Progress → List Seen → Progress
progress_after_all steps place [] = place
progress_after_all steps place (seen ∷ more) = progress_after_all steps (progress_after steps place seen) more

-- the finder is at this place
pub record HasComeTo (finder : Finder) (place : Progress) : Type 0 where
  pub stands : IsStateAt finder.state place.labels
  pub path : finder.path ≡ place.path
  pub next : finder.next ≡ place.next
  pub found : finder.found ≡ place.found
  pub even : length place.labels ≡ length place.path

-- so much was shown to the finder
pub record Goes (old : Finder) (seen : List Seen) (new : Finder) : Type 0 where
  pub same : new.state.steps.now ≡ old.state.steps.now
  pub moves : (place : Progress) → HasComeTo old place → HasComeTo new (progress_after_all old.state.steps.now place seen)
