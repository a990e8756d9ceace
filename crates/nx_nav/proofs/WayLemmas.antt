-- How far a walk has come: what is told of each layout that it may walk over, and what of it is left.
use Rattle.std.proofs.Common.{◌≡◌, false, ℕ, ◌+◌, ◌-◌, ◌≤◌, List, [], ◌∷◌, ◌++◌, Option, refl, sym, ap, ◌∙◌, subst, arith, append_assoc}
use Rattle.std.proofs.lemmas.List.{append-nil}
use Rattle.std.proofs.lemmas.List.Elements.{Contains-append_left}
use Rattle.std.specs.Prelude.{Bool, IsSome}
use Rattle.nx_host.specs.Disk.{Image, Keeps}
use Rattle.nx_host.specs.declared.disk.Disk.{Ghosts}
use Rattle.nx_host.specs.Still.{IsStill}
use Rattle.nx_host.proofs.DiskLemmas.{none_still, told_same}
use Rattle.nx_records.specs.declared.records.Records.{Records}
use Rattle.nx_records.specs.Records.{has_ended, LeavesRecords}
use Rattle.nx_tree.specs.Forest.{nodes}
use Rattle.nx_tree.specs.Document.{depth, deepest}
use Rattle.nx_layouts.specs.Layout.{RecordPlace, Layout, laid_forest, places_of, ArePlacedOnce}
use Rattle.nx_nav.specs.declared.error.NavError.{NavError}
use Rattle.nx_nav.specs.Parts.{HasLayout}
use Rattle.nx_nav.specs.Refusals.{IsRefused}
use Rattle.nx_nav.specs.Pages.{laid_pages}
use Rattle.nx_nav.specs.Steps.{WalkStep, laid_steps}
use Rattle.nx_nav.specs.Nodes.{CanStand}
use Rattle.nx_nav.specs.Visited.{HasVisited}
use Rattle.nx_nav.specs.Walk.{Visits, HasTold, HasStopped, IsNone}
use Rattle.nx_nav.specs.declared.visited.Visited.{Visited}
use Rattle.nx_nav.proofs.PartLemmas.{stands_kept, layout_goes}
use Rattle.nx_nav.proofs.RefusalLemmas.{refused_later, still_runs}

-- So much of a layout is told, and this is left.
pub record IsLeft (asked : Bool) (Q : Layout → Type 0) (told : List WalkStep) (places : List RecordPlace) (left now before here : ℕ) (layout : Layout) : Type 0 where
  pub rest : Layout
  pub is : Q rest
  pub steps_are : laid_steps asked layout ≡ told ++ laid_steps asked rest
  pub places_are : places_of layout ≡ places ++ places_of rest
  pub nodes_are : left + nodes (laid_forest rest) ≡ now + nodes (laid_forest layout)
  pub shallow : depth (laid_forest rest) ≤ depth (laid_forest layout)
  pub stands : (level : ℕ) → CanStand level (laid_forest layout) → CanStand level (laid_forest rest)
  pub pages_are : here + laid_pages rest ≤ before + laid_pages layout

-- A layout is one before another.
pub record IsSplit (asked : Bool) (P Q : Layout → Type 0) (layout : Layout) : Type 0 where
  pub front : Layout
  pub behind : Layout
  pub first : P front
  pub next : Q behind
  pub steps_are : laid_steps asked layout ≡ laid_steps asked front ++ laid_steps asked behind
  pub places_are : places_of layout ≡ places_of front ++ places_of behind
  pub nodes_are : nodes (laid_forest layout) ≡ nodes (laid_forest front) + nodes (laid_forest behind)
  pub front_shallow : depth (laid_forest front) ≤ depth (laid_forest layout)
  pub behind_shallow : depth (laid_forest behind) ≤ depth (laid_forest layout)
  pub stand : (level : ℕ) → CanStand level (laid_forest layout) → CanStand level (laid_forest front) × CanStand level (laid_forest behind)
  pub pages_are : laid_pages layout ≡ laid_pages front + laid_pages behind

-- Of each layout that P speaks of as much is told, and what is left is one that Q speaks of, where the disk's contents are told.
pub record IsOnWay {A D : Type 0} (d : Ghosts D) (asked : Bool) (Told : A → D → List WalkStep → A → D → Type 0) (P Q : Layout → Type 0) (old : A) (before : D) (left : ℕ) (visited : Visited) (now : A) (here : D) (rest : ℕ) (seen : Visited) : Type 0 where
  pub told : List WalkStep
  pub goes : Told old before told now here
  pub places : List RecordPlace
  pub visits : Visits visited places seen
  pub each : IsSome (d.contents here) → (layout : Layout) → P layout → IsLeft asked Q told places left rest (d.reads before) (d.reads here) layout

-- what holds of a teller and its disks
pub record IsTeller {A D : Type 0} (d : Ghosts D) (Told : A → D → List WalkStep → A → D → Type 0) (Unwritten : D → D → Type 0) : Type 0 where
  pub asked : (a : A) (x y : D) → IsStill d x y → Told a x [] a y
  pub join : (a b c : A) (x y z : D) (s t : List WalkStep) → Told a x s b y → Told b y t c z → Told a x (s ++ t) c z
  pub keeps : (a b : A) (x y : D) (s : List WalkStep) → Told a x s b y → Keeps (d.contents x) (d.contents y)
  pub fewer : (a b : A) (x y : D) (s : List WalkStep) (i : Image) → Told a x s b y → d.may_leave y i → d.may_leave x i
  pub faults : (a b : A) (x y : D) (s : List WalkStep) → Told a x s b y → d.faults x ≤ d.faults y
  pub unwritten : (a b : A) (x y z : D) (s : List WalkStep) → Told a x s b y → Unwritten y z → Unwritten x z

-- no place is visited
pub visits_none : {v : Visited} → Visits v [] v
visits_none {v} earlier were = subst (HasVisited v) (sym (append-nil earlier)) were

-- more places are
pub visits_more : {u v w : Visited} {places more : List RecordPlace} → Visits u places v → Visits v more w → Visits u (places ++ more) w
visits_more {w = w} {places = places} {more = more} first second earlier were = subst (HasVisited w) (append_assoc earlier places more) (second (earlier ++ places) (first earlier were))

-- places before others come once
pub once_left : (a b : List RecordPlace) → ArePlacedOnce (a ++ b) → ArePlacedOnce a
once_left [] b h = tt
once_left (x ∷ a) b h = (λ among. h.0 (Contains-append_left a b x among), once_left a b h.1)

pub once_right : (a b : List RecordPlace) → ArePlacedOnce (a ++ b) → ArePlacedOnce b
once_right [] b h = h
once_right (x ∷ a) b h = once_right a b h.1

once_front : (earlier places front behind : List RecordPlace) → ArePlacedOnce (earlier ++ (places ++ (front ++ behind))) → ArePlacedOnce ((earlier ++ places) ++ front)
once_front earlier places front behind h =
    once_left ((earlier ++ places) ++ front) behind
    (subst ArePlacedOnce (sym (append_assoc (earlier ++ places) front behind ∙ append_assoc earlier places (front ++ behind))) h)

module _ {A D : Type 0} {d : Ghosts D} {Told : A → D → List WalkStep → A → D → Type 0} {Unwritten : D → D → Type 0} (teller : IsTeller d Told Unwritten) where
  -- contents that are told later were told before
  pub told_earlier : {a b : A} {x y : D} {s : List WalkStep} → Told a x s b y → IsSome (d.contents y) → IsSome (d.contents x)
  told_earlier {a} {b} {x} {y} {s} goes seen = subst (λ (o : Option Image). IsSome o) (told_same (d.contents x) (d.contents y) (teller.keeps a b x y s goes) seen) seen

  -- what records and disk stand for stays
  pub told_stands : {a b : A} {x y : D} {s : List WalkStep} {r0 r1 : Records} → Told a x s b y → LeavesRecords r0 r1 → IsSome (d.contents y) → (layout : Layout) → HasLayout d r0 x layout → HasLayout d r1 y layout
  told_stands {a} {b} {x} {y} {s} {r0} {r1} goes same seen =
      layout_goes {r0 = r0} {r1 = r1} same (λ saved now. stands_kept {r = r0} (teller.keeps a b x y s goes) seen (λ i left. teller.fewer a b x y s i goes left))

  module _ {asked : Bool} {P : Layout → Type 0} {a : A} {x : D} {left : ℕ} {v : Visited} where
    -- nothing is told
    pub way_begins : IsOnWay d asked Told P P a x left v a x left v
    way_begins = record {
      told = [];
      goes = teller.asked a x x none_still;
      places = [];
      visits = visits_none;
      each = λ seen l p. record { rest = l; is = p; steps_are = refl; places_are = refl; nodes_are = refl; shallow = omega arith; stands = λ level stands. stands; pages_are = omega arith };
    }

    module _ {Q R : Layout → Type 0} {b : A} {y : D} {rest : ℕ} {w : Visited} (way : IsOnWay d asked Told P Q a x left v b y rest w) where
      -- a part more
      pub way_goes_on : (S : Layout → Type 0) (c : A) (z : D) (more : ℕ) (u : Visited) → HasTold d asked Told R b y rest w c z more u → (IsSome (d.contents z) → (l : Layout) → Q l → IsSplit asked R S l)
          → IsOnWay d asked Told P S a x left v c z more u
      way_goes_on S c z more u has split = record {
        told = way.told ++ has.told;
        goes = teller.join a b c x y z way.told has.told way.goes has.goes;
        places = way.places ++ has.places;
        visits = visits_more way.visits has.visits;
        each = λ seen l p.
            let here = way.each (told_earlier has.goes seen) l p in
            let parts = split seen here.rest here.is in
            let all = has.all seen parts.front parts.first in
            let count : left + nodes (laid_forest here.rest) ≡ rest + nodes (laid_forest l) = here.nodes_are in
            let sum = parts.nodes_are in
            let taken : rest ≡ more + nodes (laid_forest parts.front) = all.1 in
            let visits : has.places ≡ places_of parts.front = all.2 in
            let deep = here.shallow in
            let deeper = parts.behind_shallow in
            let pages : d.reads y + laid_pages here.rest ≤ d.reads x + laid_pages l = here.pages_are in
            let both = parts.pages_are in
            let read : d.reads z ≤ d.reads y + laid_pages parts.front = has.reads seen parts.front parts.first in
            record {
              rest = parts.behind;
              is = parts.next;
              steps_are = here.steps_are
                  ∙ ap (λ s. way.told ++ s) (parts.steps_are ∙ ap (λ s. s ++ laid_steps asked parts.behind) (sym all.0))
                  ∙ sym (append_assoc way.told has.told (laid_steps asked parts.behind));
              places_are = here.places_are
                  ∙ ap (λ ps. way.places ++ ps) (parts.places_are ∙ ap (λ ps. ps ++ places_of parts.behind) (sym visits))
                  ∙ sym (append_assoc way.places has.places (places_of parts.behind));
              nodes_are = omega arith;
              shallow = omega arith;
              stands = λ level stands. (parts.stand level (here.stands level stands)).1;
              pages_are = omega (arith, pages, both, read);
            };
      }

      -- it stopped in the next part
      pub way_stops : (S : Layout → Type 0) (z : D) → HasStopped d asked Told R b y z → ((l : Layout) → Q l → IsSplit asked R S l) → HasStopped d asked Told P a x z
      way_stops S z has split = record {
        told = way.told ++ has.told;
        last = has.last;
        goes = teller.join a b has.last x y z way.told has.told way.goes has.goes;
        first = λ seen l p.
            let here = way.each (told_earlier has.goes seen) l p in
            let parts = split here.rest here.is in
            let first = has.first seen parts.front parts.first in (
              first.0 ++ laid_steps asked parts.behind,
              here.steps_are
                  ∙ ap (λ s. way.told ++ s) (parts.steps_are ∙ ap (λ s. s ++ laid_steps asked parts.behind) first.1 ∙ append_assoc has.told first.0 (laid_steps asked parts.behind))
                  ∙ sym (append_assoc way.told has.told (first.0 ++ laid_steps asked parts.behind)),
            );
        reads = λ seen l p.
            let here = way.each (told_earlier has.goes seen) l p in
            let parts = split here.rest here.is in
            let pages : d.reads y + laid_pages here.rest ≤ d.reads x + laid_pages l = here.pages_are in
            let both = parts.pages_are in
            let read : d.reads z ≤ d.reads y + laid_pages parts.front = has.reads seen parts.front parts.first in
            omega (arith, pages, both, read);
      }

      -- the next part isn't there
      pub way_lacks : (S : Layout → Type 0) (z : D) (deep : ℕ) → HasStopped d asked Told R b y z → IsNone d z R deep rest w → ((l : Layout) → Q l → IsSplit asked R S l) → IsNone d z P deep left v
      way_lacks S z deep has none split seen l p walkable =
          let here = way.each (told_earlier has.goes seen) l p in
          let parts = split here.rest here.is in
          let count : left + nodes (laid_forest here.rest) ≡ rest + nodes (laid_forest l) = here.nodes_are in
          let sum = parts.nodes_are in
          let a = here.shallow in
          let b = parts.front_shallow in
          let shallow : depth (laid_forest l) ≤ deep = walkable.shallow in
          let small : nodes (laid_forest l) ≤ left = walkable.small in
          none seen parts.front parts.first (record {
            shallow = omega arith;
            small = omega arith;
            stands = (parts.stand (deepest + 1 - deep) (here.stands (deepest + 1 - deep) walkable.stands)).0;
            earlier = walkable.earlier ++ way.places;
            were = way.visits walkable.earlier walkable.were;
            once = once_front walkable.earlier way.places (places_of parts.front) (places_of parts.behind)
                (subst (λ ps. ArePlacedOnce (walkable.earlier ++ ps)) (here.places_are ∙ ap (λ ps. way.places ++ ps) parts.places_are) walkable.once);
          })

      -- ... for the cause that is told of it
      pub way_refused : (S : Layout → Type 0) (r0 r1 r2 : Records) (z : D) (deep : ℕ) → has_ended r0 ≡ false → LeavesRecords r0 r1 → HasStopped d asked Told R b y z → ((l : Layout) → Q l → IsSplit asked R S l) → (e : NavError)
          → IsRefused d ⊥ (Unwritten y z) (IsNone d z R deep rest w) e r1 r2 y z → IsRefused d ⊥ (Unwritten x z) (IsNone d z P deep left v) e r0 r2 x z
      way_refused S r0 r1 r2 z deep runs same has split e refused =
          refused_later d ⊥ (Unwritten x z) (IsNone d z P deep left v) r0 r1 r2 x y z same (still_runs r0 runs) (teller.faults a b x y way.told way.goes) (λ bad. bad)
          (λ unwritten. teller.unwritten a b x y z way.told way.goes unwritten) (λ none. way_lacks S z deep has none split) e refused

    -- all is told
    pub way_ends : {Q : Layout → Type 0} {b : A} {y : D} {rest : ℕ} {w : Visited} → IsOnWay d asked Told P Q a x left v b y rest w → ((l : Layout) → Q l → (laid_steps asked l ≡ []) × (nodes (laid_forest l) ≡ 0) × (places_of l ≡ [])) → HasTold d asked Told P a x left v b y rest w
    way_ends {Q} {b} {y} {rest} way none = record {
      told = way.told;
      goes = way.goes;
      places = way.places;
      visits = way.visits;
      all = λ seen l p.
          let here = way.each seen l p in
          let end = none here.rest here.is in
          let count : left + nodes (laid_forest here.rest) ≡ rest + nodes (laid_forest l) = here.nodes_are in
          let zero : nodes (laid_forest here.rest) ≡ 0 = end.1 in (
            sym (here.steps_are ∙ ap (λ s. way.told ++ s) end.0 ∙ append-nil way.told),
            omega arith,
            sym (here.places_are ∙ ap (λ ps. way.places ++ ps) end.2 ∙ append-nil way.places),
          );
      reads = λ seen l p.
          let here = way.each seen l p in
          let pages : d.reads y + laid_pages here.rest ≤ d.reads x + laid_pages l = here.pages_are in
          omega (arith, pages);
    }
