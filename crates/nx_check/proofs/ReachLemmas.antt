-- The record that waits at a place is reached.
use Rattle.std.proofs.Common.{◌≡◌, ◌≢◌, ◌⊎◌, ◌↔◌, ℕ, ◌+◌, ◌≤◌, min, ◌-◌, ◌^◌, Bool, List, [], ◌∷◌, ◌++◌, Option, Some, refl, sym, ap, ◌∙◌, subst, inl, inr, arith, append_assoc}
use Rattle.nx_host.specs.Disk.{Image, Rose}
use Rattle.nx_host.specs.Still.{IsStill}
use Rattle.nx_host.specs.declared.disk.Disk.{Ghosts}
use Rattle.nx_replay.specs.Log.{Pages, replay}
use Rattle.nx_holdings.specs.Holdings.{Link, pages_of_links}
use Rattle.nx_tree.specs.declared.node.Kind.{Kind}
use Rattle.nx_tree.specs.declared.node.Kind.TheVariants.{Doc, Element, Attribute, Text, Instruction}
use Rattle.nx_tree.specs.Forest.{Forest, nodes}
use Rattle.nx_tree.specs.Document.{element_count}
use Rattle.nx_piece.specs.declared.piece.Proxy.{Proxy}
use Rattle.nx_piece.specs.Gapped.{Gapped, gapped_width, gapped_size, gapped_nodes}
use Rattle.nx_piece.specs.Valid.{AreTrees}
use Rattle.nx_cuts.specs.Cut.{Bare, Kept, joined}
use Rattle.nx_cuts.proofs.RowLemmas.{joined_assoc, joined_nothing}
use Rattle.nx_layouts.specs.Layout.{RecordPlace}
use Rattle.nx_hold.specs.Changes.{place_named}
use Rattle.nx_rules.specs.declared.verdict.PageRule.{PageRule}
use Rattle.nx_rules.specs.declared.verdict.PageRule.TheVariants as rule
use Rattle.nx_rules.specs.Walked.{Reached, Waits, Walked, walked_forest, walked_body, links_behind, Namer, ByCatalog, ByRecord, Named, waiting_in, IsSoFar}
use Rattle.nx_rules.specs.Tour.{Visit, IsVisit, all_reached, all_links, top_elements, Tour, used_in, IsTour}
use Rattle.nx_rules.specs.Broken.{ComesNext, IsReadFirst, HasRoots, MayStand, IsFirstBroken}
use Rattle.nx_rules.specs.Places.{Around, Behind, filled_around, IsCome, namer_at, waiting_behind, before_there, behind_there, siblings_with, kind_above, level_of, MayBeBelow, MayBeThere}
use Rattle.nx_rules.proofs.FirstLemmas.{pages_append}
use Rattle.nx_rules.proofs.RuleLemmas.{width_trees}
use Rattle.nx_rules.proofs.StepLemmas.{one_of, step_on, record_comes}
use Rattle.nx_rules.proofs.PlaceLemmas.{waits_there, places_fit, may_be_there}
use Rattle.nx_check.specs.declared.error.Stop.{Stop}
use Rattle.nx_check.specs.declared.error.Stop.TheVariants as stop
use Rattle.nx_check.specs.declared.siblings.Siblings.{Siblings}
use Rattle.nx_check.specs.Heads.{heads, one_if, elements_among}
use Rattle.nx_check.specs.Shown.{AreShownBy}
use Rattle.nx_check.specs.Siblings.{AreAroundGap, StandAround}
use Rattle.nx_check.specs.On.{StopsWalk}
use Rattle.nx_check.specs.Come.{StopsSo}
use Rattle.nx_check.specs.AtRecord.{BreaksAt}
use Rattle.nx_check.specs.Standing.{Stage, tour_at, IsStage, HasSiblings}
use Rattle.nx_check.proofs.ShownLemmas.{elements_heads, shown_nodes}
use Rattle.nx_check.proofs.FitLemmas.{heads-joined}
use Rattle.nx_layouts.proofs.WithoutLemmas.{nodes_joined}
use Rattle.nx_check.proofs.TopLemmas.{nodes_around, TopIs, top_is, top_at_doc, top_elsewhere}

-- Why a walk stops:

pub breaks_first : (pages : Pages) (tour : Tour) (visit : Visit) (named : Named) (r : PageRule) (page : ℕ) → IsTour pages tour → ComesNext tour visit named → BreaksAt pages tour visit named r page → IsFirstBroken pages r page
breaks_first pages tour visit named rule.Header page kept comes h = absurd h
breaks_first pages tour visit named rule.Free page kept comes h = absurd h
breaks_first pages tour visit named rule.Catalog page kept comes h = absurd h
breaks_first pages tour visit named rule.Slotted page kept comes h = record { tour = tour; kept = kept; visit = visit; named = named; comes = comes; breaks = h }
breaks_first pages tour visit named rule.Missing page kept comes h = record { tour = tour; kept = kept; visit = visit; named = named; comes = comes; breaks = h }
breaks_first pages tour visit named rule.Form page kept comes h = record { tour = tour; kept = kept; visit = visit; named = named; comes = comes; breaks = h }
breaks_first pages tour visit named rule.Chain page kept comes h = inr (record { tour = tour; kept = kept; visit = visit; named = named; comes = comes; breaks = h })
breaks_first pages tour visit named rule.Roots page kept comes h = record { tour = tour; kept = kept; visit = visit; named = named; comes = comes; breaks = h }
breaks_first pages tour visit named rule.Twice page kept comes h = record { tour = tour; kept = kept; visit = visit; named = named; comes = comes; breaks = h }
breaks_first pages tour visit named rule.Document page kept comes h = record { tour = tour; kept = kept; visit = visit; named = named; comes = comes; breaks = h }
breaks_first pages tour visit named rule.Weight page kept comes h = record { tour = tour; kept = kept; visit = visit; named = named; comes = comes; breaks = h }
breaks_first pages tour visit named rule.Nodes page kept comes h = absurd h
breaks_first pages tour visit named rule.Unused page kept comes h = absurd h

pub rose_later : {D : Type 0} (d : Ghosts D) (x y z : D) → IsStill d x y → Rose (d.faults y) (d.faults z) → Rose (d.faults x) (d.faults z)
rose_later d x y z still rose = let a : d.faults x ≤ d.faults y = still.faults_later in let b : min (d.faults y + 1) (2 ^ 64 - 1) ≤ d.faults z = rose in omega (arith, a, b)

-- what a part of the walk says, as why the whole stops
pub stops_as : {D : Type 0} (d : Ghosts D) (x y z : D) (Says : PageRule → ℕ → Type 0) (Is : Image → Type 0) (e : Stop) → IsStill d x y → StopsSo d y z Says e
    → ((r : PageRule) (page : ℕ) (was : Image) → Says r page → Is was → IsFirstBroken (replay was) r page) → StopsWalk d x z Is e
stops_as d x y z Says Is (stop.Broken page r) still h breaks = λ was is. breaks r page was h is
stops_as d x y z Says Is stop.Disk still h breaks = rose_later d x y z still h
stops_as d x y z Says Is stop.Memory still h breaks = tt

pub stops_later : {D : Type 0} (d : Ghosts D) (x y z : D) (Was Is : Image → Type 0) (e : Stop) → IsStill d x y → StopsWalk d y z Was e → ((was : Image) → Is was → Was was) → StopsWalk d x z Is e
stops_later d x y z Was Is (stop.Broken page r) still h from = λ was is. h was (from was is)
stops_later d x y z Was Is stop.Disk still h from = rose_later d x y z still h
stops_later d x y z Was Is stop.Memory still h from = tt

-- The walk goes on:

abbrev pub visit_at : Stage → Walked → Visit
visit_at stage walked = record stage.visit { walked = walked }

-- what waits at the place
abbrev pub here_waits : Around → Proxy → Walked → Walked
here_waits around proxy beside = filled_around around (Kept (Waits proxy) Bare beside)

-- ... and is reached
abbrev pub here_reached : Around → RecordPlace → List (List Link) → Walked → Walked → Walked
here_reached around place chains new beside = filled_around around (Kept (Reached place chains) new beside)

abbrev pub named_here : Namer → Proxy → Named
named_here by proxy = record { by = by; proxy = proxy }

pub so_far_at : (pages : Pages) (stage : Stage) (w : Walked) → IsTour pages (tour_at stage w) → IsSoFar (walked_forest w)
so_far_at pages stage w kept = (one_of (IsVisit pages stage.tour.head.settings.k) stage.before (visit_at stage w) stage.after kept.each).document

abbrev pub comes_next : (stage : Stage) (k : ℕ) (around : Around) (by : Namer) (proxy : Proxy) (beside : Walked) → IsStage k stage → IsCome around → namer_at ByCatalog around ≡ by
    → ComesNext (tour_at stage (here_waits around proxy beside)) (visit_at stage (here_waits around proxy beside)) (named_here by proxy)
comes_next stage k around by proxy beside is come namer =
    let others = waiting_in (namer_at ByCatalog around) beside ++ waiting_behind ByCatalog around in
    record {
      before = stage.before;
      after = stage.after;
      are = refl;
      done = is.done;
      others = others;
      next = waits_there around come ByCatalog (Kept (Waits proxy) Bare beside) ∙ ap (λ (b : Namer). named_here b proxy ∷ others) namer;
    }

-- Its trees may stand there exactly where what was reached with them is of a document.
pub stands_there : (pages : Pages) (stage : Stage) (around : Around) (by : Namer) (proxy : Proxy) (beside : Walked) (chains : List (List Link)) (new : Walked) → IsCome around → IsTour pages (tour_at stage (here_waits around proxy beside))
    → MayStand (named_here by proxy) (visit_at stage (here_waits around proxy beside)) chains new ↔ MayBeThere (kind_above around) (level_of around) (siblings_with around (walked_forest (Kept (Reached (place_named proxy) chains) new beside)))
stands_there pages stage around by proxy beside chains new come kept =
    let fit = places_fit around come proxy beside (place_named proxy) chains new (so_far_at pages stage (here_waits around proxy beside) kept) in (
      λ h. fit.1.0 (subst (λ (w : Walked). IsSoFar (walked_forest w)) fit.0 h),
      λ h. subst (λ (w : Walked). IsSoFar (walked_forest w)) (sym fit.0) (fit.1.1 h),
    )

pub record IsReached (pages : Pages) (stage : Stage) (was now : Walked) (place : RecordPlace) (chains : List (List Link)) : Type 0 where
  pub kept : IsTour pages (tour_at stage now)
  pub reached : all_reached (tour_at stage now).visits ≡ all_reached (tour_at stage was).visits ++ place ∷ []
  pub used : used_in (tour_at stage now) ≡ used_in (tour_at stage was) ++ pages_of_links (links_behind chains)

pub reach : (pages : Pages) (stage : Stage) (k : ℕ) (around : Around) (by : Namer) (proxy : Proxy) (beside : Walked) (chains : List (List Link)) (new : Walked) → IsStage k stage → IsCome around → namer_at ByCatalog around ≡ by
    → IsTour pages (tour_at stage (here_waits around proxy beside)) → IsReadFirst pages (tour_at stage (here_waits around proxy beside)) (named_here by proxy) chains new → HasRoots (named_here by proxy) new
    → MayStand (named_here by proxy) (visit_at stage (here_waits around proxy beside)) chains new → gapped_size (walked_body new) ≤ k
    → IsReached pages stage (here_waits around proxy beside) (here_reached around (place_named proxy) chains new beside) (place_named proxy) chains
reach pages stage k around by proxy beside chains new is come namer kept read roots stands light =
    let was = here_waits around proxy beside in
    let place = place_named proxy in
    let tour = tour_at stage was in
    let comes = comes_next stage k around by proxy beside is come namer in
    let fit = places_fit around come proxy beside place chains new (so_far_at pages stage was kept) in
    let small : gapped_size (walked_body new) ≤ tour.head.settings.k = subst (λ (n : ℕ). gapped_size (walked_body new) ≤ n) (sym is.most) light in
    let step = step_on pages tour (visit_at stage was) (named_here by proxy) chains new kept comes read roots small in
    let next : Walked → List Visit = λ w. stage.before ++ visit_at stage w ∷ stage.after in
    let links : all_links (next (here_reached around place chains new beside)) ≡ all_links (next was) ++ links_behind chains =
    subst (λ (w : Walked). all_links (next w) ≡ all_links (next was) ++ links_behind chains) fit.0 step.links in
    record {
      kept = subst (λ (w : Walked). IsTour pages (tour_at stage w)) fit.0 (record_comes pages tour (visit_at stage was) (named_here by proxy) chains new kept comes read roots stands small);
      reached = subst (λ (w : Walked). all_reached (next w) ≡ all_reached (next was) ++ place ∷ []) fit.0 step.reached;
      used = ap (λ (l : List Link). pages_of_links (stage.tour.catalog ++ l)) links ∙ ap pages_of_links (sym (append_assoc stage.tour.catalog (all_links (next was)) (links_behind chains)))
          ∙ pages_append (stage.tour.catalog ++ all_links (next was)) (links_behind chains);
    }

-- Among siblings:

kind_cases : (k : Kind) → (k ≡ Doc) ⊎ (k ≡ Doc → ⊥)
kind_cases Doc = inl refl
kind_cases Element = inr (λ e. cc)
kind_cases Attribute = inr (λ e. cc)
kind_cases Text = inr (λ e. cc)
kind_cases Instruction = inr (λ e. cc)

-- those behind a place
abbrev pub forest_behind : Around → Walked → Forest
forest_behind around beside = joined (walked_forest beside) (behind_there around)

there_at : (above : Option Kind) (k : Kind) (level : ℕ) (f : Forest) → above ≡ Some k → MayBeThere above level f → MayBeBelow k level f
there_at above k level f e h = subst (λ (a : Option Kind). MayBeThere a level f) e h

there_from : (above : Option Kind) (k : Kind) (level : ℕ) (f : Forest) → above ≡ Some k → MayBeBelow k level f → MayBeThere above level f
there_from above k level f e h = subst (λ (a : Option Kind). MayBeThere a level f) (sym e) h

-- with the record's trees there
three_there : (around : Around) (proxy : Proxy) (chains : List (List Link)) (new beside : Walked)
    → siblings_with around (walked_forest (Kept (Reached (place_named proxy) chains) new beside)) ≡ joined (joined (before_there around) (walked_forest new)) (forest_behind around beside)
three_there around proxy chains new beside =
    ap (joined (before_there around)) (joined_assoc (walked_forest new) (walked_forest beside) (behind_there around)) ∙ sym (joined_assoc (before_there around) (walked_forest new) (forest_behind around beside))

pub record StandsAmong (s : Siblings) (element : Bool) (around : Around) (beside : Walked) : Type 0 where
  pub stand : StandAround s element (heads (before_there around)) (heads (forest_behind around beside))
  pub there : MayBeBelow s.kind (level_of around) (joined (before_there around) (forest_behind around beside))

pub stands_among : (s : Siblings) (element : Bool) (around : Around) (proxy : Proxy) (beside : Walked) → HasSiblings s around beside → IsSoFar (walked_forest (here_waits around proxy beside))
    → one_if element ≡ top_elements (walked_forest (here_waits around proxy beside)) → StandsAmong s element around beside
stands_among s element around proxy beside has so_far found =
    let row = Kept (Waits proxy) Bare beside in
    let siblings = joined (before_there around) (forest_behind around beside) in
    record {
      stand = record {
        attributes = has.1;
        top = λ doc.
            let top : top_elements (walked_forest (filled_around around row)) ≡ element_count siblings =
            top_at_doc s.kind (walked_forest (filled_around around row)) siblings (top_elements (walked_forest (filled_around around row))) doc (subst (λ (o : Option Kind). TopIs o (walked_forest (filled_around around row)) siblings (top_elements (walked_forest (filled_around around row)))) has.0 (top_is around row row so_far)) in
            found ∙ top ∙ elements_heads siblings ∙ ap elements_among (heads-joined (before_there around) (forest_behind around beside));
      };
      there = there_at (kind_above around) s.kind (level_of around) siblings has.0 (may_be_there around row so_far);
    }

-- The trees join them, or may not stand there.
pub never_there : (s : Siblings) (around : Around) (proxy : Proxy) (chains : List (List Link)) (new beside : Walked) → HasSiblings s around beside
    → (MayBeBelow s.kind (level_of around) (joined (joined (before_there around) (walked_forest new)) (forest_behind around beside)) → ⊥)
    → MayBeThere (kind_above around) (level_of around) (siblings_with around (walked_forest (Kept (Reached (place_named proxy) chains) new beside))) → ⊥
never_there s around proxy chains new beside has never h =
    never (subst (λ (f : Forest). MayBeBelow s.kind (level_of around) f) (three_there around proxy chains new beside) (there_at (kind_above around) s.kind (level_of around) (siblings_with around (walked_forest (Kept (Reached (place_named proxy) chains) new beside))) has.0 h))

pub goes_there : (s : Siblings) (around : Around) (proxy : Proxy) (chains : List (List Link)) (new beside : Walked) → HasSiblings s around beside
    → MayBeBelow s.kind (level_of around) (joined (joined (before_there around) (walked_forest new)) (forest_behind around beside))
    → MayBeThere (kind_above around) (level_of around) (siblings_with around (walked_forest (Kept (Reached (place_named proxy) chains) new beside)))
goes_there s around proxy chains new beside has h =
    there_from (kind_above around) s.kind (level_of around) (siblings_with around (walked_forest (Kept (Reached (place_named proxy) chains) new beside))) has.0
    (subst (λ (f : Forest). MayBeBelow s.kind (level_of around) f) (sym (three_there around proxy chains new beside)) h)

-- what is known of the siblings then
pub siblings_joined : (s t : Siblings) (element : Bool) (around : Around) (place : RecordPlace) (chains : List (List Link)) (new beside : Walked) → t.kind ≡ s.kind → HasSiblings s around beside
    → StandAround t element (heads (joined (before_there around) (walked_forest new))) (heads (forest_behind around beside)) → HasSiblings t (Behind (Kept (Reached place chains) new Bare) around) beside
siblings_joined s t element around place chains new beside same has stand = (
  has.0 ∙ ap Some (sym same),
  λ e. subst (λ (f : Forest). AreAroundGap t (heads (joined (before_there around) f)) (heads (forest_behind around beside))) (sym (joined_nothing (walked_forest new))) (stand.attributes e),
)

-- the elements below the root are counted then
pub found_joined : (s t : Siblings) (element now : Bool) (around : Around) (proxy : Proxy) (chains : List (List Link)) (new beside : Walked) → t.kind ≡ s.kind → HasSiblings s around beside → IsSoFar (walked_forest (here_waits around proxy beside))
    → one_if element ≡ top_elements (walked_forest (here_waits around proxy beside)) → (s.kind ≢ Doc → now ≡ element)
    → StandAround t now (heads (joined (before_there around) (walked_forest new))) (heads (forest_behind around beside))
    → one_if now ≡ top_elements (walked_forest (here_reached around (place_named proxy) chains new beside))
found_joined s t element now around proxy chains new beside same has so_far found other stand = elim (kind_cases s.kind) [
  | inl doc ↦
      let siblings = joined (joined (before_there around) (walked_forest new)) (forest_behind around beside) in
      let top = top_at_doc s.kind all (siblings_with around (walked_forest row)) was doc is in
      stand.top (same ∙ doc) ∙ sym (ap elements_among (heads-joined (joined (before_there around) (walked_forest new)) (forest_behind around beside))) ∙ sym (elements_heads siblings)
      ∙ sym (ap element_count (three_there around proxy chains new beside)) ∙ sym top
  | inr not_doc ↦ ap one_if (other not_doc) ∙ found ∙ sym (top_elsewhere s.kind all (siblings_with around (walked_forest row)) was not_doc is)
] where
  row : Walked
  row = Kept (Reached (place_named proxy) chains) new beside

  all : Forest
  all = walked_forest (filled_around around row)

  was : ℕ
  was = top_elements (walked_forest (here_waits around proxy beside))

  is : TopIs (Some s.kind) all (siblings_with around (walked_forest row)) was
  is = subst (λ (o : Option Kind). TopIs o all (siblings_with around (walked_forest row)) was) has.0 (top_is around (Kept (Waits proxy) Bare beside) row so_far)

-- and so are the nodes
pub nodes_reached : (around : Around) (proxy : Proxy) (place : RecordPlace) (chains : List (List Link)) (new beside : Walked) (g : Gapped) (old now : ℕ) → AreShownBy g (walked_forest new) → old ≡ min (nodes (walked_forest (here_waits around proxy beside))) 4294967295
    → now ≡ min (old + gapped_nodes g) 4294967295 → now ≡ min (nodes (walked_forest (here_reached around place chains new beside))) 4294967295
nodes_reached around proxy place chains new beside g old now shown was is =
    let r = nodes_around around in
    let a = r.1 (Kept (Waits proxy) Bare beside) in
    let b = r.1 (Kept (Reached place chains) new beside) in
    let c = nodes_joined (walked_forest new) (walked_forest beside) in
    let d = shown_nodes g (walked_forest new) shown in
    omega (arith, a, b, c, d, was, is)

-- the record's roots are as many as the proxy says, or not
pub has_roots : (page : ℕ) (proxy : Proxy) (new : Walked) (g : Gapped) → walked_body new ≡ g → AreTrees g → gapped_width g ≡ proxy.roots → HasRoots (named_here (ByRecord page) proxy) new
has_roots page proxy new g body trees e = inr (width_trees new (subst (λ (x : Gapped). AreTrees x) (sym body) trees) ∙ ap gapped_width body ∙ e)

pub other_roots : (page : ℕ) (proxy : Proxy) (new : Walked) (g : Gapped) → walked_body new ≡ g → AreTrees g → (gapped_width g ≡ proxy.roots → ⊥) → HasRoots (named_here (ByRecord page) proxy) new → ⊥
other_roots page proxy new g body trees never (inl by) = cc
other_roots page proxy new g body trees never (inr wide) =
    never (sym (ap gapped_width body) ∙ sym (width_trees new (subst (λ (x : Gapped). AreTrees x) (sym body) trees)) ∙ wide)
