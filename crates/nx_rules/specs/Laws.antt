-- The laws of verdicts.
use Rattle.std.specs.Prelude.{◌≡◌, ◌↔◌, ℕ, ◌≤◌, List, ◌∷◌, ◌++◌}
use Rattle.nx_replay.specs.Log.{Pages}
use Rattle.nx_holdings.specs.Holdings.{Link}
use Rattle.nx_piece.specs.Gapped.{gapped_size}
use Rattle.nx_state.specs.State.{State}
use Rattle.nx_state.specs.Stands.{Stands}
use Rattle.nx_rules.specs.declared.verdict.PageRule.{PageRule}
use Rattle.nx_rules.specs.declared.verdict.Verdict.{Verdict}
use Rattle.nx_piece.specs.declared.piece.Proxy.{Proxy}
use Rattle.nx_cuts.specs.Cut.{Bare, Kept}
use Rattle.nx_layouts.specs.Layout.{RecordPlace}
use Rattle.nx_rules.specs.Walked.{Reached, Waits, Walked, walked_forest, walked_body, Namer, Named, named_place, waiting_in, IsSoFar}
use Rattle.nx_rules.specs.Places.{Around, filled_around, IsCome, namer_at, waiting_behind, siblings_with, kind_above, level_of, MayBeThere}
use Rattle.nx_rules.specs.Tour.{Visit, Tour, IsTour}
use Rattle.nx_rules.specs.Broken.{reached_first, ComesNext, IsReadFirst, HasRoots, MayStand, IsFirstBroken}
use Rattle.nx_rules.specs.Verdict.{KeepsRules, IsVerdict}

-- Pages have one verdict at most.
abbrev pub OneVerdict : Type 0
OneVerdict = (pages : Pages) (one other : Verdict) → IsVerdict pages one → IsVerdict pages other → one ≡ other

-- Pages stand for a state exactly where they keep all rules.
abbrev pub NoRuleBroken : Type 0
NoRuleBroken = (pages : Pages) → ((state : State) × Stands pages state) ↔ KeepsRules pages

-- the walk with the record that it comes to next reached, which has these trees and these chain pages
abbrev pub with_reached : {visit : Visit} {named : Named} (tour : Tour) → ComesNext tour visit named → List (List Link) → Walked → Tour
with_reached {visit} {named} tour comes chains new =
    record tour { visits = comes.before ++ record visit { walked = reached_first (named_place named) chains new visit.walked } ∷ comes.after }

-- A record that keeps the rules leads the walk on.
abbrev pub RecordComes : Type 0
RecordComes = (pages : Pages) (tour : Tour) (visit : Visit) (named : Named) (chains : List (List Link)) (new : Walked) → IsTour pages tour → (comes : ComesNext tour visit named)
    → IsReadFirst pages tour named chains new → HasRoots named new → MayStand named visit chains new → gapped_size (walked_body new) ≤ tour.head.settings.k → IsTour pages (with_reached tour comes chains new)

-- Of pages that stand for a state no rule is the first that they break.
abbrev pub NoneBroken : Type 0
NoneBroken = (pages : Pages) (state : State) → Stands pages state → (rule : PageRule) (page : ℕ) → IsFirstBroken pages rule page → ⊥

-- What waits is what waits in the row of a place, and then what waits behind it.
abbrev pub WaitsThere : Type 0
WaitsThere = (around : Around) → IsCome around → (by : Namer) (row : Walked) → waiting_in by (filled_around around row) ≡ waiting_in (namer_at by around) row ++ waiting_behind by around

-- Where a record waits at a place, it is the one that is reached there. With its trees all stands so far exactly where these may stand there, with those beside them under
-- the node above.
abbrev pub PlacesFit : Type 0
PlacesFit = (around : Around) → IsCome around → (proxy : Proxy) (beside : Walked) (place : RecordPlace) (chains : List (List Link)) (new : Walked) → IsSoFar (walked_forest (filled_around around (Kept (Waits proxy) Bare beside)))
    → (reached_first place chains new (filled_around around (Kept (Waits proxy) Bare beside)) ≡ filled_around around (Kept (Reached place chains) new beside))
    × (IsSoFar (walked_forest (filled_around around (Kept (Reached place chains) new beside))) ↔ MayBeThere (kind_above around) (level_of around) (siblings_with around (walked_forest (Kept (Reached place chains) new beside))))
