-- What stands while lines are taken that have no fault.
use Rattle.std.proofs.Common.{◌≡◌, ℕ, ◌+◌, Bool, true, false, List, [], ◌∷◌, ◌++◌, length, Option, None, Some, map, refl, ap, sym, ◌∙◌, subst}
use Rattle.std.specs.Prelude.{fold, if◌then◌else◌}
use Rattle.std.specs.List.{cons_option}
use Rattle.std.specs.Option.{option_map_or}
use Rattle.std.proofs.lemmas.List.Elements.{filter_map-append}
use Rattle.std.proofs.lemmas.List.Sums.{fold_push}
use Rattle.nx_pyx.specs.declared.error.PyxFault.{PyxFault}
use Rattle.nx_pyx.specs.declared.error.PyxFault.TheVariants.{BadCode, BadName, BadNesting, BadAttribute, Twice, LongLine, TooDeep, TooMany}
use Rattle.nx_pyx.specs.declared.error.PyxError.{PyxError}
use Rattle.nx_pyx.specs.Event.{Event, event_of}
use Rattle.nx_pyx.specs.Fault.{Standing, at_first, standing_after, standing, is_long, is_misnamed, is_misplaced_event, is_late, is_repeated_event, is_deep, is_surplus, fault_at_standing, events_of, line_fault, fault_at, first_fault}

-- no test refuses the event
pub record Passes (s : Standing) (e : Event) : Type 0 where
  pub short : is_long e ≡ false
  pub named : is_misnamed e ≡ false
  pub placed : is_misplaced_event s e ≡ false
  pub timely : is_late s e ≡ false
  pub fresh : is_repeated_event s e ≡ false
  pub shallow : is_deep s e ≡ false
  pub few : is_surplus s e ≡ false

-- the first of the seven faults of an event that applies, by the tests
abbrev pub refusal_by : Bool → Bool → Bool → Bool → Bool → Bool → Bool → Option PyxFault
refusal_by long misnamed misplaced late repeated deep surplus =
    if long then Some LongLine
    else if misnamed then Some BadName
    else if misplaced then Some BadNesting
    else if late then Some BadAttribute
    else if repeated then Some Twice
    else if deep then Some TooDeep
    else if surplus then Some TooMany
    else None

-- without a fault each test fails
all_false : (long misnamed misplaced late repeated deep surplus : Bool) → refusal_by long misnamed misplaced late repeated deep surplus ≡ None
    → (long ≡ false) × (misnamed ≡ false) × (misplaced ≡ false) × (late ≡ false) × (repeated ≡ false) × (deep ≡ false) × (surplus ≡ false)
all_false true misnamed misplaced late repeated deep surplus h = absurd (cc)
all_false false true misplaced late repeated deep surplus h = absurd (cc)
all_false false false true late repeated deep surplus h = absurd (cc)
all_false false false false true repeated deep surplus h = absurd (cc)
all_false false false false false true deep surplus h = absurd (cc)
all_false false false false false false true surplus h = absurd (cc)
all_false false false false false false false true h = absurd (cc)
all_false false false false false false false false h = (refl, refl, refl, refl, refl, refl, refl)

-- an event that is not refused passes each test
pub unrefused : (s : Standing) (e : Event) → fault_at_standing s e ≡ None → Passes s e
unrefused s e h =
    let p = all_false (is_long e) (is_misnamed e) (is_misplaced_event s e) (is_late s e) (is_repeated_event s e) (is_deep s e) (is_surplus s e) h in
    record { short = p.0; named = p.1; placed = p.2; timely = p.3; fresh = p.4; shallow = p.5; few = p.6 }

-- where each test fails there is no fault
none_by : (long misnamed misplaced late repeated deep surplus : Bool)
    → long ≡ false → misnamed ≡ false → misplaced ≡ false → late ≡ false → repeated ≡ false → deep ≡ false → surplus ≡ false
    → refusal_by long misnamed misplaced late repeated deep surplus ≡ None
none_by long misnamed misplaced late repeated deep surplus a b c d e f g = simp (a, b, c, d, e, f, g)

-- an event that passes each test is not refused
pub not_refused : (s : Standing) (e : Event) → Passes s e → fault_at_standing s e ≡ None
not_refused s e p =
    none_by (is_long e) (is_misnamed e) (is_misplaced_event s e) (is_late s e) (is_repeated_event s e) (is_deep s e) (is_surplus s e)
    p.short p.named p.placed p.timely p.fresh p.shallow p.few

-- these events, none of which is refused, lead from the first standing to the second
abbrev pub Goes : Standing → List Event → Standing → Type 0
Goes s [] t = s ≡ t
Goes s (e ∷ es) t = (fault_at_standing s e ≡ None) × Goes (standing_after s e) es t

-- where the events lead
pub Goes_to : (s : Standing) (es : List Event) (t : Standing) → Goes s es t → fold standing_after s es ≡ t
Goes_to s [] t h = h
Goes_to s (e ∷ es) t h = Goes_to (standing_after s e) es t h.1

-- one way of events after another
pub Goes-append : (s : Standing) (es : List Event) (t : Standing) (more : List Event) (u : Standing) → Goes s es t → Goes t more u → Goes s (es ++ more) u
Goes-append s [] t more u h k = subst (λ (v : Standing). Goes v more u) (sym h) k
Goes-append s (e ∷ es) t more u h k = (h.0, Goes-append (standing_after s e) es t more u h.1 k)

-- the standing between two lists of events
pub Goes_parts : (s : Standing) (es more : List Event) (u : Standing) → Goes s (es ++ more) u → (t : Standing) × Goes s es t × Goes t more u
Goes_parts s [] more u h = (s, refl, h)
Goes_parts s (e ∷ es) more u h = let p = Goes_parts (standing_after s e) es more u h.1 in (p.0, (h.0, p.1), p.2)

-- a line without a fault has an event that is not refused
accepted : (s : Standing) (o : Option Event) → option_map_or (fault_at_standing s) o (Some BadCode) ≡ None → (e : Event) × (o ≡ Some e) × (fault_at_standing s e ≡ None)
accepted s None h = absurd (cc)
accepted s (Some e) h = (e, refl, h)

-- where there is no fault, neither the line nor the rest has one
passed : (n : ℕ) (o : Option PyxFault) (d : Option PyxError) → option_map_or (λ fault. Some (fault_at n fault)) o d ≡ None → (o ≡ None) × (d ≡ None)
passed n None d h = (refl, h)
passed n (Some fault) d h = absurd (cc)

-- what stands after one line more
pub standing_push : (before : List (List ℕ)) (line : List ℕ) (e : Event) → event_of line ≡ Some e → standing (events_of (before ++ line ∷ [])) ≡ standing_after (standing (events_of before)) e
standing_push before line e is =
    ap standing (filter_map-append event_of before (line ∷ []) ∙ ap (λ (o : Option Event). events_of before ++ cons_option o []) is)
    ∙ fold_push standing_after at_first (events_of before) e

-- the lines that come after these have events that lead on
sound_goes_from : (before ls : List (List ℕ)) (s : Standing) → standing (events_of before) ≡ s → first_fault before ls ≡ None
    → (map event_of ls ≡ map (λ e. Some e) (events_of ls)) × Goes s (events_of ls) (fold standing_after s (events_of ls))
sound_goes_from before [] s at h = (refl, refl)
sound_goes_from before (line ∷ ls) s at h =
    let p = passed (length before + 1) (line_fault before line) (first_fault (before ++ line ∷ []) ls) h in
    let a = accepted (standing (events_of before)) (event_of line) p.0 in
    let r = sound_goes_from (before ++ line ∷ []) ls (standing_after s a.0)
    (standing_push before line a.0 a.1 ∙ ap (λ (u : Standing). standing_after u a.0) at) p.1 in
    let ok : fault_at_standing s a.0 ≡ None = subst (λ (u : Standing). fault_at_standing u a.0 ≡ None) at a.2 in
    subst (λ (o : Option Event).
    (o ∷ map event_of ls ≡ map (λ e. Some e) (cons_option o (events_of ls))) × Goes s (cons_option o (events_of ls)) (fold standing_after s (cons_option o (events_of ls))))
    (sym a.1) (ap (λ (os : List (Option Event)). Some a.0 ∷ os) r.0, (ok, r.1))

-- lines without a fault have events that are refused nowhere
pub sound_goes : (ls : List (List ℕ)) → first_fault [] ls ≡ None → (map event_of ls ≡ map (λ e. Some e) (events_of ls)) × Goes at_first (events_of ls) (standing (events_of ls))
sound_goes ls h = sound_goes_from [] ls at_first refl h

-- lines that come after these and say events that are refused nowhere have no fault
goes_sound_from : (before ls : List (List ℕ)) (es : List Event) (s t : Standing) → standing (events_of before) ≡ s → map event_of ls ≡ map (λ e. Some e) es → Goes s es t
    → (first_fault before ls ≡ None) × (events_of ls ≡ es) × (fold standing_after s es ≡ t)
goes_sound_from before [] [] s t at says h = (refl, refl, h)
goes_sound_from before [] (e ∷ es) s t at says h = absurd (cc)
goes_sound_from before (line ∷ ls) [] s t at says h = absurd (cc)
goes_sound_from before (line ∷ ls) (e ∷ es) s t at says h =
    let is : event_of line ≡ Some e = cc in
    let rest : map event_of ls ≡ map (λ e. Some e) es = cc in
    let r = goes_sound_from (before ++ line ∷ []) ls es (standing_after s e) t
    (standing_push before line e is ∙ ap (λ (u : Standing). standing_after u e) at) rest h.1 in
    let ok : fault_at_standing (standing (events_of before)) e ≡ None = subst (λ (u : Standing). fault_at_standing u e ≡ None) (sym at) h.0 in (
      subst (λ (o : Option Event). option_map_or (λ fault. Some (fault_at (length before + 1) fault)) (option_map_or (fault_at_standing (standing (events_of before))) o (Some BadCode)) (first_fault (before ++ line ∷ []) ls) ≡ None)
          (sym is)
          (subst (λ (o : Option PyxFault). option_map_or (λ fault. Some (fault_at (length before + 1) fault)) o (first_fault (before ++ line ∷ []) ls) ≡ None) (sym ok) r.0),
      ap (λ (o : Option Event). cons_option o (events_of ls)) is ∙ ap (λ (xs : List Event). e ∷ xs) r.1,
      r.2,
    )

-- lines that say events which are refused nowhere have no fault
pub goes_sound : (ls : List (List ℕ)) (es : List Event) (s : Standing) → map event_of ls ≡ map (λ e. Some e) es → Goes at_first es s
    → (first_fault [] ls ≡ None) × (events_of ls ≡ es) × (standing es ≡ s)
goes_sound ls es s says h = goes_sound_from [] ls es at_first s refl says h
