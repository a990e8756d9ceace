-- A record in two, and maybe one more: those below it stay between them.
use Rattle.std.proofs.Common.{ℕ, ◌+◌, List, [], ◌∷◌, ◌++◌, inl, inr, subst, arith, append-nil}
use Rattle.std.specs.Prelude.{IsSome, Contains}
use Rattle.std.proofs.lemmas.List.Elements.{Contains-append_left, Contains-append_right, Contains-append_cases}
use Rattle.nx_holdings.specs.Holdings.{Held}
use Rattle.nx_layouts.specs.Layout.{RecordPlace, ArePlacedOnce}
use Rattle.nx_layouts.proofs.PlaceLemmas.{no_place, one_place, first_among, later_among, is_among, between_cases, among_between, out_of_between, once-between, once-append}
use Rattle.nx_hold.specs.Pieces.{record_at}
use Rattle.nx_hold.specs.Documents.{HaveSame, MovesRecords, AddsRecords}
use Rattle.nx_hold.proofs.MoveLemmas.{moves_add_up, moves_beside, moves_same, same_self}
use Rattle.nx_hold.proofs.RecordsLemmas.{not_none}
use Rattle.nx_edit.proofs.ThroughLemmas.{swapped, same_swapped}

-- Records moved, and lists of contents came, and then records moved again:

pub moves_then : (gone between come : List RecordPlace) (brought : List ℕ) (needs then : ℕ) (was mid now : Held) → MovesRecords gone between [] brought needs was mid → MovesRecords between come [] [] then mid now → MovesRecords gone come [] brought (needs + then) was now
moves_then gone between come brought needs then was mid now one two =
    subst (λ (ls : List ℕ). MovesRecords gone come [] ls (needs + then) was now) (append-nil brought) (moves_add_up gone between come [] [] brought [] needs then was mid now one two)

-- One record more came behind those that moved:

pub adds_behind : (gone come : List RecordPlace) (place : RecordPlace) (brought : List ℕ) (needs then : ℕ) (was mid now : Held) → MovesRecords gone come [] brought needs was mid → AddsRecords (place ∷ []) [] then mid now → MovesRecords gone (come ++ place ∷ []) [] brought (needs + then) was now
adds_behind gone come place brought needs then was mid now one two =
    let later : MovesRecords (come ++ []) (come ++ place ∷ []) [] [] then mid now = moves_beside come [] (place ∷ []) [] [] then mid now one.came (λ other gone among. no_place other gone) two in
    moves_then gone come (come ++ place ∷ []) brought needs then was mid now one (subst (λ (ps : List RecordPlace). MovesRecords ps (come ++ place ∷ []) [] [] then mid now) (append-nil come) later)

pub once_behind : (gone come : List RecordPlace) (place : RecordPlace) (brought : List ℕ) (needs then : ℕ) (was mid now : Held) → MovesRecords gone come [] brought needs was mid → AddsRecords (place ∷ []) [] then mid now → ArePlacedOnce come → ArePlacedOnce (come ++ place ∷ [])
once_behind gone come place brought needs then was mid now one two once =
    once-append come (place ∷ []) once (no_place place, tt)
    (λ other came last. not_none (record_at mid other) (one.came other came) (two.fresh other last (λ none. no_place other none)))

-- the two behind the first, the other way round
same_turned : (one two three : RecordPlace) → HaveSame (one ∷ two ∷ three ∷ []) (one ∷ three ∷ two ∷ [])
same_turned one two three p = (turn two three, turn three two)
  where
    turn : (x y : RecordPlace) → Contains (one ∷ x ∷ y ∷ []) p → Contains (one ∷ y ∷ x ∷ []) p
    turn x y h = elim (Contains-append_cases (one ∷ []) (x ∷ y ∷ []) p h) [
      | inl first ↦ Contains-append_left (one ∷ []) (y ∷ x ∷ []) p first
      | inr rest ↦ later_among one (y ∷ x ∷ []) p (swapped (x ∷ []) (y ∷ []) p rest)
    ]

pub moves_turned : (gone : List RecordPlace) (one two three : RecordPlace) (brought : List ℕ) (needs : ℕ) (was now : Held) → MovesRecords gone (one ∷ two ∷ three ∷ []) [] brought needs was now → MovesRecords gone (one ∷ three ∷ two ∷ []) [] brought needs was now
moves_turned gone one two three brought needs was now m =
    moves_same gone gone (one ∷ two ∷ three ∷ []) (one ∷ three ∷ two ∷ []) [] [] brought brought needs needs was now (same_self gone) (same_turned one two three) (same_self []) (same_self brought) (omega arith) m

pub once_turned : (one two three : RecordPlace) → ArePlacedOnce (one ∷ two ∷ three ∷ []) → ArePlacedOnce (one ∷ three ∷ two ∷ [])
once_turned one two three h = (
  λ among. h.0 (swapped (three ∷ []) (two ∷ []) one among),
  (λ among. (h.1).0 (subst (λ (x : RecordPlace). Contains (three ∷ []) x) (one_place two three among) (first_among three [])), (no_place two, tt)),
)

-- The record at a place became those at `front` and `middle`; records stand below it, in front of those in the middle and behind them.
module _ {was now : Held} (place front : RecordPlace) (ahead middle after : List RecordPlace) (brought : List ℕ) (needs : ℕ) (there : (other : RecordPlace) → Contains (ahead ++ after) other → IsSome (record_at was other)) (once : ArePlacedOnce (place ∷ (ahead ++ after)))
    (m : MovesRecords (place ∷ []) (front ∷ middle) [] brought needs was now) where
  not_below : (other : RecordPlace) → Contains (front ∷ middle) other → Contains (ahead ++ after) other → ⊥
  not_below other came among = elim (is_among (place ∷ []) other) [
    | inl here ↦ once.0 (subst (λ (p : RecordPlace). Contains (ahead ++ after) p) (one_place place other here) among)
    | inr not ↦ not_none (record_at was other) (there other among) (m.fresh other came not)
  ]

  same_apart : HaveSame ((ahead ++ after) ++ (front ∷ middle)) (front ∷ (ahead ++ (middle ++ after)))
  same_apart p = (to, from)
    where
      to : Contains ((ahead ++ after) ++ (front ∷ middle)) p → Contains (front ∷ (ahead ++ (middle ++ after))) p
      to h = elim (Contains-append_cases (ahead ++ after) (front ∷ middle) p h) [
        | inl below ↦ later_among front (ahead ++ (middle ++ after)) p (between_cases ahead middle after p below)
        | inr came ↦ elim (Contains-append_cases (front ∷ []) middle p came) [
          | inl one ↦ Contains-append_left (front ∷ []) (ahead ++ (middle ++ after)) p one
          | inr inner ↦ later_among front (ahead ++ (middle ++ after)) p (among_between ahead middle after p inner)
        ]
      ]

      from : Contains (front ∷ (ahead ++ (middle ++ after))) p → Contains ((ahead ++ after) ++ (front ∷ middle)) p
      from h = elim (Contains-append_cases (front ∷ []) (ahead ++ (middle ++ after)) p h) [
        | inl one ↦ Contains-append_right (ahead ++ after) (front ∷ middle) p (Contains-append_left (front ∷ []) middle p one)
        | inr rest ↦ elim (out_of_between ahead middle after p rest) [
          | inl inner ↦ Contains-append_right (ahead ++ after) (front ∷ middle) p (later_among front middle p inner)
          | inr below ↦ Contains-append_left (ahead ++ after) (front ∷ middle) p below
        ]
      ]

  pub moves_apart : MovesRecords (place ∷ (ahead ++ after)) (front ∷ (ahead ++ (middle ++ after))) [] brought needs was now
  moves_apart =
      moves_same ((ahead ++ after) ++ (place ∷ [])) (place ∷ (ahead ++ after)) ((ahead ++ after) ++ (front ∷ middle)) (front ∷ (ahead ++ (middle ++ after))) [] [] brought brought needs needs was now (same_swapped (ahead ++ after) (place ∷ [])) same_apart (same_self []) (same_self brought) (omega arith)
      (moves_beside (ahead ++ after) (place ∷ []) (front ∷ middle) [] brought needs was now there (λ other here among. once.0 (subst (λ (p : RecordPlace). Contains (ahead ++ after) p) (one_place place other here) among)) m)

  pub once_apart : ArePlacedOnce (front ∷ middle) → ArePlacedOnce (front ∷ (ahead ++ (middle ++ after)))
  once_apart new = (
    λ among. elim (out_of_between ahead middle after front among) [ inl inner ↦ new.0 inner | inr below ↦ not_below front (first_among front middle) below ],
    once-between ahead middle after once.1 new.1 (λ other inner below. not_below other (later_among front middle other inner) below),
  )
