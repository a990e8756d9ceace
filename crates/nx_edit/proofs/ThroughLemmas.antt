-- Records of an interval that moved, and the record above it.
use Rattle.std.proofs.Common.{◌≡◌, ℕ, ◌+◌, List, [], ◌∷◌, ◌++◌, inl, inr, sym, ◌∙◌, subst, arith}
use Rattle.std.specs.Prelude.{IsSome, Contains}
use Rattle.std.proofs.lemmas.List.Elements.{Contains-append_left, Contains-append_right, Contains-append_cases}
use Rattle.nx_holdings.specs.Holdings.{Held}
use Rattle.nx_piece.specs.declared.piece.Piece.{Piece}
use Rattle.nx_cuts.specs.Cut.{Bare, Kept}
use Rattle.nx_layouts.specs.Layout.{RecordPlace, Layout, AreHeld, ArePlacedOnce, places_of}
use Rattle.nx_layouts.proofs.PlaceLemmas.{one_place, first_among, later_among, is_among, AreDisjoint, once-append, between_cases, among_between, out_of_between, once-between, once-around, once-apart}
use Rattle.nx_layouts.proofs.HeldLemmas.{layout_held}
use Rattle.nx_hold.specs.Pieces.{record_at, HoldsPiece, NamesList, IsTidy, PieceMap, held_by}
use Rattle.nx_hold.specs.Documents.{HaveSame, MovesRecords}
use Rattle.nx_hold.proofs.MapLemmas.{held_at}
use Rattle.nx_hold.proofs.MoveLemmas.{moves_add_up, moves_beside, moves_same, same_self, pieces_stay_around}
use Rattle.nx_hold.proofs.RecordsLemmas.{not_none, record_there, names_along}

-- the same places in another order
same_around : (x : RecordPlace) (before inner behind : List RecordPlace) → HaveSame ((x ∷ (before ++ behind)) ++ inner) (x ∷ (before ++ (inner ++ behind)))
same_around x before inner behind p = (to, from)
  where
    to : Contains ((x ∷ (before ++ behind)) ++ inner) p → Contains (x ∷ (before ++ (inner ++ behind))) p
    to h = elim (Contains-append_cases (x ∷ (before ++ behind)) inner p h) [
      | inl a ↦ elim (Contains-append_cases (x ∷ []) (before ++ behind) p a) [
        | inl one ↦ Contains-append_left (x ∷ []) (before ++ (inner ++ behind)) p one
        | inr rest ↦ later_among x (before ++ (inner ++ behind)) p (between_cases before inner behind p rest)
      ]
      | inr i ↦ later_among x (before ++ (inner ++ behind)) p (among_between before inner behind p i)
    ]

    from : Contains (x ∷ (before ++ (inner ++ behind))) p → Contains ((x ∷ (before ++ behind)) ++ inner) p
    from h = elim (Contains-append_cases (x ∷ []) (before ++ (inner ++ behind)) p h) [
      | inl one ↦ Contains-append_left (x ∷ (before ++ behind)) inner p (Contains-append_left (x ∷ []) (before ++ behind) p one)
      | inr rest ↦ elim (out_of_between before inner behind p rest) [
        | inl i ↦ Contains-append_right (x ∷ (before ++ behind)) inner p i
        | inr a ↦ Contains-append_left (x ∷ (before ++ behind)) inner p (later_among x (before ++ behind) p a)
      ]
    ]

pub swapped : (a b : List RecordPlace) (p : RecordPlace) → Contains (a ++ b) p → Contains (b ++ a) p
swapped a b p h = elim (Contains-append_cases a b p h) [ inl one ↦ Contains-append_right b a p one | inr other ↦ Contains-append_left b a p other ]

pub same_swapped : (a b : List RecordPlace) → HaveSame (a ++ b) (b ++ a)
same_swapped a b p = (swapped a b p, swapped b a p)

-- An interval's record, and the records around some of those below it; each holds a piece, and stands once.
pub record IsAround (was : Held) (place : RecordPlace) (before gone behind : List RecordPlace) : Type 0 where
  pub there : (other : RecordPlace) → Contains (place ∷ (before ++ behind)) other → (piece : Piece) × HoldsPiece was other piece
  pub once : ArePlacedOnce (place ∷ (before ++ (gone ++ behind)))

pub around_interval : (was : Held) (pieces : PieceMap was) (place : RecordPlace) (members : Layout) (before gone behind : List RecordPlace) → AreHeld (held_by pieces) (Kept place members Bare) → ArePlacedOnce (places_of (Kept place members Bare))
    → places_of members ++ [] ≡ before ++ (gone ++ behind) → IsAround was place before gone behind
around_interval was pieces place members before gone behind held once e = record {
  there = λ other among.
      let all : Contains (place ∷ (places_of members ++ [])) other =
      subst (λ (ps : List RecordPlace). Contains (place ∷ ps) other) (sym e)
      (elim (Contains-append_cases (place ∷ []) (before ++ behind) other among) [
        | inl one ↦ Contains-append_left (place ∷ []) (before ++ (gone ++ behind)) other one
        | inr rest ↦ later_among place (before ++ (gone ++ behind)) other (between_cases before gone behind other rest)
      ]) in
      let found = layout_held (held_by pieces) (Kept place members Bare) other held all in
      (found.0, held_at was pieces other found.0 found.1);
  once = subst (λ (ps : List RecordPlace). ArePlacedOnce (place ∷ ps)) e once;
}

module _ {was : Held} {place : RecordPlace} {before gone behind : List RecordPlace} (a : IsAround was place before gone behind) where
  is_there : (other : RecordPlace) → Contains (place ∷ (before ++ behind)) other → IsSome (record_at was other)
  is_there other among = let found = a.there other among in record_there was other found.0 found.1

  -- those that went are none of those around them
  pub apart : AreDisjoint gone (place ∷ (before ++ behind))
  apart = once-apart (place ∷ before) gone behind a.once

  not_around : Contains (before ++ behind) place → ⊥
  not_around among = (a.once).0 (between_cases before gone behind place among)

  module _ {mid : Held} {come : List RecordPlace} {brought : List ℕ} {needs : ℕ} (one : MovesRecords gone come [] brought needs was mid) where
    -- and so are those that came
    pub come_apart : AreDisjoint come (place ∷ (before ++ behind))
    come_apart other came among = elim (is_among gone other) [
      | inl went ↦ apart other went among
      | inr not ↦ not_none (record_at was other) (is_there other among) (one.fresh other came not)
    ]

    pub not_below : Contains (before ++ (come ++ behind)) place → ⊥
    not_below among = elim (out_of_between before come behind place among) [ inl came ↦ come_apart place came (first_among place (before ++ behind)) | inr around ↦ not_around around ]

    -- all of them are there in between
    below_there : (other : RecordPlace) → Contains (before ++ (come ++ behind)) other → IsSome (record_at mid other)
    below_there other among = elim (out_of_between before come behind other among) [
      | inl came ↦ one.came other came
      | inr around ↦
          let is = later_among place (before ++ behind) other around in
          subst IsSome (sym (one.kept other (λ went. apart other went is) (λ came. come_apart other came is))) (is_there other is)
    ]

    -- the record above is there still, with its piece
    pub above_stays : IsTidy was → (piece : Piece) → HoldsPiece was place piece → HoldsPiece mid place piece
    above_stays tidy piece holds = (pieces_stay_around gone come [] brought needs was mid tidy one place piece holds (λ went. apart place went (first_among place (before ++ behind)))).1

    -- the record above may be counted among those that moved, and those around
    pub moves_around : MovesRecords (place ∷ (before ++ (gone ++ behind))) (place ∷ (before ++ (come ++ behind))) [] brought needs was mid
    moves_around =
        moves_same ((place ∷ (before ++ behind)) ++ gone) (place ∷ (before ++ (gone ++ behind))) ((place ∷ (before ++ behind)) ++ come) (place ∷ (before ++ (come ++ behind))) [] [] brought brought needs needs was mid
        (same_around place before gone behind) (same_around place before come behind) (same_self []) (same_self brought) (omega arith)
        (moves_beside (place ∷ (before ++ behind)) gone come [] brought needs was mid is_there apart one)

    pub once_there : ArePlacedOnce come → ArePlacedOnce (place ∷ (before ++ (come ++ behind)))
    once_there come_once = (
      not_below,
      once-between before come behind (once-around before gone behind (a.once).1) come_once (λ other came around. come_apart other came (later_among place (before ++ behind) other around)),
    )

    -- what stands around stays
    pub beside_stays : IsTidy was → (other : RecordPlace) (piece : Piece) → Contains (before ++ behind) other → HoldsPiece was other piece
        → (record_at mid other ≡ record_at was other) × HoldsPiece mid other piece × ((count chain : ℕ) → NamesList was other count chain → mid.lists chain ≡ was.lists chain)
    beside_stays tidy other piece around holds =
        let stays = pieces_stay_around gone come [] brought needs was mid tidy one other piece holds (λ went. apart other went (later_among place (before ++ behind) other around)) in
        (stays.0, stays.1, λ count chain names. stays.2 chain (inl (count, names)))

    module _ {now : Held} {top : List RecordPlace} {more : List ℕ} {then : ℕ} (two : MovesRecords (place ∷ []) top [] more then mid now) where
      pub moves_through : MovesRecords (place ∷ (before ++ (gone ++ behind))) (top ++ (before ++ (come ++ behind))) [] (brought ++ more) (needs + then) was now
      moves_through =
          let below : List RecordPlace = before ++ (come ++ behind) in
          let second : MovesRecords (place ∷ below) (top ++ below) [] more then mid now =
          moves_same (below ++ (place ∷ [])) (place ∷ below) (below ++ top) (top ++ below) [] [] more more then then mid now (same_swapped below (place ∷ [])) (same_swapped below top) (same_self []) (same_self more) (omega arith)
          (moves_beside below (place ∷ []) top [] more then mid now below_there (λ other here among. not_below (subst (λ (p : RecordPlace). Contains below p) (one_place place other here) among)) two) in
          moves_add_up (place ∷ (before ++ (gone ++ behind))) (place ∷ below) (top ++ below) [] [] brought more needs then was mid now moves_around second

      pub once_through : ArePlacedOnce top → ArePlacedOnce come → ArePlacedOnce (top ++ (before ++ (come ++ behind)))
      once_through new_once come_once =
          once-append top (before ++ (come ++ behind)) new_once (once_there come_once).1
          (λ other new among. elim (is_among (place ∷ []) other) [
            | inl here ↦ not_below (subst (λ (p : RecordPlace). Contains (before ++ (come ++ behind)) p) (one_place place other here) among)
            | inr not ↦ not_none (record_at mid other) (below_there other among) (two.fresh other new not)
          ])

      module _ (tidy : IsTidy was) (tidier : IsTidy mid) where
        -- what was left in between stays, but for the record above
        pub stays_on : (other : RecordPlace) (piece : Piece) → (other ≡ place → ⊥) → record_at mid other ≡ record_at was other → HoldsPiece mid other piece → ((count chain : ℕ) → NamesList was other count chain → mid.lists chain ≡ was.lists chain)
            → (record_at now other ≡ record_at was other) × HoldsPiece now other piece × ((count chain : ℕ) → NamesList was other count chain → now.lists chain ≡ was.lists chain)
        stays_on other piece not same holds lists =
            let then_stays = pieces_stay_around (place ∷ []) top [] more then mid now tidier two other piece holds (λ here. not (one_place place other here)) in (
              then_stays.0 ∙ same,
              then_stays.1,
              λ count chain names. then_stays.2 chain (inl (count, names_along was mid other count chain same names)) ∙ lists count chain names,
            )

        -- what stands around stays
        pub around_stays : (other : RecordPlace) (piece : Piece) → Contains (before ++ behind) other → HoldsPiece was other piece
            → (record_at now other ≡ record_at was other) × HoldsPiece now other piece × ((count chain : ℕ) → NamesList was other count chain → now.lists chain ≡ was.lists chain)
        around_stays other piece around holds =
            let first = beside_stays tidy other piece around holds in
            stays_on other piece (λ here. not_around (subst (λ (p : RecordPlace). Contains (before ++ behind) p) here around)) first.0 first.1 first.2
