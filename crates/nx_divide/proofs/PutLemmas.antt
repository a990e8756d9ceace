-- Records that were put for a row, and then for another.
use Rattle.std.proofs.Common.{◌≡◌, ℕ, ◌+◌, List, [], ◌∷◌, ◌++◌, inl, inr, sym, subst, ap, ◌∙◌, arith, append-nil}
use Rattle.std.specs.Prelude.{◌≤◌, Contains, length}
use Rattle.std.specs.Option.{option_to_list}
use Rattle.std.proofs.lemmas.List.Elements.{Contains-append_left, Contains-append_right, Contains-append_cases}
use Rattle.nx_records.specs.Words.{Held, Settings}
use Rattle.nx_piece.specs.declared.piece.Far.{Far}
use Rattle.nx_piece.specs.Gapped.{Gapped, gapped_size, gapped_weight}
use Rattle.nx_piece.specs.Contents.{fars_in}
use Rattle.nx_cuts.specs.Cut.{Bare, Kept}
use Rattle.nx_layouts.specs.Layout.{RecordPlace, LaidNode, Layout, in_record, laid_weight, piece_body, piece_of, proxies_of, AreLaidParts, AreHeld, ArePlacedOnce}
use Rattle.nx_layouts.proofs.PlaceLemmas.{no_place, once-append}
use Rattle.nx_layouts.proofs.BodyLemmas.{bodies_are_of_rows}
use Rattle.nx_layouts.proofs.HeldLemmas.{HasAll, held_along}
use Rattle.nx_layouts.specs.Replace.{joined_layout}
use Rattle.nx_layouts.proofs.ReplaceLemmas.{held-joined_layout}
use Rattle.nx_hold.specs.Pieces.{record_at, MayName, PieceMap, held_by}
use Rattle.nx_hold.specs.Changes.{piece_needs, AddsPiece}
use Rattle.nx_hold.specs.Documents.{AddsRecords}
use Rattle.nx_hold.proofs.MapLemmas.{piece_map, told_some}
use Rattle.nx_hold.proofs.RecordsLemmas.{not_none, none_named}
use Rattle.nx_hold.proofs.TidyLemmas.{adds_stay}
use Rattle.nx_hold.proofs.MoveLemmas.{moves_none, moves_same, piece_adds_record, records_add_up, pieces_stay_beside, may_name_still}
use Rattle.nx_drafts.specs.Draft.{Draft, Ends, Grows, Stands, Comes, layout_before, layout_after, came, draft_needs, draft_body, draft_count, record_pages}
use Rattle.nx_drafts.proofs.PlacesLemmas.{body-layout_after, count-layout_after}
use Rattle.nx_divide.specs.Marked.{AreWritten}
use Rattle.nx_divide.specs.Putting.{PutsDraft}
use Rattle.nx_divide.proofs.WrittenLemmas.{written_near, written_far, fars_first, fars_behind, fars_after}
use Rattle.nx_divide.proofs.RowLemmas.{joined_draft, layout_after-joined, layout_before-joined, came-joined, needs-joined, held-parted, light-parted}

-- where records came, all pieces and lists stay
has_grown : {places : List RecordPlace} {needs : ℕ} {was now : Held} (before : PieceMap was) (after : PieceMap now) → AddsRecords places [] needs was now → HasAll (held_by before) (held_by after)
has_grown {places} {needs} {was} {now} before after adds = record {
  pieces = pieces_stay_beside places [] needs was now before after adds;
  lists = λ first bytes there. adds.lists_stay first bytes there (none_named was first);
  most = ap (λ (s : Settings). s.k) adds.settings;
}

pub held_beside : {places : List RecordPlace} {needs : ℕ} {was now : Held} (before : PieceMap was) (after : PieceMap now) (a : Layout) → AddsRecords places [] needs was now → AreHeld (held_by before) a → AreHeld (held_by after) a
held_beside before after a adds = held_along (held_by before) (held_by after) a (has_grown before after adds)

-- the items of a part that weighs no more than these fit its record
pub part_fits : (k most : ℕ) (a : Layout) → AreWritten (piece_body a) → laid_weight a ≤ k → most ≡ k → gapped_size (piece_body a) ≤ most
part_fits k most a written light same =
    let body = bodies_are_of_rows a in
    let fits : gapped_size (piece_body a) ≤ gapped_weight (piece_body a) = body.sized (written_near (piece_body a) written) (written_far (piece_body a) written) in
    let weighs : gapped_weight (piece_body a) ≡ laid_weight a = body.weighs in
    omega (arith, fits, weighs, light, same)

pub puts_none : (held : Held) → PutsDraft Ends held held
puts_none held = record {
  adds = moves_none held;
  tidy = λ tidy may. tidy;
  held = λ before after light h. tt;
  once = tt;
}

-- an interval that stands
pub puts_stands : (place : RecordPlace) (members : Layout) (held : Held) → PutsDraft (Stands place members Ends) held held
puts_stands place members held = record {
  adds = moves_none held;
  tidy = λ tidy may. tidy;
  held = λ before after light h. held_beside before after (Kept place members Bare) (moves_none held) h;
  once = tt;
}

-- contents that a row names may be named by a row that names no others
pub may_fewer : (held : Held) (f g : Gapped) → ((far : Far) → Contains (fars_in f) far → Contains (fars_in g) far) → MayName held g → MayName held f
may_fewer held f g fewer may far among = may far (fewer far among)

module _ (a b : Draft RecordPlace) (was mid now : Held) (one : PutsDraft a was mid) (two : PutsDraft b mid now) where
  both_light : AreLaidParts (was.settings).k (layout_after (joined_draft a b)) → AreLaidParts (was.settings).k (layout_after a) × AreLaidParts (mid.settings).k (layout_after b)
  both_light light =
      let parts = light-parted (was.settings).k (layout_after a) (layout_after b) (subst (AreLaidParts (was.settings).k) (layout_after-joined a b) light) in
      (parts.0, subst (λ (s : Settings). AreLaidParts s.k (layout_after b)) (sym (one.adds).settings) parts.1)

  both_named : MayName was (piece_body (layout_before (joined_draft a b))) → MayName was (piece_body (layout_before a)) × MayName was (piece_body (layout_before b))
  both_named may =
      let all : MayName was (piece_body (joined_layout (layout_before a) (layout_before b))) = subst (λ (l : Layout). MayName was (piece_body l)) (layout_before-joined a b) may in (
        may_fewer was (piece_body (layout_before a)) (piece_body (joined_layout (layout_before a) (layout_before b))) (fars_first (layout_before a) (layout_before b)) all,
        may_fewer was (piece_body (layout_before b)) (piece_body (joined_layout (layout_before a) (layout_before b))) (fars_behind (layout_before a) (layout_before b)) all,
      )

  pub puts_both : PutsDraft (joined_draft a b) was now
  puts_both = record {
    adds = subst (λ (n : ℕ). AddsRecords (came (joined_draft a b)) [] n was now) (sym (needs-joined a b))
        (subst (λ (l : List RecordPlace). AddsRecords l [] (draft_needs a + draft_needs b) was now) (sym (came-joined a b)) (records_add_up (came a) (came b) [] [] (draft_needs a) (draft_needs b) was mid now one.adds two.adds));
    tidy = λ tidy may.
        let named = both_named may in
        two.tidy (one.tidy tidy named.0) (may_name_still (piece_body (layout_before b)) tidy one.adds named.1);
    held = λ before after light h.
        let parts = held-parted (held_by before) (layout_before a) (layout_before b) (subst (AreHeld (held_by before)) (layout_before-joined a b) h) in
        let lights = both_light light in
        let first : AreHeld (held_by (piece_map mid)) (layout_after a) = one.held before (piece_map mid) lights.0 parts.0 in
        let second : AreHeld (held_by (piece_map mid)) (layout_before b) = held_beside before (piece_map mid) (layout_before b) one.adds parts.1 in
        subst (AreHeld (held_by after)) (sym (layout_after-joined a b))
        (held-joined_layout (held_by after) (layout_after a) (layout_after b) (held_beside (piece_map mid) after (layout_after a) two.adds first) (two.held (piece_map mid) after lights.1 second));
    once = subst ArePlacedOnce (sym (came-joined a b)) (once-append (came a) (came b) one.once two.once (λ place first later. not_none (record_at mid place) ((one.adds).came place first) ((two.adds).fresh place later (no_place place))));
  }

-- a tree that stands with the node above
pub puts_grows : (node : LaidNode) (below : Draft RecordPlace) (was now : Held) → PutsDraft below was now → PutsDraft (Grows node below Ends) was now
puts_grows node below was now puts = record {
  adds = subst (λ (l : List RecordPlace). AddsRecords l [] (draft_needs below + 0) was now) (sym (append-nil (came below)))
      (subst (λ (n : ℕ). AddsRecords (came below) [] n was now) (let same : draft_needs below ≡ draft_needs below + 0 = omega arith in same) puts.adds);
  tidy = λ tidy may. puts.tidy tidy (λ far among. may far (deeper far among));
  held = λ before after light h. (
    λ first listed. (puts.adds).lists_stay first node.node.content (h.0 first listed) (none_named was first),
    puts.held before after light.0 h.1,
    tt,
  );
  once = subst ArePlacedOnce (sym (append-nil (came below))) puts.once;
}
  where
    deeper : (far : Far) → Contains (fars_in (piece_body (layout_before below))) far → Contains (fars_in (piece_body (layout_before (Grows node below Ends)))) far
    deeper far among =
        Contains-append_right (option_to_list (in_record node).far) (fars_in (piece_body (layout_before below)) ++ []) far (Contains-append_left (fars_in (piece_body (layout_before below))) [] far among)

front : (place : RecordPlace) (rest : List RecordPlace) (other : RecordPlace) → Contains (rest ++ place ∷ []) other → Contains (place ∷ rest ++ []) other
front place rest other among =
    elim (Contains-append_cases rest (place ∷ []) other among) [
      | inl inside ↦ Contains-append_left (place ∷ rest) [] other (Contains-append_right (place ∷ []) rest other inside)
      | inr one ↦ Contains-append_left (place ∷ rest) [] other (Contains-append_left (place ∷ []) rest other one)
    ]

back : (place : RecordPlace) (rest : List RecordPlace) (other : RecordPlace) → Contains (place ∷ rest ++ []) other → Contains (rest ++ place ∷ []) other
back place rest other among =
    elim (Contains-append_cases (place ∷ rest) [] other among) [
      | inl first ↦ elim (Contains-append_cases (place ∷ []) rest other first) [
        | inl one ↦ Contains-append_right rest (place ∷ []) other one
        | inr inside ↦ Contains-append_left rest (place ∷ []) other inside
      ]
      | inr none ↦ absurd (no_place other none)
    ]

-- a record takes what its piece needs
pub needs_comes : (place : RecordPlace) (members : Draft RecordPlace) → draft_needs (Comes place members Ends) ≡ draft_needs members + piece_needs (piece_of (layout_after members))
needs_comes place members =
    let e : piece_needs (piece_of (layout_after members)) ≡ record_pages (draft_body members) (draft_count members) =
    ap (λ (g : Gapped). record_pages g (length (proxies_of (layout_after members)))) (body-layout_after members) ∙ ap (record_pages (draft_body members)) (count-layout_after members) in
    omega (arith, e)

-- the record of an interval that comes, behind those of all below it
module _ (place : RecordPlace) (members : Draft RecordPlace) (was mid now : Held) (written : AreWritten (piece_body (layout_after members))) (puts : PutsDraft members was mid) (adds : AddsPiece place (piece_of (layout_after members)) mid now) where
  one : AddsRecords (place ∷ []) [] (piece_needs (piece_of (layout_after members))) mid now
  one = piece_adds_record place (piece_of (layout_after members)) mid now adds

  all : AddsRecords (came (Comes place members Ends)) [] (draft_needs (Comes place members Ends)) was now
  all =
      moves_same [] [] (came members ++ place ∷ []) (place ∷ came members ++ []) [] [] [] [] (draft_needs members + piece_needs (piece_of (layout_after members))) (draft_needs (Comes place members Ends)) was now
      (λ other. (λ none. none, λ none. none)) (λ other. (front place (came members) other, back place (came members) other)) (λ first. (λ none. none, λ none. none)) (λ first. (λ none. none, λ none. none))
      (let e = needs_comes place members in omega (arith, e))
      (records_add_up (came members) (place ∷ []) [] [] (draft_needs members) (piece_needs (piece_of (layout_after members))) was mid now puts.adds one)

  members_named : MayName was (piece_body (layout_before (Comes place members Ends))) → MayName was (piece_body (layout_before members))
  members_named = may_fewer was (piece_body (layout_before members)) (piece_body (joined_layout (layout_before members) Bare)) (fars_first (layout_before members) Bare)

  pub puts_comes : PutsDraft (Comes place members Ends) was now
  puts_comes = record {
    adds = all;
    tidy = λ tidy may.
        let named = members_named may in
        let own : MayName was (piece_body (layout_after members)) = may_fewer was (piece_body (layout_after members)) (piece_body (layout_before members)) (fars_after members) named in
        (adds_stay place (piece_of (layout_after members)) mid now (puts.tidy tidy named) (may_name_still (piece_body (layout_after members)) tidy puts.adds own) adds).tidy;
    held = λ before after light h. (
      record {
        there = told_some now place (piece_of (layout_after members)) (after.piece_at place) (after.are place) adds.holds;
        fits = part_fits (was.settings).k (now.settings).k (layout_after members) written light.2 (ap (λ (s : Settings). s.k) (all.settings));
      },
      held_beside (piece_map mid) after (layout_after members) one (puts.held before (piece_map mid) light.3 ((held-parted (held_by before) (layout_before members) Bare h).0)),
      tt,
    );
    once = (
      λ among. not_none (record_at mid place) ((puts.adds).came place (subst (λ (l : List RecordPlace). Contains l place) (append-nil (came members)) among)) adds.was_free,
      subst ArePlacedOnce (sym (append-nil (came members))) puts.once,
    );
  }
