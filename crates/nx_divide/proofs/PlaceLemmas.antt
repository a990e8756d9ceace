-- Records that were put in the place of one.
use Rattle.std.proofs.Common.{◌≡◌, ℕ, ◌+◌, ◌≤◌, ◌<◌, List, [], ◌∷◌, ◌++◌, inl, inr, refl, sym, None, ap, subst, ◌∙◌, arith, append-nil}
use Rattle.std.specs.Prelude.{Contains, IsSome, Option, Some, length}
use Rattle.std.specs.Option.{option_to_list}
use Rattle.std.proofs.lemmas.List.Elements.{Contains-append_left, Contains-append_right, Contains-append_cases}
use Rattle.std.proofs.lemmas.List.Sorted.{Contains-permutation}
use Rattle.nx_host.specs.declared.disk.Disk.{Ghosts}
use Rattle.nx_host.specs.Still.{IsStill}
use Rattle.nx_records.specs.Words.{Held, Settings}
use Rattle.nx_records.specs.declared.records.Records.{Records}
use Rattle.nx_records.specs.declared.error.StoreError.{StoreError}
use Rattle.nx_records.specs.declared.error.StoreError.TheVariants as error
use Rattle.nx_records.specs.Records.{HasChanges, KeepsSaved, StandsFor}
use Rattle.nx_records.specs.Refusals.{RunsOn, NotRead, NotStored}
use Rattle.nx_piece.specs.declared.piece.Far.{Far}
use Rattle.nx_piece.specs.Gapped.{gapped_size}
use Rattle.nx_piece.specs.Contents.{fars_in}
use Rattle.nx_cuts.specs.Cut.{Bare, Grown, Kept}
use Rattle.nx_layouts.specs.Layout.{RecordPlace, LaidNode, Layout, in_record, shown_with, piece_body, piece_of, places_of, IsReadIn, IsHeldAt, AreLaidParts, AreHeld, ArePlacedOnce}
use Rattle.nx_layouts.specs.Replace.{joined_layout}
use Rattle.nx_layouts.proofs.PlaceLemmas.{no_place, one_place, same_place, first_among, later_among, once-between, between_cases, among_between, out_of_between}
use Rattle.nx_layouts.proofs.FillLemmas.{fars-gap_more}
use Rattle.nx_layouts.proofs.ReplaceLemmas.{held-joined_layout, light_joined}
use Rattle.nx_hold.specs.Pieces.{record_at, HoldsPiece, HoldsNone, IsNoProxies, MayName, IsTidy, PieceMap, held_by}
use Rattle.nx_hold.specs.Changes.{piece_needs, UpdatesPiece, ComesTidyWhere}
use Rattle.nx_hold.specs.Documents.{MovesRecords, HaveSame}
use Rattle.nx_hold.proofs.PieceLemmas.{some_same}
use Rattle.nx_hold.proofs.MapLemmas.{piece_map, held_at, told_some}
use Rattle.nx_hold.proofs.RecordsLemmas.{not_none, record_there}
use Rattle.nx_hold.proofs.TidyLemmas.{may_name_own}
use Rattle.nx_hold.proofs.MoveLemmas.{moves_same, moves_add_up, moves_beside, update_moves, pieces_stay_around, contents_stay_around, may_name_still, piece_stays, same_self}
use Rattle.nx_hold.proofs.RefusalLemmas.{runs_then, saved_then, ends_then, no_end, rose_later, read_changed, change_stored, read_fewer, store_more}
use Rattle.nx_drafts.specs.Draft.{Draft, Ends, Comes, layout_before, layout_after, came, draft_needs}
use Rattle.nx_drafts.proofs.PlacesLemmas.{places_are_both}
use Rattle.nx_divide.specs.Marked.{AreWritten}
use Rattle.nx_divide.specs.Putting.{PutsDraft, ArePut}
use Rattle.nx_divide.specs.Dividing.{StandApart, PutsDraftAt, ArePutAt, NotPutAt}
use Rattle.nx_divide.proofs.RowLemmas.{joined_draft, layout_after-joined, layout_before-joined, came-joined, needs-joined, held-parted, light-parted}
use Rattle.nx_divide.proofs.WrittenLemmas.{fars_behind, fars_after}
use Rattle.nx_divide.proofs.PutLemmas.{needs_comes, part_fits, may_fewer}
use Rattle.nx_divide.proofs.CallLemmas.{few_then}

-- the lists that a node and the rows around it name are among those of its row
module _ (was : Held) (n : LaidNode) (b s : Layout) (may : MayName was (piece_body (Grown n b s))) where
  below_named : MayName was (piece_body b)
  below_named far among = may far (Contains-append_right (option_to_list (in_record n).far) (fars_in (piece_body b) ++ fars_in (piece_body s)) far (Contains-append_left (fars_in (piece_body b)) (fars_in (piece_body s)) far among))

  beside_named : MayName was (piece_body s)
  beside_named far among = may far (Contains-append_right (option_to_list (in_record n).far) (fars_in (piece_body b) ++ fars_in (piece_body s)) far (Contains-append_right (fars_in (piece_body b)) (fars_in (piece_body s)) far among))

  own_named : (first : ℕ) → n.list ≡ Some first → IsNoProxies was first
  own_named first listed =
      (may (at first) (Contains-append_left (option_to_list (in_record n).far) (fars_in (piece_body b) ++ fars_in (piece_body s)) (at first) (shown n.list listed))).1
    where
      at : ℕ → Far
      at page = record { first = page; length = length n.node.content }

      shown : (list : Option ℕ) → list ≡ Some first → Contains (option_to_list (shown_with n.node list).far) (at first)
      shown None e = cc
      shown (Some other) e = subst (λ (page : ℕ). Contains (at other ∷ []) (at page)) (some_same e) (first_among (at other) [])

behind_named : (was : Held) (p : RecordPlace) (m s : Layout) → MayName was (piece_body (Kept p m s)) → MayName was (piece_body s)
behind_named was p m s may far among = may far (subst (λ (fs : List Far). Contains fs far) (sym (fars-gap_more (piece_body s))) among)

-- what stands in records of other places is held still where one record went and some came, and where the far contents of the row itself might be named
module _ (place : RecordPlace) (come : List RecordPlace) (needs : ℕ) (was now : Held) (tidy : IsTidy was) (moves : MovesRecords (place ∷ []) come [] [] needs was now) (before : PieceMap was) (after : PieceMap now) where
  read_apart : (n : LaidNode) → ((first : ℕ) → n.list ≡ Some first → IsNoProxies was first) → IsReadIn was.lists n → IsReadIn now.lists n
  read_apart n none read first listed = (contents_stay_around (place ∷ []) come [] [] needs was now tidy moves first n.node.content (read first listed) (none first listed) (no_place first)).0

  pub held_apart : (a : Layout) → StandApart place a → MayName was (piece_body a) → AreHeld (held_by before) a → AreHeld (held_by after) a
  held_apart Bare apart may h = tt
  held_apart (Grown n b s) apart may h = (
    read_apart n (own_named was n b s may) h.0,
    held_apart b (λ among. apart (Contains-append_left (places_of b) (places_of s) place among)) (below_named was n b s may) h.1,
    held_apart s (λ among. apart (Contains-append_right (places_of b) (places_of s) place among)) (beside_named was n b s may) h.2,
  )
  held_apart (Kept p m s) apart may h =
      let holds : HoldsPiece was p (piece_of m) = held_at was before p (piece_of m) (h.0).there in
      let other : Contains (place ∷ []) p → ⊥ = λ gone. apart (subst (λ (q : RecordPlace). Contains (p ∷ places_of m ++ places_of s) q) (one_place place p gone) (first_among p (places_of m ++ places_of s))) in (
        record {
          there = told_some now p (piece_of m) (after.piece_at p) (after.are p) (pieces_stay_around (place ∷ []) come [] [] needs was now tidy moves p (piece_of m) holds other).1;
          fits = subst (λ (settings : Settings). gapped_size (piece_body m) ≤ settings.k) (sym moves.settings) (h.0).fits;
        },
        held_apart m (λ among. apart (later_among p (places_of m ++ places_of s) place (Contains-append_left (places_of m) (places_of s) place among))) (may_name_own was p (piece_of m) tidy holds) h.1,
        held_apart s (λ among. apart (later_among p (places_of m ++ places_of s) place (Contains-append_right (places_of m) (places_of s) place among))) (behind_named was p m s may) h.2,
      )

pub turned : (place : RecordPlace) (rest : List RecordPlace) → HaveSame (rest ++ place ∷ []) (place ∷ rest)
turned place rest other = (
  λ among. elim (Contains-append_cases rest (place ∷ []) other among) [
    | inl inside ↦ later_among place rest other inside
    | inr one ↦ subst (λ (p : RecordPlace). Contains (place ∷ rest) p) (sym (one_place place other one)) (first_among place rest)
  ],
  λ among. elim (Contains-append_cases (place ∷ []) rest other among) [
    | inl one ↦ Contains-append_right rest (place ∷ []) other one
    | inr inside ↦ Contains-append_left rest (place ∷ []) other inside
  ],
)

between : (place : RecordPlace) (a b : List RecordPlace) → HaveSame ((a ++ b) ++ place ∷ []) (a ++ ((place ∷ []) ++ b))
between place a b other = (
  λ among. elim (Contains-append_cases (a ++ b) (place ∷ []) other among) [
    | inl inside ↦ between_cases a (place ∷ []) b other inside
    | inr one ↦ among_between a (place ∷ []) b other one
  ],
  λ among. elim (out_of_between a (place ∷ []) b other among) [
    | inl one ↦ Contains-append_right (a ++ b) (place ∷ []) other one
    | inr inside ↦ Contains-append_left (a ++ b) (place ∷ []) other inside
  ],
)

nothing_beside : (a : Layout) → joined_layout a Bare ≡ a
nothing_beside Bare = refl
nothing_beside (Grown n d s) = ap (Grown n d) (nothing_beside s)
nothing_beside (Kept r m s) = ap (Kept r m) (nothing_beside s)

-- Intervals came beside a record that is there, and then the last one in its place.
module _ (place new : RecordPlace) (front members : Draft RecordPlace) (was mid now : Held) (there : IsSome (record_at was place)) (written : AreWritten (piece_body (layout_after members))) (tidy : IsTidy was)
    (may : MayName was (piece_body (layout_before (joined_draft front (Comes new members Ends))))) (puts : PutsDraft (joined_draft front members) was mid) where
  abbrev below : Draft RecordPlace
  below = joined_draft front members

  abbrev all : Draft RecordPlace
  all = joined_draft front (Comes new members Ends)

  abbrev own : ℕ
  own = piece_needs (piece_of (layout_after members))

  old_apart : Contains (came below) place → ⊥
  old_apart among = not_none (record_at was place) there ((puts.adds).fresh place among (no_place place))

  came_all : came all ≡ came front ++ ((new ∷ []) ++ came members)
  came_all = came-joined front (Comes new members Ends) ∙ ap (λ (l : List RecordPlace). came front ++ new ∷ l) (append-nil (came members))

  first_moves : MovesRecords (place ∷ []) (place ∷ came below) [] [] (draft_needs below) was mid
  first_moves =
      moves_beside (place ∷ []) [] (came below) [] [] (draft_needs below) was mid (λ other one. subst (λ (p : RecordPlace). IsSome (record_at was p)) (sym (one_place place other one)) there) (λ other none one. no_place other none) puts.adds

  same_came : HaveSame (came below ++ new ∷ []) (came all)
  same_came =
      subst (λ (l : List RecordPlace). HaveSame (came below ++ new ∷ []) l) (sym came_all)
      (subst (λ (l : List RecordPlace). HaveSame (l ++ new ∷ []) (came front ++ ((new ∷ []) ++ came members))) (sym (came-joined front members)) (between new (came front) (came members)))

  all_needs : draft_needs below + own ≡ draft_needs all
  all_needs = let e = needs_comes new members in let f = needs-joined front members in let g = needs-joined front (Comes new members Ends) in omega (arith, e, f, g)

  same_before : layout_before all ≡ layout_before below
  same_before = layout_before-joined front (Comes new members Ends) ∙ ap (joined_layout (layout_before front)) (nothing_beside (layout_before members)) ∙ sym (layout_before-joined front members)

  below_named_before : MayName was (piece_body (layout_before below))
  below_named_before = subst (λ (a : Layout). MayName was (piece_body a)) same_before may

  -- lists are in order before the last comes
  pub mid_tidy : IsTidy mid
  mid_tidy = puts.tidy tidy below_named_before

  mid_named : MayName mid (piece_body (layout_after below))
  mid_named =
      may_name_still (piece_body (layout_after below)) tidy puts.adds (may_fewer was (piece_body (layout_after below)) (piece_body (layout_before below)) (fars_after below) below_named_before)

  pub last_named : MayName mid (piece_body (layout_after members))
  last_named =
      may_fewer mid (piece_body (layout_after members)) (piece_body (joined_layout (layout_after front) (layout_after members))) (fars_behind (layout_after front) (layout_after members))
      (subst (λ (a : Layout). MayName mid (piece_body a)) (layout_after-joined front members) mid_named)

  below_apart : StandApart place (layout_before all) → StandApart place (layout_after below)
  below_apart apart among =
      elim (Contains-append_cases (came below) (places_of (layout_before below)) place (Contains-permutation (places_of (layout_after below)) (came below ++ places_of (layout_before below)) place (places_are_both below) among)) [
        | inl came ↦ old_apart came
        | inr stood ↦ apart (subst (λ (a : Layout). Contains (places_of a) place) (sym same_before) stood)
      ]

  -- the parts of all, those of the last beside the others
  light_all : (k : ℕ) → AreLaidParts k (layout_after all) → AreLaidParts k (layout_after front) × AreLaidParts k (Kept new (layout_after members) Bare)
  light_all k light = light-parted k (layout_after front) (Kept new (layout_after members) Bare) (subst (AreLaidParts k) (layout_after-joined front (Comes new members Ends)) light)

  light_below : (k : ℕ) → AreLaidParts k (layout_after all) → AreLaidParts k (layout_after below)
  light_below k light =
      let parts = light_all k light in
      subst (AreLaidParts k) (sym (layout_after-joined front members)) (light_joined k (layout_after front) (layout_after members) parts.0 (parts.1).3)

  module _ (updates : UpdatesPiece place new (piece_of (layout_after members)) mid now) where
    new_apart : Contains (came below) new → ⊥
    new_apart among = elim (same_place place new) [
      | inl same ↦ old_apart (subst (λ (p : RecordPlace). Contains (came below) p) (sym same) among)
      | inr apart ↦ not_none (record_at mid new) ((puts.adds).came new among) (updates.was_free apart)
    ]

    all_once : ArePlacedOnce (came all)
    all_once =
        subst ArePlacedOnce (sym came_all)
        (once-between (came front) (new ∷ []) (came members) (subst ArePlacedOnce (came-joined front members) puts.once) (no_place new, tt)
        (λ other one among. new_apart (subst (λ (l : List RecordPlace). Contains l new) (sym (came-joined front members)) (subst (λ (p : RecordPlace). Contains (came front ++ came members) p) (one_place new other one) among))))

    updated : MovesRecords (place ∷ []) (new ∷ []) [] [] own mid now
    updated = update_moves place new (piece_of (layout_after members)) mid now updates

    last_moves : MovesRecords (came below ++ place ∷ []) (came below ++ new ∷ []) [] [] own mid now
    last_moves =
        moves_beside (came below) (place ∷ []) (new ∷ []) [] [] own mid now (puts.adds).came (λ other one among. old_apart (subst (λ (p : RecordPlace). Contains (came below) p) (one_place place other one) among)) updated

    all_moves : MovesRecords (place ∷ []) (came all) [] [] (draft_needs all) was now
    all_moves =
        subst (λ (n : ℕ). MovesRecords (place ∷ []) (came all) [] [] n was now) all_needs
        (moves_add_up (place ∷ []) (place ∷ came below) (came all) [] [] [] [] (draft_needs below) own was mid now first_moves
        (moves_same (came below ++ place ∷ []) (place ∷ came below) (came below ++ new ∷ []) (came all) [] [] [] [] own own mid now (turned place (came below)) same_came (same_self []) (same_self []) (omega arith) last_moves))

    all_held : (before : PieceMap was) (after : PieceMap now) → AreLaidParts (was.settings).k (layout_after all) → StandApart place (layout_before all) → AreHeld (held_by before) (layout_before all) → AreHeld (held_by after) (layout_after all)
    all_held before after light apart h =
        let then : AreHeld (held_by (piece_map mid)) (layout_after below) = puts.held before (piece_map mid) (light_below (was.settings).k light) (subst (AreHeld (held_by before)) same_before h) in
        let later : AreHeld (held_by after) (layout_after below) = held_apart place (new ∷ []) own mid now mid_tidy updated (piece_map mid) after (layout_after below) (below_apart apart) mid_named then in
        let parts = held-parted (held_by after) (layout_after front) (layout_after members) (subst (AreHeld (held_by after)) (layout_after-joined front members) later) in
        let last : IsHeldAt (held_by after) new (layout_after members) = record {
          there = told_some now new (piece_of (layout_after members)) (after.piece_at new) (after.are new) updates.holds;
          fits = part_fits (was.settings).k (now.settings).k (layout_after members) written ((light_all (was.settings).k light).1).2 (ap (λ (s : Settings). s.k) all_moves.settings);
        } in
        subst (AreHeld (held_by after)) (sym (layout_after-joined front (Comes new members Ends)))
        (held-joined_layout (held_by after) (layout_after front) (Kept new (layout_after members) Bare) parts.0 (last, parts.1, tt))

    pub puts_at : PutsDraftAt place all was now
    puts_at = record { moves = all_moves; held = all_held; once = all_once }

-- there was no record at the place
pub not_read : {D : Type 0} (d : Ghosts D) (r0 r1 : Records) (x0 x1 : D) (place : RecordPlace) (page needs : ℕ) → IsStill d x0 x1 → (e : StoreError) → NotRead d (λ was. record_at was place ≡ None) page e r0 r1 x0 x1 → NotPutAt d place needs e r0 r1 x0 x1
not_read d r0 r1 x0 x1 place page needs still e refused = (
  page,
  change_stored d (λ was. IsTidy was → HoldsNone was place) page r0 r1 x0 x1 still (λ was. needs) e
      (read_changed d (λ was. IsTidy was → HoldsNone was place) page r0 r1 x0 x1 still e
      (read_fewer d (λ was. record_at was place ≡ None) (λ was. IsTidy was → HoldsNone was place) page page r0 r1 x0 x1 (λ was none tidy piece holds. not_none (record_at was place) (record_there was place piece holds) none) e refused)),
)

-- a call that puts records beside it gave up
pub not_put : {D : Type 0} (d : Ghosts D) (r0 r1 : Records) (x0 x1 : D) (place : RecordPlace) (page more needs : ℕ) → more ≤ needs → (e : StoreError) → NotStored d (λ was. more) (λ was. ⊥) page e r0 r1 x0 x1 → NotPutAt d place needs e r0 r1 x0 x1
not_put d r0 r1 x0 x1 place page more needs most e refused =
    (page, store_more d page r0 r1 x0 x1 (λ was. ⊥) (λ was. IsTidy was → HoldsNone was place) (λ was. more) (λ was. needs) (λ was none. absurd none) (λ was few. let few' : was.free < more = few in omega (arith, few', most)) e refused)

module _ {D : Type 0} {d : Ghosts D} where
  pub put_at : {r0 r1 r2 : Records} {x0 x1 x2 : D} (place new : RecordPlace) (front members : Draft RecordPlace) → ((saved now : Held) → StandsFor d r0 x0 saved now → IsSome (record_at now place)) → AreWritten (piece_body (layout_after members))
      → ArePut d r0 r1 x0 x1 (joined_draft front members) → RunsOn r1 r2 → KeepsSaved d r1 r2 x1 x2 → HasChanges r2
      → ComesTidyWhere d r1 r2 x1 x2 (λ was. MayName was (piece_body (layout_after members))) (λ was now. UpdatesPiece place new (piece_of (layout_after members)) was now)
      → ArePutAt d place r0 r2 x0 x2 (joined_draft front (Comes new members Ends))
  put_at {r0} {r1} {r2} {x0} {x1} {x2} place new front members there written put runs keeps changes updates = record {
    runs = runs_then {r0 = r0} {r1 = r1} {r2 = r2} put.runs runs;
    keeps = saved_then {d = d} {r0 = r0} {r1 = r1} {r2 = r2} {x0 = x0} {x1 = x1} {x2 = x2} put.keeps keeps;
    changes = changes;
    puts = λ saved was stands tidy may.
        let mid = put.puts saved was stands in
        let is = there saved was stands in
        let now = updates saved mid.0 mid.1 (mid_tidy place new front members was mid.0 mid.0 is written tidy may mid.2) (last_named place new front members was mid.0 mid.0 is written tidy may mid.2) in
        (now.0, now.1, now.2, puts_at place new front members was mid.0 now.0 is written tidy may mid.2 now.3);
  }

  -- no memory was left behind what was put
  pub no_memory : {r0 r1 : Records} {x0 x1 : D} (place : RecordPlace) (needs : ℕ) (a : Draft RecordPlace) → ArePut d r0 r1 x0 x1 a → NotPutAt d place needs error.Memory r0 r1 x0 x1
  no_memory place needs a put = (0, (put.runs, put.keeps))

  -- the call that puts the last in the place gave up
  pub not_updated : {r0 r1 : Records} {x0 x1 : D} (r2 : Records) (x2 : D) (place : RecordPlace) (page more needs : ℕ) (a : Draft RecordPlace) → ArePut d r0 r1 x0 x1 a → draft_needs a + more ≤ needs
      → (e : StoreError) → NotStored d (λ was. more) (λ was. HoldsNone was place) page e r1 r2 x1 x2 → NotPutAt d place needs e r0 r2 x0 x2
  not_updated {r0} {r1} {x0} {x1} r2 x2 place page more needs a put most error.Disk refused =
      (page, (rose_later {d = d} {x0 = x0} {x1 = x1} {x2 = x2} put.still refused.0, ends_then {r0 = r0} {r1 = r1} {r2 = r2} put.runs refused.1))
  not_updated {r0} {r1} {x0} {x1} r2 x2 place page more needs a put most (error.Damaged told) refused = (
    page,
    record {
      page = refused.page;
      ends = ends_then {r0 = r0} {r1 = r1} {r2 = r2} put.runs refused.ends;
      lacks = λ saved was stands tidy piece holds.
          let mid = put.puts saved was stands in
          refused.lacks saved mid.0 mid.1 piece (piece_stays place piece (mid.2).adds holds);
    },
  )
  not_updated {r0} {r1} {x0} {x1} r2 x2 place page more needs a put most error.Ended refused = absurd (no_end r1 (put.runs).after refused.0)
  not_updated {r0} {r1} {x0} {x1} r2 x2 place page more needs a put most error.Memory refused =
      (page, (runs_then {r0 = r0} {r1 = r1} {r2 = r2} put.runs refused.0, saved_then {d = d} {r0 = r0} {r1 = r1} {r2 = r2} {x0 = x0} {x1 = x1} {x2 = x2} put.keeps refused.1))
  not_updated {r0} {r1} {x0} {x1} r2 x2 place page more needs a put most error.Full refused = (
    page,
    record {
      runs = runs_then {r0 = r0} {r1 = r1} {r2 = r2} put.runs refused.runs;
      none_free = refused.none_free;
      few = λ saved was stands. let mid = put.puts saved was stands in few_then was.free (mid.0).free (draft_needs a) more needs ((mid.2).adds).free (refused.few saved mid.0 mid.1) most;
      keeps = saved_then {d = d} {r0 = r0} {r1 = r1} {r2 = r2} {x0 = x0} {x1 = x1} {x2 = x2} put.keeps refused.keeps;
    },
  )
  not_updated {r0} {r1} {x0} {x1} r2 x2 place page more needs a put most error.Exists refused = absurd refused
  not_updated {r0} {r1} {x0} {x1} r2 x2 place page more needs a put most error.NotAStore refused = absurd refused
