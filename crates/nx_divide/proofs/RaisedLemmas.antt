-- Records that came beside one, which goes then: where a root joins the part above.
use Rattle.std.proofs.Common.{◌≡◌, ℕ, ◌+◌, List, [], ◌∷◌, ◌++◌, Option, None, sym, ap, subst, ◌∙◌, arith, append-nil, inl, inr}
use Rattle.std.specs.Prelude.{Contains, IsSome}
use Rattle.std.proofs.lemmas.List.Elements.{Contains-append_cases}
use Rattle.std.proofs.lemmas.List.Sorted.{Contains-permutation}
use Rattle.nx_host.specs.declared.disk.Disk.{Ghosts}
use Rattle.nx_host.specs.Still.{IsStill}
use Rattle.nx_records.specs.Words.{Held}
use Rattle.nx_records.specs.declared.records.Records.{Records}
use Rattle.nx_records.specs.declared.error.StoreError.{StoreError}
use Rattle.nx_records.specs.Records.{HasChanges, KeepsSaved, StandsFor}
use Rattle.nx_records.specs.Refusals.{RunsOn, NotChanged, NotStored}
use Rattle.nx_piece.specs.declared.piece.Proxy.{Proxy}
use Rattle.nx_piece.specs.Gapped.{Gapped}
use Rattle.nx_divide.specs.declared.dividing.Row.{Row}
use Rattle.nx_layouts.specs.Layout.{RecordPlace, piece_body, places_of, AreHeld, AreLaidParts}
use Rattle.nx_layouts.proofs.PlaceLemmas.{no_place, one_place}
use Rattle.nx_hold.specs.Pieces.{record_at, HoldsNone, MayName, IsTidy, PieceMap, held_by}
use Rattle.nx_hold.specs.Changes.{RemovesPiece, ComesTidy}
use Rattle.nx_hold.specs.Documents.{MovesRecords, HaveSame}
use Rattle.nx_hold.proofs.MapLemmas.{piece_map}
use Rattle.nx_hold.proofs.RecordsLemmas.{not_none}
use Rattle.nx_hold.proofs.MoveLemmas.{moves_same, moves_add_up, moves_beside, remove_moves, may_name_still, same_self}
use Rattle.nx_hold.proofs.RefusalLemmas.{runs_then, saved_then, change_stored}
use Rattle.nx_drafts.specs.Draft.{Draft, Ends, layout_before, layout_after, came, draft_needs}
use Rattle.nx_drafts.proofs.PlacesLemmas.{places_are_both, body-layout_after}
use Rattle.nx_divide.specs.Marked.{IsMarkedDraft}
use Rattle.nx_divide.specs.Putting.{PutsDraft, ArePut, PutsRow}
use Rattle.nx_divide.specs.Dividing.{StandApart, PutsDraftAt, ArePutAt, PutsRowAt, NotPutAt}
use Rattle.nx_divide.proofs.RowLemmas.{needs-unmarked}
use Rattle.nx_divide.proofs.WrittenLemmas.{fars_after}
use Rattle.nx_divide.proofs.PutLemmas.{may_fewer}
use Rattle.nx_divide.proofs.CallLemmas.{put_both, put_refused}
use Rattle.nx_divide.proofs.PlaceLemmas.{held_apart, turned, not_put, not_updated}

module _ (place : RecordPlace) (draft : Draft RecordPlace) (was mid now : Held) (there : IsSome (record_at was place)) (tidy : IsTidy was) (may : MayName was (piece_body (layout_before draft))) (puts : PutsDraft draft was mid) where
  old_apart : Contains (came draft) place → ⊥
  old_apart among = not_none (record_at was place) there ((puts.adds).fresh place among (no_place place))

  -- lists are in order before the old one goes
  pub mid_tidy : IsTidy mid
  mid_tidy = puts.tidy tidy may

  mid_named : MayName mid (piece_body (layout_after draft))
  mid_named = may_name_still (piece_body (layout_after draft)) tidy puts.adds (may_fewer was (piece_body (layout_after draft)) (piece_body (layout_before draft)) (fars_after draft) may)

  after_apart : StandApart place (layout_before draft) → StandApart place (layout_after draft)
  after_apart apart among = elim (Contains-append_cases (came draft) (places_of (layout_before draft)) place (Contains-permutation (places_of (layout_after draft)) (came draft ++ places_of (layout_before draft)) place (places_are_both draft) among)) [
    | inl come ↦ old_apart come
    | inr stood ↦ apart stood
  ]

  first_moves : MovesRecords (place ∷ []) (place ∷ came draft) [] [] (draft_needs draft) was mid
  first_moves =
      moves_beside (place ∷ []) [] (came draft) [] [] (draft_needs draft) was mid (λ other one. subst (λ (p : RecordPlace). IsSome (record_at was p)) (sym (one_place place other one)) there) (λ other none one. no_place other none) puts.adds

  module _ (removes : RemovesPiece place mid now) where
    removed : MovesRecords (place ∷ []) [] [] [] 0 mid now
    removed = remove_moves place mid now removes

    last_moves : MovesRecords (came draft ++ place ∷ []) (came draft ++ []) [] [] 0 mid now
    last_moves =
        moves_beside (came draft) (place ∷ []) [] [] [] 0 mid now (puts.adds).came (λ other one among. old_apart (subst (λ (p : RecordPlace). Contains (came draft) p) (one_place place other one) among)) removed

    same_came : HaveSame (came draft ++ []) (came draft)
    same_came = subst (λ (l : List RecordPlace). HaveSame l (came draft)) (sym (append-nil (came draft))) (same_self (came draft))

    all_moves : MovesRecords (place ∷ []) (came draft) [] [] (draft_needs draft) was now
    all_moves =
        subst (λ (n : ℕ). MovesRecords (place ∷ []) (came draft) [] [] n was now) (let e : draft_needs draft + 0 ≡ draft_needs draft = omega arith in e)
        (moves_add_up (place ∷ []) (place ∷ came draft) (came draft) [] [] [] [] (draft_needs draft) 0 was mid now first_moves
        (moves_same (came draft ++ place ∷ []) (place ∷ came draft) (came draft ++ []) (came draft) [] [] [] [] 0 0 mid now (turned place (came draft)) same_came (same_self []) (same_self []) (omega arith) last_moves))

    all_held : (before : PieceMap was) (after : PieceMap now) → AreLaidParts (was.settings).k (layout_after draft) → StandApart place (layout_before draft) → AreHeld (held_by before) (layout_before draft) → AreHeld (held_by after) (layout_after draft)
    all_held before after light apart h = held_apart place [] 0 mid now mid_tidy removed (piece_map mid) after (layout_after draft) (after_apart apart) mid_named (puts.held before (piece_map mid) light h)

    pub raised_at : PutsDraftAt place draft was now
    raised_at = record { moves = all_moves; held = all_held; once = puts.once }

module _ {D : Type 0} {d : Ghosts D} where
  pub removed_at : {r0 r1 r2 : Records} {x0 x1 x2 : D} (place : RecordPlace) (draft : Draft RecordPlace) → ((saved now : Held) → StandsFor d r0 x0 saved now → IsSome (record_at now place)) → ArePut d r0 r1 x0 x1 draft → RunsOn r1 r2 → KeepsSaved d r1 r2 x1 x2
      → HasChanges r2 → ComesTidy d r1 r2 x1 x2 (λ was now. RemovesPiece place was now) → ArePutAt d place r0 r2 x0 x2 draft
  removed_at {r0} {r1} {r2} {x0} {x1} {x2} place draft there put runs keeps changes removes = record {
    runs = runs_then {r0 = r0} {r1 = r1} {r2 = r2} put.runs runs;
    keeps = saved_then {d = d} {r0 = r0} {r1 = r1} {r2 = r2} {x0 = x0} {x1 = x1} {x2 = x2} put.keeps keeps;
    changes = changes;
    puts = λ saved was stands tidy may.
        let mid = put.puts saved was stands in
        let is = there saved was stands in
        let now = removes saved mid.0 mid.1 (mid_tidy place draft was mid.0 mid.0 is tidy may mid.2) in
        (now.0, now.1, now.2, raised_at place draft was mid.0 now.0 is tidy may mid.2 now.3);
  }

module _ {D : Type 0} {d : Ghosts D} {r0 r1 : Records} {x0 x1 : D} (place : RecordPlace) (holder : List ℕ → Option ℕ) (items : Gapped) (olds : List Proxy) (drawn : Draft (Unit {0})) (m : IsMarkedDraft None holder 0 items olds drawn) (read : ArePut d r0 r1 x0 x1 Ends) where
  -- the walk gave up
  pub walk_not : (r2 : Records) (x2 : D) (e : StoreError) → NotStored d (λ was. draft_needs drawn) (λ was. ⊥) 0 e r1 r2 x1 x2 → NotPutAt d place (draft_needs drawn) e r0 r2 x0 x2
  walk_not r2 x2 e refused =
      not_put d r0 r2 x0 x2 place 0 (draft_needs drawn) (draft_needs drawn) (omega arith) e
      (put_refused {d = d} {r0 = r0} {r1 = r1} {x0 = x0} {x1 = x1} Ends r2 x2 (draft_needs drawn) (draft_needs drawn) read (omega arith) e refused)

  module _ {r2 : Records} {x2 : D} (made : Gapped) (row : List Proxy) (puts : PutsRow d r1 r2 x1 x2 drawn made [] row) where
    all_put : ArePut d r0 r2 x0 x2 puts.draft
    all_put = put_both {d = d} {r0 = r0} {r1 = r1} {r2 = r2} {x0 = x0} {x1 = x1} {x2 = x2} Ends puts.draft read puts.put

    same_needs : draft_needs puts.draft ≡ draft_needs drawn
    same_needs = sym (needs-unmarked puts.draft) ∙ ap draft_needs puts.same

    -- the old record couldn't be taken away
    pub remove_not : (r3 : Records) (x3 : D) (page : ℕ) → IsStill d x2 x3 → (e : StoreError) → NotChanged d (λ was. HoldsNone was place) page e r2 r3 x2 x3 → NotPutAt d place (draft_needs drawn) e r0 r3 x0 x3
    remove_not r3 x3 page still e refused =
        not_updated {d = d} {r0 = r0} {r1 = r2} {x0 = x0} {x1 = x2} r3 x3 place page 0 (draft_needs drawn) puts.draft all_put (omega (arith, same_needs)) e (change_stored d (λ was. HoldsNone was place) page r2 r3 x2 x3 still (λ was. 0) e refused)

    pub raised_put : {r3 : Records} {x3 : D} (all : Row) → all.items ≡ made → all.proxies ≡ row → ((saved now : Held) → StandsFor d r0 x0 saved now → IsSome (record_at now place)) → RunsOn r2 r3 → KeepsSaved d r2 r3 x2 x3 → HasChanges r3
        → ComesTidy d r2 r3 x2 x3 (λ was now. RemovesPiece place was now) → PutsRowAt d place r0 r3 x0 x3 drawn all
    raised_put {r3} {x3} all items_is proxies_is there runs keeps changes removes = record {
      draft = puts.draft;
      same = puts.same;
      items_are = items_is ∙ puts.body_is ∙ sym (body-layout_after puts.draft);
      proxies_are = proxies_is ∙ puts.proxies_are;
      put = removed_at {d = d} {r0 = r0} {r1 = r2} {r2 = r3} {x0 = x0} {x1 = x2} {x2 = x3} place puts.draft there all_put runs keeps changes removes;
    }
