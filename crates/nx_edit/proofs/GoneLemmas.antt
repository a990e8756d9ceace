-- A document taken away: its records, as the row of its root, and then the lists of its contents.
use Rattle.std.proofs.Common.{◌≡◌, ℕ, List, [], ◌∷◌, ◌++◌, refl, sym, ap, subst, arith, append-nil, IsPermutation}
use Rattle.std.specs.Option.{IsSomeAnd}
use Rattle.std.specs.List.{sum_by}
use Rattle.std.proofs.lemmas.List.Sums.{sum_by-append}
use Rattle.std.proofs.lemmas.List.Sorted.{sum_by-IsPermutation}
use Rattle.nx_host.specs.declared.disk.Disk.{Ghosts}
use Rattle.nx_host.specs.Still.{IsStill}
use Rattle.nx_holdings.specs.Holdings.{Held}
use Rattle.nx_records.specs.declared.records.Records.{Records}
use Rattle.nx_records.specs.declared.error.StoreError.{StoreError}
use Rattle.nx_records.specs.declared.error.StoreError.TheVariants as store
use Rattle.nx_records.specs.Records.{KeepsSaved, StandsFor}
use Rattle.nx_records.specs.Refusals.{RunsOn}
use Rattle.nx_piece.specs.declared.piece.Far.{Far}
use Rattle.nx_piece.specs.declared.piece.Proxy.{Proxy}
use Rattle.nx_cuts.specs.Cut.{CutTree, Bare, Grown}
use Rattle.nx_layouts.specs.Layout.{LaidNode, Layout, laid_near, places_of, proxy_of, nodes_in, contents_of, IsLaidOutAs, whole}
use Rattle.nx_layouts.proofs.PlaceLemmas.{no_place}
use Rattle.nx_hold.specs.declared.entry.DocEntry.{DocEntry}
use Rattle.nx_hold.specs.Changes.{place_of, ComesTidy, ComesTidyWhere}
use Rattle.nx_hold.specs.Contents.{AreOwn}
use Rattle.nx_hold.specs.Pieces.{IsTidy, PieceMap, held_by}
use Rattle.nx_hold.specs.Documents.{MovesRecords}
use Rattle.nx_hold.proofs.RefusalLemmas.{runs_then, saved_then}
use Rattle.nx_state.specs.State.{document_size}
use Rattle.nx_edit.specs.Refusals.{edit_error}
use Rattle.nx_edit.specs.Removing.{document_places, kept_fars, fars_of, RemovesRow, NotRemovedRow, AreUnnamed, NotFreed, OwnComes, RemovesDocument, NotRemoved}
use Rattle.nx_edit.proofs.OrderLemmas.{lists_by_sums, fars_by_sums}
use Rattle.nx_edit.proofs.RemoveLemmas.{document_row, later_rose, ends_behind}
use Rattle.nx_edit.proofs.FreeLemmas.{firsts}
use Rattle.nx_edit.proofs.EndLemmas.{lists_went, unnamed, all_moves}
use Rattle.nx_edit.proofs.FinishLemmas.{whole_contents}

module _ (was mid : Held) (tidy : IsTidy was) (tidier : IsTidy mid) (pieces : PieceMap was) (entry : DocEntry) (document : CutTree) (layout : Layout) (laid : IsLaidOutAs (held_by pieces) (place_of entry.root) document layout)
    (own : AreOwn was (document_places entry document layout) (contents_of layout)) (gone : List Far) (moves : MovesRecords (document_places entry document layout) [] [] [] 0 was mid)
    (are : IsPermutation gone (kept_fars (whole (place_of entry.root) document.node layout))) where
  abbrev old : Layout
  old = whole (place_of entry.root) document.node layout

  own_old : AreOwn was (places_of old) (contents_of old)
  own_old = subst (λ (l : List ℕ). AreOwn was (places_of old) l) (sym (whole_contents (place_of entry.root) document.node layout)) own

  abbrev row : Layout
  row = Grown (laid_near document.node) layout Bare

  went : IsPermutation (fars_of [] ++ gone) (fars_of (nodes_in old))
  went =
      fars_by_sums gone (fars_of (nodes_in old)) (λ f.
      let same = sum_by-IsPermutation f gone (kept_fars old) are in
      let kept = sum_by-append f (fars_of (nodes_in row)) [] in
      let all = ap (λ (l : List LaidNode). sum_by f (fars_of l)) (append-nil (nodes_in row)) in
      omega (arith, same, kept, all))

  pub document_unnamed : AreUnnamed mid gone
  document_unnamed =
      unnamed was mid tidy tidier pieces old Bare laid.held own_old moves (λ after. tt) [] [] gone went (lists_by_sums [] [] (λ f. refl)) tt tt (λ first none. absurd (no_place first none)) (λ first none. absurd (no_place first none)) (λ first none. absurd (no_place first none))

  pub document_went : {now : Held} → MovesRecords [] [] (firsts gone) [] 0 mid now → RemovesDocument entry document layout was now
  document_went frees = (
    firsts gone,
    subst (λ (l : List ℕ). IsPermutation (firsts gone) l) (whole_contents (place_of entry.root) document.node layout) (lists_went [] (nodes_in old) gone went),
    all_moves was mid tidy tidier pieces old Bare laid.held own_old moves (λ after. tt) [] [] gone went (lists_by_sums [] [] (λ f. refl)) tt tt (λ first none. absurd (no_place first none)) (λ first none. absurd (no_place first none))
        (λ first none. absurd (no_place first none)) frees,
  )

module _ {D : Type 0} (d : Ghosts D) (entry : DocEntry) (proxy : Proxy) (is : proxy ≡ proxy_of (place_of entry.root) 1) (r0 r1 : Records) (x0 x1 : D) where
  pub document_refused : (e : StoreError) → NotRemovedRow d (proxy ∷ []) entry.nodes e r0 r1 x0 x1 → IsSomeAnd (edit_error e) (λ told. NotRemoved d entry told r0 r1 x0 x1)
  document_refused store.Disk refused = refused
  document_refused (store.Damaged page) refused = (
    refused.0,
    λ document has tidy counted own.
        refused.1 has.saved has.now has.pieces (whole (place_of entry.root) document.node (has.laid).layout) has.stands tidy (document_row has.now has.pieces entry document (has.laid).layout proxy is (has.laid).laid counted),
  )
  document_refused store.Ended refused = absurd refused
  document_refused store.Memory refused = refused
  document_refused store.Exists refused = absurd refused
  document_refused store.NotAStore refused = absurd refused
  document_refused store.Full refused = absurd refused

  -- its records went, and these far contents were dropped
  module _ (count : ℕ) (gone : List Far) (comes : ComesTidy d r0 r1 x0 x1 (RemovesRow (proxy ∷ []) entry.nodes count gone)) (on : RunsOn r0 r1) (kept : KeepsSaved d r0 r1 x0 x1) (still : IsStill d x0 x1) (r2 : Records) (x2 : D) where
    removed : (saved was : Held) (pieces : PieceMap was) (document : CutTree) (layout : Layout) → StandsFor d r0 x0 saved was → IsTidy was → IsLaidOutAs (held_by pieces) (place_of entry.root) document layout → entry.nodes ≡ document_size document
        → (mid : Held) × StandsFor d r1 x1 saved mid × IsTidy mid × MovesRecords (document_places entry document layout) [] [] [] 0 was mid × IsPermutation gone (kept_fars (whole (place_of entry.root) document.node layout))
    removed saved was pieces document layout stands tidy laid counted =
        let mid = comes saved was stands tidy in
        let done = mid.3 pieces (whole (place_of entry.root) document.node layout) (document_row was pieces entry document layout proxy is laid counted) in
        (mid.0, mid.1, mid.2, done.0, done.2)

    pub contents_refused : (e : StoreError) → NotFreed d gone e r1 r2 x1 x2 → IsSomeAnd (edit_error e) (λ told. NotRemoved d entry told r0 r2 x0 x2)
    contents_refused store.Disk refused = (later_rose (d.faults x0) (d.faults x1) (d.faults x2) still.faults_later refused.0, ends_behind {r0 = r0} {r1 = r1} {r2 = r2} on refused.1)
    contents_refused (store.Damaged page) refused = (
      ends_behind {r0 = r0} {r1 = r1} {r2 = r2} on refused.0,
      λ document has tidy counted own.
          let mid = removed has.saved has.now has.pieces document (has.laid).layout has.stands tidy (has.laid).laid counted in
          refused.1 has.saved mid.0 mid.1 mid.2 (document_unnamed has.now mid.0 tidy mid.2 has.pieces entry document (has.laid).layout (has.laid).laid own gone mid.3 mid.4),
    )
    contents_refused store.Ended refused = absurd refused
    contents_refused store.Memory refused = (
      runs_then {r0 = r0} {r1 = r1} {r2 = r2} on refused.0,
      saved_then {d = d} {r0 = r0} {r1 = r1} {r2 = r2} {x0 = x0} {x1 = x1} {x2 = x2} kept refused.1,
    )
    contents_refused store.Exists refused = absurd refused
    contents_refused store.NotAStore refused = absurd refused
    contents_refused store.Full refused = absurd refused

    pub document_gone : ComesTidyWhere d r1 r2 x1 x2 (λ was. AreUnnamed was gone) (λ was now. MovesRecords [] [] (firsts gone) [] 0 was now) → OwnComes d r0 r2 x0 x2 entry (RemovesDocument entry)
    document_gone frees saved was pieces document layout stands tidy laid counted own =
        let mid = removed saved was pieces document layout stands tidy laid counted in
        let now = frees saved mid.0 mid.1 mid.2 (document_unnamed was mid.0 tidy mid.2 pieces entry document layout laid own gone mid.3 mid.4) in
        (now.0, now.1, now.2, document_went was mid.0 tidy mid.2 pieces entry document layout laid own gone mid.3 mid.4 now.3)
