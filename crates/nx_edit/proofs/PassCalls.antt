-- What comes in the place of a proxy in the piece of a record that a path passed, which is read for it.
use Rattle.std.proofs.Common.{◌≡◌, ◌<◌, ◌≤◌, ℕ, Option, None, Some, false, length, refl, sym, ◌∙◌, subst, arith}
use Rattle.std.specs.Prelude.{Contains}
use Rattle.std.specs.List.{slice_get}
use Rattle.std.proofs.lemmas.Bool.{false≢true}
use Rattle.nx_host.specs.declared.disk.Disk.{Ghosts}
use Rattle.nx_host.specs.Still.{IsStill}
use Rattle.nx_holdings.specs.Holdings.{Held}
use Rattle.nx_records.specs.declared.records.Records.{Records}
use Rattle.nx_records.specs.declared.error.StoreError.{StoreError}
use Rattle.nx_records.specs.declared.error.StoreError.TheVariants as store
use Rattle.nx_records.specs.Records.{has_ended, KeepsSaved, LeavesRecords, StandsFor}
use Rattle.nx_records.specs.Refusals.{EndNow, RunsOn, NotRead, NotChanged, NotStored}
use Rattle.nx_records.proofs.LeaveLemmas.{leaves_runs, leaves_ends, leaves_saved, leaves_stand}
use Rattle.nx_piece.specs.declared.piece.Far.{Far}
use Rattle.nx_piece.specs.declared.piece.Piece.{Piece}
use Rattle.nx_piece.specs.declared.piece.Proxy.{Proxy}
use Rattle.nx_piece.specs.Contents.{fars_in}
use Rattle.nx_piece.specs.Valid.{IsValidPiece}
use Rattle.nx_piece_edits.proofs.ContentsLemmas.{edits_keep_contents}
use Rattle.nx_layouts.specs.Layout.{RecordPlace}
use Rattle.nx_hold.specs.Changes.{ComesTidy, ComesTidyWhere}
use Rattle.nx_hold.specs.Pieces.{HoldsPiece, HoldsNone, HasNamedList, MayName}
use Rattle.nx_hold.proofs.TidyLemmas.{may_name_own, tidy_named}
use Rattle.nx_hold.proofs.RefusalLemmas.{runs_then, saved_then}
use Rattle.nx_nav.specs.declared.routing.PassedRecord.{PassedRecord}
use Rattle.nx_edit.specs.Passing.{IsPassedAs, NotPassed, OfPassed, put_needs}
use Rattle.nx_edit.specs.Rows.{with_left}
use Rattle.nx_edit.proofs.RemoveLemmas.{later_rose}
use Rattle.nx_edit.proofs.RowCalls.{get_within}

-- what is left of an interval, in the place of its proxy, brings no far content
pub left_keeps_fars : (piece : Piece) (index : ℕ) (left : Option Proxy) → IsValidPiece (with_left index left piece) → (far : Far) → Contains (fars_in (with_left index left piece).body.roots) far → Contains (fars_in piece.body.roots) far
left_keeps_fars piece index None valid far among = (edits_keep_contents.proxy_goes piece index (with_left index None piece) (record { body = refl; proxies = refl; valid = λ had. valid })).fars far among
left_keeps_fars piece index (Some proxy) valid far among = among

-- what needs no page gives up as what may need some
pub changed_stored : {D : Type 0} (d : Ghosts D) (needs : Held → ℕ) (Lacks : Held → Type 0) (page : ℕ) (e : StoreError) (r0 r1 : Records) (x0 x1 : D) → NotChanged d Lacks page e r0 r1 x0 x1 → NotStored d needs Lacks page e r0 r1 x0 x1
changed_stored d needs Lacks page store.Disk r0 r1 x0 x1 refused = refused
changed_stored d needs Lacks page store.Full r0 r1 x0 x1 refused = absurd refused
changed_stored d needs Lacks page (store.Damaged other) r0 r1 x0 x1 refused = refused
changed_stored d needs Lacks page store.Ended r0 r1 x0 x1 refused = refused
changed_stored d needs Lacks page store.Memory r0 r1 x0 x1 refused = refused
changed_stored d needs Lacks page store.Exists r0 r1 x0 x1 refused = absurd refused
changed_stored d needs Lacks page store.NotAStore r0 r1 x0 x1 refused = absurd refused

-- what isn't put lacks a record, whatever else is asked
pub lacks_anyway : {D : Type 0} (d : Ghosts D) (needs : Held → ℕ) (Lacks : Held → Type 0) (May : Type 0) (page : ℕ) (e : StoreError) (r0 r1 : Records) (x0 x1 : D) → NotStored d needs Lacks page e r0 r1 x0 x1 → NotStored d needs (λ was. May → Lacks was) page e r0 r1 x0 x1
lacks_anyway d needs Lacks May page store.Disk r0 r1 x0 x1 refused = refused
lacks_anyway d needs Lacks May page store.Full r0 r1 x0 x1 refused = refused
lacks_anyway d needs Lacks May page (store.Damaged other) r0 r1 x0 x1 refused = record { page = refused.page; ends = refused.ends; lacks = λ saved now stands may. refused.lacks saved now stands }
lacks_anyway d needs Lacks May page store.Ended r0 r1 x0 x1 refused = refused
lacks_anyway d needs Lacks May page store.Memory r0 r1 x0 x1 refused = refused
lacks_anyway d needs Lacks May page store.Exists r0 r1 x0 x1 refused = refused
lacks_anyway d needs Lacks May page store.NotAStore r0 r1 x0 x1 refused = refused

module _ {D : Type 0} (d : Ghosts D) (place : RecordPlace) (passed : PassedRecord) (put : Piece → Piece) (May : Piece → Type 0) (r0 r1 : Records) (x0 x1 : D) (running : has_ended r0 ≡ false) (still : IsStill d x0 x1) where
  -- the record isn't read
  pub unread_passed : (page : ℕ) (e : StoreError) → NotRead d (λ now. HoldsNone now place) page e r0 r1 x0 x1 → NotPassed d place passed put May e r0 r1 x0 x1
  unread_passed page store.Disk refused = refused
  unread_passed page (store.Damaged other) refused = (refused.ends, λ saved now piece stands holds at may. refused.lacks saved now stands piece holds)
  unread_passed page store.Ended refused = absurd (false≢true (sym running ∙ refused.0))
  unread_passed page store.Memory refused = (leaves_runs {r0 = r0} {r1 = r1} refused.0 refused.1, leaves_saved {d = d} {r0 = r0} {r1 = r1} refused.1 still)
  unread_passed page store.Exists refused = absurd refused
  unread_passed page store.NotAStore refused = absurd refused
  unread_passed page store.Full refused = absurd refused

  -- or it is
  module _ (piece : Piece) (leaves : LeavesRecords r0 r1) (reads : (saved now : Held) (held : Piece) → StandsFor d r0 x0 saved now → HoldsPiece now place held → piece ≡ held) (r2 : Records) where
    later : {saved now : Held} → StandsFor d r0 x0 saved now → StandsFor d r1 x1 saved now
    later stands = leaves_stand {d = d} {r0 = r0} {r1 = r1} leaves still stands

    -- and has too few proxies
    pub short_passed : length piece.proxies ≤ passed.index → EndNow r1 r2 → EndNow r0 r2 × OfPassed d r0 x0 place passed (λ now held. May held → ⊥)
    short_passed short ends = (
      leaves_ends {r0 = r0} {r1 = r1} {r2 = r2} leaves ends,
      λ saved now held stands holds at may.
          let there : slice_get piece.proxies passed.index ≡ Some passed.proxy = subst (λ (p : Piece). slice_get p.proxies passed.index ≡ Some passed.proxy) (sym (reads saved now held stands holds)) at.0 in
          let within : passed.index < length piece.proxies = get_within piece.proxies passed.index passed.proxy there in
          absurd (omega (arith, within, short)),
    )

    module _ (x2 : D) where
      pub unstored_passed : (page : ℕ) (e : StoreError) → NotStored d (λ was. put_needs (put piece)) (λ was. May piece → HoldsNone was place) page e r1 r2 x1 x2 → NotPassed d place passed put May e r0 r2 x0 x2
      unstored_passed page store.Disk refused = (later_rose (d.faults x0) (d.faults x1) (d.faults x2) still.faults_later refused.0, leaves_ends {r0 = r0} {r1 = r1} {r2 = r2} leaves refused.1)
      unstored_passed page store.Full refused = record {
        runs = runs_then {r0 = r0} {r1 = r1} {r2 = r2} (leaves_runs {r0 = r0} {r1 = r1} running leaves) refused.runs;
        keeps = saved_then {d = d} {r0 = r0} {r1 = r1} {r2 = r2} {x0 = x0} {x1 = x1} {x2 = x2} (leaves_saved {d = d} {r0 = r0} {r1 = r1} leaves still) refused.keeps;
        none_free = refused.none_free;
        few = λ saved now held stands holds at. subst (λ (p : Piece). now.free < put_needs (put p)) (reads saved now held stands holds) (refused.few saved now (later stands));
      }
      unstored_passed page (store.Damaged other) refused = (
        leaves_ends {r0 = r0} {r1 = r1} {r2 = r2} leaves refused.ends,
        λ saved now held stands holds at may. refused.lacks saved now (later stands) (subst May (sym (reads saved now held stands holds)) may) held holds,
      )
      unstored_passed page store.Ended refused = absurd (false≢true (sym (leaves.ended_stays ∙ running) ∙ refused.0))
      unstored_passed page store.Memory refused = (
        runs_then {r0 = r0} {r1 = r1} {r2 = r2} (leaves_runs {r0 = r0} {r1 = r1} running leaves) refused.0,
        saved_then {d = d} {r0 = r0} {r1 = r1} {r2 = r2} {x0 = x0} {x1 = x1} {x2 = x2} (leaves_saved {d = d} {r0 = r0} {r1 = r1} leaves still) refused.1,
      )
      unstored_passed page store.Exists refused = absurd refused
      unstored_passed page store.NotAStore refused = absurd refused

      pub stored_passed : (Comes : Piece → Held → Held → Type 0) → ComesTidy d r1 r2 x1 x2 (Comes piece) → ComesTidy d r0 r2 x0 x2 (λ was now. (held : Piece) → HoldsPiece was place held → IsPassedAs passed held → Comes held was now)
      stored_passed Comes comes saved was stands tidy =
          let next = comes saved was (later stands) tidy in
          (next.0, next.1, next.2, λ held holds at. subst (λ (p : Piece). Comes p was next.0) (reads saved was held stands holds) next.3)

      -- ... where what the new piece names was named by the record
      pub far_passed : (Comes : Piece → Held → Held → Type 0) → ((saved now : Held) → StandsFor d r0 x0 saved now → HasNamedList now place → HoldsPiece now place piece)
          → ((far : Far) → Contains (fars_in (put piece).body.roots) far → Contains (fars_in piece.body.roots) far) → ComesTidyWhere d r1 r2 x1 x2 (λ was. MayName was (put piece).body.roots) (Comes piece)
          → ComesTidy d r0 r2 x0 x2 (λ was now. (held : Piece) → HoldsPiece was place held → IsPassedAs passed held → Comes held was now)
      far_passed Comes holds keeps comes saved was stands tidy =
          let own = holds saved was stands (tidy_named was place tidy) in
          let next = comes saved was (later stands) tidy (λ far among. may_name_own was place piece tidy own far (keeps far among)) in
          (next.0, next.1, next.2, λ held holds at. subst (λ (p : Piece). Comes p was next.0) (reads saved was held stands holds) next.3)

      -- ... where more may be named than the record names
      pub more_passed : (More : Held → Type 0) (Comes : Piece → Held → Held → Type 0) → ((saved now : Held) → StandsFor d r0 x0 saved now → HasNamedList now place → HoldsPiece now place piece)
          → ComesTidyWhere d r1 r2 x1 x2 (λ was. MayName was piece.body.roots × More was) (Comes piece)
          → ComesTidyWhere d r0 r2 x0 x2 More (λ was now. (held : Piece) → HoldsPiece was place held → IsPassedAs passed held → Comes held was now)
      more_passed More Comes holds comes saved was stands tidy more =
          let own = holds saved was stands (tidy_named was place tidy) in
          let next = comes saved was (later stands) tidy (may_name_own was place piece tidy own, more) in
          (next.0, next.1, next.2, λ held holds at. subst (λ (p : Piece). Comes p was next.0) (reads saved was held stands holds) next.3)

      pub keeps_passed : RunsOn r1 r2 → KeepsSaved d r1 r2 x1 x2 → RunsOn r0 r2 × KeepsSaved d r0 r2 x0 x2
      keeps_passed runs keeps = (
        runs_then {r0 = r0} {r1 = r1} {r2 = r2} (leaves_runs {r0 = r0} {r1 = r1} running leaves) runs,
        saved_then {d = d} {r0 = r0} {r1 = r1} {r2 = r2} {x0 = x0} {x1 = x1} {x2 = x2} (leaves_saved {d = d} {r0 = r0} {r1 = r1} leaves still) keeps,
      )
