-- Lists of contents that no record names, taken away one after the other.
use Rattle.std.proofs.Common.{◌≡◌, ℕ, ◌+◌, List, [], ◌∷◌, ◌++◌, map, take, drop, inl, inr, refl, sym, ap, ◌∙◌, subst}
use Rattle.std.specs.Prelude.{Contains, false}
use Rattle.std.proofs.lemmas.Bool.{false≢true}
use Rattle.std.proofs.lemmas.List.{map-append}
use Rattle.std.proofs.lemmas.List.Elements.{Contains-append_cases}
use Rattle.nx_host.specs.declared.disk.Disk.{Ghosts}
use Rattle.nx_host.specs.Still.{IsStill}
use Rattle.nx_host.proofs.DiskLemmas.{none_still, still_then}
use Rattle.nx_holdings.specs.Holdings.{Held}
use Rattle.nx_records.specs.declared.records.Records.{Records}
use Rattle.nx_records.specs.declared.error.StoreError.{StoreError}
use Rattle.nx_records.specs.declared.error.StoreError.TheVariants as store
use Rattle.nx_records.specs.Records.{has_ended, KeepsSaved, HasChanges}
use Rattle.nx_records.specs.Changes.{FreesList, LacksList}
use Rattle.nx_records.specs.Refusals.{RunsOn, NotChanged}
use Rattle.nx_piece.specs.declared.piece.Far.{Far}
use Rattle.nx_layouts.proofs.PlaceLemmas.{no_place, one_place, first_among, later_among}
use Rattle.nx_hold.specs.Pieces.{HasContent, IsNamedNowhere, IsTidy}
use Rattle.nx_hold.specs.Changes.{ComesTidyWhere}
use Rattle.nx_hold.specs.Documents.{MovesRecords}
use Rattle.nx_hold.proofs.ContentLemmas.{content_leaves}
use Rattle.nx_hold.proofs.MoveLemmas.{moves_none, moves_add_up, contents_stay_around}
use Rattle.nx_hold.proofs.RecordsLemmas.{any_along}
use Rattle.nx_hold.proofs.RefusalLemmas.{runs_then, saved_then}
use Rattle.nx_edit.specs.Removing.{AreUnnamed, NotFreed}
use Rattle.nx_edit.proofs.RemoveLemmas.{later_rose, ends_behind}

abbrev pub firsts : List Far → List ℕ
firsts fars = map (λ far. far.first) fars

first_in : (fars : List Far) (far : Far) → Contains fars far → Contains (firsts fars) far.first
first_in [] far among = absurd (no_place far among)
first_in (x ∷ fars) far among =
    elim (Contains-append_cases (x ∷ []) fars far among) [
      | inl here ↦ subst (λ (y : Far). Contains (firsts (x ∷ fars)) y.first) (sym (one_place x far here)) (first_among x.first (firsts fars))
      | inr later ↦ later_among x.first (firsts fars) far.first (first_in fars far later)
    ]

-- The list of the first of these went: the others are there still, and no record names them.
rest_unnamed : (far : Far) (rest : List Far) (mid now : Held) → IsTidy mid → AreUnnamed mid (far ∷ rest) → MovesRecords [] [] (far.first ∷ []) [] 0 mid now → AreUnnamed now rest
rest_unnamed far rest mid now tidy are moves = record {
  there = λ other among.
      let has = are.there other (later_among far rest other among) in
      let apart : Contains (far.first ∷ []) other.first → ⊥ =
      λ same. (are.once).0 (subst (λ (f : ℕ). Contains (firsts rest) f) (one_place far.first other.first same) (first_in rest other among)) in
      let stays =
      contents_stay_around [] [] (far.first ∷ []) [] 0 mid now tidy moves other.first has.0 has.1 (λ place count names. are.nowhere other (later_among far rest other among) place (inl (count, names))) apart in
      (has.0, stays.0, has.2);
  nowhere = λ other among place names.
      are.nowhere other (later_among far rest other among) place (any_along now mid place other.first (sym (moves.kept place (no_place place) (no_place place))) names);
  once = (are.once).1;
}

-- How far the loop has come: so many of the lists went.
pub record IsFreeing {D : Type 0} (d : Ghosts D) (gone : List Far) (count : ℕ) (old new : Records) (before after : D) : Type 0 where
  pub runs : RunsOn old new
  pub keeps : KeepsSaved d old new before after
  pub still : IsStill d before after
  pub changes : HasChanges old → HasChanges new
  pub comes : ComesTidyWhere d old new before after (λ was. AreUnnamed was gone) (λ was now. MovesRecords [] [] (firsts (take count gone)) [] 0 was now × AreUnnamed now (drop count gone))

module _ {D : Type 0} {d : Ghosts D} {gone : List Far} {r0 : Records} {x0 : D} where
  pub freeing_first : has_ended r0 ≡ false → IsFreeing d gone 0 r0 r0 x0 x0
  freeing_first running = record {
    runs = record { before = running; after = running; length_stays = refl; settings_stay = refl };
    keeps = λ saved has. has;
    still = none_still;
    changes = λ has. has;
    comes = λ saved now stands tidy are. (now, stands, tidy, (moves_none now, are));
  }

module _ {D : Type 0} {d : Ghosts D} {gone : List Far} {count : ℕ} {r0 r1 : Records} {x0 x1 : D} (g : IsFreeing d gone count r0 r1 x0 x1) where
  module _ (far : Far) (rest : List Far) (next : drop count gone ≡ far ∷ rest) (r2 : Records) (x2 : D) where
    pub freeing_then : drop (count + 1) gone ≡ rest → take (count + 1) gone ≡ take count gone ++ (far ∷ []) → RunsOn r1 r2 → KeepsSaved d r1 r2 x1 x2 → IsStill d x1 x2 → (HasChanges r1 → HasChanges r2)
        → ComesTidyWhere d r1 r2 x1 x2 (λ was. HasContent was far × IsNamedNowhere was far.first) (λ was now. FreesList far.first was now) → IsFreeing d gone (count + 1) r0 r2 x0 x2
    freeing_then left done runs keeps still changes frees = record {
      runs = runs_then {r0 = r0} {r1 = r1} {r2 = r2} g.runs runs;
      keeps = saved_then {d = d} {r0 = r0} {r1 = r1} {r2 = r2} {x0 = x0} {x1 = x1} {x2 = x2} g.keeps keeps;
      still = still_then g.still still;
      changes = λ has. changes (g.changes has);
      comes = λ saved was stands tidy are.
          let mid = g.comes saved was stands tidy are in
          let all : AreUnnamed mid.0 (far ∷ rest) = subst (λ (fs : List Far). AreUnnamed mid.0 fs) next (mid.3).1 in
          let now = frees saved mid.0 mid.1 mid.2 (all.there far (first_among far rest), all.nowhere far (first_among far rest)) in
          let moves : MovesRecords [] [] (far.first ∷ []) [] 0 mid.0 now.0 = content_leaves far.first mid.0 now.0 (all.nowhere far (first_among far rest)) now.3 in
          let both : MovesRecords [] [] (firsts (take count gone) ++ (far.first ∷ [])) [] 0 was now.0 = moves_add_up [] [] [] (firsts (take count gone)) (far.first ∷ []) [] [] 0 0 was mid.0 now.0 (mid.3).0 moves in (
            now.0,
            now.1,
            now.2,
            (
              subst (λ (fs : List ℕ). MovesRecords [] [] fs [] 0 was now.0) (sym (ap (λ (fs : List Far). firsts fs) done ∙ map-append (λ (f : Far). f.first) (take count gone) (far ∷ []))) both,
              subst (λ (fs : List Far). AreUnnamed now.0 fs) (sym left) (rest_unnamed far rest mid.0 now.0 mid.2 all moves),
            ),
          );
    }

    pub freeing_refused : (e : StoreError) → NotChanged d (λ was. LacksList was far.first far.length) far.first e r1 r2 x1 x2 → NotFreed d gone e r0 r2 x0 x2
    freeing_refused store.Disk refused = (later_rose (d.faults x0) (d.faults x1) (d.faults x2) (g.still).faults_later refused.0, ends_behind {r0 = r0} {r1 = r1} {r2 = r2} g.runs refused.1)
    freeing_refused (store.Damaged page) refused = (
      ends_behind {r0 = r0} {r1 = r1} {r2 = r2} g.runs refused.ends,
      λ saved was stands tidy are.
          let mid = g.comes saved was stands tidy are in
          let all : AreUnnamed mid.0 (far ∷ rest) = subst (λ (fs : List Far). AreUnnamed mid.0 fs) next (mid.3).1 in
          let has = all.there far (first_among far rest) in
          refused.lacks saved mid.0 mid.1 has.0 has.1 has.2,
    )
    freeing_refused store.Ended refused = absurd (false≢true (sym (g.runs).after ∙ refused.0))
    freeing_refused store.Memory refused = (
      runs_then {r0 = r0} {r1 = r1} {r2 = r2} g.runs refused.0,
      saved_then {d = d} {r0 = r0} {r1 = r1} {r2 = r2} {x0 = x0} {x1 = x1} {x2 = x2} g.keeps refused.1,
    )
    freeing_refused store.Exists refused = absurd refused
    freeing_refused store.NotAStore refused = absurd refused
    freeing_refused store.Full refused = absurd refused

  -- all went
  pub freeing_done : take count gone ≡ gone → ComesTidyWhere d r0 r1 x0 x1 (λ was. AreUnnamed was gone) (λ was now. MovesRecords [] [] (firsts gone) [] 0 was now)
  freeing_done all saved was stands tidy are =
      let now = g.comes saved was stands tidy are in
      (now.0, now.1, now.2, subst (λ (fs : List Far). MovesRecords [] [] (firsts fs) [] 0 was now.0) all (now.3).0)
