-- The record of a document's root is read and judged.
use Rattle.std.proofs.Common.{◌≡◌, ◌↔◌, ℕ, ◌<◌, ◌≤◌, List, [], ◌∷◌, ◌++◌, refl, sym, subst, inl}
use Rattle.std.specs.Prelude.{Contains}
use Rattle.nx_host.specs.Disk.{Image}
use Rattle.nx_host.specs.declared.disk.Disk.{Ghosts}
use Rattle.nx_replay.specs.Log.{replay}
use Rattle.nx_holdings.specs.Holdings.{Link, pages_of_links}
use Rattle.nx_tree.specs.Forest.{Empty}
use Rattle.nx_piece.specs.declared.piece.Piece.{Piece}
use Rattle.nx_piece.specs.Gapped.{Gapped, gapped_size, gapped_nodes}
use Rattle.nx_cuts.specs.Cut.{Bare, joined}
use Rattle.nx_layouts.specs.Layout.{RecordPlace}
use Rattle.nx_hold.specs.declared.entry.DocEntry.{DocEntry}
use Rattle.nx_hold.specs.Changes.{place_of}
use Rattle.nx_rules.specs.declared.verdict.PageRule.{PageRule}
use Rattle.nx_rules.specs.declared.verdict.PageRule.TheVariants as rule
use Rattle.nx_rules.specs.Walked.{Walked, walked_forest, walked_body, walked_proxies, links_behind, ByCatalog, Named, named_place, naming_page, IsRecordAt, IsSoFar}
use Rattle.nx_rules.specs.Tour.{Visit, all_reached, top_elements, Tour, used_in}
use Rattle.nx_rules.specs.Broken.{ComesNext, IsReadFirst, MayStand, IsFirstBroken}
use Rattle.nx_rules.specs.Places.{Top}
use Rattle.nx_check.specs.declared.reading.Walk.{Walk}
use Rattle.nx_check.specs.declared.walking.Tally.{Tally}
use Rattle.nx_check.specs.Heads.{one_if}
use Rattle.nx_check.specs.Shown.{AreShownBy}
use Rattle.nx_check.specs.Come.{HasCome}
use Rattle.nx_check.specs.AtRecord.{BreaksAt}
use Rattle.nx_check.specs.Between.{IsBetweenDocuments}
use Rattle.nx_check.specs.Standing.{Stage, tour_at, HasWalked, IsPieceRow}
use Rattle.nx_check.proofs.LaidLemmas.{laid_row, laid_shown}
use Rattle.nx_check.proofs.ReachLemmas.{breaks_first, visit_at, named_here, comes_next, stands_there, reach}
use Rattle.nx_check.proofs.DocumentLemmas.{root_proxy, root_waits, root_reached, stage_of, begins_stage, begins_tour, begins_come, root_goes, root_never, root_found, root_counted}

module _ {D : Type 0} (d : Ghosts D) (walk : Walk) (disk : D) (was : Image) (base : ℕ) (tour : Tour) (before : List Visit) (visit : Visit) (after : List Visit) (k : ℕ) (entry : DocEntry) (h : IsBetweenDocuments d walk disk was base tour before (visit ∷ after)) (is : visit.entry ≡ entry)
    (most : k ≡ tour.head.settings.k) where
  abbrev pub root_stage : Stage
  root_stage = stage_of tour before visit after

  abbrev pub root_tour : Tour
  root_tour = tour_at root_stage (root_waits entry)

  abbrev pub root_visit : Visit
  root_visit = visit_at root_stage (root_waits entry)

  abbrev pub root_named : Named
  root_named = named_here ByCatalog (root_proxy entry)

  comes : ComesNext root_tour root_visit root_named
  comes = comes_next root_stage k Top ByCatalog (root_proxy entry) Bare (begins_stage d walk disk was base tour before visit after k entry h is most) tt refl

  kept_root : (r : PageRule) (blamed : ℕ) → BreaksAt (replay was) root_tour root_visit root_named r blamed → IsFirstBroken (replay was) r blamed
  kept_root r blamed b = breaks_first (replay was) root_tour root_visit root_named r blamed (begins_tour d walk disk was base tour before visit after k entry h is most) comes b

  pub root_record_breaks : (r : PageRule) (blamed : ℕ) → ((base : ℕ) (free used : List ℕ) (tour : Tour) (visit : Visit) (named : Named) → HasCome d walk disk was base free used (all_reached tour.visits) → naming_page named.by ≡ 0 → named_place named ≡ place_of entry.root
      → BreaksAt (replay was) tour visit named r blamed) → IsFirstBroken (replay was) r blamed
  root_record_breaks r blamed says = kept_root r blamed (says base tour.free (used_in root_tour) root_tour root_visit root_named (begins_come d walk disk was base tour before visit after k entry h is most) refl refl)

  pub root_come : HasCome d walk disk was base tour.free (used_in root_tour) (all_reached root_tour.visits)
  root_come = begins_come d walk disk was base tour before visit after k entry h is most

  -- what was read of the record
  pub record IsRootRead (walk_ : Walk) (disk_ : D) (piece : Piece) : Type 0 where
    pub chains : List (List Link)
    pub new : Walked
    pub read : IsReadFirst (replay was) root_tour root_named chains new
    pub body : walked_body new ≡ piece.body.roots
    pub proxies : walked_proxies new ≡ piece.proxies
    pub come : HasCome d walk_ disk_ was base tour.free (used_in root_tour ++ pages_of_links (links_behind chains)) (all_reached root_tour.visits ++ place_of entry.root ∷ [])

  pub root_read : (mid walk_ : Walk) (disk_mid disk_ : D) (own bytes : List ℕ) (piece : Piece) → bytes ≡ own
      → IsRecordAt (replay was) (place_of entry.root) own × (Contains (all_reached root_tour.visits) (place_of entry.root) → ⊥) × HasCome d mid disk_mid was base tour.free (used_in root_tour) (all_reached root_tour.visits ++ place_of entry.root ∷ [])
      → ((base : ℕ) (tour : Tour) (named : Named) → HasCome d mid disk_mid was base tour.free (used_in tour) (all_reached tour.visits ++ named_place named ∷ []) → named_place named ≡ place_of entry.root → IsRecordAt (replay was) (named_place named) bytes
      → (Contains (all_reached tour.visits) (named_place named) → ⊥) → (chains : List (List Link)) × (new : Walked) × IsReadFirst (replay was) tour named chains new × (walked_body new ≡ piece.body.roots) × (walked_proxies new ≡ piece.proxies)
      × HasCome d walk_ disk_ was base tour.free (used_in tour ++ pages_of_links (links_behind chains)) (all_reached tour.visits ++ named_place named ∷ []))
      → IsRootRead walk_ disk_ piece
  root_read mid walk_ disk_mid disk_ own bytes piece e first ok =
      let r = ok base root_tour root_named first.2 refl (subst (λ (b : List ℕ). IsRecordAt (replay was) (place_of entry.root) b) (sym e) first.0) first.1 in
      record { chains = r.0; new = r.1; read = r.2; body = r.3; proxies = r.4; come = r.5 }

  pub root_piece_breaks : (mid : Walk) (disk_mid : D) (own bytes : List ℕ) (r : PageRule) (blamed : ℕ) → bytes ≡ own
      → IsRecordAt (replay was) (place_of entry.root) own × (Contains (all_reached root_tour.visits) (place_of entry.root) → ⊥) × HasCome d mid disk_mid was base tour.free (used_in root_tour) (all_reached root_tour.visits ++ place_of entry.root ∷ [])
      → ((base : ℕ) (tour : Tour) (visit : Visit) (named : Named) → HasCome d mid disk_mid was base tour.free (used_in tour) (all_reached tour.visits ++ named_place named ∷ []) → named_place named ≡ place_of entry.root → IsRecordAt (replay was) (named_place named) bytes
      → (Contains (all_reached tour.visits) (named_place named) → ⊥) → BreaksAt (replay was) tour visit named r blamed)
      → IsFirstBroken (replay was) r blamed
  root_piece_breaks mid disk_mid own bytes r blamed e first says =
      kept_root r blamed (says base root_tour root_visit root_named first.2 refl (subst (λ (b : List ℕ). IsRecordAt (replay was) (place_of entry.root) b) (sym e) first.0) first.1)

  module _ (walk_ : Walk) (disk_ : D) (piece : Piece) (r : IsRootRead walk_ disk_ piece) where
    laid : IsPieceRow piece Top r.new
    laid = laid_row (replay was) r.new piece.body.roots piece.proxies r.read.wait r.read.read r.body r.proxies

    pub root_shown_by : AreShownBy piece.body.roots (walked_forest r.new)
    root_shown_by = laid_shown piece.body.roots piece.proxies r.new laid

    there : MayStand root_named root_visit r.chains r.new ↔ IsSoFar (joined Empty (joined (joined (walked_forest r.new) Empty) Empty))
    there = stands_there (replay was) root_stage Top ByCatalog (root_proxy entry) Bare r.chains r.new tt (begins_tour d walk disk was base tour before visit after k entry h is most)

    pub root_document_breaks : (IsSoFar (walked_forest r.new) → ⊥) → IsFirstBroken (replay was) rule.Document entry.root.page
    root_document_breaks never = kept_root rule.Document entry.root.page (refl, (r.chains, r.new, r.read, inl refl, λ may. root_never (walked_forest r.new) never (there.0 may)))

    stands : IsSoFar (walked_forest r.new) → MayStand root_named root_visit r.chains r.new
    stands so_far = there.1 (root_goes (walked_forest r.new) so_far)

    pub root_weight_breaks : IsSoFar (walked_forest r.new) → k < gapped_size piece.body.roots → IsFirstBroken (replay was) rule.Weight entry.root.page
    root_weight_breaks so_far heavy = kept_root rule.Weight entry.root.page
        (refl, (r.chains, r.new, r.read, inl refl, stands so_far, subst (λ (n : ℕ). n < gapped_size (walked_body r.new)) most (subst (λ (g : Gapped). k < gapped_size g) (sym r.body) heavy)))

    pub root_is_reached : (now : Tally) → IsSoFar (walked_forest r.new) → one_if now.element ≡ top_elements (walked_forest r.new) → gapped_size piece.body.roots ≤ k → now.nodes ≡ gapped_nodes piece.body.roots → now.nodes ≤ 4294967295
        → (chains : List (List Link)) × (new : Walked) × IsPieceRow piece Top new × HasWalked d walk_ now disk_ was base root_stage (root_reached entry chains new)
    root_is_reached now so_far found light counted low =
        let next = reach (replay was) root_stage k Top ByCatalog (root_proxy entry) Bare r.chains r.new (begins_stage d walk disk was base tour before visit after k entry h is most) tt refl (begins_tour d walk disk was base tour before visit after k entry h is most) r.read
        (inl refl) (stands so_far) (subst (λ (g : Gapped). gapped_size g ≤ k) (sym r.body) light) in (
          r.chains,
          r.new,
          laid,
          record {
            come = subst (λ (l : List ℕ). HasCome d walk_ disk_ was base tour.free l (all_reached (tour_at root_stage (root_reached entry r.chains r.new)).visits)) (sym next.used)
                (subst (λ (l : List RecordPlace). HasCome d walk_ disk_ was base tour.free (used_in root_tour ++ pages_of_links (links_behind r.chains)) l) (sym next.reached) r.come);
            kept = next.kept;
            counted = root_counted piece.body.roots (walked_forest r.new) now.nodes root_shown_by counted low;
            found = root_found now.element (walked_forest r.new) found;
          },
        )
