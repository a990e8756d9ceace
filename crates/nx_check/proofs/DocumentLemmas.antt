-- A document begins at the record that the catalog names, and ends where nothing of it waits.
use Rattle.std.proofs.Common.{◌≡◌, ◌↔◌, ℕ, ◌≤◌, min, Bool, false, List, [], ◌∷◌, ◌++◌, refl, sym, ap, ◌∙◌, subst, arith, append_assoc, append-nil}
use Rattle.std.specs.Prelude.{All}
use Rattle.std.proofs.lemmas.List.Elements.{All-head, All-tail, All-cons, All-append}
use Rattle.nx_host.specs.Disk.{Image}
use Rattle.nx_host.specs.declared.disk.Disk.{Ghosts}
use Rattle.nx_replay.specs.Log.{replay}
use Rattle.nx_holdings.specs.Holdings.{Link}
use Rattle.nx_tree.specs.Forest.{Forest, Empty, nodes}
use Rattle.nx_tree.specs.Document.{most_nodes}
use Rattle.nx_piece.specs.declared.piece.Piece.{Piece}
use Rattle.nx_piece.specs.declared.piece.Proxy.{Proxy}
use Rattle.nx_piece.specs.Gapped.{Gapped, gapped_nodes}
use Rattle.nx_cuts.specs.Cut.{Bare, Kept, joined}
use Rattle.nx_cuts.proofs.RowLemmas.{joined_nothing}
use Rattle.nx_layouts.specs.Layout.{proxy_of}
use Rattle.nx_hold.specs.declared.entry.DocEntry.{DocEntry}
use Rattle.nx_hold.specs.Changes.{place_of}
use Rattle.nx_rules.specs.Walked.{Reached, Waits, Walked, walked_forest, records_reached, ByCatalog, ByRecord, waiting_in, IsSoFar}
use Rattle.nx_rules.specs.Tour.{Visit, HasItsNodes, IsDone, all_reached, top_elements, Tour, used_in, IsTour}
use Rattle.nx_rules.specs.Broken.{waits, BreaksNodes}
use Rattle.nx_rules.specs.Places.{Top, Inside}
use Rattle.nx_rules.proofs.PlaceLemmas.{none_waiting}
use Rattle.nx_check.specs.declared.reading.Walk.{Walk}
use Rattle.nx_check.specs.declared.walking.Tally.{Tally}
use Rattle.nx_check.specs.Heads.{one_if}
use Rattle.nx_check.specs.Shown.{AreShownBy}
use Rattle.nx_check.specs.Come.{HasCome}
use Rattle.nx_check.specs.Between.{IsUnbegun, IsBetweenDocuments}
use Rattle.nx_check.specs.Standing.{Stage, tour_at, IsStage, HasWalked, StandsThere, IsPieceRow}
use Rattle.nx_check.proofs.ShownLemmas.{shown_nodes}

-- the record of the document's root
abbrev pub root_proxy : DocEntry → Proxy
root_proxy entry = proxy_of (place_of entry.root) 1

abbrev pub root_waits : DocEntry → Walked
root_waits entry = Kept (Waits (root_proxy entry)) Bare Bare

abbrev pub root_reached : DocEntry → List (List Link) → Walked → Walked
root_reached entry chains new = Kept (Reached (place_of entry.root) chains) new Bare

abbrev pub stage_of : Tour → List Visit → Visit → List Visit → Stage
stage_of tour before visit after = record { tour = tour; before = before; visit = visit; after = after }

pub tour_same : (tour : Tour) (before : List Visit) (visit : Visit) (after : List Visit) (entry : DocEntry) → tour.visits ≡ before ++ visit ∷ after → visit.walked ≡ root_waits entry → tour ≡ tour_at (stage_of tour before visit after) (root_waits entry)
tour_same tour before visit after entry are waits_root =
    ap (λ (vs : List Visit). record tour { visits = vs }) are ∙ ap (λ (w : Walked). record tour { visits = before ++ record visit { walked = w } ∷ after }) waits_root

module _ {D : Type 0} (d : Ghosts D) (walk : Walk) (disk : D) (was : Image) (base : ℕ) (tour : Tour) (before : List Visit) (visit : Visit) (after : List Visit) (k : ℕ) (entry : DocEntry) (h : IsBetweenDocuments d walk disk was base tour before (visit ∷ after)) (is : visit.entry ≡ entry)
    (most : k ≡ tour.head.settings.k) where
  root_there : visit.walked ≡ root_waits entry
  root_there = All-head IsUnbegun visit after h.unbegun ∙ ap root_waits is

  same : tour ≡ tour_at (stage_of tour before visit after) (root_waits entry)
  same = tour_same tour before visit after entry h.are root_there

  pub begins_stage : IsStage k (stage_of tour before visit after)
  begins_stage = record { done = h.done; unbegun = All-tail IsUnbegun visit after h.unbegun; most = sym most }

  pub begins_tour : IsTour (replay was) (tour_at (stage_of tour before visit after) (root_waits entry))
  begins_tour = subst (λ (t : Tour). IsTour (replay was) t) same h.kept

  pub begins_come : HasCome d walk disk was base tour.free (used_in (tour_at (stage_of tour before visit after) (root_waits entry))) (all_reached (tour_at (stage_of tour before visit after) (root_waits entry)).visits)
  begins_come = subst (λ (t : Tour). HasCome d walk disk was base tour.free (used_in t) (all_reached t.visits)) same h.come

-- The root's record:

alone_there : (f : Forest) → joined Empty (joined (joined f Empty) Empty) ≡ f
alone_there f = joined_nothing (joined f Empty) ∙ joined_nothing f

pub root_goes : (f : Forest) → IsSoFar f → IsSoFar (joined Empty (joined (joined f Empty) Empty))
root_goes f h = subst (λ (x : Forest). IsSoFar x) (sym (alone_there f)) h

pub root_never : (f : Forest) → (IsSoFar f → ⊥) → IsSoFar (joined Empty (joined (joined f Empty) Empty)) → ⊥
root_never f never h = never (subst (λ (x : Forest). IsSoFar x) (alone_there f) h)

pub root_found : (element : Bool) (f : Forest) → one_if element ≡ top_elements f → one_if element ≡ top_elements (joined f Empty)
root_found element f e = e ∙ ap top_elements (sym (joined_nothing f))

pub root_counted : (g : Gapped) (f : Forest) (n : ℕ) → AreShownBy g f → n ≡ gapped_nodes g → n ≤ 4294967295 → n ≡ min (nodes (joined f Empty)) 4294967295
root_counted g f n shown e low = let a = shown_nodes g f shown in let b = ap nodes (joined_nothing f) in omega (arith, a, b, e, low)

-- The document's end:

unbegun_reached : (vs : List Visit) → All IsUnbegun vs → all_reached vs ≡ []
unbegun_reached [] all = refl
unbegun_reached (v ∷ vs) all =
    ap (λ (w : Walked). records_reached w ++ all_reached vs) (All-head IsUnbegun v vs all) ∙ unbegun_reached vs (All-tail IsUnbegun v vs all)

whole_of : (entry : DocEntry) (chains : List (List Link)) (now : Walked) → waits now ≡ false → waiting_in ByCatalog (root_reached entry chains now) ≡ []
whole_of entry chains now none = append-nil (waiting_in (ByRecord entry.root.page) now) ∙ none_waiting (ByRecord entry.root.page) now none

-- its nodes are counted
pub has_nodes : (tally : Tally) (entry : DocEntry) (visit : Visit) (w : Walked) → visit.entry ≡ entry → tally.nodes ≡ min (nodes (walked_forest w)) 4294967295 → one_if tally.element ≡ top_elements (walked_forest w)
    → HasItsNodes (record visit { walked = w }) ↔ ((1 ≤ one_if tally.element) × (tally.nodes ≡ entry.nodes) × (entry.nodes ≤ most_nodes))
has_nodes tally entry visit w is counted found = (
  λ h.
      let some : 1 ≤ top_elements (walked_forest w) = h.element in
      let all : nodes (walked_forest w) ≡ visit.entry.nodes = h.counted in
      let few : nodes (walked_forest w) ≤ 524288 = h.few in
      let same : visit.entry.nodes ≡ entry.nodes = ap (λ (e : DocEntry). e.nodes) is in
      (omega (arith, some, found), omega (arith, all, few, same, counted), omega (arith, all, few, same)),
  λ h.
      let some : 1 ≤ one_if tally.element = h.0 in
      let all : tally.nodes ≡ entry.nodes = h.1 in
      let few : entry.nodes ≤ 524288 = h.2 in
      let same : visit.entry.nodes ≡ entry.nodes = ap (λ (e : DocEntry). e.nodes) is in
      record { element = omega (arith, some, found); counted = omega (arith, all, few, same, counted); few = omega (arith, all, few, counted) },
)

module _ {D : Type 0} (d : Ghosts D) (walk : Walk) (tally : Tally) (disk : D) (was : Image) (base : ℕ) (stage : Stage) (k : ℕ) (entry : DocEntry) (chains : List (List Link)) (now : Walked) (stands : IsStage k stage) (is : stage.visit.entry ≡ entry) (none : waits now ≡ false)
    (h : HasWalked d walk tally disk was base stage (root_reached entry chains now)) where
  abbrev done : Visit
  done = record stage.visit { walked = root_reached entry chains now }

  -- all of it was reached, and the walk is between two documents
  pub ends_between : HasItsNodes done → IsBetweenDocuments d walk disk was base (tour_at stage (root_reached entry chains now)) (stage.before ++ done ∷ []) stage.after
  ends_between has = record {
    come = h.come;
    kept = h.kept;
    are = sym (append_assoc stage.before (done ∷ []) stage.after);
    done = All-append IsDone stage.before (done ∷ []) stands.done (All-cons IsDone done [] (record { whole = whole_of entry chains now none; nodes = has }) (λ i x low. absurd (omega (arith, low))));
    unbegun = stands.unbegun;
  }

  pub breaks_nodes : (HasItsNodes done → ⊥) → BreaksNodes (replay was) entry.root.page
  breaks_nodes wrong = record {
    tour = tour_at stage (root_reached entry chains now);
    kept = h.kept;
    before = stage.before;
    visit = done;
    after = stage.after;
    are = refl;
    done = stands.done;
    whole = whole_of entry chains now none;
    not_begun = unbegun_reached stage.after stands.unbegun;
    wrong = wrong;
    blamed = ap (λ (e : DocEntry). e.root.page) (sym is);
  }

-- the walk goes on in the root's record
abbrev pub piece_stands : {D : Type 0} (d : Ghosts D) (walk : Walk) (tally : Tally) (disk : D) (was : Image) (base : ℕ) (stage : Stage) (k : ℕ) (entry : DocEntry) (piece : Piece) (chains : List (List Link)) (new : Walked) → IsStage k stage → IsPieceRow piece Top new
    → HasWalked d walk tally disk was base stage (root_reached entry chains new) → StandsThere d walk tally disk entry.root.page 257 k (λ row. row) (IsPieceRow piece) was
piece_stands d walk tally disk was base stage k entry piece chains new stands laid walked = record {
  base = base;
  stage = stage;
  around = Inside (place_of entry.root) chains Bare Top;
  row = new;
  place = record { among = stands; come = tt; namer = refl; level = refl };
  begins = laid;
  walked = walked;
}
