-- A document as the interval of its root, which a walk tells of.
use Rattle.std.proofs.Common.{◌≡◌, ℕ, ◌+◌, ◌≤◌, List, [], ◌++◌, Option, refl, sym, ap, ◌∙◌, subst, arith}
use Rattle.std.proofs.lemmas.List.{append-nil}
use Rattle.std.specs.Prelude.{Bool, IsSome}
use Rattle.nx_host.specs.Disk.{Image}
use Rattle.nx_host.specs.Still.{IsStill}
use Rattle.nx_host.specs.declared.disk.Disk.{Ghosts}
use Rattle.nx_records.specs.declared.records.Records.{Records}
use Rattle.nx_records.proofs.LeaveLemmas.{leaves_same}
use Rattle.nx_tree.specs.Forest.{Forest, Empty, Plant, nodes}
use Rattle.nx_tree.specs.Document.{depth}
use Rattle.nx_cuts.specs.Cut.{Bare, Grown, Kept, CutForest, CutTree, tree_of}
use Rattle.nx_layouts.specs.Layout.{RecordPlace, Layout, laid_near, without_places, laid_forest, whole}
use Rattle.nx_hold.specs.Documents.{HasDocument}
use Rattle.nx_nav.specs.declared.error.NavError.{NavError}
use Rattle.nx_nav.specs.declared.visited.Visited.{Visited}
use Rattle.nx_nav.specs.Nodes.{CanStand}
use Rattle.nx_nav.specs.Visited.{HasVisited}
use Rattle.nx_nav.specs.Refusals.{OfEach, HoldsNoneWith, IsRefused}
use Rattle.nx_nav.specs.Steps.{WalkStep, walk_steps, laid_steps, steps_of}
use Rattle.nx_nav.specs.Walk.{HasTold, HasStopped, IsNone, IsIntervalAt, TellsDocument, StopsWithin}
use Rattle.nx_nav.proofs.NodeLemmas.{document_stands}
use Rattle.nx_nav.proofs.PartLemmas.{document_held, document_forest}
use Rattle.nx_nav.proofs.RefusalLemmas.{refused_later}
use Rattle.nx_nav.proofs.WayLemmas.{IsTeller, told_earlier}

-- where its records stand isn't told
pub document_steps : (asked : Bool) (root : RecordPlace) (l : Layout) (document : CutTree) → without_places l ≡ document.below → laid_steps asked (whole root document.node l) ≡ steps_of asked document
document_steps asked root l document same = ap (λ (c : CutForest). walk_steps asked (Kept tt (Grown document.node c Bare) Bare)) same

module _ {D : Type 0} {d : Ghosts D} {r0 : Records} {x : D} {root : RecordPlace} where
  as_interval : {document : CutTree} (h : HasDocument d r0 x root document) → IsIntervalAt d r0 x root 1 (whole root document.node h.laid.layout)
  as_interval {document} h = (Grown (laid_near document.node) h.laid.layout Bare, refl, refl, document_held h)

  -- its contents are told, also later while it is asked alone
  pub document_seen : {y : D} {document : CutTree} → IsStill d x y → HasDocument d r0 x root document → IsSome (d.contents y)
  document_seen still h = subst (λ (o : Option Image). IsSome o) (sym (still.contents_stay ∙ (((h.stands).keeps).step).settled.here)) refl

  pub none_such : (y : D) (left : ℕ) (v : Visited) → HasVisited v [] → IsNone d y (IsIntervalAt d r0 x root 1) 257 left v → IsSome (d.contents y) → HoldsNoneWith d r0 x root left
  none_such y left v fresh none seen document h count =
      let size = ap nodes (document_forest h) in
      let high = ap depth (document_forest h) in
      let shallow : depth (tree_of document).below ≤ 256 = h.laid.laid.is_document.shallow in
      none seen (whole root document.node h.laid.layout) (as_interval h) (record {
        shallow = omega arith;
        small = omega arith;
        stands = subst (λ (f : Forest). CanStand 0 (Plant document.node f Empty)) (sym (document_forest h)) (document_stands (tree_of document) h.laid.laid.is_document);
        earlier = [];
        were = fresh;
        once = h.laid.laid.once;
      })

module _ {D : Type 0} (d : Ghosts D) (Unwritten : Type 0) (r0 r1 : Records) (x y : D) (root : RecordPlace) where
  pub document_refused : (left : ℕ) (v : Visited) → HasVisited v [] → (e : NavError) → IsRefused d ⊥ Unwritten (IsNone d y (IsIntervalAt d r0 x root 1) 257 left v) e r0 r1 x y → IsRefused d ⊥ Unwritten (IsSome (d.contents y) → HoldsNoneWith d r0 x root left) e r0 r1 x y
  document_refused left v fresh e refused =
      refused_later d ⊥ Unwritten (IsSome (d.contents y) → HoldsNoneWith d r0 x root left) r0 r0 r1 x x y (leaves_same refl) (λ ended. refl) (omega arith) (λ bad. bad) (λ u. u) (none_such y left v fresh) e refused

-- a call that asked the disk alone gave up for what it says
pub asked_refused : {D : Type 0} (d : Ghosts D) (Nowhere : Type 0) (P : CutTree → Type 0) (r0 r1 : Records) (x y : D) (root : RecordPlace) (e : NavError) → IsStill d x y
    → IsRefused d Nowhere ⊥ (IsSome (d.contents y) → OfEach d r0 x root P) e r0 r1 x y → IsRefused d Nowhere ⊥ (OfEach d r0 x root P) e r0 r1 x y
asked_refused d Nowhere P r0 r1 x y root e still refused =
    refused_later d Nowhere ⊥ (OfEach d r0 x root P) r0 r0 r1 x x y (leaves_same refl) (λ ended. refl) (omega arith) (λ nowhere. nowhere) (λ bad. bad) (λ none document h. none (document_seen still h) document h) e refused

module _ {A D : Type 0} {d : Ghosts D} {asked : Bool} {Told : A → D → List WalkStep → A → D → Type 0} {r0 : Records} {x : D} {root : RecordPlace} {a : A} where
  -- all was told, and the teller paused at the end
  pub document_told : {Unwritten : D → D → Type 0} → IsTeller d Told Unwritten → (left rest : ℕ) (b c : A) (y z : D) (v w : Visited)
      → HasTold d asked Told (IsIntervalAt d r0 x root 1) a x left v b y rest w → rest ≡ 0 → Told b y [] c z → TellsDocument d asked Told r0 x root left a c z
  document_told teller left rest b c y z v w has none paused = record {
    told = has.told ++ [];
    goes = teller.join a b c x y z has.told [] has.goes paused;
    all = λ seen document h.
        let all = has.all (told_earlier teller paused seen) (whole root document.node h.laid.layout) (as_interval h) in
        let taken : left ≡ rest + (1 + nodes (laid_forest h.laid.layout) + 0) = all.1 in
        let size = ap nodes (document_forest h) in
        (omega arith, append-nil has.told ∙ all.0 ∙ document_steps asked root h.laid.layout document h.laid.laid.same);
  }

  pub document_stops : (y : D) → HasStopped d asked Told (IsIntervalAt d r0 x root 1) a x y → StopsWithin d asked Told r0 x root a y
  document_stops y has = record {
    told = has.told;
    last = has.last;
    goes = has.goes;
    first = λ seen document h.
        let first = has.first seen (whole root document.node h.laid.layout) (as_interval h) in
        (first.0, sym (document_steps asked root h.laid.layout document h.laid.laid.same) ∙ first.1);
  }

  -- it told all, and more was to come
  pub document_all_told : (left rest : ℕ) (b : A) (y : D) (v w : Visited) → HasTold d asked Told (IsIntervalAt d r0 x root 1) a x left v b y rest w → StopsWithin d asked Told r0 x root a y
  document_all_told left rest b y v w has = record {
    told = has.told;
    last = b;
    goes = has.goes;
    first = λ seen document h.
        ([], sym ((has.all seen (whole root document.node h.laid.layout) (as_interval h)).0 ∙ document_steps asked root h.laid.layout document h.laid.laid.same) ∙ sym (append-nil has.told));
  }

  -- ... and where it paused then
  pub document_stops_paused : {Unwritten : D → D → Type 0} → IsTeller d Told Unwritten → (left rest : ℕ) (b last : A) (y z : D) (v w : Visited)
      → HasTold d asked Told (IsIntervalAt d r0 x root 1) a x left v b y rest w → Told b y [] last z → StopsWithin d asked Told r0 x root a z
  document_stops_paused teller left rest b last y z v w has paused = record {
    told = has.told ++ [];
    last = last;
    goes = teller.join a b last x y z has.told [] has.goes paused;
    first = λ seen document h.
        let all = has.all (told_earlier teller paused seen) (whole root document.node h.laid.layout) (as_interval h) in
        ([], sym (append-nil (has.told ++ []) ∙ append-nil has.told ∙ all.0 ∙ document_steps asked root h.laid.layout document h.laid.laid.same));
  }

  pub none_so_large : (left rest : ℕ) (b : A) (y : D) (v w : Visited) → HasTold d asked Told (IsIntervalAt d r0 x root 1) a x left v b y rest w → (rest ≡ 0 → ⊥) → IsSome (d.contents y) → HoldsNoneWith d r0 x root left
  none_so_large left rest b y v w has some seen document h count =
      let all = has.all seen (whole root document.node h.laid.layout) (as_interval h) in
      let taken : left ≡ rest + (1 + nodes (laid_forest h.laid.layout) + 0) = all.1 in
      let size = ap nodes (document_forest h) in
      some (omega arith)
