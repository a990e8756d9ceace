-- A block of which a first part was given, and the text of a document that was.
use Rattle.std.proofs.Common.{◌≡◌, ℕ, true, List, [], ◌++◌, take, drop, Option, None, Some, sym, ap, ◌∙◌, subst, arith, inl, inr, append_assoc, append-nil}
use Rattle.std.specs.Prelude.{◌⊎◌}
use Rattle.std.specs.Option.{MatchOption}
use Rattle.std.proofs.lemmas.List.{take-append-drop}
use Rattle.std.proofs.lemmas.List.Concat.{flat_map-append}
use Rattle.nx_host.specs.Disk.{Keeps}
use Rattle.nx_host.specs.declared.disk.Disk.{Ghosts}
use Rattle.nx_host.specs.Host.{AppendsPrefix}
use Rattle.nx_host.specs.Phase.{GivesAlone}
use Rattle.nx_host.specs.Time.{elapsed_weaker}
use Rattle.nx_host.proofs.DiskLemmas.{keeps_self}
use Rattle.nx_host.proofs.OutputLemmas.{prefix_more}
use Rattle.nx_records.specs.declared.records.Records.{Records}
use Rattle.nx_tree.specs.Forest.{OrderedTree}
use Rattle.nx_tree.specs.Edit.{at}
use Rattle.nx_pyx.specs.Text.{text, tree_text}
use Rattle.nx_cuts.specs.Cut.{CutTree, tree_of}
use Rattle.nx_layouts.specs.Layout.{RecordPlace}
use Rattle.nx_hold.specs.Documents.{HasDocument}
use Rattle.nx_nav.specs.Below.{TellsTree}
use Rattle.nx_nav.specs.Given.{AsksAndGives, AppendsBut, GivesWithin, GivesText}
use Rattle.nx_nav.specs.GivenLaws.{within_more}
use Rattle.nx_nav.specs.Steps.{WalkStep, steps_of}
use Rattle.nx_nav.specs.Told.{walk_step_text, told_text}
use Rattle.nx_nav.proofs.BelowLemmas.{has_tree_text}
use Rattle.nx_nav.proofs.TextLemmas.{has_text}

-- what isn't given of a prefix is left
prefix_given : (block : List ℕ) (old new : Option (List ℕ)) → AppendsPrefix block old new → (left : List ℕ) × AppendsBut (block ++ []) left old new
prefix_given block old None prefix = (block, record { done = []; parts = sym (append-nil block); gave = tt })
prefix_given block old (Some now) (was, n, is, grew) =
    (drop n block, record { done = take n block; parts = take-append-drop n block ∙ sym (append-nil block); gave = (was, is, grew) })

-- the text that was told of a document, of which this was all or a first part
module _ {D : Type 0} (d : Ghosts D) {r : Records} {was : D} {root : RecordPlace} {document : CutTree} (h : HasDocument d r was root document) (now block : List ℕ) (same : now ≡ block) (told : List WalkStep) where
  pub text_gives : (left : List ℕ) (old new : Option (List ℕ)) → told ≡ steps_of true document → AppendsBut (now ++ told_text told) left old new → AppendsBut (block ++ text (tree_of document)) left old new
  text_gives left old new all gives =
      let whole : now ++ told_text told ≡ block ++ text (tree_of document) = ap (λ w. w ++ told_text told) same ∙ ap (λ w. block ++ w) (ap told_text all ∙ has_text h) in
      subst (λ w. AppendsBut w left old new) whole gives

  pub text_within : (more : List WalkStep) (x y : D) → steps_of true document ≡ told ++ more → GivesWithin d (now ++ told_text told) x y → GivesWithin d (block ++ text (tree_of document)) x y
  text_within more x y first within =
      let whole : (now ++ told_text told) ++ told_text more ≡ block ++ text (tree_of document) =
      append_assoc now (told_text told) (told_text more) ∙ ap (λ w. w ++ (told_text told ++ told_text more)) same
      ∙ ap (λ w. block ++ w) (sym (flat_map-append walk_step_text told more) ∙ ap told_text (sym first) ∙ has_text h) in
      subst (λ w. GivesWithin d w x y) whole (within_more d (now ++ told_text told) (told_text more) x y within)

-- the same of the tree at a path
module _ {D : Type 0} (d : Ghosts D) {r : Records} {was : D} {root : RecordPlace} {document : CutTree} (h : HasDocument d r was root document) (now block : List ℕ) (same : now ≡ block) (path : List ℕ) (told : List WalkStep) where
  pub tree_gives : (left : List ℕ) (old new : Option (List ℕ)) (tree : OrderedTree) → at (tree_of document) path ≡ Some tree → TellsTree true tree told → AppendsBut (now ++ told_text told) left old new → AppendsBut (block ++ tree_text tree) left old new
  tree_gives left old new tree is tells gives =
      let whole : now ++ told_text told ≡ block ++ tree_text tree = ap (λ w. w ++ told_text told) same ∙ ap (λ w. block ++ w) (has_tree_text h path tree told is tells) in
      subst (λ w. AppendsBut w left old new) whole gives

  pub tree_within : (x y : D) → (told ≡ []) ⊎ ((tree : OrderedTree) × (at (tree_of document) path ≡ Some tree) × ((all more : List WalkStep) × TellsTree true tree all × (all ≡ told ++ more))) → GivesWithin d (now ++ told_text told) x y
      → MatchOption (at (tree_of document) path) (GivesWithin d block x y) (λ tree. GivesWithin d (block ++ tree_text tree) x y)
  tree_within x y (inl none) within =
      each (at (tree_of document) path) (subst (λ w. GivesWithin d w x y) (ap (λ s. now ++ told_text s) none ∙ append-nil now ∙ same) within)
    where
      each : (o : Option OrderedTree) → GivesWithin d block x y → MatchOption o (GivesWithin d block x y) (λ tree. GivesWithin d (block ++ tree_text tree) x y)
      each None own = own
      each (Some tree) own = within_more d block (tree_text tree) x y own
  tree_within x y (inr (tree, is, (all, more, tells, front))) within =
      let whole : (now ++ told_text told) ++ told_text more ≡ block ++ tree_text tree =
      append_assoc now (told_text told) (told_text more) ∙ ap (λ w. w ++ (told_text told ++ told_text more)) same
      ∙ ap (λ w. block ++ w) (sym (flat_map-append walk_step_text told more) ∙ ap told_text (sym front) ∙ has_tree_text h path tree all is tells) in
      subst (λ o. MatchOption o (GivesWithin d block x y) (λ tree. GivesWithin d (block ++ tree_text tree) x y)) (sym is)
      (subst (λ w. GivesWithin d w x y) whole (within_more d (now ++ told_text told) (told_text more) x y within))

module _ {D : Type 0} {d : Ghosts D} where
  alone_gives : {bytes : List ℕ} {x y : D} → GivesAlone d bytes x y → AsksAndGives d x y
  alone_gives {x = x} {y = y} alone = record {
    contents_stay = (alone.areas).contents_stay;
    images_stay = (alone.areas).images_stay;
    input_stays = subst (λ (o : Option (List ℕ)). Keeps (d.beside x).input o) (sym alone.input_stays) (keeps_self (d.beside x).input);
    in_faults_stay = alone.in_faults_stay;
    out_faults_later = (alone.areas).out_faults_later;
    faults_later = let same : d.faults y ≡ d.faults x = (alone.areas).faults_stay in omega (arith, same);
  }

  -- a first part of the block was given
  pub gives_prefix : (block : List ℕ) {x y : D} → GivesAlone d block x y → AppendsPrefix block (d.beside x).output (d.beside y).output → (left : List ℕ) × GivesText d block x [] left y
  gives_prefix block {x} {y} alone prefix =
      let given = prefix_given block (d.beside x).output (d.beside y).output prefix in (
        given.0,
        record {
          areas = alone_gives alone;
          gives = given.1;
          time = elapsed_weaker (alone.areas).time (λ s h. (prefix_more block [] (d.beside x).output s.output h.0, h.1));
        },
      )
