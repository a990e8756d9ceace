-- What the bound of room counts.
use Rattle.std.proofs.Common.{◌≡◌, ℕ, ◌+◌, false, List, Option, None, Some, refl, ap, ◌∙◌, arith, if◌then◌else◌}
use Rattle.std.specs.Prelude.{option_map}
use Rattle.std.specs.FinMap.{get, contains_key, insert, remove}
use Rattle.std.specs.Option.{is_some, option_map_or}
use Rattle.nx_tree.specs.Forest.{OrderedTree}
use Rattle.nx_tree.specs.Edit.{put, cut_at, retext}
use Rattle.nx_cuts.specs.Cut.{CutTree, tree_of}
use Rattle.nx_script.specs.declared.command.LoadBody.TheVariants as load
use Rattle.nx_script.specs.declared.command.LineBody.TheVariants as line
use Rattle.nx_script.specs.declared.command.TextBody.TheVariants as content
use Rattle.nx_script.specs.declared.command.Command.TheVariants.{Load, Discard, Rename, Names, Export, Insert, Delete, Retext, Get, Layout, SetRule, Rules, Checkpoint, Begin, Commit, Bad}
use Rattle.nx_script.specs.declared.reply.ReplyError.{ReplyError}
use Rattle.nx_script.specs.declared.reply.ReplyError.TheVariants.{NoDocument, Exists}
use Rattle.nx_engine.specs.Documents.{Documents}
use Rattle.nx_engine.specs.Step.{documents_edited, insert_fault, delete_fault, retext_fault}
use Rattle.nx_engine.proofs.EditedLemmas.{edited_at}
use Rattle.nx_engine.proofs.StepLemmas.{rename_done}
use Rattle.nx_state.specs.State.{State}
use Rattle.nx_steps.specs.Refusal.{document_fault, load_fault, inserted_fault, retexted_fault}
use Rattle.nx_steps.specs.Step.{trees, sum_over, sum_after}
use Rattle.nx_steps.specs.Laws.{sum_of, RoomIsCounted}
use Rattle.nx_steps.proofs.TreesLemmas.{get-trees, contains-trees, removed_free, sum-trees, sum-new, sum-fewer, sum-other}
use Rattle.nx_steps.proofs.TreesLaw.{new_name, none_of, first_of_two}

no_value : {X : Type 0} (o : Option X) → is_some o ≡ false → o ≡ None
no_value None e = refl
no_value (Some x) e = cc

-- a new name's document adds what it has
pub load_sum : (count : OrderedTree → ℕ) (state : State) (name : List ℕ) (tree : OrderedTree) → contains_key state.documents name ≡ false → sum_after count state (Load name (load.Read tree)) ≡ sum_of count state + count tree
load_sum count state name tree new =
    ap (λ b. sum_over count (if b then trees state else insert (trees state) name tree)) (contains-trees state name ∙ new)
    ∙ sum-new count (trees state) name tree (no_value (get (trees state) name) (contains-trees state name ∙ new)) ∙ ap (λ n. n + count tree) (sum-trees count state)

-- a document counts under each name as much
rename_counted : (count : OrderedTree → ℕ) (state : State) (old new : List ℕ) → document_fault state old (λ tree. if contains_key state.documents new then Some Exists else None) ≡ None →
    sum_after count state (Rename old new) ≡ sum_of count state
rename_counted count state old new none = by_document (get state.documents old) refl none
  where
    by_document : (o : Option CutTree) → get state.documents old ≡ o →
        option_map_or (λ (document : CutTree). if contains_key state.documents new then Some Exists else None) o (Some NoDocument) ≡ None → sum_after count state (Rename old new) ≡ sum_of count state
    by_document None is free = cc
    by_document (Some document) is free =
        let there : get (trees state) old ≡ Some (tree_of document) = get-trees state old ∙ ap (option_map tree_of) is in
        let absent : contains_key (trees state) new ≡ false = contains-trees state new ∙ new_name (contains_key state.documents new) None free in
        let e : sum_after count state (Rename old new) ≡ sum_over count (insert (remove (trees state) old) new (tree_of document)) =
        ap (λ (d : Documents). sum_over count d) (rename_done (trees state) old new (tree_of document) there absent) in
        let n = sum-new count (remove (trees state) old) new (tree_of document) (removed_free (trees state) old new (no_value (get (trees state) new) absent)) in
        let f = sum-fewer count (trees state) old (tree_of document) there in
        let t = sum-trees count state in
        omega (arith, e, n, f, t)

-- an edit that isn't refused
edit_counted : (count : OrderedTree → ℕ) (state : State) (name : List ℕ) (fault : OrderedTree → Option ReplyError) (change : OrderedTree → OrderedTree) (old : CutTree) → get state.documents name ≡ Some old
    → document_fault state name fault ≡ None → sum_over count (documents_edited (trees state) name fault change) + count (tree_of old) ≡ sum_of count state + count (change (tree_of old))
edit_counted count state name fault change old there none =
    let found : get (trees state) name ≡ Some (tree_of old) = get-trees state name ∙ ap (option_map tree_of) there in
    let e : sum_over count (documents_edited (trees state) name fault change) ≡ sum_over count (insert (trees state) name (change (tree_of old))) =
    ap (λ (d : Documents). sum_over count d) (edited_at (trees state) name (tree_of old) fault change None found (none_of state name old fault there none)) in
    let n = sum-other count (trees state) name (tree_of old) (change (tree_of old)) found in
    let t = sum-trees count state in
    omega (arith, e, n, t)

pub room_counted : RoomIsCounted
room_counted count state (Load name (load.Wrong error)) none = tt
room_counted count state (Load name (load.Read tree)) none = load_sum count state name tree (new_name (contains_key state.documents name) (load_fault (state.settings).k (load.Read tree)) none)
room_counted count state (Discard name) none = tt
room_counted count state (Rename old new) none = rename_counted count state old new none
room_counted count state Names none = tt
room_counted count state (Export name) none = tt
room_counted count state (Insert name path (line.Wrong error)) none = tt
room_counted count state (Insert name path (line.Read node)) none = λ old there.
    edit_counted count state name (insert_fault path (line.Read node)) (put node path) old there
    (first_of_two state name (insert_fault path (line.Read node)) (λ tree. inserted_fault (state.settings).k path (line.Read node)) old there none)
room_counted count state (Delete name path) none = λ old there. edit_counted count state name (delete_fault path) (cut_at path) old there none
room_counted count state (Retext name path (content.Wrong error)) none = tt
room_counted count state (Retext name path (content.Read bytes)) none = λ old there.
    edit_counted count state name (retext_fault path (content.Read bytes)) (retext bytes path) old there
    (first_of_two state name (retext_fault path (content.Read bytes)) (retexted_fault (state.settings).k path (content.Read bytes)) old there none)
room_counted count state (Get name path) none = tt
room_counted count state (Layout name) none = tt
room_counted count state (SetRule rule) none = sum-trees count state
room_counted count state Rules none = tt
room_counted count state Checkpoint none = tt
room_counted count state (Begin bare) none = tt
room_counted count state Commit none = tt
room_counted count state Bad none = tt
