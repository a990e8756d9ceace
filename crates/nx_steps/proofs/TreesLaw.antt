-- The trees behind an effect are those of the plain command.
use Rattle.std.proofs.Common.{◌≡◌, ℕ, Bool, true, false, List, refl, sym, ap, ◌∙◌, Option, None, Some, if◌then◌else◌}
use Rattle.std.specs.Prelude.{option_map}
use Rattle.std.specs.Option.{option_map_or, option_or}
use Rattle.std.specs.FinMap.{get, contains_key, insert, remove}
use Rattle.nx_tree.specs.Forest.{OrderedTree}
use Rattle.nx_tree.specs.Edit.{put, cut_at, retext}
use Rattle.nx_cuts.specs.Cut.{CutTree, tree_of}
use Rattle.nx_script.specs.declared.command.LoadBody.TheVariants as load
use Rattle.nx_script.specs.declared.command.LineBody.TheVariants as line
use Rattle.nx_script.specs.declared.command.TextBody.TheVariants as content
use Rattle.nx_script.specs.declared.command.Command.TheVariants.{Load, Discard, Rename, Names, Export, Insert, Delete, Retext, Get, Layout, SetRule, Rules, Checkpoint, Begin, Commit, Bad}
use Rattle.nx_script.specs.declared.command.Command.{Command}
use Rattle.nx_script.specs.declared.reply.Reply.{Reply}
use Rattle.nx_script.specs.declared.reply.ReplyError.{ReplyError}
use Rattle.nx_script.specs.declared.reply.ReplyError.TheVariants.{NoDocument, Exists}
use Rattle.nx_engine.specs.Documents.{Documents}
use Rattle.nx_engine.specs.Step.{documents_after, documents_edited, insert_fault, delete_fault, retext_fault}
use Rattle.nx_engine.proofs.EditedLemmas.{edited_at}
use Rattle.nx_engine.proofs.StepLemmas.{rename_done}
use Rattle.nx_state.specs.State.{State}
use Rattle.nx_drawn.specs.Edits.{inserted, deleted, retexted}
use Rattle.nx_drawn.specs.Splits.{Splits}
use Rattle.nx_steps.specs.Refusal.{refusal, document_fault, load_fault, inserted_fault, retexted_fault}
use Rattle.nx_steps.specs.Step.{trees, sum_over, Edits, Effect}
use Rattle.nx_steps.specs.Sound.{AreFeasible}
use Rattle.nx_steps.specs.Laws.{EffectsLeaveSums}
use Rattle.nx_steps.proofs.TreesLemmas.{get-trees, contains-trees, sum-trees, trees-with_document, trees-removed}
use Rattle.nx_drawn.proofs.EditLemmas.{tree-inserted, tree-deleted, tree-retexted}
use Rattle.nx_drawn.proofs.SplitLemmas.{same_tree}

pub first_none : {X : Type 0} (a b : Option X) → option_or a b ≡ None → a ≡ None
first_none None b e = refl
first_none (Some x) b e = cc

pub none_of : (state : State) (name : List ℕ) (old : CutTree) (fault : OrderedTree → Option ReplyError) → get state.documents name ≡ Some old → document_fault state name fault ≡ None → fault (tree_of old) ≡ None
none_of state name old fault there none = sym (ap (λ o. option_map_or (λ (d : CutTree). fault (tree_of d)) o (Some NoDocument)) there) ∙ none

-- the first of two faults is none where neither is there
pub first_of_two : (state : State) (name : List ℕ) (fault other : OrderedTree → Option ReplyError) (old : CutTree) → get state.documents name ≡ Some old
    → document_fault state name (λ tree. option_or (fault tree) (other tree)) ≡ None → document_fault state name fault ≡ None
first_of_two state name fault other old there none =
    ap (λ o. option_map_or (λ (d : CutTree). fault (tree_of d)) o (Some NoDocument)) there
    ∙ first_none (fault (tree_of old)) (other (tree_of old)) (none_of state name old (λ tree. option_or (fault tree) (other tree)) there none)

pub new_name : (b : Bool) (o : Option ReplyError) → (if b then Some Exists else o) ≡ None → b ≡ false
new_name true o e = cc
new_name false o e = refl

-- an edited document
edited_trees : (state next : State) (name : List ℕ) (Becomes : CutTree → CutTree → Type 0) (fault : OrderedTree → Option ReplyError) (change : OrderedTree → OrderedTree)
    → document_fault state name fault ≡ None → ((old new : CutTree) → get state.documents name ≡ Some old → Becomes old new → tree_of new ≡ change (tree_of old))
    → Edits state name Becomes next → trees next ≡ documents_edited (trees state) name fault change
edited_trees state next name Becomes fault change none same e =
    ap trees e.next_is ∙ trees-with_document state name e.new ∙ ap (insert (trees state) name) (same e.old e.new e.there e.becomes)
    ∙ sym (edited_at (trees state) name (tree_of e.old) fault change None (get-trees state name ∙ ap (option_map tree_of) e.there) (none_of state name e.old fault e.there none))

pub effect_trees : (state : State) (command : Command) (r : Reply) (next : State) → AreFeasible state → refusal state command ≡ None → Effect state command r next → trees next ≡ documents_after (trees state) command
effect_trees state (Load name (load.Wrong error)) r next feasible none effect = absurd effect
effect_trees state (Load name (load.Read tree)) r next feasible none effect =
    let new = contains-trees state name ∙ new_name (contains_key state.documents name) (load_fault (state.settings).k (load.Read tree)) none in
    ap trees effect.next_is ∙ trees-with_document state name effect.document ∙ ap (insert (trees state) name) effect.tree_is
    ∙ ap (λ b. if b then trees state else insert (trees state) name tree) (sym new)
effect_trees state (Discard name) r next feasible none effect = ap trees effect.1 ∙ trees-removed state name
effect_trees state (Rename old new) r next feasible none effect =
    let document = effect.1.document in
    let without : State = record state { documents = remove state.documents old } in
    let there = get-trees state old ∙ ap (option_map tree_of) effect.1.there in
    let free = contains-trees state new ∙ new_name (contains_key state.documents new) None (none_of state old document (λ tree. if contains_key state.documents new then Some Exists else None) effect.1.there none) in
    ap trees effect.1.next_is ∙ trees-with_document without new document ∙ ap (λ (d : Documents). insert d new (tree_of document)) (trees-removed state old)
    ∙ sym (rename_done (trees state) old new (tree_of document) there free)
effect_trees state Names r next feasible none effect = ap trees effect.1
effect_trees state (Export name) r next feasible none effect = ap trees effect.1
effect_trees state (Insert name path (line.Wrong error)) r next feasible none effect = absurd effect
effect_trees state (Insert name path (line.Read node)) r next feasible none effect =
    edited_trees state next name (λ old. Splits state.settings state.rules (inserted state.rules node path old)) (insert_fault path (line.Read node)) (put node path)
    (first_of_two state name (insert_fault path (line.Read node)) (λ tree. inserted_fault (state.settings).k path (line.Read node)) effect.1.old effect.1.there none)
    (λ old new there splits. same_tree state.settings state.rules (inserted state.rules node path old) new splits ∙ tree-inserted (state.settings).k state.rules node path old ((feasible name old there).3.0)) effect.1
effect_trees state (Delete name path) r next feasible none effect =
    edited_trees state next name (λ old new. new ≡ deleted path old) (delete_fault path) (cut_at path) none
    (λ old new there is. ap tree_of is ∙ tree-deleted (state.settings).k path old ((feasible name old there).3.0)) effect.1
effect_trees state (Retext name path (content.Wrong error)) r next feasible none effect = absurd effect
effect_trees state (Retext name path (content.Read bytes)) r next feasible none effect =
    edited_trees state next name (λ old. Splits state.settings state.rules (retexted bytes path old)) (retext_fault path (content.Read bytes)) (retext bytes path)
    (first_of_two state name (retext_fault path (content.Read bytes)) (retexted_fault (state.settings).k path (content.Read bytes)) effect.1.old effect.1.there none)
    (λ old new there splits. same_tree state.settings state.rules (retexted bytes path old) new splits ∙ tree-retexted (state.settings).k bytes path old ((feasible name old there).3.0)) effect.1
effect_trees state (Get name path) r next feasible none effect = ap trees effect.1
effect_trees state (Layout name) r next feasible none effect = ap trees effect.1
effect_trees state (SetRule rule) r next feasible none effect = ap trees effect.1.next_is
effect_trees state Rules r next feasible none effect = ap trees effect.1
effect_trees state Checkpoint r next feasible none effect = ap trees effect.1
effect_trees state (Begin bare) r next feasible none effect = absurd effect
effect_trees state Commit r next feasible none effect = absurd effect
effect_trees state Bad r next feasible none effect = absurd effect

pub effect_sums : EffectsLeaveSums
effect_sums count state command r next feasible none effect = sym (sum-trees count next) ∙ ap (λ (documents : Documents). sum_over count documents) (effect_trees state command r next feasible none effect)
