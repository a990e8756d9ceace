-- A document of a store edited, before the commit.
use Rattle.std.proofs.Common.{◌≡◌, ℕ, ◌+◌, ◌*◌, ◌<◌, ◌≤◌, cond, inl, inr, List, [], ◌∷◌, ◌++◌, length, map, Option, None, Some, Bool, true, false, Less, Equal, Greater, is_eq, refl, sym, ap, ◌∙◌, subst, arith, append-nil}
use Rattle.std.specs.Prelude.{◌≢◌, All, Contains, IsPermutation, if◌then◌else◌, nat_lt, option_and_then, Ok, Err}
use Rattle.std.specs.Option.{is_some, option_map, option_map_or, option_or, IsSomeAnd}
use Rattle.std.specs.List.{sum}
use Rattle.std.specs.FinMap.{entries, values, find, get, insert, get-entries}
use Rattle.std.proofs.lemmas.Bool.{false≢true, le-ltb}
use Rattle.std.proofs.lemmas.List.{length-map}
use Rattle.std.proofs.lemmas.List.Elements.{All-nil, All-cons, All-head, All-tail, Contains-append_left, Contains-append_right, Contains-append_cases}
use Rattle.std.proofs.lemmas.List.Sorted.{Contains-permutation, IsPermutation-sym}
use Rattle.nx_host.specs.declared.disk.Disk.{Ghosts}
use Rattle.nx_host.specs.Still.{IsStill}
use Rattle.nx_host.proofs.DiskLemmas.{untold}
use Rattle.nx_tree.specs.declared.error.TreeError.{TreeError}
use Rattle.nx_tree.specs.declared.error.TreeError.TheVariants as tree
use Rattle.nx_tree.specs.Forest.{OrderedTree, nodes}
use Rattle.nx_tree.specs.declared.node.Node.{Node}
use Rattle.nx_tree.specs.Document.{longest_node}
use Rattle.nx_tree.specs.Edit.{at as at_path, insert_refusal, delete_refusal, retext_refusal}
use Rattle.nx_pyx.specs.declared.error.PyxFault.TheVariants.{LongLine}
use Rattle.nx_pyx.specs.Fault.{fault_at as line_fault}
use Rattle.nx_weights.specs.Weight.{weight}
use Rattle.nx_matrix.specs.declared.rule.Rule.{Rule}
use Rattle.nx_wal.specs.Wal.{current}
use Rattle.nx_holdings.specs.declared.header.Settings.{Settings}
use Rattle.nx_holdings.specs.Holdings.{Held, OnPages, chain_count}
use Rattle.nx_records.specs.declared.records.Records.{Records}
use Rattle.nx_records.specs.declared.error.StoreError.{StoreError}
use Rattle.nx_records.specs.declared.error.StoreError.TheVariants as below
use Rattle.nx_records.specs.Records.{has_ended, settings_of, StandsFor, KeepsSaved, ComesTo}
use Rattle.nx_records.specs.Changes.{SetsCatalog, catalog_needs}
use Rattle.nx_records.specs.Refusals.{RunsOn, NotStored}
use Rattle.nx_cuts.specs.Cut.{CutTree, forest, tree_of}
use Rattle.nx_layouts.specs.Layout.{RecordPlace, Layout, without_places, nodes_in, lists_of, contents_of, AreOnce, ArePlacedOnce}
use Rattle.nx_pyx.specs.DocumentName.{name_order, is_document_name}
use Rattle.nx_matrix.specs.RuleLabels.{HasLabels}
use Rattle.nx_script.specs.Commands.{CanCome}
use Rattle.nx_script.specs.declared.command.Command.TheVariants.{Insert, Delete, Retext, Checkpoint}
use Rattle.nx_script.specs.declared.command.LineBody.{LineBody}
use Rattle.nx_script.specs.declared.command.LineBody.TheVariants as line
use Rattle.nx_script.specs.declared.command.TextBody.{TextBody}
use Rattle.nx_script.specs.declared.command.TextBody.TheVariants as said
use Rattle.nx_pyx.specs.declared.error.PyxError.{PyxError}
use Rattle.nx_script.specs.declared.reply.Reply.TheVariants as reply
use Rattle.nx_script.specs.declared.reply.ReplyError.{ReplyError}
use Rattle.nx_script.specs.declared.reply.ReplyError.TheVariants.{NoDocument, Pyx, TooHeavy, Full}
use Rattle.nx_engine.specs.Step.{worded, insert_fault, delete_fault, retext_fault}
use Rattle.nx_hold.specs.declared.entry.DocEntry.{DocEntry}
use Rattle.nx_hold.specs.Contents.{near_pages, tree_pages}
use Rattle.nx_hold.specs.Documents.{MovesRecords}
use Rattle.nx_hold.specs.Pieces.{IsTidy, PieceMap, held_by}
use Rattle.nx_hold.proofs.MapLemmas.{piece_map}
use Rattle.nx_hold.proofs.RefusalLemmas.{runs_then, saved_then}
use Rattle.nx_catalog.specs.Catalog.{Contents, Document, Entries, CanBeKept, IsCatalog, catalog_bytes}
use Rattle.nx_catalog.specs.Saving.{SavesEntry}
use Rattle.nx_catalog.proofs.LengthLemmas.{most_bytes, length_there}
use Rattle.nx_state.specs.State.{State, document_size, all_nodes, all_pages}
use Rattle.nx_state.specs.Stands.{StoredDocument, IsStoredIn, HoldsDocuments, record_places, all_places}
use Rattle.nx_state.specs.Laws.{ContentsChange}
use Rattle.nx_state.proofs.ChangeLemmas.{documents_change, catalog_comes}
use Rattle.nx_state.proofs.FreeLemmas.{documents_leave_free}
use Rattle.nx_steps.specs.Answers.{with_document, MayBeFull}
use Rattle.nx_steps.specs.Refusal.{refusal, document_fault, weight_fault, inserted_fault, retexted_fault}
use Rattle.nx_steps.specs.Step.{sum_after, nodes_after, pages_after, may_need_room, Effect, Step}
use Rattle.nx_steps.specs.Laws.{sum_of}
use Rattle.nx_steps.proofs.CountLemmas.{room_counted}
use Rattle.nx_steps.proofs.SoundLemmas.{unworded, insert_named}
use Rattle.nx_steps.proofs.TreesLaw.{none_of, first_of_two}
use Rattle.nx_edit.specs.Editing.{places_off, nodes_off, edited_needs, IsEdited}
use Rattle.nx_edit.specs.Removing.{document_places, OfEntry}
use Rattle.nx_edit.specs.Refusals.{refused_by, edit_needs, edit_error, LeavesLastCommit, IsAtFault}
use Rattle.nx_edit.specs.Retexting.{other_content, outweighs, outgrows}
use Rattle.nx_edit.specs.declared.error.EditError.{EditError}
use Rattle.nx_edit.specs.declared.error.EditError.TheVariants as edit
use Rattle.nx_store.specs.Store.{IsAt, IsNow}
use Rattle.nx_store.specs.Staying.{IsOffPath, IsLeftBy, RecordsStay, OthersStay}
use Rattle.nx_store.specs.Changing.{PreparesNow, IsStoreLeft, StepsRefused}
use Rattle.nx_store.specs.Editing.{edit_command, said_command, said_edit, CanBeMade, edit_fault, is_of_edit, tree_edit, EditBecomes, stays_below, edit_kept, edit_pages, MakesEdit, NotMade, edit_reply, EditNotPrepared}
use Rattle.nx_store.specs.declared.editing.Edit.{Edit}
use Rattle.nx_store.specs.declared.editing.Edit.TheVariants as made
use Rattle.nx_store.specs.declared.edits.EditBody.{EditBody}
use Rattle.nx_store.specs.declared.edits.EditBody.TheVariants as body
use Rattle.nx_store.specs.declared.store.Store.{Store}
use Rattle.nx_store.proofs.FoundLemmas.{at_none, found, get_found, map_none, same_some}
use Rattle.nx_catalog.proofs.CatalogLemmas.{one_contents}
use Rattle.nx_store.proofs.KeepLemmas.{later_rose, no_end}
use Rattle.nx_store.proofs.PageLemmas.{near_few, cut_within, retext_within, put_within}
use Rattle.nx_store.proofs.RoomLemmas.{sum_between, sum_stored, nodes_stored, pages_stored, edit_room}
use Rattle.nx_store.proofs.StepsLemmas.{refused_step, done_step, full_step}
use Rattle.nx_store.proofs.OrderedLemmas.{name_same, replaced_between}
use Rattle.nx_store.proofs.StayingLemmas.{alone_there, off_within, change_leaves, catalog_leaves}
use Rattle.nx_store.proofs.GoneLemmas.{none_needed, contents_at, entries_at, the_one, place, shown_there, holds_between, stored_one, own_contents, told_entry, none_entry}

-- ---- the entry of a name

-- an entry that is found is that of a name that a document may have
pub named_there : (named : Bool) (found : Option DocEntry) (entry : DocEntry) → Some entry ≡ (if named then found else None) → (named ≡ true) × (found ≡ Some entry)
named_there true found entry is = (refl, sym is)
named_there false found entry is = absurd (untold entry (sym is))

kept_at : (P : Document → Type 0) (q : List ℕ) (documents : List Document) (entry : DocEntry) → All P documents → find name_order q documents ≡ Some entry → P (q, entry)
kept_at P q [] entry all e = untold entry e
kept_at P q (x ∷ documents) entry all e =
    let further : find name_order q documents ≡ Some entry → P (q, entry) = λ h. kept_at P q documents entry (All-tail P x documents all) h in
    elim (name_order q x.0) as (λ o. name_order q x.0 ≡ o → cond (is_eq o) (Some x.1) (find name_order q documents) ≡ Some entry → P (q, entry)) [
      | Less ↦ λ s h. further h
      | Equal ↦ λ s h. subst (λ (n : List ℕ). P (n, entry)) (sym (name_same q x.0 s)) (subst (λ (w : DocEntry). P (x.0, w)) (same_some h) (All-head P x documents all))
      | Greater ↦ λ s h. further h
    ] refl e

-- a name without an entry, or that no document may have, is none's
pub none_named : {D : Type 0} {d : Ghosts D} {store : Store} {x : D} {state : State} (name : List ℕ) → IsAt d store x state → None ≡ (if is_document_name name then get (store.catalog).documents name else None)
    → get state.documents name ≡ None
none_named {store = store} {state = state} name at none = by_name (is_document_name name) refl none
  where
    lacks : is_document_name name ≡ false → (found : Option DocEntry) → get (store.catalog).documents name ≡ found → found ≡ None
    lacks unnamed None is = refl
    lacks unnamed (Some entry) is =
        let kept = kept_at CanBeKept name (entries (store.catalog).documents) entry (at.catalog).kept (sym (get-entries (store.catalog).documents name) ∙ is) in
        absurd (false≢true (sym unnamed ∙ kept.named))

    by_name : (named : Bool) → is_document_name name ≡ named → None ≡ (if named then get (store.catalog).documents name else None) → get state.documents name ≡ None
    by_name true is e = at_none name at (sym e)
    by_name false is e = at_none name at (lacks is (get (store.catalog).documents name) refl)

-- ... also where something waits
now_entries : {D : Type 0} {d : Ghosts D} {store : Store} {x : D} {saved : Held} {state : State} (at : IsNow d store x saved state) → entries (store.catalog).documents ≡ map (λ (s : StoredDocument). (s.name, s.entry)) (at.state_is).stored
now_entries {store = store} at =
    ap (λ (c : Contents). entries c.documents) (sym (one_contents (at.held).catalog.bytes (at.state_is).contents store.catalog (at.state_is).catalog at.catalog)) ∙ (at.state_is).names

pub now_none : {D : Type 0} {d : Ghosts D} {store : Store} {x : D} {saved : Held} {state : State} (name : List ℕ) → IsNow d store x saved state → get (store.catalog).documents name ≡ None → get state.documents name ≡ None
now_none {store = store} {state = state} name at none =
    let stored = (at.state_is).stored in
    let lacks : found name stored ≡ None =
    map_none (λ (s : StoredDocument). s.entry) (found name stored) (sym (get_found (store.catalog).documents (λ (s : StoredDocument). s.entry) name stored (now_entries at)) ∙ none) in
    get_found state.documents (λ (s : StoredDocument). s.document) name stored (at.state_is).documents ∙ ap (option_map (λ (s : StoredDocument). s.document)) lacks

pub none_entered : {D : Type 0} {d : Ghosts D} {store : Store} {x : D} {saved : Held} {state : State} (name : List ℕ) → IsNow d store x saved state → None ≡ (if is_document_name name then get (store.catalog).documents name else None)
    → get state.documents name ≡ None
none_entered {store = store} {state = state} name at none = by_name (is_document_name name) refl none
  where
    lacks : is_document_name name ≡ false → (found : Option DocEntry) → get (store.catalog).documents name ≡ found → found ≡ None
    lacks unnamed None is = refl
    lacks unnamed (Some entry) is =
        let kept = kept_at CanBeKept name (entries (store.catalog).documents) entry (at.catalog).kept (sym (get-entries (store.catalog).documents name) ∙ is) in
        absurd (false≢true (sym unnamed ∙ kept.named))

    by_name : (named : Bool) → is_document_name name ≡ named → None ≡ (if named then get (store.catalog).documents name else None) → get state.documents name ≡ None
    by_name true is e = now_none name at (sym e)
    by_name false is e = now_none name at (lacks is (get (store.catalog).documents name) refl)

-- ---- what an edit is answered

-- reasons are worded alike
worded_alike : (path : List ℕ) (o : Option TreeError) → option_and_then worded o ≡ option_map (edit_reply path) (option_and_then refused_by o)
worded_alike path None = refl
worded_alike path (Some tree.NoNode) = refl
worded_alike path (Some tree.BadPlace) = refl
worded_alike path (Some tree.Twice) = refl
worded_alike path (Some tree.NoContent) = refl
worded_alike path (Some tree.TooDeep) = refl
worded_alike path (Some tree.TooMany) = refl
worded_alike path (Some tree.Memory) = refl

weighed_alike : (path : List ℕ) (k : ℕ) (node : Node) → weight_fault k path node ≡ option_map (edit_reply path) (outweighs k node)
weighed_alike path k node =
    elim (nat_lt k (weight node)) as (λ b. (if b then Some (TooHeavy path (weight node)) else None) ≡ option_map (edit_reply path) (if b then Some (edit.TooHeavy (weight node)) else None)) [
      | true ↦ refl
      | false ↦ refl
    ]

there_alike : (path : List ℕ) (k : ℕ) (content : List ℕ) (o : Option OrderedTree)
    → option_map_or (λ t. weight_fault k path (record t.node { content = content })) o None ≡ option_map (edit_reply path) (option_map_or (λ t. outweighs k (other_content content t)) o None)
there_alike path k content None = refl
there_alike path k content (Some t) = weighed_alike path k (other_content content t)

first_alike : (path : List ℕ) (a b : Option EditError) → option_or (option_map (edit_reply path) a) (option_map (edit_reply path) b) ≡ option_map (edit_reply path) (option_or a b)
first_alike path None b = refl
first_alike path (Some e) b = refl

long_alike : (path content : List ℕ) (o : Option OrderedTree) → length content ≤ longest_node
    → (if nat_lt longest_node (length (option_map_or (λ (t : OrderedTree). t.node.name) o []) + length content) then Some (Pyx (line_fault 1 LongLine)) else None)
    ≡ option_map (edit_reply path) (option_map_or (λ t. outgrows (other_content content t)) o None)
long_alike path content None short = ap (λ (b : Bool). if b then Some (Pyx (line_fault 1 LongLine)) else None) (le-ltb longest_node (0 + length content) (omega (arith, short)))
long_alike path content (Some t) short =
    elim (nat_lt longest_node (length t.node.name + length content)) as (λ b. (if b then Some (Pyx (line_fault 1 LongLine)) else None) ≡ option_map (edit_reply path) (if b then Some edit.TooLong else None)) [
      | true ↦ refl
      | false ↦ refl
    ]

-- what is refused of the document of a name
at_document : (state : State) (name : List ℕ) (old : CutTree) (fault : OrderedTree → Option ReplyError) → get state.documents name ≡ Some old → document_fault state name fault ≡ fault (tree_of old)
at_document state name old fault there = ap (λ o. option_map_or (λ (document : CutTree). fault (tree_of document)) o (Some NoDocument)) there

at_nothing : (state : State) (name : List ℕ) (fault : OrderedTree → Option ReplyError) → get state.documents name ≡ None → document_fault state name fault ≡ Some NoDocument
at_nothing state name fault none = ap (λ o. option_map_or (λ (document : CutTree). fault (tree_of document)) o (Some NoDocument)) none

edit_refusal : (state : State) (name path : List ℕ) (e : Edit) (old : CutTree) → get state.documents name ≡ Some old → CanBeMade e
    → refusal state (edit_command name path e) ≡ option_map (edit_reply path) (edit_fault e path (state.settings).k (tree_of old))
edit_refusal state name path made.Delete old there can = at_document state name old (delete_fault path) there ∙ worded_alike path (delete_refusal path (tree_of old))
edit_refusal state name path (made.Retext content) old there can =
    let k = (state.settings).k in
    let t : OrderedTree = tree_of old in
    let long : Option EditError = option_map_or (λ there. outgrows (other_content content there)) (at_path t path) None in
    let wrong : Option EditError = option_and_then refused_by (retext_refusal path t) in
    at_document state name old (λ t. option_or (retext_fault path (said.Read content) t) (retexted_fault k path (said.Read content) t)) there
    ∙ ap (λ (o : Option ReplyError). option_or (option_or o (option_and_then worded (retext_refusal path t))) (retexted_fault k path (said.Read content) t)) (long_alike path content (at_path t path) can)
    ∙ ap (λ (o : Option ReplyError). option_or (option_or (option_map (edit_reply path) long) o) (retexted_fault k path (said.Read content) t)) (worded_alike path (retext_refusal path t))
    ∙ ap (λ (o : Option ReplyError). option_or o (retexted_fault k path (said.Read content) t)) (first_alike path long wrong)
    ∙ ap (λ (o : Option ReplyError). option_or (option_map (edit_reply path) (option_or long wrong)) o) (there_alike path k content (at_path t path))
    ∙ first_alike path (option_or long wrong) (option_map_or (λ there. outweighs k (other_content content there)) (at_path t path) None)
edit_refusal state name path (made.Insert node) old there can =
    let k = (state.settings).k in
    let wrong : Option TreeError = insert_refusal node path (tree_of old) in
    at_document state name old (λ t. option_or (insert_fault path (line.Read node) t) (inserted_fault k path (line.Read node))) there
    ∙ ap (λ (o : Option ReplyError). option_or o (weight_fault k path node)) (worded_alike path wrong)
    ∙ ap (λ (o : Option ReplyError). option_or (option_map (edit_reply path) (option_and_then refused_by wrong)) o) (weighed_alike path k node) ∙ first_alike path (option_and_then refused_by wrong) (outweighs k node)

pub no_checkpoint : (name path : List ℕ) (e : Edit) → edit_command name path e ≢ Checkpoint
no_checkpoint name path made.Delete is = cc
no_checkpoint name path (made.Retext content) is = cc
no_checkpoint name path (made.Insert node) is = cc

edit_effect : (state : State) (name path : List ℕ) (e : Edit) (old document : CutTree) → get state.documents name ≡ Some old → EditBecomes state.settings state.rules e path old document
    → Effect state (edit_command name path e) reply.Done (with_document state name document)
edit_effect state name path made.Delete old document there is = (refl, record { old = old; new = document; there = there; becomes = is; next_is = refl })
edit_effect state name path (made.Retext content) old document there is = (refl, record { old = old; new = document; there = there; becomes = is; next_is = refl })
edit_effect state name path (made.Insert node) old document there is = (refl, record { old = old; new = document; there = there; becomes = is; next_is = refl })

edit_counts : (count : OrderedTree → ℕ) (state : State) (name path : List ℕ) (e : Edit) (old : CutTree) → get state.documents name ≡ Some old → refusal state (edit_command name path e) ≡ None
    → sum_after count state (edit_command name path e) + count (tree_of old) ≡ sum_of count state + count (tree_edit e path (tree_of old))
edit_counts count state name path made.Delete old there none = room_counted count state (Delete name path) none old there
edit_counts count state name path (made.Retext content) old there none = room_counted count state (Retext name path (said.Read content)) none old there
edit_counts count state name path (made.Insert node) old there none = room_counted count state (Insert name path (line.Read node)) none old there

edit_needs_room : (name path : List ℕ) (e : Edit) → may_need_room (edit_command name path e) ≡ true
edit_needs_room name path made.Delete = refl
edit_needs_room name path (made.Retext content) = refl
edit_needs_room name path (made.Insert node) = refl

pub refused_edit : (state : State) (name path : List ℕ) (e : Edit) (old : CutTree) (error : EditError) → get state.documents name ≡ Some old → CanBeMade e
    → edit_fault e path (state.settings).k (tree_of old) ≡ Some error → Step state (edit_command name path e) (reply.Refused (edit_reply path error)) state
refused_edit state name path e old error there can fault =
    refused_step state (edit_command name path e) (edit_reply path error) (edit_refusal state name path e old there can ∙ ap (option_map (edit_reply path)) fault)

free_edit : (state : State) (name path : List ℕ) (e : Edit) (old : CutTree) → get state.documents name ≡ Some old → CanBeMade e → edit_fault e path (state.settings).k (tree_of old) ≡ None
    → refusal state (edit_command name path e) ≡ None
free_edit state name path e old there can fault = edit_refusal state name path e old there can ∙ ap (option_map (edit_reply path)) fault

pub done_edit : (state : State) (name path : List ℕ) (e : Edit) (old document : CutTree) → get state.documents name ≡ Some old → CanBeMade e → edit_fault e path (state.settings).k (tree_of old) ≡ None
    → EditBecomes state.settings state.rules e path old document → Step state (edit_command name path e) reply.Done (with_document state name document)
done_edit state name path e old document there can fault is =
    done_step state (edit_command name path e) (with_document state name document) (free_edit state name path e old there can fault) (edit_effect state name path e old document there is)

pub full_edit : (state : State) (name path : List ℕ) (e : Edit) (old : CutTree) → get state.documents name ≡ Some old → CanBeMade e → edit_fault e path (state.settings).k (tree_of old) ≡ None
    → ((behind pages_behind : ℕ) → behind + document_size old ≡ all_nodes state + (1 + nodes (tree_edit e path (tree_of old)).below)
    → pages_behind + tree_pages (tree_of old) ≡ all_pages state + tree_pages (tree_edit e path (tree_of old)) → MayBeFull state behind pages_behind) → Step state (edit_command name path e) (reply.Refused Full) state
full_edit state name path e old there can fault full =
    let none = free_edit state name path e old there can fault in
    full_step state (edit_command name path e) none
    (record {
      needs = edit_needs_room name path e;
      full = full (nodes_after state (edit_command name path e)) (pages_after state (edit_command name path e)) (edit_counts (λ t. 1 + nodes t.below) state name path e old there none)
          (edit_counts tree_pages state name path e old there none);
      refused = (refl, refl);
    })

-- the pages that it may need for contents are no more than those of the document behind it take
pub contents_within : (state : State) (name path : List ℕ) (e : Edit) (old : CutTree) (layout : Layout) → get state.documents name ≡ Some old → CanBeMade e → edit_fault e path (state.settings).k (tree_of old) ≡ None
    → without_places layout ≡ old.below → near_pages (edit_kept e path layout) + edit_pages e ≤ tree_pages (tree_edit e path (tree_of old))
contents_within state name path made.Delete old layout there can fault same =
    let within = cut_within (tree_of old) layout (ap forest same) path fault in
    let few = near_few (nodes_off false path layout) in
    omega (arith, within, few)
contents_within state name path (made.Retext content) old layout there can fault same =
    let within = retext_within (tree_of old) layout (ap forest same) content path (state.settings).k fault in
    let few = near_few (nodes_off true path layout) in
    omega (arith, within, few)
contents_within state name path (made.Insert node) old layout there can fault same =
    let free = none_of state name old (insert_fault path (line.Read node)) there
    (first_of_two state name (insert_fault path (line.Read node)) (λ t. inserted_fault (state.settings).k path (line.Read node)) old there (free_edit state name path (made.Insert node) old there can fault)) in
    let within = put_within (tree_of old) layout (ap forest same) node path (unworded (insert_refusal node path (tree_of old)) (insert_named node path (tree_of old)) free) in
    let few = near_few (nodes_in layout) in
    omega (arith, within, few)

abbrev text_fault : State → List ℕ → TextBody → OrderedTree → Option ReplyError
text_fault state path text tree = option_or (retext_fault path text tree) (retexted_fault (state.settings).k path text tree)

pub absent_text : (state : State) (name path : List ℕ) (text : TextBody) → get state.documents name ≡ None → Step state (Retext name path text) (reply.Refused NoDocument) state
absent_text state name path text none = refused_step state (Retext name path text) NoDocument (at_nothing state name (text_fault state path text) none)

pub wrong_text : (state : State) (name path : List ℕ) (error : PyxError) (old : CutTree) → get state.documents name ≡ Some old → Step state (Retext name path (said.Wrong error)) (reply.Refused (Pyx error)) state
wrong_text state name path error old there = refused_step state (Retext name path (said.Wrong error)) (Pyx error) (at_document state name old (text_fault state path (said.Wrong error)) there)

abbrev line_fault_of : State → List ℕ → LineBody → OrderedTree → Option ReplyError
line_fault_of state path said tree = option_or (insert_fault path said tree) (inserted_fault (state.settings).k path said)

pub absent_line : (state : State) (name path : List ℕ) (said : LineBody) → get state.documents name ≡ None → Step state (Insert name path said) (reply.Refused NoDocument) state
absent_line state name path said none = refused_step state (Insert name path said) NoDocument (at_nothing state name (line_fault_of state path said) none)

pub wrong_line : (state : State) (name path : List ℕ) (error : PyxError) (old : CutTree) → get state.documents name ≡ Some old → Step state (Insert name path (line.Wrong error)) (reply.Refused (Pyx error)) state
wrong_line state name path error old there = refused_step state (Insert name path (line.Wrong error)) (Pyx error) (at_document state name old (line_fault_of state path (line.Wrong error)) there)

pub absent_cut : (state : State) (name path : List ℕ) → get state.documents name ≡ None → Step state (Delete name path) (reply.Refused NoDocument) state
absent_cut state name path none = refused_step state (Delete name path) NoDocument (at_nothing state name (delete_fault path) none)

pub absent_edit : (state : State) (name path : List ℕ) (e : Edit) → get state.documents name ≡ None → Step state (edit_command name path e) (reply.Refused NoDocument) state
absent_edit state name path made.Delete none = absent_cut state name path none
absent_edit state name path (made.Retext content) none = absent_text state name path (said.Read content) none
absent_edit state name path (made.Insert node) none = absent_line state name path (line.Read node) none

-- ---- an edit as it is said

pub absent_body : (state : State) (name path : List ℕ) (b : EditBody) → get state.documents name ≡ None → Step state (said_command name path b) (reply.Refused NoDocument) state
absent_body state name path body.Delete none = absent_cut state name path none
absent_body state name path (body.Retext text) none = absent_text state name path text none
absent_body state name path (body.Insert said) none = absent_line state name path said none

pub wrong_body : (state : State) (name path : List ℕ) (b : EditBody) (error : PyxError) (old : CutTree) → said_edit b ≡ Err error → get state.documents name ≡ Some old → Step state (said_command name path b) (reply.Refused (Pyx error)) state
wrong_body state name path body.Delete error old is there = absurd (cc)
wrong_body state name path (body.Retext (said.Read content)) error old is there = absurd (cc)
wrong_body state name path (body.Retext (said.Wrong e)) error old is there =
    let same : e ≡ error = cc in
    subst (λ (x : PyxError). Step state (Retext name path (said.Wrong e)) (reply.Refused (Pyx x)) state) same (wrong_text state name path e old there)
wrong_body state name path (body.Insert (line.Read node)) error old is there = absurd (cc)
wrong_body state name path (body.Insert (line.Wrong e)) error old is there =
    let same : e ≡ error = cc in
    subst (λ (x : PyxError). Step state (Insert name path (line.Wrong e)) (reply.Refused (Pyx x)) state) same (wrong_line state name path e old there)

-- it is the command of the edit that it says
pub said_same : (name path : List ℕ) (b : EditBody) (e : Edit) → said_edit b ≡ Ok e → said_command name path b ≡ edit_command name path e
said_same name path body.Delete e is = let same : made.Delete ≡ e = cc in ap (edit_command name path) same
said_same name path (body.Retext (said.Read content)) e is = let same : made.Retext content ≡ e = cc in ap (edit_command name path) same
said_same name path (body.Retext (said.Wrong error)) e is = absurd (cc)
said_same name path (body.Insert (line.Read node)) e is = let same : made.Insert node ≡ e = cc in ap (edit_command name path) same
said_same name path (body.Insert (line.Wrong error)) e is = absurd (cc)

pub said_can : (name path : List ℕ) (b : EditBody) (e : Edit) → said_edit b ≡ Ok e → CanCome (said_command name path b) → CanBeMade e
said_can name path body.Delete e is come = let same : made.Delete ≡ e = cc in subst CanBeMade same tt
said_can name path (body.Retext (said.Read content)) e is come = let same : made.Retext content ≡ e = cc in subst CanBeMade same come
said_can name path (body.Retext (said.Wrong error)) e is come = absurd (cc)
said_can name path (body.Insert (line.Read node)) e is come = let same : made.Insert node ≡ e = cc in subst CanBeMade same come
said_can name path (body.Insert (line.Wrong error)) e is come = absurd (cc)

pub said_no_checkpoint : (name path : List ℕ) (b : EditBody) → said_command name path b ≢ Checkpoint
said_no_checkpoint name path body.Delete is = cc
said_no_checkpoint name path (body.Retext text) is = cc
said_no_checkpoint name path (body.Insert said) is = cc

-- ---- the state with the document edited

-- what an edit leaves is off its path
left_off : (name path : List ℕ) (e : Edit) (s : StoredDocument) (p : RecordPlace) → IsLeftBy (edit_command name path e) s p → IsOffPath name (stays_below e) path s p
left_off name path made.Delete s p left = left
left_off name path (made.Retext content) s p left = left
left_off name path (made.Insert node) s p left = left

-- of the contents of a document these are kept, some went, and some came
contents_change : (old new kept lost brought : List ℕ) → IsPermutation (kept ++ lost) old → IsPermutation new (kept ++ brought) → ContentsChange old new lost brought
contents_change old new kept lost brought went came = record {
  from = λ first among. elim (Contains-append_cases kept brought first (Contains-permutation new (kept ++ brought) first came among)) [
    | inl stays ↦ inl (Contains-permutation (kept ++ lost) old first went (Contains-append_left kept lost first stays))
    | inr fresh ↦ inr fresh
  ];
  went = λ first among. elim (Contains-append_cases kept lost first (Contains-permutation old (kept ++ lost) first (IsPermutation-sym (kept ++ lost) old went) among)) [
    | inl stays ↦ inl (Contains-permutation (kept ++ brought) new first (IsPermutation-sym new (kept ++ brought) came) (Contains-append_left kept brought first stays))
    | inr gone ↦ inr gone
  ];
  came = λ first among. Contains-permutation (kept ++ brought) new first (IsPermutation-sym new (kept ++ brought) came) (Contains-append_right kept brought first among);
}

-- The records are those of a state with another document in the place of one, whose catalog is not set yet.
record IsRewritten (saved mid : Held) (state : State) (contents : Contents) (name : List ℕ) (new : DocEntry) (document : CutTree) : Type 0 where
  pub stored : List StoredDocument
  pub holds : HoldsDocuments mid stored
  pub catalog : mid.catalog ≡ saved.catalog
  pub names : entries (insert contents.documents name new) ≡ map (λ (s : StoredDocument). (s.name, s.entry)) stored
  pub documents : entries (insert state.documents name document) ≡ map (λ (s : StoredDocument). (s.name, s.document)) stored
  pub settings : mid.settings ≡ saved.settings

-- the others are there still where one became another one
others_among : (name : List ℕ) (before : List StoredDocument) (old now : StoredDocument) (after : List StoredDocument) (s : StoredDocument) → old.name ≡ name → Contains (before ++ old ∷ after) s → s.name ≢ name → Contains (before ++ now ∷ after) s
others_among name before old now after s named there other = elim (Contains-append_cases before (old ∷ after) s there) [
  | inl early ↦ Contains-append_left before (now ∷ after) s early
  | inr later ↦ elim (Contains-append_cases (old ∷ []) after s later) [
    | inl one ↦ absurd (other (ap (λ (x : StoredDocument). x.name) (sym (alone_there old s one)) ∙ named))
    | inr late ↦ Contains-append_right before (now ∷ after) s (Contains-append_right (now ∷ []) after s late)
  ]
]

module _ {D : Type 0} (d : Ghosts D) (s0 : Store) (x0 : D) {saved : Held} (state : State) (at : IsNow d s0 x0 saved state) (name : List ℕ) (entry : DocEntry) (there : get (s0.catalog).documents name ≡ Some entry) where
  -- the document that is edited
  abbrev pub old : StoredDocument
  old = (the_one d s0 x0 state at name entry there).0

  moved_alone : (mid : Held) (now : StoredDocument) (lost brought : List ℕ) (needs : ℕ) → MovesRecords (record_places old) (record_places now) lost brought needs at.held mid
      → MovesRecords (all_places (old ∷ [])) (all_places (now ∷ [])) lost brought needs at.held mid
  moved_alone mid now lost brought needs moves =
      subst (λ (ps : List RecordPlace). MovesRecords ps (record_places now ++ []) lost brought needs at.held mid) (sym (append-nil (record_places old)))
      (subst (λ (ps : List RecordPlace). MovesRecords (record_places old) ps lost brought needs at.held mid) (sym (append-nil (record_places now))) moves)

  -- its records and contents became those of another one
  changed_between : (mid : Held) (now : StoredDocument) (lost brought : List ℕ) (needs : ℕ) → MovesRecords (record_places old) (record_places now) lost brought needs at.held mid → IsTidy mid
      → AreOnce (contents_of now.layout) → ContentsChange (contents_of old.layout) (contents_of now.layout) lost brought → ((pieces : PieceMap mid) → IsStoredIn (held_by pieces) now)
      → HoldsDocuments mid ((place d s0 x0 state at name entry there).before ++ now ∷ (place d s0 x0 state at name entry there).after)
  changed_between mid now lost brought needs moves tidy once change stored =
      let among = place d s0 x0 state at name entry there in
      documents_change lost brought needs at.held mid among.before (old ∷ []) (now ∷ []) among.after (holds_between d s0 x0 state at name entry there) (moved_alone mid now lost brought needs moves)
      tidy (subst ArePlacedOnce (sym (append-nil (record_places now))) ((stored (piece_map mid)).laid).once)
      (subst (λ (ls : List ℕ). AreOnce ls) (sym (append-nil (contents_of now.layout))) once)
      (subst (λ (ls : List ℕ). ContentsChange ls (contents_of now.layout ++ []) lost brought) (sym (append-nil (contents_of old.layout)))
      (subst (λ (ls : List ℕ). ContentsChange (contents_of old.layout) ls lost brought) (sym (append-nil (contents_of now.layout))) change))
      (λ pieces. All-cons (IsStoredIn (held_by pieces)) now [] (stored pieces) (All-nil (IsStoredIn (held_by pieces))))

  module _ (rules : List Rule) (e : Edit) (path : List ℕ) where
    -- what becomes of it
    abbrev Edited : (new : DocEntry) (mid : Held) → Type 0
    Edited new mid =
        IsEdited (EditBecomes (at.held).settings rules e path old.document) (edit_kept e path) (edit_pages e) (document_size old.document) (document_places old.entry old.document old.layout) (places_off (stays_below e) path old.layout)
        old.layout new at.held mid

    edited_one : (r1 : Records) (x1 : D) (new : DocEntry) → MakesEdit d s0.records r1 x0 x1 rules e path entry new → (mid : Held) × StandsFor d r1 x1 saved mid × IsTidy mid × Edited new mid
    edited_one r1 x1 new makes =
        let stored = stored_one d s0 x0 state at name entry there in
        subst (λ (x : DocEntry). MakesEdit d s0.records r1 x0 x1 rules e path x new) (sym (the_one d s0 x0 state at name entry there).2) makes saved at.held (holds_between d s0 x0 state at name entry there).pieces
        old.document old.layout at.stands (holds_between d s0 x0 state at name entry there).tidy stored.laid stored.counted (own_contents d s0 x0 state at name entry there)

    rewritten : (r1 : Records) (x1 : D) (new : DocEntry) → MakesEdit d s0.records r1 x0 x1 rules e path entry new
        → (mid : Held) × StandsFor d r1 x1 saved mid × (document : CutTree) × EditBecomes (at.held).settings rules e path old.document document × (m : IsRewritten at.held mid state s0.catalog name new document)
        × RecordsStay (IsOffPath name (stays_below e) path) (at.state_is).stored at.held mid × OthersStay name (at.state_is).stored m.stored
    rewritten r1 x1 new makes =
        let mid = edited_one r1 x1 new makes in
        let among = place d s0 x0 state at name entry there in
        let edited : Edited new mid.0 = mid.3 in
        let now : StoredDocument = record { name = name; entry = new; document = edited.document; layout = edited.layout } in
        let needs = edited_needs (edit_kept e path) (edit_pages e) (document_size old.document) (document_size edited.document) old.layout in (
          mid.0,
          mid.1,
          edited.document,
          edited.becomes,
          record {
            stored = among.before ++ now ∷ among.after;
            holds = changed_between mid.0 now edited.lost edited.brought needs edited.moves mid.2 edited.contents_once
                (contents_change (contents_of old.layout) (contents_of edited.layout) (lists_of (edit_kept e path old.layout)) edited.lost edited.brought edited.contents_went edited.contents_came)
                (λ pieces. record { laid = edited.laid pieces; counted = edited.counted });
            settings = (edited.moves).settings;
            catalog = (edited.moves).catalog;
            names = replaced_between (λ (s : StoredDocument). s.name) (λ (s : StoredDocument). s.entry) (s0.catalog).documents among.before old now among.after (sym among.named)
                (entries_at d s0 x0 state at name entry there ∙ ap (map (λ (s : StoredDocument). (s.name, s.entry))) among.are);
            documents = replaced_between (λ (s : StoredDocument). s.name) (λ (s : StoredDocument). s.document) state.documents among.before old now among.after (sym among.named)
                ((at.state_is).documents ∙ ap (map (λ (s : StoredDocument). (s.name, s.document))) among.are);
          },
          subst (λ (l : List StoredDocument). RecordsStay (IsOffPath name (stays_below e) path) l at.held mid.0) (sym among.are)
              (change_leaves (IsOffPath name (stays_below e) path) edited.lost edited.brought needs at.held mid.0 among.before old (now ∷ []) among.after
              (holds_between d s0 x0 state at name entry there) (moved_alone mid.0 now edited.lost edited.brought needs edited.moves) (off_within name (stays_below e) path)
              (λ p left. elim left [
                | inl of ↦ record { itself = edited.records_stay p of.1; list = λ count chain names. edited.lists_stay p count chain of.1 names }
                | inr of ↦ absurd (of.0 among.named)
              ])),
          λ s there other. others_among name among.before old now among.after s among.named (subst (λ (l : List StoredDocument). Contains l s) among.are there) other,
        )

  -- the same settings and rules are those of the state
  settings_at : settings_of s0.records ≡ state.settings
  settings_at = sym (((at.stands).holds).behind).settings ∙ (at.state_is).settings

  rules_at : (s0.catalog).rules ≡ state.rules
  rules_at = ap (λ (c : Contents). c.rules) (sym (contents_at d s0 x0 state at name entry there)) ∙ (at.state_is).rules

  fault_at : (path : List ℕ) (e : Edit) (o : Option EditError) → edit_fault e path (settings_of s0.records).k (tree_of old.document) ≡ o → edit_fault e path (state.settings).k (tree_of old.document) ≡ o
  fault_at path e o is = subst (λ (s : Settings). edit_fault e path s.k (tree_of old.document) ≡ o) settings_at is

  -- the edited document is entered
  pub edit_prepared : (path : List ℕ) (e : Edit) (can : CanBeMade e)
      → OfEntry d s0.records x0 entry (λ now document layout. edit_fault e path (settings_of s0.records).k (tree_of document) ≡ None)
      → (r1 : Records) (s2 : Store) (x1 x2 : D) (new : DocEntry) → MakesEdit d s0.records r1 x0 x1 (s0.catalog).rules e path entry new
      → (s2.catalog).documents ≡ insert (s0.catalog).documents name new → (s2.catalog).rules ≡ (s0.catalog).rules
      → (All HasLabels (s0.catalog).rules → IsCatalog (catalog_bytes s2.catalog) s2.catalog) → ComesTo d r1 s2.records x1 x2 (λ was now. SavesEntry s0.catalog s2.catalog was now)
      → (made : PreparesNow d saved state (edit_command name path e) reply.Done s2 x2) × RecordsStay (IsLeftBy (edit_command name path e)) (at.state_is).stored at.held (made.now).held × OthersStay name (at.state_is).stored ((made.now).state_is).stored
  edit_prepared path e can free r1 s2 x1 x2 new comes documents rules form saves =
      let mid = rewritten (s0.catalog).rules e path r1 x1 new comes in
      let m = mid.4 in
      let came = saves saved mid.0 mid.1 in
      let was : (mid.0).catalog.bytes ≡ catalog_bytes s0.catalog = ap (λ (c : OnPages). c.bytes) m.catalog ∙ (at.catalog).spelled in
      let now : (next : Held) × StandsFor d s2.records x2 saved next × SetsCatalog (catalog_bytes s2.catalog) mid.0 next =
      (came.0, came.1, subst (λ (b : List ℕ). SetsCatalog b mid.0 came.0) ((came.2).saves was) (came.2).sets) in
      let formed = form (at.catalog).labels in
      let becomes : EditBecomes state.settings state.rules e path old.document mid.2 =
      subst (λ (s : Settings). EditBecomes s state.rules e path old.document mid.2) (at.state_is).settings (subst (λ (rs : List Rule). EditBecomes (at.held).settings rs e path old.document mid.2) rules_at mid.3) in (
        record {
          next = with_document state name mid.2;
          step = done_edit state name path e old.document mid.2 (shown_there d s0 x0 state at name entry there) can
              (fault_at path e None (told_entry d s0 x0 state at name entry there (λ now document layout. edit_fault e path (settings_of s0.records).k (tree_of document) ≡ None) free)) becomes;
          now = record {
            held = now.0;
            stands = now.1;
            state_is = record {
              settings = (now.2).settings ∙ m.settings ∙ (at.state_is).settings;
              stored = m.stored;
              holds = catalog_comes (catalog_bytes s2.catalog) mid.0 now.0 m.stored m.holds now.2;
              contents = s2.catalog;
              catalog = subst (λ (bytes : List ℕ). IsCatalog bytes s2.catalog) (sym (now.2).catalog) formed;
              names = ap (λ (es : Entries). entries es) documents ∙ m.names;
              documents = m.documents;
              rules = rules ∙ rules_at;
            };
            catalog = subst (λ (bytes : List ℕ). IsCatalog bytes s2.catalog) (sym (now.2).catalog) formed;
          };
        },
        λ s p there left. catalog_leaves (IsOffPath name (stays_below e) path) (catalog_bytes s2.catalog) at.held mid.0 now.0 (at.state_is).stored now.2 mid.5 s p there (left_off name path e s p left),
        mid.6,
      )

  -- the catalog, which is as long as it was, needs no page
  pub entry_fits : (r1 : Records) (x1 : D) (new : DocEntry) (rules : List Rule) (e : Edit) (path : List ℕ) → MakesEdit d s0.records r1 x0 x1 rules e path entry new
      → ((saved now : Held) → StandsFor d r1 x1 saved now → now.free < catalog_needs (catalog_bytes (record { documents = insert (s0.catalog).documents name new; rules = (s0.catalog).rules })) now) → ⊥
  entry_fits r1 x1 new rules e path comes lacks =
      let mid = rewritten rules e path r1 x1 new comes in
      let same = length_there (s0.catalog).documents (s0.catalog).rules name new (ap is_some there) in
      let was : length (mid.0).catalog.bytes ≡ length (catalog_bytes s0.catalog) = ap (λ (c : OnPages). length c.bytes) (mid.4).catalog ∙ ap (λ (b : List ℕ). length b) (at.catalog).spelled in
      none_needed mid.0 (catalog_bytes (record { documents = insert (s0.catalog).documents name new; rules = (s0.catalog).rules })) (omega (arith, same, was)) (lacks saved mid.0 mid.1)

  -- what is counted of it is among what is counted of all
  among_all : (count : CutTree → ℕ) → count old.document ≤ sum (map count (values state.documents))
  among_all count =
      let among = place d s0 x0 state at name entry there in
      let between = sum_between (λ (s : StoredDocument). count s.document) among.before old among.after in
      let listed = ap (λ (l : List StoredDocument). sum (map (λ (s : StoredDocument). count s.document) l)) among.are in
      let total = sum_stored count state (at.state_is).stored (at.state_is).documents in
      omega (arith, between, listed, total)

  -- no more pages were free than an edit may need, so there may be no room
  pub may_fill : (behind pages_behind new put has : ℕ) → behind + document_size old.document ≡ all_nodes state + new → pages_behind + tree_pages (tree_of old.document) ≡ all_pages state + has → put ≤ has
      → (at.held).free < document_size old.document + 2 * new + put → MayBeFull state behind pages_behind
  may_fill behind pages_behind new put has counted told within few =
      let state_is = at.state_is in
      let free = documents_leave_free (current (s0.records).wal ((at.stands).keeps).image) at.held state_is.stored ((s0.records).head, (at.stands).holds) state_is.holds in
      let all = free.few_records in
      let chains = free.few_chains in
      let listed = free.few_contents in
      let whole : ((at.held).settings).limit ≤ (at.held).free + (1 + free.records + free.chains + free.contents + chain_count (length (at.held).catalog.bytes)) = free.free in
      let two = free.few_documents in
      let total = nodes_stored state state_is.stored state_is.documents in
      let long = pages_stored state state_is.stored state_is.documents in
      let limit : ((at.held).settings).limit ≡ (state.settings).limit = ap (λ (t : Settings). t.limit) state_is.settings in
      let short = most_bytes (at.held).catalog.bytes state_is.contents state_is.catalog in
      let number : length (entries (state_is.contents).documents) ≡ length state_is.stored = ap length state_is.names ∙ length-map state_is.stored (λ (s : StoredDocument). (s.name, s.entry)) in
      let rules : length (state_is.contents).rules ≡ length state.rules = ap length state_is.rules in
      edit_room (all_nodes state) behind (document_size old.document) new (all_pages state) pages_behind (tree_pages (tree_of old.document)) has put free.records free.chains free.contents (length state_is.stored)
      (length (at.held).catalog.bytes) (length state.rules) (at.held).free (state.settings).limit (omega (arith, whole, limit)) (omega (arith, all, total)) chains (omega (arith, listed, long)) (omega (arith, two, total))
      (omega (arith, short, number, rules)) (among_all document_size) counted (among_all (λ (document : CutTree). tree_pages (tree_of document))) told within few

-- ---- why an edit wasn't prepared

module _ {D : Type 0} (d : Ghosts D) (s0 s1 : Store) (x0 x1 : D) (name : List ℕ) (entry : DocEntry) (path : List ℕ) (e : Edit) (runs : has_ended s0.records ≡ false) (there : get (s0.catalog).documents name ≡ Some entry) (can : CanBeMade e) where
  module _ (catalog : s1.catalog ≡ s0.catalog) where
    by_fault : (error : EditError) → (is_of_edit e error ≡ true) × LeavesLastCommit d s0.records s1.records x0 x1 × IsAtFault d (edit_fault e path (settings_of s0.records).k) entry error s0.records x0
        → IsStoreLeft d s0 s1 x0 x1 × StepsRefused d (edit_command name path e) (edit_reply path error) s0 x0
    by_fault error refused = (
      record { runs = (refused.1).0; saved = (refused.1).1; catalog = catalog },
      λ saved state at.
          refused_edit state name path e (old d s0 x0 state at name entry there).document error (shown_there d s0 x0 state at name entry there) can
          (fault_at d s0 x0 state at name entry there path e (Some error) (told_entry d s0 x0 state at name entry there (λ now document layout. edit_fault e path (settings_of s0.records).k (tree_of document) ≡ Some error) refused.2)),
    )

    pub edit_unmade : (error : EditError) → NotMade d e path (settings_of s0.records).k entry error s0.records s1.records x0 x1 → EditNotPrepared d (edit_command name path e) path error s0 s1 x0 x1
    edit_unmade edit.Disk refused = (refused.0, ((refused.1).before, (refused.1).after))
    edit_unmade edit.Full refused = (
      record { runs = refused.runs; saved = refused.keeps; catalog = catalog },
      λ saved state at.
          let t = told_entry d s0 x0 state at name entry there (λ now document layout. (edit_fault e path (settings_of s0.records).k (tree_of document) ≡ None)
          × (now.free < edit_needs (tree_edit e path) (edit_kept e path) (edit_pages e) document layout)) refused.few in
          let s = old d s0 x0 state at name entry there in
          let shown = shown_there d s0 x0 state at name entry there in
          let fault = fault_at d s0 x0 state at name entry there path e None t.0 in
          full_edit state name path e s.document shown can fault
          (λ behind pages_behind counted told. may_fill d s0 x0 state at name entry there behind pages_behind (1 + nodes (tree_edit e path (tree_of s.document)).below) (near_pages (edit_kept e path s.layout) + edit_pages e)
          (tree_pages (tree_edit e path (tree_of s.document))) counted told (contents_within state name path e s.document s.layout shown can fault ((stored_one d s0 x0 state at name entry there).laid).same) t.1),
    )
    edit_unmade (edit.Damaged page) refused = (((refused.0).before, (refused.0).after), λ saved state at. none_entry d s0 x0 state at name entry there refused.1)
    edit_unmade edit.Ended refused = absurd (no_end s0.records runs refused.0)
    edit_unmade edit.Memory refused = record { runs = refused.0; saved = refused.1; catalog = catalog }
    edit_unmade edit.NoNode refused = by_fault edit.NoNode refused
    edit_unmade edit.BadPlace refused = by_fault edit.BadPlace refused
    edit_unmade edit.Twice refused = by_fault edit.Twice refused
    edit_unmade edit.NoContent refused = by_fault edit.NoContent refused
    edit_unmade edit.TooLong refused = by_fault edit.TooLong refused
    edit_unmade edit.TooDeep refused = by_fault edit.TooDeep refused
    edit_unmade edit.TooMany refused = by_fault edit.TooMany refused
    edit_unmade (edit.TooHeavy weight) refused = by_fault (edit.TooHeavy weight) refused

  -- ... or the catalog with the new entry not saved
  module _ (s2 : Store) (x2 : D) (new : DocEntry) (rules : List Rule) (along : List ℕ) (still : IsStill d x0 x1) (goes : RunsOn s0.records s1.records) (keeps : KeepsSaved d s0.records s1.records x0 x1)
      (comes : MakesEdit d s0.records s1.records x0 x1 rules e along entry new) (same : s2.catalog ≡ s0.catalog) where
    left_unsaved : RunsOn s1.records s2.records → KeepsSaved d s1.records s2.records x1 x2 → IsStoreLeft d s0 s2 x0 x2
    left_unsaved runs saved = record {
      runs = runs_then {r0 = s0.records} {r1 = s1.records} {r2 = s2.records} goes runs;
      saved = saved_then {d = d} {r0 = s0.records} {r1 = s1.records} {r2 = s2.records} {x0 = x0} {x1 = x1} {x2 = x2} keeps saved;
      catalog = same;
    }

    pub entry_unsaved : (error : StoreError) → NotStored d (λ was. catalog_needs (catalog_bytes (record { documents = insert (s0.catalog).documents name new; rules = (s0.catalog).rules })) was) (λ was. ⊥) 0 error s1.records s2.records x1 x2
        → IsSomeAnd (edit_error error) (λ told. EditNotPrepared d (edit_command name path e) path told s0 s2 x0 x2)
    entry_unsaved below.Disk refused = (later_rose (d.faults x0) (d.faults x1) (d.faults x2) still.faults_later refused.0, (goes.before, (refused.1).after))
    entry_unsaved below.Full refused = (left_unsaved refused.runs refused.keeps, λ saved state at. absurd (entry_fits d s0 x0 state at name entry there s1.records x1 new rules e along comes refused.few))
    entry_unsaved (below.Damaged page) refused = (
      (goes.before, (refused.ends).after),
      λ saved state at. let mid = rewritten d s0 x0 state at name entry there rules e along s1.records x1 new comes in refused.lacks saved mid.0 mid.1,
    )
    entry_unsaved below.Memory refused = left_unsaved refused.0 refused.1
    entry_unsaved below.Ended refused = absurd (no_end s1.records goes.after refused.0)
    entry_unsaved below.Exists refused = absurd refused
    entry_unsaved below.NotAStore refused = absurd refused
