-- What looks at a store at a state are answered.
use Rattle.std.proofs.Common.{◌≡◌, ℕ, List, refl, sym, ap, ◌∙◌, inl}
use Rattle.std.specs.Prelude.{Some, None, map}
use Rattle.std.specs.Option.{option_map_or}
use Rattle.std.specs.FinMap.{get, entries}
use Rattle.nx_host.specs.declared.disk.Disk.{Ghosts}
use Rattle.nx_tree.specs.Forest.{OrderedTree}
use Rattle.nx_tree.specs.Edit.{at as at_path}
use Rattle.nx_tree.specs.declared.node.Node.{Node}
use Rattle.nx_cuts.specs.Cut.{CutTree}
use Rattle.nx_hold.specs.declared.entry.DocEntry.{DocEntry}
use Rattle.nx_hold.specs.Changes.{place_of}
use Rattle.nx_nav.specs.Refusals.{OfEach, OfEachWith, HoldsNoDocument, HoldsNoneWith}
use Rattle.nx_nav.specs.Shows.{ShowsNode}
use Rattle.nx_nav.specs.declared.finding.Shown.{Shown}
use Rattle.nx_script.specs.declared.command.Command.TheVariants.{Names, Rules}
use Rattle.nx_script.specs.declared.reply.Reply.{Reply}
use Rattle.nx_script.specs.declared.reply.Reply.TheVariants as reply
use Rattle.nx_script.specs.declared.reply.ReplyError.TheVariants.{NoDocument, NoNode}
use Rattle.nx_catalog.specs.Catalog.{Contents}
use Rattle.nx_catalog.proofs.CatalogLemmas.{one_contents}
use Rattle.nx_state.specs.State.{State}
use Rattle.nx_engine.specs.Step.{shown}
use Rattle.nx_steps.specs.Answers.{by_stored_document}
use Rattle.nx_steps.specs.Step.{Step}
use Rattle.nx_store.specs.Told.{line_of}
use Rattle.nx_store.specs.Store.{IsAt, IsNowhere}
use Rattle.nx_store.specs.declared.store.Store.{Store}
use Rattle.nx_store.proofs.FoundLemmas.{at_none, at_found, at_lines}

by_found : (state : State) (name : List ℕ) (answer : CutTree → Reply) (document : CutTree) → get state.documents name ≡ Some document → answer document ≡ by_stored_document state name answer
by_found state name answer document is = ap (λ o. option_map_or answer o (reply.Refused NoDocument)) (sym is)

by_absent : (state : State) (name : List ℕ) (answer : CutTree → Reply) → get state.documents name ≡ None → reply.Refused NoDocument ≡ by_stored_document state name answer
by_absent state name answer none = ap (λ o. option_map_or answer o (reply.Refused NoDocument)) (sym none)

module _ {D : Type 0} {d : Ghosts D} where
  -- where the catalog lacks the name, there is no document
  pub absent_answer : {store : Store} {x : D} {state : State} (name : List ℕ) (answer : CutTree → Reply) → get (store.catalog).documents name ≡ None → IsAt d store x state
      → reply.Refused NoDocument ≡ by_stored_document state name answer
  absent_answer {state = state} name answer none at = by_absent state name answer (at_none name at none)

  -- what is said of each document that the records hold is said of the one of that name
  pub found_answer : {store : Store} {x : D} {state : State} (name : List ℕ) (entry : DocEntry) (answer : CutTree → Reply) (r : Reply) → get (store.catalog).documents name ≡ Some entry
      → OfEach d store.records x (place_of entry.root) (λ document. r ≡ answer document) → IsAt d store x state → r ≡ by_stored_document state name answer
  found_answer {state = state} name entry answer r is each at =
      let found = at_found name entry at is in each found.document found.has ∙ by_found state name answer found.document found.there

  pub found_answer_with : {store : Store} {x : D} {state : State} (name : List ℕ) (entry : DocEntry) (answer : CutTree → Reply) (r : Reply) → get (store.catalog).documents name ≡ Some entry
      → OfEachWith d store.records x (place_of entry.root) entry.nodes (λ document. r ≡ answer document) → IsAt d store x state → r ≡ by_stored_document state name answer
  found_answer_with {state = state} name entry answer r is each at =
      let found = at_found name entry at is in each found.document found.has (sym found.counted) ∙ by_found state name answer found.document found.there

  -- a store whose catalog names a document that isn't held is at no state
  pub lacks_nowhere : {store : Store} {x : D} (name : List ℕ) (entry : DocEntry) → get (store.catalog).documents name ≡ Some entry → HoldsNoDocument d store.records x (place_of entry.root) → IsNowhere d store x
  lacks_nowhere name entry is none state at = let found = at_found name entry at is in none found.document found.has

  pub lacks_nowhere_with : {store : Store} {x : D} (name : List ℕ) (entry : DocEntry) → get (store.catalog).documents name ≡ Some entry
      → HoldsNoneWith d store.records x (place_of entry.root) entry.nodes → IsNowhere d store x
  lacks_nowhere_with name entry is none state at = let found = at_found name entry at is in none found.document found.has (sym found.counted)

  -- the lines of the catalog are the answer to `names`
  pub names_answer : {store : Store} {x : D} {state : State} (r : Reply) → r ≡ reply.Names (map line_of (entries (store.catalog).documents)) → IsAt d store x state → Step state Names r state
  names_answer r is at = inl (is ∙ ap reply.Names (at_lines at), refl)

module _ {D : Type 0} {d : Ghosts D} where
  -- the rules of the catalog are the answer to `rules`
  pub rules_answer : {store : Store} {x : D} {state : State} (r : Reply) → r ≡ reply.Rules (store.catalog).rules → IsAt d store x state → Step state Rules r state
  rules_answer {store} r is at =
      let same = one_contents (at.held).catalog.bytes (at.state_is).contents store.catalog (at.state_is).catalog at.catalog in
      inl (is ∙ ap (λ (c : Contents). reply.Rules c.rules) (sym same) ∙ ap reply.Rules (at.state_is).rules, refl)

-- the node that is shown is the answer to `get`
pub shown_answer : (tree : OrderedTree) (path : List ℕ) (found : Shown) → ShowsNode tree path found → reply.Shown found.node found.children ≡ option_map_or shown (at_path tree path) (reply.Refused NoNode)
shown_answer tree path found shows =
    ap (λ (n : Node). reply.Shown n found.children) shows.2 ∙ ap (reply.Shown (shows.0).node) shows.3 ∙ ap (λ o. option_map_or shown o (reply.Refused NoNode)) (sym shows.1)

pub nowhere_answer : (tree : OrderedTree) (path : List ℕ) → at_path tree path ≡ None → reply.Refused NoNode ≡ option_map_or shown (at_path tree path) (reply.Refused NoNode)
nowhere_answer tree path none = ap (λ o. option_map_or shown o (reply.Refused NoNode)) (sym none)
