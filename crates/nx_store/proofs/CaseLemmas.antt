-- Steps by cases of their commands: what is answered, and what a load leaves.
use Rattle.std.proofs.Common.{◌≡◌, ◌⊎◌, ◌↔◌, ℕ, ◌+◌, Bool, true, false, List, refl, sym, subst, ◌∙◌, Option, None, Some, inl, inr, if◌then◌else◌}
use Rattle.std.specs.Prelude.{MatchOption}
use Rattle.std.specs.Bool.{MatchBool}
use Rattle.std.specs.Option.{option_map_or, is_some}
use Rattle.std.specs.FinMap.{get, contains_key}
use Rattle.std.proofs.lemmas.Bool.{false≢true}
use Rattle.nx_tree.specs.Forest.{OrderedTree, nodes}
use Rattle.nx_tree.specs.Edit.{at}
use Rattle.nx_pyx.specs.Text.{text}
use Rattle.nx_cuts.specs.Cut.{CutTree, tree_of}
use Rattle.nx_script.specs.declared.command.LoadBody.{LoadBody}
use Rattle.nx_script.specs.declared.command.LoadBody.TheVariants as load
use Rattle.nx_script.specs.declared.command.Command.{Command}
use Rattle.nx_script.specs.declared.command.Command.TheVariants.{Load, Export, Get, Layout}
use Rattle.nx_script.specs.declared.reply.Reply.{Reply}
use Rattle.nx_script.specs.declared.reply.Reply.TheVariants as reply
use Rattle.nx_script.specs.declared.reply.ReplyError.{ReplyError}
use Rattle.nx_script.specs.declared.reply.ReplyError.TheVariants.{NoDocument, Exists, Pyx, NoNode, Full}
use Rattle.nx_engine.specs.Step.{shown}
use Rattle.nx_hold.specs.Contents.{tree_pages}
use Rattle.nx_state.specs.State.{State, all_nodes, all_pages}
use Rattle.nx_steps.specs.Answers.{Answers, Refuses, by_stored_document, laid, Loads, MayBeFull, heavy_fault}
use Rattle.nx_steps.specs.Refusal.{load_fault, node_fault}
use Rattle.nx_steps.specs.Step.{nodes_after, pages_after, Effect, FindsNoRoom, may_change, Step}
use Rattle.nx_steps.proofs.CountLemmas.{load_sum}
use Rattle.nx_steps.proofs.RunLemmas.{others_stay}
use Rattle.nx_store.specs.Loading.{MayNotFit}

-- the lines of a document under a name that is new: their fault, a node that is too heavy, or a load, which may find no room
abbrev pub BodyStep : State → List ℕ → LoadBody → Reply → State → Type 0
BodyStep state name (load.Wrong error) r next = Refuses state (Pyx error) r next
BodyStep state name (load.Read tree) r next =
    MatchOption (heavy_fault (state.settings).k tree)
    (Loads state name tree r next ⊎ (MayNotFit state tree × Refuses state Full r next))
    (λ error. Refuses state error r next)

-- an answer that needs no room
roomless : (state : State) (command : Command) (r : Reply) (next : State) (A : Type 0) → (FindsNoRoom state command r next → ⊥) → A ↔ (A ⊎ FindsNoRoom state command r next)
roomless state command r next A never = (λ a. inl a, λ s. elim s [ inl a ↦ a | inr f ↦ absurd (never f) ])

-- a question about the document of a name, where there may be none
document_asked : (state : State) (command : Command) (r : Reply) (next : State) (fault : OrderedTree → Option ReplyError) (answer_of : CutTree → Reply) (o : Option CutTree) → (FindsNoRoom state command r next → ⊥)
    → ((document : CutTree) (error : ReplyError) → fault (tree_of document) ≡ Some error → answer_of document ≡ reply.Refused error)
    → Answers state (option_map_or answer_of o (reply.Refused NoDocument)) r next
    ↔ MatchOption (option_map_or (λ (document : CutTree). fault (tree_of document)) o (Some NoDocument)) (Answers state (option_map_or answer_of o (reply.Refused NoDocument)) r next ⊎ FindsNoRoom state command r next)
    (λ error. Refuses state error r next)
document_asked state command r next fault answer_of None never same = (λ a. a, λ a. a)
document_asked state command r next fault answer_of (Some document) never same =
    (elim (fault (tree_of document)) as (λ f. fault (tree_of document) ≡ f → Answers state (answer_of document) r next ↔ MatchOption f (Answers state (answer_of document) r next ⊎ FindsNoRoom state command r next) (λ error. Refuses state error r next)) [
      | None ↦ λ is. roomless state command r next (Answers state (answer_of document) r next) never
      | Some error ↦ λ is. let e = same document error is in (λ a. (a.0 ∙ e, a.1), λ a. (a.0 ∙ sym e, a.1))
    ]) refl

none_there : (path : List ℕ) (tree : OrderedTree) (error : ReplyError) → node_fault path tree ≡ Some error → option_map_or shown (at tree path) (reply.Refused NoNode) ≡ reply.Refused error
none_there path tree error =
    elim (at tree path) as (λ o. (if is_some o then None else Some NoNode) ≡ Some error → option_map_or shown o (reply.Refused NoNode) ≡ reply.Refused error) [
      | None ↦ λ e. cc
      | Some t ↦ λ e. cc
    ]

-- the bound of room counts the nodes and the pages of a document with a new name
load_fits : (state : State) (name : List ℕ) (tree : OrderedTree) → contains_key state.documents name ≡ false
    → MayNotFit state tree ↔ MayBeFull state (nodes_after state (Load name (load.Read tree))) (pages_after state (Load name (load.Read tree)))
load_fits state name tree new =
    let nodes_are : nodes_after state (Load name (load.Read tree)) ≡ all_nodes state + (1 + nodes tree.below) = load_sum (λ t. 1 + nodes t.below) state name tree new in
    let pages_are : pages_after state (Load name (load.Read tree)) ≡ all_pages state + tree_pages tree = load_sum tree_pages state name tree new in (
      λ full. subst (λ n. MayBeFull state n (pages_after state (Load name (load.Read tree)))) (sym nodes_are) (subst (MayBeFull state (all_nodes state + (1 + nodes tree.below))) (sym pages_are) full),
      λ full. subst (MayBeFull state (all_nodes state + (1 + nodes tree.below))) pages_are (subst (λ n. MayBeFull state n (pages_after state (Load name (load.Read tree)))) nodes_are full),
    )

read_step : (state : State) (name : List ℕ) (tree : OrderedTree) (r : Reply) (next : State) → contains_key state.documents name ≡ false
    → BodyStep state name (load.Read tree) r next
    ↔ MatchOption (heavy_fault (state.settings).k tree) (Loads state name tree r next ⊎ FindsNoRoom state (Load name (load.Read tree)) r next) (λ error. Refuses state error r next)
read_step state name tree r next new =
    let same = load_fits state name tree new in
    elim (heavy_fault (state.settings).k tree) as (λ f. MatchOption f (Loads state name tree r next ⊎ (MayNotFit state tree × Refuses state Full r next)) (λ error. Refuses state error r next)
    ↔ MatchOption f (Loads state name tree r next ⊎ FindsNoRoom state (Load name (load.Read tree)) r next) (λ error. Refuses state error r next)) [
      | None ↦ (
        λ s. elim s [ inl l ↦ inl l | inr f ↦ inr (record { needs = refl; full = same.0 f.0; refused = f.1 }) ],
        λ s. elim s [ inl l ↦ inl l | inr f ↦ inr (same.1 f.full, f.refused) ],
      )
      | Some error ↦ (λ a. a, λ a. a)
    ]

load_step : (state : State) (name : List ℕ) (body : LoadBody) (r : Reply) (next : State) (b : Bool) → contains_key state.documents name ≡ b
    → MatchBool b (Refuses state Exists r next) (BodyStep state name body r next)
    ↔ MatchOption (if b then Some Exists else load_fault (state.settings).k body) (Effect state (Load name body) r next ⊎ FindsNoRoom state (Load name body) r next) (λ error. Refuses state error r next)
load_step state name body r next true is = (λ a. a, λ a. a)
load_step state name (load.Wrong error) r next false is = (λ a. a, λ a. a)
load_step state name (load.Read tree) r next false is = read_step state name tree r next is

-- Steps of the commands that leave the state, and of a load.
pub load_case : (state : State) (name : List ℕ) (body : LoadBody) (r : Reply) (next : State) → MatchBool (contains_key state.documents name) (Refuses state Exists r next) (BodyStep state name body r next) → Step state (Load name body) r next
load_case state name body r next step = (load_step state name body r next (contains_key state.documents name) refl).0 step

-- What is answered of a document, and stays.
module _ (state : State) (name : List ℕ) (r : Reply) (next : State) where
  export_same : Answers state (by_stored_document state name (λ document. reply.Exported (text (tree_of document)))) r next ↔ Step state (Export name) r next
  export_same = document_asked state (Export name) r next (λ tree. None) (λ document. reply.Exported (text (tree_of document))) (get state.documents name) (λ f. false≢true f.needs) (λ document error e. cc)

  get_same : (path : List ℕ) → Answers state (by_stored_document state name (λ document. option_map_or shown (at (tree_of document) path) (reply.Refused NoNode))) r next ↔ Step state (Get name path) r next
  get_same path =
      document_asked state (Get name path) r next (node_fault path) (λ document. option_map_or shown (at (tree_of document) path) (reply.Refused NoNode)) (get state.documents name) (λ f. false≢true f.needs)
      (λ document error e. none_there path (tree_of document) error e)

  layout_same : Answers state (by_stored_document state name laid) r next ↔ Step state (Layout name) r next
  layout_same = document_asked state (Layout name) r next (λ tree. None) laid (get state.documents name) (λ f. false≢true f.needs) (λ document error e. cc)

pub export_case : (state : State) (name : List ℕ) (r : Reply) (next : State) → Answers state (by_stored_document state name (λ document. reply.Exported (text (tree_of document)))) r next → Step state (Export name) r next
export_case state name r next a = (export_same state name r next).0 a

pub get_case : (state : State) (name path : List ℕ) (r : Reply) (next : State) → Answers state (by_stored_document state name (λ document. option_map_or shown (at (tree_of document) path) (reply.Refused NoNode))) r next → Step state (Get name path) r next
get_case state name path r next a = (get_same state name r next path).0 a

pub layout_case : (state : State) (name : List ℕ) (r : Reply) (next : State) → Answers state (by_stored_document state name laid) r next → Step state (Layout name) r next
layout_case state name r next a = (layout_same state name r next).0 a

-- a command that may not change the state leaves it
pub quiet_leaves : (command : Command) → may_change command ≡ false → (state next : State) (r : Reply) → Step state command r next → next ≡ state
quiet_leaves command quiet state next r step = others_stay state command r next quiet step
