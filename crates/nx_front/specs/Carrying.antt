-- Generated commands, carried out one after the other: what is known between them.
use Rattle.std.specs.Prelude.{◌≡◌, ℕ, List, [], ◌∷◌, ◌++◌, length, if◌then◌else◌, Option, None, Some, IsSome}
use Rattle.std.specs.Str.{bytes_eq}
use Rattle.nx_host.specs.declared.disk.Disk.{Ghosts}
use Rattle.nx_host.specs.Still.{WritesAlone}
use Rattle.nx_script.specs.declared.request.Request.{Request}
use Rattle.nx_script.specs.declared.request.Answer.{Answer}
use Rattle.nx_script.specs.declared.reply.DocLine.{DocLine}
use Rattle.nx_script.specs.declared.reply.Reply.{Reply}
use Rattle.nx_script.specs.declared.reply.Reply.TheVariants as reply
use Rattle.nx_state.specs.State.{State}
use Rattle.nx_store.specs.declared.store.Store.{Store}
use Rattle.nx_store.specs.declared.error.EngineError.{EngineError}
use Rattle.nx_store.specs.declared.error.EngineError.TheVariants as engine
use Rattle.nx_store.specs.Store.{IsAt, Shows}
use Rattle.nx_front.specs.Turns.{Turn, IsRun, state_after, requests_of, replies_of, IsAfterSome}
use Rattle.nx_front.specs.Logs.{LogsFollow, LogsFollowBut}
use Rattle.nx_front.specs.Generating.{summary_of}

-- how many nodes the first document of that name has, in a list of documents
abbrev pub listed_nodes : List ℕ → List DocLine → Option ℕ
listed_nodes name [] = None
listed_nodes name (line ∷ lines) = if bytes_eq name line.name then Some line.nodes else listed_nodes name lines

-- how many bytes of text a reply gives that gives a document
abbrev pub exported_size : Reply → ℕ
exported_size (reply.Exported text) = length text
exported_size _ = 0

-- Turns were had from a state: the store is at the last one, the output stayed, each image was of the state after some of them, and each left its log.
pub record HasTurned {D : Type 0} (d : Ghosts D) (state : State) (turns : List Turn) (store : Store) (first now : D) : Type 0 where
  pub run : IsRun state turns
  pub at : IsAt d store now (state_after state turns)
  pub time : Shows d (IsAfterSome state turns) first now
  pub logs : LogsFollow d state turns first now

-- Of these requests this many were carried out, with these replies; and so there were such turns from each state that the store was at.
pub record IsCarrying {D : Type 0} (d : Ghosts D) (begun : Store) (requests : List Request) (replies : List Answer) (store : Store) (first now : D) : Type 0 where
  pub areas : WritesAlone d first now (λ _. Unit {0})
  pub had : (state : State) → IsAt d begun first state → IsSome (d.contents now) →
      (turns : List Turn) × (requests_of turns ≡ requests) × (replies_of turns ≡ replies) × HasTurned d state turns store first now

-- All these commands were carried out, and the text tells what came of them.
pub record HasCarried {D : Type 0} (d : Ghosts D) (all : List Request) (text : List ℕ) (state : State) (store : Store) (first now : D) : Type 0 where
  pub turns : List Turn
  pub all_are : requests_of turns ≡ all
  pub turned : HasTurned d state turns store first now
  pub text_is : text ≡ summary_of state turns

-- ... from each state that the store was at
abbrev pub CarriesOut : {D : Type 0} → Ghosts D → List Request → List ℕ → Store → Store → D → D → Type 0
CarriesOut d all text begun store first now = (state : State) → IsAt d begun first state → IsSome (d.contents now) → HasCarried d all text state store first now

-- with one of these they stop, from a state that the store was at
abbrev pub CutsShort : EngineError → Type 0
CutsShort engine.Disk = Unit {0}
CutsShort engine.Memory = Unit {0}
CutsShort _ = ⊥

-- The first of these commands were carried out, or one more was begun.
pub record CarriesSome {D : Type 0} (d : Ghosts D) (all : List Request) (error : EngineError) (state : State) (first now : D) : Type 0 where
  pub short : CutsShort error
  pub turns : List Turn
  pub run : IsRun state turns
  pub rest : List Request
  pub parts : requests_of turns ++ rest ≡ all
  pub time : Shows d (IsAfterSome state turns) first now
  pub between : D
  pub logs : LogsFollowBut d state turns first between

-- ... from each state that the store was at
abbrev pub StopsCarrying : {D : Type 0} → Ghosts D → List Request → EngineError → Store → D → D → Type 0
StopsCarrying d all error begun first now = (state : State) → IsAt d begun first state → IsSome (d.contents now) → CarriesSome d all error state first now
