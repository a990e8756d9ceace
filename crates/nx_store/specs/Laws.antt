-- The law of stores that have ended.
use Rattle.std.specs.Prelude.{◌≡◌, ℕ, true, Result, Err, OnOk, IfErr}
use Rattle.nx_host.specs.declared.disk.Disk.{Ghosts}
use Rattle.nx_script.specs.declared.reply.Reply.{Reply}
use Rattle.nx_store.specs.declared.store.Store.{Store}
use Rattle.nx_store.specs.declared.error.EngineError.{EngineError}
use Rattle.nx_store.specs.declared.error.EngineError.TheVariants as error
use Rattle.nx_store.specs.Store.{is_ended, GoesOn, NotApplied, NotAnswered}

-- After `Disk` and `Damaged` a store has ended.
pub record EndsByFault {D : Type 0} (d : Ghosts D) : Type 0 where
  pub disk : (old new : Store) (before after : D) → NotAnswered d error.Disk old new before after → is_ended new ≡ true
  pub damaged : (page : ℕ) (old new : Store) (before after : D) → NotAnswered d (error.Damaged page) old new before after → is_ended new ≡ true

-- A call says so, leaves the store ended, and the disk as it was: nothing is written or given, and no count rises.
abbrev pub SaysEnded : {D T : Type 0} → Result T EngineError → Store → D → D → Type 0
SaysEnded result new before after = (result ≡ Err error.Ended) × (is_ended new ≡ true) × (after ≡ before)

-- Over a store that has ended this is all that a call which is refused so does.
abbrev pub AppliesEnded : {D : Type 0} → Ghosts D → Type 0
AppliesEnded {D = D} d = (result : Result Reply EngineError) (old new : Store) (before after : D) →
    OnOk result (GoesOn old new) → IfErr result (λ e. NotApplied d e old new before after) → is_ended old ≡ true → SaysEnded result new before after

-- ... or so
abbrev pub AnswersEnded : {D : Type 0} → Ghosts D → Type 0
AnswersEnded {D = D} d = (result : Result (Unit {0}) EngineError) (old new : Store) (before after : D) →
    OnOk result (GoesOn old new) → IfErr result (λ e. NotAnswered d e old new before after) → is_ended old ≡ true → SaysEnded result new before after
