-- What a question is answered whose store gives up.
use Rattle.nx_store.specs.declared.error.EngineError.{EngineError}
use Rattle.nx_store.specs.declared.error.EngineError.TheVariants as store
use Rattle.nx_ask.specs.declared.error.AskError.{AskError}
use Rattle.nx_ask.specs.declared.error.AskError.TheVariants as error

-- what a question is answered whose store gives up so
abbrev pub asked_error : EngineError → AskError
asked_error (store.Damaged page) = error.Damaged page
asked_error store.NotAStore = error.Damaged 0
asked_error _ = error.Memory
