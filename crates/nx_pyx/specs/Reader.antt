-- What a reader has read.
use Rattle.std.specs.Prelude.{◌≡◌, ◌≤◌, ℕ, List, ◌++◌, length, None, Some}
use Rattle.nx_pyx.specs.declared.reader.Reader.{Reader}
use Rattle.nx_pyx.specs.declared.error.ReadError.{ReadError}
use Rattle.nx_pyx.specs.Lines.{cut, ended_lines}
use Rattle.nx_pyx.specs.Fault.{early_fault, shown_fault}
use Rattle.nx_pyx.specs.Builder.{HasBuilt}

-- the bytes of a line show no fault, nor do they with at most so many others behind them
abbrev pub MayGrowBy : List ℕ → ℕ → Type 0
MayGrowBy bytes room = (more : List ℕ) → length more ≤ room → early_fault (bytes ++ more) ≡ None

-- The reader has read this stream, which shows no fault so far.
pub record HasRead (reader : Reader) (stream : List ℕ) : Type 0 where
  pub works : reader.failed ≡ None
  pub taken : HasBuilt reader.builder (ended_lines stream)
  pub held : reader.held ≡ (cut stream).rest
  pub room : MayGrowBy reader.held reader.room
  pub shows_none : shown_fault stream ≡ None

-- The reader has failed with this error.
abbrev pub HasFailed : Reader → ReadError → Type 0
HasFailed reader error = reader.failed ≡ Some error
