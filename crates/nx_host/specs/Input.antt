-- What was taken of a host's input.
use Rattle.std.specs.Prelude.{◌≡◌, ◌<◌, ℕ, ◌^◌, List, length, take, Option}
use Rattle.nx_host.specs.declared.input.Input.{Input}
use Rattle.nx_host.specs.declared.input.InputError.{InputError}
use Rattle.nx_host.specs.declared.input.InputError.TheVariants.{Read, TooMuch}
use Rattle.nx_host.specs.Host.{Takes}

-- as many bytes of an input as are taken at most
abbrev pub most_input : ℕ
most_input = 2 ^ 32

-- as many as are taken at once at most
abbrev pub most_block : ℕ
most_block = 2 ^ 16

-- the bytes that were taken last
abbrev pub block_of : Input → List ℕ
block_of input = take input.len input.buffer.items

-- These are all bytes that were taken, of an input that the host told at first and tells now.
pub record HasTaken (input : Input) (taken : List ℕ) (first now : Option (List ℕ)) : Type 0 where
  pub counted : input.taken ≡ length taken
  pub takes : Takes taken first now

-- how many bytes were taken by then, where no further ones were
abbrev pub IsStopped : InputError → ℕ → Type 0
IsStopped Read taken = taken < most_input
IsStopped TooMuch taken = taken ≡ most_input
