-- A session over a new store in memory.
use Rattle.std.specs.Prelude.{◌≡◌, ℕ, List, [], ◌++◌, false, Some}
use Rattle.nx_host.specs.Disk.{Image, no_bytes}
use Rattle.nx_records.specs.Words.{Settings}
use Rattle.nx_script.specs.Requests.{AreRequests}
use Rattle.nx_state.specs.State.{new_state}
use Rattle.nx_state.specs.Stands.{Recovers}
use Rattle.nx_memory.specs.declared.quiet.QuietHost.{QuietHost}
use Rattle.nx_memory.specs.Memory.{changes_of, areas_of, output_of}
use Rattle.nx_memory.specs.Source.{bytes_left}
use Rattle.nx_memory.specs.QuietHost.{QuietMayLeave}
use Rattle.nx_filters.specs.declared.status.Status.{Status}
use Rattle.nx_filters.specs.declared.status.Status.TheVariants.{Done, NoMemory}
use Rattle.nx_front.specs.Init.{made_line}
use Rattle.nx_front.specs.Serving.{Turn, IsRun, state_after, requests_of, texts_of}

-- The host has empty areas, nothing was given, and this is its input.
pub record IsUntouched (script : List ℕ) (host : QuietHost) : Type 0 where
  pub told : host.full ≡ false
  pub areas_are : areas_of host.memory ≡ no_bytes
  pub unchanged : changes_of host.memory ≡ []
  pub no_output : output_of host.memory ≡ []
  pub input_is : bytes_left host.memory.source ≡ script

-- A new store was made: the areas stand for its state, and a crash leaves no others; `ok` is out, and the input is as it was.
pub record HasNewStore (settings : Settings) (script : List ℕ) (host : QuietHost) : Type 0 where
  pub only : (i : Image) → QuietMayLeave host i → i ≡ areas_of host.memory
  pub recovers : Recovers (areas_of host.memory) (Some (new_state settings))
  pub output_is : output_of host.memory ≡ made_line
  pub input_is : bytes_left host.memory.source ≡ script

-- how the making of a store ends
abbrev pub EndsMaking : Settings → List ℕ → Status → QuietHost → Type 0
EndsMaking settings script Done host = HasNewStore settings script host
EndsMaking settings script NoMemory host = Unit {0}
EndsMaking settings script _ host = ⊥

-- Every request of the script is answered: there is one run from the new state over all of them, `ok` and its replies are out, and each image that a crash may
-- leave is that of its last state.
pub record AnswersScript (settings : Settings) (script : List ℕ) (host : QuietHost) : Type 0 where
  pub turns : List Turn
  pub run : IsRun (new_state settings) turns
  pub requests : AreRequests script (requests_of turns)
  pub output : output_of host.memory ≡ made_line ++ texts_of turns
  pub images : (i : Image) → QuietMayLeave host i → Recovers i (Some (state_after (new_state settings) turns))

-- how a session ends whose room isn't used up
abbrev pub EndsSession : Settings → List ℕ → Status → QuietHost → Type 0
EndsSession settings script Done host = AnswersScript settings script host
EndsSession settings script NoMemory host = Unit {0}
EndsSession settings script _ host = ⊥
