-- What `check` does: it says that the pages of a disk stand for a state, or which rule they break first. It takes no input, and leaves both areas.
use Rattle.std.specs.Prelude.{◌≡◌, ◌⊎◌, ◌↔◌, ℕ, List, ◌++◌, Some, codes, decimal}
use Rattle.nx_host.specs.declared.disk.Disk.{Ghosts}
use Rattle.nx_host.specs.Disk.{Image, Rose}
use Rattle.nx_host.specs.Still.{IsStill, IsSettled}
use Rattle.nx_records.specs.Words.{replay}
use Rattle.nx_records.specs.Records.{HasHeader}
use Rattle.nx_state.specs.State.{State}
use Rattle.nx_state.specs.Stands.{Recovers}
use Rattle.nx_rules.specs.declared.verdict.PageRule.{PageRule}
use Rattle.nx_rules.specs.declared.verdict.PageRule.TheVariants.{Header, Free, Catalog, Slotted, Missing, Form, Chain, Roots, Twice, Document, Weight, Nodes, Unused}
use Rattle.nx_rules.specs.declared.verdict.Verdict.{Verdict}
use Rattle.nx_rules.specs.declared.verdict.Verdict.TheVariants.{Sound, Wrong}
use Rattle.nx_rules.specs.Verdict.{IsVerdict}
use Rattle.nx_rules.specs.Laws.{OneVerdict}
use Rattle.nx_store.specs.Store.{TakesNone}
use Rattle.nx_filters.specs.declared.status.Status.{Status}
use Rattle.nx_filters.specs.declared.status.Status.TheVariants.{Done, DiskFault, NoMemory, NotAStore, Damaged}
use Rattle.nx_front.specs.Init.{SaysLine, TellsLine, IsUntroubled}

-- the word for a rule
abbrev pub rule_word : PageRule → List ℕ
rule_word Header = codes "header"
rule_word Free = codes "free"
rule_word Catalog = codes "catalog"
rule_word Slotted = codes "slotted"
rule_word Missing = codes "missing"
rule_word Form = codes "form"
rule_word Chain = codes "chain"
rule_word Roots = codes "roots"
rule_word Twice = codes "twice"
rule_word Document = codes "document"
rule_word Weight = codes "weight"
rule_word Nodes = codes "nodes"
rule_word Unused = codes "unused"

-- the line for a page that breaks a rule
abbrev pub wrong_line : ℕ → PageRule → List ℕ
wrong_line page rule = codes "wrong " ++ decimal page ++ codes " " ++ rule_word rule ++ codes "\n"

-- the line that tells a verdict
abbrev pub verdict_line : Verdict → List ℕ
verdict_line Sound = codes "sound\n"
verdict_line (Wrong page rule) = wrong_line page rule

-- the status that goes with it
abbrev pub verdict_status : Verdict → Status
verdict_status Sound = Done
verdict_status (Wrong page rule) = Damaged page

-- The disk had a store, and the line for the verdict of its pages was given.
pub record TellsVerdict {D : Type 0} (d : Ghosts D) (status : Status) (old new : D) : Type 0 where
  pub verdict : Verdict
  pub says : SaysLine (verdict_line verdict) (verdict_status verdict) status (d.beside old) (d.beside new)
  pub tells : TellsLine d (verdict_line verdict) old new
  pub is : (was : Image) → IsSettled d old was → HasHeader was × IsVerdict (replay was) verdict

-- why nothing was given: a call of the disk failed, or the disk has no store, or there was no memory
abbrev pub IsUnchecked : {D : Type 0} → Ghosts D → Status → D → D → Type 0
IsUnchecked d DiskFault old new = Rose (d.faults old) (d.faults new)
IsUnchecked d NotAStore old new = (was : Image) → IsSettled d old was → HasHeader was → ⊥
IsUnchecked d NoMemory old new = Unit {0}
IsUnchecked d _ old new = ⊥

-- How `check` is carried out. It takes no input.
pub record Checks {D : Type 0} (d : Ghosts D) (status : Status) (old new : D) : Type 0 where
  pub ends : TellsVerdict d status old new ⊎ (IsUnchecked d status old new × IsStill d old new)
  pub takes : TakesNone d old new

-- Where nothing fails, over a store its verdict is told, unless memory runs out; and over a disk without a header that is said.
pub record CompletesChecking {D : Type 0} (d : Ghosts D) (status : Status) (old new : D) : Type 0 where
  pub store : (was : Image) → IsUntroubled d was old new → HasHeader was → ((verdict : Verdict) × IsVerdict (replay was) verdict × (status ≡ verdict_status verdict)) ⊎ (status ≡ NoMemory)
  pub no_store : (was : Image) → IsUntroubled d was old new → (HasHeader was → ⊥) → (status ≡ NotAStore) ⊎ (status ≡ NoMemory)

-- Pages are sound, or break a rule first, and not both.
abbrev pub CheckHoldsTogether : Type 0
CheckHoldsTogether = (image : Image) (page : ℕ) (rule : PageRule) → IsVerdict (replay image) Sound → IsVerdict (replay image) (Wrong page rule) → ⊥

-- Pages have one verdict at most, and are sound exactly where they stand for a state.
pub record VerdictsAgree : Type 0 where
  pub one : OneVerdict
  pub sound : (image : Image) → IsVerdict (replay image) Sound ↔ ((state : State) × Recovers image (Some state))
