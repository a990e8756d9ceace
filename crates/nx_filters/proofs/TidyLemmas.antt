-- What is said of a document's text.
use Rattle.std.proofs.Common.{◌≡◌, inr, ℕ, ◌<◌, List, ◌++◌, length, None, Some, Result, Ok, Err, sym, ap, ◌∙◌, arith}
use Rattle.nx_host.specs.Disk.{Beside}
use Rattle.nx_host.specs.Input.{most_input}
use Rattle.nx_tree.specs.Forest.{OrderedTree}
use Rattle.nx_pyx.specs.declared.error.PyxError.{PyxError}
use Rattle.nx_pyx.specs.Reading.{Reads}
use Rattle.nx_pyx.specs.Text.{text}
use Rattle.nx_pyx.proofs.DocumentLemmas.{no_fault}
use Rattle.nx_pyx.proofs.ShownFaultLemmas.{fault_shown}
use Rattle.nx_pyx.proofs.Reading.{one_reading}
use Rattle.nx_filters.specs.declared.refusal.Refusal.{Refusal}
use Rattle.nx_filters.specs.declared.refusal.Refusal.TheVariants.{Pyx, TooHeavy, Bounds}
use Rattle.nx_filters.specs.declared.take_error.TakeError.{TakeError}
use Rattle.nx_filters.specs.declared.take_error.TakeError.TheVariants.{Refused, ReadFault, TooMuch, NoMemory}
use Rattle.nx_filters.specs.Outcome.{HoldsTogether, HasOneText, EndsWhole, ReadsTo}
use Rattle.nx_filters.specs.Tidy.{RefusesDocument, ShowsDocument, Finishes, tidy}

shown_stays : (taken more : List ℕ) (refusal : Refusal) → ShowsDocument taken (Err refusal) → RefusesDocument (taken ++ more) refusal
shown_stays taken more (Pyx error) shown = fault_shown taken more error shown
shown_stays taken more (TooHeavy path slots) shown = absurd shown
shown_stays taken more (Bounds error) shown = absurd shown

one_fault : (input : List ℕ) (first second : Refusal) → RefusesDocument input first → RefusesDocument input second → first ≡ second
one_fault input (Pyx e) (Pyx f) is is' = let same : Some e ≡ Some f = sym is ∙ is' in ap (λ (x : PyxError). Pyx x) (cc same)
one_fault input (Pyx e) (TooHeavy path slots) is is' = absurd is'
one_fault input (Pyx e) (Bounds f) is is' = absurd is'
one_fault input (TooHeavy path slots) second is is' = absurd is
one_fault input (Bounds e) second is is' = absurd is

no_refusal : (input : List ℕ) (tree : OrderedTree) (refusal : Refusal) → Reads input tree → RefusesDocument input refusal → ⊥
no_refusal input tree (Pyx error) reads is = let none : None ≡ Some error = sym (no_fault input tree reads) ∙ is in cc
no_refusal input tree (TooHeavy path slots) reads is = is
no_refusal input tree (Bounds error) reads is = is

pub tidy_together : HoldsTogether tidy
tidy_together = record { stays = shown_stays; one_refusal = one_fault; one_outcome = no_refusal }

pub tidy_once : HasOneText tidy
tidy_once input first second reads reads' = ap text (one_reading input first second reads reads')

-- the document of the whole input, or its fault
pub finished : (taken : List ℕ) (result : Result OrderedTree TakeError) (old new : Beside) → EndsWhole taken old.input new.input → Finishes taken result → ReadsTo tidy result old new
finished taken (Ok tree) old new whole reads = (taken, whole, reads)
finished taken (Err (Refused (Pyx error))) old new whole is =
    (taken, record { takes = whole.takes; few = (let few : length taken < most_input = whole.few in omega arith); refused = inr (whole.end, whole.few, is) })
finished taken (Err (Refused (TooHeavy path slots))) old new whole is = absurd is
finished taken (Err (Refused (Bounds error))) old new whole is = absurd is
finished taken (Err ReadFault) old new whole is = absurd is
finished taken (Err TooMuch) old new whole is = absurd is
finished taken (Err NoMemory) old new whole is = tt
