-- How a run over a store ends where all is well, and what is said of disks.
use Rattle.std.proofs.Common.{◌≡◌, inl, inr, ◌⊎◌, ℕ, List, take, Some, refl, sym, ◌∙◌, subst}
use Rattle.nx_host.specs.declared.disk.Disk.{Ghosts}
use Rattle.nx_host.specs.Disk.{Image}
use Rattle.nx_replay.specs.Log.{mark}
use Rattle.nx_holdings.specs.declared.header.Header.{Header}
use Rattle.nx_holdings.specs.Header.{header_bytes}
use Rattle.nx_script.proofs.OneRequestList.{one_request_list}
use Rattle.nx_state.proofs.OneLemmas.{one_state}
use Rattle.nx_filters.specs.declared.status.Status.{Status}
use Rattle.nx_filters.specs.declared.status.Status.TheVariants.{Done, Usage, Refused, DiskFault, ReadFault, WriteFault, NoMemory, NotAStore, Damaged, TooMuch}
use Rattle.nx_front.specs.Serving.{Serves, IsCalm, IsCaused, EndsWell, EndsWithoutHeader, EndsServing, CompletesServing, ServingHoldsTogether, HasOneScript}
use Rattle.nx_filters.proofs.OutcomeLemmas.{not_too_much}

module _ {D : Type 0} {d : Ghosts D} {a b : D} where
  -- a run over a store in some state where all is well
  pub ends_well : (status : Status) (was : Image) (input : List ℕ) → IsCalm d was input a b → IsCaused d status a b →
      ((status ≡ NotAStore → ⊥) × ((page : ℕ) → status ≡ Damaged page → ⊥)) → EndsWell status
  ends_well Done was input calm cause store = tt
  ends_well NoMemory was input calm cause store = tt
  ends_well DiskFault was input calm cause store = calm.disk cause
  ends_well ReadFault was input calm cause store = calm.read cause.0
  ends_well WriteFault was input calm cause store = calm.written cause
  ends_well TooMuch was input calm (taken, long, takes) store =
      not_too_much input taken (d.beside a).input (d.beside b).input calm.input_is calm.input_told calm.few long takes
  ends_well NotAStore was input calm cause store = store.0 refl
  ends_well (Damaged page) was input calm cause store = store.1 page refl
  ends_well Usage was input calm cause store = cause
  ends_well Refused was input calm cause store = cause

  -- ... and over a disk without a header
  pub finds_none : (status : Status) (was : Image) (input : List ℕ) → IsCalm d was input a b → IsCaused d status a b → EndsWithoutHeader status → (status ≡ NotAStore) ⊎ (status ≡ NoMemory)
  finds_none NotAStore was input calm cause none = inl refl
  finds_none NoMemory was input calm cause none = inr refl
  finds_none DiskFault was input calm cause none = absurd (calm.disk cause)
  finds_none Done was input calm cause none = absurd none
  finds_none ReadFault was input calm cause none = absurd none
  finds_none WriteFault was input calm cause none = absurd none
  finds_none TooMuch was input calm cause none = absurd none
  finds_none (Damaged page) was input calm cause none = absurd none
  finds_none Usage was input calm cause none = absurd none
  finds_none Refused was input calm cause none = absurd none

  pub serving_completes : (status : Status) → Serves d status a b → CompletesServing d status a b
  serving_completes status serves = record {
    store = λ was input state calm recovers.
        let from = serves.from was state calm.settled calm.disk_told recovers in
        ends_well status was input calm serves.cause (
          λ is. subst (λ (s : Status). EndsServing from.turns from.taken s (d.beside a) (d.beside b)) is from.ends,
          λ page is. subst (λ (s : Status). EndsServing from.turns from.taken s (d.beside a) (d.beside b)) is from.ends,
        );
    no_store = λ was input calm none. finds_none status was input calm serves.cause (serves.no_header was calm.settled none).0;
  }

-- a header begins with the mark
begins_so : (h : Header) → take 8 (header_bytes h) ≡ mark
unfolding header_bytes
begins_so h = refl

pub serving_together : ServingHoldsTogether
serving_together = record {
  one_state = λ image first second one other. let same : Some first ≡ Some second = one_state image (Some first) (Some second) one other in cc same;
  header = λ image state recovers. (header_bytes (recovers.1).0, ((recovers.1).1).here, begins_so (recovers.1).0);
}

pub one_script : HasOneScript
one_script input first second says says' = let one = one_request_list input in one.only first says ∙ sym (one.only second says')
