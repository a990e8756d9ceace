-- How a store is checked, from its verdict and what was given then.
use Rattle.std.proofs.Common.{◌≡◌, ◌⊎◌, inl, inr, refl}
use Rattle.nx_host.specs.declared.disk.Disk.{Ghosts}
use Rattle.nx_host.specs.Disk.{Image}
use Rattle.nx_host.specs.Still.{IsStill, IsSettled}
use Rattle.nx_host.specs.Phase.{GivesAlone}
use Rattle.nx_replay.specs.Log.{replay}
use Rattle.nx_records.specs.Records.{HasHeader}
use Rattle.nx_rules.specs.declared.verdict.Verdict.{Verdict}
use Rattle.nx_rules.specs.declared.verdict.Verdict.TheVariants.{Sound, Wrong}
use Rattle.nx_rules.specs.Verdict.{IsVerdict}
use Rattle.nx_rules.proofs.VerdictLemmas.{one_verdict}
use Rattle.nx_rules.proofs.StandsLemmas.{kept_stands}
use Rattle.nx_rules.proofs.KeptLemmas.{stands_keeps}
use Rattle.nx_filters.specs.declared.status.Status.{Status}
use Rattle.nx_filters.specs.declared.status.Status.TheVariants.{Done, Usage, Refused, DiskFault, ReadFault, WriteFault, NoMemory, NotAStore, Damaged, TooMuch}
use Rattle.nx_front.specs.Init.{SaysLine, IsUntroubled}
use Rattle.nx_front.specs.Checking.{verdict_line, verdict_status, IsUnchecked, Checks, CompletesChecking, CheckHoldsTogether, VerdictsAgree}
use Rattle.nx_front.proofs.InitLemmas.{says_after, said, no_usage, line_told}
use Rattle.nx_front.proofs.GeneratingLemmas.{takes_then, still_takes, gives_takes}

no_verdict_usage : (verdict : Verdict) → Usage ≡ verdict_status verdict → ⊥
no_verdict_usage Sound is = cc is
no_verdict_usage (Wrong page rule) is = cc is

module _ {D : Type 0} {d : Ghosts D} where
  -- the line of the verdict is given
  pub checks_told : {a b c : D} (verdict : Verdict) (status : Status) → IsStill d a b → ((was : Image) → IsSettled d a was → HasHeader was × IsVerdict (replay was) verdict) →
      SaysLine (verdict_line verdict) (verdict_status verdict) status (d.beside b) (d.beside c) → GivesAlone d (verdict_line verdict) b c → Checks d status a c
  checks_told {a = a} {b = b} {c = c} verdict status still is says gives = record {
    ends = inl (record {
      verdict = verdict;
      says = says_after (verdict_line verdict) (verdict_status verdict) status (d.beside a) (d.beside b) (d.beside c) still.beside_stays says;
      tells = line_told (verdict_line verdict) still gives;
      is = is;
    });
    takes = takes_then (still_takes still) (gives_takes gives);
  }

  -- nothing is given
  pub checks_nothing : {a b : D} (status : Status) → IsStill d a b → IsUnchecked d status a b → Checks d status a b
  checks_nothing status still why = record { ends = inr (why, still); takes = still_takes still }

  module _ {a b : D} (was : Image) (calm : IsUntroubled d was a b) where
    over_store : HasHeader was → (status : Status) → IsUnchecked d status a b → status ≡ NoMemory
    over_store header NoMemory why = refl
    over_store header DiskFault why = absurd (calm.disk why)
    over_store header NotAStore why = absurd (why was calm.settled header)
    over_store header Done why = absurd why
    over_store header Usage why = absurd why
    over_store header Refused why = absurd why
    over_store header ReadFault why = absurd why
    over_store header WriteFault why = absurd why
    over_store header (Damaged page) why = absurd why
    over_store header TooMuch why = absurd why

    over_none : (status : Status) → IsUnchecked d status a b → (status ≡ NotAStore) ⊎ (status ≡ NoMemory)
    over_none NotAStore why = inl refl
    over_none NoMemory why = inr refl
    over_none DiskFault why = absurd (calm.disk why)
    over_none Done why = absurd why
    over_none Usage why = absurd why
    over_none Refused why = absurd why
    over_none ReadFault why = absurd why
    over_none WriteFault why = absurd why
    over_none (Damaged page) why = absurd why
    over_none TooMuch why = absurd why

    tells_one : (status : Status) → HasHeader was → Checks d status a b → ((verdict : Verdict) × IsVerdict (replay was) verdict × (status ≡ verdict_status verdict)) ⊎ (status ≡ NoMemory)
    tells_one status header checks = elim checks.ends [
      | inl told ↦ inl (told.verdict, (told.is was calm.settled).1, said (verdict_line told.verdict) (verdict_status told.verdict) status (d.beside a) (d.beside b) calm.written told.says)
      | inr (why, still) ↦ inr (over_store header status why)
    ]

    tells_none : (status : Status) → (HasHeader was → ⊥) → Checks d status a b → (status ≡ NotAStore) ⊎ (status ≡ NoMemory)
    tells_none status none checks = elim checks.ends [
      | inl told ↦ absurd (none (told.is was calm.settled).0)
      | inr (why, still) ↦ over_none status why
    ]

  -- how such a run ends where nothing fails
  pub check_completes : {a b : D} (status : Status) → Checks d status a b → CompletesChecking d status a b
  check_completes status checks = record {
    store = λ was calm header. tells_one was calm status header checks;
    no_store = λ was calm none. tells_none was calm status none checks;
  }

  -- it isn't answered by how command lines are to be written
  pub check_not_usage : {a b : D} → Checks d Usage a b → ⊥
  check_not_usage {a = a} {b = b} checks = elim checks.ends [
    | inl told ↦ no_usage (verdict_line told.verdict) (verdict_status told.verdict) (d.beside a) (d.beside b) (no_verdict_usage told.verdict) told.says
    | inr (why, still) ↦ why
  ]

-- What is said of verdicts:

pub check_together : CheckHoldsTogether
check_together image page rule sound wrong = let same : Sound ≡ Wrong page rule = one_verdict (replay image) Sound (Wrong page rule) sound wrong in cc same

pub verdicts_agree : VerdictsAgree
verdicts_agree = record {
  one = one_verdict;
  sound = λ image. (λ kept. kept_stands (replay image) kept, λ h. stands_keeps (replay image) h.0 h.1);
}
