-- What each command line is, from how it is carried out.
use Rattle.std.proofs.Common.{◌≡◌, ◌↔◌, ◌⊎◌, inl, inr, ℕ, ◌≤◌, List, [], Option, None, Some, refl, sym, ◌∙◌, subst, arith}
use Rattle.nx_host.specs.declared.disk.Disk.{Ghosts}
use Rattle.nx_host.specs.Disk.{Beside}
use Rattle.nx_host.specs.Input.{most_input}
use Rattle.nx_host.specs.Time.{none_elapsed}
use Rattle.nx_host.proofs.DiskLemmas.{keeps_self, none_still}
use Rattle.nx_host.proofs.OutputLemmas.{keeps_prefix, takes_nothing}
use Rattle.nx_store.specs.declared.error.EngineError.TheVariants as engine
use Rattle.nx_filters.specs.declared.status.Status.{Status}
use Rattle.nx_filters.specs.declared.status.Status.TheVariants.{Done, Usage, Refused, DiskFault, ReadFault, WriteFault, NoMemory, NotAStore, Damaged, TooMuch}
use Rattle.nx_front.specs.declared.words.CommandLine.{CommandLine}
use Rattle.nx_front.specs.declared.words.CommandLine.TheVariants.{Tidy, Run, Plan, Verify, Init, Gen, Check, Find, Ship, Apply, Ask}
use Rattle.nx_filters.specs.Outcome.{Meaning, RunsBeside, TakesFew, CountsGrow, Completes, HoldsTogether}
use Rattle.nx_front.specs.Run.{IsCarriedOut, CompletesInput, IsCompleted, IsCoherent, AnswersAgree}
use Rattle.nx_filters.specs.Plan.{IsLightInput, plan}
use Rattle.nx_filters.specs.Verify.{IsSoundInput, verify}
use Rattle.nx_filters.proofs.OutcomeLemmas.{completes, told_nothing}
use Rattle.nx_filters.proofs.TidyLemmas.{tidy_together, tidy_once}
use Rattle.nx_front.proofs.ClockLemmas.{HasClock}
use Rattle.nx_front.proofs.ConversationLemmas.{serves_unopened}
use Rattle.nx_front.proofs.ServingLaws.{serving_completes, serving_together, one_script}
use Rattle.nx_filters.proofs.PlanLemmas.{plan_together, equal_plans, light_excludes}
use Rattle.nx_filters.proofs.VerifyLemmas.{verify_together, verify_once, excludes}
use Rattle.nx_front.proofs.GeneratingLemmas.{generates_unopened, generating_bounded, generating_completes, generating_counts, generating_not_usage}
use Rattle.nx_front.proofs.CheckingLemmas.{checks_nothing, check_completes, check_not_usage, check_together, verdicts_agree}
use Rattle.nx_ship.proofs.StreamLemmas.{one_stream}
use Rattle.nx_front.proofs.ShippingLemmas.{ships_nothing, ship_completes, ship_not_usage, one_shipment}
use Rattle.nx_front.proofs.AppliedLemmas.{receives_nothing, apply_completes, apply_not_usage, apply_together}
use Rattle.nx_ask.specs.declared.error.AskError.TheVariants as asking
use Rattle.nx_front.proofs.AskingLaws.{asking_completes, one_asked_text}
use Rattle.nx_front.proofs.AskingLemmas.{asks_untaken}
use Rattle.nx_front.proofs.FindingLaws.{finding_completes, one_answer}
use Rattle.nx_front.proofs.FindingLemmas.{finds_unopened}
use Rattle.nx_front.proofs.InitLemmas.{finds_no_memory, init_completes, init_not_usage, init_together, holds_nothing}

-- Nothing is done:

pub takes_none : (now : Option (List ℕ)) → TakesFew now now
takes_none now = record { taken = []; few = (let e : 0 ≤ most_input = omega arith in e); takes = takes_nothing now }

pub counts_same : (beside : Beside) → CountsGrow beside beside
counts_same beside = record { read = omega arith; written = omega arith }

module _ {D : Type 0} (d : Ghosts D) (a : D) where
  beside_starved : {m : Meaning} → RunsBeside d m NoMemory a a
  beside_starved {m = m} = record {
    run = record {
      outcome = None;
      told = told_nothing m (d.beside a).input (d.beside a).input;
      ends = tt;
      prefix = keeps_prefix [] (d.beside a).output (d.beside a).output (keeps_self (d.beside a).output);
      time = none_elapsed;
      bounded = takes_none (d.beside a).input;
      counts = counts_same (d.beside a);
    };
    disk = record { contents_stay = keeps_self (d.contents a); images_stay = λ i. (λ left. left, λ left. left); faults_stay = refl; reads_stay = refl };
  }

  -- memory ran out before anything was done
  pub starved : (line : CommandLine) → HasClock d → IsCarriedOut d line NoMemory a a
  starved Tidy clock = beside_starved
  starved Run clock = serves_unopened d a a engine.Memory clock none_still tt (λ was settled. record { sound = λ held holds. omega arith; no_header = λ none. omega arith })
  starved (Plan k) clock = beside_starved
  starved (Verify k) clock = beside_starved
  starved (Init settings) clock = finds_no_memory settings none_still
  starved (Gen seed n) clock = generates_unopened seed n engine.Memory clock none_still tt
  starved Check clock = checks_nothing NoMemory none_still tt
  starved Find clock = finds_unopened d a a engine.Memory none_still tt (λ was settled. record { sound = λ held holds. omega arith; no_header = λ none. omega arith })
  starved (Ship start) clock = ships_nothing start none_still
  starved Apply clock = receives_nothing none_still
  starved (Ask workers) clock = asks_untaken d a a asking.Memory none_still (λ was settled. record { below = λ number said. omega arith; there = λ count is. omega arith }) tt

module _ {D : Type 0} (d : Ghosts D) (a b : D) where
  -- the same command line
  pub carried_as : (mine line : CommandLine) (status : Status) → Some mine ≡ Some line → IsCarriedOut d mine status a b → IsCarriedOut d line status a b
  carried_as mine line status same carried = let one : mine ≡ line = cc same in subst (λ (l : CommandLine). IsCarriedOut d l status a b) one carried

  -- no more is taken than a run takes
  pub carried_bounded : (line : CommandLine) (status : Status) → IsCarriedOut d line status a b → TakesFew (d.beside a).input (d.beside b).input
  carried_bounded Tidy status carried = carried.run.bounded
  carried_bounded Run status carried = carried.bounded
  carried_bounded (Plan k) status carried = carried.run.bounded
  carried_bounded (Verify k) status carried = carried.run.bounded
  carried_bounded (Init settings) status carried = record { taken = []; few = (let e : 0 ≤ most_input = omega arith in e); takes = carried.input_stays }
  carried_bounded (Gen seed n) status carried = generating_bounded seed n status carried
  carried_bounded Check status carried = record { taken = []; few = (let e : 0 ≤ most_input = omega arith in e); takes = (carried.takes).input_stays }
  carried_bounded Find status carried = carried.bounded
  carried_bounded (Ship start) status carried = record { taken = []; few = (let e : 0 ≤ most_input = omega arith in e); takes = (carried.takes).input_stays }
  carried_bounded Apply status carried = carried.bounded
  carried_bounded (Ask workers) status carried = carried.bounded

  beside_counts : {m : Meaning} (status : Status) → RunsBeside d m status a b → CountsGrow (d.beside a) (d.beside b) × (d.faults a ≤ d.faults b)
  beside_counts status runs = (runs.run.counts, let same : d.faults b ≡ d.faults a = runs.disk.faults_stay in omega (arith, same))

  -- no count of faults falls
  pub carried_counts : (line : CommandLine) (status : Status) → IsCarriedOut d line status a b → CountsGrow (d.beside a) (d.beside b) × (d.faults a ≤ d.faults b)
  carried_counts Tidy status carried = beside_counts status carried
  carried_counts Run status carried = (carried.counts, carried.faults_later)
  carried_counts (Plan k) status carried = beside_counts status carried
  carried_counts (Verify k) status carried = beside_counts status carried
  carried_counts (Init settings) status carried =
      (record { read = (let same : (d.beside b).in_faults ≡ (d.beside a).in_faults = carried.in_faults_stay in omega (arith, same)); written = carried.out_faults_later }, carried.faults_later)
  carried_counts (Gen seed n) status carried = generating_counts seed n status carried
  carried_counts Check status carried = (
    record { read = (let same : (d.beside b).in_faults ≡ (d.beside a).in_faults = (carried.takes).in_faults_stay in omega (arith, same)); written = (carried.takes).out_faults_later },
    (carried.takes).faults_later,
  )
  carried_counts Find status carried = (carried.counts, carried.faults_later)
  carried_counts (Ship start) status carried = (
    record { read = (let same : (d.beside b).in_faults ≡ (d.beside a).in_faults = (carried.takes).in_faults_stay in omega (arith, same)); written = (carried.takes).out_faults_later },
    (carried.takes).faults_later,
  )
  carried_counts Apply status carried = (carried.counts, carried.faults_later)
  carried_counts (Ask workers) status carried = (carried.counts, carried.faults_later)

  beside_completes : {m : Meaning} (status : Status) → HoldsTogether m → RunsBeside d m status a b → CompletesInput m status (d.beside a) (d.beside b)
  beside_completes status together runs input calm = completes together runs.run.outcome status input (d.beside a) (d.beside b) runs.run.ends calm

  -- what it ends with where nothing fails
  pub carried_completes : (line : CommandLine) (status : Status) → IsCarriedOut d line status a b → IsCompleted d line status a b
  carried_completes Tidy status carried = beside_completes status tidy_together carried
  carried_completes Run status carried = serving_completes status carried
  carried_completes (Plan k) status carried = beside_completes status (plan_together k) carried
  carried_completes (Verify k) status carried = beside_completes status (verify_together k) carried
  carried_completes (Init settings) status carried = λ was calm. init_completes settings status was carried calm
  carried_completes (Gen seed n) status carried = generating_completes seed n status carried
  carried_completes Check status carried = check_completes status carried
  carried_completes Find status carried = finding_completes status carried
  carried_completes (Ship start) status carried = ship_completes start status carried
  carried_completes Apply status carried = apply_completes status carried
  carried_completes (Ask workers) status carried = asking_completes status carried

  -- a command line isn't answered by how it is to be written
  carried_usage : (line : CommandLine) → IsCarriedOut d line Usage a b → ⊥
  carried_usage Tidy carried = carried.run.ends
  carried_usage Run carried = carried.cause
  carried_usage (Plan k) carried = carried.run.ends
  carried_usage (Verify k) carried = carried.run.ends
  carried_usage (Init settings) carried = init_not_usage settings carried
  carried_usage (Gen seed n) carried = generating_not_usage seed n carried
  carried_usage Check carried = check_not_usage carried
  carried_usage Find carried = carried.cause
  carried_usage (Ship start) carried = ship_not_usage start carried
  carried_usage Apply carried = apply_not_usage carried
  carried_usage (Ask workers) carried = carried.cause

  -- nor does it end so
  pub not_usage : (line : CommandLine) (status : Status) → IsCarriedOut d line status a b → status ≡ Usage → ⊥
  not_usage line status carried usage = carried_usage line (subst (λ (s : Status). IsCarriedOut d line s a b) usage carried)

  pub usage_not : (line : CommandLine) (status : Status) {known : Option CommandLine} → known ≡ Some line → IsCarriedOut d line status a b → (status ≡ Usage) ↔ (known ≡ None)
  usage_not line status is carried = (
    λ usage. absurd (not_usage line status carried usage),
    λ none. absurd (let no_line : None ≡ Some line = sym none ∙ is in cc),
  )

-- a document without a heavy node is planned
pub completes_light : (k : ℕ) (input : List ℕ) (status : Status) → Completes (plan k) input status → IsLightInput k input → (status ≡ Done) ⊎ (status ≡ NoMemory)
completes_light k input Done complete light = inl refl
completes_light k input NoMemory complete light = inr refl
completes_light k input Refused ((refusal, refused), none) light = absurd (light_excludes k input refusal light refused)
completes_light k input Usage complete light = absurd complete
completes_light k input DiskFault complete light = absurd complete
completes_light k input ReadFault complete light = absurd complete
completes_light k input WriteFault complete light = absurd complete
completes_light k input NotAStore complete light = absurd complete
completes_light k input (Damaged page) complete light = absurd complete
completes_light k input TooMuch complete light = absurd complete

-- a sound plan is certified
pub completes_sound : (k : ℕ) (input : List ℕ) (status : Status) → Completes (verify k) input status → IsSoundInput k input → (status ≡ Done) ⊎ (status ≡ NoMemory)
completes_sound k input Done complete sure = inl refl
completes_sound k input NoMemory complete sure = inr refl
completes_sound k input Refused ((refusal, refused), none) sure = absurd (excludes k input refusal sure refused)
completes_sound k input Usage complete sure = absurd complete
completes_sound k input DiskFault complete sure = absurd complete
completes_sound k input ReadFault complete sure = absurd complete
completes_sound k input WriteFault complete sure = absurd complete
completes_sound k input NotAStore complete sure = absurd complete
completes_sound k input (Damaged page) complete sure = absurd complete
completes_sound k input TooMuch complete sure = absurd complete

-- what is said of each input, and of the disk, holds together
pub together : (line : CommandLine) → IsCoherent line
together Tidy = tidy_together
together Run = serving_together
together (Plan k) = plan_together k
together (Verify k) = verify_together k
together (Init settings) = init_together settings
together (Gen seed n) = serving_together
together Check = check_together
together Find = serving_together
together (Ship start) = serving_together
together Apply = apply_together
together (Ask workers) = serving_together

-- how the answers of each input go together
pub agrees : (line : CommandLine) → AnswersAgree line
agrees Tidy = tidy_once
agrees Run = one_script
agrees (Plan k) = equal_plans k
agrees (Verify k) = verify_once k
agrees (Init settings) = holds_nothing settings
agrees (Gen seed n) = tt
agrees Check = verdicts_agree
agrees Find = one_answer
agrees (Ship start) = one_shipment start
agrees Apply = one_stream
agrees (Ask workers) = one_asked_text
