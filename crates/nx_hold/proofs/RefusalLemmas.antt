-- How refusals are handed on, and how calls behind each other compose.
use Rattle.std.proofs.Common.{◌≡◌, ℕ, ◌+◌, ◌-◌, ◌≤◌, ◌<◌, true, false, refl, sym, ◌∙◌, subst, arith}
use Rattle.std.specs.Prelude.{◌^◌, min}
use Rattle.std.proofs.lemmas.Bool.{false≢true}
use Rattle.nx_host.specs.Still.{IsStill}
use Rattle.nx_host.specs.Disk.{Rose}
use Rattle.nx_host.specs.declared.disk.Disk.{Ghosts}
use Rattle.nx_host.proofs.DiskLemmas.{still_then}
use Rattle.nx_holdings.specs.Holdings.{Held}
use Rattle.nx_records.specs.declared.records.Records.{Records}
use Rattle.nx_records.specs.declared.error.StoreError.{StoreError}
use Rattle.nx_records.specs.declared.error.StoreError.TheVariants as error
use Rattle.nx_records.specs.Records.{has_ended, LeavesRecords, StandsFor, KeepsSaved, ComesTo}
use Rattle.nx_records.specs.Refusals.{EndNow, RunsOn, IsDamaged, NotRead, NotChanged, NotStored}
use Rattle.nx_records.proofs.LeaveLemmas.{leaves_add_up, leaves_runs, leaves_ends, leaves_saved, leaves_stand}
use Rattle.nx_hold.specs.Putting.{told_at}

pub runs_then : {r0 r1 r2 : Records} → RunsOn r0 r1 → RunsOn r1 r2 → RunsOn r0 r2
runs_then one two = record {
  before = one.before;
  after = two.after;
  length_stays = two.length_stays ∙ one.length_stays;
  settings_stay = two.settings_stay ∙ one.settings_stay;
}

pub ends_then : {r0 r1 r2 : Records} → RunsOn r0 r1 → EndNow r1 r2 → EndNow r0 r2
ends_then one two = record {
  before = one.before;
  after = two.after;
  length_stays = two.length_stays ∙ one.length_stays;
  settings_stay = two.settings_stay ∙ one.settings_stay;
}

pub no_end : (r : Records) → has_ended r ≡ false → has_ended r ≡ true → ⊥
no_end r runs ended = false≢true (sym runs ∙ ended)

module _ {D : Type 0} {d : Ghosts D} where
  pub saved_then : {r0 r1 r2 : Records} {x0 x1 x2 : D} → KeepsSaved d r0 r1 x0 x1 → KeepsSaved d r1 r2 x1 x2 → KeepsSaved d r0 r2 x0 x2
  saved_then one two saved has = two saved (one saved has)

  pub rose_later : {x0 x1 x2 : D} → IsStill d x0 x1 → Rose (d.faults x1) (d.faults x2) → Rose (d.faults x0) (d.faults x2)
  rose_later {x0} {x1} {x2} still rose =
      let rose : min (d.faults x1 + 1) (2 ^ 64 - 1) ≤ d.faults x2 = rose in
      let later : d.faults x0 ≤ d.faults x1 = still.faults_later in
      omega (arith, rose, later)

  pub comes_then : {r0 r1 r2 : Records} {x0 x1 x2 : D} {A B : Held → Held → Type 0} (C : Held → Held → Type 0) → ComesTo d r0 r1 x0 x1 A → ComesTo d r1 r2 x1 x2 B → ((was mid now : Held) → A was mid → B mid now → C was now) → ComesTo d r0 r2 x0 x2 C
  comes_then C one two both saved was stands =
      let mid = one saved was stands in
      let now = two saved mid.0 mid.1 in
      (now.0, now.1, both was mid.0 now.0 mid.2 now.2)

-- A call went well: it came to something, and what the last commit holds is kept.
pub record GoesOn {D : Type 0} (d : Ghosts D) (r0 r1 : Records) (x0 x1 : D) (Comes : Held → Held → Type 0) : Type 0 where
  pub runs : RunsOn r0 r1
  pub keeps : KeepsSaved d r0 r1 x0 x1
  pub still : IsStill d x0 x1
  pub comes : ComesTo d r0 r1 x0 x1 Comes

-- a call that only read, and what it told of what is held
pub reads_on : {D : Type 0} {d : Ghosts D} {r0 r1 : Records} {x0 x1 : D} (Told : Held → Type 0) → has_ended r0 ≡ false → LeavesRecords r0 r1 → IsStill d x0 x1 → ((saved now : Held) → StandsFor d r0 x0 saved now → Told now)
    → GoesOn d r0 r1 x0 x1 (λ was now. (now ≡ was) × Told was)
reads_on {d = d} {r0 = r0} {r1 = r1} Told runs leaves still told = record {
  runs = leaves_runs runs leaves;
  keeps = leaves_saved {d = d} leaves still;
  still = still;
  comes = λ saved was stands. (was, leaves_stand {d = d} leaves still stands, (refl, told saved was stands));
}

-- one call that went well behind another
pub goes_then : {D : Type 0} {d : Ghosts D} {r0 r1 r2 : Records} {x0 x1 x2 : D} {A B : Held → Held → Type 0} (C : Held → Held → Type 0) → GoesOn d r0 r1 x0 x1 A → GoesOn d r1 r2 x1 x2 B
    → ((was mid now : Held) → A was mid → B mid now → C was now) → GoesOn d r0 r2 x0 x2 C
goes_then {d = d} {r0 = r0} {r1 = r1} {r2 = r2} C one two both = record {
  runs = runs_then {r0 = r0} {r1 = r1} {r2 = r2} one.runs two.runs;
  keeps = saved_then {d = d} {r0 = r0} {r1 = r1} {r2 = r2} one.keeps two.keeps;
  still = still_then one.still two.still;
  comes = comes_then {r0 = r0} {r1 = r1} {r2 = r2} C one.comes two.comes both;
}

-- the same refusal, told of another page
module _ {D : Type 0} (d : Ghosts D) (Lacks Fewer : Held → Type 0) (named page : ℕ) (r0 r1 : Records) (x0 x1 : D) (fewer : (held : Held) → Lacks held → Fewer held) where
  damaged_told : {told : ℕ} → IsDamaged d Lacks named told r0 r1 x0 → IsDamaged d Fewer page page r0 r1 x0
  damaged_told refused = record { page = refl; ends = refused.ends; lacks = λ saved now stands. fewer now (refused.lacks saved now stands) }

  -- ... or of the same one
  pub read_fewer : (e : StoreError) → NotRead d Lacks named e r0 r1 x0 x1 → NotRead d Fewer named e r0 r1 x0 x1
  read_fewer error.Disk refused = refused
  read_fewer (error.Damaged told) refused = record { page = refused.page; ends = refused.ends; lacks = λ saved now stands. fewer now (refused.lacks saved now stands) }
  read_fewer error.Ended refused = refused
  read_fewer error.Memory refused = refused
  read_fewer error.Exists refused = absurd refused
  read_fewer error.NotAStore refused = absurd refused
  read_fewer error.Full refused = absurd refused

  pub change_fewer : (e : StoreError) → NotChanged d Lacks named e r0 r1 x0 x1 → NotChanged d Fewer named e r0 r1 x0 x1
  change_fewer error.Disk refused = refused
  change_fewer (error.Damaged told) refused = record { page = refused.page; ends = refused.ends; lacks = λ saved now stands. fewer now (refused.lacks saved now stands) }
  change_fewer error.Ended refused = refused
  change_fewer error.Memory refused = refused
  change_fewer error.Exists refused = absurd refused
  change_fewer error.NotAStore refused = absurd refused
  change_fewer error.Full refused = absurd refused

  pub read_told : (e : StoreError) → NotRead d Lacks named e r0 r1 x0 x1 → NotRead d Fewer page (told_at page e) r0 r1 x0 x1
  read_told error.Disk refused = refused
  read_told (error.Damaged other) refused = damaged_told refused
  read_told error.Ended refused = refused
  read_told error.Memory refused = refused
  read_told error.Exists refused = absurd refused
  read_told error.NotAStore refused = absurd refused
  read_told error.Full refused = absurd refused

  pub change_told : (e : StoreError) → NotChanged d Lacks named e r0 r1 x0 x1 → NotChanged d Fewer page (told_at page e) r0 r1 x0 x1
  change_told error.Disk refused = refused
  change_told (error.Damaged other) refused = damaged_told refused
  change_told error.Ended refused = refused
  change_told error.Memory refused = refused
  change_told error.Exists refused = absurd refused
  change_told error.NotAStore refused = absurd refused
  change_told error.Full refused = absurd refused

  pub store_told : (needs : Held → ℕ) (e : StoreError) → NotStored d needs Lacks named e r0 r1 x0 x1 → NotStored d needs Fewer page (told_at page e) r0 r1 x0 x1
  store_told needs error.Disk refused = refused
  store_told needs (error.Damaged other) refused = damaged_told refused
  store_told needs error.Ended refused = refused
  store_told needs error.Memory refused = refused
  store_told needs error.Full refused = refused
  store_told needs error.Exists refused = absurd refused
  store_told needs error.NotAStore refused = absurd refused

-- ... or of a call that may need more pages
pub store_more : {D : Type 0} (d : Ghosts D) (named : ℕ) (r0 r1 : Records) (x0 x1 : D) (Lacks Fewer : Held → Type 0) (needs more : Held → ℕ) → ((held : Held) → Lacks held → Fewer held) → ((held : Held) → held.free < needs held → held.free < more held)
    → (e : StoreError) → NotStored d needs Lacks named e r0 r1 x0 x1 → NotStored d more Fewer named e r0 r1 x0 x1
store_more d named r0 r1 x0 x1 Lacks Fewer needs more fewer few error.Disk refused = refused
store_more d named r0 r1 x0 x1 Lacks Fewer needs more fewer few (error.Damaged told) refused = record { page = refused.page; ends = refused.ends; lacks = λ saved now stands. fewer now (refused.lacks saved now stands) }
store_more d named r0 r1 x0 x1 Lacks Fewer needs more fewer few error.Ended refused = refused
store_more d named r0 r1 x0 x1 Lacks Fewer needs more fewer few error.Memory refused = refused
store_more d named r0 r1 x0 x1 Lacks Fewer needs more fewer few error.Full refused = record { runs = refused.runs; none_free = refused.none_free; few = λ saved now stands. few now (refused.few saved now stands); keeps = refused.keeps }
store_more d named r0 r1 x0 x1 Lacks Fewer needs more fewer few error.Exists refused = absurd refused
store_more d named r0 r1 x0 x1 Lacks Fewer needs more fewer few error.NotAStore refused = absurd refused

-- a call that reads gave up, within one that changes something
module _ {D : Type 0} (d : Ghosts D) (Lacks : Held → Type 0) (named : ℕ) (r0 r1 : Records) (x0 x1 : D) (still : IsStill d x0 x1) where
  pub read_changed : (e : StoreError) → NotRead d Lacks named e r0 r1 x0 x1 → NotChanged d Lacks named e r0 r1 x0 x1
  read_changed error.Disk refused = refused
  read_changed (error.Damaged told) refused = refused
  read_changed error.Ended refused = refused
  read_changed error.Memory refused = (leaves_runs refused.0 refused.1, leaves_saved {d = d} refused.1 still)
  read_changed error.Exists refused = absurd refused
  read_changed error.NotAStore refused = absurd refused
  read_changed error.Full refused = absurd refused

  pub change_stored : (needs : Held → ℕ) (e : StoreError) → NotChanged d Lacks named e r0 r1 x0 x1 → NotStored d needs Lacks named e r0 r1 x0 x1
  change_stored needs error.Disk refused = refused
  change_stored needs (error.Damaged told) refused = refused
  change_stored needs error.Ended refused = refused
  change_stored needs error.Memory refused = refused
  change_stored needs error.Exists refused = absurd refused
  change_stored needs error.NotAStore refused = absurd refused
  change_stored needs error.Full refused = absurd refused

-- a call gave up behind one that went well
module _ {D : Type 0} {d : Ghosts D} {r0 r1 : Records} {x0 x1 : D} {Comes : Held → Held → Type 0} (goes : GoesOn d r0 r1 x0 x1 Comes)
    (Lacks Fewer : Held → Type 0) (named : ℕ) (fewer : (was mid : Held) → Comes was mid → Lacks mid → Fewer was) where
  later_damaged : {told : ℕ} (r2 : Records) → IsDamaged d Lacks named told r1 r2 x1 → IsDamaged d Fewer named told r0 r2 x0
  later_damaged r2 refused = record {
    page = refused.page;
    ends = ends_then {r0 = r0} {r1 = r1} {r2 = r2} goes.runs refused.ends;
    lacks = λ saved was stands. let mid = goes.comes saved was stands in fewer was mid.0 mid.2 (refused.lacks saved mid.0 mid.1);
  }

  -- ... where that one only read
  pub later_read : (r2 : Records) (x2 : D) → LeavesRecords r0 r1 → (e : StoreError) → NotRead d Lacks named e r1 r2 x1 x2 → NotRead d Fewer named e r0 r2 x0 x2
  later_read r2 x2 leaves error.Disk refused = (rose_later {d = d} {x0 = x0} {x1 = x1} {x2 = x2} goes.still refused.0, ends_then {r0 = r0} {r1 = r1} {r2 = r2} goes.runs refused.1)
  later_read r2 x2 leaves (error.Damaged told) refused = later_damaged r2 refused
  later_read r2 x2 leaves error.Ended refused = absurd (no_end r1 (goes.runs).after refused.0)
  later_read r2 x2 leaves error.Memory refused = ((goes.runs).before, leaves_add_up leaves refused.1)
  later_read r2 x2 leaves error.Exists refused = absurd refused
  later_read r2 x2 leaves error.NotAStore refused = absurd refused
  later_read r2 x2 leaves error.Full refused = absurd refused

  pub later_changed : (r2 : Records) (x2 : D) (e : StoreError) → NotChanged d Lacks named e r1 r2 x1 x2 → NotChanged d Fewer named e r0 r2 x0 x2
  later_changed r2 x2 error.Disk refused = (rose_later {d = d} {x0 = x0} {x1 = x1} {x2 = x2} goes.still refused.0, ends_then {r0 = r0} {r1 = r1} {r2 = r2} goes.runs refused.1)
  later_changed r2 x2 (error.Damaged told) refused = later_damaged r2 refused
  later_changed r2 x2 error.Ended refused = absurd (no_end r1 (goes.runs).after refused.0)
  later_changed r2 x2 error.Memory refused = (runs_then {r0 = r0} {r1 = r1} {r2 = r2} goes.runs refused.0, saved_then {d = d} {r0 = r0} {r1 = r1} {r2 = r2} goes.keeps refused.1)
  later_changed r2 x2 error.Exists refused = absurd refused
  later_changed r2 x2 error.NotAStore refused = absurd refused
  later_changed r2 x2 error.Full refused = absurd refused

  pub later_stored : (r2 : Records) (x2 : D) (more needs : Held → ℕ) → ((was mid : Held) → Comes was mid → mid.free < more mid → was.free < needs was) → (e : StoreError) → NotStored d more Lacks named e r1 r2 x1 x2
      → NotStored d needs Fewer named e r0 r2 x0 x2
  later_stored r2 x2 more needs few error.Disk refused = (rose_later {d = d} {x0 = x0} {x1 = x1} {x2 = x2} goes.still refused.0, ends_then {r0 = r0} {r1 = r1} {r2 = r2} goes.runs refused.1)
  later_stored r2 x2 more needs few (error.Damaged told) refused = later_damaged r2 refused
  later_stored r2 x2 more needs few error.Ended refused = absurd (no_end r1 (goes.runs).after refused.0)
  later_stored r2 x2 more needs few error.Memory refused = (runs_then {r0 = r0} {r1 = r1} {r2 = r2} goes.runs refused.0, saved_then {d = d} {r0 = r0} {r1 = r1} {r2 = r2} goes.keeps refused.1)
  later_stored r2 x2 more needs few error.Full refused = record {
    runs = runs_then {r0 = r0} {r1 = r1} {r2 = r2} goes.runs refused.runs;
    none_free = refused.none_free;
    few = λ saved was stands. let mid = goes.comes saved was stands in few was mid.0 mid.2 (refused.few saved mid.0 mid.1);
    keeps = saved_then {d = d} {r0 = r0} {r1 = r1} {r2 = r2} goes.keeps refused.keeps;
  }
  later_stored r2 x2 more needs few error.Exists refused = absurd refused
  later_stored r2 x2 more needs few error.NotAStore refused = absurd refused

-- a call that only read found what it names to be damaged, and ended the records
pub read_damaged : {D : Type 0} (d : Ghosts D) (Lacks : Held → Type 0) (named : ℕ) {r0 r1 r2 : Records} (x0 x1 : D) (e : StoreError) → e ≡ error.Damaged named → has_ended r0 ≡ false → LeavesRecords r0 r1 → (has_ended r1 ≡ false → EndNow r1 r2)
    → ((saved now : Held) → StandsFor d r0 x0 saved now → Lacks now) → NotRead d Lacks named e r0 r2 x0 x1
read_damaged d Lacks named {r0} {r1} {r2} x0 x1 e is runs leaves ends lacks =
    subst (λ (x : StoreError). NotRead d Lacks named x r0 r2 x0 x1) (sym is) (record {
      page = refl;
      ends = leaves_ends leaves (ends (leaves.ended_stays ∙ runs));
      lacks = lacks;
    })
