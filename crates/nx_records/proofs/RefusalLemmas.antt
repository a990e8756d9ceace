-- How refusals are handed on.
use Rattle.std.proofs.Common.{◌≡◌, ℕ, ◌+◌, ◌-◌, ◌<◌, ◌≤◌, List, refl, sym, ap, subst, ◌∙◌, arith, true, false, inl}
use Rattle.std.specs.Prelude.{◌≢◌, ◌^◌, min, slice_index_or, Option, None, Some, Result, Err, IfErr}
use Rattle.nx_host.specs.declared.disk.Disk.{Ghosts}
use Rattle.nx_host.specs.Still.{IsStill}
use Rattle.nx_host.proofs.DiskLemmas.{none_still, settled_still}
use Rattle.nx_host.specs.Disk.{Image}
use Rattle.nx_replay.specs.Log.{Pages}
use Rattle.nx_slots.specs.Slots.{slots_of, IsSlotted}
use Rattle.nx_wal.specs.declared.wal.Wal.{Wal}
use Rattle.nx_wal.specs.Wal.{IsInStep, current, length_of}
use Rattle.nx_holdings.specs.declared.header.Header.{Header}
use Rattle.nx_holdings.specs.Holdings.{Held, HoldsBehind}
use Rattle.nx_holdings.proofs.HeldLemmas.{unslotted_none}
use Rattle.nx_records.specs.declared.records.Records.{Records}
use Rattle.nx_records.specs.declared.error.StoreError.{StoreError}
use Rattle.nx_records.specs.declared.error.StoreError.TheVariants as error
use Rattle.nx_records.specs.Records.{has_ended, has_free, log_length_of, settings_of, KeepsLog, StandsFor}
use Rattle.nx_records.specs.Refusals.{EndNow, RunsOn, IsDamaged, NotRead, NotChanged, NotStored}
use Rattle.nx_records.specs.Pages.{HasSlots, SeesSo, HoldsSo, StepsTo, NotFound, NotTaken, NotPut}
use Rattle.nx_records.proofs.StandLemmas.{saved_kept, step_kept, keeps_then}
use Rattle.nx_records.proofs.StepLemmas.{page_records, room_slotted, first_free, none_free}

-- the error that a `?` hands on
pub err_passed : {T : Type 0} (r : Result T StoreError) (P : StoreError → Type 0) (e : StoreError) → (y : StoreError) × (r ≡ Err y) × (y ≡ e) → P e → IfErr r P
err_passed r P e p h = subst (λ x. IfErr x P) (sym p.1) (subst P (sym p.2) h)

-- the page isn't slotted
abbrev pub NoSlots : ℕ → Records → Pages → Type 0
NoSlots page r pages = page < r.head.pages → (slots : List (Option (List ℕ))) → HasSlots pages page slots → ⊥

pub keeps_self : (r0 r1 : Records) → has_ended r0 ≡ false → r1 ≡ r0 → KeepsLog r0 r1
keeps_self r0 r1 runs same = subst (λ (r : Records). KeepsLog r0 r) (sym same) (record { runs = runs; follows = λ log follows. follows; saved = refl; length_stays = refl; settings_stay = refl; known = inl refl })

pub runs_on : {r0 r1 : Records} → has_ended r0 ≡ false → KeepsLog r0 r1 → RunsOn r0 r1
runs_on runs keeps = record { before = runs; after = keeps.runs; length_stays = keeps.length_stays; settings_stay = keeps.settings_stay }

pub none_some : {x : List ℕ} → ◌≡◌ {A = Option (List ℕ)} None (Some x) → ⊥
none_some same = cc

pub some_same : {x y : List ℕ} → ◌≡◌ {A = Option (List ℕ)} (Some x) (Some y) → x ≡ y
some_same same = cc

-- a page of which no record is read in a slot holds none there
pub unread_none : {pages : Pages} {h : Header} {held : Held} → HoldsBehind pages h held → (page slot : ℕ) (bytes : List ℕ) → pages page ≡ Some bytes
    → (IsSlotted bytes → slice_index_or (slots_of bytes) slot None ≡ None) → (there : Option (List ℕ)) → held.records page slot ≡ there → held.records page slot ≡ None
unread_none holds page slot bytes is empty None there = there
unread_none {pages = pages} holds page slot bytes is empty (Some record_bytes) there = unslotted_none holds page slot (λ low other other_is slotted.
    let same = some_same (sym other_is ∙ is) in
    let none = empty (subst IsSlotted same slotted) in
    none_some (sym (holds.records page slot ∙ page_records holds page (slots_of bytes) (record { bytes = bytes; there = is; slotted = subst IsSlotted same slotted; are = refl }) slot ∙ none) ∙ there))

module _ {D : Type 0} (d : Ghosts D) (r0 r1 : Records) (x0 x1 : D) (named : ℕ) where
  -- the room page wasn't slotted
  pub room_refused : (Few : Held → Type 0) (e : StoreError) → r0.head.room ≢ 0 → NotFound d (NoSlots r0.head.room r0) named e r0 r1 x0 x1 → NotPut d Few named e r0 r1 x0 x1
  room_refused Few error.Disk some refused = refused
  room_refused Few (error.Damaged page) some refused = (refused.0, refused.1, λ was held step holds. let room = room_slotted holds some in refused.2 was step room.0 room.1.0 room.1.1)
  room_refused Few error.Full some refused = absurd refused
  room_refused Few error.Memory some refused = absurd refused
  room_refused Few error.Ended some refused = absurd refused
  room_refused Few error.Exists some refused = absurd refused
  room_refused Few error.NotAStore some refused = absurd refused

  pub put_memory : (Few : Held → Type 0) (e : StoreError) → e ≡ error.Memory → KeepsLog r0 r1 → NotPut d Few named e r0 r1 x0 x1
  put_memory Few e same keeps = subst (λ (x : StoreError). NotPut d Few named x r0 r1 x0 x1) (sym same) keeps

  pub put_fewer : (Few Fewer : Held → Type 0) (e : StoreError) → ((held : Held) → Fewer held → Few held) → NotPut d Fewer named e r0 r1 x0 x1 → NotPut d Few named e r0 r1 x0 x1
  put_fewer Few Fewer error.Disk more refused = refused
  put_fewer Few Fewer (error.Damaged page) more refused = refused
  put_fewer Few Fewer error.Full more refused = (refused.0, refused.1, λ was held step holds. more held (refused.2 was held step holds))
  put_fewer Few Fewer error.Memory more refused = refused
  put_fewer Few Fewer error.Ended more refused = refused
  put_fewer Few Fewer error.Exists more refused = refused
  put_fewer Few Fewer error.NotAStore more refused = refused

  pub take_refused : (e : StoreError) → has_ended r0 ≡ false → r0.head.pages ≤ 2 ^ 32 → NotTaken d named e r0 r1 x0 x1 → NotPut d (λ held. held.free ≡ 0) named e r0 r1 x0 x1
  take_refused error.Disk runs few refused = refused
  take_refused (error.Damaged page) runs few refused = (
    refused.0,
    refused.1,
    λ was held step holds.
        let none = refused.2 was step in
        let first = first_free holds.shared none.0 few in
        none.1 first.0 first.1.0 first.1.1,
  )
  take_refused error.Full runs few refused = (
    keeps_self r0 r1 runs refused.0,
    ap (λ (r : Records). has_free r) refused.0 ∙ refused.1,
    λ was held step holds. none_free holds.shared holds.free refused.1,
  )
  take_refused error.Memory runs few refused = absurd refused
  take_refused error.Ended runs few refused = absurd refused
  take_refused error.Exists runs few refused = absurd refused
  take_refused error.NotAStore runs few refused = absurd refused

  -- what the call names isn't there, since its page isn't slotted
  lacks_record : (page slot : ℕ) → SeesSo d r0 x0 (NoSlots page r0) → (saved now : Held) → StandsFor d r0 x0 saved now → now.records page slot ≡ None
  lacks_record page slot sees saved now stands =
      let none = sees (stands.keeps).image (stands.keeps).step in
      unslotted_none (stands.holds).behind page slot (λ low bytes there slotted. none low (slots_of bytes) (record { bytes = bytes; there = there; slotted = slotted; are = refl }))

  pub read_refused : (page slot : ℕ) (e : StoreError) → NotFound d (NoSlots page r0) named e r0 r1 x0 x1 → NotRead d (λ now. now.records page slot ≡ None) named e r0 r1 x0 x1
  read_refused page slot error.Disk refused = refused
  read_refused page slot (error.Damaged told) refused = record { page = refused.0; ends = refused.1; lacks = lacks_record page slot refused.2 }
  read_refused page slot error.Full refused = absurd refused
  read_refused page slot error.Memory refused = absurd refused
  read_refused page slot error.Ended refused = absurd refused
  read_refused page slot error.Exists refused = absurd refused
  read_refused page slot error.NotAStore refused = absurd refused

  pub change_refused : (page slot : ℕ) (e : StoreError) → NotFound d (NoSlots page r0) named e r0 r1 x0 x1 → NotChanged d (λ now. now.records page slot ≡ None) named e r0 r1 x0 x1
  change_refused page slot error.Disk refused = refused
  change_refused page slot (error.Damaged told) refused = record { page = refused.0; ends = refused.1; lacks = lacks_record page slot refused.2 }
  change_refused page slot error.Full refused = absurd refused
  change_refused page slot error.Memory refused = absurd refused
  change_refused page slot error.Ended refused = absurd refused
  change_refused page slot error.Exists refused = absurd refused
  change_refused page slot error.NotAStore refused = absurd refused

  pub store_refused : (needs : Held → ℕ) (page slot : ℕ) (e : StoreError) → NotFound d (NoSlots page r0) named e r0 r1 x0 x1 → NotStored d needs (λ now. now.records page slot ≡ None) named e r0 r1 x0 x1
  store_refused needs page slot error.Disk refused = refused
  store_refused needs page slot (error.Damaged told) refused = record { page = refused.0; ends = refused.1; lacks = lacks_record page slot refused.2 }
  store_refused needs page slot error.Full refused = absurd refused
  store_refused needs page slot error.Memory refused = absurd refused
  store_refused needs page slot error.Ended refused = absurd refused
  store_refused needs page slot error.Exists refused = absurd refused
  store_refused needs page slot error.NotAStore refused = absurd refused

  -- what the call names isn't there, since the slot is empty
  pub slot_damaged : (page slot : ℕ) (slots : List (Option (List ℕ))) → EndNow r0 r1 → SeesSo d r0 x0 (λ pages. HasSlots pages page slots) → slice_index_or slots slot None ≡ None
      → IsDamaged d (λ now. now.records page slot ≡ None) named named r0 r1 x0
  slot_damaged page slot slots ends sees empty = record {
    page = refl;
    ends = ends;
    lacks = λ saved now stands.
        let holds = (stands.holds).behind in
        holds.records page slot ∙ page_records holds page slots (sees (stands.keeps).image (stands.keeps).step) slot ∙ empty;
  }

  -- what a call asks of a page isn't so
  pub found_damaged : (P : Pages → Type 0) (e : StoreError) → e ≡ error.Damaged named → EndNow r0 r1 → SeesSo d r0 x0 P → NotFound d P named e r0 r1 x0 x1
  found_damaged P e same ends sees = subst (λ (x : StoreError). NotFound d P named x r0 r1 x0 x1) (sym same) (refl, ends, sees)

  pub found_wider : (P Q : Pages → Type 0) (e : StoreError) → ((pages : Pages) → P pages → Q pages) → NotFound d P named e r0 r1 x0 x1 → NotFound d Q named e r0 r1 x0 x1
  found_wider P Q error.Disk more refused = refused
  found_wider P Q (error.Damaged page) more refused = (refused.0, refused.1, λ was step. more _ (refused.2 was step))
  found_wider P Q error.Full more refused = refused
  found_wider P Q error.Memory more refused = refused
  found_wider P Q error.Ended more refused = refused
  found_wider P Q error.Exists more refused = refused
  found_wider P Q error.NotAStore more refused = refused

  -- a page that isn't there isn't slotted
  pub missing_slots : (page : ℕ) (e : StoreError) → NotFound d (λ pages. page < r0.head.pages → pages page ≡ None) named e r0 r1 x0 x1 → NotFound d (NoSlots page r0) named e r0 r1 x0 x1
  missing_slots page e = found_wider (λ pages. page < r0.head.pages → pages page ≡ None) (NoSlots page r0) e
      (λ pages none low slots has. none_some (sym (none low) ∙ has.there))

  -- a put that gave up, told of what is held now
  pub put_stored : (needs : Held → ℕ) (Few : Held → Type 0) (Lacks : Held → Type 0) (e : StoreError) → has_ended r0 ≡ false → IsStill d x0 x1 → ((held : Held) → Few held → held.free < needs held)
      → NotPut d Few named e r0 r1 x0 x1 → NotStored d needs Lacks named e r0 r1 x0 x1
  put_stored needs Few Lacks error.Disk runs still few refused = refused
  put_stored needs Few Lacks (error.Damaged told) runs still few refused = record {
    page = refused.0;
    ends = refused.1;
    lacks = λ saved now stands. absurd (refused.2 (stands.keeps).image now (stands.keeps).step (stands.holds).behind);
  }
  put_stored needs Few Lacks error.Full runs still few refused = record {
    runs = runs_on runs refused.0;
    none_free = refused.1;
    few = λ saved now stands. few now (refused.2 (stands.keeps).image now (stands.keeps).step (stands.holds).behind);
    keeps = saved_kept refused.0 still;
  }
  put_stored needs Few Lacks error.Memory runs still few refused = (runs_on runs refused, saved_kept refused still)
  put_stored needs Few Lacks error.Ended runs still few refused = absurd refused
  put_stored needs Few Lacks error.Exists runs still few refused = absurd refused
  put_stored needs Few Lacks error.NotAStore runs still few refused = absurd refused

  pub memory_stored : (needs : Held → ℕ) (Lacks : Held → Type 0) (e : StoreError) → e ≡ error.Memory → has_ended r0 ≡ false → IsStill d x0 x1 → KeepsLog r0 r1 → NotStored d needs Lacks named e r0 r1 x0 x1
  memory_stored needs Lacks e same runs still keeps = subst (λ (x : StoreError). NotStored d needs Lacks named x r0 r1 x0 x1) (sym same) (runs_on runs keeps, saved_kept keeps still)

  pub memory_changed : (Lacks : Held → Type 0) (e : StoreError) → e ≡ error.Memory → has_ended r0 ≡ false → IsStill d x0 x1 → KeepsLog r0 r1 → NotChanged d Lacks named e r0 r1 x0 x1
  memory_changed Lacks e same runs still keeps = subst (λ (x : StoreError). NotChanged d Lacks named x r0 r1 x0 x1) (sym same) (runs_on runs keeps, saved_kept keeps still)

-- a refusal behind calls that asked the disk alone
pub later_refused : {D : Type 0} {d : Ghosts D} {r0 r1 : Records} {x0 x1 : D} (r2 : Records) (x2 : D) (Few : Held → Type 0) (named : ℕ) (e : StoreError) → r1 ≡ r0 → IsStill d x0 x1 → NotPut d Few named e r1 r2 x1 x2
    → NotPut d Few named e r0 r2 x0 x2
later_refused {d = d} {r0 = r0} {r1 = r1} {x0 = x0} {x1 = x1} r2 x2 Few named e same still refused =
    subst (λ (r : Records). NotPut d Few named e r r2 x0 x2) same (go e refused)
  where
    earlier : {P : Held → Type 0} → HoldsSo d r1 x1 P → HoldsSo d r1 x0 P
    earlier so was held step holds = so was held (record { settled = settled_still still step.settled; follows = step.follows }) holds

    go : (e : StoreError) → NotPut d Few named e r1 r2 x1 x2 → NotPut d Few named e r1 r2 x0 x2
    go error.Disk refused =
        let rose : min (d.faults x1 + 1) (2 ^ 64 - 1) ≤ d.faults x2 = refused.0 in
        let later : d.faults x0 ≤ d.faults x1 = still.faults_later in
        (omega (arith, rose, later), refused.1)
    go (error.Damaged page) refused = (refused.0, refused.1, earlier refused.2)
    go error.Full refused = (refused.0, refused.1, earlier refused.2)
    go error.Memory refused = refused
    go error.Ended refused = absurd refused
    go error.Exists refused = absurd refused
    go error.NotAStore refused = absurd refused

-- records that were ended in this call
pub ended_now : {r0 r1 r2 : Records} → has_ended r0 ≡ false → r1 ≡ r0 → (has_ended r2 ≡ true) × (r2.wal ≡ r1.wal) × (r2.saved ≡ r1.saved) × (r2.head ≡ r1.head) → EndNow r0 r2
ended_now runs same ended = record {
  before = runs;
  after = ended.0;
  length_stays = ap (λ (w : Wal). length_of w) ended.1 ∙ ap (λ (r : Records). log_length_of r) same;
  settings_stay = ap (λ (h : Header). h.settings) ended.3 ∙ ap (λ (r : Records). settings_of r) same;
}

-- records that were ended behind steps
pub ends_later : {r0 r1 r2 : Records} → has_ended r0 ≡ false → KeepsLog r0 r1 → EndNow r1 r2 → EndNow r0 r2
ends_later runs keeps ends = record {
  before = runs;
  after = ends.after;
  length_stays = ends.length_stays ∙ keeps.length_stays;
  settings_stay = ends.settings_stay ∙ keeps.settings_stay;
}

-- a record was taken out, and putting it elsewhere gave up
module _ {D : Type 0} (d : Ghosts D) (r0 r1 r2 : Records) (x0 x2 : D) (Comes : Held → Held → Type 0) where
  pub moved_refused : (Few : Held → Type 0) (named : ℕ) (e : StoreError) → has_ended r0 ≡ false → KeepsLog r0 r1 → StepsTo d r0 r1 x0 Comes
      → ((was : Image) (held mid : Held) → IsInStep d r0.wal x0 was → HoldsBehind (current r0.wal was) r0.head held → Comes held mid → mid.free ≡ 0 → Few held)
      → NotPut d (λ held. held.free ≡ 0) named e r1 r2 x0 x2 → NotPut d Few named e r0 r2 x0 x2
  moved_refused Few named error.Disk runs keeps steps few refused = (refused.0, ends_later {r0 = r0} {r1 = r1} {r2 = r2} runs keeps refused.1)
  moved_refused Few named (error.Damaged page) runs keeps steps few refused = (
    refused.0,
    ends_later {r0 = r0} {r1 = r1} {r2 = r2} runs keeps refused.1,
    λ was held step holds. let mid = steps was held step holds in refused.2 was mid.0 (step_kept {r0 = r0} {r1 = r1} keeps none_still step) mid.1,
  )
  moved_refused Few named error.Full runs keeps steps few refused = (
    keeps_then {r0 = r0} {r1 = r1} {r2 = r2} keeps refused.0,
    refused.1,
    λ was held step holds. let mid = steps was held step holds in few was held mid.0 step holds mid.2 (refused.2 was mid.0 (step_kept {r0 = r0} {r1 = r1} keeps none_still step) mid.1),
  )
  moved_refused Few named error.Memory runs keeps steps few refused = keeps_then {r0 = r0} {r1 = r1} {r2 = r2} keeps refused
  moved_refused Few named error.Ended runs keeps steps few refused = absurd refused
  moved_refused Few named error.Exists runs keeps steps few refused = absurd refused
  moved_refused Few named error.NotAStore runs keeps steps few refused = absurd refused

  -- ... and putting it elsewhere went well
  pub moved_steps : (Goes Ends : Held → Held → Type 0) → KeepsLog r0 r1 → StepsTo d r0 r1 x0 Comes → StepsTo d r1 r2 x0 Goes
      → ((was : Image) (held mid next : Held) → IsInStep d r0.wal x0 was → HoldsBehind (current r0.wal was) r0.head held → Comes held mid → Goes mid next → Ends held next) → StepsTo d r0 r2 x0 Ends
  moved_steps Goes Ends keeps first second joined was held step holds =
      let mid = first was held step holds in
      let next = second was mid.0 (step_kept {r0 = r0} {r1 = r1} keeps none_still step) mid.1 in
      (next.0, next.1, joined was held mid.0 next.0 step holds mid.2 next.2)
