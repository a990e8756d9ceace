-- What each call of a receiver does to what it applies.
use Rattle.std.proofs.Common.{◌≡◌, ◌⊎◌, ℕ, ◌<◌, ◌≤◌, true, false, List, [], ◌∷◌, ◌++◌, length, Option, None, Some, refl, sym, ap, subst, ◌∙◌, arith, inl, inr}
use Rattle.std.specs.Prelude.{IsSome, Result, Ok, Err, IfErr, OnOk}
use Rattle.std.proofs.lemmas.Bool.{false≢true}
use Rattle.nx_host.specs.Disk.{Image, Keeps}
use Rattle.nx_host.specs.Host.{Appends}
use Rattle.nx_host.specs.Time.{Elapses, elapsed_then, elapsed_weaker}
use Rattle.nx_host.specs.Still.{WritesAlone}
use Rattle.nx_host.specs.declared.disk.Disk.{Ghosts}
use Rattle.nx_host.proofs.DiskLemmas.{settled_kept}
use Rattle.nx_replay.specs.Log.{Pages, Entry, Group, over, entry_pages, replay, Stays, HasSame, HasGroup}
use Rattle.nx_replay.specs.Log as log
use Rattle.nx_wal.specs.Wal.{Follows, IsInStep, length_of, pending, next_group, wal_ended, Refused}
use Rattle.nx_wal.specs.declared.error.WalError.{WalError}
use Rattle.nx_wal.specs.declared.error.WalError.TheVariants as wal_error
use Rattle.nx_ship.specs.Faults.{error_of_log}
use Rattle.nx_wal.specs.declared.wal.Wal.{Wal}
use Rattle.nx_ship.specs.Next.{number_following}
use Rattle.nx_ship.specs.Sending.{Sends}
use Rattle.nx_ship.specs.declared.error.ShipError.{ShipError}
use Rattle.nx_ship.specs.declared.error.ShipError.TheVariants as error
use Rattle.nx_ship.specs.Applying.{most_log, ShowsApplied, applied_text, line_for}
use Rattle.nx_ship.specs.Receiving.{IsTakeFault, LeavesInput, LeavesStream, RefusesNumber, HasApplied, KeepsUp, is_next_number, BeginsGroup, AppliesNone, KeepsPage, WaitsPage, CommitsGroup, StopsCommitting}
use Rattle.nx_ship.specs.declared.receiver.Receiver.{Receiver}
use Rattle.nx_ship.proofs.ApplyingLemmas.{applied_on, applied_more, shows_commit, shows_part, shows_longer, dense_before, dense_behind}
use Rattle.nx_ship.proofs.ReceivingLemmas.{empty_or_not, as_ready, kept_short, dropped, followed, moved, moving, kept_page, passed_page, known_more, laid, laid_over, committing}
use Rattle.nx_ship.proofs.EntryLemmas.{header_before, differ}
use Rattle.nx_ship.proofs.SendLemmas.{appends_kept, appends_none, rose_since}
use Rattle.nx_ship.proofs.SendingLemmas.{told_before}
use Rattle.nx_host.proofs.OutputLemmas.{appends_then}
use Rattle.nx_ship.specs.Reading.{AreUnderWay}

kept_first : (x : List ℕ) (a b c : Option (List ℕ)) → Keeps a b → Appends x b c → Appends x a c
kept_first x a b c keeps appends = appends_then [] x a b c (appends_none a b keeps) appends

module _ {D : Type 0} {d : Ghosts D} where
  -- Where the log is long:

  -- page 0 of a group waits
  pub begins_on : {r : Receiver} {a : D} → 0 < length (pending r.wal) → BeginsGroup d r r a a
  begins_on {r = r} waits start first groups es header next applying =
      let some : 0 < length es = elim (empty_or_not es) [
        | inl none ↦ absurd (let long : length (pending r.wal) ≡ 0 = ap (λ (ps : List Entry). length ps) ((applying.knows).none none) in omega (arith, long, waits))
        | inr some ↦ some
      ] in
      record {
        knows = applying.knows;
        shows = λ dense told. let (applied, up) = applying.shows dense told in (applied, as_ready (λ any. (some, next)) up);
      }

  pub begins_short : {old new : Receiver} {a : D} → LeavesStream old new → ((log : List ℕ) → Follows old.wal log → Follows new.wal log) → pending new.wal ≡ [] → entry_pages (pending old.wal) 0 ≡ None
      → length_of new.wal ≤ most_log → BeginsGroup d old new a a
  begins_short stays follows none missing short start first groups es header next applying = record {
    knows = dropped stays none missing header applying.knows;
    shows = λ dense told. let (applied, up) = applying.shows dense told in (applied, kept_short short (followed follows up));
  }

  pub begins_moved : {old new : Receiver} {wal : Wal} {a b : D} → LeavesStream old new → ((log : List ℕ) → Follows old.wal log → Follows wal log) → entry_pages (pending old.wal) 0 ≡ None
      → pending new.wal ≡ [] → most_log < length_of wal → WritesAlone d a b (λ i. (was : Image) → IsInStep d wal a was → Stays (replay was) (replay i))
      → ((was now : Image) → IsInStep d wal a was → d.contents b ≡ Some now → IsInStep d new.wal b now × Stays (replay was) (replay now) × (log.groups now.log ≡ [])) → BeginsGroup d old new a b
  begins_moved stays follows missing none long writes ok start first groups es header next applying = record {
    knows = dropped stays none missing header applying.knows;
    shows = λ dense told.
        let (applied, before) = applying.shows dense (writes.told told) in
        let up = followed follows before in
        let whole = dense_behind start groups dense in
        (applied_on applied (moving whole told up writes) (writes.beside_stays).output, moved long whole told ok up);
  }

  -- the checkpoint was cut short
  pub moves_none : {old : Receiver} {wal : Wal} {a b : D} → ((log : List ℕ) → Follows old.wal log → Follows wal log)
      → WritesAlone d a b (λ i. (was : Image) → IsInStep d wal a was → Stays (replay was) (replay i)) → AppliesNone d old a b
  moves_none follows writes start first groups es applying dense told =
      let (applied, up) = applying.shows dense (writes.told told) in
      (applied_on applied (moving (dense_behind start groups dense) told (followed follows up) writes) (writes.beside_stays).output).time

  -- One call after another:

  pub begun_keeps : {old mid new : Receiver} {a b c : D} (page : Entry) → is_next_number old.last old.reader.number ≡ true → BeginsGroup d old mid a b → LeavesStream old mid → WaitsPage d page mid new b c
      → KeepsPage d page old new a c
  begun_keeps {old = old} page next begins stays keeps start first groups es under applying =
      keeps start first groups es (subst (λ r. AreUnderWay r.number (es ++ page ∷ [])) (sym stays.reader) under)
      (begins start first groups es (λ some. header_before old.reader.number es (page ∷ []) some under.header) next applying)

  -- A page more:

  pub puts_page : {old new : Receiver} {a : D} (page : Entry) → LeavesStream old new → ((log : List ℕ) → Follows old.wal log → Follows new.wal log)
      → entry_pages (pending new.wal) ≡ over (entry_pages (page ∷ [])) (entry_pages (pending old.wal)) → WaitsPage d page old new a a
  puts_page page stays follows puts start first groups es under applying = record {
    knows = kept_page page stays puts under applying.knows;
    shows = λ dense told. let (applied, up) = applying.shows dense told in (applied, as_ready (λ any. tt) (followed follows up));
  }

  pub passes_page : {r : Receiver} {a : D} (page : Entry) → is_next_number r.last r.reader.number ≡ false → KeepsPage d page r r a a
  passes_page page not_next start first groups es under applying = record {
    knows = passed_page page not_next applying.knows;
    shows = λ dense told. let (applied, up) = applying.shows dense told in (applied, as_ready (λ ready. absurd (false≢true (sym not_next ∙ ready.1))) up);
  }

  -- A commit:

  -- nothing was written yet
  pub commit_unbegun : {old : Receiver} {a : D} → StopsCommitting d old a a
  commit_unbegun {old = old} start first groups es some comes next applying dense told =
      let g : Group = record { number = old.reader.number; entries = es } in
      let (applied, up) = applying.shows dense told in
      elapsed_weaker applied.time (λ s h. shows_longer (d.beside first).output start groups (g ∷ []) s h)

  commit_time : (old : Receiver) (es : List Entry) {start : Pages} {first a b : D} {groups : List Group} {Ready : Type 0} → IsSome (d.contents b) → entry_pages (pending old.wal) ≡ entry_pages es
      → WritesAlone d a b (λ i. (was : Image) → IsInStep d old.wal a was → HasSame was i ⊎ HasGroup (next_group old.reader.number old.wal) was i)
      → HasApplied d start first groups a → KeepsUp d start first groups old.wal Ready a
      → Elapses d.moment d.stood_since a b (ShowsApplied (d.beside first).output start (groups ++ record { number = old.reader.number; entries = es } ∷ []))
  commit_time old es {start = start} {first = first} {a = a} {groups = groups} told waits writes applied up =
      elapsed_weaker (committing old es told waits up writes)
      (λ s h. shows_commit (d.beside first).output (d.beside a).output start groups (record { number = old.reader.number; entries = es }) up.image s applied.out h.0 up.is h.1)

  -- it failed
  pub commit_failed : {old : Receiver} {a b : D} → WritesAlone d a b (λ i. (was : Image) → IsInStep d old.wal a was → HasSame was i ⊎ HasGroup (next_group old.reader.number old.wal) was i)
      → StopsCommitting d old a b
  commit_failed {old = old} writes start first groups es some comes next applying dense told =
      let g : Group = record { number = old.reader.number; entries = es } in
      let (applied, up) = applying.shows dense (writes.told told) in
      elapsed_then (elapsed_weaker applied.time (λ s h. shows_longer (d.beside first).output start groups (g ∷ []) s h))
      (commit_time old es told ((applying.knows).waits some next) writes applied up) (λ s h. h)

  -- the moments until the line is given
  given_time : (old : Receiver) (es : List Entry) {wal : Wal} {start : Pages} {first a b c : D} {groups : List Group} {Ready : Type 0} → IsSome (d.contents b) → entry_pages (pending old.wal) ≡ entry_pages es
      → WritesAlone d a b (λ i. (was : Image) → IsInStep d old.wal a was → HasSame was i ⊎ HasGroup (next_group old.reader.number old.wal) was i)
      → ((was now : Image) → IsInStep d old.wal a was → d.contents b ≡ Some now → IsInStep d wal b now × HasGroup (next_group old.reader.number old.wal) was now)
      → Sends d (line_for old.reader.number) b c → HasApplied d start first groups a → KeepsUp d start first groups old.wal Ready a
      → Elapses d.moment d.stood_since a c (ShowsApplied (d.beside first).output start (groups ++ record { number = old.reader.number; entries = es } ∷ []))
  given_time old es {start = start} {first = first} {a = a} {b = b} {groups = groups} told waits writes ok sends applied up =
      let g : Group = record { number = old.reader.number; entries = es } in
      let (now, step, is) = laid_over old es told waits ok up in
      let out = appends_kept (applied_text groups) (d.beside first).output (d.beside a).output (d.beside b).output applied.out (writes.beside_stays).output in
      elapsed_then (commit_time old es told waits writes applied up) sends.time
      (λ s h. shows_part (d.beside first).output (d.beside b).output start groups g s out h.0 (ap (λ (i : Image). replay i) ((step.settled).only s.image h.1) ∙ is))

  -- its line wasn't given whole
  pub commit_ungiven : {old : Receiver} {wal : Wal} {a b c : D}
      → WritesAlone d a b (λ i. (was : Image) → IsInStep d old.wal a was → HasSame was i ⊎ HasGroup (next_group old.reader.number old.wal) was i)
      → ((was now : Image) → IsInStep d old.wal a was → d.contents b ≡ Some now → IsInStep d wal b now × HasGroup (next_group old.reader.number old.wal) was now)
      → Sends d (line_for old.reader.number) b c → StopsCommitting d old a c
  commit_ungiven {old = old} {b = b} {c = c} writes ok sends start first groups es some comes next applying dense told =
      let g : Group = record { number = old.reader.number; entries = es } in
      let told_b : IsSome (d.contents b) = told_before (d.contents b) (d.contents c) sends.contents_stay told in
      let (applied, up) = applying.shows dense (writes.told told_b) in
      elapsed_then (elapsed_weaker applied.time (λ s h. shows_longer (d.beside first).output start groups (g ∷ []) s h))
      (given_time old es told_b ((applying.knows).waits some next) writes ok sends applied up) (λ s h. h)

  -- the group is in
  pub commit_given : {old new : Receiver} {a b c : D} → new.last ≡ Some old.reader.number → pending new.wal ≡ []
      → WritesAlone d a b (λ i. (was : Image) → IsInStep d old.wal a was → HasSame was i ⊎ HasGroup (next_group old.reader.number old.wal) was i)
      → ((was now : Image) → IsInStep d old.wal a was → d.contents b ≡ Some now → IsInStep d new.wal b now × HasGroup (next_group old.reader.number old.wal) was now)
      → Appends (line_for old.reader.number) (d.beside b).output (d.beside c).output → Sends d (line_for old.reader.number) b c → CommitsGroup d old new a c
  commit_given {old = old} {a = a} {b = b} {c = c} last none writes ok out sends start first groups es some under comes next applying =
      let g : Group = record { number = old.reader.number; entries = es } in
      let waits = (applying.knows).waits some next in
      record {
        knows = known_more last none under.header comes applying.knows;
        shows = λ dense told.
            let told_b : IsSome (d.contents b) = told_before (d.contents b) (d.contents c) sends.contents_stay told in
            let (applied, up) = applying.shows (dense_before start groups (g ∷ []) dense) (writes.told told_b) in
            let in_now = laid old es told_b under.rises waits ok (as_ready (λ any. (some, next)) up) in (
              applied_more g applied (given_time old es told_b waits writes ok sends applied up)
                  (kept_first (line_for old.reader.number) (d.beside a).output (d.beside b).output (d.beside c).output (writes.beside_stays).output out),
              record {
                image = in_now.image;
                step = record { settled = settled_kept sends.contents_stay told (λ i. (sends.images_stay i).0) (in_now.step).settled; follows = (in_now.step).follows };
                is = in_now.is;
                logged = in_now.logged;
                ready = λ ready. absurd (let none = ready.0 in omega (arith, none));
              },
            );
      }

-- What waits:

no_entries : (es : List Entry) → length es ≡ 0 → es ≡ []
no_entries [] none = refl
no_entries (e ∷ es) none = absurd (omega (arith, none))

pub some_waits : {T : Type 0} (es : List Entry) (x : T) (f : T → List ℕ) → Some (f x) ≡ entry_pages es 0 → 0 < length es
some_waits [] x f is = absurd (let h : Some (f x) ≡ None = is in cc)
some_waits (e ∷ es) x f is = omega arith

pub not_next : (last : Option ℕ) (number : ℕ) (e : ShipError) → RefusesNumber last number e → is_next_number last number ≡ false
not_next (Some last) number (error.Repeat n l) (a, b, apart, most) = differ number (number_following last) apart
not_next (Some last) number (error.Gap n l) (a, b, apart, most) = differ number (number_following last) apart
not_next (Some last) number error.Disk refuses = absurd refuses
not_next (Some last) number error.Write refuses = absurd refuses
not_next (Some last) number error.Memory refuses = absurd refuses
not_next (Some last) number error.Read refuses = absurd refuses
not_next (Some last) number error.NotAStore refuses = absurd refuses
not_next (Some last) number error.TooMuch refuses = absurd refuses
not_next (Some last) number (error.Damaged page) refuses = absurd refuses
not_next (Some last) number (error.NoGroup from l) refuses = absurd refuses
not_next (Some last) number (error.Base n) refuses = absurd refuses
not_next (Some last) number (error.Stream offset) refuses = absurd refuses
not_next None number error.Disk refuses = absurd refuses
not_next None number error.Write refuses = absurd refuses
not_next None number error.Memory refuses = absurd refuses
not_next None number error.Read refuses = absurd refuses
not_next None number error.NotAStore refuses = absurd refuses
not_next None number error.TooMuch refuses = absurd refuses
not_next None number (error.Damaged page) refuses = absurd refuses
not_next None number (error.NoGroup from l) refuses = absurd refuses
not_next None number (error.Repeat n l) refuses = absurd refuses
not_next None number (error.Gap n l) refuses = absurd refuses
not_next None number (error.Base n) refuses = absurd refuses
not_next None number (error.Stream offset) refuses = absurd refuses

-- Errors of the log, after calls that left the counts as they may be:

pub log_fault : {D : Type 0} (d : Ghosts D) (old new : Wal) (a b : D) (e : WalError) → Refused d e old new a b → IsTakeFault d (error_of_log e) a b
log_fault d old new a b wal_error.Disk refused = refused.0
log_fault d old new a b wal_error.Ended refused = tt
log_fault d old new a b wal_error.Exists refused = tt
log_fault d old new a b wal_error.NotAStore refused = tt
log_fault d old new a b wal_error.Memory refused = tt

-- no page waits behind a checkpoint, nor behind one that was refused
pub none_waits : {D : Type 0} (d : Ghosts D) (old new : Wal) (a b : D) (result : Result (Unit {0}) WalError) → pending old ≡ [] → OnOk result ((length_of new ≡ 0) × (pending new ≡ []) × (wal_ended old ≡ false) × (wal_ended new ≡ false))
    → IfErr result (λ e. Refused d e old new a b) → pending new ≡ []
none_waits d old new a b (Ok x) none (length_none, empty, before, after) refused = empty
none_waits d old new a b (Err wal_error.Disk) none empty refused = (refused.1).pending_stays ∙ none
none_waits d old new a b (Err wal_error.Ended) none empty (ended, same, kept) = ap (λ (w : Wal). pending w) same ∙ none
none_waits d old new a b (Err wal_error.Exists) none empty refused = absurd refused
none_waits d old new a b (Err wal_error.NotAStore) none empty refused = absurd refused
none_waits d old new a b (Err wal_error.Memory) none empty refused = absurd refused

pub fault_later : {D : Type 0} (d : Ghosts D) (a b c : D) (e : ShipError) → LeavesInput d a b → IsTakeFault d e b c → IsTakeFault d e a c
fault_later d a b c error.Disk leaves fault = rose_since (d.faults a) (d.faults b) (d.faults c) leaves.faults_later fault
fault_later d a b c error.Write leaves fault = rose_since (d.beside a).out_faults (d.beside b).out_faults (d.beside c).out_faults leaves.out_faults_later fault
fault_later d a b c error.Memory leaves fault = tt
fault_later d a b c (error.Repeat n l) leaves fault = tt
fault_later d a b c (error.Gap n l) leaves fault = tt
fault_later d a b c (error.Base n) leaves fault = tt
fault_later d a b c (error.Stream offset) leaves fault = tt
fault_later d a b c error.Read leaves fault = absurd fault
fault_later d a b c error.NotAStore leaves fault = absurd fault
fault_later d a b c error.TooMuch leaves fault = absurd fault
fault_later d a b c (error.Damaged page) leaves fault = absurd fault
fault_later d a b c (error.NoGroup from l) leaves fault = absurd fault

module _ {D : Type 0} {d : Ghosts D} where
  pub sends_leaves : {bytes : List ℕ} {a b : D} → Sends d bytes a b → LeavesInput d a b
  sends_leaves {a = a} {b = b} sends = record {
    told = λ told. told_before (d.contents a) (d.contents b) sends.contents_stay told;
    input_stays = sends.input_stays;
    in_faults_stay = sends.in_faults_stay;
    out_faults_later = sends.out_faults_later;
    faults_later = sends.faults_later;
  }
