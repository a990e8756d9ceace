-- How bytes are sent, a part behind another.
use Rattle.std.proofs.Common.{◌≡◌, ℕ, ◌≤◌, List, [], ◌++◌, Option, None, Some, refl, sym, ap, subst, ◌∙◌, arith, append_assoc, append-nil}
use Rattle.std.specs.Prelude.{IsSome, Result, Ok, Err, OnErr, IfErr}
use Rattle.nx_host.specs.Disk.{Image, Keeps, Rose}
use Rattle.nx_host.specs.Host.{Appends, AppendsPrefix}
use Rattle.nx_host.specs.Time.{Elapses, none_elapsed, elapsed_then, elapsed_weaker}
use Rattle.nx_host.specs.Still.{IsStill}
use Rattle.nx_host.specs.declared.disk.Disk.{Ghosts}
use Rattle.nx_host.proofs.DiskLemmas.{keeps_self, keeps_then, settled_kept}
use Rattle.nx_host.proofs.OutputLemmas.{appends_nothing, appends_then, prefix_more, prefix_then, keeps_prefix}
use Rattle.nx_wal.specs.Wal.{IsInStep, Refused}
use Rattle.nx_wal.specs.declared.wal.Wal.{Wal}
use Rattle.nx_wal.specs.declared.error.WalError.{WalError}
use Rattle.nx_wal.specs.declared.error.WalError.TheVariants as wal_error
use Rattle.nx_ship.specs.Faults.{error_of_log}
use Rattle.nx_ship.specs.Sending.{Sends}
use Rattle.nx_ship.specs.Sent.{HasSent, SendsMore, SendsSome, IsSendFault, IsCutShort}
use Rattle.nx_ship.specs.declared.error.ShipError.{ShipError}
use Rattle.nx_ship.specs.declared.error.ShipError.TheVariants as error

-- nothing more was given
pub appends_kept : (bytes : List ℕ) (a b c : Option (List ℕ)) → Appends bytes a b → Keeps b c → Appends bytes a c
appends_kept bytes a b None appends keeps = tt
appends_kept bytes a b (Some now) appends keeps = subst (λ (o : Option (List ℕ)). Appends bytes a o) keeps appends

pub appends_none : (a b : Option (List ℕ)) → Keeps a b → Appends [] a b
appends_none a b keeps = appends_kept [] a a b (appends_nothing a) keeps

pub rose_since : (a b c : ℕ) → a ≤ b → Rose b c → Rose a c
rose_since a b c later rose = omega (arith, later, rose)

module _ {D : Type 0} {d : Ghosts D} where
  -- before the first call
  pub sends_self : (bytes : List ℕ) (a : D) → Sends d bytes a a
  sends_self bytes a = record {
    contents_stay = keeps_self (d.contents a);
    images_stay = λ i. (λ h. h, λ h. h);
    input_stays = keeps_self (d.beside a).input;
    in_faults_stay = refl;
    out_faults_later = omega arith;
    faults_later = omega arith;
    time = none_elapsed;
  }

  -- who asks the disk alone gives a prefix of anything
  pub still_sends : (bytes : List ℕ) {a b : D} → IsStill d a b → Sends d bytes a b
  still_sends bytes {a = a} {b = b} still = record {
    contents_stay = subst (λ o. Keeps (d.contents a) o) (sym still.contents_stay) (keeps_self (d.contents a));
    images_stay = still.images_stay;
    input_stays = (still.beside_stays).input;
    in_faults_stay = (still.beside_stays).in_faults;
    out_faults_later = let same = (still.beside_stays).out_faults in omega (arith, same);
    faults_later = still.faults_later;
    time = elapsed_weaker still.time (λ s h. (keeps_prefix bytes (d.beside a).output s.output h.0, h.1));
  }

  -- a prefix of these bytes is one of more bytes
  pub sends_prefix : (bytes more : List ℕ) {a b : D} → Sends d bytes a b → Sends d (bytes ++ more) a b
  sends_prefix bytes more {a = a} sends = record {
    contents_stay = sends.contents_stay;
    images_stay = sends.images_stay;
    input_stays = sends.input_stays;
    in_faults_stay = sends.in_faults_stay;
    out_faults_later = sends.out_faults_later;
    faults_later = sends.faults_later;
    time = elapsed_weaker sends.time (λ s h. (prefix_more bytes more (d.beside a).output s.output h.0, h.1));
  }

  -- first some of the bytes, and then a prefix of the others
  pub sends_then : (done rest : List ℕ) {a b c : D} → Appends done (d.beside a).output (d.beside b).output → Sends d (done ++ rest) a b → Sends d rest b c → Sends d (done ++ rest) a c
  sends_then done rest {a = a} {b = b} {c = c} appends first second = record {
    contents_stay = keeps_then (d.contents a) (d.contents b) (d.contents c) first.contents_stay second.contents_stay;
    images_stay = λ i. (λ h. (first.images_stay i).0 ((second.images_stay i).0 h), λ h. (second.images_stay i).1 ((first.images_stay i).1 h));
    input_stays = keeps_then (d.beside a).input (d.beside b).input (d.beside c).input first.input_stays second.input_stays;
    in_faults_stay = second.in_faults_stay ∙ first.in_faults_stay;
    out_faults_later = let x : (d.beside a).out_faults ≤ (d.beside b).out_faults = first.out_faults_later in let y : (d.beside b).out_faults ≤ (d.beside c).out_faults = second.out_faults_later in omega (arith, x, y);
    faults_later = let x : d.faults a ≤ d.faults b = first.faults_later in let y : d.faults b ≤ d.faults c = second.faults_later in omega (arith, x, y);
    time = elapsed_then first.time second.time (λ s h. (prefix_then done rest (d.beside a).output (d.beside b).output s.output appends h.0, (first.images_stay s.image).0 h.1));
  }

  -- nothing was sent yet, and this waits
  pub sent_none : (block : List ℕ) (a : D) → HasSent d block block a a
  sent_none block a = record { laid = []; split = refl; out = appends_nothing (d.beside a).output; sends = sends_self block a }

  -- these bytes wait besides
  pub adds_block : (x block : List ℕ) {a : D} → SendsMore d x block (block ++ x) a a
  adds_block x block so_far first sent = record {
    laid = sent.laid;
    split = sym (append_assoc sent.laid block x) ∙ ap (λ (l : List ℕ). l ++ x) sent.split;
    out = sent.out;
    sends = sends_prefix so_far x sent.sends;
  }

  -- the block was given
  pub gives_block : (block : List ℕ) {a b : D} → Appends block (d.beside a).output (d.beside b).output → Sends d block a b → SendsMore d [] block [] a b
  gives_block block {a = a} {b = b} appends sends so_far first sent =
      let all : HasSent d so_far [] first b = record {
        laid = so_far;
        split = append-nil so_far;
        out = subst (λ (l : List ℕ). Appends l (d.beside first).output (d.beside b).output) sent.split
            (appends_then sent.laid block (d.beside first).output (d.beside a).output (d.beside b).output sent.out appends);
        sends = subst (λ (l : List ℕ). Sends d l first b) sent.split
            (sends_then sent.laid block sent.out (subst (λ (l : List ℕ). Sends d l first a) (sym sent.split) sent.sends) sends);
      } in
      subst (λ (l : List ℕ). HasSent d l [] first b) (sym (append-nil so_far)) all

  -- a first part of it was
  pub gives_some : (block : List ℕ) {a b : D} → Sends d block a b → SendsSome d [] block a b
  gives_some block {a = a} {b = b} sends so_far first sent =
      subst (λ (l : List ℕ). Sends d l first b) (sym (append-nil so_far))
      (subst (λ (l : List ℕ). Sends d l first b) sent.split
      (sends_then sent.laid block sent.out (subst (λ (l : List ℕ). Sends d l first a) (sym sent.split) sent.sends) sends))

  -- nothing was
  pub gives_none : (block : List ℕ) {a : D} → SendsMore d [] block block a a
  gives_none block {a = a} so_far first sent = subst (λ (l : List ℕ). HasSent d l block first a) (sym (append-nil so_far)) sent

  -- the disk was asked alone
  pub asks_more : (block : List ℕ) {a b : D} → IsStill d a b → SendsMore d [] block block a b
  asks_more block {a = a} {b = b} still so_far first sent =
      let all : HasSent d so_far block first b = record {
        laid = sent.laid;
        split = sent.split;
        out = appends_kept sent.laid (d.beside first).output (d.beside a).output (d.beside b).output sent.out (still.beside_stays).output;
        sends = subst (λ (l : List ℕ). Sends d l first b) sent.split
            (sends_then sent.laid block sent.out (subst (λ (l : List ℕ). Sends d l first a) (sym sent.split) sent.sends) (still_sends block still));
      } in
      subst (λ (l : List ℕ). HasSent d l block first b) (sym (append-nil so_far)) all

  pub more_then : (x y : List ℕ) {p q r : List ℕ} {a b c : D} → SendsMore d x p q a b → SendsMore d y q r b c → SendsMore d (x ++ y) p r a c
  more_then x y {r = r} {c = c} one two so_far first sent = subst (λ (l : List ℕ). HasSent d l r first c) (append_assoc so_far x y) (two (so_far ++ x) first (one so_far first sent))

  pub some_then : (x y : List ℕ) {p q : List ℕ} {a b c : D} → SendsMore d x p q a b → SendsSome d y q b c → SendsSome d (x ++ y) p a c
  some_then x y {c = c} one two so_far first sent = subst (λ (l : List ℕ). Sends d l first c) (append_assoc so_far x y) (two (so_far ++ x) first (one so_far first sent))

  -- what was sent is a first part of it
  pub more_some : (x : List ℕ) {p q : List ℕ} {a b : D} → SendsMore d x p q a b → SendsSome d x p a b
  more_some x one so_far first sent = (one so_far first sent).sends

  pub some_more : (x y : List ℕ) {p : List ℕ} {a b : D} → SendsSome d x p a b → SendsSome d (x ++ y) p a b
  some_more x y {b = b} one so_far first sent = subst (λ (l : List ℕ). Sends d l first b) (append_assoc so_far x y) (sends_prefix (so_far ++ x) y (one so_far first sent))

  -- nothing is a prefix of anything
  pub some_nothing : (x block : List ℕ) (a : D) → SendsSome d x block a a
  some_nothing x block a so_far first sent = sends_prefix so_far x sent.sends

  -- nothing but the disk was asked
  pub asks_some : (x block : List ℕ) {a b : D} → IsStill d a b → SendsSome d x block a b
  asks_some x block {b = b} still so_far first sent = sends_prefix so_far x (subst (λ (l : List ℕ). Sends d l first b) (append-nil so_far) ((asks_more block still) so_far first sent).sends)

  -- since an earlier state
  pub more_now : (x : List ℕ) {p q : List ℕ} {a b : D} → SendsMore d x p q a b → Sends d (p ++ x) a b
  more_now x {p = p} {a = a} one = (one p a (sent_none p a)).sends

  pub fault_since : (x : List ℕ) (a b c : D) (e : ShipError) → Sends d x a b → IsSendFault d e b c → IsSendFault d e a c
  fault_since x a b c error.Disk sends fault = rose_since (d.faults a) (d.faults b) (d.faults c) sends.faults_later fault
  fault_since x a b c error.Write sends fault = rose_since (d.beside a).out_faults (d.beside b).out_faults (d.beside c).out_faults sends.out_faults_later fault
  fault_since x a b c error.Memory sends fault = tt
  fault_since x a b c (error.Damaged page) sends fault = tt
  fault_since x a b c (error.NoGroup from last) sends fault = tt
  fault_since x a b c error.Read sends fault = absurd fault
  fault_since x a b c error.NotAStore sends fault = absurd fault
  fault_since x a b c error.TooMuch sends fault = absurd fault
  fault_since x a b c (error.Repeat n l) sends fault = absurd fault
  fault_since x a b c (error.Gap n l) sends fault = absurd fault
  fault_since x a b c (error.Base n) sends fault = absurd fault
  fault_since x a b c (error.Stream offset) sends fault = absurd fault

  -- of all that was sent
  pub more_sends : (x : List ℕ) {q : List ℕ} {a b : D} → SendsMore d x [] q a b → Sends d x a b
  more_sends x {a = a} one = (one [] a (sent_none [] a)).sends

  pub some_sends : (x : List ℕ) {a b : D} → SendsSome d x [] a b → Sends d x a b
  some_sends x {a = a} one = one [] a (sent_none [] a)

  -- ... and it is all out, where nothing waits
  pub more_appends : (x : List ℕ) {a b : D} → SendsMore d x [] [] a b → Appends x (d.beside a).output (d.beside b).output
  more_appends x {a = a} {b = b} one =
      let sent = one [] a (sent_none [] a) in
      let same : sent.laid ≡ x = sym (append-nil sent.laid) ∙ sent.split in
      subst (λ (l : List ℕ). Appends l (d.beside a).output (d.beside b).output) same sent.out

  -- the log stays in step
  pub step_sent : (x : List ℕ) {wal : Wal} {was : Image} {a b : D} → Sends d x a b → IsSome (d.contents b) → IsInStep d wal a was → IsInStep d wal b was
  step_sent x sends told step = record { settled = settled_kept sends.contents_stay told (λ i. (sends.images_stay i).0) step.settled; follows = step.follows }

  -- a call for output
  pub emit_sends : {bytes : List ℕ} {a b : D} → Keeps (d.contents a) (d.contents b) → ((i : Image) → (d.may_leave b i → d.may_leave a i) × (d.may_leave a i → d.may_leave b i))
      → (d.beside b).input ≡ (d.beside a).input → (d.beside b).in_faults ≡ (d.beside a).in_faults → (d.beside a).out_faults ≤ (d.beside b).out_faults → d.faults b ≡ d.faults a
      → Elapses d.moment d.stood_since a b (λ s. AppendsPrefix bytes (d.beside a).output s.output × d.may_leave a s.image) → Sends d bytes a b
  emit_sends {a = a} {b = b} contents images input in_faults out_faults faults time = record {
    contents_stay = contents;
    images_stay = images;
    input_stays = subst (λ o. Keeps (d.beside a).input o) (sym input) (keeps_self (d.beside a).input);
    in_faults_stay = in_faults;
    out_faults_later = out_faults;
    faults_later = omega (arith, faults);
    time = time;
  }

pub any_err : {T E : Type 0} {P : Type 0} (r : Result T E) → P → OnErr r P
any_err (Ok x) p = tt
any_err (Err e) p = p

pub on_err : {T E : Type 0} {P Q : Type 0} (r : Result T E) → OnErr r P → (P → Q) → OnErr r Q
on_err (Ok x) p f = tt
on_err (Err e) p f = f p

pub if_err2 : {T E : Type 0} {P R : E → Type 0} {Q : Type 0} (r : Result T E) → IfErr r P → OnErr r Q → ((e : E) → P e → Q → R e) → IfErr r R
if_err2 (Ok x) p q f = tt
if_err2 (Err e) p q f = f e p q

-- an error of the log is one of three
pub log_cut : (e : WalError) → IsCutShort (error_of_log e)
log_cut wal_error.Disk = tt
log_cut wal_error.Exists = tt
log_cut wal_error.NotAStore = tt
log_cut wal_error.Ended = tt
log_cut wal_error.Memory = tt

-- why the log wasn't read
pub refused_fault : {D : Type 0} (d : Ghosts D) (old new : Wal) (a b : D) (e : WalError) → Refused d e old new a b → IsSendFault d (error_of_log e) a b
refused_fault d old new a b wal_error.Disk refused = refused.0
refused_fault d old new a b wal_error.Exists refused = tt
refused_fault d old new a b wal_error.NotAStore refused = tt
refused_fault d old new a b wal_error.Ended refused = tt
refused_fault d old new a b wal_error.Memory refused = tt
