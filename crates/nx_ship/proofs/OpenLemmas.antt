-- A receiver that is opened, takes input, and ends.
use Rattle.std.proofs.Common.{◌≡◌, ℕ, ◌<◌, List, [], ◌∷◌, ◌++◌, length, Option, None, Some, refl, sym, ap, subst, ◌∙◌, arith, inl, inr, append-nil}
use Rattle.std.specs.Prelude.{IsSome, IfSome, IfOk, Result, Ok, Err}
use Rattle.nx_host.specs.Disk.{Image, Keeps}
use Rattle.nx_host.specs.Host.{Takes, IsAtEnd}
use Rattle.nx_host.specs.Input.{most_input, IsStopped}
use Rattle.nx_host.specs.declared.input.InputError.{InputError}
use Rattle.nx_host.specs.declared.input.InputError.TheVariants as input
use Rattle.nx_host.specs.Time.{none_elapsed, elapsed_weaker}
use Rattle.nx_host.specs.Still.{IsStill, IsSettled}
use Rattle.nx_host.specs.Phase.{TakesAlone}
use Rattle.nx_host.specs.declared.disk.Disk.{Ghosts}
use Rattle.nx_host.proofs.DiskLemmas.{keeps_self, settled_kept, settled_still}
use Rattle.nx_host.proofs.OutputLemmas.{appends_nothing}
use Rattle.nx_host.proofs.InputLemmas.{block_behind}
use Rattle.nx_replay.specs.Log.{Pages, Entry, Group, HasMark, replay}
use Rattle.nx_replay.proofs.GroupLemmas.{zero_or_more}
use Rattle.nx_wal.specs.Wal.{NoLogCreated, Follows, IsInStep}
use Rattle.nx_wal.specs.Lost.{LosesNone}
use Rattle.nx_wal.specs.declared.wal.Wal.{Wal}
use Rattle.nx_holdings.specs.declared.header.Header.{Header}
use Rattle.nx_wal.specs.declared.error.WalError.{WalError}
use Rattle.nx_wal.specs.declared.error.WalError.TheVariants as wal_error
use Rattle.nx_ship.specs.Faults.{error_of_input, error_of_log}
use Rattle.nx_ship.specs.Stream.{IsGood, IsPartOfGroup, Begins, stream_length}
use Rattle.nx_ship.specs.declared.reader.Reader.{Reader}
use Rattle.nx_ship.specs.Reading.{HoldsPart, unit_of}
use Rattle.nx_ship.specs.Sent.{IsFault, IsHeadless, IsBarred}
use Rattle.nx_ship.specs.Next.{IsHeadedBy, AreNone}
use Rattle.nx_ship.specs.Lost.{LacksNone}
use Rattle.nx_ship.specs.Applying.{groups_in, IsApplyCause, EndsApplying, AppliesTo, IsUnapplied, ReceivesStream}
use Rattle.nx_ship.specs.Receiving.{HasApplied, Receives, ReceivesSome, HasOpened, EndsAt, EndsStream, EndsReceiving, TakesInput}
use Rattle.nx_ship.specs.declared.receiver.Receiver.{Receiver}
use Rattle.nx_ship.specs.declared.error.ShipError.{ShipError}
use Rattle.nx_ship.specs.declared.error.ShipError.TheVariants as error
use Rattle.nx_ship.proofs.StreamLemmas.{begins_length}
use Rattle.nx_ship.proofs.EntryLemmas.{one_head, none_headed}
use Rattle.nx_ship.proofs.SendLemmas.{rose_since}
use Rattle.nx_ship.proofs.ApplyingLemmas.{applied_on}
use Rattle.nx_ship.proofs.TakingLemmas.{ended, unfed}

pub if_ok_map : {T E : Type 0} {P Q : T → Type 0} (r : Result T E) → IfOk r P → ((x : T) → P x → Q x) → IfOk r Q
if_ok_map (Ok x) p f = f x p
if_ok_map (Err e) p f = tt

-- Opening:

-- the errors of a log that wasn't created, but for pages that are there
pub log_unapplied : (was : Image) (e : WalError) → IsUnapplied was (Err (error_of_log e))
log_unapplied was wal_error.Disk = tt
log_unapplied was wal_error.Exists = tt
log_unapplied was wal_error.NotAStore = tt
log_unapplied was wal_error.Ended = tt
log_unapplied was wal_error.Memory = tt

pub created_fault : {D : Type 0} (d : Ghosts D) (a b : D) (e : WalError) → NoLogCreated d e a b → IsFault d (error_of_log e) a b
created_fault d a b wal_error.Disk why = why
created_fault d a b wal_error.Exists why = tt
created_fault d a b wal_error.NotAStore why = tt
created_fault d a b wal_error.Ended why = tt
created_fault d a b wal_error.Memory why = tt

no_mark_there : (pages : Pages) → HasMark pages → pages 0 ≡ None → ⊥
no_mark_there pages (bytes, there, begins) none = let a : pages 0 ≡ Some bytes = there in let b : pages 0 ≡ None = none in cc

pub headless_unapplied : (was : Image) (e : ShipError) → HasMark (replay was) → IsHeadless (replay was) e → IsUnapplied was (Err e)
headless_unapplied was error.NotAStore mark why = absurd (no_mark_there (replay was) mark why)
headless_unapplied was (error.Damaged page) mark why = (mark, inl why)
headless_unapplied was error.Disk mark why = tt
headless_unapplied was error.Memory mark why = tt
headless_unapplied was error.Write mark why = absurd why
headless_unapplied was error.Read mark why = absurd why
headless_unapplied was error.TooMuch mark why = absurd why
headless_unapplied was (error.NoGroup from at) mark why = absurd why
headless_unapplied was (error.Repeat n l) mark why = absurd why
headless_unapplied was (error.Gap n l) mark why = absurd why
headless_unapplied was (error.Base n) mark why = absurd why
headless_unapplied was (error.Stream offset) mark why = absurd why

-- over a disk that was asked alone the log is followed on
pub step_after : {D : Type 0} {d : Ghosts D} {a b : D} {was : Image} (old new : Wal) → IsStill d a b → new ≡ old → IsInStep d old a was → IsInStep d new b was
step_after {was = was} old new still same step = record {
  settled = settled_still still step.settled;
  follows = subst (λ (w : Wal). Follows w was.log) (sym same) step.follows;
}

-- where none is lost by one header, none is by any, since there is one; and none is where there is no page
pub lost_none : (was : Image) (header : Header) → IsHeadedBy (replay was) header → LosesNone header.pages was → LacksNone was
lost_none was header here none other headed = subst (λ (h : Header). LosesNone h.pages was) (one_head here headed) none

pub none_lost : (was : Image) → AreNone (replay was) → LacksNone was
none_lost was none header headed = absurd (none_headed (replay was) header (none 0) headed)

-- no reason but these
pub cut_unapplied : (was : Image) (e : ShipError) → IsBarred e → IsUnapplied was (Err e)
cut_unapplied was error.Disk cut = tt
cut_unapplied was error.Memory cut = tt
cut_unapplied was error.Write cut = absurd cut
cut_unapplied was error.NotAStore cut = absurd cut
cut_unapplied was error.Read cut = absurd cut
cut_unapplied was error.TooMuch cut = absurd cut
cut_unapplied was (error.Damaged page) cut = absurd cut
cut_unapplied was (error.NoGroup from at) cut = absurd cut
cut_unapplied was (error.Repeat n l) cut = absurd cut
cut_unapplied was (error.Gap n l) cut = absurd cut
cut_unapplied was (error.Base n) cut = absurd cut
cut_unapplied was (error.Stream offset) cut = absurd cut

-- why nothing was opened, and why it ended so then
apply_unopened : {D : Type 0} (d : Ghosts D) (a b : D) (e : ShipError) → ((was : Image) → IsSettled d a was → IsUnapplied was (Err e)) → IsFault d e a b → IsApplyCause d (Err e) a b
apply_unopened d a b error.Disk why fault = fault
apply_unopened d a b error.Memory why fault = tt
apply_unopened d a b error.NotAStore why fault = why
apply_unopened d a b (error.Damaged page) why fault = why
apply_unopened d a b error.Write why fault = absurd fault
apply_unopened d a b error.Read why fault = absurd fault
apply_unopened d a b error.TooMuch why fault = absurd fault
apply_unopened d a b (error.NoGroup from at) why fault = absurd fault
apply_unopened d a b (error.Repeat n l) why fault = absurd fault
apply_unopened d a b (error.Gap n l) why fault = absurd fault
apply_unopened d a b (error.Base n) why fault = absurd fault
apply_unopened d a b (error.Stream offset) why fault = absurd fault

-- Input:

pub takes_kept : (a b : Option (List ℕ)) → Keeps a b → Takes [] a b
takes_kept a None keeps = tt
takes_kept a (Some left) keeps = keeps

-- what is held is a part of a group
pub held_part : (r : Reader) (held : List ℕ) (es : List Entry) → HoldsPart r held es → IsPartOfGroup held
held_part r held es holds =
    elim (zero_or_more r.count) [
      | inl none ↦
          let long : length held ≡ length (unit_of r) = ap (λ (b : List ℕ). length b) (holds.head none).same in
          let short = holds.short_head none in
          inl (omega (arith, long, short))
      | inr some ↦
          let pages = holds.pages some in
          let long = pages.long in
          let count = pages.count in
          let few = pages.few in
          let left = holds.some_left some in
          let short = holds.short_page some in
          inr (omega (arith, count, few), omega (arith, long, count, left, short))
    ]

no_more : (rest : List ℕ) (o : Option (List ℕ)) → IsAtEnd o → (IsGood rest → ⊥) → IfSome o (λ more. IsGood (rest ++ more) → ⊥)
no_more rest None at_end none = tt
no_more rest (Some left) at_end none = λ good.
    none (subst (λ (l : List ℕ). IsGood l) (ap (λ (l : List ℕ). rest ++ l) at_end ∙ append-nil rest) good)

end_at : (start : Pages) (r : Receiver) (taken : List ℕ) (gs : List Group) (rest : List ℕ) (left : Option (List ℕ)) (result : Result (Unit {0}) ShipError) → IsAtEnd left → length taken < most_input
    → Begins gs taken rest → r.offset ≡ stream_length gs → (IsGood rest → ⊥) → EndsAt r rest result → EndsApplying start taken gs rest left result
end_at start r taken gs rest left (Ok x) at_end few begins offset none at = (at, at_end, few)
end_at start r taken gs rest left (Err (error.Stream n)) at_end few begins offset none (is, some) =
    let long = begins_length gs taken rest begins in
    record { is = is ∙ offset; some = some; none = no_more rest left at_end none; certain = inl (omega (arith, long, few, is, offset)) }
end_at start r taken gs rest left (Err error.Disk) at_end few begins offset none at = absurd at
end_at start r taken gs rest left (Err error.Write) at_end few begins offset none at = absurd at
end_at start r taken gs rest left (Err error.Memory) at_end few begins offset none at = absurd at
end_at start r taken gs rest left (Err error.Read) at_end few begins offset none at = absurd at
end_at start r taken gs rest left (Err error.NotAStore) at_end few begins offset none at = absurd at
end_at start r taken gs rest left (Err error.TooMuch) at_end few begins offset none at = absurd at
end_at start r taken gs rest left (Err (error.Damaged page)) at_end few begins offset none at = absurd at
end_at start r taken gs rest left (Err (error.NoGroup from l)) at_end few begins offset none at = absurd at
end_at start r taken gs rest left (Err (error.Base n)) at_end few begins offset none at = absurd at
end_at start r taken gs rest left (Err (error.Repeat n l)) at_end few begins offset none at = absurd at
end_at start r taken gs rest left (Err (error.Gap n l)) at_end few begins offset none at = absurd at

-- a disk has one image
one_image : {D : Type 0} {d : Ghosts D} {a : D} {was other : Image} → IsSettled d a was → IsSettled d a other → was ≡ other
one_image {d = d} {a = a} {was = was} {other = other} one two = let x : d.contents a ≡ Some was = one.here in let y : d.contents a ≡ Some other = two.here in cc

module _ {D : Type 0} {d : Ghosts D} where
  opened_applied : {was : Image} {a b : D} → IsStill d a b → IsSettled d a was → HasApplied d (replay was) a [] b
  opened_applied {was = was} {a = a} still settled =
      let here : HasApplied d (replay was) a [] a = record { out = appends_nothing (d.beside a).output; time = none_elapsed } in
      applied_on here (elapsed_weaker still.time (λ s h. (h.0, ap (λ (i : Image). replay i) (settled.only s.image h.1)))) (still.beside_stays).output

  -- the receiver is at the beginning of a stream
  pub opened_receives : {was : Image} {r : Receiver} {a b : D} → IsStill d a b → IsSettled d a was → HasOpened d was r b → Receives d (replay was) a r [] [] [] b
  opened_receives {was = was} still settled opened = record {
    read = opened.read;
    offset = opened.offset;
    few = omega arith;
    applying = record {
      knows = record { in_turn = tt; last = opened.last; none = λ empty. opened.none; waits = λ some next. absurd (omega (arith, some)) };
      shows = λ dense told. (
        opened_applied still settled,
        record {
          image = was;
          step = opened.step;
          is = refl;
          logged = λ other same. inl (ap (λ (i : Image). groups_in i) (one_image settled same));
          ready = λ ready. absurd (let none = ready.0 in omega (arith, none));
        },
      );
    };
  }

  -- input was taken beside it
  pub filled : {start : Pages} {first a b : D} {r : Receiver} {taken : List ℕ} → TakesAlone d a b → ReceivesSome d start first r taken a → ReceivesSome d start first r taken b
  filled {start = start} {first = first} {a = a} {b = b} {r = r} takes (gs, es, received) = (
    gs,
    es,
    record {
      read = received.read;
      offset = received.offset;
      few = received.few;
      applying = record {
        knows = (received.applying).knows;
        shows = λ dense told.
            let told_a : IsSome (d.contents a) = subst (λ o. IsSome o) takes.contents_stay told in
            let (applied, up) = (received.applying).shows dense told_a in
            let kept : Keeps (d.beside a).output (d.beside b).output = subst (λ o. Keeps (d.beside a).output o) (sym takes.output_stays) (keeps_self (d.beside a).output) in (
              applied_on applied (elapsed_weaker (takes.areas).time (λ s h. (h.0, ap (λ (i : Image). replay i) (((up.step).settled).only s.image h.1) ∙ up.is))) kept,
              record {
                image = up.image;
                step = record { settled = settled_kept (takes.areas).contents_stay told (λ i. ((takes.areas).images_stay i).0) (up.step).settled; follows = (up.step).follows };
                is = up.is;
                logged = up.logged;
                ready = up.ready;
              },
            );
      };
    },
  )

  -- The input stops:
  pub input_stops : {start : Pages} {first now : D} {r : Receiver} {taken : List ℕ} (e : InputError) → IsStopped e (length taken) → ReceivesSome d start first r taken now
      → AppliesTo d start taken (Err (error_of_input e)) first now
  input_stops {r = r} {taken = taken} input.Read stopped (gs, es, received) =
      ended taken (received.read).held (Err error.Read) (received.read).begins received.applying (held_part r.reader (received.read).held es (received.read).holds, stopped)
  input_stops {r = r} {taken = taken} input.TooMuch stopped (gs, es, received) =
      ended taken (received.read).held (Err error.TooMuch) (received.read).begins received.applying (held_part r.reader (received.read).held es (received.read).holds, stopped)

  -- It ends:
  pub input_ends : {start : Pages} {first now : D} {r : Receiver} {taken : List ℕ} (result : Result (Unit {0}) ShipError) → IsAtEnd (d.beside now).input → length taken < most_input → EndsStream r result
      → ReceivesSome d start first r taken now → AppliesTo d start taken result first now
  input_ends {start = start} {now = now} {r = r} {taken = taken} result at_end few ends (gs, es, received) =
      let (rest, stream, at) = ends taken gs es received.read in
      ended taken rest result stream.begins received.applying (end_at start r taken gs rest (d.beside now).input result at_end few stream.begins received.offset stream.ends at)

  -- memory ran out
  pub input_lost : {start : Pages} {first now : D} {r : Receiver} {taken : List ℕ} → ReceivesSome d start first r taken now → AppliesTo d start taken (Err error.Memory) first now
  input_lost {start = start} {first = first} {now = now} {taken = taken} some =
      subst (λ (l : List ℕ). AppliesTo d start l (Err error.Memory) first now) (append-nil taken) (unfed [] error.Memory tt some)

  pub takes_none : (a : D) → TakesInput d a a
  takes_none a = record {
    told = λ h. h;
    bounded = record { taken = []; few = omega arith; takes = takes_kept (d.beside a).input (d.beside a).input (keeps_self (d.beside a).input) };
    in_faults_later = omega arith;
    out_faults_later = omega arith;
    faults_later = omega arith;
  }

  -- How it all ends:

  pub receives_none : {a b : D} (e : ShipError) → IsStill d a b → ((was : Image) → IsSettled d a was → IsUnapplied was (Err e)) → IsFault d e a b → ReceivesStream d (Err e) a b
  receives_none {a = a} {b = b} e still why fault = record {
    from = λ was settled told. inr (why was settled, still);
    cause = apply_unopened d a b e why fault;
    told = λ told. subst (λ o. IsSome o) still.contents_stay told;
    bounded = record { taken = []; few = omega arith; takes = takes_kept (d.beside a).input (d.beside b).input (still.beside_stays).input };
    in_faults_later = let same = (still.beside_stays).in_faults in omega (arith, same);
    out_faults_later = let same = (still.beside_stays).out_faults in omega (arith, same);
    faults_later = still.faults_later;
  }

  pub receives_all : {r : Receiver} {a b c : D} (result : Result (Unit {0}) ShipError) → IsStill d a b → ((was : Image) → IsSettled d a was → HasOpened d was r b) → EndsReceiving d r result b c → TakesInput d b c
      → IsApplyCause d result a c → ReceivesStream d result a c
  receives_all {a = a} {b = b} {c = c} result still opened ends takes cause = record {
    from = λ was settled told.
        let open_here = opened was settled in
        let ended = ends (replay was) a (opened_receives still settled open_here) in
        inl (record {
          opened = open_here.open_for;
          whole = open_here.whole;
          taken = ended.taken;
          takes = block_behind [] ended.taken (d.beside a).input (d.beside b).input (d.beside c).input (takes_kept (d.beside a).input (d.beside b).input (still.beside_stays).input) ended.takes;
          few = ended.few;
          applies = ended.applies;
        });
    cause = cause;
    told = λ told. subst (λ o. IsSome o) still.contents_stay (takes.told told);
    bounded = record {
      taken = (takes.bounded).taken;
      few = (takes.bounded).few;
      takes = block_behind [] (takes.bounded).taken (d.beside a).input (d.beside b).input (d.beside c).input (takes_kept (d.beside a).input (d.beside b).input (still.beside_stays).input) (takes.bounded).takes;
    };
    in_faults_later = let same = (still.beside_stays).in_faults in let later = takes.in_faults_later in omega (arith, same, later);
    out_faults_later = let same = (still.beside_stays).out_faults in let later = takes.out_faults_later in omega (arith, same, later);
    faults_later = let first = still.faults_later in let later = takes.faults_later in omega (arith, first, later);
  }

pub some_bytes_left : (rest : List ℕ) → (rest ≡ [] → ⊥) → 0 < length rest
some_bytes_left [] some = absurd (some refl)
some_bytes_left (b ∷ rest) some = omega arith

first_kept : {D : Type 0} (d : Ghosts D) (a b c : D) (taken : List ℕ) → IsStill d a b → Takes taken (d.beside b).input (d.beside c).input → Takes taken (d.beside a).input (d.beside c).input
first_kept d a b c taken still takes = block_behind [] taken (d.beside a).input (d.beside b).input (d.beside c).input (takes_kept (d.beside a).input (d.beside b).input (still.beside_stays).input) takes

pub cause_later : {D : Type 0} (d : Ghosts D) (a b c : D) (r : Result (Unit {0}) ShipError) → IsStill d a b → IsApplyCause d r b c → IsApplyCause d r a c
cause_later d a b c (Ok x) still (taken, few, takes, at_end) = (taken, few, first_kept d a b c taken still takes, at_end)
cause_later d a b c (Err error.Disk) still raise = rose_since (d.faults a) (d.faults b) (d.faults c) still.faults_later raise
cause_later d a b c (Err error.Write) still raise = rose_since (d.beside a).out_faults (d.beside b).out_faults (d.beside c).out_faults (let same = (still.beside_stays).out_faults in omega (arith, same)) raise
cause_later d a b c (Err error.Read) still (raise, taken, few, takes) = (
  rose_since (d.beside a).in_faults (d.beside b).in_faults (d.beside c).in_faults (let same = (still.beside_stays).in_faults in omega (arith, same)) raise,
  taken,
  few,
  first_kept d a b c taken still takes,
)
cause_later d a b c (Err error.TooMuch) still (taken, few, takes) = (taken, few, first_kept d a b c taken still takes)
cause_later d a b c (Err error.NotAStore) still why = λ was settled. why was (settled_still still settled)
cause_later d a b c (Err (error.Damaged page)) still why = λ was settled. why was (settled_still still settled)
cause_later d a b c (Err (error.NoGroup from l)) still why = absurd why
cause_later d a b c (Err error.Memory) still raise = tt
cause_later d a b c (Err (error.Repeat n l)) still raise = tt
cause_later d a b c (Err (error.Gap n l)) still raise = tt
cause_later d a b c (Err (error.Base n)) still raise = tt
cause_later d a b c (Err (error.Stream offset)) still raise = tt
