-- A piece of a stream that is taken step by step, and an input that is taken piece by piece.
use Rattle.std.proofs.Common.{◌≡◌, ℕ, ◌+◌, ◌-◌, ◌<◌, ◌≤◌, List, [], ◌++◌, length, take, drop, Option, refl, sym, ap, subst, ◌∙◌, arith, append_assoc, append-nil, length-append, length-drop}
use Rattle.std.specs.Prelude.{IsSome, Result, Ok, Err, IfErr}
use Rattle.nx_host.specs.Disk.{Keeps, Rose}
use Rattle.nx_host.specs.declared.input.InputError.{InputError}
use Rattle.nx_host.specs.declared.input.InputError.TheVariants as input_error
use Rattle.nx_host.proofs.DiskLemmas.{keeps_self}
use Rattle.std.proofs.lemmas.List.{take-append-drop, take_all}
use Rattle.nx_host.specs.Host.{Takes, IsAtEnd}
use Rattle.nx_host.specs.Input.{HasTaken, IsStopped, most_input, block_of}
use Rattle.nx_host.specs.declared.input.Input.{Input}
use Rattle.nx_host.specs.Phase.{TakesAlone}
use Rattle.nx_host.specs.declared.disk.Disk.{Ghosts}
use Rattle.nx_host.proofs.InputLemmas.{block_behind}
use Rattle.nx_replay.specs.Log.{Pages}
use Rattle.nx_ship.specs.Applying.{AppliesTo, IsApplyCause}
use Rattle.nx_ship.specs.Receiving.{IsTakeFault, LeavesInput, Receives, ReceivesSome, ReceivesMore, StopsReceiving, TakesSome, EndsReceiving, EndsStream, IsStreamError, TakesInput}
use Rattle.nx_ship.specs.Faults.{error_of_input}
use Rattle.nx_ship.specs.declared.receiver.Receiver.{Receiver}
use Rattle.nx_ship.specs.declared.error.ShipError.{ShipError}
use Rattle.nx_ship.specs.declared.error.ShipError.TheVariants as error
use Rattle.nx_ship.proofs.BytesLemmas.{take_more}
use Rattle.nx_ship.proofs.OpenLemmas.{filled, takes_kept, input_lost, input_stops, input_ends}
use Rattle.nx_ship.proofs.SendLemmas.{rose_since}

-- Of a piece so many bytes were received, in so many steps, which are no more.
abbrev pub ReceivesSoFar : {D : Type 0} → Ghosts D → List ℕ → ℕ → ℕ → Receiver → Receiver → D → D → Type 0
ReceivesSoFar {D} d piece steps at old new before after = (start : Pages) (first : D) (taken : List ℕ) → length (taken ++ piece) ≤ most_input → ReceivesSome d start first old taken before
    → (steps ≤ at) × ReceivesSome d start first new (taken ++ take at piece) after

-- what is left of a piece
pub rest_of : (at : ℕ) (piece : List ℕ) → take (length piece - at) (drop at piece) ≡ drop at piece
rest_of at piece = take_all (length piece - at) (drop at piece) (omega (arith, length-drop at piece))

few_so_far : (taken piece : List ℕ) (n : ℕ) → length (taken ++ piece) ≤ most_input → length (taken ++ take n piece) ≤ most_input
few_so_far taken piece n few =
    let whole : length ((taken ++ take n piece) ++ drop n piece) ≡ length (taken ++ piece) =
    ap (λ (l : List ℕ). length l) (append_assoc taken (take n piece) (drop n piece) ∙ ap (λ (l : List ℕ). taken ++ l) (take-append-drop n piece)) in
    omega (arith, few, whole, length-append (taken ++ take n piece) (drop n piece))

module _ {D : Type 0} {d : Ghosts D} where
  pub so_far_none : (piece : List ℕ) (r : Receiver) (a : D) → ReceivesSoFar d piece 0 0 r r a a
  so_far_none piece r a start first taken few some = (omega arith, subst (λ (l : List ℕ). ReceivesSome d start first r l a) (sym (append-nil taken)) some)

  pub so_far_more : {old mid new : Receiver} {a b c : D} (piece : List ℕ) (steps at n : ℕ) → at < length piece → ReceivesSoFar d piece steps at old mid a b → ReceivesMore d (take n (drop at piece)) mid new b c
      → TakesSome d n (drop at piece) mid b → ReceivesSoFar d piece (steps + 1) (at + n) old new a c
  so_far_more {new = new} {c = c} piece steps at n left so_far more progress start first taken few some =
      let (enough, here) = so_far start first taken few some in
      let some_now = progress start first (taken ++ take at piece) here (omega (arith, left, length-drop at piece)) in
      let joined : (taken ++ take at piece) ++ take n (drop at piece) ≡ taken ++ take (at + n) piece =
      append_assoc taken (take at piece) (take n (drop at piece)) ∙ ap (λ (l : List ℕ). taken ++ l) (take_more at n piece) in (
        omega (arith, enough, some_now),
        subst (λ (l : List ℕ). ReceivesSome d start first new l c) joined
            (more start first (taken ++ take at piece) (subst (λ (l : List ℕ). length l ≤ most_input) (sym joined) (few_so_far taken piece (at + n) few)) here),
      )

  pub so_far_stops : {old mid : Receiver} {a b c : D} (piece : List ℕ) (steps at : ℕ) (e : ShipError) → ReceivesSoFar d piece steps at old mid a b → StopsReceiving d (drop at piece) e mid b c
      → StopsReceiving d piece e old a c
  so_far_stops {c = c} piece steps at e so_far stops start first taken few some =
      let (enough, here) = so_far start first taken few some in
      let joined : (taken ++ take at piece) ++ drop at piece ≡ taken ++ piece =
      append_assoc taken (take at piece) (drop at piece) ∙ ap (λ (l : List ℕ). taken ++ l) (take-append-drop at piece) in
      subst (λ (l : List ℕ). AppliesTo d start l (Err e) first c) joined
      (stops start first (taken ++ take at piece) (subst (λ (l : List ℕ). length l ≤ most_input) (sym joined) few) here)

  pub so_far_all : {old new : Receiver} {a b : D} (piece : List ℕ) (steps at : ℕ) → (steps ≤ at → length piece ≤ at) → ReceivesSoFar d piece steps at old new a b → ReceivesMore d piece old new a b
  so_far_all {new = new} {b = b} piece steps at all so_far start first taken few some =
      let (enough, here) = so_far start first taken few some in
      subst (λ (l : List ℕ). ReceivesSome d start first new (taken ++ l) b) (take_all at piece (all enough)) here

-- Of an input that was taken so far the groups were received.
pub record ReceivesInput {D : Type 0} (d : Ghosts D) (input : Input) (old new : Receiver) (before now : D) : Type 0 where
  pub taken : List ℕ
  pub has : HasTaken input taken (d.beside before).input (d.beside now).input
  pub few : length taken ≤ most_input
  pub received : (start : Pages) (first : D) → Receives d start first old [] [] [] before → ReceivesSome d start first new taken now
  pub told : IsSome (d.contents now) → IsSome (d.contents before)
  pub in_faults_later : (d.beside before).in_faults ≤ (d.beside now).in_faults
  pub out_faults_later : (d.beside before).out_faults ≤ (d.beside now).out_faults
  pub faults_later : d.faults before ≤ d.faults now

takes_on : (x : List ℕ) (a b c : Option (List ℕ)) → Takes x a b → Keeps b c → Takes x a c
takes_on x a b c takes keeps = subst (λ (l : List ℕ). Takes l a c) (append-nil x) (block_behind x [] a b c takes (takes_kept b c keeps))

pub stopped_at : (e : InputError) (n m : ℕ) → n ≡ m → IsStopped e n → IsStopped e m
stopped_at input_error.Read n m same stopped = omega (arith, same, stopped)
stopped_at input_error.TooMuch n m same stopped = omega (arith, same, stopped)

-- why it ended so:

pub stopped_cause : {D : Type 0} (d : Ghosts D) (a c : D) (input : Input) (r0 r : Receiver) (e : InputError) → (e ≡ input_error.Read → Rose (d.beside a).in_faults (d.beside c).in_faults) → IsStopped e input.taken
    → ReceivesInput d input r0 r a c → IsApplyCause d (Err (error_of_input e)) a c
stopped_cause d a c input r0 r input_error.Read rose stopped was = (rose refl, was.taken, stopped_at input_error.Read input.taken (length was.taken) (was.has).counted stopped, (was.has).takes)
stopped_cause d a c input r0 r input_error.TooMuch rose stopped was = (was.taken, stopped_at input_error.TooMuch input.taken (length was.taken) (was.has).counted stopped, (was.has).takes)

pub end_cause : {D : Type 0} (d : Ghosts D) (a b : D) (r : Result (Unit {0}) ShipError) (taken : List ℕ) → length taken < most_input → Takes taken (d.beside a).input (d.beside b).input → IsAtEnd (d.beside b).input
    → IfErr r (λ e. IsStreamError e) → IsApplyCause d r a b
end_cause d a b (Ok x) taken few takes at_end stream = (taken, few, takes, at_end)
end_cause d a b (Err (error.Stream offset)) taken few takes at_end stream = tt
end_cause d a b (Err error.Disk) taken few takes at_end stream = absurd stream
end_cause d a b (Err error.Read) taken few takes at_end stream = absurd stream
end_cause d a b (Err error.Write) taken few takes at_end stream = absurd stream
end_cause d a b (Err error.Memory) taken few takes at_end stream = absurd stream
end_cause d a b (Err error.NotAStore) taken few takes at_end stream = absurd stream
end_cause d a b (Err error.TooMuch) taken few takes at_end stream = absurd stream
end_cause d a b (Err (error.Damaged page)) taken few takes at_end stream = absurd stream
end_cause d a b (Err (error.NoGroup from l)) taken few takes at_end stream = absurd stream
end_cause d a b (Err (error.Repeat n l)) taken few takes at_end stream = absurd stream
end_cause d a b (Err (error.Gap n l)) taken few takes at_end stream = absurd stream
end_cause d a b (Err (error.Base n)) taken few takes at_end stream = absurd stream

pub take_cause : {D : Type 0} (d : Ghosts D) (a b c : D) (e : ShipError) → d.faults a ≤ d.faults b → (d.beside a).out_faults ≤ (d.beside b).out_faults → IsTakeFault d e b c → IsApplyCause d (Err e) a c
take_cause d a b c error.Disk later out_later fault = rose_since (d.faults a) (d.faults b) (d.faults c) later fault
take_cause d a b c error.Write later out_later fault = rose_since (d.beside a).out_faults (d.beside b).out_faults (d.beside c).out_faults out_later fault
take_cause d a b c error.Memory later out_later fault = tt
take_cause d a b c (error.Repeat n l) later out_later fault = tt
take_cause d a b c (error.Gap n l) later out_later fault = tt
take_cause d a b c (error.Base n) later out_later fault = tt
take_cause d a b c (error.Stream offset) later out_later fault = tt
take_cause d a b c error.Read later out_later fault = absurd fault
take_cause d a b c error.NotAStore later out_later fault = absurd fault
take_cause d a b c error.TooMuch later out_later fault = absurd fault
take_cause d a b c (error.Damaged page) later out_later fault = absurd fault
take_cause d a b c (error.NoGroup from l) later out_later fault = absurd fault

module _ {D : Type 0} {d : Ghosts D} where
  pub input_begun : {input : Input} {r : Receiver} {a : D} → ((first : Option (List ℕ)) → HasTaken input [] first first) → ReceivesInput d input r r a a
  input_begun {a = a} none = record {
    taken = [];
    has = none (d.beside a).input;
    few = omega arith;
    received = λ start first received. ([], [], received);
    told = λ told. told;
    in_faults_later = omega arith;
    out_faults_later = omega arith;
    faults_later = omega arith;
  }

-- more was taken of the input, and isn't received yet
pub record HasFilled {D : Type 0} (d : Ghosts D) (input : Input) (block : List ℕ) (old new : Receiver) (before now : D) : Type 0 where
  pub taken : List ℕ
  pub has : HasTaken input (taken ++ block) (d.beside before).input (d.beside now).input
  pub few : length (taken ++ block) ≤ most_input
  pub received : (start : Pages) (first : D) → Receives d start first old [] [] [] before → ReceivesSome d start first new taken now
  pub told : IsSome (d.contents now) → IsSome (d.contents before)
  pub in_faults_later : (d.beside before).in_faults ≤ (d.beside now).in_faults
  pub out_faults_later : (d.beside before).out_faults ≤ (d.beside now).out_faults
  pub faults_later : d.faults before ≤ d.faults now

module _ {D : Type 0} {d : Ghosts D} where
  pub has_filled : {old new : Input} {r0 r : Receiver} {a b m : D} → ReceivesInput d old r0 r a b → TakesAlone d b m
      → ((taken : List ℕ) (first : Option (List ℕ)) → HasTaken old taken first (d.beside b).input → HasTaken new (taken ++ block_of new) first (d.beside m).input) → new.taken ≤ most_input
      → HasFilled d new (block_of new) r0 r a m
  has_filled {new = new} {a = a} {b = b} {m = m} was takes more low =
      let now = more was.taken (d.beside a).input was.has in
      record {
        taken = was.taken;
        has = now;
        few = let counted = now.counted in omega (arith, counted, low);
        received = λ start first received. filled takes (was.received start first received);
        told = λ told. was.told (subst (λ o. IsSome o) takes.contents_stay told);
        in_faults_later = let x = was.in_faults_later in let y : (d.beside b).in_faults ≤ (d.beside m).in_faults = (takes.areas).in_faults_later in omega (arith, x, y);
        out_faults_later = let x = was.out_faults_later in let y : (d.beside b).out_faults ≤ (d.beside m).out_faults = (takes.areas).out_faults_later in omega (arith, x, y);
        faults_later = let x = was.faults_later in let y : d.faults m ≡ d.faults b = (takes.areas).faults_stay in omega (arith, x, y);
      }

  -- ... and is
  pub input_more : {input : Input} {block : List ℕ} {r0 r s : Receiver} {a m c : D} → HasFilled d input block r0 r a m → ReceivesMore d block r s m c → LeavesInput d m c → ReceivesInput d input r0 s a c
  input_more {block = block} {a = a} {m = m} {c = c} was more leaves = record {
    taken = was.taken ++ block;
    has = record { counted = (was.has).counted; takes = takes_on (was.taken ++ block) (d.beside a).input (d.beside m).input (d.beside c).input (was.has).takes leaves.input_stays };
    few = was.few;
    received = λ start first received. more start first was.taken was.few (was.received start first received);
    told = λ told. was.told (leaves.told told);
    in_faults_later = let x = was.in_faults_later in let y = leaves.in_faults_stay in omega (arith, x, y);
    out_faults_later = let x = was.out_faults_later in let y = leaves.out_faults_later in omega (arith, x, y);
    faults_later = let x = was.faults_later in let y = leaves.faults_later in omega (arith, x, y);
  }

  -- what of it was taken in any case
  pub input_takes : {input : Input} {r0 r : Receiver} {a b : D} → ReceivesInput d input r0 r a b → TakesInput d a b
  input_takes was = record {
    told = was.told;
    bounded = record { taken = was.taken; few = was.few; takes = (was.has).takes };
    in_faults_later = was.in_faults_later;
    out_faults_later = was.out_faults_later;
    faults_later = was.faults_later;
  }

  pub filled_takes : {input : Input} {block : List ℕ} {r0 r : Receiver} {a m c : D} → HasFilled d input block r0 r a m → LeavesInput d m c → TakesInput d a c
  filled_takes {block = block} {a = a} {m = m} {c = c} was leaves = record {
    told = λ told. was.told (leaves.told told);
    bounded = record { taken = was.taken ++ block; few = was.few; takes = takes_on (was.taken ++ block) (d.beside a).input (d.beside m).input (d.beside c).input (was.has).takes leaves.input_stays };
    in_faults_later = let x = was.in_faults_later in let y = leaves.in_faults_stay in omega (arith, x, y);
    out_faults_later = let x = was.out_faults_later in let y = leaves.out_faults_later in omega (arith, x, y);
    faults_later = let x = was.faults_later in let y = leaves.faults_later in omega (arith, x, y);
  }

  -- memory runs out
  pub ends_lost : {input : Input} {r0 r : Receiver} {a b : D} → ReceivesInput d input r0 r a b → EndsReceiving d r0 (Err error.Memory) a b
  ends_lost was start first received = record { taken = was.taken; takes = (was.has).takes; few = was.few; applies = input_lost (was.received start first received) }

  -- before any was taken
  pub ends_unbegun : {r : Receiver} {a : D} → EndsReceiving d r (Err error.Memory) a a
  ends_unbegun {a = a} start first received = record {
    taken = [];
    takes = takes_kept (d.beside a).input (d.beside a).input (keeps_self (d.beside a).input);
    few = omega arith;
    applies = input_lost ([], [], received);
  }

  -- the input stops
  pub stops_filled : {old new : Input} {r0 r : Receiver} {a b m : D} (e : InputError) → ReceivesInput d old r0 r a b → TakesAlone d b m
      → ((taken : List ℕ) (first : Option (List ℕ)) → HasTaken old taken first (d.beside b).input → HasTaken new taken first (d.beside m).input) → IsStopped e new.taken → ReceivesInput d new r0 r a m
  stops_filled {a = a} {b = b} {m = m} e was takes same stopped = record {
    taken = was.taken;
    has = same was.taken (d.beside a).input was.has;
    few = was.few;
    received = λ start first received. filled takes (was.received start first received);
    told = λ told. was.told (subst (λ o. IsSome o) takes.contents_stay told);
    in_faults_later = let x = was.in_faults_later in let y : (d.beside b).in_faults ≤ (d.beside m).in_faults = (takes.areas).in_faults_later in omega (arith, x, y);
    out_faults_later = let x = was.out_faults_later in let y : (d.beside b).out_faults ≤ (d.beside m).out_faults = (takes.areas).out_faults_later in omega (arith, x, y);
    faults_later = let x = was.faults_later in let y : d.faults m ≡ d.faults b = (takes.areas).faults_stay in omega (arith, x, y);
  }

  pub ends_stopped : {input : Input} {r0 r : Receiver} {a b : D} (e : InputError) → IsStopped e input.taken → ReceivesInput d input r0 r a b → EndsReceiving d r0 (Err (error_of_input e)) a b
  ends_stopped {input = input} e stopped was start first received = record {
    taken = was.taken;
    takes = (was.has).takes;
    few = was.few;
    applies = input_stops e (stopped_at e input.taken (length was.taken) (was.has).counted stopped) (was.received start first received);
  }

  -- a piece isn't received
  pub ends_refused : {input : Input} {block : List ℕ} {r0 r : Receiver} {a m c : D} (e : ShipError) → HasFilled d input block r0 r a m → StopsReceiving d block e r m c → LeavesInput d m c → EndsReceiving d r0 (Err e) a c
  ends_refused {block = block} {a = a} {m = m} {c = c} e was stops leaves start first received = record {
    taken = was.taken ++ block;
    takes = takes_on (was.taken ++ block) (d.beside a).input (d.beside m).input (d.beside c).input (was.has).takes leaves.input_stays;
    few = was.few;
    applies = stops start first was.taken was.few (was.received start first received);
  }

  -- the input ends
  pub ends_all : {input : Input} {block : List ℕ} {r0 r : Receiver} {a m : D} (result : Result (Unit {0}) ShipError) → block ≡ [] → input.taken < most_input → IsAtEnd (d.beside m).input
      → HasFilled d input block r0 r a m → EndsStream r result → EndsReceiving d r0 result a m
  ends_all {input = input} {block = block} {a = a} {m = m} result empty low at_end was ends start first received =
      let same : was.taken ++ block ≡ was.taken = ap (λ (l : List ℕ). was.taken ++ l) empty ∙ append-nil was.taken in
      let counted : input.taken ≡ length was.taken = (was.has).counted ∙ ap (λ (l : List ℕ). length l) same in
      record {
        taken = was.taken;
        takes = subst (λ (l : List ℕ). Takes l (d.beside a).input (d.beside m).input) same (was.has).takes;
        few = omega (arith, counted, low);
        applies = input_ends result at_end (omega (arith, counted, low)) ends (was.received start first received);
      }

  -- the input ends, and so does the run
  pub ends_cause : {input : Input} {block : List ℕ} {r0 r : Receiver} {a m : D} (result : Result (Unit {0}) ShipError) → block ≡ [] → input.taken < most_input → IsAtEnd (d.beside m).input
      → HasFilled d input block r0 r a m → IfErr result (λ e. IsStreamError e) → IsApplyCause d result a m
  ends_cause {input = input} {block = block} {a = a} {m = m} result empty low at_end was stream =
      let same : was.taken ++ block ≡ was.taken = ap (λ (l : List ℕ). was.taken ++ l) empty ∙ append-nil was.taken in
      let counted : input.taken ≡ length was.taken = (was.has).counted ∙ ap (λ (l : List ℕ). length l) same in
      end_cause d a m result was.taken (omega (arith, counted, low)) (subst (λ (l : List ℕ). Takes l (d.beside a).input (d.beside m).input) same (was.has).takes) at_end stream
