-- What comes of a piece of a stream that a receiver takes.
use Rattle.std.proofs.Common.{◌≡◌, ℕ, ◌+◌, ◌*◌, ◌-◌, ◌^◌, ◌<◌, ◌≤◌, true, List, [], ◌∷◌, ◌++◌, length, take, drop, Option, None, Some, refl, sym, ap, subst, ◌∙◌, arith, inl, inr, append_assoc, length-append}
use Rattle.std.specs.Prelude.{Result, Ok, Err, IfErr, IfSome, min}
use Rattle.std.proofs.lemmas.Bool.{eqb-true}
use Rattle.std.proofs.lemmas.List.{take-append-drop}
use Rattle.nx_host.specs.Input.{most_input}
use Rattle.nx_host.specs.declared.disk.Disk.{Ghosts}
use Rattle.nx_replay.specs.Log.{Pages, Entry, Group}
use Rattle.nx_replay.specs.Laws.{over_all}
use Rattle.nx_wal.specs.declared.wal.Wal.{Wal}
use Rattle.nx_ship.specs.Stream.{group_in, size_with, IsGood, Begins, stream_length}
use Rattle.nx_ship.specs.declared.reader.Reader.{Reader}
use Rattle.nx_ship.specs.Reading.{HasFed, AreUnderWay, IsSpoilt, TakesMore}
use Rattle.nx_ship.specs.Next.{number_following, IsAtNumber, IsBase, MayComeTo}
use Rattle.nx_ship.specs.Sent.{IsCutShort}
use Rattle.nx_ship.specs.Applying.{AreIn, EndsApplying, UnlessCut, AppliesTo}
use Rattle.nx_ship.specs.Receiving.{IsTakeFault, LeavesStream, HasApplied, KeepsUp, IsNextUnderWay, IsApplying, IsLast, is_next_number, AppliesNone, KeepsPage, Receives, ReceivesSome, HasLast, CommitsGroup, StopsCommitting, RefusesNumber, IsGroupKept, IsBaseless, IsBased}
use Rattle.nx_ship.specs.declared.receiver.Receiver.{Receiver}
use Rattle.nx_ship.specs.declared.error.ShipError.{ShipError}
use Rattle.nx_ship.specs.declared.error.ShipError.TheVariants as error
use Rattle.nx_ship.proofs.StreamLemmas.{begins_length}
use Rattle.nx_ship.proofs.ReadingLemmas.{good-append, begins-append, begins-before, least_more}
use Rattle.nx_ship.proofs.ApplyingLemmas.{dense_before, in_turn_more}
use Rattle.nx_ship.proofs.ReceivingLemmas.{as_ready, reread}

stream_length-append : (gs : List Group) (g : Group) → stream_length (gs ++ g ∷ []) ≡ stream_length gs + size_with (length g.entries)
stream_length-append [] g = omega arith
stream_length-append (h ∷ gs) g = let rest = stream_length-append gs g in omega (arith, rest)

if_some_all : {T : Type 0} (P : T → Type 0) (o : Option T) → ((x : T) → P x) → IfSome o P
if_some_all P None all = tt
if_some_all P (Some x) all = all x

-- Whether a group may come:

pub comes : (pages : Pages) (last : Option ℕ) (g : Group) → is_next_number last g.number ≡ true → IsLast last pages → (last ≡ None → IsBase g) → MayComeTo pages g
comes pages None g next is base = inr (is, base refl)
comes pages (Some last) g next is base = inl (last, is, eqb-true g.number (number_following last) next)

cut_ends : (start : Pages) (taken rest : List ℕ) (gs : List Group) (left : Option (List ℕ)) (e : ShipError) → IsCutShort e → EndsApplying start taken gs rest left (Err e)
cut_ends start taken rest gs left error.Disk cut = tt
cut_ends start taken rest gs left error.Write cut = tt
cut_ends start taken rest gs left error.Memory cut = tt
cut_ends start taken rest gs left error.Read cut = absurd cut
cut_ends start taken rest gs left error.NotAStore cut = absurd cut
cut_ends start taken rest gs left error.TooMuch cut = absurd cut
cut_ends start taken rest gs left (error.Damaged page) cut = absurd cut
cut_ends start taken rest gs left (error.NoGroup from l) cut = absurd cut
cut_ends start taken rest gs left (error.Repeat n l) cut = absurd cut
cut_ends start taken rest gs left (error.Gap n l) cut = absurd cut
cut_ends start taken rest gs left (error.Base n) cut = absurd cut
cut_ends start taken rest gs left (error.Stream offset) cut = absurd cut

cut_in : (e : ShipError) (In : Type 0) → IsCutShort e → UnlessCut (Err e) In
cut_in error.Disk In cut = tt
cut_in error.Write In cut = tt
cut_in error.Memory In cut = tt
cut_in error.Read In cut = absurd cut
cut_in error.NotAStore In cut = absurd cut
cut_in error.TooMuch In cut = absurd cut
cut_in (error.Damaged page) In cut = absurd cut
cut_in (error.NoGroup from l) In cut = absurd cut
cut_in (error.Repeat n l) In cut = absurd cut
cut_in (error.Gap n l) In cut = absurd cut
cut_in (error.Base n) In cut = absurd cut
cut_in (error.Stream offset) In cut = absurd cut

pub unless_cut : (r : Result (Unit {0}) ShipError) (In : Type 0) → In → UnlessCut r In
unless_cut (Ok x) In all = all
unless_cut (Err error.Disk) In all = tt
unless_cut (Err error.Write) In all = tt
unless_cut (Err error.Memory) In all = tt
unless_cut (Err error.Read) In all = all
unless_cut (Err error.NotAStore) In all = all
unless_cut (Err error.TooMuch) In all = all
unless_cut (Err (error.Damaged page)) In all = all
unless_cut (Err (error.NoGroup from l)) In all = all
unless_cut (Err (error.Repeat n l)) In all = all
unless_cut (Err (error.Gap n l)) In all = all
unless_cut (Err (error.Base n)) In all = all
unless_cut (Err (error.Stream offset)) In all = all

out_of_turn : (start : Pages) (taken rest : List ℕ) (gs : List Group) (left : Option (List ℕ)) (last : Option ℕ) (number : ℕ) (e : ShipError) → RefusesNumber last number e
    → IsLast last (over_all start gs) → IsGood rest → number ≡ (group_in rest).number → EndsApplying start taken gs rest left (Err e)
out_of_turn start taken rest gs left (Some last) number (error.Repeat n l) (a, b, not_next, most) at good is = (
  record { good = good; is = a ∙ is; at = subst (λ (k : ℕ). IsAtNumber (over_all start gs) k) (sym b) at; not_next = λ next. not_next (sym a ∙ next ∙ ap (λ (k : ℕ). number_following k) b) },
  omega (arith, a, b, most),
)
out_of_turn start taken rest gs left (Some last) number (error.Gap n l) (a, b, not_next, most) at good is = (
  record { good = good; is = a ∙ is; at = subst (λ (k : ℕ). IsAtNumber (over_all start gs) k) (sym b) at; not_next = λ next. not_next (sym a ∙ next ∙ ap (λ (k : ℕ). number_following k) b) },
  omega (arith, a, b, most),
)
out_of_turn start taken rest gs left (Some last) number error.Disk refuses at good is = absurd refuses
out_of_turn start taken rest gs left (Some last) number error.Write refuses at good is = absurd refuses
out_of_turn start taken rest gs left (Some last) number error.Memory refuses at good is = absurd refuses
out_of_turn start taken rest gs left (Some last) number error.Read refuses at good is = absurd refuses
out_of_turn start taken rest gs left (Some last) number error.NotAStore refuses at good is = absurd refuses
out_of_turn start taken rest gs left (Some last) number error.TooMuch refuses at good is = absurd refuses
out_of_turn start taken rest gs left (Some last) number (error.Damaged page) refuses at good is = absurd refuses
out_of_turn start taken rest gs left (Some last) number (error.NoGroup from l) refuses at good is = absurd refuses
out_of_turn start taken rest gs left (Some last) number (error.Base n) refuses at good is = absurd refuses
out_of_turn start taken rest gs left (Some last) number (error.Stream offset) refuses at good is = absurd refuses
out_of_turn start taken rest gs left None number error.Disk refuses at good is = absurd refuses
out_of_turn start taken rest gs left None number error.Write refuses at good is = absurd refuses
out_of_turn start taken rest gs left None number error.Memory refuses at good is = absurd refuses
out_of_turn start taken rest gs left None number error.Read refuses at good is = absurd refuses
out_of_turn start taken rest gs left None number error.NotAStore refuses at good is = absurd refuses
out_of_turn start taken rest gs left None number error.TooMuch refuses at good is = absurd refuses
out_of_turn start taken rest gs left None number (error.Damaged page) refuses at good is = absurd refuses
out_of_turn start taken rest gs left None number (error.NoGroup from l) refuses at good is = absurd refuses
out_of_turn start taken rest gs left None number (error.Base n) refuses at good is = absurd refuses
out_of_turn start taken rest gs left None number (error.Stream offset) refuses at good is = absurd refuses
out_of_turn start taken rest gs left None number (error.Repeat n l) refuses at good is = absurd refuses
out_of_turn start taken rest gs left None number (error.Gap n l) refuses at good is = absurd refuses

-- The last page of a group waits.
pub record HasKept {D : Type 0} (d : Ghosts D) (start : Pages) (first : D) (r : Receiver) (page : Entry) (taken : List ℕ) (gs : List Group) (es : List Entry) (now : D) : Type 0 where
  pub read : HasFed r.reader taken (gs ++ record { number = r.reader.number; entries = es ++ page ∷ [] } ∷ []) []
  pub under_way : AreUnderWay r.reader.number (es ++ page ∷ [])
  pub many : length (es ++ page ∷ []) ≡ r.reader.taken
  pub offset : r.offset ≡ stream_length gs
  pub few : length taken ≤ most_input
  pub applying : IsApplying d start first r gs (es ++ page ∷ []) now

some_kept : (es : List Entry) (e : Entry) → 0 < length (es ++ e ∷ [])
some_kept es e = omega (arith, length-append es (e ∷ []))

next_none : (r : Receiver) → r.last ≡ None → is_next_number r.last r.reader.number ≡ true
next_none r none = ap (λ (l : Option ℕ). is_next_number l r.reader.number) none

pub parts : (taken piece : List ℕ) (n : ℕ) → (taken ++ take n piece) ++ drop n piece ≡ taken ++ piece
parts taken piece n = append_assoc taken (take n piece) (drop n piece) ∙ ap (λ (l : List ℕ). taken ++ l) (take-append-drop n piece)

module _ {D : Type 0} {d : Ghosts D} where
  pub are_in : {start : Pages} {first now : D} {wal : Wal} {gs : List Group} {Ready : Type 0} → HasApplied d start first gs now → KeepsUp d start first gs wal Ready now → AreIn d start gs first now
  are_in applied up = record { out = applied.out; image = up.image; settled = (up.step).settled; is = up.is; logged = up.logged }

  -- no call was made
  pub applies_none : (r : Receiver) (a : D) → AppliesNone d r a a
  applies_none r a start first groups es applying dense told = ((applying.shows dense told).0).time

  -- all that was applied is in
  pub ended : {start : Pages} {first now : D} {r : Receiver} {gs : List Group} {es : List Entry} (bytes rest : List ℕ) (result : Result (Unit {0}) ShipError) → Begins gs bytes rest → IsApplying d start first r gs es now
      → EndsApplying start bytes gs rest (d.beside now).input result → AppliesTo d start bytes result first now
  ended {start = start} {first = first} {now = now} {gs = gs} bytes rest result begins applying why = record {
    groups = gs;
    rest = rest;
    begins = begins;
    in_turn = (applying.knows).in_turn;
    why = why;
    shows = λ dense told.
        let (applied, up) = applying.shows dense told in
        record { time = applied.time; all_in = unless_cut result (AreIn d start gs first now) (are_in applied up) };
  }

  -- a call was cut short
  pub stopped : {start : Pages} {first a b : D} {r : Receiver} {gs : List Group} {es : List Entry} (bytes rest : List ℕ) (e : ShipError) → IsCutShort e → Begins gs bytes rest
      → IsApplying d start first r gs es a → AppliesNone d r a b → AppliesTo d start bytes (Err e) first b
  stopped {start = start} {first = first} {b = b} {gs = gs} {es = es} bytes rest e cut begins applying none = record {
    groups = gs;
    rest = rest;
    begins = begins;
    in_turn = (applying.knows).in_turn;
    why = cut_ends start bytes rest gs (d.beside b).input e cut;
    shows = λ dense told. record { time = none start first gs es applying dense told; all_in = cut_in e (AreIn d start gs first b) cut };
  }

  -- Its number refuses the group.
  pub refused_number : {start : Pages} {first now : D} {r : Receiver} {page : Entry} {taken : List ℕ} {gs : List Group} {es : List Entry} (e : ShipError) → RefusesNumber r.last r.reader.number e
      → HasLast d start first r page taken gs es now → (behind : List ℕ) → AppliesTo d start (taken ++ behind) (Err e) first now
  refused_number {start = start} {now = now} {r = r} {page = page} {taken = taken} {gs = gs} {es = es} e refuses has behind =
      let g : Group = record { number = r.reader.number; entries = es ++ page ∷ [] } in
      let b = begins-before gs g taken (has.read).held (has.read).begins in
      let same = good-append b.rest behind b.good in
      ended (taken ++ behind) (b.rest ++ behind) (Err e) (begins-append gs taken b.rest behind b.begins) has.applying
      (out_of_turn start (taken ++ behind) (b.rest ++ behind) gs (d.beside now).input r.last r.reader.number e refuses ((has.applying).knows).last same.good (ap (λ (x : Group). x.number) (b.is ∙ sym same.group)))

  pub kept_last : {start : Pages} {first a b : D} {r k : Receiver} {page : Entry} {taken : List ℕ} {gs : List Group} {es : List Entry} → LeavesStream r k → KeepsPage d page r k a b
      → HasLast d start first r page taken gs es a → HasKept d start first k page taken gs es b
  kept_last {start = start} {first = first} {page = page} {taken = taken} {gs = gs} {es = es} stays keeps has = record {
    read = subst (λ (x : Reader). HasFed x taken (gs ++ record { number = x.number; entries = es ++ page ∷ [] } ∷ []) []) (sym stays.reader) has.read;
    under_way = subst (λ (x : Reader). AreUnderWay x.number (es ++ page ∷ [])) (sym stays.reader) has.under_way;
    many = has.many ∙ ap (λ (x : Reader). x.taken) (sym stays.reader);
    offset = stays.offset ∙ has.offset;
    few = has.few;
    applying = keeps start first gs es has.under_way has.applying;
  }

  group_kept : {start : Pages} {first now : D} {r : Receiver} {page : Entry} {taken : List ℕ} {gs : List Group} {es : List Entry} → HasKept d start first r page taken gs es now
      → is_next_number r.last r.reader.number ≡ true → IsGroupKept r page.page (es ++ page ∷ [])
  group_kept {page = page} {es = es} has next = record {
    waits = ((has.applying).knows).waits (some_kept es page) next;
    under_way = has.under_way;
    last = least_more es page 0;
    many = has.many;
  }

  -- It holds no store.
  pub refused_base : {start : Pages} {first now : D} {r : Receiver} {page : Entry} {taken : List ℕ} {gs : List Group} {es : List Entry} → IsBaseless r page.page
      → HasKept d start first r page taken gs es now → (behind : List ℕ) → AppliesTo d start (taken ++ behind) (Err (error.Base r.reader.number)) first now
  refused_base {start = start} {r = r} {page = page} {taken = taken} {gs = gs} {es = es} baseless has behind =
      let fs = es ++ page ∷ [] in
      let g : Group = record { number = r.reader.number; entries = fs } in
      let b = begins-before gs g taken (has.read).held (has.read).begins in
      let same = good-append b.rest behind b.good in
      ended (taken ++ behind) (b.rest ++ behind) (Err (error.Base r.reader.number)) (begins-append gs taken b.rest behind b.begins) has.applying
      (record {
        good = same.good;
        is = ap (λ (x : Group). x.number) (b.is ∙ sym same.group);
        none = subst (λ (l : Option ℕ). IsLast l (over_all start gs)) baseless.none ((has.applying).knows).last;
        no_base = λ base. baseless.no_base fs (group_kept has (next_none r baseless.none)) (subst (λ (x : Group). IsBase x) (same.group ∙ sym b.is) base);
      })

  may_come : {start : Pages} {first now : D} {r : Receiver} {page : Entry} {taken : List ℕ} {gs : List Group} {es : List Entry} → HasKept d start first r page taken gs es now
      → is_next_number r.last r.reader.number ≡ true → IsBased r page.page → MayComeTo (over_all start gs) (record { number = r.reader.number; entries = es ++ page ∷ [] })
  may_come {start = start} {r = r} {page = page} {gs = gs} {es = es} has next based =
      comes (over_all start gs) r.last (record { number = r.reader.number; entries = es ++ page ∷ [] }) next ((has.applying).knows).last (λ none. based none (es ++ page ∷ []) (group_kept has next))

  -- The group is in.
  pub applied_last : {start : Pages} {first b c : D} {k n : Receiver} {page : Entry} {taken : List ℕ} {gs : List Group} {es : List Entry} → HasKept d start first k page taken gs es b
      → is_next_number k.last k.reader.number ≡ true → IsBased k page.page → n.reader ≡ k.reader → n.offset ≡ min (k.offset + (12 + 8196 * k.reader.taken)) (2 ^ 64 - 1)
      → CommitsGroup d k n b c → Receives d start first n taken (gs ++ record { number = k.reader.number; entries = es ++ page ∷ [] } ∷ []) [] c
  applied_last {start = start} {first = first} {k = k} {n = n} {page = page} {taken = taken} {gs = gs} {es = es} has next based reader offset commits =
      let fs = es ++ page ∷ [] in
      let g : Group = record { number = k.reader.number; entries = fs } in
      record {
        read = subst (λ (x : Reader). HasFed x taken (gs ++ g ∷ []) []) (sym reader) has.read;
        offset =
            let long = begins_length (gs ++ g ∷ []) taken (has.read).held (has.read).begins in
            let more = stream_length-append gs g in
            let before = has.offset in
            let many = has.many in
            let few = has.few in
            omega (arith, long, more, before, many, few, offset);
        few = has.few;
        applying = commits start first gs fs (some_kept es page) has.under_way (may_come has next based) next has.applying;
      }

  -- Its commit was cut short.
  pub uncommitted : {start : Pages} {first b c : D} {k : Receiver} {page : Entry} {taken : List ℕ} {gs : List Group} {es : List Entry} (e : ShipError) → IsCutShort e → HasKept d start first k page taken gs es b
      → is_next_number k.last k.reader.number ≡ true → IsBased k page.page → StopsCommitting d k b c → (behind : List ℕ) → AppliesTo d start (taken ++ behind) (Err e) first c
  uncommitted {start = start} {first = first} {c = c} {k = k} {page = page} {taken = taken} {gs = gs} {es = es} e cut has next based stops behind =
      let fs = es ++ page ∷ [] in
      let g : Group = record { number = k.reader.number; entries = fs } in
      record {
        groups = gs ++ g ∷ [];
        rest = (has.read).held ++ behind;
        begins = begins-append (gs ++ g ∷ []) taken (has.read).held behind (has.read).begins;
        in_turn = in_turn_more start gs g ((has.applying).knows).in_turn (may_come has next based);
        why = cut_ends start (taken ++ behind) ((has.read).held ++ behind) (gs ++ g ∷ []) (d.beside c).input e cut;
        shows = λ dense told. record {
          time = stops start first gs fs (some_kept es page) (may_come has next based) next has.applying (dense_before start gs (g ∷ []) dense) told;
          all_in = cut_in e (AreIn d start (gs ++ g ∷ []) first c) cut;
        };
      }

  -- A piece:

  -- nothing but the reader went on
  pub fed_applying : {start : Pages} {first now : D} {old mid : Receiver} {gs : List Group} {es : List Entry} → mid.wal ≡ old.wal → mid.last ≡ old.last → (0 < length es → mid.reader.number ≡ old.reader.number)
      → IsApplying d start first old gs es now → IsApplying d start first mid gs es now
  fed_applying {start = start} {first = first} {now = now} {old = old} {mid = mid} {gs = gs} {es = es} wal last number applying = record {
    knows = reread wal last number applying.knows;
    shows = λ dense told.
        let (applied, up) = applying.shows dense told in (
          applied,
          subst (λ (w : Wal). KeepsUp d start first gs w (IsNextUnderWay mid es) now) (sym wal)
              (as_ready (λ (some, next). (some, ap (λ (n : ℕ). is_next_number old.last n) (sym (number some)) ∙ ap (λ (l : Option ℕ). is_next_number l mid.reader.number) (sym last) ∙ next)) up),
        );
  }

  -- no page is whole
  pub fed_more : {start : Pages} {first now : D} {old new : Receiver} (taken piece : List ℕ) (n : ℕ) {gs : List Group} {es : List Entry} → new.wal ≡ old.wal → new.last ≡ old.last → new.offset ≡ old.offset
      → length (taken ++ take n piece) ≤ most_input → TakesMore n piece old.reader new.reader taken gs es → Receives d start first old taken gs es now
      → Receives d start first new (taken ++ take n piece) gs es now
  fed_more taken piece n wal last offset few takes received = record {
    read = takes.read;
    offset = offset ∙ received.offset;
    few = few;
    applying = fed_applying wal last takes.number_stays received.applying;
  }

  -- the page waits
  pub fed_page : {start : Pages} {first a b : D} {mid new : Receiver} (page : Entry) (bytes : List ℕ) {gs : List Group} (es : List Entry) → LeavesStream mid new → KeepsPage d page mid new a b
      → HasFed mid.reader bytes gs (es ++ page ∷ []) → AreUnderWay mid.reader.number (es ++ page ∷ []) → mid.offset ≡ stream_length gs → length bytes ≤ most_input
      → IsApplying d start first mid gs es a → Receives d start first new bytes gs (es ++ page ∷ []) b
  fed_page {start = start} {first = first} page bytes {gs = gs} es stays keeps read under offset few applying = record {
    read = subst (λ (x : Reader). HasFed x bytes gs (es ++ page ∷ [])) (sym stays.reader) read;
    offset = stays.offset ∙ offset;
    few = few;
    applying = keeps start first gs es under applying;
  }

  -- it doesn't
  pub fed_stopped : {start : Pages} {first a b : D} {mid : Receiver} {gs : List Group} {es fs : List Entry} (taken piece : List ℕ) (n : ℕ) (e : ShipError) → IsCutShort e
      → HasFed mid.reader (taken ++ take n piece) gs fs → IsApplying d start first mid gs es a → AppliesNone d mid a b → AppliesTo d start (taken ++ piece) (Err e) first b
  fed_stopped {start = start} {first = first} {b = b} {gs = gs} taken piece n e cut read applying none =
      subst (λ (l : List ℕ). AppliesTo d start l (Err e) first b) (parts taken piece n)
      (stopped ((taken ++ take n piece) ++ drop n piece) (read.held ++ drop n piece) e cut (begins-append gs (taken ++ take n piece) read.held (drop n piece) read.begins) applying none)

  -- the reader was out of memory
  pub unfed : {start : Pages} {first now : D} {r : Receiver} {taken : List ℕ} (piece : List ℕ) (e : ShipError) → IsCutShort e → ReceivesSome d start first r taken now → AppliesTo d start (taken ++ piece) (Err e) first now
  unfed {now = now} {r = r} {taken = taken} piece e cut (gs, es, received) =
      stopped (taken ++ piece) ((received.read).held ++ piece) e cut (begins-append gs taken (received.read).held piece (received.read).begins) received.applying (applies_none r now)

  -- no good group stands there
  pub fed_spoilt : {start : Pages} {first now : D} {r : Receiver} (taken piece : List ℕ) (n : ℕ) {gs : List Group} {es : List Entry} → IsSpoilt (taken ++ take n piece) gs
      → Receives d start first r taken gs es now → AppliesTo d start (taken ++ piece) (Err (error.Stream r.offset)) first now
  fed_spoilt {start = start} {first = first} {now = now} {r = r} taken piece n {gs = gs} (held, some, begins, none) received =
      subst (λ (l : List ℕ). AppliesTo d start l (Err (error.Stream r.offset)) first now) (parts taken piece n)
      (ended ((taken ++ take n piece) ++ drop n piece) (held ++ drop n piece) (Err (error.Stream r.offset)) (begins-append gs (taken ++ take n piece) held (drop n piece) begins) received.applying
      (record {
        is = received.offset;
        some = omega (arith, some, length-append held (drop n piece));
        none = if_some_all (λ more. IsGood ((held ++ drop n piece) ++ more) → ⊥) (d.beside now).input (λ more good. none (drop n piece ++ more) (subst (λ (l : List ℕ). IsGood l) (append_assoc held (drop n piece) more) good));
        certain = inr (λ more good. none (drop n piece ++ more) (subst (λ (l : List ℕ). IsGood l) (append_assoc held (drop n piece) more) good));
      }))

  -- the last page doesn't wait
  pub unkept : {start : Pages} {first a b : D} {r : Receiver} {page : Entry} {taken : List ℕ} {gs : List Group} {es : List Entry} (e : ShipError) → IsCutShort e → AppliesNone d r a b
      → HasLast d start first r page taken gs es a → (behind : List ℕ) → AppliesTo d start (taken ++ behind) (Err e) first b
  unkept {r = r} {page = page} {taken = taken} {gs = gs} {es = es} e cut none has behind =
      let b = begins-before gs (record { number = r.reader.number; entries = es ++ page ∷ [] }) taken (has.read).held (has.read).begins in
      stopped (taken ++ behind) (b.rest ++ behind) e cut (begins-append gs taken b.rest behind b.begins) has.applying none

pub next_kept : (r k : Receiver) → LeavesStream r k → is_next_number r.last r.reader.number ≡ true → is_next_number k.last k.reader.number ≡ true
next_kept r k stays next =
    ap (λ (l : Option ℕ). is_next_number l k.reader.number) stays.last ∙ ap (λ (x : Reader). is_next_number r.last x.number) stays.reader ∙ next

pub number_fault : {D : Type 0} (d : Ghosts D) (a b : D) (last : Option ℕ) (number : ℕ) (e : ShipError) → RefusesNumber last number e → IsTakeFault d e a b
number_fault d a b (Some last) number (error.Repeat n l) refuses = tt
number_fault d a b (Some last) number (error.Gap n l) refuses = tt
number_fault d a b (Some last) number error.Disk refuses = absurd refuses
number_fault d a b (Some last) number error.Write refuses = absurd refuses
number_fault d a b (Some last) number error.Memory refuses = absurd refuses
number_fault d a b (Some last) number error.Read refuses = absurd refuses
number_fault d a b (Some last) number error.NotAStore refuses = absurd refuses
number_fault d a b (Some last) number error.TooMuch refuses = absurd refuses
number_fault d a b (Some last) number (error.Damaged page) refuses = absurd refuses
number_fault d a b (Some last) number (error.NoGroup from l) refuses = absurd refuses
number_fault d a b (Some last) number (error.Base n) refuses = absurd refuses
number_fault d a b (Some last) number (error.Stream offset) refuses = absurd refuses
number_fault d a b None number error.Disk refuses = absurd refuses
number_fault d a b None number error.Write refuses = absurd refuses
number_fault d a b None number error.Memory refuses = absurd refuses
number_fault d a b None number error.Read refuses = absurd refuses
number_fault d a b None number error.NotAStore refuses = absurd refuses
number_fault d a b None number error.TooMuch refuses = absurd refuses
number_fault d a b None number (error.Damaged page) refuses = absurd refuses
number_fault d a b None number (error.NoGroup from l) refuses = absurd refuses
number_fault d a b None number (error.Base n) refuses = absurd refuses
number_fault d a b None number (error.Stream offset) refuses = absurd refuses
number_fault d a b None number (error.Repeat n l) refuses = absurd refuses
number_fault d a b None number (error.Gap n l) refuses = absurd refuses

pub few_part : (taken piece : List ℕ) (n : ℕ) → length (taken ++ piece) ≤ most_input → length (taken ++ take n piece) ≤ most_input
few_part taken piece n few =
    let whole = ap (λ (l : List ℕ). length l) (parts taken piece n) in
    omega (arith, few, whole, length-append (taken ++ take n piece) (drop n piece))

pub if_err_map : {T E : Type 0} {P Q : E → Type 0} (r : Result T E) → IfErr r P → ((e : E) → P e → Q e) → IfErr r Q
if_err_map (Ok x) p f = tt
if_err_map (Err e) p f = f e p
