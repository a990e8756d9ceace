-- What a receiver keeps up with.
use Rattle.std.proofs.Common.{◌≡◌, ◌⊎◌, ℕ, ◌<◌, ◌≤◌, true, false, List, [], ◌∷◌, ◌++◌, length, Option, None, Some, refl, sym, ap, subst, ◌∙◌, arith, inl, inr, length-append}
use Rattle.std.proofs.lemmas.Bool.{false≢true, cases_Bool, lt-ltb, ltb-true}
use Rattle.std.specs.Prelude.{IsSome, Bool, nat_lt, if◌then◌else◌, slice_get}
use Rattle.nx_host.specs.Disk.{Image, Keeps}
use Rattle.nx_host.specs.Time.{Elapses, elapsed_weaker}
use Rattle.nx_host.specs.Still.{WritesAlone, IsSettled}
use Rattle.nx_host.specs.declared.disk.Disk.{Ghosts}
use Rattle.nx_host.proofs.DiskLemmas.{keeps_self, keeps_then}
use Rattle.nx_replay.specs.Log.{Pages, Entry, Group, groups, end_of, over, entry_pages, rise, replay, IsDense, Stays, HasSame, HasGroup}
use Rattle.nx_replay.specs.Laws.{over_all}
use Rattle.nx_replay.proofs.ReplayLemmas.{replay-more, replay-same}
use Rattle.nx_replay.proofs.SettledLemmas.{some_of}
use Rattle.nx_replay.proofs.StepLemmas.{less_or_not}
use Rattle.nx_replay.proofs.GroupLemmas.{group_says}
use Rattle.nx_wal.proofs.WalLemmas.{group_at, group_counted}
use Rattle.nx_wal.specs.Wal.{Follows, IsInStep, length_of, pending, next_group}
use Rattle.nx_wal.specs.declared.wal.Wal.{Wal}
use Rattle.nx_ship.specs.Stream.{BeginsWithHeader}
use Rattle.nx_ship.specs.Reading.{AreUnderWay}
use Rattle.nx_ship.specs.Next.{IsAtNumber, MayComeTo}
use Rattle.nx_ship.specs.Applying.{most_log, groups_in, log_before, log_after, HasLogged}
use Rattle.nx_ship.specs.Receiving.{LeavesInput, LeavesStream, KnowsGroups, KeepsUp, IsLast, is_next_number}
use Rattle.nx_ship.specs.declared.receiver.Receiver.{Receiver}
use Rattle.nx_ship.proofs.EntryLemmas.{entries_more, same_entries, first_waits, number_laid}
use Rattle.nx_ship.proofs.ApplyingLemmas.{in_turn_more, pages_more}

-- Input is left:

module _ {D : Type 0} {d : Ghosts D} where
  pub leaves_none : (a : D) → LeavesInput d a a
  leaves_none a = record {
    told = λ h. h;
    input_stays = keeps_self (d.beside a).input;
    in_faults_stay = refl;
    out_faults_later = omega arith;
    faults_later = omega arith;
  }

  pub leaves_then : {a b c : D} → LeavesInput d a b → LeavesInput d b c → LeavesInput d a c
  leaves_then {a = a} {b = b} {c = c} one two = record {
    told = λ h. one.told (two.told h);
    input_stays = keeps_then (d.beside a).input (d.beside b).input (d.beside c).input one.input_stays two.input_stays;
    in_faults_stay = two.in_faults_stay ∙ one.in_faults_stay;
    out_faults_later = let x : (d.beside a).out_faults ≤ (d.beside b).out_faults = one.out_faults_later in let y : (d.beside b).out_faults ≤ (d.beside c).out_faults = two.out_faults_later in omega (arith, x, y);
    faults_later = let x : d.faults a ≤ d.faults b = one.faults_later in let y : d.faults b ≤ d.faults c = two.faults_later in omega (arith, x, y);
  }

  pub writes_leaves : {a b : D} {P : Image → Type 0} → WritesAlone d a b P → LeavesInput d a b
  writes_leaves writes = record {
    told = writes.told;
    input_stays = (writes.beside_stays).input;
    in_faults_stay = (writes.beside_stays).in_faults;
    out_faults_later = let same = (writes.beside_stays).out_faults in omega (arith, same);
    faults_later = writes.faults_later;
  }

-- Before a group:

pub empty_or_not : (es : List Entry) → (es ≡ []) ⊎ (0 < length es)
empty_or_not [] = inl refl
empty_or_not (e ∷ es) = inr (omega arith)

pub same_stream : (r : Receiver) → LeavesStream r r
same_stream r = record { reader = refl; last = refl; offset = refl }

-- the group's number may be the next before, where it may be after
still_next : (old new : Receiver) → LeavesStream old new → is_next_number new.last new.reader.number ≡ true → is_next_number old.last old.reader.number ≡ true
still_next old new stays next =
    ap (λ (l : Option ℕ). is_next_number l old.reader.number) (sym stays.last) ∙ ap (λ r. is_next_number new.last r.number) (sym stays.reader) ∙ next

some_behind : (es : List Entry) (e : Entry) → es ++ e ∷ [] ≡ [] → ⊥
some_behind es e empty = let long : length (es ++ e ∷ []) ≡ 0 = ap length empty in omega (arith, long, length-append es (e ∷ []))

-- What a receiver knows of groups:

module _ {start : Pages} {groups : List Group} {es : List Entry} where
  -- what waits was dropped, where no first page does
  pub dropped : {old new : Receiver} → LeavesStream old new → pending new.wal ≡ [] → entry_pages (pending old.wal) 0 ≡ None → (0 < length es → BeginsWithHeader old.reader.number es)
      → KnowsGroups start old groups es → KnowsGroups start new groups es
  dropped {old = old} {new = new} stays none missing header knows = record {
    in_turn = knows.in_turn;
    last = subst (λ (l : Option ℕ). IsLast l (over_all start groups)) (sym stays.last) knows.last;
    none = λ empty. none;
    waits = λ some next.
        absurd (first_waits old.reader.number es (entry_pages (pending old.wal)) (header some) (knows.waits some (still_next old new stays next)) missing);
  }

  -- the pages that wait are those of the group so far
  waiting_are : {r : Receiver} → KnowsGroups start r groups es → is_next_number r.last r.reader.number ≡ true → entry_pages (pending r.wal) ≡ entry_pages es
  waiting_are {r = r} knows next =
      elim (empty_or_not es) [
        | inl none ↦ ap (λ (ps : List Entry). entry_pages ps) (knows.none none ∙ sym none)
        | inr some ↦ knows.waits some next
      ]

  -- a page more waits
  pub kept_page : {old new : Receiver} (e : Entry) → LeavesStream old new → entry_pages (pending new.wal) ≡ over (entry_pages (e ∷ [])) (entry_pages (pending old.wal)) → AreUnderWay old.reader.number (es ++ e ∷ [])
      → KnowsGroups start old groups es → KnowsGroups start new groups (es ++ e ∷ [])
  kept_page {old = old} {new = new} e stays puts under knows = record {
    in_turn = knows.in_turn;
    last = subst (λ (l : Option ℕ). IsLast l (over_all start groups)) (sym stays.last) knows.last;
    none = λ empty. absurd (some_behind es e empty);
    waits = λ some next.
        let so_far : entry_pages (pending old.wal) ≡ entry_pages es = waiting_are knows (still_next old new stays next) in
        puts ∙ ap (λ (base : Pages). over (entry_pages (e ∷ [])) base) so_far ∙ sym (entries_more es e under.rises);
  }

  -- a page of a group that isn't the next one waits nowhere
  pub passed_page : {r : Receiver} (e : Entry) → is_next_number r.last r.reader.number ≡ false → KnowsGroups start r groups es → KnowsGroups start r groups (es ++ e ∷ [])
  passed_page e not_next knows = record {
    in_turn = knows.in_turn;
    last = knows.last;
    none = λ empty. absurd (some_behind es e empty);
    waits = λ some next. absurd (false≢true (sym not_next ∙ next));
  }

  -- nothing but the reader went on
  pub reread : {old new : Receiver} → new.wal ≡ old.wal → new.last ≡ old.last → (0 < length es → new.reader.number ≡ old.reader.number) → KnowsGroups start old groups es → KnowsGroups start new groups es
  reread {old = old} {new = new} wal last number knows = record {
    in_turn = knows.in_turn;
    last = subst (λ (l : Option ℕ). IsLast l (over_all start groups)) (sym last) knows.last;
    none = λ empty. ap (λ (w : Wal). pending w) wal ∙ knows.none empty;
    waits = λ some next.
        ap (λ (w : Wal). entry_pages (pending w)) wal
        ∙ knows.waits some (ap (λ (n : ℕ). is_next_number old.last n) (sym (number some)) ∙ ap (λ (l : Option ℕ). is_next_number l new.reader.number) (sym last) ∙ next);
  }

-- a group more is in
pub known_more : {start : Pages} {groups : List Group} {es : List Entry} {old new : Receiver} → new.last ≡ Some old.reader.number → pending new.wal ≡ [] → BeginsWithHeader old.reader.number es
    → MayComeTo (over_all start groups) (record { number = old.reader.number; entries = es }) → KnowsGroups start old groups es
    → KnowsGroups start new (groups ++ record { number = old.reader.number; entries = es } ∷ []) []
known_more {start = start} {groups = groups} {es = es} {old = old} last none header comes knows =
    let g : Group = record { number = old.reader.number; entries = es } in
    record {
      in_turn = in_turn_more start groups g knows.in_turn comes;
      last = subst (λ (l : Option ℕ). IsLast l (over_all start (groups ++ g ∷ []))) (sym last)
          (subst (λ (p : Pages). IsAtNumber p old.reader.number) (sym (pages_more start groups g)) (number_laid (over_all start groups) old.reader.number es header));
      none = λ empty. none;
      waits = λ some next. absurd (omega (arith, some));
    }

-- What the log has:

less_by : (n m : ℕ) → ((nat_lt n m ≡ true) × (n < m)) ⊎ ((nat_lt n m ≡ false) × (m ≤ n))
less_by n m = elim (cases_Bool (nat_lt n m)) [
  | inl under ↦ inl (under, ltb-true n m under)
  | inr over_it ↦ inr (over_it, elim (less_or_not n m) [ inl less ↦ absurd (false≢true (sym over_it ∙ lt-ltb n m less)) | inr most ↦ most ])
]

before_long : (log : List Group) → most_log < end_of log → log_before log ≡ []
before_long log long = ap (λ (b : Bool). if b then [] else log) (lt-ltb most_log (end_of log) long)

before_short : (log : List Group) → end_of log ≤ most_log → log_before log ≡ log
before_short log short = elim (less_by most_log (end_of log)) [
  | inl under ↦ absurd (let less = under.1 in omega (arith, less, short))
  | inr over_it ↦ ap (λ (b : Bool). if b then [] else log) over_it.0
]

-- what is there before a group comes isn't long
before_few : (log : List Group) → end_of (log_before log) ≤ most_log
before_few log = elim (less_by most_log (end_of log)) [
  | inl under ↦ let none : log_before log ≡ [] = before_long log under.1 in let end : end_of (log_before log) ≡ 0 = ap (λ (l : List Group). end_of l) none in omega (arith, end)
  | inr over_it ↦ let same : log_before log ≡ log = before_short log over_it.1 in let end : end_of (log_before log) ≡ end_of log = ap (λ (l : List Group). end_of l) same in let most = over_it.1 in omega (arith, end, most)
]

-- one group more
after_more : (log gs : List Group) (g : Group) → log_after log (gs ++ g ∷ []) ≡ log_before (log_after log gs) ++ g ∷ []
after_more log [] g = refl
after_more log (h ∷ gs) g = after_more (log_before log ++ h ∷ []) gs g

-- it is ready for another group, where it isn't long
ready_short : (log gs : List Group) (image : Image) → HasLogged log gs image → end_of (groups_in image) ≤ most_log → groups_in image ≡ log_before (log_after log gs)
ready_short log gs image (inl is) short =
    let few : end_of (log_after log gs) ≤ most_log = subst (λ (l : List Group). end_of l ≤ most_log) is short in
    is ∙ sym (before_short (log_after log gs) few)
ready_short log gs image (inr is) short = is

-- ... and where it was long, and is emptied
ready_emptied : (log gs : List Group) (image : Image) → HasLogged log gs image → most_log < end_of (groups_in image) → log_before (log_after log gs) ≡ []
ready_emptied log gs image (inl is) long = before_long (log_after log gs) (subst (λ (l : List Group). most_log < end_of l) is long)
ready_emptied log gs image (inr is) long =
    let few = before_few (log_after log gs) in
    let end : end_of (groups_in image) ≡ end_of (log_before (log_after log gs)) = ap (λ (l : List Group). end_of l) is in
    absurd (omega (arith, few, end, long))

slice_last : (gs : List Group) (h : Group) → slice_get (gs ++ h ∷ []) (length gs) ≡ Some h
slice_last [] h = refl
slice_last (x ∷ gs) h = slice_last gs h

-- the pages of a log's group rise
last_rises : (wal : Wal) (gs : List Group) (h : Group) (log : List ℕ) → Follows wal log → groups log ≡ gs ++ h ∷ [] → rise 0 h.entries ≡ true
last_rises wal gs h log follows is =
    let counted = group_counted wal log follows in
    let long : length (groups log) ≡ length (gs ++ h ∷ []) = ap (λ (l : List Group). length l) is in
    let at = group_at wal (length gs) log follows (omega (arith, counted, long, length-append gs (h ∷ []))) in
    let here : slice_get (groups log) (length gs) ≡ Some h = ap (λ (l : List Group). slice_get l (length gs)) is ∙ slice_last gs h in
    let same = sym at.group ∙ here in
    subst (λ (g : Group). rise 0 g.entries ≡ true) (some_is same) (group_says _ (at.stands).group).rises
  where
    some_is : {x y : Group} → ◌≡◌ {A = Option Group} (Some x) (Some y) → x ≡ y
    some_is is = cc

-- What the disk stands for:

module _ {D : Type 0} {d : Ghosts D} where
  -- what it is ready for
  pub as_ready : {start : Pages} {first : D} {gs : List Group} {wal : Wal} {Before After : Type 0} {now : D} → (After → Before) → KeepsUp d start first gs wal Before now → KeepsUp d start first gs wal After now
  as_ready ready up = record { image = up.image; step = up.step; is = up.is; logged = up.logged; ready = λ after. up.ready (ready after) }

  -- the log is in step still
  pub followed : {wal after : Wal} {start : Pages} {first : D} {gs : List Group} {Ready : Type 0} {now : D} → ((log : List ℕ) → Follows wal log → Follows after log) → KeepsUp d start first gs wal Ready now
      → KeepsUp d start first gs after Ready now
  followed follows up = record {
    image = up.image;
    step = record { settled = (up.step).settled; follows = follows (up.image).log (up.step).follows };
    is = up.is;
    logged = up.logged;
    ready = up.ready;
  }

  -- it isn't long
  pub kept_short : {wal : Wal} {start : Pages} {first : D} {gs : List Group} {Ready : Type 0} {now : D} → length_of wal ≤ most_log → KeepsUp d start first gs wal Ready now → KeepsUp d start first gs wal (Unit {0}) now
  kept_short {gs = gs} short up = record {
    image = up.image;
    step = up.step;
    is = up.is;
    logged = up.logged;
    ready = λ any was settled.
        let end = (((up.step).follows).at).here in
        ready_short (groups_in was) gs up.image (up.logged was settled) (omega (arith, end, short));
  }

  -- a checkpoint was made
  pub moved : {wal after : Wal} {start : Pages} {first : D} {gs : List Group} {Ready : Type 0} {a b : D} → most_log < length_of wal → IsDense (over_all start gs) → IsSome (d.contents b)
      → ((was now : Image) → IsInStep d wal a was → d.contents b ≡ Some now → IsInStep d after b now × Stays (replay was) (replay now) × (groups now.log ≡ []))
      → KeepsUp d start first gs wal Ready a → KeepsUp d start first gs after (Unit {0}) b
  moved {first = first} {gs = gs} {b = b} long dense told ok up =
      let (now, is) = some_of (d.contents b) told in
      let (step, kept, emptied) = ok up.image now up.step is in
      let still : IsDense (replay up.image) = subst (λ (p : Pages). IsDense p) (sym up.is) dense in
      let end = (((up.step).follows).at).here in
      let ready : (was : Image) → IsSettled d first was → groups_in now ≡ log_before (log_after (groups_in was) gs) =
      λ was settled. emptied ∙ sym (ready_emptied (groups_in was) gs up.image (up.logged was settled) (omega (arith, end, long))) in
      record { image = now; step = step; is = kept.dense still ∙ up.is; logged = λ was settled. inr (ready was settled); ready = λ any. ready }

  -- its moments
  pub moving : {wal : Wal} {start : Pages} {first : D} {gs : List Group} {Ready : Type 0} {a b : D} → IsDense (over_all start gs) → IsSome (d.contents b) → KeepsUp d start first gs wal Ready a
      → WritesAlone d a b (λ i. (was : Image) → IsInStep d wal a was → Stays (replay was) (replay i))
      → Elapses d.moment d.stood_since a b (λ s. Keeps (d.beside a).output s.output × (replay s.image ≡ over_all start gs))
  moving dense told up writes =
      let still : IsDense (replay up.image) = subst (λ (p : Pages). IsDense p) (sym up.is) dense in
      elapsed_weaker writes.time (λ s h. (h.0, (h.1 told up.image up.step).dense still ∙ up.is))

  -- the group that waits is over the pages
  pub laid_over : (old : Receiver) (es : List Entry) {wal : Wal} {start : Pages} {first : D} {gs : List Group} {Ready : Type 0} {a b : D} → IsSome (d.contents b) → entry_pages (pending old.wal) ≡ entry_pages es
      → ((was now : Image) → IsInStep d old.wal a was → d.contents b ≡ Some now → IsInStep d wal b now × HasGroup (next_group old.reader.number old.wal) was now)
      → KeepsUp d start first gs old.wal Ready a → (now : Image) × IsInStep d wal b now × (replay now ≡ over (entry_pages es) (over_all start gs))
  laid_over old es {b = b} told waits ok up =
      let (now, is) = some_of (d.contents b) told in
      let (step, more) = ok up.image now up.step is in
      (now, step, replay-more (next_group old.reader.number old.wal) up.image now more ∙ ap (λ (top : Pages). over top (replay up.image)) waits ∙ ap (λ (base : Pages). over (entry_pages es) base) up.is)

  -- ... and is in the log
  pub laid : (old : Receiver) (es : List Entry) {wal : Wal} {start : Pages} {first : D} {gs : List Group} {a b : D} → IsSome (d.contents b) → rise 0 es ≡ true → entry_pages (pending old.wal) ≡ entry_pages es
      → ((was now : Image) → IsInStep d old.wal a was → d.contents b ≡ Some now → IsInStep d wal b now × HasGroup (next_group old.reader.number old.wal) was now)
      → KeepsUp d start first gs old.wal (Unit {0}) a → KeepsUp d start first (gs ++ record { number = old.reader.number; entries = es } ∷ []) wal ⊥ b
  laid old es {wal = wal} {start = start} {gs = gs} {b = b} told rises waits ok up =
      let g : Group = record { number = old.reader.number; entries = es } in
      let h = next_group old.reader.number old.wal in
      let (now, is) = some_of (d.contents b) told in
      let (step, more) = ok up.image now up.step is in
      let entries : h.entries ≡ es = same_entries h.entries es 0 (last_rises wal (groups_in up.image) h now.log step.follows more.log) rises waits in
      record {
        image = now;
        step = step;
        is = replay-more h up.image now more ∙ ap (λ (top : Pages). over top (replay up.image)) waits ∙ ap (λ (base : Pages). over (entry_pages es) base) up.is ∙ sym (pages_more start gs g);
        logged = λ was settled. inl
            (more.log ∙ ap (λ (fs : List Entry). groups_in up.image ++ record { number = old.reader.number; entries = fs } ∷ []) entries
            ∙ ap (λ (l : List Group). l ++ g ∷ []) (up.ready tt was settled) ∙ sym (after_more (groups_in was) gs g));
        ready = λ never. absurd never;
      }

  -- the moments of its commit
  pub committing : (old : Receiver) (es : List Entry) {start : Pages} {first : D} {gs : List Group} {Ready : Type 0} {a b : D} → IsSome (d.contents b) → entry_pages (pending old.wal) ≡ entry_pages es → (up : KeepsUp d start first gs old.wal Ready a)
      → WritesAlone d a b (λ i. (was : Image) → IsInStep d old.wal a was → HasSame was i ⊎ HasGroup (next_group old.reader.number old.wal) was i)
      → Elapses d.moment d.stood_since a b (λ s. Keeps (d.beside a).output s.output × ((replay s.image ≡ replay up.image) ⊎ (replay s.image ≡ over (entry_pages es) (replay up.image))))
  committing old es told waits up writes =
      elapsed_weaker writes.time (λ s h. (
        h.0,
        elim (h.1 told up.image up.step) [
          | inl same ↦ inl (replay-same up.image s.image same)
          | inr more ↦ inr (replay-more (next_group old.reader.number old.wal) up.image s.image more ∙ ap (λ (top : Pages). over top (replay up.image)) waits)
        ],
      ))
