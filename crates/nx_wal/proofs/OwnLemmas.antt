-- The files that a log leaves.
use Rattle.std.proofs.Common.{◌≡◌, ◌⊎◌, inl, inr, ℕ, ◌^◌, ◌<◌, ◌≤◌, List, [], ◌∷◌, ◌++◌, length, take, refl, sym, ap, subst, ◌∙◌, arith, get_or, length-append, drop, Bool}
use Rattle.std.proofs.lemmas.Bool.{false≢true, cases_Bool}
use Rattle.std.specs.Prelude.{Some, IsSome}
use Rattle.nx_host.specs.declared.disk.Area.TheVariants.{Log}
use Rattle.nx_host.specs.Disk.{Image, TearsIn, ComesTorn}
use Rattle.nx_host.specs.Time.{Stood}
use Rattle.nx_host.specs.declared.disk.Disk.{Ghosts}
use Rattle.nx_host.specs.Still.{WritesAlone, IsSettled}
use Rattle.nx_host.proofs.DiskLemmas.{written_alone_then, written_alone_weaker}
use Rattle.nx_replay.specs.Log.{Group, is_group, group_of, group_page_count, group_size, groups_behind, groups, end_of, entry_pages, logged, pages_of, HasSame, HasGroup, IsPartlyMoved}
use Rattle.nx_replay.specs.Commit.{IsOpened, IsBody}
use Rattle.nx_replay.proofs.GroupLemmas.{group_says, groups-first, groups-none, length-entries_in}
use Rattle.nx_replay.proofs.ReplayLemmas.{logged_first, option_or-right, page-cases, IsMoved}
use Rattle.nx_replay.proofs.SettledLemmas.{some_of, is_some, from_settled}
use Rattle.nx_replay.proofs.CommitMoments.{Shuts, LaysGroup}
use Rattle.nx_wal.specs.declared.wal.Wal.{Wal}
use Rattle.nx_wal.specs.Places.{Places}
use Rattle.nx_wal.specs.Moving.{IsLed, Moves, HasMoved}
use Rattle.nx_wal.specs.Own.{BeginsWithGate, IsOwn, IsAsLong}
use Rattle.nx_wal.specs.Wal.{IsInStep, next_group}
use Rattle.nx_wal.specs.Writing.{body_of}
use Rattle.nx_wal.proofs.CountLemmas.{first_page}
use Rattle.nx_wal.proofs.MovingLemmas.{opens, Settles, synced_goes}
use Rattle.nx_wal.proofs.WalLemmas.{led, some_group, opened_step}

-- A log with a group.

ends_some : (gs : List Group) → (gs ≡ [] → ⊥) → 0 < end_of gs
ends_some [] some = absurd (some refl)
ends_some (g ∷ gs) some = omega arith

ends_none : (gs : List Group) → 0 < end_of gs → gs ≡ [] → ⊥
ends_none gs some none = let no : end_of gs ≡ 0 = ap end_of none in omega (arith, some, no)

push_some : (gs : List Group) (g : Group) → gs ++ g ∷ [] ≡ [] → ⊥
push_some gs g none = let no : length (gs ++ g ∷ []) ≡ 0 = ap length none in omega (arith, no, length-append gs (g ∷ []))

-- one with a group may stand beside any area
with_group : (i : Image) → 0 < end_of (groups i.log) → IsOwn i
with_group i some =
    let first = opens i.log some in
    let gate : get_or i.log 0 0 ≡ 1 = first.0 in
    record { begins = omega (arith, gate); has_log = λ whole. first.1; opened = λ there part. (gate, ends_none (groups i.log) some) }

-- a log that keeps its groups, and isn't shorter, beside the same area
as_before : (was i : Image) → i.pages ≡ was.pages → length was.log ≤ length i.log → (groups i.log ≡ [] → groups was.log ≡ []) → BeginsWithGate i.log → IsOwn was → IsOwn i
as_before was i area longer keeps begins own =
    let same : length i.pages ≡ length was.pages = ap length area in
    record {
      begins = begins;
      has_log = λ whole. let had : 0 < length was.log = own.has_log (omega (arith, whole, same)) in omega (arith, had, longer);
      opened = λ there part.
          let had = own.opened (omega (arith, there, same)) (omega (arith, part, same)) in
          let some : groups i.log ≡ [] → ⊥ = λ none. had.1 (keeps none) in
          ((opens i.log (ends_some (groups i.log) some)).0, some);
    }

pub after_commit : (g : Group) (was i : Image) → HasSame was i ⊎ HasGroup g was i → length was.log ≤ length i.log → BeginsWithGate i.log → IsOwn was → IsOwn i
after_commit g was i (inl same) longer begins own = as_before was i same.area longer (λ none. sym same.log ∙ none) begins own
after_commit g was i (inr more) longer begins own = as_before was i more.area longer (λ none. absurd (push_some (groups was.log) g (sym more.log ∙ none))) begins own

-- A log with a group has a page.

logged_page : (bytes : List ℕ) → 0 < end_of (groups_behind 0 bytes) → (p : ℕ) × IsSome (logged (groups_behind 0 bytes) p)
logged_page bytes some =
    elim (cases_Bool (is_group bytes)) [
      | inl holds ↦
          let says = group_says bytes holds in
          let counted : length (group_of bytes).entries ≡ group_page_count bytes = length-entries_in (group_page_count bytes) _ in
          let found = first_page (group_of bytes).entries (let least = says.some in omega (arith, least, counted)) in
          let rest = groups_behind 0 (drop (group_size (group_page_count bytes)) bytes) in (
            found.0,
            subst (λ (gs : List Group). IsSome (logged gs found.0)) (sym (groups-first bytes holds))
                (subst IsSome (sym (logged_first (group_of bytes) rest found.0)) (option_or-right (logged rest found.0) (entry_pages (group_of bytes).entries found.0) found.1)),
          )
      | inr fails ↦ absurd (let none : end_of (groups_behind 0 bytes) ≡ 0 = ap end_of (groups-none bytes fails) in omega (arith, some, none))
    ]

-- so where its pages were moved, the area has a page
moved_whole : (now : Image) → IsMoved now → 0 < end_of (groups now.log) → 8192 ≤ length now.pages
moved_whole now moved some =
    let found = logged_page (take (2 ^ 63) now.log) some in
    elim (page-cases now.pages found.0) [
      | inl there ↦ let low = there.1 in omega (arith, low)
      | inr none ↦ absurd (let lost : IsSome (pages_of now.pages found.0) = subst IsSome (sym (moved.in_area found.0 found.1)) found.1 in false≢true (subst IsSome none lost))
    ]

after_gate : (was i : Image) → IsMoved was → 0 < end_of (groups was.log) → TearsIn Log 0 1 was i → BeginsWithGate i.log → IsOwn i
after_gate was i moved some tears begins =
    let area : length i.pages ≡ length was.pages = ap length tears.there in
    let whole : 8192 ≤ length was.pages = moved_whole was moved some in
    let had : 0 < length was.log = moved.some in
    let longer : length was.log ≤ length i.log = (tears.here).no_shorter in
    record {
      begins = begins;
      has_log = λ _. omega (arith, had, longer);
      opened = λ there part. absurd (omega (arith, part, area, whole));
    }

module _ {D : Type 0} {d : Ghosts D} where
  -- what holds of each image twice holds of both
  both_alone : {a b : D} {P Q : Image → Type 0} → WritesAlone d a b P → WritesAlone d a b Q → WritesAlone d a b (λ i. P i × Q i)
  both_alone first second = record {
    told = first.told;
    beside_stays = first.beside_stays;
    faults_later = first.faults_later;
    reads_later = first.reads_later;
    time = record {
      later = first.time.later;
      nothing_else = λ t s le since. elim (first.time.nothing_else t s le since) [
        | inl earlier ↦ inl earlier
        | inr p ↦ elim (second.time.nothing_else t s le since) [ inl earlier ↦ inl earlier | inr q ↦ inr (p.0, λ told. (p.1 told, q.1 told)) ]
      ];
      keeps = first.time.keeps;
    };
  }

  -- a write to the log makes it no shorter
  pub torn_long : {at n : ℕ} {a b : D} → WritesAlone d a b (ComesTorn Log at n (d.may_leave a)) → WritesAlone d a b (IsAsLong d a)
  torn_long {at = at} {n = n} goes = written_alone_weaker goes (λ told i torn was settled.
      let tears : TearsIn Log at n was i = from_settled Log at n settled torn in
      (tears.here).no_shorter)

  -- what a checkpoint leaves while pages are moved, and behind that
  pub moves_own : {places : Places} {a e : D} → WritesAlone d a e (λ i. (was : Image) → IsLed d places a was → IsPartlyMoved was i)
      → WritesAlone d a e (λ i. (was : Image) → IsLed d places a was → 0 < end_of (groups was.log) → BeginsWithGate i.log → IsOwn i)
  moves_own first = written_alone_weaker first (λ told i partly was led some begins. with_group i (subst (λ (l : List ℕ). 0 < end_of (groups l)) (sym (partly was led).log) some))

  pub emptied_own : {places : Places} {a b c e : D} → Moves d places a b → HasMoved d places places.entries a b → WritesAlone d b c (d.may_leave b)
      → ((now : Image) → d.contents c ≡ Some now → (d.contents b ≡ Some now) × ((i : Image) → d.may_leave c i → i.pages ≡ now.pages)) → Settles d places a c
      → WritesAlone d c e (ComesTorn Log 0 1 (d.may_leave c))
      → WritesAlone d a e (λ i. (was : Image) → IsLed d places a was → 0 < end_of (groups was.log) → BeginsWithGate i.log → IsOwn i)
  emptied_own {c = c} moves moved goes durable settles gate = written_alone_then (moves_own (synced_goes moves goes)) gate (λ told i torn was led some begins.
      let mid = some_of (d.contents c) (gate.told told) in
      let done = settles was mid.0 led some mid.1 in
      let same : (mid.0).log ≡ was.log = moved.log was mid.0 led (durable mid.0 mid.1).0 in
      after_gate mid.0 i done.1 (subst (λ (l : List ℕ). 0 < end_of (groups l)) (sym same) some) (from_settled Log 0 1 done.0 torn) begins)

  pub checkpoint_own : (wal : Wal) (a b : D) → 0 < wal.end
      → WritesAlone d a b (λ i. (was : Image) → IsLed d wal.places a was → 0 < end_of (groups was.log) → BeginsWithGate i.log → IsOwn i)
      → WritesAlone d a b (λ i. (was : Image) → IsInStep d wal a was → IsOwn was → BeginsWithGate i.log → IsOwn i)
  checkpoint_own wal a b some goes = written_alone_weaker goes (λ told i own was step owned begins. own was (led d wal a was step) (some_group d wal a was step some) begins)

-- A commit makes the log no shorter.

-- an image that stands while it goes on
abbrev pub Longer : {D : Type 0} → Ghosts D → ℕ → Bool → List ℕ → D → Image → Type 0
Longer d end shut body a i = (was : Image) (g : Group) → IsOpened d end shut a was → IsBody g end body → length was.log ≤ length i.log

module _ {D : Type 0} {d : Ghosts D} (may_stay : (x : D) (i : Image) → d.contents x ≡ Some i → d.may_leave x i)
    (stands : (x : D) (t : ℕ) (i : Image) → t ≤ d.moment x → d.may_leave x i → d.stood_since x t (record { output = (d.beside x).output; image = i }))
    (only : (x : D) (s : Stood) → d.stood_since x (d.moment x) s → (s.output ≡ (d.beside x).output) × d.may_leave x s.image) where
  -- what stands afterwards stood at some moment
  long_now : {a b : D} {was now : Image} → WritesAlone d a b (IsAsLong d a) → IsSettled d a was → d.contents b ≡ Some now → length was.log ≤ length now.log
  long_now {a = a} {b = b} {was = was} {now = now} goes settled told =
      let s : Stood = record { output = (d.beside b).output; image = now } in
      let later : d.moment a ≤ d.moment b = goes.time.later in
      let since = stands b (d.moment a) now later (may_stay b now told) in
      elim (goes.time.nothing_else (d.moment a) s (omega arith) since) [
        | inl earlier ↦ let same : now ≡ was = settled.only now (only a s earlier).1 in subst (λ (j : Image). length was.log ≤ length j.log) (sym same) (omega arith)
        | inr added ↦ added.1 (is_some (d.contents b) told) was settled
      ]

  module _ {a b : D} (end : ℕ) (shut : Bool) (body : List ℕ) where
    pub long_one : WritesAlone d a b (IsAsLong d a) → WritesAlone d a b (Longer d end shut body a)
    long_one first = written_alone_weaker first (λ told i long was g opened is. long was opened.settled)

    pub long_two : {c : D} → WritesAlone d a b (IsAsLong d a) → Shuts d end shut a b → WritesAlone d b c (IsAsLong d b) → WritesAlone d a c (Longer d end shut body a)
    long_two first shuts second = written_alone_then (long_one first) second (λ told i long was g opened is.
        let mid = some_of (d.contents b) (second.told told) in
        let shut = shuts was mid.0 opened mid.1 in
        let x : length was.log ≤ length (mid.0).log = long_now first opened.settled mid.1 in
        let y : length (mid.0).log ≤ length i.log = long mid.0 (shut.1).settled in
        omega (arith, x, y))

    pub long_three : {c e : D} → WritesAlone d a b (IsAsLong d a) → Shuts d end shut a b → WritesAlone d b c (IsAsLong d b) → LaysGroup d end body b c → WritesAlone d c e (IsAsLong d c)
        → WritesAlone d a e (Longer d end shut body a)
    long_three {c = c} first shuts second lays third = written_alone_then (long_two first shuts second) third (λ told i long was g opened is.
        let far = some_of (d.contents c) (third.told told) in
        let mid = some_of (d.contents b) (second.told (third.told told)) in
        let shut = shuts was mid.0 opened mid.1 in
        let laid = lays mid.0 far.0 g shut.1 is far.1 in
        let x : length was.log ≤ length (mid.0).log = long_now first opened.settled mid.1 in
        let y : length (mid.0).log ≤ length (far.0).log = long_now second (shut.1).settled far.1 in
        let z : length (far.0).log ≤ length i.log = long far.0 ((laid.1).opened).settled in
        omega (arith, x, y, z))

pub commit_own : {D : Type 0} (d : Ghosts D) (wal : Wal) (number : ℕ) (a b : D) → wal.end ≤ 2 ^ 62 → IsBody (next_group number wal) wal.end (body_of number wal.waiting.pages.entries)
    → WritesAlone d a b (λ i. (was : Image) (g : Group) → IsOpened d wal.end wal.shut a was → IsBody g wal.end (body_of number wal.waiting.pages.entries) → HasSame was i ⊎ HasGroup g was i)
    → WritesAlone d a b (λ i. (was : Image) (g : Group) → IsOpened d wal.end wal.shut a was → IsBody g wal.end (body_of number wal.waiting.pages.entries) → length was.log ≤ length i.log)
    → WritesAlone d a b (λ i. (was : Image) → IsInStep d wal a was → IsOwn was → BeginsWithGate i.log → IsOwn i)
commit_own d wal number a b room body goes longer = written_alone_weaker (both_alone goes longer) (λ told i outcome was step own begins.
    let g = next_group number wal in
    let opened = opened_step room step in
    after_commit g was i (outcome.0 was g opened body) (outcome.1 was g opened body) begins own)
