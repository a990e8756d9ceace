-- Moving pages from the log to the pages area.
use Rattle.std.proofs.Common.{◌≡◌, ◌⊎◌, ℕ, ◌+◌, ◌*◌, ◌^◌, ◌<◌, ◌≤◌, List, [], ◌∷◌, ◌++◌, length, take, drop, refl, sym, ap, subst, ◌∙◌, arith, inl, inr, Bool, true, false, cond, get_or}
use Rattle.std.proofs.Common.{length-drop, length-take, get_or-take}
use Rattle.std.proofs.lemmas.Bool.{false≢true, cases_Bool, eqb-true, eqb-false}
use Rattle.std.proofs.lemmas.List.{take_all}
use Rattle.std.specs.Prelude.{Option, Some, None, IsSome, max, ◌==◌}
use Rattle.std.specs.List.{AllByRecursion}
use Rattle.std.specs.Map.{lookup}
use Rattle.std.specs.BTreeMap.{get, is_at}
use Rattle.std.specs.Ordering.{nat_cmp}
use Rattle.nx_replay.proofs.KnownLemmas.{logged-known}
use Rattle.nx_wal.proofs.ListLemmas.{all_push, all_weaker}
use Rattle.nx_host.proofs.TornLemmas.{written_torn}
use Rattle.nx_host.specs.declared.disk.Area.TheVariants.{Pages, Log}
use Rattle.nx_host.specs.Disk.{Image, Torn, Written, TearsIn, WritesTo, ComesTorn}
use Rattle.nx_host.specs.declared.disk.Disk.{Ghosts}
use Rattle.nx_host.specs.Still.{WritesAlone, IsSettled}
use Rattle.nx_replay.specs.Log.{is_group, end_of, groups, logged, replay, IsLogEnd, Stays, IsPartlyMoved}
use Rattle.nx_replay.proofs.GroupLemmas.{group_says, groups-none}
use Rattle.nx_replay.proofs.CommitLemmas.{at_written, first_of_rest}
use Rattle.nx_wal.proofs.WritingLemmas.{image_same}
use Rattle.nx_host.proofs.DiskLemmas.{written_alone_then, written_alone_weaker, none_written}
use Rattle.nx_replay.proofs.SettledLemmas.{some_of, is_some, from_settled}
use Rattle.nx_replay.proofs.StepLemmas.{less_or_not}
use Rattle.nx_replay.proofs.ReplayLemmas.{torn_apart, moved_more, moved_stays, page-there, closed_torn, IsMoved}
use Rattle.nx_wal.specs.Reading.{FillsPrefix}
use Rattle.nx_wal.specs.Places.{Places, page_at_place, LeadsTo}
use Rattle.nx_wal.specs.Moving.{WritesPage, IsLed, Moves, IsInArea, HasMoved}
use Rattle.nx_wal.proofs.ReadingLemmas.{some_same, at_number}

-- a whole page was given
pub page_given : (n at : ℕ) (into log : List ℕ) → FillsPrefix n 8192 into (drop at log) → length into ≡ 8192 → at + 8192 ≤ length log → into ≡ take 8192 (drop at log)
page_given n at into log gives long fits =
    let count : n ≡ length (take 8192 (drop at log)) = gives.count in
    let whole : n ≡ length into = omega (arith, count, long, fits, length-take 8192 (drop at log), length-drop at log) in
    sym (take_all n into (omega (arith, whole))) ∙ gives.same

pub partly_self : (i : Image) → IsPartlyMoved i i
partly_self i = record {
  log = refl;
  no_shorter = omega arith;
  kept = λ p fits none. refl;
  no_longer = λ p past there. absurd (omega (arith, past, there));
}

-- what holds of each key holds of one that is found
pub all_found : (P : ℕ → Type 0) (es : List (ℕ × Option ℕ)) (p : ℕ) (o : Option ℕ) → AllByRecursion (λ (e : ℕ × Option ℕ). P e.0) es → lookup (is_at (nat_cmp p)) es ≡ Some o → P p
all_found P [] p o all found = absurd (let lost : None ≡ Some o = found in cc)
all_found P (e ∷ es) p o all found =
    elim (cases_Bool (is_at (nat_cmp p) e.0)) [
      | inl holds ↦ subst P (eqb-true e.0 p (sym (at_number p e.0) ∙ holds)) all.0
      | inr fails ↦ all_found P es p o all.1 (sym (ap (λ (b : Bool). cond b (Some e.1) (lookup (is_at (nat_cmp p)) es)) fails) ∙ found)
    ]

-- one page more was written, which leaves the others
there_more : {bytes old new : List ℕ} (log : List ℕ) (page : ℕ) → Written (8192 * page) bytes old new → length bytes ≡ 8192 → logged (groups log) page ≡ Some bytes → (q : ℕ) → (page ≡ q → ⊥) → IsInArea log old q → IsInArea log new q
there_more {bytes = bytes} {old = old} {new = new} log page written long held q other before some =
    let was = before some in
    let w : length new ≡ max (length old) (8192 * page + length bytes) = written.long in
    let torn : Torn (8192 * page) 8192 old new = subst (λ (n : ℕ). Torn (8192 * page) n old new) long (written_torn written) in
    let apart : (8192 * q + 8192 ≤ 8192 * page) ⊎ (8192 * page + 8192 ≤ 8192 * q) =
    elim (less_or_not q page) [
      | inl below ↦ inl (omega (arith, below))
      | inr least ↦ elim (less_or_not page q) [ inl above ↦ inr (omega (arith, above)) | inr most ↦ absurd (other (omega (arith, least, most))) ]
    ] in (
      omega (arith, w, was.0),
      was.1 ∙ ap (λ (x : List ℕ). Some x) (sym (torn_apart (8192 * q) 8192 torn was.0 apart)),
    )

there_here : {bytes old new : List ℕ} (log : List ℕ) (page : ℕ) → Written (8192 * page) bytes old new → length bytes ≡ 8192 → logged (groups log) page ≡ Some bytes → IsInArea log new page
there_here {bytes = bytes} {old = old} {new = new} log page written long held some =
    let w : length new ≡ max (length old) (8192 * page + length bytes) = written.long in (
      omega (arith, w, long),
      held ∙ ap (λ (x : List ℕ). Some x) (sym (subst (λ (n : ℕ). take n (drop (8192 * page) new) ≡ bytes) long written.here)),
    )

there_either : {bytes old new : List ℕ} (log : List ℕ) (page : ℕ) → Written (8192 * page) bytes old new → length bytes ≡ 8192 → logged (groups log) page ≡ Some bytes → (q : ℕ) → IsInArea log old q → IsInArea log new q
there_either {new = new} log page written long held q before =
    elim (cases_Bool (page == q)) [
      | inl holds ↦ subst (λ (n : ℕ). IsInArea log new n) (eqb-true page q holds) (there_here log page written long held)
      | inr fails ↦ there_more log page written long held q (eqb-false page q fails) before
    ]

-- These pages of the log stand in the area, where the contents are told.
abbrev Stand : {D : Type 0} → Ghosts D → Places → List (ℕ × Option ℕ) → D → D → Type 0
Stand d places es a c = (was now : Image) → IsLed d places a was → d.contents c ≡ Some now → (now.log ≡ was.log) × AllByRecursion (λ (e : ℕ × Option ℕ). IsInArea was.log now.pages e.0) es

-- what one write of a page did
abbrev MovesTo : {D : Type 0} → Ghosts D → ℕ → Option ℕ → D → D → Type 0
MovesTo d page place b c = (at : ℕ) → place ≡ Some at → (was now : Image) → d.contents b ≡ Some was → d.contents c ≡ Some now → at + 8192 ≤ length was.log → WritesTo Pages (8192 * page) (take 8192 (drop at was.log)) was now

module _ {D : Type 0} {d : Ghosts D} {places : Places} where
  pub moves_none : (a : D) → Moves d places a a
  moves_none a = record {
    goes = none_written;
    images = λ i left was led. subst (λ (j : Image). IsPartlyMoved was j) (sym ((led.settled).only i left)) (partly_self was);
  }

  pub moved_none : (a : D) → HasMoved d places [] a a
  moved_none a = record {
    log = λ was now led told. ap (λ (i : Image). i.log) (some_same (sym told ∙ (led.settled).here));
    there = λ was now led told. tt;
  }

  held : {place : Option ℕ} {a : D} (page : ℕ) → get nat_cmp places page ≡ Some place → (at : ℕ) (was : Image) → place ≡ Some at → IsLed d places a was
      → logged (groups was.log) page ≡ Some (take 8192 (drop at was.log))
  held page here at was is led = led.leads page ∙ ap (λ (o : Option (Option ℕ)). page_at_place o was.log) (here ∙ ap (λ (o : Option ℕ). Some o) is)

  low : {place : Option ℕ} {a : D} (page : ℕ) → get nat_cmp places page ≡ Some place → (at : ℕ) (was : Image) → place ≡ Some at → IsLed d places a was → at + 8192 ≤ length was.log
  low page here at was is led = led.within page at (here ∙ ap (λ (o : Option ℕ). Some o) is)

  torn_more : {place : Option ℕ} {a b : D} {was : Image} (page : ℕ) → get nat_cmp places page ≡ Some place → Moves d places a b → (at : ℕ) → place ≡ Some at → (i : Image)
      → ComesTorn Pages (8192 * page) 8192 (d.may_leave b) i → IsLed d places a was → IsPartlyMoved was i
  torn_more {was = was} page here so_far at is i torn led =
      let t : TearsIn Pages (8192 * page) 8192 torn.0 i = torn.2 in
      moved_more page was torn.0 i (so_far.images torn.0 torn.1 was led) (is_some (logged (groups was.log) page) (held page here at was is led)) t.there t.here

  -- one page more
  pub moves_more : {page : ℕ} {place : Option ℕ} {a b c : D} → get nat_cmp places page ≡ Some place → (place ≡ None → c ≡ b) → ((at : ℕ) → place ≡ Some at → WritesPage d page b c)
      → Moves d places a b → Moves d places a c
  moves_more {page = page} {place = place} {a = a} {c = c} here none writes so_far =
      elim place as (λ o. place ≡ o → Moves d places a c) [
        | None ↦ λ is. subst (λ (x : D). Moves d places a x) (sym (none is)) so_far
        | Some at ↦ λ is.
            let w = writes at is in
            record {
              goes = written_alone_then so_far.goes w.goes (λ told i torn was led. torn_more page here so_far at is i torn led);
              images = λ i left was led. torn_more page here so_far at is i (w.images i left) led;
            }
      ] refl

  moved_some : {es : List (ℕ × Option ℕ)} {page : ℕ} {place : Option ℕ} {a b c : D} → get nat_cmp places page ≡ Some place → ((at : ℕ) → place ≡ Some at → WritesPage d page b c)
      → HasMoved d places es a b → MovesTo d page place b c → (at : ℕ) → place ≡ Some at → Stand d places (es ++ (page, place) ∷ []) a c
  moved_some {es = es} {page = page} {place = place} {b = b} {c = c} here writes done moved at is was now led told =
      let mid = some_of (d.contents b) (((writes at is).goes).told (is_some (d.contents c) told)) in
      let same : (mid.0).log ≡ was.log = done.log was mid.0 led mid.1 in
      let fits : at + 8192 ≤ length was.log = low page here at was is led in
      let w : WritesTo Pages (8192 * page) (take 8192 (drop at was.log)) mid.0 now =
      subst (λ (l : List ℕ). WritesTo Pages (8192 * page) (take 8192 (drop at l)) mid.0 now) same
      (moved at is mid.0 now mid.1 told (subst (λ (l : List ℕ). at + 8192 ≤ length l) (sym same) fits)) in
      let long : length (take 8192 (drop at was.log)) ≡ 8192 = omega (arith, fits, length-take 8192 (drop at was.log), length-drop at was.log) in
      let holds = held page here at was is led in (
        w.there ∙ same,
        all_push (λ (e : ℕ × Option ℕ). IsInArea was.log now.pages e.0) es (page, place)
            (all_weaker (λ (e : ℕ × Option ℕ). IsInArea was.log (mid.0).pages e.0) (λ (e : ℕ × Option ℕ). IsInArea was.log now.pages e.0) es
            (λ e before. there_either was.log page w.here long holds e.0 before) (done.there was mid.0 led mid.1))
            (there_here was.log page w.here long holds),
      )

  moved_nothing : {es : List (ℕ × Option ℕ)} {place : Option ℕ} {a b c : D} (page : ℕ) → get nat_cmp places page ≡ Some place → (place ≡ None → c ≡ b) → HasMoved d places es a b → place ≡ None
      → Stand d places (es ++ (page, place) ∷ []) a c
  moved_nothing {es = es} {place = place} page here none done is was now led told =
      let told_b : d.contents _ ≡ Some now = subst (λ (x : D). d.contents x ≡ Some now) (none is) told in (
        done.log was now led told_b,
        all_push (λ (e : ℕ × Option ℕ). IsInArea was.log now.pages e.0) es (page, place) (done.there was now led told_b)
            (λ some. absurd (
            let lacks : logged (groups was.log) page ≡ None = led.leads page ∙ ap (λ (o : Option (Option ℕ)). page_at_place o was.log) (here ∙ ap (λ (o : Option ℕ). Some o) is) in
            false≢true (subst IsSome lacks some)
            )),
      )

  pub moved_push : {es : List (ℕ × Option ℕ)} {page : ℕ} {place : Option ℕ} {a b c : D} → get nat_cmp places page ≡ Some place → (place ≡ None → c ≡ b)
      → ((at : ℕ) → place ≡ Some at → WritesPage d page b c) → HasMoved d places es a b → MovesTo d page place b c → HasMoved d places (es ++ (page, place) ∷ []) a c
  moved_push {es = es} {page = page} {place = place} {a = a} {c = c} here none writes done moved =
      let stand : Stand d places (es ++ (page, place) ∷ []) a c = elim place as (λ o. place ≡ o → Stand d places (es ++ (page, place) ∷ []) a c) [
        | None ↦ λ is. moved_nothing page here none done is
        | Some at ↦ λ is. moved_some here writes done moved at is
      ] refl in
      record {
        log = λ was now led told. (stand was now led told).0;
        there = λ was now led told. (stand was now led told).1;
      }

no_gate : (log : List ℕ) → get_or log 0 0 ≡ 0 → is_group (take (2 ^ 63) log) ≡ false
no_gate log shut =
    elim (cases_Bool (is_group (take (2 ^ 63) log))) [
      | inr fails ↦ fails
      | inl holds ↦ absurd (
          let gate = (group_says (take (2 ^ 63) log) holds).gate in
          let one : get_or log 0 0 ≡ 1 = sym (get_or-take (2 ^ 63) log 0 0 (omega arith)) ∙ gate in
          omega (arith, one, shut)
          )
    ]

-- a log that has a group begins with an open gate
pub opens : (log : List ℕ) → 0 < end_of (groups log) → (get_or log 0 0 ≡ 1) × (0 < length log)
opens log some =
    elim (cases_Bool (is_group (take (2 ^ 63) log))) [
      | inl holds ↦
          let is = group_says (take (2 ^ 63) log) holds in
          (sym (get_or-take (2 ^ 63) log 0 0 (omega arith)) ∙ is.gate, let w = is.whole in omega (arith, w, length-take (2 ^ 63) log))
      | inr fails ↦ absurd (let none : end_of (groups log) ≡ 0 = ap end_of (groups-none (take (2 ^ 63) log) fails) in omega (arith, some, none))
    ]

place_some : (o : Option (Option ℕ)) (log : List ℕ) → IsSome (page_at_place o log) → (place : Option ℕ) × (o ≡ Some place)
place_some None log some = absurd (false≢true some)
place_some (Some place) log some = (place, refl)

-- the area has every page of the log
pub all_moved : (places : Places) (was now : Image) → LeadsTo (groups was.log) places was.log → now.log ≡ was.log → 0 < end_of (groups was.log)
    → AllByRecursion (λ (e : ℕ × Option ℕ). IsInArea was.log now.pages e.0) places.entries → IsMoved now
all_moved places was now leads same some all =
    let begins = opens now.log (subst (λ (l : List ℕ). 0 < end_of (groups l)) (sym same) some) in
    record {
      opened = begins.0;
      some = begins.1;
      in_area = λ p held.
          let held_was : IsSome (logged (groups was.log) p) = subst (λ (l : List ℕ). IsSome (logged (groups l) p)) same held in
          let place = place_some (get nat_cmp places p) was.log (subst IsSome (leads p) held_was) in
          let there = all_found (IsInArea was.log now.pages) places.entries p place.0 all place.1 held_was in
          page-there now.pages p (let found = some_of (logged (groups was.log) p) held_was in (logged-known was.log p found.0 found.1).low) there.0 ∙ sym there.1 ∙ ap (λ (l : List ℕ). logged (groups l) p) (sym same);
    }

stays_then : (a b c : Image) → Stays (replay a) (replay b) → replay c ≡ replay b → Stays (replay a) (replay c)
stays_then a b c stays same = subst (λ (r : ℕ → Option (List ℕ)). Stays (replay a) r) (sym same) stays

pub moves_goes : {D : Type 0} {d : Ghosts D} {places : Places} {a e : D} → WritesAlone d a e (λ i. (was : Image) → IsLed d places a was → IsPartlyMoved was i)
    → WritesAlone d a e (λ i. (was : Image) → IsLed d places a was → 0 < end_of (groups was.log) → Stays (replay was) (replay i))
moves_goes first = written_alone_weaker first (λ told i partly was led some. moved_stays was i (partly was led))

-- What is durable once the pages are synced: each page of the log stands in the area.
abbrev pub Settles : {D : Type 0} → Ghosts D → Places → D → D → Type 0
Settles d places a c = (was now : Image) → IsLed d places a was → 0 < end_of (groups was.log) → d.contents c ≡ Some now → IsSettled d c now × IsMoved now × Stays (replay was) (replay now)

module _ {D : Type 0} {d : Ghosts D} {places : Places} where
  pub synced_goes : {a b c : D} → Moves d places a b → WritesAlone d b c (d.may_leave b) → WritesAlone d a c (λ i. (was : Image) → IsLed d places a was → IsPartlyMoved was i)
  synced_goes moves goes = written_alone_then moves.goes goes (λ told i left was led. moves.images i left was led)

  pub settled_moved : {a b c : D} → Moves d places a b → HasMoved d places places.entries a b → ((x : D) (i : Image) → d.contents x ≡ Some i → d.may_leave x i)
      → ((i : Image) → d.may_leave c i → d.may_leave b i) → ((now : Image) → d.contents c ≡ Some now → (d.contents b ≡ Some now) × ((i : Image) → d.may_leave c i → i.pages ≡ now.pages))
      → Settles d places a c
  settled_moved {b = b} moves moved may_stay images durable was now led some told =
      let done = durable now told in
      let same : now.log ≡ was.log = moved.log was now led done.0 in (
        record { here = told; only = λ i left. image_same i now (done.1 i left) ((moves.images i (images i left) was led).log ∙ sym same) },
        all_moved places was now led.leads same some (moved.there was now led done.0),
        moved_stays was now (moves.images now (may_stay b now done.0) was led),
      )

  pub emptied_goes : {a b c e : D} → Moves d places a b → WritesAlone d b c (d.may_leave b) → Settles d places a c → WritesAlone d c e (ComesTorn Log 0 1 (d.may_leave c))
      → WritesAlone d a e (λ i. (was : Image) → IsLed d places a was → 0 < end_of (groups was.log) → Stays (replay was) (replay i))
  emptied_goes {c = c} moves goes settles gate = written_alone_then (moves_goes (synced_goes moves goes)) gate (λ told i torn was led some.
      let mid = some_of (d.contents c) (gate.told told) in
      let done = settles was mid.0 led some mid.1 in
      let t : TearsIn Log 0 1 mid.0 i = from_settled Log 0 1 done.0 torn in
      stays_then was mid.0 i done.2 (closed_torn mid.0 i done.1 t.there t.here))

  pub emptied : {a c e : D} {was now : Image} → Settles d places a c → (IsSome (d.contents e) → IsSome (d.contents c)) → IsLed d places a was → 0 < end_of (groups was.log) → d.contents e ≡ Some now
      → ((was : Image) → IsSettled d c was → 0 ≤ length was.log → (now : Image) → d.contents e ≡ Some now → WritesTo Log 0 (0 ∷ []) was now × IsSettled d e now)
      → IsSettled d e now × Stays (replay was) (replay now) × IsLogEnd 0 true now.log
  emptied {c = c} {e = e} {was = was} {now = now} settles gate_told led some told written =
      let mid = some_of (d.contents c) (gate_told (is_some (d.contents e) told)) in
      let done = settles was mid.0 led some mid.1 in
      let w = written mid.0 done.0 (omega arith) now told in
      let wt : WritesTo Log 0 (0 ∷ []) mid.0 now = w.0 in
      let t : Torn 0 1 (mid.0).log now.log = written_torn wt.here in
      let first = first_of_rest 0 0 now.log _ (at_written 0 (0 ∷ []) (mid.0).log now.log wt.here) in
      let none : groups now.log ≡ [] = groups-none (take (2 ^ 63) now.log) (no_gate now.log first.0) in (
        w.1,
        stays_then was mid.0 now done.2 (closed_torn mid.0 now done.1 wt.there t),
        record { here = sym (ap end_of none); closed = λ h. (first.1, rw first.0 refl); opened = λ h. absurd (false≢true (sym h)) },
      )
