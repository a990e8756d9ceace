-- What a log and its disk stand for, from what was read.
use Rattle.std.proofs.Common.{◌≡◌, ◌⊎◌, ℕ, ◌+◌, ◌^◌, ◌<◌, ◌≤◌, List, [], ◌∷◌, length, take, Bool, refl, sym, ap, subst, ◌∙◌, arith, inl, inr}
use Rattle.std.proofs.Common.{cond, get_or, drop}
use Rattle.std.proofs.lemmas.Bool.{cases_Bool}
use Rattle.std.specs.Prelude.{Option, Some, None, ◌==◌, if◌then◌else◌, is_some, slice_get}
use Rattle.std.proofs.lemmas.List.{length-map, get_or_default}
use Rattle.std.specs.Prelude.{All}
use Rattle.std.specs.List.Sorted.{IsStrictlySortedBy}
use Rattle.std.specs.Map.{lookup, keys_of}
use Rattle.std.specs.BTreeMap.{BTreeMap, get, is_at}
use Rattle.std.specs.Ordering.{nat_cmp}
use Rattle.nx_wal.proofs.PageLemmas.{pending_found, pending_none, pending_page}
use Rattle.nx_host.specs.Disk.{Image}
use Rattle.nx_host.specs.declared.disk.Disk.{Ghosts}
use Rattle.nx_host.specs.Still.{WritesAlone}
use Rattle.nx_host.proofs.DiskLemmas.{written_alone_weaker}
use Rattle.std.specs.Option.{option_or, option_map}
use Rattle.nx_replay.specs.Log.{Group, entry_pages, replay, groups, group_of, is_group, logged, end_of, Stays, IsLogEnd, HasSame, HasGroup, HasMark}
use Rattle.nx_replay.specs.Commit.{IsOpened, IsBody}
use Rattle.nx_replay.proofs.ReplayLemmas.{logged-more}
use Rattle.nx_wal.specs.declared.wal.Wal.{Wal}
use Rattle.nx_wal.specs.declared.error.WalError.{WalError}
use Rattle.nx_wal.specs.declared.error.WalError.TheVariants.{Disk, Exists, NotAStore, Ended, Memory}
use Rattle.nx_wal.specs.declared.reading.End.{End}
use Rattle.nx_wal.specs.Reading.{IsRead, IsNotOpened, StandsAt, usable}
use Rattle.nx_wal.specs.Places.{Kept, Places, page_at_place, AreWithin, LeadsTo, Notes, starts_from}
use Rattle.nx_wal.specs.Writing.{entries_of, body_of}
use Rattle.nx_wal.specs.Wal.{Follows, IsInStep, NoLogOpened, pending, next_group}
use Rattle.nx_wal.proofs.WaitingLemmas.{waiting_few, waiting_group, place_same}
use Rattle.nx_wal.specs.Moving.{IsLed}
use Rattle.nx_wal.proofs.ReadingLemmas.{leads_none, none_within, some_same, at_number, starts_count, indexed}
use Rattle.nx_wal.proofs.WritingLemmas.{end_fits}

pub not_opened : {D : Type 0} (d : Ghosts D) (e : WalError) (old new : D) → IsNotOpened e (d.faults old) (d.faults new) ((was : Image) → d.contents old ≡ Some was → HasMark (replay was) → ⊥)
    → NoLogOpened d e old new
not_opened d Disk old new h = h
not_opened d Exists old new h = h
not_opened d NotAStore old new h = λ was settled has. h was settled.here has
not_opened d Ended old new h = h
not_opened d Memory old new h = tt

-- what was read is followed
pub follows_read : (wal : Wal) (end : End) (log : List ℕ) → wal.end ≡ end.at → wal.shut ≡ end.shut → IsRead wal.places wal.starts.items end log → Follows wal log
follows_read wal end log at shut read = record {
  at = rw (at, shut) read.at;
  leads = read.leads;
  within = rw at read.within;
  starts = read.begun;
}

-- A checkpoint.

pub led : {D : Type 0} (d : Ghosts D) (wal : Wal) (disk : D) (was : Image) → IsInStep d wal disk was → IsLed d wal.places disk was
led d wal disk was step = record {
  settled = step.settled;
  leads = (step.follows).leads;
  within = λ p at is. let fits = end_fits wal.end wal.shut was.log (step.follows).at in let low = (step.follows).within p at is in omega (arith, fits, low);
}

pub some_group : {D : Type 0} (d : Ghosts D) (wal : Wal) (disk : D) (was : Image) → IsInStep d wal disk was → 0 < wal.end → 0 < end_of (groups was.log)
some_group d wal disk was step some = let here : wal.end ≡ end_of (groups was.log) = ((step.follows).at).here in omega (arith, some, here)

pub ended_none : (gs : List Group) → end_of gs ≡ 0 → gs ≡ []
ended_none [] is = refl
ended_none (g ∷ gs) is = absurd (omega (arith, is))

pub stays_self : (i : Image) → Stays (replay i) (replay i)
stays_self i = record { each = λ p some. refl; dense = λ all. refl }

-- an empty log is followed with no places
pub follows_none : (wal : Wal) (log : List ℕ) → wal.places.entries ≡ [] → wal.starts.items ≡ [] → wal.end ≡ 0 → IsLogEnd 0 wal.shut log → Follows wal log
follows_none wal log none none_begun at ends =
    let gs : groups log ≡ [] = ended_none (groups log) (sym ends.here) in
    record {
      at = rw at ends;
      leads = λ p. ap (λ (gs : List Group). logged gs p) gs ∙ leads_none wal.places log none p;
      within = none_within wal.end wal.places none;
      starts = none_begun ∙ ap (λ (gs : List Group). starts_from 0 gs) (sym gs);
    }

pub checkpoint_goes : {D : Type 0} (d : Ghosts D) (wal : Wal) (a b : D) → 0 < wal.end
    → WritesAlone d a b (λ i. (was : Image) → IsLed d wal.places a was → 0 < end_of (groups was.log) → Stays (replay was) (replay i))
    → WritesAlone d a b (λ i. (was : Image) → IsInStep d wal a was → Stays (replay was) (replay i))
checkpoint_goes d wal a b some goes = written_alone_weaker goes (λ told i stays was step. stays was (led d wal a was step) (some_group d wal a was step some))

pub checkpoint_none : {D : Type 0} (d : Ghosts D) (wal : Wal) (a : D) (was now : Image) → wal.end ≡ 0 → IsInStep d wal a was → d.contents a ≡ Some now
    → IsInStep d wal a now × Stays (replay was) (replay now) × (groups now.log ≡ [])
checkpoint_none d wal a was now none step told =
    let same : was ≡ now = some_same (sym ((step.settled).here) ∙ told) in
    subst (λ (i : Image). IsInStep d wal a i × Stays (replay was) (replay i) × (groups i.log ≡ [])) same (
      step,
      stays_self was,
      ended_none (groups was.log) (sym (((step.follows).at).here) ∙ none),
    )

-- A put.

pub follows_same : (old new : Wal) (log : List ℕ) → new.end ≡ old.end → new.shut ≡ old.shut → new.starts.items ≡ old.starts.items
    → ((q : ℕ) (l : List ℕ) → page_at_place (get nat_cmp new.places q) l ≡ page_at_place (get nat_cmp old.places q) l)
    → ((limit : ℕ) → AreWithin limit old.places → AreWithin limit new.places) → Follows old log → Follows new log
follows_same old new log ends shut starts leads within follows = record {
  starts = starts ∙ follows.starts;
  at = rw (ends, shut) follows.at;
  leads = λ p. follows.leads p ∙ sym (leads p log);
  within = rw ends (within old.end follows.within);
}

pub option_cases : {T : Type 0} (o : Option T) → (o ≡ None) ⊎ ((x : T) × (o ≡ Some x))
option_cases None = inl refl
option_cases (Some x) = inr (x, refl)

-- the page that waits, in its room
pub kept_of : (es : List (ℕ × Kept)) (p : ℕ) (page : List ℕ) → entry_pages (entries_of es) p ≡ Some page
    → (kept : Kept) × (lookup (is_at (nat_cmp p)) es ≡ Some kept) × (kept.value.bytes ≡ page)
kept_of es p page waits = elim (option_cases (lookup (is_at (nat_cmp p)) es)) [
  | inl none ↦ absurd (let lost : None ≡ Some page = sym (pending_none es p none) ∙ waits in cc)
  | inr some ↦ (some.0, some.1, some_same (sym (pending_found es p some.0 some.1) ∙ waits))
]

pub put_at : (old new : BTreeMap ℕ Kept) (page : ℕ) (kept : Kept)
    → ((q : ℕ) → get nat_cmp new q ≡ cond (is_at (nat_cmp page) q) (Some kept) (get nat_cmp old q)) → (p : ℕ)
    → entry_pages (entries_of new.entries) p ≡ option_or (entry_pages (record { page = page; bytes = kept.value.bytes } ∷ []) p) (entry_pages (entries_of old.entries) p)
put_at old new page kept updates p =
    let right = λ (b : Bool). option_or (if b then Some kept.value.bytes else None) (entry_pages (entries_of old.entries) p) in
    elim (cases_Bool (p == page)) [
      | inl holds ↦
          let here : get nat_cmp new p ≡ Some kept = updates p ∙ ap (λ (b : Bool). cond b (Some kept) (get nat_cmp old p)) (at_number page p ∙ holds) in
          pending_found new.entries p kept here ∙ sym (ap right holds)
      | inr fails ↦
          let there : get nat_cmp new p ≡ get nat_cmp old p = updates p ∙ ap (λ (b : Bool). cond b (Some kept) (get nat_cmp old p)) (at_number page p ∙ fails) in
          elim (option_cases (get nat_cmp old p)) [
            | inl none ↦ pending_none new.entries p (there ∙ none) ∙ sym (ap right fails ∙ pending_none old.entries p none)
            | inr some ↦ pending_found new.entries p some.0 (there ∙ some.1) ∙ sym (ap right fails ∙ pending_found old.entries p some.0 some.1)
          ]
    ]

pub some_waits : (es : List (ℕ × Kept)) (p : ℕ) (b : Kept) → lookup (is_at (nat_cmp p)) es ≡ Some b → entries_of es ≡ [] → ⊥
some_waits [] p b found none = let lost : None ≡ Some b = found in absurd (cc)
some_waits (e ∷ es) p b found none = omega (arith, ap length none)

map_some : {A B : Type 0} (f : A → B) (o : Option A) → is_some (option_map f o) ≡ is_some o
map_some f None = refl
map_some f (Some x) = refl

-- how many pages wait
pub count_more : (old new : List (ℕ × Kept)) (p : ℕ) → length new ≡ length old + (if is_some (lookup (is_at (nat_cmp p)) old) then 0 else 1)
    → length (entries_of new) ≡ length (entries_of old) + (if is_some (entry_pages (entries_of old) p) then 0 else 1)
count_more old new p counted =
    let more = λ (b : Bool). (if b then 0 else 1) in
    let now : length (entries_of new) ≡ length new = simp length-map in
    let before : length (entries_of old) ≡ length old = simp length-map in
    let same : is_some (entry_pages (entries_of old) p) ≡ is_some (lookup (is_at (nat_cmp p)) old) =
    ap (λ (o : Option (List ℕ)). is_some o) (pending_page old p) ∙ map_some (λ (kept : Kept). kept.value.bytes) (lookup (is_at (nat_cmp p)) old) in
    now ∙ counted ∙ ap (λ (b : Bool). length old + more b) (sym same) ∙ ap (λ (n : ℕ). n + more (is_some (entry_pages (entries_of old) p))) (sym before)

-- A group by its index.

pub record IsGroupAt (wal : Wal) (index : ℕ) (log : List ℕ) : Type 0 where
  pub stands : StandsAt (get_or wal.starts.items index 0) log
  pub group : slice_get (groups log) index ≡ Some (group_of (drop (get_or wal.starts.items index 0) (usable log)))

pub group_at : (wal : Wal) (index : ℕ) (log : List ℕ) → Follows wal log → index < length wal.starts.items → IsGroupAt wal index log
group_at wal index log follows below =
    let bytes = usable log in
    let count : length wal.starts.items ≡ length (groups log) = ap (λ (ns : List ℕ). length ns) follows.starts ∙ starts_count 0 (groups log) in
    let found = indexed (length bytes) bytes (omega arith) 0 index (omega (arith, below, count)) in
    let at : found.at ≡ get_or wal.starts.items index 0 =
    (let h = found.begins in let e : found.at ≡ get_or (starts_from 0 (groups log)) index 0 = omega (arith, h) in e) ∙ ap (λ (ns : List ℕ). get_or ns index 0) (sym follows.starts) in
    record {
      stands = record { group = ap (λ (n : ℕ). is_group (drop n bytes)) (sym at) ∙ found.is };
      group = found.group ∙ ap (λ (n : ℕ). Some (group_of (drop n bytes))) at;
    }

-- ... by where it is said to begin
pub record IsGroupFrom (at index : ℕ) (log : List ℕ) : Type 0 where
  pub stands : StandsAt at log
  pub group : slice_get (groups log) index ≡ Some (group_of (drop at (usable log)))

pub group_from : (wal : Wal) (at index : ℕ) (log : List ℕ) → Follows wal log → index < length wal.starts.items → at ≡ get_or wal.starts.items index at → IsGroupFrom at index log
group_from wal at index log follows below said =
    let here : at ≡ get_or wal.starts.items index 0 = said ∙ get_or_default wal.starts.items index at 0 below in
    let is = group_at wal index log follows below in
    record {
      stands = subst (λ (n : ℕ). StandsAt n log) (sym here) is.stands;
      group = is.group ∙ ap (λ (n : ℕ). Some (group_of (drop n (usable log)))) (sym here);
    }

-- how many pages it has
pub group_there : {at index : ℕ} {log : List ℕ} (g : Group) → IsGroupFrom at index log → slice_get (groups log) index ≡ Some g → group_of (drop at (usable log)) ≡ g
group_there g is there = some_same (sym is.group ∙ there)

pub group_long : {at index : ℕ} {log : List ℕ} (g : Group) → IsGroupFrom at index log → slice_get (groups log) index ≡ Some g
    → length (group_of (drop at (usable log))).entries ≡ length g.entries
group_long g is there = ap (λ (x : Group). length x.entries) (group_there g is there)

pub group_counted : (wal : Wal) (log : List ℕ) → Follows wal log → length wal.starts.items ≡ length (groups log)
group_counted wal log follows = ap (λ (ns : List ℕ). length ns) follows.starts ∙ starts_count 0 (groups log)

-- A commit.

module _ (wal : Wal) (ordered : IsStrictlySortedBy nat_cmp (keys_of wal.waiting.pages.entries)) where
  low_keys : All (λ k. k < 16777216) (keys_of wal.waiting.pages.entries)
  low_keys k d within = (wal.numbers k d within).0

  pub few_wait : length wal.waiting.pages.entries ≤ 16777216
  few_wait = waiting_few wal.waiting.pages.entries ordered low_keys

  -- what waits is a group that can be written at the log's end
  pub next_body : (number : ℕ) → number < 2 ^ 64 → wal.end ≤ 2 ^ 62 → (pending wal ≡ [] → ⊥) → IsBody (next_group number wal) wal.end (body_of number wal.waiting.pages.entries)
  next_body number fits room some =
      let few : length wal.waiting.pages.entries ≤ 16777216 = few_wait in
      let count : length (entries_of wal.waiting.pages.entries) ≡ length wal.waiting.pages.entries = simp length-map in
      record {
        whole = waiting_group wal.waiting.pages.entries ordered low_keys number fits some wal.waiting.whole;
        bytes = refl;
        low = omega (arith, few, count, room);
      }

pub opened_step : {D : Type 0} {d : Ghosts D} {wal : Wal} {a : D} {was : Image} → wal.end ≤ 2 ^ 62 → IsInStep d wal a was → IsOpened d wal.end wal.shut a was
opened_step room step = record { settled = step.settled; at = (step.follows).at; low = omega (arith, room) }

pub commit_goes : {D : Type 0} (d : Ghosts D) (wal : Wal) (number : ℕ) (a b : D) → wal.end ≤ 2 ^ 62 → IsBody (next_group number wal) wal.end (body_of number wal.waiting.pages.entries)
    → WritesAlone d a b (λ i. (was : Image) (g : Group) → IsOpened d wal.end wal.shut a was → IsBody g wal.end (body_of number wal.waiting.pages.entries) → HasSame was i ⊎ HasGroup g was i)
    → WritesAlone d a b (λ i. (was : Image) → IsInStep d wal a was → HasSame was i ⊎ HasGroup (next_group number wal) was i)
commit_goes d wal number a b room body goes = written_alone_weaker goes (λ told i outcome was step. outcome was (next_group number wal) (opened_step room step) body)

-- the places lead to the pages of one group more
pub leads_more : {wal : Wal} {was now : Image} (number : ℕ) (new : Places) → Follows wal was.log → HasGroup (next_group number wal) was now → take wal.end now.log ≡ take wal.end was.log
    → Notes (pending wal) now.log wal.places new → LeadsTo (groups now.log) new now.log
leads_more {wal = wal} {was = was} {now = now} number new follows more prefix notes p =
    ap (λ (gs : List Group). logged gs p) more.log ∙ ap (λ (f : ℕ → Option (List ℕ)). f p) (logged-more (groups was.log) (next_group number wal))
    ∙ ap (λ (o : Option (List ℕ)). option_or (entry_pages (pending wal) p) o)
    (follows.leads p ∙ place_same (get nat_cmp wal.places p) wal.end was.log now.log (λ at is. follows.within p at is) prefix)
    ∙ sym (notes p)
