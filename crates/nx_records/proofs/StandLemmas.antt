-- What records stand for after pages were put.
use Rattle.std.proofs.Common.{◌≡◌, ◌⊎◌, ℕ, ◌<◌, List, [], ◌∷◌, refl, sym, ap, subst, ◌∙◌, Bool, true, false, inl, inr}
use Rattle.std.proofs.Props.{props}
use Rattle.std.proofs.lemmas.Bool.{cases_Bool, cases_eq, eqb-true, eq-eqb}
use Rattle.std.specs.Prelude.{◌==◌, ◌≢◌, if◌then◌else◌, ◌^◌, Option, Some, None, Result, Ok, Err, OnOk, IfOk, IfErr, IfSome, IfNone}
use Rattle.std.specs.Option.{option_or}
use Rattle.nx_host.specs.Disk.{Image}
use Rattle.nx_host.specs.declared.disk.Disk.{Ghosts}
use Rattle.nx_host.specs.Still.{IsStill, IsSettled, WritesAlone}
use Rattle.nx_host.proofs.DiskLemmas.{settled_still, written_alone_weaker}
use Rattle.nx_replay.specs.Log.{Pages, Entry, over, entry_pages, replay, groups, HasGroup, HasSame, Stays}
use Rattle.nx_replay.proofs.ReplayLemmas.{over-over, replay-more, replay-same}
use Rattle.nx_wal.specs.declared.wal.Wal.{Wal}
use Rattle.nx_wal.specs.Wal.{IsInStep, Follows, PutsRecord, ClearsRecord, current, pending, next_group, length_of, wal_ended}
use Rattle.nx_holdings.specs.declared.header.Header.{Header}
use Rattle.nx_holdings.specs.Header.{header_bytes, newest_format, IsInRange}
use Rattle.nx_holdings.specs.Holdings.{with_page, Held, OnPages, HoldsBehind, HoldsBy, Holds}
use Rattle.nx_holdings.proofs.TimesLemmas.{with_page-other}
use Rattle.nx_holdings.proofs.HeldLemmas.{holds_all, holds_numbered, holds_dense}
use Rattle.nx_records.specs.declared.records.Records.{Records}
use Rattle.nx_records.specs.Records.{has_ended, next_number, AreKnown, KeepsKnown, HasSaved, StandsFor, KeepsSaved, KeepsLog, ComesTo}
use Rattle.nx_records.specs.Numbering.{number_behind, IsNextHeader}
use Rattle.nx_records.specs.Pages.{numbered, released, SeesSo, StepsTo}

-- what waits is laid over the pages that are there
pub put_current : (old new : Wal) (page : ℕ) (bytes : List ℕ) → entry_pages (pending new) ≡ over (entry_pages (record { page = page; bytes = bytes } ∷ [])) (entry_pages (pending old))
    → (was : Image) → current new was ≡ with_page (current old was) page bytes
put_current old new page bytes put was =
    ap (λ (top : Pages). over top (replay was)) put ∙ over-over (entry_pages (record { page = page; bytes = bytes } ∷ [])) (entry_pages (pending old)) (replay was)
    ∙ (λ i p. one_over (p == page) (current old was p) i)
  where
    one_over : (b : Bool) (o : Option (List ℕ)) → option_or (if b then Some bytes else None) o ≡ (if b then Some bytes else o)
    one_over true o = refl
    one_over false o = refl

module _ {D : Type 0} {d : Ghosts D} where
  -- the disk stands in step with an object that follows the same log
  pub step_kept : {r0 r1 : Records} {x0 x1 : D} {was : Image} → KeepsLog r0 r1 → IsStill d x0 x1 → IsInStep d r0.wal x0 was → IsInStep d r1.wal x1 was
  step_kept {was = was} keeps still step = record { settled = settled_still still step.settled; follows = keeps.follows was.log step.follows }

  -- what was saved is kept
  pub saved_kept : {r0 r1 : Records} {x0 x1 : D} → KeepsLog r0 r1 → IsStill d x0 x1 → KeepsSaved d r0 r1 x0 x1
  saved_kept {r0 = r0} {r1 = r1} keeps still saved has = record {
    runs = keeps.runs;
    image = has.image;
    step = step_kept {r0 = r0} {r1 = r1} keeps still has.step;
    holds = subst (λ (h : Header). HoldsBy (replay has.image) h saved) (sym keeps.saved) has.holds;
  }

pub known_then : {a b c : List ℕ} → KeepsKnown a b → KeepsKnown b c → KeepsKnown a c
known_then one (inr none) = inr none
known_then (inl same) (inl same_too) = inl (same_too ∙ same)
known_then (inr none) (inl same) = inr (same ∙ none)

pub forgotten : {a b : List ℕ} → KeepsKnown a b → a ≡ [] → b ≡ []
forgotten (inl same) none = same ∙ none
forgotten (inr none) before = none

pub none_known : {known pages : List ℕ} → known ≡ [] → AreKnown known pages
none_known none some = absurd (some none)

-- what is known of the catalog's pages stays true where they stay
pub known_stays : {a b : List ℕ} (was now : Held) → KeepsKnown a b → now.catalog ≡ was.catalog → AreKnown a was.catalog.pages → AreKnown b now.catalog.pages
known_stays was now (inl same) stays known some = same ∙ known (λ none. some (same ∙ none)) ∙ sym (ap (λ (c : OnPages). c.pages) stays)
known_stays was now (inr none) stays known some = absurd (some none)

pub known_after : {a b : List ℕ} (was now : Held) → KeepsKnown a b → (now.catalog ≡ was.catalog) ⊎ (b ≡ []) → AreKnown a was.catalog.pages → AreKnown b now.catalog.pages
known_after was now keeps (inl stays) known some = known_stays was now keeps stays known some
known_after was now keeps (inr none) known some = absurd (some none)

pub keeps_then : {r0 r1 r2 : Records} → KeepsLog r0 r1 → KeepsLog r1 r2 → KeepsLog r0 r2
keeps_then one two = record {
  runs = two.runs;
  follows = λ log follows. two.follows log (one.follows log follows);
  saved = two.saved ∙ one.saved;
  length_stays = two.length_stays ∙ one.length_stays;
  settings_stay = two.settings_stay ∙ one.settings_stay;
  known = known_then one.known two.known;
}

-- With the header put, what the steps came to is what the records stand for.
module _ {D : Type 0} (d : Ghosts D) (r0 r1 r2 : Records) (x0 x2 : D) (Comes : Held → Held → Type 0) where
  pub steps_lead : KeepsLog r0 r1 → KeepsLog r1 r2 → IsStill d x0 x2 → IsInRange r2.head → r2.head ≡ numbered (next_number r1) r1.head
      → ((was : Image) → current r2.wal was ≡ with_page (current r1.wal was) 0 (header_bytes r2.head)) → StepsTo d r0 r1 x0 Comes
      → ((was now : Held) → Comes was now → now.catalog ≡ was.catalog) ⊎ (r2.catalog_pages ≡ []) → ComesTo d r0 r2 x0 x2 Comes
  unfolding saved_kept
  steps_lead one two still range head pages steps known saved now stands =
      let image = (stands.keeps).image in
      let step = (stands.keeps).step in
      let next = steps image now step (stands.holds).behind in
      let numbered_next : HoldsBehind (current r1.wal image) r2.head next.0 = subst (λ (h : Header). HoldsBehind (current r1.wal image) h next.0) (sym head) (holds_numbered newest_format (next_number r1) next.1) in (
        next.0,
        record {
          keeps = saved_kept {r0 = r0} {r1 = r2} (keeps_then {r0 = r0} {r1 = r1} {r2 = r2} one two) still saved stands.keeps;
          holds = subst (λ (p : Pages). HoldsBy p r2.head next.0) (sym (pages image)) (holds_all range numbered_next);
          known = known_after now next.0 (keeps_then {r0 = r0} {r1 = r1} {r2 = r2} one two).known (elim known [ inl stays ↦ inl (stays now next.0 next.2) | inr none ↦ inr none ]) stands.known;
        },
        next.2,
      )

-- the same log, under another header in memory
pub keeps_under : {r0 r1 q0 q1 : Records} → KeepsLog r0 r1 → q0.wal ≡ r0.wal → q0.saved ≡ r0.saved → q1.wal ≡ r1.wal → q1.saved ≡ r1.saved → q1.ended ≡ r1.ended → q1.head.settings ≡ q0.head.settings → KeepsKnown q0.catalog_pages q1.catalog_pages → KeepsLog q0 q1
keeps_under {r0 = r0} {r1 = r1} {q0 = q0} {q1 = q1} keeps wal0 saved0 wal1 saved1 ended settings known = record {
  settings_stay = settings;
  known = known;
  runs = ended ∙ keeps.runs;
  follows = λ log follows. subst (λ (w : Wal). Follows w log) (sym wal1) (keeps.follows log (subst (λ (w : Wal). Follows w log) wal0 follows));
  saved = saved1 ∙ keeps.saved ∙ sym saved0;
  length_stays = ap (λ (w : Wal). length_of w) wal1 ∙ keeps.length_stays ∙ sym (ap (λ (w : Wal). length_of w) wal0);
}

pub on_ok_then : {T E P Q : Type 0} (r : Result T E) → OnOk r P → (P → Q) → OnOk r Q
on_ok_then (Ok x) is next = next is
on_ok_then (Err e) is next = tt

-- What a step through one page leads to, and what is known of it.
abbrev pub Stores : Records → Header → Records → ℕ → List ℕ → Type 0
Stores r0 base r1 page bytes = (r1.head ≡ numbered (next_number r0) base) × (pending r1.wal ≢ []) × ((was : Image) → current r1.wal was ≡ with_page (current r0.wal was) page bytes)

pub stepped : {D : Type 0} (d : Ghosts D) (r0 r1 : Records) (before : D) {base : Header} (page : ℕ) (bytes : List ℕ) (Comes : Held → Held → Type 0) → Stores r0 base r1 page bytes
    → ((was : Image) (held : Held) → IsInStep d r0.wal before was → HoldsBehind (current r0.wal was) r0.head held
    → (next : Held) × HoldsBehind (with_page (current r0.wal was) page bytes) base next × Comes held next)
    → StepsTo d r0 r1 before Comes
stepped d r0 r1 before {base = base} page bytes Comes stored comes was held step holds =
    let r = comes was held step holds in (
      r.0,
      subst (λ (p : Pages). HoldsBehind p r1.head r.0) (sym (stored.2 was))
          (subst (λ (h : Header). HoldsBehind (with_page (current r0.wal was) page bytes) h r.0) (sym stored.0) (holds_numbered newest_format (next_number r0) r.1)),
      r.2,
    )

-- nothing waits
pub none_over : (base : Pages) → over (entry_pages []) base ≡ base
none_over base = λ i p. base p

pub current_none : (wal : Wal) (was : Image) → pending wal ≡ [] → current wal was ≡ replay was
current_none wal was none = ap (λ (es : List Entry). over (entry_pages es) (replay was)) none ∙ none_over (replay was)

-- At every moment of a commit the disk holds what was saved or what is held now.
pub commit_holds : {D : Type 0} (d : Ghosts D) (r0 : Records) (x0 x1 : D) (number : ℕ)
    → WritesAlone d x0 x1 (λ i. (was : Image) → IsInStep d r0.wal x0 was → HasSame was i ⊎ HasGroup (next_group number r0.wal) was i)
    → WritesAlone d x0 x1 (λ i. (saved now : Held) → StandsFor d r0 x0 saved now → Holds (replay i) saved ⊎ Holds (replay i) now)
commit_holds d r0 x0 x1 number goes = written_alone_weaker goes (λ told i outcome saved now stands.
    let image = (stands.keeps).image in
    elim (outcome image (stands.keeps).step) [
      | inl same ↦ inl (r0.saved, subst (λ (p : Pages). HoldsBy p r0.saved saved) (sym (replay-same image i same)) (stands.keeps).holds)
      | inr more ↦ inr (r0.head, subst (λ (p : Pages). HoldsBy p r0.head now) (sym (replay-more (next_group number r0.wal) image i more)) stands.holds)
    ])

-- After a commit what is held now is saved.
pub commit_stands : {D : Type 0} (d : Ghosts D) (r0 r1 : Records) (x0 x1 : D) (number : ℕ)
    → ((was now : Image) → IsInStep d r0.wal x0 was → d.contents x1 ≡ Some now → IsInStep d r1.wal x1 now × HasGroup (next_group number r0.wal) was now)
    → (pending r1.wal ≡ []) × (has_ended r1 ≡ false) × (r1.saved ≡ r0.head) × (r1.head ≡ r0.head) × (r1.catalog_pages ≡ r0.catalog_pages)
    → (saved now : Held) (image : Image) → StandsFor d r0 x0 saved now → d.contents x1 ≡ Some image → StandsFor d r1 x1 now now
commit_stands d r0 r1 x0 x1 number done is saved now image stands told =
    let was = (stands.keeps).image in
    let o = done was image (stands.keeps).step told in
    let same : replay image ≡ current r0.wal was = replay-more (next_group number r0.wal) was image o.1 in
    let held : HoldsBy (replay image) r0.head now = subst (λ (p : Pages). HoldsBy p r0.head now) (sym same) stands.holds in
    record {
      keeps = record { runs = is.1; image = image; step = o.0; holds = subst (λ (h : Header). HoldsBy (replay image) h now) (sym is.2) held };
      holds = subst (λ (p : Pages). HoldsBy p r1.head now) (sym (current_none r1.wal image is.0)) (subst (λ (h : Header). HoldsBy (replay image) h now) (sym is.3) held);
      known = subst (λ (ps : List ℕ). AreKnown ps now.catalog.pages) (sym is.4) stands.known;
    }

-- At every moment of a checkpoint the disk holds what was saved.
pub checkpoint_holds : {D : Type 0} (d : Ghosts D) (r0 : Records) (x0 x1 : D)
    → WritesAlone d x0 x1 (λ i. (was : Image) → IsInStep d r0.wal x0 was → Stays (replay was) (replay i))
    → WritesAlone d x0 x1 (λ i. (saved : Held) → HasSaved d r0 x0 saved → Holds (replay i) saved)
checkpoint_holds d r0 x0 x1 goes = written_alone_weaker goes (λ told i outcome saved has.
    (r0.saved, subst (λ (p : Pages). HoldsBy p r0.saved saved) (sym ((outcome has.image has.step).dense (holds_dense (has.holds).behind))) has.holds))

pub checkpoint_stands : {D : Type 0} (d : Ghosts D) (r0 r1 : Records) (x0 x1 : D)
    → ((was now : Image) → IsInStep d r0.wal x0 was → d.contents x1 ≡ Some now → IsInStep d r1.wal x1 now × Stays (replay was) (replay now) × (groups now.log ≡ []))
    → (pending r0.wal ≡ []) × (pending r1.wal ≡ []) × (has_ended r1 ≡ false) × (r1.saved ≡ r0.saved) × (r1.head ≡ r0.head) × (r1.catalog_pages ≡ r0.catalog_pages)
    → (saved now : Held) (image : Image) → StandsFor d r0 x0 saved now → d.contents x1 ≡ Some image → StandsFor d r1 x1 saved now
checkpoint_stands d r0 r1 x0 x1 done is saved now image stands told =
    let was = (stands.keeps).image in
    let o = done was image (stands.keeps).step told in
    let same : replay image ≡ replay was = (o.1).dense (holds_dense ((stands.keeps).holds).behind) in
    let here : current r1.wal image ≡ current r0.wal was = current_none r1.wal image is.1 ∙ same ∙ sym (current_none r0.wal was is.0) in
    record {
      keeps = record {
        runs = is.2;
        image = image;
        step = o.0;
        holds = subst (λ (h : Header). HoldsBy (replay image) h saved) (sym is.3) (subst (λ (p : Pages). HoldsBy p r0.saved saved) (sym same) (stands.keeps).holds);
      };
      holds = subst (λ (h : Header). HoldsBy (current r1.wal image) h now) (sym is.4) (subst (λ (p : Pages). HoldsBy p r0.head now) (sym here) stands.holds);
      known = subst (λ (ps : List ℕ). AreKnown ps now.catalog.pages) (sym is.5) stands.known;
    }

-- dropped changes leave what was saved
pub abandon_stands : {D : Type 0} {d : Ghosts D} {r0 r1 : Records} {x : D} {saved : Held} → ((log : List ℕ) → Follows r0.wal log → Follows r1.wal log) → pending r1.wal ≡ []
    → (r1.saved ≡ r0.saved) × (r1.head ≡ r0.saved) → r1.catalog_pages ≡ [] → has_ended r1 ≡ has_ended r0 → HasSaved d r0 x saved → StandsFor d r1 x saved saved
abandon_stands {r0 = r0} {r1 = r1} {saved = saved} follows none heads forgets ended has = record {
  keeps = record {
    runs = ended ∙ has.runs;
    image = has.image;
    step = record { settled = (has.step).settled; follows = follows (has.image).log (has.step).follows };
    holds = subst (λ (h : Header). HoldsBy (replay has.image) h saved) (sym heads.0) has.holds;
  };
  holds = subst (λ (p : Pages). HoldsBy p r1.head saved) (sym (current_none r1.wal has.image none)) (subst (λ (h : Header). HoldsBy (replay has.image) h saved) (sym heads.1) has.holds);
  known = none_known forgets;
}

pub if_ok_then : {T E : Type 0} {P Q : T → Type 0} (r : Result T E) → IfOk r P → ((x : T) → P x → Q x) → IfOk r Q
if_ok_then (Ok x) is next = next x is
if_ok_then (Err e) is next = tt

pub if_err_then : {T E : Type 0} {P Q : E → Type 0} (r : Result T E) → IfErr r P → ((e : E) → P e → Q e) → IfErr r Q
if_err_then (Ok x) is next = tt
if_err_then (Err e) is next = next e is

-- steps of the same records over a disk that was asked alone in between
pub later_steps : {D : Type 0} {d : Ghosts D} {r0 r1 : Records} (r2 : Records) {x0 x1 : D} {Comes : Held → Held → Type 0} → r1 ≡ r0 → IsStill d x0 x1 → StepsTo d r1 r2 x1 Comes → StepsTo d r0 r2 x0 Comes
later_steps {d = d} r2 {x0 = x0} {Comes = Comes} same still steps =
    subst (λ (r : Records). StepsTo d r r2 x0 Comes) same (λ was held step holds. steps was held (record { settled = settled_still still step.settled; follows = step.follows }) holds)

-- fields of a header that may be
pub range_moved : {h : Header} (free room : ℕ) → IsInRange h → free < 2 ^ 32 → room < 2 ^ 32 → IsInRange (record h { free = free; room = room })
range_moved free room range low low_too = record {
  format = range.format;
  settings = range.settings;
  pages = range.pages;
  catalog_length = range.catalog_length;
  pointers = (low, low_too, range.pointers.2);
  number = range.number;
}

-- a header that is the next commit's already
pub numbered_already : (saved head : Header) → IsNextHeader saved head → numbered (number_behind saved.number) head ≡ head
numbered_already saved head next =
    ap (λ (n : ℕ). numbered n head) (sym next.0) ∙ ap (λ (f : ℕ). record head { format = f }) (sym next.1)

-- the header where a page was given back, which was the room page or wasn't
pub released_room : {h1 : Header} (h : Header) (number page : ℕ) → h1 ≡ numbered number h → h1.room ≡ page → record h1 { free = page; room = 0 } ≡ numbered number (released page h)
released_room {h1 = h1} h number page same room =
    let is : (h.room == page) ≡ true = eq-eqb h.room page (sym (ap (λ (x : Header). x.room) same) ∙ room) in
    ap (λ (x : Header). record x { free = page; room = 0 }) same
    ∙ ap (λ (b : Bool). record h { format = newest_format; number = number; free = page; room = if b then 0 else h.room }) (sym is)

pub released_other : {h1 : Header} (h : Header) (number page : ℕ) → h1 ≡ numbered number h → (h1.room ≡ page → ⊥) → record h1 { free = page } ≡ numbered number (released page h)
released_other {h1 = h1} h number page same room =
    let fails : (h.room == page) ≡ false =
    elim (cases_Bool (h.room == page)) [ inl holds ↦ absurd (room (ap (λ (x : Header). x.room) same ∙ eqb-true h.room page holds)) | inr fails ↦ fails ] in
    ap (λ (x : Header). record x { free = page }) same
    ∙ ap (λ (b : Bool). record h { format = newest_format; number = number; free = page; room = if b then 0 else h.room }) (sym fails)

-- over a disk that was asked alone the same is settled, before and after
pub settled_back : {D : Type 0} {d : Ghosts D} {x0 x1 : D} {was : Image} → IsStill d x0 x1 → IsSettled d x1 was → IsSettled d x0 was
settled_back still settled = record { here = sym still.contents_stay ∙ settled.here; only = λ i may. settled.only i ((still.images_stay i).1 may) }

pub sees_later : {D : Type 0} {d : Ghosts D} {r0 r1 : Records} {x0 x1 : D} (P : Pages → Type 0) → r1 ≡ r0 → IsStill d x0 x1 → SeesSo d r0 x0 P → SeesSo d r1 x1 P
sees_later {d = d} {x1 = x1} P same still sees =
    subst (λ (r : Records). SeesSo d r x1 P) (sym same) (λ was step. sees was (record { settled = settled_back still step.settled; follows = step.follows }))

-- a page that waits
pub some_pending : (wal : Wal) (page : ℕ) (bytes : List ℕ) → entry_pages (pending wal) page ≡ Some bytes → pending wal ≢ []
some_pending wal page bytes waits none = let lost : None ≡ Some bytes = sym (ap (λ (es : List Entry). entry_pages es page) none) ∙ waits in cc

-- and that is put once more
pub current_same : (wal : Wal) (page : ℕ) (bytes : List ℕ) → entry_pages (pending wal) page ≡ Some bytes → (was : Image) → current wal was ≡ with_page (current wal was) page bytes
current_same wal page bytes waits was = λ i p. each p i
  where
    each : (p : ℕ) → current wal was p ≡ with_page (current wal was) page bytes p
    each p = elim (cases_Bool (p == page)) [
      | inl holds ↦
          ap (λ (q : ℕ). current wal was q) (eqb-true p page holds) ∙ ap (λ (o : Option (List ℕ)). option_or o (replay was page)) waits
          ∙ sym (ap (λ (b : Bool). if b then Some bytes else current wal was p) holds)
      | inr fails ↦ sym (ap (λ (b : Bool). if b then Some bytes else current wal was p) fails)
    ]

-- A page is put, where the header's page may wait.
module _ (known : Option Header) (old new : Wal) (page : ℕ) (bytes : List ℕ)
    (put : entry_pages (pending new) ≡ over (entry_pages (record { page = page; bytes = bytes } ∷ [])) (entry_pages (pending old))) where
  pub page_waits : entry_pages (pending new) page ≡ Some bytes
  page_waits =
      ap (λ (f : Pages). f page) put
      ∙ ap (λ (b : Bool). option_or (if b then Some bytes else None) (entry_pages (pending old) page)) (eq-eqb page page refl)

  pub all_wait : (p : ℕ) → entry_pages (pending new) p ≡ with_page (entry_pages (pending old)) page bytes p
  all_wait p = ap (λ (f : Pages). f p) put ∙ one_or (p == page) (entry_pages (pending old) p)
    where
      one_or : (b : Bool) (o : Option (List ℕ)) → option_or (if b then Some bytes else None) o ≡ (if b then Some bytes else o)
      one_or true o = refl
      one_or false o = refl

  pub header_stays : (page ≡ 0 → ⊥) → IfSome known (λ h. entry_pages (pending old) 0 ≡ Some (header_bytes h)) → IfSome known (λ h. entry_pages (pending new) 0 ≡ Some (header_bytes h))
  header_stays other waits = stays known waits
    where
      same : entry_pages (pending new) 0 ≡ entry_pages (pending old) 0
      same = all_wait 0 ∙ with_page-other (entry_pages (pending old)) page bytes 0 (λ zero. other (sym zero))

      stays : (o : Option Header) → IfSome o (λ h. entry_pages (pending old) 0 ≡ Some (header_bytes h)) → IfSome o (λ h. entry_pages (pending new) 0 ≡ Some (header_bytes h))
      stays None waits = tt
      stays (Some h) waits = same ∙ waits

  pub header_known : (now : Option Header) → (page ≡ 0 → now ≡ None) → ((page ≡ 0 → ⊥) → now ≡ known)
      → IfSome known (λ h. entry_pages (pending old) 0 ≡ Some (header_bytes h)) → IfSome now (λ h. entry_pages (pending new) 0 ≡ Some (header_bytes h))
  header_known now here elsewhere waits = elim (cases_eq page 0) [
    | inl zero ↦ subst (λ (o : Option Header). IfSome o (λ h. entry_pages (pending new) 0 ≡ Some (header_bytes h))) (sym (here zero)) tt
    | inr other ↦ subst (λ (o : Option Header). IfSome o (λ h. entry_pages (pending new) 0 ≡ Some (header_bytes h))) (sym (elsewhere other)) (header_stays other waits)
  ]

-- a record is put into another page, or nothing is
pub header_beside : (P : Type 0) (known : Option Header) (old new : Wal) (page : ℕ) (bytes : List ℕ) (slot : Option ℕ) → (page ≡ 0 → ⊥) → IfSome slot (λ s. PutsRecord page bytes s old new) → IfNone slot ((new ≡ old) × P)
    → IfSome known (λ h. entry_pages (pending old) 0 ≡ Some (header_bytes h)) → IfSome known (λ h. entry_pages (pending new) 0 ≡ Some (header_bytes h))
header_beside P known old new page bytes (Some slot) other put none waits = header_stays known old new page put.now put.waits other waits
header_beside P known old new page bytes None other put none waits = subst (λ (w : Wal). IfSome known (λ h. entry_pages (pending w) 0 ≡ Some (header_bytes h))) (sym none.0) waits

-- a record is taken out of another page, or none is
pub header_apart : (P : Type 0) (known : Option Header) (old new : Wal) (page slot : ℕ) (done : Bool) → (page ≡ 0 → ⊥) → (done ≡ true → ClearsRecord page slot old new) → (done ≡ false → (new ≡ old) × P)
    → IfSome known (λ h. entry_pages (pending old) 0 ≡ Some (header_bytes h)) → IfSome known (λ h. entry_pages (pending new) 0 ≡ Some (header_bytes h))
header_apart P known old new page slot true other cleared none waits = let clears = cleared refl in header_stays known old new page clears.now clears.waits other waits
header_apart P known old new page slot false other cleared none waits = subst (λ (w : Wal). IfSome known (λ h. entry_pages (pending w) 0 ≡ Some (header_bytes h))) (sym (none refl).0) waits

-- the same records, whose log was asked alone
pub same_wal : (r : Records) (wal : Wal) → wal ≡ r.wal → (saved_range : IsInRange r.saved) (head_range : IsInRange r.head)
    (numbered : pending wal ≢ [] → IsNextHeader r.saved r.head)
    (header_waits : IfSome r.waiting_head (λ h. entry_pages (pending wal) 0 ≡ Some (header_bytes h))) (runs : r.ended ≡ false → wal_ended wal ≡ false)
    → ◌≡◌ {A = Records} (record {
      wal = wal;
      saved = r.saved;
      head = r.head;
      waiting_head = r.waiting_head;
      catalog_pages = r.catalog_pages;
      ended = r.ended;
      spare = r.spare;
      alloc = r.alloc;
      saved_range = saved_range;
      head_range = head_range;
      numbered = numbered;
      header_waits = header_waits;
      runs = runs;
    }) r
same_wal r wal same saved_range head_range numbered header_waits runs =
    subst (λ (w : Wal). (n : pending w ≢ [] → IsNextHeader r.saved r.head)
    (h : IfSome r.waiting_head (λ h. entry_pages (pending w) 0 ≡ Some (header_bytes h))) (k : r.ended ≡ false → wal_ended w ≡ false)
    → ◌≡◌ {A = Records} (record {
      wal = w;
      saved = r.saved;
      head = r.head;
      waiting_head = r.waiting_head;
      catalog_pages = r.catalog_pages;
      ended = r.ended;
      spare = r.spare;
      alloc = r.alloc;
      saved_range = saved_range;
      head_range = head_range;
      numbered = n;
      header_waits = h;
      runs = k;
    }) r)
    (sym same) (λ n h k.
    let one : IsProp (IsInRange r.saved) = hlevel props in
    let two : IsProp (IsInRange r.head) = hlevel props in
    let three : IsProp (pending r.wal ≢ [] → IsNextHeader r.saved r.head) = hlevel props in
    let four : IsProp (IfSome r.waiting_head (λ h. entry_pages (pending r.wal) 0 ≡ Some (header_bytes h))) = hlevel props in
    let five : IsProp (r.ended ≡ false → wal_ended r.wal ≡ false) = hlevel props in
    λ i. record {
      wal = r.wal;
      saved = r.saved;
      head = r.head;
      waiting_head = r.waiting_head;
      catalog_pages = r.catalog_pages;
      ended = r.ended;
      spare = r.spare;
      alloc = r.alloc;
      saved_range = one saved_range r.saved_range i;
      head_range = two head_range r.head_range i;
      numbered = three n r.numbered i;
      header_waits = four h r.header_waits i;
      runs = five k r.runs i;
    }) numbered header_waits runs
