-- Where a new record finds room.
use Rattle.std.proofs.Common.{◌≡◌, ℕ, ◌<◌, ◌≤◌, List, sym, ap, subst, ◌∙◌, arith, Bool, true, inl, inr, Option, Some}
use Rattle.std.proofs.lemmas.Bool.{cases_Bool, eqb-true, eq-eqb, lt-ltb}
use Rattle.std.specs.Prelude.{◌≢◌, ◌==◌, nat_lt, if◌then◌else◌}
use Rattle.std.specs.Option.{option_or}
use Rattle.nx_host.specs.Disk.{Image}
use Rattle.nx_host.specs.declared.disk.Disk.{Ghosts}
use Rattle.nx_slots.specs.declared.page.SlotsError.{SlotsError}
use Rattle.nx_slots.specs.declared.page.SlotsError.TheVariants.{NoRoom}
use Rattle.nx_slots.specs.Slots.{slots_of}
use Rattle.nx_slots.specs.Edits.{free_in, needed_for}
use Rattle.nx_slots.specs.Refusals.{LacksRoom}
use Rattle.nx_replay.specs.Log.{Pages, replay}
use Rattle.nx_wal.specs.declared.wal.Wal.{Wal}
use Rattle.nx_wal.specs.Wal.{PutsRecord, current}
use Rattle.nx_holdings.specs.declared.header.Header.{Header}
use Rattle.nx_records.specs.declared.records.Records.{Records}
use Rattle.nx_records.specs.declared.error.StoreError.{StoreError}
use Rattle.nx_records.specs.declared.error.StoreError.TheVariants as error
use Rattle.nx_records.specs.Records.{has_free_by}
use Rattle.nx_records.specs.Pages.{numbered, NotFound, NotTaken}
use Rattle.nx_records.specs.Room.{FitsRoom, TakesNoPage}
use Rattle.nx_records.proofs.RefusalLemmas.{some_same}

-- a page of the free list is free
pub first_is_free : (h : Header) → h.free ≢ 0 → has_free_by h ≡ true
first_is_free h some = elim (cases_Bool (h.free == 0)) [
  | inl holds ↦ absurd (some (eqb-true h.free 0 holds))
  | inr fails ↦ ap (λ (b : Bool). if b then nat_lt h.pages h.settings.limit else true) fails
]

-- and one that was never used
pub unused_is_free : (h : Header) → h.free ≡ 0 → h.pages < h.settings.limit → has_free_by h ≡ true
unused_is_free h none low = ap (λ (b : Bool). if b then nat_lt h.pages h.settings.limit else true) (eq-eqb h.free 0 none) ∙ lt-ltb h.pages h.settings.limit low

-- a page that lacks the room doesn't fit
lacks_fits : (slots : List (Option (List ℕ))) (wanted : ℕ) (e : SlotsError) → LacksRoom slots wanted e → wanted ≤ free_in slots → ⊥
lacks_fits slots wanted (NoRoom needed free) lacks fits =
    let same = lacks.0 in
    let is = lacks.1 in
    let few = lacks.2 in
    omega (arith, same, is, few, fits)

pub lacks_no_fit : {pages : Pages} {head : Header} {bytes page : List ℕ} (e : SlotsError) → pages head.room ≡ Some page → LacksRoom (slots_of page) (needed_for (slots_of page) bytes) e → FitsRoom pages head bytes → ⊥
lacks_no_fit {bytes = bytes} {page = page} e there lacks fits =
    lacks_fits (slots_of page) (needed_for (slots_of page) bytes) e lacks
    (subst (λ (p : List ℕ). needed_for (slots_of p) bytes ≤ free_in (slots_of p)) (some_same (sym fits.there ∙ there)) fits.fits)

-- a record that went into the room page while that waits fitted there
pub waited_fits : {bytes : List ℕ} {slot : ℕ} (old new : Wal) (head : Header) → head.room ≢ 0 → PutsRecord head.room bytes slot old new → (was : Image) → FitsRoom (current old was) head bytes
waited_fits old new head some put was = record {
  some = some;
  page = put.was;
  there = ap (λ (o : Option (List ℕ)). option_or o (replay was head.room)) put.waited;
  slotted = (put.puts).slotted_before;
  fits = ((put.puts).put).room;
}

-- the header was numbered alone
pub takes_then : (r0 r1 r2 : Records) (number : ℕ) → TakesNoPage r0 r1 → r2.head ≡ numbered number r1.head → TakesNoPage r0 r2
takes_then r0 r1 r2 number takes head = (ap (λ (h : Header). h.free) head ∙ takes.0, ap (λ (h : Header). h.pages) head ∙ takes.1)

-- pages are read and taken without memory
pub found_memory : {D Q : Type 0} (d : Ghosts D) (P : Pages → Type 0) (named : ℕ) (r0 r1 : Records) (x0 x1 : D) (e : StoreError) → NotFound d P named e r0 r1 x0 x1 → e ≡ error.Memory → Q
found_memory d P named r0 r1 x0 x1 e refused is = absurd (subst (λ (x : StoreError). NotFound d P named x r0 r1 x0 x1) is refused)

pub taken_memory : {D Q : Type 0} (d : Ghosts D) (named : ℕ) (r0 r1 : Records) (x0 x1 : D) (e : StoreError) → NotTaken d named e r0 r1 x0 x1 → e ≡ error.Memory → Q
taken_memory d named r0 r1 x0 x1 e refused is = absurd (subst (λ (x : StoreError). NotTaken d named x r0 r1 x0 x1) is refused)
