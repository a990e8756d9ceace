-- What a look for a record tells of what is held.
use Rattle.std.proofs.Common.{◌≡◌, ℕ, ◌<◌, ◌≤◌, List, refl, sym, ap, subst, ◌∙◌, arith}
use Rattle.std.specs.Prelude.{Option, None, Some, MatchOption, Result, Ok, Err, IfOk}
use Rattle.std.specs.Option.{option_or}
use Rattle.nx_host.specs.declared.disk.Disk.{Ghosts}
use Rattle.nx_replay.specs.Log.{Pages, entry_pages, replay}
use Rattle.nx_slots.specs.Slots.{slots_of}
use Rattle.nx_wal.specs.Wal.{current, pending}
use Rattle.nx_holdings.specs.declared.header.Header.{Header}
use Rattle.nx_holdings.specs.Holdings.{Held, HoldsBehind}
use Rattle.nx_holdings.proofs.HeldLemmas.{unslotted_none}
use Rattle.nx_records.specs.declared.records.Records.{Records}
use Rattle.nx_records.specs.declared.error.StoreError.{StoreError}
use Rattle.nx_records.specs.declared.error.StoreError.TheVariants as error
use Rattle.nx_records.specs.Records.{StandsFor}
use Rattle.nx_records.specs.Refusals.{EndNow, NotRead}
use Rattle.nx_records.specs.Pages.{PlaceGives, SeesSo, SlotGives}
use Rattle.nx_records.proofs.RefusalLemmas.{none_some, unread_none}
use Rattle.nx_records.proofs.StepLemmas.{page_records}

place_gives : (pages : Pages) (page slot : ℕ) (bytes : List ℕ) (found : Option (List ℕ)) → pages page ≡ Some bytes → SlotGives bytes slot found → PlaceGives pages page slot found
place_gives pages page slot bytes found there gives =
    subst (λ (o : Option (List ℕ)). MatchOption o (found ≡ None) (λ b. SlotGives b slot found)) (sym there) gives

-- the record that is held, where one was found
record_given : {pages : Pages} {h : Header} {held : Held} → HoldsBehind pages h held → (page slot : ℕ) (bytes : List ℕ) (there : Option (List ℕ)) → pages page ≡ there
    → MatchOption there (◌≡◌ {A = Option (List ℕ)} (Some bytes) None) (λ b. SlotGives b slot (Some bytes)) → held.records page slot ≡ Some bytes
record_given holds page slot bytes None is gives = absurd (none_some (sym gives))
record_given holds page slot bytes (Some b) is gives =
    holds.records page slot ∙ page_records holds page (slots_of b) (record { bytes = b; there = is; slotted = gives.0; are = refl }) slot ∙ gives.1

-- and none, where none was
none_given : {pages : Pages} {h : Header} {held : Held} → HoldsBehind pages h held → (page slot : ℕ) (there : Option (List ℕ)) → pages page ≡ there
    → MatchOption there (◌≡◌ {A = Option (List ℕ)} None None) (λ b. SlotGives b slot None) → held.records page slot ≡ None
none_given holds page slot None is gives = unslotted_none holds page slot (λ low bytes there slotted. none_some (sym is ∙ there))
none_given {held = held} holds page slot (Some b) is gives = unread_none holds page slot b is gives (held.records page slot) refl

past_count : (page count : ℕ) → count ≤ page → page < count → ⊥
past_count page count high low = omega arith

module _ {D : Type 0} (d : Ghosts D) (r0 r1 : Records) (x0 x1 : D) (page slot : ℕ) where
  -- after a look into bytes that are the page's
  pub seen_page : (r : Result (Option (List ℕ)) StoreError) (bytes : List ℕ) → r1 ≡ r0 → SeesSo d r0 x0 (λ pages. pages page ≡ Some bytes) → IfOk r (λ found. SlotGives bytes slot found)
      → IfOk r (λ found. (r1 ≡ r0) × SeesSo d r0 x0 (λ pages. PlaceGives pages page slot found))
  seen_page (Err e) bytes same sees gives = tt
  seen_page (Ok found) bytes same sees gives = (same, λ was step. place_gives (current r0.wal was) page slot bytes found (sees was step) gives)

  -- what waits under a number is what stands there
  pub waits_there : (bytes : List ℕ) → Some bytes ≡ entry_pages (pending r0.wal) page → SeesSo d r0 x0 (λ pages. pages page ≡ Some bytes)
  waits_there bytes waits was step = ap (λ (o : Option (List ℕ)). option_or o (replay was page)) (sym waits)

  pub seen_record : (found : Option (List ℕ)) (bytes : List ℕ) → found ≡ Some bytes → SeesSo d r0 x0 (λ pages. PlaceGives pages page slot found)
      → (saved now : Held) → StandsFor d r0 x0 saved now → now.records page slot ≡ Some bytes
  seen_record found bytes is sees saved now stands =
      let image = (stands.keeps).image in
      let pages = current r0.wal image in
      record_given (stands.holds).behind page slot bytes (pages page) refl (subst (λ (o : Option (List ℕ)). PlaceGives pages page slot o) is (sees image (stands.keeps).step))

  -- no record was found
  pub none_damaged : (found : Option (List ℕ)) (named : ℕ) (e : StoreError) → found ≡ None → e ≡ error.Damaged named → EndNow r0 r1 → SeesSo d r0 x0 (λ pages. PlaceGives pages page slot found)
      → NotRead d (λ now. now.records page slot ≡ None) named e r0 r1 x0 x1
  none_damaged found named e is same ends sees = subst (λ (x : StoreError). NotRead d (λ now. now.records page slot ≡ None) named x r0 r1 x0 x1) (sym same) (record {
    page = refl;
    ends = ends;
    lacks = λ saved now stands.
        let image = (stands.keeps).image in
        let pages = current r0.wal image in
        none_given (stands.holds).behind page slot (pages page) refl (subst (λ (o : Option (List ℕ)). PlaceGives pages page slot o) is (sees image (stands.keeps).step));
  })

  -- the header doesn't count the page
  pub past_damaged : (named : ℕ) (e : StoreError) → r0.head.pages ≤ page → e ≡ error.Damaged named → EndNow r0 r1 → NotRead d (λ now. now.records page slot ≡ None) named e r0 r1 x0 x1
  past_damaged named e high same ends = subst (λ (x : StoreError). NotRead d (λ now. now.records page slot ≡ None) named x r0 r1 x0 x1) (sym same) (record {
    page = refl;
    ends = ends;
    lacks = λ saved now stands. unslotted_none (stands.holds).behind page slot (λ low bytes there slotted. past_count page r0.head.pages high low);
  })
