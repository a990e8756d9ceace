-- A snapshot stands for what the disk stands for.
use Rattle.std.proofs.Common.{◌≡◌, inl, inr, ℕ, ◌+◌, ◌-◌, ◌*◌, ◌^◌, ◌<◌, ◌≤◌, List, [], ◌∷◌, length, take, drop, refl, sym, ap, subst, ◌∙◌, arith, true, false}
use Rattle.std.specs.Prelude.{min, Option, Some, None}
use Rattle.std.specs.Option.{option_or, is_some}
use Rattle.std.proofs.lemmas.Bool.{cases_lt}
use Rattle.std.proofs.lemmas.List.{take_all}
use Rattle.nx_host.specs.Disk.{Image}
use Rattle.nx_host.specs.declared.disk.Disk.{Ghosts}
use Rattle.nx_host.specs.Still.{IsStill, IsSettled}
use Rattle.nx_replay.specs.Log.{Pages, Group, groups, groups_behind, logged, pages_of, replay, HasMark}
use Rattle.nx_replay.proofs.GroupLemmas.{groups-none}
use Rattle.nx_replay.proofs.ReplayLemmas.{logged_none, page-there, page-cases}
use Rattle.nx_replay.proofs.KnownLemmas.{replay-known}
use Rattle.nx_holdings.specs.declared.header.Header.{Header}
use Rattle.nx_holdings.specs.Header.{header_bytes, IsNoHeader}
use Rattle.nx_holdings.proofs.DenseLemmas.{below_there}
use Rattle.nx_holdings.proofs.OneLemmas.{one_header}
use Rattle.nx_wal.specs.Wal.{IsInStep, IsPageCount}
use Rattle.nx_wal.specs.declared.wal.Wal.{Wal}
use Rattle.nx_state.specs.State.{State}
use Rattle.nx_state.specs.Stands.{Stands, Recovers}
use Rattle.nx_records.specs.Records.{HasHeader}
use Rattle.nx_ask.specs.PagesAlone.{pages_alone}
use Rattle.nx_ask.specs.declared.error.AskError.{AskError}
use Rattle.nx_ask.specs.declared.error.AskError.TheVariants as error
use Rattle.nx_ask.specs.Reading.{AreFirstPages, NotCopied}
use Rattle.nx_ask.specs.declared.snapshot.Snapshot.{Snapshot}
use Rattle.nx_ask.specs.Asked.{IsSnapshotOf}
use Rattle.nx_ask.specs.Snapshot.{snapshot_image, SaysPages, HasPagesOf, ReadsPages, HasNoState, NoSnapshot, NoSnapshotOf}
use Rattle.nx_ask.proofs.PageLemmas.{in_step_on, rose_later}

-- an empty log has no groups
no_groups : groups [] ≡ []
no_groups = ap (λ (l : List ℕ). groups_behind 0 l) (take_all (2 ^ 63) [] (omega arith)) ∙ groups-none [] refl

-- the image of pages alone stands for them
pages_stand : (bytes : List ℕ) (p : ℕ) → replay (pages_alone bytes) p ≡ pages_of bytes p
pages_stand bytes p =
    ap (λ (gs : List Group). option_or (logged gs p) (pages_of bytes p)) no_groups
    ∙ ap (λ (o : Option (List ℕ)). option_or o (pages_of bytes p)) (logged_none p)

-- pages one behind the other stand for themselves
pub pages_below : (bytes : List ℕ) (number : ℕ) (was : Image) → AreFirstPages bytes number (replay was) → (p : ℕ) → p < number → replay (pages_alone bytes) p ≡ replay was p
pages_below bytes number was first p below =
    let long : length bytes ≡ 8192 * number = first.long in
    let there = first.each p below in
    let low : p < 16777216 = (replay-known was p (take 8192 (drop (8192 * p) bytes)) there).low in
    pages_stand bytes p ∙ page-there bytes p low (omega (arith, below, long)) ∙ sym there

-- ... and for no page behind them
pub pages_past : (bytes : List ℕ) (number : ℕ) (was : Image) → AreFirstPages bytes number (replay was) → (p : ℕ) → number ≤ p → replay (pages_alone bytes) p ≡ None
pages_past bytes number was first p past =
    let long : length bytes ≡ 8192 * number = first.long in
    elim (page-cases bytes p) [
      | inl there ↦ absurd (let fits : 8192 * p + 8192 ≤ length bytes = there.1 in omega (arith, fits, long, past))
      | inr none ↦ pages_stand bytes p ∙ none
    ]

bytes_are : (x y : List ℕ) (o : Option (List ℕ)) → o ≡ Some x → o ≡ Some y → x ≡ y
bytes_are x y o one other = cc

-- a header says one number
pub says_one : (pages : Pages) (one other : ℕ) → SaysPages one pages → SaysPages other pages → one ≡ other
says_one pages one other first second =
    let same : first.head ≡ second.head = one_header first.head second.head first.range second.range (bytes_are (header_bytes first.head) (header_bytes second.head) (pages 0) first.here second.here) in
    sym first.number_is ∙ ap (λ (h : Header). h.pages) same ∙ second.number_is

-- by the header of a state
state_says : (was : Image) (state : State) (stands : Recovers was (Some state)) (number : ℕ) → SaysPages number (replay was) → ((stands.1).0).pages ≡ number
state_says was state stands number said =
    says_one (replay was) ((stands.1).0).pages number (record { head = (stands.1).0; here = (stands.1).1.here; range = (stands.1).1.range; number_is = refl }) said

-- where a page below the header's number lacks, the pages stand for no state
pub lacks_page : (was : Image) (number page : ℕ) → SaysPages number (replay was) → page < number → replay was page ≡ None → HasNoState was
lacks_page was number page said low lacks state stands =
    let same = state_says was state stands number said in
    let some : is_some (replay was page) ≡ true = below_there (stands.1).1 page (omega (arith, low, same)) in
    let none : is_some (replay was page) ≡ false = ap is_some lacks in cc

-- ... or page 0
pub lacks_first : (was : Image) → replay was 0 ≡ None → HasNoState was
lacks_first was lacks state stands =
    let here : replay was 0 ≡ Some (header_bytes (stands.1).0) = (stands.1).1.here in cc

-- ... and where that is no header
pub lacks_header : (was : Image) (bytes : List ℕ) → replay was 0 ≡ Some bytes → IsNoHeader bytes → HasNoState was
lacks_header was bytes here none state stands =
    none (stands.1).0 (record { are = bytes_are bytes (header_bytes (stands.1).0) (replay was 0) here (stands.1).1.here; range = (stands.1).1.range })

same_at : (snapshot : Snapshot) (was : Image) (state : State) → HasPagesOf snapshot was → Recovers was (Some state) → (p : ℕ) → replay (snapshot_image snapshot) p ≡ replay was p
same_at snapshot was state has stands p =
    let same = state_says was state stands has.number has.said in
    elim (cases_lt p has.number) [
      | inl low ↦ has.below p low
      | inr past ↦ has.none_from p past ∙ sym ((stands.1).1.behind.shared.none_past p (omega (arith, past, same)))
    ]

-- a state hangs on the pages below the header's number alone
pub snapshot_stands : (snapshot : Snapshot) (was : Image) (state : State) → HasPagesOf snapshot was → Recovers was (Some state) → IsSnapshotOf snapshot state
snapshot_stands snapshot was state has stands =
    subst (λ (pages : Pages). Stands pages state) (sym (λ i p. same_at snapshot was state has stands p i)) stands

-- pages have one count
pub counted_once : (pages : Pages) (one other : ℕ) → IsPageCount one pages → IsPageCount other pages → one ≤ other
counted_once pages one other first second = elim (cases_lt other one) [
  | inr high ↦ high
  | inl low ↦
      let some : is_some (pages (one - 1)) ≡ true = first.last (omega (arith, low)) in
      let none : is_some (pages (one - 1)) ≡ false = ap is_some (second.none_from (one - 1) (omega (arith, low))) in
      absurd (let lost : true ≡ false = sym some ∙ none in cc)
]

-- where page 0 is there, they are some
pub counted_some : (pages : Pages) (count : ℕ) → IsPageCount count pages → HasMark pages → 1 ≤ count
counted_some pages count counted marked = elim (cases_lt 0 count) [
  | inl some ↦ some
  | inr none ↦
      let lost : pages 0 ≡ None = counted.none_from 0 none in
      let there : pages 0 ≡ Some marked.0 = marked.1 in
      absurd (cc)
]

-- all pages below the header's number, one behind the other, where none of them is past the greatest
pub has_pages : (snapshot : Snapshot) (number count few : ℕ) (was : Image) → few ≡ min number count → number ≤ count → SaysPages number (replay was)
    → AreFirstPages snapshot.bytes.items few (replay was) → HasPagesOf snapshot was
has_pages snapshot number count few was is all said first =
    let same : few ≡ number = omega (arith, is, all) in
    let whole = subst (λ (n : ℕ). AreFirstPages snapshot.bytes.items n (replay was)) same first in
    record { number = number; said = said; below = pages_below snapshot.bytes.items number was whole; none_from = pages_past snapshot.bytes.items number was whole }

-- no page stands at their count
pub none_behind : (pages : Pages) (count : ℕ) → IsPageCount count pages → pages count ≡ None
none_behind pages count counted = counted.none_from count (omega arith)

pub lesser : (number count few : ℕ) → few ≡ min number count → few ≤ number
lesser number count few is = omega (arith, is)

-- how often pages were read behind page 0
pub reads_behind : (before between after number count few other : ℕ) → between ≡ before → after ≤ between + (few - 1) → few ≡ min number count → count ≤ other → after ≤ before + (other - 1)
reads_behind before between after number count few other same read is le = omega (arith, same, read, is, le)

-- ... and with it
pub reads_pages : (before between after mine : ℕ) (was : Image) → between ≤ before + 1 → after ≤ between + (mine - 1) → SaysPages mine (replay was)
    → ((count : ℕ) → IsPageCount count (replay was) → after ≤ between + (count - 1)) → ReadsPages was before after
reads_pages before between after mine was first few said each = record {
  below = λ number other. (
      let same : mine ≡ number = says_one (replay was) mine number said other in
      let low : 2 ≤ (said.head).pages = ((said.range).pages).0 in
      let is : (said.head).pages ≡ mine = said.number_is in
      omega (arith, first, few, same, low, is));
  there = λ count is. (let read : after ≤ between + (count - 1) = each count is in omega (arith, first, read));
}

marked : (h : Header) → take 8 (header_bytes h) ≡ 78 ∷ 65 ∷ 84 ∷ 73 ∷ 88 ∷ 83 ∷ 84 ∷ 49 ∷ []
unfolding header_bytes
marked h = refl

-- an image that stands for a state has a header
pub state_has_header : (was : Image) (state : State) → Recovers was (Some state) → HasHeader was
state_has_header was state stands = (header_bytes (stands.1).0, (stands.1).1.here, marked (stands.1).0)

module _ {D : Type 0} (d : Ghosts D) where
  -- why no snapshot is kept, by why its pages weren't read
  pub not_kept : (e : AskError) (opened now : Wal) (number count : ℕ) (before between after : D) → IsStill d before between → now ≡ opened → count ≤ number
      → ((was : Image) → IsInStep d opened before was → SaysPages number (replay was)) → NotCopied d e now count between after → NoSnapshotOf d e opened before after
  not_kept error.Disk opened now number count before between after still same few said refused = rose_later (d.faults before) (d.faults between) (d.faults after) still.faults_later refused
  not_kept (error.Damaged page) opened now number count before between after still same few said refused =
      λ was step. lacks_page was number page (said was step) (let low : page < count = refused.0 in omega (arith, low, few)) (refused.1 was (in_step_on still same step))
  not_kept error.Memory opened now number count before between after still same few said refused = tt
  not_kept error.NotAStore opened now number count before between after still same few said refused = refused

  -- ... what was found out over a disk that was asked alone since
  pub not_kept_on : (e : AskError) (opened now : Wal) (before between after : D) → IsStill d before between → now ≡ opened → NoSnapshotOf d e now between after → NoSnapshotOf d e opened before after
  not_kept_on error.Disk opened now before between after still same refused = rose_later (d.faults before) (d.faults between) (d.faults after) still.faults_later refused
  not_kept_on (error.Damaged page) opened now before between after still same refused = λ was step. refused was (in_step_on still same step)
  not_kept_on error.Memory opened now before between after still same refused = tt
  not_kept_on error.NotAStore opened now before between after still same refused = refused

  -- ... and why none is taken
  pub not_taken : (e : AskError) (opened : Wal) (before between after : D) → IsStill d before between → ((was : Image) → IsSettled d before was → IsInStep d opened between was × HasMark (replay was))
      → NoSnapshotOf d e opened between after → NoSnapshot d e before after
  not_taken error.Disk opened before between after still begun refused = rose_later (d.faults before) (d.faults between) (d.faults after) still.faults_later refused
  not_taken (error.Damaged page) opened before between after still begun refused = λ was settled. ((begun was settled).1, refused was (begun was settled).0)
  not_taken error.Memory opened before between after still begun refused = tt
  not_taken error.NotAStore opened before between after still begun refused = absurd refused
