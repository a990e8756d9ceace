-- A new store, and one that is opened.
use Rattle.std.proofs.Common.{◌≡◌, ◌⊎◌, ℕ, ◌+◌, ◌-◌, ◌≤◌, List, [], ◌∷◌, ◌++◌, refl, sym, ap, subst, ◌∙◌, arith, Bool, true, false, inl, inr}
use Rattle.std.proofs.Math.ListN.{replicate}
use Rattle.std.proofs.lemmas.Bool.{cases_Bool, false≢true}
use Rattle.std.specs.Prelude.{◌==◌, ◌^◌, min, if◌then◌else◌, Option, Some, None, IsSome}
use Rattle.std.specs.Option.{option_or}
use Rattle.nx_host.specs.Disk.{Image, Rose}
use Rattle.nx_host.specs.declared.disk.Disk.{Ghosts}
use Rattle.nx_host.specs.Still.{IsStill, IsSettled, WritesAlone}
use Rattle.nx_host.proofs.DiskLemmas.{written_alone_then, written_alone_weaker, still_goes}
use Rattle.nx_replay.specs.Log.{Pages, Entry, over, entry_pages, replay, groups, HasGroup, HasSame}
use Rattle.nx_replay.proofs.ReplayLemmas.{nothing-over, replay-more}
use Rattle.nx_chain.specs.Chain.{chain_bytes}
use Rattle.nx_wal.specs.declared.wal.Wal.{Wal}
use Rattle.nx_wal.specs.declared.error.WalError.{WalError}
use Rattle.nx_wal.specs.declared.error.WalError.TheVariants as error
use Rattle.nx_wal.specs.Wal.{IsInStep, Follows, Refused, pending, next_group, wal_ended}
use Rattle.nx_holdings.specs.declared.header.Header.{Header}
use Rattle.nx_holdings.specs.declared.header.Settings.{Settings}
use Rattle.nx_holdings.specs.Header.{header_bytes, IsInRange}
use Rattle.nx_holdings.specs.Holdings.{with_page, times, Chain, Shares, named, list_at, record_in, Held, HoldsBy, Holds}
use Rattle.nx_holdings.proofs.TimesLemmas.{times_other, with_page-other}
use Rattle.nx_holdings.proofs.SharedLemmas.{equal_or}
use Rattle.nx_holdings.proofs.HeldLemmas.{other_record, header_kind, chain_kind}
use Rattle.nx_holdings.proofs.OneLemmas.{one_header}
use Rattle.nx_records.specs.declared.records.Records.{Records}
use Rattle.nx_records.specs.Records.{has_ended, StandsFor}
use Rattle.nx_records.specs.Changes.{nothing_held}
use Rattle.nx_records.specs.First.{first_head, first_pages}
use Rattle.nx_records.specs.Refusals.{IsNewStore}
use Rattle.nx_records.proofs.StandLemmas.{current_none, none_known}

some_is : {x y : List ℕ} → ◌≡◌ {A = Option (List ℕ)} (Some x) (Some y) → x ≡ y
some_is same = cc

-- What is opened stands for what its pages hold.
pub opened_stands : {D : Type 0} {d : Ghosts D} {x : D} {was : Image} {held : Held} (r : Records) → (has_ended r ≡ false) × (pending r.wal ≡ []) × (r.saved ≡ r.head) × (r.catalog_pages ≡ []) → IsInStep d r.wal x was
    → replay was 0 ≡ Some (header_bytes r.head) → IsInRange r.head → Holds (replay was) held → StandsFor d r x held held
opened_stands {d = d} {x = x} {was = was} {held = held} r is step here range holds =
    let same : holds.0 ≡ r.head = one_header holds.0 r.head (holds.1).range range (some_is (sym (holds.1).here ∙ here)) in
    let under : HoldsBy (replay was) r.head held = subst (λ (h : Header). HoldsBy (replay was) h held) same holds.1 in
    record {
      keeps = record { runs = is.0; image = was; step = step; holds = subst (λ (h : Header). HoldsBy (replay was) h held) (sym is.2) under };
      holds = subst (λ (p : Pages). HoldsBy p r.head held) (sym (current_none r.wal was is.1)) under;
      known = none_known is.3;
    }

-- The pages of a new store are sound, and hold nothing.
module _ (settings : Settings) (range : IsInRange (first_head settings)) where
  abbrev head : Header
  head = first_head settings

  abbrev zeros : List ℕ
  zeros = replicate 8 0

  abbrev catalog : Chain
  catalog = record { first = record { page = 1; content = zeros }; rest = [] }

  abbrev shares : Shares
  shares = record { free = []; chains = catalog ∷ [] }

  first_is_header : first_pages head 0 ≡ Some (header_bytes head)
  first_is_header = refl

  catalog_page : first_pages head 1 ≡ Some (chain_bytes 0 zeros)
  catalog_page = refl

  past_page : (p : ℕ) → 2 ≤ p → first_pages head p ≡ None
  past_page p past =
      with_page-other (with_page (λ q. None) 0 (header_bytes head)) 1 (chain_bytes 0 zeros) p (λ same. absurd (omega (arith, same, past)))
      ∙ with_page-other (λ q. None) 0 (header_bytes head) p (λ same. absurd (omega (arith, same, past)))

  counts : (p : ℕ) → ((p ≡ 0) × (times p (named shares []) ≡ 1)) ⊎ ((p ≡ 1) × (times p (named shares []) ≡ 1)) ⊎ ((2 ≤ p) × (times p (named shares []) ≡ 0))
  counts p = elim (equal_or p 0) [
    | inl zero ↦ inl (zero, ap (λ (q : ℕ). times q (0 ∷ 1 ∷ [])) zero)
    | inr some ↦ elim (equal_or p 1) [
      | inl one ↦ inr (inl (one, ap (λ (q : ℕ). times q (0 ∷ 1 ∷ [])) one))
      | inr more ↦ inr (inr (omega (arith, some, more), times_other p 0 (1 ∷ []) some ∙ times_other p 1 [] more))
    ]
  ]

  none_there : (p slot : ℕ) → record_in (first_pages head p) slot ≡ None
  none_there p slot = elim (counts p) [
    | inl zero ↦ ap (λ (q : ℕ). record_in (first_pages head q) slot) zero.0 ∙ other_record (first_pages head) 0 slot (record { bytes = header_bytes head; there = first_is_header; kind = header_kind head })
    | inr rest ↦ elim rest [
      | inl one ↦ ap (λ (q : ℕ). record_in (first_pages head q) slot) one.0 ∙ other_record (first_pages head) 1 slot (record { bytes = chain_bytes 0 zeros; there = catalog_page; kind = chain_kind 0 zeros })
      | inr past ↦ ap (λ (o : Option (List ℕ)). record_in o slot) (past_page p past.0)
    ]
  ]

  pub first_holds : HoldsBy (first_pages head) head (nothing_held settings)
  first_holds = record {
    here = first_is_header;
    range = range;
    behind = record {
      shares = shares;
      header = (head, first_is_header);
      shared = record {
        free = refl;
        chains = ((record { there = catalog_page; some = omega arith; few = omega arith }, λ more. absurd (omega (arith, more)), tt), tt);
        once = λ p. elim (counts p) [ inl zero ↦ (let e = zero.1 in omega (arith, e)) | inr rest ↦ elim rest [ inl one ↦ (let e = one.1 in omega (arith, e)) | inr past ↦ (let e = past.1 in omega (arith, e)) ] ];
        below = λ p some. elim (counts p) [
          | inl zero ↦ (let e = zero.0 in omega (arith, e))
          | inr rest ↦ elim rest [ inl one ↦ (let e = one.0 in omega (arith, e)) | inr past ↦ (let e = past.1 in absurd (omega (arith, e, some))) ]
        ];
        slotted = λ p low none. elim (counts p) [
          | inl zero ↦ (let e = zero.1 in absurd (omega (arith, e, none)))
          | inr rest ↦ elim rest [ inl one ↦ (let e = one.1 in absurd (omega (arith, e, none))) | inr past ↦ (let e = past.0 in absurd (omega (arith, e, low))) ]
        ];
        room = λ some. absurd (some refl);
        none_past = past_page;
      };
      settings = refl;
      records = λ page slot. sym (none_there page slot);
      lists = λ page. only_catalog page;
      catalog = refl;
      catalog_pages = refl;
      catalog_length = refl;
      free = omega arith;
    };
  }
    where
      only_catalog : (page : ℕ) → None ≡ (if page == 1 then None else list_at (catalog ∷ []) page)
      only_catalog page = elim (cases_Bool (page == 1)) [
        | inl holds ↦ sym (ap (λ (b : Bool). if b then None else list_at (catalog ∷ []) page) holds)
        | inr fails ↦ sym (ap (λ (b : Bool). if b then None else (if b then Some (zeros ++ []) else None)) fails)
      ]

-- what waits is laid over pages, of which there are none
pub first_put : (old mid new : Wal) (header : Header) → pending old ≡ [] → entry_pages (pending mid) ≡ over (entry_pages (record { page = 0; bytes = header_bytes header } ∷ [])) (entry_pages (pending old))
    → entry_pages (pending new) ≡ over (entry_pages (record { page = 1; bytes = chain_bytes 0 (replicate 8 0) } ∷ [])) (entry_pages (pending mid)) → entry_pages (pending new) ≡ first_pages header
first_put old mid new header none one two =
    two ∙ ap (λ (p : Pages). over (entry_pages (record { page = 1; bytes = chain_bytes 0 (replicate 8 0) } ∷ [])) p) (one ∙ ap (λ (es : List Entry). over (entry_pages (record { page = 0; bytes = header_bytes header } ∷ [])) (entry_pages es)) none)
    ∙ (λ i p. laid (p == 1) (p == 0) i)
  where
    laid : (a b : Bool) → option_or (if a then Some (chain_bytes 0 (replicate 8 0)) else None) (option_or (if b then Some (header_bytes header) else None) None)
        ≡ (if a then Some (chain_bytes 0 (replicate 8 0)) else (if b then Some (header_bytes header) else None))
    laid true b = refl
    laid false true = refl
    laid false false = refl

-- the image where the first group was written
pub first_replay : {was now : Image} (wal : Wal) (header : Header) (number : ℕ) → ((p : ℕ) → replay was p ≡ None) → entry_pages (pending wal) ≡ first_pages header → HasGroup (next_group number wal) was now
    → replay now ≡ first_pages header
first_replay {was = was} {now = now} wal header number none put more =
    replay-more (next_group number wal) was now more
    ∙ ap (λ (base : Pages). over (entry_pages (pending wal)) base) (λ i p. none p i)
    ∙ nothing-over (entry_pages (pending wal)) ∙ put

pub first_created : {was now : Image} (settings : Settings) (wal : Wal) → IsInRange (first_head settings) → ((p : ℕ) → replay was p ≡ None) → entry_pages (pending wal) ≡ first_pages (first_head settings)
    → HasGroup (next_group 0 wal) was now → IsNewStore settings was now
first_created settings wal range none put more = record {
  none_before = none;
  group = next_group 0 wal;
  number = refl;
  more = more;
  holds = (first_head settings, subst (λ (p : Pages). HoldsBy p (first_head settings) (nothing_held settings)) (sym (first_replay wal (first_head settings) 0 none put more)) (first_holds settings range));
}

module _ {D : Type 0} (d : Ghosts D) (settings : Settings) where
  -- at each moment there is no store, or the new one
  abbrev pub Creates : D → D → Type 0
  Creates x0 x1 = WritesAlone d x0 x1 (λ i. (was : Image) → IsSettled d x0 was → HasSame was i ⊎ IsNewStore settings was i)

  same_image : {was i : Image} → i ≡ was → HasSame was i
  same_image same = record { area = ap (λ (x : Image). x.pages) same; log = ap (λ (x : Image). groups x.log) same }

  pub still_creates : {x0 x1 : D} → IsStill d x0 x1 → Creates x0 x1
  still_creates still = written_alone_weaker (still_goes still) (λ told i may was settled. inl (same_image (settled.only i may)))

  pub commit_creates : {x0 x1 x2 : D} (wal0 wal1 : Wal) → IsInRange (first_head settings) → IsStill d x0 x1
      → ((was : Image) → IsSettled d x0 was → IsInStep d wal0 x1 was × ((p : ℕ) → replay was p ≡ None)) → ((log : List ℕ) → Follows wal0 log → Follows wal1 log)
      → entry_pages (pending wal1) ≡ first_pages (first_head settings)
      → WritesAlone d x1 x2 (λ i. (was : Image) → IsInStep d wal1 x1 was → HasSame was i ⊎ HasGroup (next_group 0 wal1) was i) → Creates x0 x2
  commit_creates wal0 wal1 range still made follows put goes = written_alone_then (still_creates still) goes (λ told i outcome was settled.
      let is = made was settled in
      elim (outcome was (record { settled = (is.0).settled; follows = follows was.log (is.0).follows })) [
        | inl same ↦ inl same
        | inr more ↦ inr (first_created settings wal1 range is.1 put more)
      ])

-- why the first commit gave up
pub commit_rose : {D : Type 0} (d : Ghosts D) (old new : Wal) {x0 x1 x2 : D} (e : WalError) → wal_ended old ≡ false → IsStill d x0 x1 → Refused d e old new x1 x2 → Rose (d.faults x0) (d.faults x2)
commit_rose d old new {x0 = x0} {x1 = x1} {x2 = x2} error.Disk runs still refused =
    let rose : min (d.faults x1 + 1) (2 ^ 64 - 1) ≤ d.faults x2 = refused.0 in
    let later : d.faults x0 ≤ d.faults x1 = still.faults_later in
    omega (arith, rose, later)
commit_rose d old new error.Ended runs still refused = absurd (false≢true (sym runs ∙ refused.0))
commit_rose d old new error.Exists runs still refused = absurd refused
commit_rose d old new error.NotAStore runs still refused = absurd refused
commit_rose d old new error.Memory runs still refused = absurd refused

-- a page is there of which it was read that there is none
pub no_page : {T P : Image → Type 0} {Q : Type 0} → ((was : Image) → P was → T was × ((p : ℕ) → replay was p ≡ None)) → (was : Image) (p : ℕ) → P was → IsSome (replay was p) → Q
no_page made was p is some = absurd (false≢true (subst IsSome ((made was is).1 p) some))
