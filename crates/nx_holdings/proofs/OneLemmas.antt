-- Sound pages hold one thing.
use Rattle.std.proofs.Common.{◌≡◌, ℕ, ◌+◌, ◌-◌, ◌<◌, ◌≤◌, List, [], length, Option, Some, None, refl, sym, ap, subst, ◌∙◌, arith, inl, inr}
use Rattle.std.specs.Prelude.{◌==◌, if◌then◌else◌, slice_index}
use Rattle.std.specs.Option.{is_some}
use Rattle.nx_replay.specs.Log.{Pages}
use Rattle.nx_chain.specs.Chain.{chain_bytes}
use Rattle.nx_holdings.specs.declared.header.Header.{Header}
use Rattle.nx_holdings.specs.Header.{header_bytes, IsHeader, IsInRange}
use Rattle.nx_holdings.specs.Holdings.{times, named, free_bytes, list_at, pages_at, pages_of_links, pages_of_chains, Held, HoldsBy, Holds}
use Rattle.nx_holdings.proofs.HeaderLemmas.{says_settings, says_fields}
use Rattle.nx_holdings.proofs.TimesLemmas.{chain_there, free_there}
use Rattle.nx_holdings.proofs.SharedLemmas.{some_or, named_parts}
use Rattle.nx_holdings.proofs.DenseLemmas.{among_here, use_of, Use, header, free, chained, unused, there_below}
use Rattle.nx_holdings.proofs.ChainLemmas.{IsNumber, AreNumbers, Names, same_bytes, firsts_of, firsts_and_rests, first_or_named, named_is_rest, list_of_first, no_list, no_pages, one_begins, one_begins_on, one_free}

-- a header is one, by its bytes

pub one_header : (one other : Header) → IsInRange one → IsInRange other → header_bytes one ≡ header_bytes other → one ≡ other
one_header one other range range_too same =
    let a : IsHeader (header_bytes one) one = record { are = refl; range = range } in
    let b : IsHeader (header_bytes one) other = record { are = same; range = range_too } in
    let settings : one.settings ≡ other.settings = sym (says_settings one (header_bytes one) a) ∙ says_settings other (header_bytes one) b in
    sym (says_fields one (header_bytes one) a one.settings refl) ∙ says_fields other (header_bytes one) b one.settings settings

-- the first byte of a page says which it is

pub first_of_chain : (next : ℕ) (content : List ℕ) → slice_index (chain_bytes next content) 0 ≡ 2
unfolding chain_bytes
first_of_chain next content = refl

pub first_of_free : (next : ℕ) → slice_index (free_bytes next) 0 ≡ 0
unfolding free_bytes
first_of_free next = refl

first_of_header : (h : Header) → slice_index (header_bytes h) 0 ≡ 78
unfolding header_bytes
first_of_header h = refl

kind : (next : ℕ) (content bytes : List ℕ) (page : Option (List ℕ)) → page ≡ Some (chain_bytes next content) → page ≡ Some bytes → slice_index bytes 0 ≡ 2
kind next content bytes page is there = ap (λ (r : List ℕ). slice_index r 0) (same_bytes bytes (chain_bytes next content) page there is) ∙ first_of_chain next content

module _ {pages : Pages} {head : Header} {held : Held} (by : HoldsBy pages head held) where
  abbrev named_times : ℕ → ℕ
  named_times p = times p (named by.behind.shares [])

  pub counted : (p : ℕ) → times p (by.behind.shares).free + times p (pages_of_chains (by.behind.shares).chains) ≤ named_times p
  counted p = let parts = named_parts p by.behind.shares [] in omega (arith, parts)

  header_counted : (p : ℕ) → p ≡ 0 → 1 + (times p (by.behind.shares).free + times p (pages_of_chains (by.behind.shares).chains)) ≤ named_times p
  header_counted p same = let parts = named_parts p by.behind.shares [] in let here = among_here p 0 [] same in omega (arith, parts, here)

  -- a page that is named, but for the header, may be named by another page
  named_number : (p : ℕ) → 1 ≤ times p (by.behind.shares).free + times p (pages_of_chains (by.behind.shares).chains) → IsNumber p
  named_number p among =
      let count = counted p in
      let below : p < head.pages = by.behind.shared.below p (omega (arith, count, among)) in
      let few : head.pages ≤ head.settings.limit = by.range.pages.1 in
      let limit : head.settings.limit ≤ 16777216 = by.range.settings.limit.1 in
      record {
        some = elim (some_or p) [
          | inr none ↦ absurd (let first = header_counted p none in let once = by.behind.shared.once p in omega (arith, first, once, among))
          | inl some ↦ some
        ];
        low = omega arith;
      }

  pub free_numbers : AreNumbers (by.behind.shares).free
  free_numbers p among = named_number p (omega (arith, among))

  pub chain_numbers : AreNumbers (pages_of_chains (by.behind.shares).chains)
  chain_numbers p among = named_number p (omega (arith, among))

  named_is_chained : (p next : ℕ) (content : List ℕ) → pages p ≡ Some (chain_bytes next content) → Use by.behind.shares [] p → 1 ≤ times p (pages_of_chains (by.behind.shares).chains)
  named_is_chained p next content is (header same) =
      let two = kind next content (header_bytes head) (pages p) is (ap pages same ∙ by.here) in
      let other = first_of_header head in
      absurd (omega (arith, two, other))
  named_is_chained p next content is (free among) =
      let there = free_there pages head.free (by.behind.shares).free p by.behind.shared.free among in
      let two = kind next content (free_bytes there.0) (pages p) is there.1 in
      let other = first_of_free there.0 in
      absurd (omega (arith, two, other))
  named_is_chained p next content is (chained among) = among
  named_is_chained p next content is (unused among) = absurd (omega (arith, among))

  -- each chain page is of a chain
  pub chain_is_chained : (p next : ℕ) (content : List ℕ) → pages p ≡ Some (chain_bytes next content) → 1 ≤ times p (pages_of_chains (by.behind.shares).chains)
  chain_is_chained p next content is = elim (some_or (named_times p)) [
    | inr none ↦
        let used = by.behind.shared.slotted p (there_below by p (ap is_some is)) none in
        let two = kind next content used.bytes (pages p) is used.there in
        let one = used.slotted.headed.kind in
        absurd (omega (arith, two, one))
    | inl some ↦ named_is_chained p next content is (use_of by.behind.shares [] p some)
  ]

module _ {pages : Pages} {head : Header} {one other : Held} (a : HoldsBy pages head one) (b : HoldsBy pages head other) where
  -- no chain page names the first page of a chain
  named_not_first : (p : ℕ) → 1 ≤ times p (firsts_of (a.behind.shares).chains) → ((page : ℕ) × (content : List ℕ) × Names pages page p content) → ⊥
  named_not_first p first by =
      let there = chain_is_chained a by.0 p by.1 by.2.there in
      let halves = firsts_and_rests p (a.behind.shares).chains in
      let some = (chain_numbers a p (omega (arith, first, halves))).some in
      let rest = named_is_rest (a.behind.shares).chains a.behind.shared.chains (chain_numbers a) by.2 some there in
      let count = counted a p in
      let once = a.behind.shared.once p in
      absurd (omega (arith, first, halves, rest, count, once))

  -- so a first page by one account is first by the other
  first_stays : (p : ℕ) → 1 ≤ times p (firsts_of (a.behind.shares).chains) → 1 ≤ times p (firsts_of (b.behind.shares).chains)
  first_stays p first =
      let halves = firsts_and_rests p (a.behind.shares).chains in
      let there = chain_there pages (a.behind.shares).chains p a.behind.shared.chains (omega (arith, first, halves)) in
      let there_too = chain_is_chained b p there.0 there.1.0 there.1.1 in
      elim (first_or_named pages (b.behind.shares).chains p b.behind.shared.chains (chain_numbers b) there_too) [
        | inl first_too ↦ first_too
        | inr by ↦ absurd (named_not_first p first by)
      ]

module _ {pages : Pages} {head : Header} {one other : Held} (a : HoldsBy pages head one) (b : HoldsBy pages head other) where
  one_list : (p : ℕ) → list_at (a.behind.shares).chains p ≡ list_at (b.behind.shares).chains p
  one_list p = elim (some_or (times p (firsts_of (a.behind.shares).chains))) [
    | inr none ↦ no_list (a.behind.shares).chains p none ∙ sym (no_list (b.behind.shares).chains p (elim (some_or (times p (firsts_of (b.behind.shares).chains))) [
      | inr none_too ↦ none_too
      | inl first ↦ absurd (let back = first_stays b a p first in omega (arith, none, back))
    ]))
    | inl first ↦
        let x = list_of_first pages (a.behind.shares).chains p a.behind.shared.chains (chain_numbers a) first in
        let y = list_of_first pages (b.behind.shares).chains p b.behind.shared.chains (chain_numbers b) (first_stays a b p first) in
        x.1 ∙ ap (λ (bytes : List ℕ). Some bytes) (one_begins x.2.0 y.2.0) ∙ sym y.1
  ]

  one_pages : (p : ℕ) → pages_at (a.behind.shares).chains p ≡ pages_at (b.behind.shares).chains p
  one_pages p = elim (some_or (times p (firsts_of (a.behind.shares).chains))) [
    | inr none ↦ no_pages (a.behind.shares).chains p none ∙ sym (no_pages (b.behind.shares).chains p (elim (some_or (times p (firsts_of (b.behind.shares).chains))) [
      | inr none_too ↦ none_too
      | inl first ↦ absurd (let back = first_stays b a p first in omega (arith, none, back))
    ]))
    | inl first ↦
        let x = list_of_first pages (a.behind.shares).chains p a.behind.shared.chains (chain_numbers a) first in
        let y = list_of_first pages (b.behind.shares).chains p b.behind.shared.chains (chain_numbers b) (first_stays a b p first) in
        x.2.1 ∙ one_begins_on x.2.0 y.2.0 ∙ sym y.2.1
  ]

  one_length_of_free : length (a.behind.shares).free ≡ length (b.behind.shares).free
  one_length_of_free =
      ap (λ (ps : List ℕ). length ps)
      (one_free pages head.free (a.behind.shares).free (b.behind.shares).free a.behind.shared.free b.behind.shared.free (free_numbers a) (free_numbers b))

  one_held : one ≡ other
  one_held =
      let settings : one.settings ≡ other.settings = a.behind.settings ∙ sym b.behind.settings in
      let records : (page slot : ℕ) → one.records page slot ≡ other.records page slot = λ page slot. a.behind.records page slot ∙ sym (b.behind.records page slot) in
      let lists : (page : ℕ) → one.lists page ≡ other.lists page =
      λ page. a.behind.lists page ∙ ap (λ (list : Option (List ℕ)). if page == head.catalog then None else list) (one_list page) ∙ sym (b.behind.lists page) in
      let bytes : one.catalog.bytes ≡ other.catalog.bytes =
      same_bytes one.catalog.bytes other.catalog.bytes (list_at (a.behind.shares).chains head.catalog) a.behind.catalog (one_list head.catalog ∙ b.behind.catalog) in
      let on : one.catalog.pages ≡ other.catalog.pages = sym a.behind.catalog_pages ∙ one_pages head.catalog ∙ b.behind.catalog_pages in
      let free : one.free ≡ other.free = a.behind.free ∙ ap (λ (n : ℕ). n + (head.settings.limit - head.pages)) one_length_of_free ∙ sym b.behind.free in
      λ i. record { settings = settings i; records = λ page slot. records page slot i; lists = λ page. lists page i; catalog = record { bytes = bytes i; pages = on i }; free = free i }

-- Pages hold one thing at most.
pub hold_one : (pages : Pages) (one other : Held) → Holds pages one → Holds pages other → one ≡ other
hold_one pages one other a b =
    let same : b.0 ≡ a.0 = one_header b.0 a.0 b.1.range a.1.range (same_bytes (header_bytes b.0) (header_bytes a.0) (pages 0) b.1.here a.1.here) in
    one_held a.1 (subst (λ (h : Header). HoldsBy pages h other) same b.1)
