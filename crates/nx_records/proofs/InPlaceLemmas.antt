-- What is read of a chain while its pages get other bytes, whatever the pages are.
use Rattle.std.proofs.Common.{◌≡◌, ℕ, ◌≤◌, List, length, refl, sym, ap, subst, ◌∙◌, inl, inr, Some}
use Rattle.std.proofs.lemmas.Bool.{cases_eq}
use Rattle.nx_host.specs.Disk.{Image}
use Rattle.nx_replay.specs.Log.{Pages}
use Rattle.nx_chain.specs.Chain.{chain_bytes}
use Rattle.nx_wal.specs.Wal.{current}
use Rattle.nx_holdings.specs.declared.header.Header.{Header}
use Rattle.nx_holdings.specs.Holdings.{with_page}
use Rattle.nx_holdings.proofs.TimesLemmas.{with_page-here, with_page-other}
use Rattle.nx_holdings.proofs.ChainLemmas.{Names, one_next, one_content}
use Rattle.nx_records.specs.declared.records.Records.{Records}
use Rattle.nx_records.specs.Room.{TakesNoPage}
use Rattle.nx_records.specs.Chains.{HasLink, KeepsLinks, SetsLink}
use Rattle.nx_records.proofs.ChainLemmas.{names_of}
use Rattle.nx_records.proofs.RewritingLemmas.{put_seen}

-- no page is taken where the header keeps its first free page and its number of pages
pub takes_none_then : (r0 r1 r2 : Records) → TakesNoPage r0 r1 → TakesNoPage r1 r2 → TakesNoPage r0 r2
takes_none_then r0 r1 r2 one two = (two.0 ∙ one.0, two.1 ∙ one.1)

pub set_takes_none : {page : ℕ} (next : ℕ) {had content : List ℕ} {r1 r2 : Records} → SetsLink page next had content r1 r2 → TakesNoPage r1 r2
set_takes_none next (inl same) = (ap (λ (r : Records). r.head.free) same.1, ap (λ (r : Records). r.head.pages) same.1)
set_takes_none next (inr other) = let put = other.1 in (ap (λ (h : Header). h.free) put.head, ap (λ (h : Header). h.pages) put.head)

pub kept_then : {a b c : Pages} → KeepsLinks a b → KeepsLinks b c → KeepsLinks a c
kept_then one two page next content has =
    let mid = two page next content has in
    let was = one page next mid.0 mid.1 in
    (was.0, was.1, was.2 ∙ mid.2)

-- A chain page that got other bytes, as many as it had, is the chain page that it was.
pub set_keeps_links : {page next : ℕ} {had content : List ℕ} {r1 r2 : Records} (was : Image) → HasLink (current r1.wal was) page next had → SetsLink page next had content r1 r2
    → 1 ≤ length content → length content ≤ 8184 → length had ≡ length content → KeepsLinks (current r1.wal was) (current r2.wal was)
set_keeps_links was has (inl same) some few long p n c is = (c, subst (λ (r : Records). HasLink (current r.wal was) p n c) same.1 is, refl)
set_keeps_links {page = page} {next = next} {had = had} {content = content} {r1 = r1} {r2 = r2} was has (inr other) some few long p n c is = elim (cases_eq p page) [
  | inl here ↦
      let there : current r2.wal was p ≡ Some (chain_bytes next content) =
      seen p ∙ ap (λ (q : ℕ). with_page (current r1.wal was) page (chain_bytes next content) q) here ∙ with_page-here (current r1.wal was) page (chain_bytes next content) in
      let names : Names (current r2.wal was) p next content = record { there = there; low = ((has.link).is).low; some = some; few = few } in
      let next_is : next ≡ n = one_next names (names_of is.link) in
      let content_is : content ≡ c = one_content names (names_of is.link) in
      let before : HasLink (current r1.wal was) page n had = subst (λ (m : ℕ). HasLink (current r1.wal was) page m had) next_is has in
      (had, subst (λ (q : ℕ). HasLink (current r1.wal was) q n had) (sym here) before, long ∙ ap length content_is)
  | inr apart ↦
      let stays = seen p ∙ with_page-other (current r1.wal was) page (chain_bytes next content) p apart in
      (c, record { link = record { bytes = (is.link).bytes; there = sym stays ∙ (is.link).there; is = (is.link).is }; full = is.full }, refl)
]
  where
    seen : (q : ℕ) → current r2.wal was q ≡ with_page (current r1.wal was) page (chain_bytes next content) q
    seen q = ap (λ (f : Pages). f q) (put_seen other.1 was)
