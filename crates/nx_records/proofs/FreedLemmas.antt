-- What is read of a chain while its pages are given back, whatever the pages are.
use Rattle.std.proofs.Common.{◌≡◌, ◌≢◌, ℕ, List, sym, ap, subst, ◌∙◌, arith, inl, inr, Option, None}
use Rattle.std.proofs.lemmas.Bool.{cases_eq}
use Rattle.std.specs.Prelude.{MatchOption, slice_index}
use Rattle.nx_replay.specs.Log.{Pages}
use Rattle.nx_chain.specs.Chain.{chain_bytes}
use Rattle.nx_holdings.specs.declared.header.Header.{Header}
use Rattle.nx_holdings.specs.Holdings.{with_page, free_bytes, Held, HoldsBy}
use Rattle.nx_holdings.proofs.TimesLemmas.{with_page-here, with_page-other}
use Rattle.nx_holdings.proofs.OneLemmas.{first_of_chain, first_of_free}
use Rattle.nx_links.specs.Lists.{IsNamed}
use Rattle.nx_records.specs.Changes.{HasListFrom}
use Rattle.nx_records.specs.Chains.{AddsNoLink}
use Rattle.nx_records.proofs.ChainLemmas.{list_read}
use Rattle.nx_records.proofs.RefusalLemmas.{some_same}

-- a free page is no chain page
pub freed_no_link : (pages : Pages) (page free : ℕ) → AddsNoLink pages (with_page pages page (free_bytes free))
freed_no_link pages page free p next content has = elim (cases_eq p page) [
  | inl here ↦
      let bytes : free_bytes free ≡ chain_bytes next content =
      some_same (sym (ap (λ (q : ℕ). with_page pages page (free_bytes free) q) here ∙ with_page-here pages page (free_bytes free)) ∙ (has.link).there) ∙ ((has.link).is).are in
      let zero : 0 ≡ 2 = sym (first_of_free free) ∙ ap (λ (b : List ℕ). slice_index b 0) bytes ∙ first_of_chain next content in
      absurd (omega (arith, zero))
  | inr apart ↦
      record {
        link = record { bytes = (has.link).bytes; there = sym (with_page-other pages page (free_bytes free) p apart) ∙ (has.link).there; is = (has.link).is };
        full = has.full;
      }
]

pub links_then : {a b c : Pages} → AddsNoLink a b → AddsNoLink b c → AddsNoLink a c
links_then one two page next content has = one page next content (two page next content has)

-- pages from one on that isn't the first of a list are named by another
pub list_behind : {pages : Pages} {head : Header} {held : Held} (by : HoldsBy pages head held) (first len : ℕ) → first ≢ head.catalog → len ≢ 0 → HasListFrom head.pages pages first len → held.lists first ≡ None
    → IsNamed pages first
list_behind {pages = pages} by first len other some list none =
    subst (λ (o : Option (List ℕ)). MatchOption o (IsNamed pages first) (λ there. list.0 ≡ there)) none (list_read by first list.0 other (λ zero. some (sym list.1 ∙ zero)) list.2)
