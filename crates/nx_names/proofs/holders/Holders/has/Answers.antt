use Rattle.std.proofs.Common.{rules, ℕ, List, length, ◌∙◌, subst, arith, nat_cmp}
use Rattle.std.specs.List.Sorted.{IsBinarySearchResult, IsSearchInRange}
use Rattle.std.proofs.lemmas.List.Sorted.{answers_always}
use Rattle.nx_layouts.specs.Layout.{RecordPlace}
use Rattle.nx_names.specs.declared.noted.Noted.{Noted}
use Rattle.nx_names.specs.Serials.{noted_key}
use Rattle.nx_names.proofs.HolderLemmas.{stands_where}
use Rattle.nx_names.proofs.holders.Holders.has.Goals as goal

pub returns : goal.returns
returns c =
    let holders = c.args.self.now in
    let place : RecordPlace = record { page = c.args.page; slot = c.args.slot } in
    let searched = c.binary_search_by_key.result in
    let position = c.binary_search_by_key.ensures.position noted_key (answers_always _ _ _ (λ f a r g called. search rules)) in
    let here = subst (λ (rs : List Noted). IsBinarySearchResult (λ y. nat_cmp (noted_key y) c.key_of-key.result) rs searched) c.deref.ensures.value position in
    let bound = subst (λ (rs : List Noted). IsSearchInRange searched (length rs)) c.deref.ensures.value c.binary_search_by_key.ensures.bound in
    c.is_ok.ensures.value
    ∙ stands_where holders.records.items holders.small holders.rise place (omega (arith, c.ranges.slot.fits)) searched
    (subst (λ (k : ℕ). IsBinarySearchResult (λ y. nat_cmp (noted_key y) k) holders.records.items searched) c.key_of-key.ensures here) bound
